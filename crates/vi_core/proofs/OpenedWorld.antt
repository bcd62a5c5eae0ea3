-- A world as it is built.
use Rattle.std.proofs.Common.{◌≡◌, ◌<◌, ◌+◌, ℕ, zero, suc, Bool, true, false, List, [], ◌∷◌, ◌++◌, length, get_or, map, replicate, refl, arith, ap, ap₂, subst, sym, ◌∙◌}
use Rattle.std.specs.Prelude.{nat_eq, sum_by}
use Rattle.std.specs.List.{range_with_len}
use Rattle.std.proofs.lemmas.Bool.{eqb-true}
use Rattle.std.proofs.lemmas.Bool.Decides.{nat_tests}
use Rattle.std.proofs.lemmas.List.{ext_get_or, length-map, length-append, length-replicate}
use Rattle.std.proofs.Math.ListN.{get_or-append, get_or-map}
use Rattle.std.proofs.Math.Seq.{get_or-append_seam}
use Rattle.std.proofs.lemmas.List.FromFn.{get_or-map-range_with_len}
use Rattle.vi_history.specs.Start.{start, zero_page}
use Rattle.vi_history.specs.declared.entry.Entry.{Entry}
use Rattle.vi_lines.specs.declared.line.Line.{Line}
use Rattle.vi_lines.specs.Value.{ScriptValue}
use Rattle.vi_model.specs.Control.{driver_count}
use Rattle.vi_model.specs.Places.{place_count}
use Rattle.vi_model.specs.Drivers.{no_stand}
use Rattle.vi_model.specs.Backs.{no_seat}
use Rattle.vi_model.specs.Worlds.{World, opening, opening_control}
use Rattle.vi_model.specs.Rounds.{calls_in, calls_of}
use Rattle.vi_model.specs.Playable.{IsPlayable}
use Rattle.vi_model.specs.Sound.{IsSound}
use Rattle.vi_sound.proofs.Laws.{opening_is_sound}
use Rattle.vi_driver.specs.Drivers.{OwnDriver, own_driver}
use Rattle.vi_backend.specs.Own.{Own}
use Rattle.vi_control.specs.Plan.{plan_of}
use Rattle.vi_control.specs.Value.{ControlValue}
use Rattle.vi_core.specs.Histories.{HistoryValue, no_entries}
use Rattle.vi_core.specs.HistoryRoom.{answer_bytes, bytes_of}
use Rattle.vi_core.specs.Running.{Running, opened}
use Rattle.vi_core.specs.Opening.{IsNew, AreNew, IsBuilt}
use Rattle.vi_core.specs.Parts.{Parts, world_of, running, no_driver, no_back, IsDriverOf, IsKept}

zero_pages : (n : ℕ) → replicate n (replicate 4096 0) ≡ replicate n zero_page
unfolding zero_page
zero_pages n = refl

pub memory_is : (s : ScriptValue) → replicate s.setup.memory (replicate 4096 0) ≡ (start s.setup).memory
unfolding start
memory_is s = zero_pages s.setup.memory

no_stands : (s : ScriptValue) → map (λ (d : OwnDriver). d.stand) (map (λ number. own_driver s number no_stand) (range_with_len 0 8)) ≡ replicate driver_count no_stand
no_stands s = refl

no_seats : (s : ScriptValue) (n : ℕ) (bs : List Own) → AreNew s n bs → map (λ (b : Own). b.seat) bs ≡ replicate n no_seat
no_seats s n bs new =
    ext_get_or no_seat (map (λ (b : Own). b.seat) bs) (replicate n no_seat) (length-map bs (λ (b : Own). b.seat) ∙ new.count ∙ sym (length-replicate n no_seat))
    (λ k lt. get_or-map (λ (b : Own). b.seat) bs k no_back
    ∙ (let b : IsNew s k (get_or bs k no_back) = new.each k (let e = length-map bs (λ (b : Own). b.seat) in let m = new.count in omega (arith, e, m, lt)) in b.seat_is)
    ∙ sym (same_everywhere n k))
  where
    same_everywhere : (n k : ℕ) → get_or (replicate n no_seat) k no_seat ≡ no_seat
    same_everywhere zero k = refl
    same_everywhere (suc n) zero = refl
    same_everywhere (suc n) (suc k) = same_everywhere n k

pub opened_world : (p : Parts) → IsBuilt p → world_of p ≡ opening p.script
unfolding opening
opened_world p built =
    ap₂ (λ c h. let w : World = record (world_of p) { control = c; history = h } in w) built.state (ap (λ (h : HistoryValue). h.entries) built.history)
    ∙ ap₂ (λ ds ps. let w : World = record { control = opening_control p.script; stands = map (λ (d : OwnDriver). d.stand) ds; seats = map (λ (b : Own). b.seat) p.backs; pages = ps; history = [] } in w) built.drivers built.pages
    ∙ ap₂ (λ st zs. let w : World = record { control = opening_control p.script; stands = st; seats = zs; pages = (start p.script.setup).memory; history = [] } in w) (no_stands p.script) (no_seats p.script (place_count p.script) p.backs built.backs)

-- it is what it has to be
pub opened_kept : (p : Parts) → IsPlayable p.script → IsBuilt p → IsKept p
opened_kept p playable built = record {
  playable = playable;
  plan = built.plan;
  drivers = λ number below. subst (IsDriverOf p.script number) (sym (ap (λ ds. get_or ds number no_driver) built.drivers ∙ get_or-map-range_with_len (λ n. own_driver p.script n no_stand) 0 8 number number no_driver below (omega arith))) (record { number_is = refl; lines_are = refl });
  backs = λ place below. let b : IsNew p.script place (get_or p.backs place no_back) = built.backs.each place below in record { back = b.back; own = b.own };
  sound = subst (IsSound p.script) (sym (opened_world p built)) (opening_is_sound p.script playable);
  room = record {
    entries =
        let none : length (let h : HistoryValue = p.history in h.entries) ≡ 0 = ap (λ (h : HistoryValue). length h.entries) built.history in
        let all = ap (λ (h : HistoryValue). h.spare_entries) built.history in
        omega (arith, none, all);
    bytes =
        let none : sum_by (λ (e : Entry). length e.bytes) (let h : HistoryValue = p.history in h.entries) ≡ 0 = ap (λ (h : HistoryValue). sum_by (λ (e : Entry). length e.bytes) h.entries) built.history in
        let all = ap (λ (h : HistoryValue). h.spare_bytes) built.history in
        omega (arith, none, all);
  };
}

calls_are : (s : ScriptValue) → sum_by (λ (l : Line). calls_in l) s.lines ≡ calls_of s
unfolding calls_of
calls_are s = refl

bytes_are : (s : ScriptValue) → sum_by (λ (l : Line). answer_bytes l.job) s.lines ≡ bytes_of s
unfolding bytes_of
bytes_are s = refl

-- the parts that were built are a world
pub is_built : (s : ScriptValue) (c : ControlValue) (drivers : List OwnDriver) (backs : List Own) (pages : List (List ℕ)) (h : HistoryValue) (lines again : List Line) (entries bytes memory : ℕ)
    → c.plan ≡ plan_of s → c.state ≡ opening_control s → drivers ≡ map (λ number. own_driver s number no_stand) (range_with_len 0 8) → AreNew s (place_count s) backs
    → memory ≡ s.setup.memory → pages ≡ replicate memory (replicate 4096 0)
    → lines ≡ s.lines → entries ≡ sum_by (λ (l : Line). calls_in l) lines → again ≡ s.lines → bytes ≡ sum_by (λ (l : Line). answer_bytes l.job) again → h ≡ no_entries entries bytes
    → IsBuilt (record { script = s; control = c; drivers = drivers; backs = backs; pages = pages; history = h })
is_built s c drivers backs pages h lines again entries bytes memory plan state ds bs m ps ls es als ys hs = record {
  plan = plan;
  state = state;
  drivers = ds;
  backs = bs;
  pages = ps ∙ ap (λ n. replicate n (replicate 4096 0)) m ∙ memory_is s;
  history = hs ∙ ap₂ no_entries (es ∙ ap (sum_by (λ (l : Line). calls_in l)) ls ∙ calls_are s) (ys ∙ ap (sum_by (λ (l : Line). answer_bytes l.job)) als ∙ bytes_are s);
}

pub opened_running : (p : Parts) → IsBuilt p → running p ≡ opened p.script
opened_running p built = ap (λ w. let r : Running = record { script = p.script; world = w } in r) (opened_world p built)

below_other : (a n : ℕ) → a < n + 1 → nat_eq a n ≡ false → a < n
below_other a n lt e = grind (arith, nat_tests, lt, e)

-- one back end more
pub one_more : (s : ScriptValue) (n : ℕ) (bs : List Own) (b : Own) → AreNew s n bs → IsNew s n b → AreNew s (n + 1) (bs ++ b ∷ [])
one_more s n bs b new one = record {
  count = let e = length-append bs (b ∷ []) in let m = new.count in omega (arith, e, m);
  each = λ place below. go place below (nat_eq place n) refl;
}
  where
    go : (place : ℕ) → place < n + 1 → (f : Bool) → nat_eq place n ≡ f → IsNew s place (get_or (bs ++ b ∷ []) place no_back)
    go place below true e =
        subst (λ k. IsNew s k (get_or (bs ++ b ∷ []) k no_back)) (sym (eqb-true place n e))
        (subst (IsNew s n) (sym (ap (λ k. get_or (bs ++ b ∷ []) k no_back) (sym new.count) ∙ get_or-append_seam bs b [] no_back)) one)
    go place below false e =
        let lt = below_other place n below e in
        let m = new.count in
        subst (IsNew s place) (sym (get_or-append bs (b ∷ []) no_back place (omega (arith, lt, m)))) (new.each place lt)
