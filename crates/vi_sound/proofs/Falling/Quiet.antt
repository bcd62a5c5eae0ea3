-- Where no actor's turn moves, nothing is under way.
use Rattle.std.proofs.Common.{◌≡◌, ◌==◌, ℕ, zero, suc, ◌+◌, ◌≤◌, ◌<◌, Bool, true, false, cond, ◌&&◌, ◌||◌, not, List, [], ◌∷◌, ◌++◌, length, get_or, Option, Some, None, refl, arith, ◌∙◌, ap, sym, ◌⊎◌, inl, inr}
use Rattle.std.specs.Prelude.{nat_lt, is_some}
use Rattle.std.specs.List.{AllByRecursion, find, range_with_len, list_all}
use Rattle.std.proofs.lemmas.Bool.{or_parts, ltb-false, cases_eq, eq-eqb, false≢true}
use Rattle.vi_bytes.specs.declared.span.Span.{Span}
use Rattle.vi_history.specs.declared.call.Caller.TheVariants.{Driver}
use Rattle.vi_lines.specs.Value.{ScriptValue}
use Rattle.vi_lines.specs.Calls.{lines_of}
use Rattle.vi_model.specs.Tasks.{reach_of}
use Rattle.vi_model.specs.Lanes.{Miss, sent_reaches}
use Rattle.vi_model.specs.Removals.{Removal, waits_for, is_ready, awaited_reaches, closed, first_ready}
use Rattle.vi_model.specs.Control.{Queued, Setting, Control, Made, driver_count, port_of, link_of}
use Rattle.vi_model.specs.Places.{place_count, id_at}
use Rattle.vi_model.specs.Serves.{page_of, serve_ack, is_shut}
use Rattle.vi_model.specs.Device.{first_setting, has_frame, first_frame, is_free, first_free, serve_parked, serve_up, start_setting, rule_setting, rule_queue, rule_frame, rule_parked, rule_finish, device_turn}
use Rattle.vi_model.specs.Drivers.{driver_turn}
use Rattle.vi_model.specs.Worlds.{World, stand_of, seat_of}
use Rattle.vi_model.specs.Asking.{one_if, count_option}
use Rattle.vi_model.specs.Held.{IsRemoval, count_queued, count_removals, count_setting, count_line, count_held}
use Rattle.vi_model.specs.Sound.{SoundParts}
use Rattle.vi_sound.proofs.Moves.Holds.{found_below}
use Rattle.vi_sound.proofs.Falling.Stills.{BackStill}

-- ---- what the device finds where it waits

pub record Rests (s : ScriptValue) (c : Control) : Type 0 where
  pub ready : first_ready c.removals ≡ None
  pub parked : first_free s c ≡ None
  pub frame : first_frame s c ≡ None
  pub queue : c.queue ≡ []
  pub setting : first_setting c ≡ None

some_none : {A : Type 0} (x : A) → Some x ≡ None → ⊥
some_none x h = absurd cc

setting_rests : (s : ScriptValue) (c : Control) (o : Option ℕ) → first_setting c ≡ o → rule_setting s c o ≡ None → first_setting c ≡ None
setting_rests s c None e h = e
setting_rests s c (Some j) e h = absurd (go (port_of c j).setting (found_below (λ driver. is_some (port_of c driver).setting) 0 driver_count j e).1 h)
  where
    go : (o : Option Setting) → is_some o ≡ true → start_setting s c j o ≡ None → ⊥
    go None f h = absurd cc
    go (Some x) f h = absurd cc

queue_rests : (s : ScriptValue) (c : Control) (qs : List Queued) → c.queue ≡ qs → rule_queue s c qs ≡ None → (c.queue ≡ []) × (first_setting c ≡ None)
queue_rests s c (q ∷ qs) e h = absurd cc
queue_rests s c [] e h = (e, setting_rests s c (first_setting c) refl h)

frame_rests : (s : ScriptValue) (c : Control) (o : Option ℕ) → first_frame s c ≡ o → rule_frame s c o ≡ None → (first_frame s c ≡ None) × (c.queue ≡ []) × (first_setting c ≡ None)
frame_rests s c None e h = let r = queue_rests s c c.queue refl h in (e, r.0, r.1)
frame_rests s c (Some k) e h = absurd (go (nat_lt 0 (link_of c k).acks) (link_of c k).up (found_below (has_frame c) 0 (place_count s) k e).1 h)
  where
    go : (b : Bool) (ms : List Miss) → (b || nat_lt 0 (length ms)) ≡ true → cond b (Some (let o : Made = record { control = serve_ack c k; entry = None } in o)) (serve_up s c k ms) ≡ None → ⊥
    go true ms f h = absurd cc
    go false [] f h = absurd cc
    go false (m ∷ ms) f h = absurd cc

parked_rests : (s : ScriptValue) (c : Control) (o : Option ℕ) → first_free s c ≡ o → rule_parked s c o ≡ None → (first_free s c ≡ None) × (first_frame s c ≡ None) × (c.queue ≡ []) × (first_setting c ≡ None)
parked_rests s c None e h = let r = frame_rests s c (first_frame s c) refl h in (e, r.0, r.1, r.2)
parked_rests s c (Some k) e h = absurd (go (link_of c k).parked (found_below (λ place. is_free s c place (link_of c place).parked) 0 (place_count s) k e).1 h)
  where
    go : (o : Option Miss) → is_free s c k o ≡ true → serve_parked s c k o ≡ None → ⊥
    go None f h = absurd cc
    go (Some m) f h = absurd cc

pub device_rests : (s : ScriptValue) (c : Control) → device_turn s c ≡ None → Rests s c
unfolding device_turn
device_rests s c h = go (first_ready c.removals) refl h
  where
    go : (o : Option Removal) → first_ready c.removals ≡ o → rule_finish s c o ≡ None → Rests s c
    go None e h = let r = parked_rests s c (first_free s c) refl h in record { ready = e; parked = r.0; frame = r.1; queue = r.2; setting = r.3 }
    go (Some r) e h = absurd cc

find_none : (p : ℕ → Bool) (a n i : ℕ) → find p (range_with_len a n) ≡ None → a ≤ i → i < a + n → p i ≡ false
find_none p a zero i h low high = absurd (omega (arith, low, high))
find_none p a (suc n) i h low high = go (p a) refl h (cases_eq i a) (λ q l. find_none p (a + 1) n i q l (omega (arith, high)))
  where
    go : (b : Bool) → p a ≡ b → cond b (Some a) (find p (range_with_len (a + 1) n)) ≡ None → (i ≡ a) ⊎ (i ≡ a → ⊥) → (find p (range_with_len (a + 1) n) ≡ None → a + 1 ≤ i → p i ≡ false) → p i ≡ false
    go true e h c rest = absurd cc
    go false e h (inl q) rest = ap p q ∙ e
    go false e h (inr ne) rest = rest h (omega (arith, low, ne))

-- ---- the world where no actor moves

pub record Quiet (s : ScriptValue) (w : World) : Type 0 where
  pub sound : SoundParts s w
  pub device : device_turn s w.control ≡ None
  pub backs : (k : ℕ) → k < place_count s → BackStill s w k
  pub drivers : (j : ℕ) → j < driver_count → 0 < length (lines_of s (Driver j)) → driver_turn s w.control j (stand_of w j) ≡ None

pub rests : (s : ScriptValue) (w : World) → Quiet s w → Rests s w.control
rests s w q = device_rests s w.control q.device

frameless : (n : ℕ) (us : List Miss) → (nat_lt 0 n || nat_lt 0 (length us)) ≡ false → (n ≡ 0) × (length us ≡ 0)
frameless n us h = let o = or_parts (nat_lt 0 n) (nat_lt 0 (length us)) h in let a = ltb-false 0 n o.0 in let b = ltb-false 0 (length us) o.1 in (omega (arith, a), omega (arith, b))

laneless : (s : ScriptValue) (w : World) (k : ℕ) → Quiet s w → k < place_count s → ((link_of w.control k).acks ≡ 0) × (length (link_of w.control k).up ≡ 0)
laneless s w k q lt = frameless (link_of w.control k).acks (link_of w.control k).up (find_none (has_frame w.control) 0 (place_count s) k (rests s w q).frame (omega arith) (omega (arith, lt)))

-- no removal waits for a back end to which nothing is under way
none_waited : (removals : List Removal) (k : ℕ) (gone : List (Option Span)) → awaited_reaches k removals ≡ gone ++ [] → length gone ≡ 0 → awaited_reaches k removals ≡ []
none_waited removals k [] h n = h
none_waited removals k (g ∷ gone) h n = absurd (omega (arith, n))

all_ready : (bs : List Bool) (n : ℕ) → length bs ≤ n → ((k : ℕ) → k < n → get_or bs k false ≡ false) → list_all not bs ≡ true
all_ready [] n l h = refl
all_ready (b ∷ bs) zero l h = absurd (omega (arith, l))
all_ready (b ∷ bs) (suc n) l h =
    let first : b ≡ false = h 0 (omega arith) in
    let rest = all_ready bs n (omega (arith, l)) (λ k lt. h (suc k) (omega (arith, lt))) in
    ap (λ v. not v && list_all not bs) first ∙ rest

head_waits : (k : ℕ) (r : Removal) (rs : List Removal) → awaited_reaches k (r ∷ rs) ≡ [] → waits_for k r ≡ false
head_waits k r rs h = go (waits_for k r) h
  where
    go : (b : Bool) → cond b (reach_of r.task ∷ awaited_reaches k rs) (awaited_reaches k rs) ≡ [] → b ≡ false
    go true h = absurd cc
    go false h = refl

none_open : (s : ScriptValue) (rs : List Removal) → first_ready rs ≡ None → AllByRecursion (IsRemoval s (place_count s)) rs → ((k : ℕ) → k < place_count s → awaited_reaches k rs ≡ []) → rs ≡ []
none_open s [] h w z = refl
none_open s (r ∷ rs) h w z =
    let long = w.0.1 in
    let ready : is_ready r ≡ true = all_ready r.waits (place_count s) (omega (arith, long)) (λ k lt. head_waits k r rs (z k lt)) in
    let some : first_ready (r ∷ rs) ≡ Some r = ap (λ b. cond b (Some r) (first_ready rs)) ready in
    absurd (some_none r (sym some ∙ h))

pub removals_none : (s : ScriptValue) (w : World) → Quiet s w → w.control.removals ≡ []
removals_none s w q = none_open s w.control.removals (rests s w q).ready q.sound.removals
    (λ k lt. let link = (q.sound.backs k lt).link in
    let n = laneless s w k q lt in
    let c = link.count in
    let a = n.0 in
    none_waited w.control.removals k link.gone (link.order ∙ ap (λ fs. link.gone ++ sent_reaches fs) (q.backs k lt).still.down) (omega (arith, c, a)))

parked_none : (s : ScriptValue) (w : World) (k : ℕ) → Quiet s w → k < place_count s → (link_of w.control k).parked ≡ None
parked_none s w k q lt = go (link_of w.control k).parked (find_none (λ place. is_free s w.control place (link_of w.control place).parked) 0 (place_count s) k (rests s w q).parked (omega arith) (omega (arith, lt)))
  where
    go : (o : Option Miss) → is_free s w.control k o ≡ false → o ≡ None
    go None h = refl
    go (Some m) h =
        let f : is_shut s w.control k m ≡ false = ap (closed w.control.dev (id_at s k) k (page_of m.iova)) (removals_none s w q) in
        let g : not (is_shut s w.control k m) ≡ true = ap not f in
        absurd (false≢true (sym h ∙ g))

unset : (b : Bool) → one_if b ≡ 0 → b ≡ false
unset true h = absurd (omega (arith, h))
unset false h = refl

pub back_idle : (s : ScriptValue) (w : World) (k : ℕ) → Quiet s w → k < place_count s → (seat_of w k).asking ≡ false
back_idle s w k q lt =
    let one = (q.sound.backs k lt).miss.one in
    let up = (laneless s w k q lt).1 in
    let replies : length (link_of w.control k).replies ≡ 0 = ap (λ (v : List Bool). length v) (q.backs k lt).still.replies in
    let parked : count_option (link_of w.control k).parked ≡ 0 = ap (λ (v : Option Miss). count_option v) (parked_none s w k q lt) in
    unset (seat_of w k).asking (omega (arith, one, up, replies, parked))

pub back_told : (s : ScriptValue) (w : World) (k : ℕ) → Quiet s w → k < place_count s → ((seat_of w k).told ≡ (seat_of w k).finished) × ((link_of w.control k).posted ≡ (seat_of w k).finished)
back_told s w k q lt =
    let m = (q.sound.backs k lt).miss in
    let n = ltb-false (seat_of w k).told (seat_of w k).finished (q.backs k lt).still.told in
    let low = m.low in
    let told = m.told in
    (omega (arith, n, low), omega (arith, n, low, told))

-- no line waits for its answer
pub none_held : (s : ScriptValue) (w : World) (j line : ℕ) → Quiet s w → j < driver_count → count_held w.control.queue w.control.removals (port_of w.control j).setting j line ≡ 0
none_held s w j line q lt =
    let a : count_queued j line w.control.queue ≡ 0 = ap (count_queued j line) (rests s w q).queue in
    let b : count_removals j line w.control.removals ≡ 0 = ap (count_removals j line) (removals_none s w q) in
    let c : count_setting line (port_of w.control j).setting ≡ 0 = unsettled (port_of w.control j).setting (find_none (λ driver. is_some (port_of w.control driver).setting) 0 driver_count j (rests s w q).setting (omega arith) (omega (arith, lt))) in
    omega (arith, a, b, c)
  where
    unsettled : (o : Option Setting) → is_some o ≡ false → count_setting line o ≡ 0
    unsettled None h = refl
    unsettled (Some x) h = absurd cc

pub none_counted : (xs : List ℕ) → ((line : ℕ) → count_line line xs ≡ 0) → xs ≡ []
none_counted [] h = refl
none_counted (n ∷ ns) h = let z = h n in let o : one_if (n == n) ≡ 1 = ap one_if (eq-eqb n n refl) in absurd (omega (arith, z, o))
