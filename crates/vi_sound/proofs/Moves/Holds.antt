-- A driver's call leaves the queue, its setting or the open removals.
use Rattle.std.proofs.Common.{◌≡◌, ◌==◌, ℕ, zero, suc, ◌+◌, ◌<◌, Bool, true, false, cond, ◌&&◌, List, [], ◌∷◌, get_or, set, Some, None, refl, arith, ◌∙◌, ap, sym, subst, length-set}
use Rattle.std.specs.List.{AllByRecursion, find, range_with_len}
use Rattle.std.proofs.lemmas.Bool.{eq-eqb, ne_eqb}
use Rattle.std.proofs.lemmas.List.{get_or-set_same, get_or-set_other}
use Rattle.vi_lines.specs.Value.{ScriptValue}
use Rattle.vi_model.specs.Removals.{Removal, is_ready, first_ready, without_first}
use Rattle.vi_model.specs.Control.{Queued, Setting, Port, Started, driver_count, no_port, port_of, link_of, with_port}
use Rattle.vi_model.specs.Places.{place_count, id_at}
use Rattle.vi_model.specs.Starts.{queued_call, setting_call, without_ready}
use Rattle.vi_model.specs.Worlds.{World, stand_of, seat_of}
use Rattle.vi_model.specs.Asking.{one_if}
use Rattle.vi_model.specs.Held.{IsCall, AreQueued, IsRemoval, removal_call, SettingIsCall, count_removals, count_setting, count_held, IsSoundDriver}
use Rattle.vi_model.specs.Sound.{SoundParts}
use Rattle.vi_sound.proofs.Values.Tables.{at_one}
use Rattle.vi_sound.proofs.Values.Frames.{driver_same}
use Rattle.vi_sound.proofs.Moves.Starts.{finish_ops}
use Rattle.vi_sound.proofs.Moves.Calls.{Held}

self_line : (d at line : ℕ) → one_if ((d == d) && (at == line)) ≡ one_if (at == line)
self_line d at line = ap (λ b. one_if (b && (at == line))) (eq-eqb d d refl)

other_line : (d i at line : ℕ) → (i ≡ d → ⊥) → one_if ((d == i) && (at == line)) ≡ 0
other_line d i at line ne = ap (λ b. one_if (b && (at == line))) (ne_eqb d i (λ k. ne (sym k)))

abbrev pub less_queue : World → List Queued → World
less_queue w qs = record w { control = record w.control { queue = qs } }

pub hold_queue : (s : ScriptValue) (w : World) (q : Queued) (qs : List Queued) → SoundParts s w → w.control.queue ≡ q ∷ qs → (let c : Started = queued_call q in Held s (less_queue w qs) c.driver c.line c.task)
hold_queue s w q qs ok e = record {
  told = ok.told;
  whole = ok.whole;
  maps = ok.maps;
  records = ok.records;
  tables = ok.tables;
  seats = ok.seats;
  ports = ok.ports;
  stands = ok.stands;
  queue = ins.1;
  removals = ok.removals;
  settings = ok.settings;
  backs = ok.backs;
  call = ins.0;
  others = λ i below ne. driver_same s i (count_held (q ∷ qs) w.control.removals (port_of w.control i).setting i) (count_held qs w.control.removals (port_of w.control i).setting i) w.history (port_of w.control i).answered (port_of w.control i).posted (stand_of w i)
      (λ line. let u = other_line q.driver i q.line line ne in omega (arith, u)) (at i below);
  mine = driver_same s q.driver (count_held (q ∷ qs) w.control.removals (port_of w.control q.driver).setting q.driver) (λ line. count_held qs w.control.removals (port_of w.control q.driver).setting q.driver line + one_if (q.line == line)) w.history (port_of w.control q.driver).answered (port_of w.control q.driver).posted (stand_of w q.driver)
      (λ line. let u = self_line q.driver q.line line in omega (arith, u)) (at q.driver ins.0.0);
}
  where
    ins : AreQueued s (q ∷ qs)
    ins = subst (AreQueued s) e ok.queue

    at : (i : ℕ) → i < driver_count → IsSoundDriver s i (count_held (q ∷ qs) w.control.removals (port_of w.control i).setting i) w.history (port_of w.control i).answered (port_of w.control i).posted (stand_of w i)
    at i below = subst (λ z. IsSoundDriver s i (count_held z w.control.removals (port_of w.control i).setting i) w.history (port_of w.control i).answered (port_of w.control i).posted (stand_of w i)) e (ok.drivers i below)

abbrev pub less_setting : World → ℕ → World
less_setting w j = let p : Port = port_of w.control j in record w { control = with_port w.control j (record p { setting = None }) }

pub hold_setting : (s : ScriptValue) (w : World) (j : ℕ) (x : Setting) → SoundParts s w → j < driver_count → (port_of w.control j).setting ≡ Some x → (let c : Started = setting_call j x in Held s (less_setting w j) j c.line c.task)
hold_setting s w j x ok lt e = record {
  told = ok.told;
  whole = ok.whole;
  maps = ok.maps;
  records = ok.records;
  tables = ok.tables;
  seats = ok.seats;
  ports = length-set w.control.ports j port ∙ ok.ports;
  stands = ok.stands;
  queue = ok.queue;
  removals = ok.removals;
  settings = at_one (λ i p. SettingIsCall s i p.setting) w.control.ports no_port port driver_count j ok.ports lt tt (λ i below ne. ok.settings i below);
  backs = ok.backs;
  call = asked;
  others = λ i below ne. subst (λ (p : Port). IsSoundDriver s i (count_held w.control.queue w.control.removals p.setting i) w.history p.answered p.posted (stand_of w i)) (sym (get_or-set_other w.control.ports j i port no_port ne)) (ok.drivers i below);
  mine = subst (λ (p : Port). IsSoundDriver s j (λ line. count_held w.control.queue w.control.removals p.setting j line + one_if (x.line == line)) w.history p.answered p.posted (stand_of w j)) (sym here)
      (driver_same s j (count_held w.control.queue w.control.removals (port_of w.control j).setting j) (λ line. count_held w.control.queue w.control.removals None j line + one_if (x.line == line)) w.history (port_of w.control j).answered (port_of w.control j).posted (stand_of w j)
      (λ line. let u : count_setting line (port_of w.control j).setting ≡ one_if (x.line == line) = ap (count_setting line) e in omega (arith, u)) (ok.drivers j lt));
}
  where
    port : Port
    port = let p : Port = port_of w.control j in record p { setting = None }

    asked : SettingIsCall s j (Some x)
    asked = subst (SettingIsCall s j) e (ok.settings j lt)

    here : get_or (set w.control.ports j port) j no_port ≡ port
    here = get_or-set_same w.control.ports j port no_port (let n = ok.ports in omega (arith, lt, n))

abbrev pub less_removal : World → World
less_removal w = record w { control = without_ready w.control }

finished_by : (j line : ℕ) (r : Removal) (rs : List Removal) → first_ready rs ≡ Some r → count_removals j line rs ≡ one_if ((r.driver == j) && (r.line == line)) + count_removals j line (without_first rs)
finished_by j line r [] h = absurd cc
finished_by j line r (x ∷ rs) h = go (is_ready x) h (finished_by j line r rs)
  where
    go : (b : Bool) → cond b (Some x) (first_ready rs) ≡ Some r → (first_ready rs ≡ Some r → count_removals j line rs ≡ one_if ((r.driver == j) && (r.line == line)) + count_removals j line (without_first rs))
        → one_if ((x.driver == j) && (x.line == line)) + count_removals j line rs ≡ one_if ((r.driver == j) && (r.line == line)) + count_removals j line (cond b rs (x ∷ without_first rs))
    go true h ih = let same : x ≡ r = cc in ap (λ (y : Removal). one_if ((y.driver == j) && (y.line == line)) + count_removals j line rs) same
    go false h ih = let i = ih h in omega (arith, i)

finished_ok : (s : ScriptValue) (rs : List Removal) → AllByRecursion (IsRemoval s (place_count s)) rs → AllByRecursion (IsRemoval s (place_count s)) (without_first rs)
finished_ok s [] o = tt
finished_ok s (x ∷ rs) o = go (is_ready x) (finished_ok s rs o.1)
  where
    go : (b : Bool) → AllByRecursion (IsRemoval s (place_count s)) (without_first rs) → AllByRecursion (IsRemoval s (place_count s)) (cond b rs (x ∷ without_first rs))
    go true i = o.1
    go false i = (o.0, i)

ready_ok : (s : ScriptValue) (r : Removal) (rs : List Removal) → first_ready rs ≡ Some r → AllByRecursion (IsRemoval s (place_count s)) rs → IsCall s (removal_call r)
ready_ok s r [] h o = absurd cc
ready_ok s r (x ∷ rs) h o = go (is_ready x) h (λ k. ready_ok s r rs k o.1)
  where
    go : (b : Bool) → cond b (Some x) (first_ready rs) ≡ Some r → (first_ready rs ≡ Some r → IsCall s (removal_call r)) → IsCall s (removal_call r)
    go true h ih = let same : x ≡ r = cc in subst (λ (y : Removal). IsCall s (removal_call y)) same o.0.0
    go false h ih = ih h

pub hold_removal : (s : ScriptValue) (w : World) (r : Removal) → SoundParts s w → first_ready w.control.removals ≡ Some r → Held s (less_removal w) r.driver r.line r.task
hold_removal s w r ok h = record {
  told = ok.told;
  whole = ok.whole;
  maps = ok.maps;
  records = ok.records;
  tables = ok.tables;
  seats = ok.seats;
  ports = ok.ports;
  stands = ok.stands;
  queue = ok.queue;
  removals = finished_ok s w.control.removals ok.removals;
  settings = ok.settings;
  backs = λ k below. let o = ok.backs k below in record {
    link = finish_ops w.control.dev w.control.removals (id_at s k) k (link_of w.control k).grants (seat_of w k).cache (link_of w.control k).down (link_of w.control k).acks o.link;
    miss = o.miss;
    track = o.track;
    room = o.room;
  };
  call = is;
  others = λ i below ne. driver_same s i (count_held w.control.queue w.control.removals (port_of w.control i).setting i) (count_held w.control.queue (without_first w.control.removals) (port_of w.control i).setting i) w.history (port_of w.control i).answered (port_of w.control i).posted (stand_of w i)
      (λ line. let f = finished_by i line r w.control.removals h in let u = other_line r.driver i r.line line ne in omega (arith, f, u)) (ok.drivers i below);
  mine = driver_same s r.driver (count_held w.control.queue w.control.removals (port_of w.control r.driver).setting r.driver) (λ line. count_held w.control.queue (without_first w.control.removals) (port_of w.control r.driver).setting r.driver line + one_if (r.line == line)) w.history (port_of w.control r.driver).answered (port_of w.control r.driver).posted (stand_of w r.driver)
      (λ line. let f = finished_by r.driver line r w.control.removals h in let u = self_line r.driver r.line line in omega (arith, f, u)) (ok.drivers r.driver is.0);
}
  where
    is : IsCall s (removal_call r)
    is = ready_ok s r w.control.removals h ok.removals

-- what is found in a range is in it and passes
pub found_below : (p : ℕ → Bool) (a n k : ℕ) → find p (range_with_len a n) ≡ Some k → (k < a + n) × (p k ≡ true)
found_below p a zero k h = absurd cc
found_below p a (suc n) k h = go (p a) refl h (found_below p (a + 1) n k)
  where
    go : (b : Bool) → p a ≡ b → cond b (Some a) (find p (range_with_len (a + 1) n)) ≡ Some k → (find p (range_with_len (a + 1) n) ≡ Some k → (k < a + 1 + n) × (p k ≡ true)) → (k < a + suc n) × (p k ≡ true)
    go true e h rest = let same : a ≡ k = cc in (omega (arith, same), ap p (sym same) ∙ e)
    go false e h rest = let r = rest h in (omega (arith, r.0), r.1)
