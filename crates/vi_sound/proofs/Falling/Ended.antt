-- Where all lines are finished, no caller has a call left; and a turn that waits or rests changes nothing.
use Rattle.std.proofs.Common.{◌≡◌, ◌≢◌, ℕ, ◌+◌, ◌<◌, ◌≤◌, Bool, true, false, cond, List, [], ◌∷◌, length, Option, Some, None, slice_get, refl, arith, ◌∙◌, ap, ap₂, sym, subst, ◌⊎◌, inl, inr}
use Rattle.std.specs.Prelude.{nat_lt}
use Rattle.std.proofs.lemmas.Bool.{cases_Bool, cases_lt, false≢true, leb-true}
use Rattle.vi_history.specs.declared.call.Caller.{Caller}
use Rattle.vi_history.specs.declared.call.Caller.TheVariants.{Driver, Back}
use Rattle.vi_history.specs.declared.entry.Entry.{Entry}
use Rattle.vi_history.specs.declared.outcome.Shown.{Shown}
use Rattle.vi_lines.specs.declared.line.Line.{Line}
use Rattle.vi_lines.specs.declared.line.Who.{Who}
use Rattle.vi_lines.specs.declared.line.Who.TheVariants as who
use Rattle.vi_lines.specs.Value.{ScriptValue}
use Rattle.vi_lines.specs.Valid.{IsValid, has_endpoint}
use Rattle.vi_lines.specs.Calls.{lines_of, line_of}
use Rattle.vi_lines.specs.Order.{Place, entries_at, due_place}
use Rattle.vi_lines.specs.Ordered.{IsOrdered}
use Rattle.vi_order.proofs.Ordered.{ordered_one_by_one}
use Rattle.vi_model.specs.Control.{Made, driver_count, link_of, with_link}
use Rattle.vi_model.specs.Actors.{back_actor}
use Rattle.vi_model.specs.Places.{place_count, place_of}
use Rattle.vi_model.specs.Starts.{any}
use Rattle.vi_model.specs.Drivers.{Driven}
use Rattle.vi_model.specs.Backs.{Seat, Wish, Accesses, Asks, Receives, Rests, Exchange, wish, ask, receive}
use Rattle.vi_model.specs.Worlds.{World, stand_of, seat_of, actor_of}
use Rattle.vi_model.specs.Device.{device_turn}
use Rattle.vi_model.specs.Drivers.{driver_turn}
use Rattle.vi_model.specs.Turns.{Turned, Moved, Waiting, Rest, ControlTurn, stays, driver_idle, driven, exchanged, wished, served, event_read, control_turn, accessed_page, left_by, turn_at, turn}
use Rattle.vi_model.specs.Asking.{one_if}
use Rattle.vi_model.specs.Tracks.{stands_at}
use Rattle.vi_model.specs.Held.{count_line, is_among_first}
use Rattle.vi_model.specs.Sound.{SoundParts, IsSound}
use Rattle.vi_model.specs.Laws.{HasFinished, FinishedIsOrdered, OnlyMovedChanges}
use Rattle.vi_sound.proofs.Values.Batches.{among_first}
use Rattle.vi_sound.proofs.Values.Known.{line_is, place_there}
use Rattle.vi_sound.proofs.Space.Counts.{IsAt, at_ordered}
use Rattle.vi_sound.proofs.Moves.Turns.{left_stays}

-- a caller with a line is one of the script's
first_line : (s : ScriptValue) (c : Caller) → 0 < length (lines_of s c) → (l : Line) × (line_of s c 1 ≡ Some l)
first_line s c some = go (lines_of s c) refl some
  where
    go : (ls : List Line) → lines_of s c ≡ ls → 0 < length ls → (l : Line) × (line_of s c 1 ≡ Some l)
    go [] e some = absurd (omega (arith, some))
    go (l ∷ ls) e some = (l, ap (λ xs. slice_get xs 0) e)

finished_driver : (s : ScriptValue) (w : World) (j line : ℕ) → IsValid s → SoundParts s w → HasFinished s w → 1 ≤ line → line ≤ length (lines_of s (Driver j)) → 0 < entries_at (Driver j) line w.history
finished_driver s w j line valid ok done low high =
    let l = first_line s (Driver j) (omega (arith, low, high)) in
    let le = leb-true j 7 (line_is s (Driver j) 1 l.0 valid l.1).0 in
    let lt : j < driver_count = omega (arith, le) in
    let d = ok.drivers j lt in
    let all = done.drivers j lt in
    let none : count_line line (stand_of w j).open_lines ≡ 0 = ap (count_line line) (done.none_open j lt) in
    let e = d.entered line in
    let one : one_if (is_among_first line (stand_of w j).submitted) ≡ 1 = among_first line (stand_of w j).submitted low (omega (arith, high, all)) in
    omega (arith, none, e, one)

-- a back end whose line is past its last has finished
behind_last : (s : ScriptValue) (id : ℕ) (hs : List Entry) → IsAt s id hs → length (lines_of s (Back id)) < (due_place s (Back id) hs).line → due_place s (Back id) hs ≡ record { line = length (lines_of s (Back id)) + 1; part = 1 }
behind_last s id hs at past =
    let most = at.line_most in
    let line : (due_place s (Back id) hs).line ≡ length (lines_of s (Back id)) + 1 = omega (arith, past, most) in
    ap₂ (λ l p. let q : Place = record { line = l; part = p } in q) line (at.ended past)

finished_back : (s : ScriptValue) (w : World) (id : ℕ) → IsValid s → SoundParts s w → HasFinished s w → due_place s (Back id) w.history ≡ record { line = length (lines_of s (Back id)) + 1; part = 1 }
finished_back s w id valid ok done = go (cases_Bool (has_endpoint s.setup.endpoints id))
  where
    at : IsAt s id w.history
    at = at_ordered s id w.history valid ok.told.ordered

    beyond : (z : Seat) (b : Bool) → z.finished < (stands_at z b).line
    beyond z true = omega arith
    beyond z false = omega arith

    go : (has_endpoint s.setup.endpoints id ≡ true) ⊎ (has_endpoint s.setup.endpoints id ≡ false) → due_place s (Back id) w.history ≡ record { line = length (lines_of s (Back id)) + 1; part = 1 }
    go (inl there) =
        let k = place_there s.setup.endpoints id there in
        let all : length (lines_of s (Back id)) ≤ (seat_of w k.0).finished = subst (λ i. length (lines_of s (Back i)) ≤ (seat_of w k.0).finished) k.2 (done.backs k.0 k.1) in
        let is : (due_place s (Back id) w.history).line ≡ (stands_at (seat_of w k.0) (any (link_of w.control k.0).replies)).line =
        ap (λ (p : Place). p.line) (subst (λ i. due_place s (Back i) w.history ≡ stands_at (seat_of w k.0) (any (link_of w.control k.0).replies)) k.2 (ok.backs k.0 k.1).track.at) in
        let far = beyond (seat_of w k.0) (any (link_of w.control k.0).replies) in
        behind_last s id w.history at (omega (arith, all, is, far))
    go (inr none) = behind_last s id w.history at (let low = at.line in let z = no_lines (cases_lt 0 (length (lines_of s (Back id)))) in omega (arith, low, z))
      where
        no_lines : (0 < length (lines_of s (Back id))) ⊎ (length (lines_of s (Back id)) ≤ 0) → length (lines_of s (Back id)) ≡ 0
        no_lines (inr z) = omega (arith, z)
        no_lines (inl some) = let l = first_line s (Back id) some in absurd (false≢true (sym none ∙ (line_is s (Back id) 1 l.0 valid l.1).0))

finished_parts : (s : ScriptValue) (w : World) → IsValid s → SoundParts s w → HasFinished s w → IsOrdered s w.history
finished_parts s w valid ok done =
    (ordered_one_by_one s w.history valid).1 (ok.told.ordered, record { drivers = λ j line low high. finished_driver s w j line valid ok done low high; backs = λ id. finished_back s w id valid ok done })

pub finished_is_ordered : FinishedIsOrdered
unfolding IsSound
finished_is_ordered s w play ok done = finished_parts s w play.valid ok done

-- ---- turns that don't move

-- a turn under control that doesn't move is one that stays
abbrev stays_if : ScriptValue → World → Who → ControlTurn → Type 0
stays_if s w a t = t.turned ≢ Moved → left_by s w a t ≡ w

stayed : (s : ScriptValue) (w : World) (a : Who) (t : Turned) → stays_if s w a (stays t w.control (actor_of s w a))
stayed s w a t ne = left_stays s w a t

still_driven : (s : ScriptValue) (w : World) (j : ℕ) (idle : Turned) (o : Option Driven) → stays_if s w (who.Driver j) (driven idle w.control (actor_of s w (who.Driver j)) o)
still_driven s w j idle None = stayed s w (who.Driver j) idle
still_driven s w j idle (Some o) = λ ne. absurd (ne refl)

still_exchanged : (s : ScriptValue) (w : World) (id : ℕ) (idle : Turned) (m : Exchange) → stays_if s w (who.Back id) (exchanged (place_of s id) idle w.control (actor_of s w (who.Back id)) m)
still_exchanged s w id idle m = go m.moved
  where
    go : (b : Bool) → (let t : ControlTurn = cond b (record { control = with_link w.control (place_of s id) m.link; actor = back_actor m.seat; entry = None; turned = Moved }) (stays idle w.control (actor_of s w (who.Back id))) in t.turned ≢ Moved → left_by s w (who.Back id) t ≡ w)
    go true = λ ne. absurd (ne refl)
    go false = stayed s w (who.Back id) idle

still_wished : (s : ScriptValue) (w : World) (id : ℕ) (h : Wish) → stays_if s w (who.Back id) (wished s (place_of s id) w.control (actor_of s w (who.Back id)) h)
still_wished s w id (Accesses l a) = stayed s w (who.Back id) Waiting
still_wished s w id (Asks m) = still_exchanged s w id Waiting (ask (link_of w.control (place_of s id)) (seat_of w (place_of s id)) m)
still_wished s w id (Receives t) = still_exchanged s w id Waiting (receive s w.control (place_of s id) t (link_of w.control (place_of s id)) (seat_of w (place_of s id)))
still_wished s w id Rests = still_exchanged s w id Rest (receive s w.control (place_of s id) false (link_of w.control (place_of s id)) (seat_of w (place_of s id)))

still_served : (s : ScriptValue) (w : World) (o : Option Made) → stays_if s w who.Device (served w.control (actor_of s w who.Device) o)
still_served s w None = stayed s w who.Device Waiting
still_served s w (Some o) = λ ne. absurd (ne refl)

still_read : (s : ScriptValue) (w : World) (xs : List Shown) → stays_if s w who.Events (event_read w.control (actor_of s w who.Events) xs)
still_read s w [] = stayed s w who.Events Waiting
still_read s w (x ∷ xs) = λ ne. absurd (ne refl)

still_control : (s : ScriptValue) (w : World) (a : Who) → stays_if s w a (control_turn s a w.control (actor_of s w a))
unfolding control_turn
still_control s w (who.Driver j) = go (nat_lt j driver_count)
  where
    go : (b : Bool) → stays_if s w (who.Driver j) (cond b (driven (driver_idle s j (stand_of w j)) w.control (actor_of s w (who.Driver j)) (driver_turn s w.control j (stand_of w j))) (stays Rest w.control (actor_of s w (who.Driver j))))
    go true = still_driven s w j (driver_idle s j (stand_of w j)) (driver_turn s w.control j (stand_of w j))
    go false = stayed s w (who.Driver j) Rest
still_control s w (who.Back id) = go (nat_lt (place_of s id) (place_count s))
  where
    go : (b : Bool) → stays_if s w (who.Back id) (cond b (wished s (place_of s id) w.control (actor_of s w (who.Back id)) (wish s (place_of s id) (seat_of w (place_of s id)))) (stays Waiting w.control (actor_of s w (who.Back id))))
    go true = still_wished s w id (wish s (place_of s id) (seat_of w (place_of s id)))
    go false = stayed s w (who.Back id) Waiting
still_control s w who.Device = still_served s w (device_turn s w.control)
still_control s w who.Events = go s.setup.events
  where
    go : (b : Bool) → stays_if s w who.Events (cond b (event_read w.control (actor_of s w who.Events) w.control.events.waiting) (stays Waiting w.control (actor_of s w who.Events)))
    go true = still_read s w w.control.events.waiting
    go false = stayed s w who.Events Waiting

pub only_moved_changes : OnlyMovedChanges
unfolding turn
only_moved_changes s w a = go (accessed_page s a (actor_of s w a))
  where
    go : (o : Option ℕ) → (turn_at s w a o).turned ≢ Moved → (turn_at s w a o).world ≡ w
    go None = still_control s w a
    go (Some page) = λ ne. absurd (ne refl)
