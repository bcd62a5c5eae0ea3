-- What an actor has after its own turn.
use Rattle.std.proofs.Common.{◌≡◌, ℕ, ◌<◌, Bool, true, false, cond, List, [], ◌∷◌, get_or, set, Option, Some, None, refl, arith, ap}
use Rattle.std.specs.Prelude.{nat_lt}
use Rattle.std.proofs.lemmas.Bool.{ltb-true}
use Rattle.std.proofs.lemmas.List.{get_or-set_same}
use Rattle.vi_history.specs.declared.outcome.Shown.{Shown}
use Rattle.vi_lines.specs.declared.line.Who.{Who}
use Rattle.vi_lines.specs.declared.line.Who.TheVariants as who
use Rattle.vi_lines.specs.Value.{ScriptValue}
use Rattle.vi_model.specs.Control.{Made, driver_count, link_of, with_link}
use Rattle.vi_model.specs.Places.{place_count, place_of}
use Rattle.vi_model.specs.Device.{device_turn}
use Rattle.vi_model.specs.Drivers.{no_stand, Driven, driver_turn}
use Rattle.vi_model.specs.Backs.{Seat, no_seat, Wish, Accesses, Asks, Receives, Rests, Exchange, wish, ask, receive, access}
use Rattle.vi_model.specs.Actors.{back_actor, driver_actor}
use Rattle.vi_model.specs.Worlds.{World, stand_of, seat_of, actor_of}
use Rattle.vi_model.specs.Turns.{Turned, Moved, Waiting, Rest, ControlTurn, stays, driver_idle, driven, exchanged, wished, served, event_read, control_turn, wished_page, accessed_page, AccessTurn, wished_access, access_turn, left_by, left_by_access}
use Rattle.vi_model.specs.Sound.{SoundParts, IsSound}
use Rattle.vi_model.specs.Laws.{ActorsGoOn, ActorsAccess, PlacesHaveIds}
use Rattle.vi_sound.proofs.Moves.Turns.{left_stays, page_is}
use Rattle.vi_sound.proofs.Values.Ids.{place_of_id}

-- the actor that a turn leaves is the turn's
abbrev Leaves : ScriptValue → World → Who → ControlTurn → Type 0
Leaves s w a t = actor_of s (left_by s w a t) a ≡ t.actor

stays_own : (s : ScriptValue) (w : World) (a : Who) (turned : Turned) → Leaves s w a (stays turned w.control (actor_of s w a))
stays_own s w a turned = ap (λ v. actor_of s v a) (left_stays s w a turned)

driven_own : (s : ScriptValue) (w : World) (j : ℕ) (idle : Turned) (o : Option Driven) → SoundParts s w → j < driver_count → Leaves s w (who.Driver j) (driven idle w.control (actor_of s w (who.Driver j)) o)
driven_own s w j idle None ok lt = stays_own s w (who.Driver j) idle
driven_own s w j idle (Some o) ok lt = ap (λ d. driver_actor d) (get_or-set_same w.stands j o.stand no_stand (let n = ok.stands in omega (arith, n, lt)))

seat_own : (s : ScriptValue) (w : World) (k : ℕ) (z : Seat) → SoundParts s w → k < place_count s → get_or (set w.seats k z) k no_seat ≡ z
seat_own s w k z ok lt = get_or-set_same w.seats k z no_seat (let n = ok.seats in omega (arith, n, lt))

exchanged_own : (s : ScriptValue) (w : World) (id : ℕ) (idle : Turned) (m : Exchange) → SoundParts s w → place_of s id < place_count s → Leaves s w (who.Back id) (exchanged (place_of s id) idle w.control (actor_of s w (who.Back id)) m)
exchanged_own s w id idle m ok lt = go m.moved
  where
    go : (b : Bool) → Leaves s w (who.Back id) (cond b (record { control = with_link w.control (place_of s id) m.link; actor = back_actor m.seat; entry = None; turned = Moved }) (stays idle w.control (actor_of s w (who.Back id))))
    go true = ap (λ z. back_actor z) (seat_own s w (place_of s id) m.seat ok lt)
    go false = stays_own s w (who.Back id) idle

wished_own : (s : ScriptValue) (w : World) (id : ℕ) (h : Wish) → SoundParts s w → place_of s id < place_count s → Leaves s w (who.Back id) (wished s (place_of s id) w.control (actor_of s w (who.Back id)) h)
wished_own s w id (Accesses l a) ok lt = stays_own s w (who.Back id) Waiting
wished_own s w id (Asks m) ok lt = exchanged_own s w id Waiting (ask (link_of w.control (place_of s id)) (seat_of w (place_of s id)) m) ok lt
wished_own s w id (Receives t) ok lt = exchanged_own s w id Waiting (receive s w.control (place_of s id) t (link_of w.control (place_of s id)) (seat_of w (place_of s id))) ok lt
wished_own s w id Rests ok lt = exchanged_own s w id Rest (receive s w.control (place_of s id) false (link_of w.control (place_of s id)) (seat_of w (place_of s id))) ok lt

served_own : (s : ScriptValue) (w : World) (o : Option Made) → Leaves s w who.Device (served w.control (actor_of s w who.Device) o)
served_own s w None = refl
served_own s w (Some o) = refl

read_own : (s : ScriptValue) (w : World) (xs : List Shown) → Leaves s w who.Events (event_read w.control (actor_of s w who.Events) xs)
read_own s w [] = refl
read_own s w (x ∷ xs) = refl

control_own : (s : ScriptValue) (w : World) (a : Who) → SoundParts s w → Leaves s w a (control_turn s a w.control (actor_of s w a))
unfolding control_turn
control_own s w (who.Driver j) ok = go (nat_lt j driver_count) refl
  where
    go : (b : Bool) → nat_lt j driver_count ≡ b
        → Leaves s w (who.Driver j) (cond b (driven (driver_idle s j (stand_of w j)) w.control (actor_of s w (who.Driver j)) (driver_turn s w.control j (stand_of w j))) (stays Rest w.control (actor_of s w (who.Driver j))))
    go true e = driven_own s w j (driver_idle s j (stand_of w j)) (driver_turn s w.control j (stand_of w j)) ok (ltb-true j driver_count e)
    go false e = stays_own s w (who.Driver j) Rest
control_own s w (who.Back id) ok = go (nat_lt (place_of s id) (place_count s)) refl
  where
    go : (b : Bool) → nat_lt (place_of s id) (place_count s) ≡ b
        → Leaves s w (who.Back id) (cond b (wished s (place_of s id) w.control (actor_of s w (who.Back id)) (wish s (place_of s id) (seat_of w (place_of s id)))) (stays Waiting w.control (actor_of s w (who.Back id))))
    go true e = wished_own s w id (wish s (place_of s id) (seat_of w (place_of s id))) ok (ltb-true (place_of s id) (place_count s) e)
    go false e = stays_own s w (who.Back id) Waiting
control_own s w who.Device ok = served_own s w (device_turn s w.control)
control_own s w who.Events ok = go s.setup.events
  where
    go : (b : Bool) → Leaves s w who.Events (cond b (event_read w.control (actor_of s w who.Events) w.control.events.waiting) (stays Waiting w.control (actor_of s w who.Events)))
    go true = read_own s w w.control.events.waiting
    go false = refl

pub actors_go_on : ActorsGoOn
unfolding IsSound
actors_go_on s w a ok = control_own s w a ok

access_own : (s : ScriptValue) (w : World) (a : Who) (page : ℕ) (bytes : List ℕ) → SoundParts s w → accessed_page s a (actor_of s w a) ≡ Some page
    → actor_of s (left_by_access s w a page (access_turn s a (actor_of s w a) bytes)) a ≡ (let t : AccessTurn = access_turn s a (actor_of s w a) bytes in t.actor)
unfolding accessed_page access_turn
access_own s w (who.Driver j) page bytes ok h = absurd cc
access_own s w (who.Back id) page bytes ok h = go (nat_lt (place_of s id) (place_count s)) refl h
  where
    wishes : place_of s id < place_count s → (h : Wish) → wished_page h ≡ Some page
        → actor_of s (left_by_access s w (who.Back id) page (wished_access s (place_of s id) (actor_of s w (who.Back id)) bytes h)) (who.Back id) ≡ (let t : AccessTurn = wished_access s (place_of s id) (actor_of s w (who.Back id)) bytes h in t.actor)
    wishes lt (Accesses l a) p = ap (λ z. back_actor z) (seat_own s w (place_of s id) (access s (place_of s id) (seat_of w (place_of s id)) l a bytes).seat ok lt)
    wishes lt (Asks m) p = absurd cc
    wishes lt (Receives t) p = absurd cc
    wishes lt Rests p = absurd cc

    go : (b : Bool) → nat_lt (place_of s id) (place_count s) ≡ b → cond b (wished_page (wish s (place_of s id) (seat_of w (place_of s id)))) None ≡ Some page
        → actor_of s (left_by_access s w (who.Back id) page (wished_access s (place_of s id) (actor_of s w (who.Back id)) bytes (wish s (place_of s id) (seat_of w (place_of s id))))) (who.Back id)
        ≡ (let t : AccessTurn = wished_access s (place_of s id) (actor_of s w (who.Back id)) bytes (wish s (place_of s id) (seat_of w (place_of s id))) in t.actor)
    go true e p = wishes (ltb-true (place_of s id) (place_count s) e) (wish s (place_of s id) (seat_of w (place_of s id))) p
    go false e p = absurd cc
access_own s w who.Device page bytes ok h = absurd cc
access_own s w who.Events page bytes ok h = absurd cc

pub actors_access : ActorsAccess
unfolding IsSound
actors_access s w a page bytes ok h = access_own s w a page bytes ok (page_is page (accessed_page s a (actor_of s w a)) h)

pub places_have_ids : PlacesHaveIds
places_have_ids s k play lt = place_of_id s k play.valid lt
