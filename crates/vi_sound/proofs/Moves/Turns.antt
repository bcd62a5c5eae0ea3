-- Every turn of every actor keeps the world sound.
use Rattle.std.proofs.Common.{◌≡◌, ℕ, ◌<◌, Bool, true, false, cond, List, [], ◌∷◌, get_or, set, Option, Some, None, refl, ap, ap₂, subst, sym, append-nil}
use Rattle.std.specs.Prelude.{nat_lt}
use Rattle.std.proofs.lemmas.Bool.{ltb-true, eqb-true}
use Rattle.std.proofs.lemmas.List.{set-get_or}
use Rattle.vi_history.specs.declared.outcome.Shown.{Shown}
use Rattle.vi_lines.specs.declared.line.Who.{Who}
use Rattle.vi_lines.specs.declared.line.Who.TheVariants as who
use Rattle.vi_lines.specs.Value.{ScriptValue}
use Rattle.vi_model.specs.Control.{Made, driver_count, link_of, with_link}
use Rattle.vi_model.specs.Places.{place_count, place_of}
use Rattle.vi_model.specs.Device.{device_turn}
use Rattle.vi_model.specs.Drivers.{Driven, driver_turn}
use Rattle.vi_model.specs.Backs.{Wish, Accesses, Asks, Receives, Rests, Exchange, wish, ask, receive, target_of}
use Rattle.vi_model.specs.Actors.{back_actor}
use Rattle.vi_model.specs.Worlds.{World, stand_of, seat_of, actor_of}
use Rattle.vi_model.specs.Turns.{Turned, Moved, Waiting, Rest, ControlTurn, stays, driver_idle, driven, exchanged, wished, served, without_oldest, event_read, control_turn, wished_page, accessed_page, is_page, wished_access, access_turn, left_by, left_by_access, turn_at, turn, run}
use Rattle.vi_model.specs.Playable.{IsPlayable}
use Rattle.vi_model.specs.Sound.{record_bytes, IsTold, SoundParts}
use Rattle.vi_sound.proofs.Moves.Accesses.{wishes_access}
use Rattle.vi_sound.proofs.Moves.AccessSound.{access_sound}
use Rattle.vi_sound.proofs.Moves.Asks.{after_exchange, wishes_ask, ask_sound}
use Rattle.vi_sound.proofs.Moves.Hears.{receive_sound}
use Rattle.vi_sound.proofs.Moves.Drives.{after_driver, driver_sound}
use Rattle.vi_sound.proofs.Moves.Calls.{after_device}
use Rattle.vi_sound.proofs.Moves.Devices.{device_sound}
use Rattle.vi_sound.proofs.Moves.Shows.{shows_read}

-- what a turn that stays leaves is the world
pub left_stays : (s : ScriptValue) (w : World) (a : Who) (turned : Turned) → left_by s w a (stays turned w.control (actor_of s w a)) ≡ w
left_stays s w (who.Driver number) turned = ap₂ (λ st h. let x : World = record w { stands = st; history = h } in x) (set-get_or w.stands number _) (append-nil w.history)
left_stays s w (who.Back id) turned = ap₂ (λ st h. let x : World = record w { seats = st; history = h } in x) (set-get_or w.seats (place_of s id) _) (append-nil w.history)
left_stays s w who.Device turned = ap (λ h. let x : World = record w { history = h } in x) (append-nil w.history)
left_stays s w who.Events turned = ap (λ h. let x : World = record w { history = h } in x) (append-nil w.history)

stays_sound : (s : ScriptValue) (w : World) (a : Who) (turned : Turned) → SoundParts s w → SoundParts s (left_by s w a (stays turned w.control (actor_of s w a)))
stays_sound s w a turned ok = subst (SoundParts s) (sym (left_stays s w a turned)) ok

-- a driver's
driven_sound : (s : ScriptValue) (w : World) (j : ℕ) (idle : Turned) (o : Option Driven) → SoundParts s w → SoundParts s (after_driver w j o) → SoundParts s (left_by s w (who.Driver j) (driven idle w.control (actor_of s w (who.Driver j)) o))
driven_sound s w j idle None ok new = stays_sound s w (who.Driver j) idle ok
driven_sound s w j idle (Some o) ok new = subst (λ h. SoundParts s (record w { control = o.control; stands = set w.stands j o.stand; history = h })) (sym (append-nil w.history)) new

-- a back end's
exchanged_sound : (s : ScriptValue) (w : World) (id : ℕ) (idle : Turned) (m : Exchange) → SoundParts s w → SoundParts s (after_exchange w (place_of s id) m)
    → SoundParts s (left_by s w (who.Back id) (exchanged (place_of s id) idle w.control (actor_of s w (who.Back id)) m))
exchanged_sound s w id idle m ok new = go m.moved
  where
    go : (b : Bool) → SoundParts s (left_by s w (who.Back id) (let t : ControlTurn = cond b (record { control = with_link w.control (place_of s id) m.link; actor = back_actor m.seat; entry = None; turned = Moved }) (stays idle w.control (actor_of s w (who.Back id))) in t))
    go true = subst (λ h. SoundParts s (record w { control = with_link w.control (place_of s id) m.link; seats = set w.seats (place_of s id) m.seat; history = h })) (sym (append-nil w.history)) new
    go false = stays_sound s w (who.Back id) idle ok

wished_sound : (s : ScriptValue) (w : World) (id : ℕ) (h : Wish) → IsPlayable s → SoundParts s w → place_of s id < place_count s → wish s (place_of s id) (seat_of w (place_of s id)) ≡ h
    → SoundParts s (left_by s w (who.Back id) (wished s (place_of s id) w.control (actor_of s w (who.Back id)) h))
wished_sound s w id (Accesses l a) play ok lt e = stays_sound s w (who.Back id) Waiting ok
wished_sound s w id (Asks m) play ok lt e =
    exchanged_sound s w id Waiting (ask (link_of w.control (place_of s id)) (seat_of w (place_of s id)) m) ok (ask_sound s w (place_of s id) m ok lt (wishes_ask s (place_of s id) (seat_of w (place_of s id)) m e))
wished_sound s w id (Receives t) play ok lt e =
    exchanged_sound s w id Waiting (receive s w.control (place_of s id) t (link_of w.control (place_of s id)) (seat_of w (place_of s id))) ok (receive_sound s w (place_of s id) t play.valid ok lt)
wished_sound s w id Rests play ok lt e =
    exchanged_sound s w id Rest (receive s w.control (place_of s id) false (link_of w.control (place_of s id)) (seat_of w (place_of s id))) ok (receive_sound s w (place_of s id) false play.valid ok lt)

-- the device's
served_sound : (s : ScriptValue) (w : World) (o : Option Made) → SoundParts s w → SoundParts s (after_device w o) → SoundParts s (left_by s w who.Device (served w.control (actor_of s w who.Device) o))
served_sound s w None ok new = stays_sound s w who.Device Waiting ok
served_sound s w (Some o) ok new = new

-- the event reader's
read_sound : (s : ScriptValue) (w : World) (xs : List Shown) → w.control.events.waiting ≡ xs → SoundParts s w → SoundParts s (left_by s w who.Events (event_read w.control (actor_of s w who.Events) xs))
read_sound s w [] e ok = stays_sound s w who.Events Waiting ok
read_sound s w (x ∷ xs) e ok = subst (λ h. SoundParts s (record w { control = without_oldest w.control xs; history = h })) (sym (append-nil w.history)) (record {
  told = record { calls = t.calls; named = t.named; legal = t.legal; ordered = t.ordered; one = t.one; shown = shows_read s.setup.queue (record_bytes t.calls w.history) w.control.events x xs e t.shown };
  whole = ok.whole;
  maps = ok.maps;
  records = ok.records;
  tables = ok.tables;
  seats = ok.seats;
  ports = ok.ports;
  stands = ok.stands;
  queue = ok.queue;
  removals = ok.removals;
  settings = ok.settings;
  backs = ok.backs;
  drivers = ok.drivers;
})
  where
    t : IsTold s w.control.dev w.pages w.control.events w.history
    t = ok.told

-- a turn under control
pub control_sound : (s : ScriptValue) (w : World) (a : Who) → IsPlayable s → SoundParts s w → SoundParts s (left_by s w a (control_turn s a w.control (actor_of s w a)))
unfolding control_turn
control_sound s w (who.Driver j) play ok = go (nat_lt j driver_count) refl
  where
    go : (b : Bool) → nat_lt j driver_count ≡ b
        → SoundParts s (left_by s w (who.Driver j) (let t : ControlTurn = cond b (driven (driver_idle s j (stand_of w j)) w.control (actor_of s w (who.Driver j)) (driver_turn s w.control j (stand_of w j))) (stays Rest w.control (actor_of s w (who.Driver j))) in t))
    go true e = driven_sound s w j (driver_idle s j (stand_of w j)) (driver_turn s w.control j (stand_of w j)) ok (driver_sound s w j play ok (ltb-true j driver_count e))
    go false e = stays_sound s w (who.Driver j) Rest ok
control_sound s w (who.Back id) play ok = go (nat_lt (place_of s id) (place_count s)) refl
  where
    go : (b : Bool) → nat_lt (place_of s id) (place_count s) ≡ b
        → SoundParts s (left_by s w (who.Back id) (let t : ControlTurn = cond b (wished s (place_of s id) w.control (actor_of s w (who.Back id)) (wish s (place_of s id) (seat_of w (place_of s id)))) (stays Waiting w.control (actor_of s w (who.Back id))) in t))
    go true e = wished_sound s w id (wish s (place_of s id) (seat_of w (place_of s id))) play ok (ltb-true (place_of s id) (place_count s) e) refl
    go false e = stays_sound s w (who.Back id) Waiting ok
control_sound s w who.Device play ok = served_sound s w (device_turn s w.control) ok (device_sound s w play.valid ok)
control_sound s w who.Events play ok = go s.setup.events
  where
    go : (b : Bool) → SoundParts s (left_by s w who.Events (let t : ControlTurn = cond b (event_read w.control (actor_of s w who.Events) w.control.events.waiting) (stays Waiting w.control (actor_of s w who.Events)) in t))
    go true = read_sound s w w.control.events.waiting refl ok
    go false = stays_sound s w who.Events Waiting ok

-- an access of a page
pub access_turn_sound : (s : ScriptValue) (w : World) (a : Who) (page : ℕ) → IsPlayable s → SoundParts s w → accessed_page s a (actor_of s w a) ≡ Some page
    → SoundParts s (left_by_access s w a page (access_turn s a (actor_of s w a) (get_or w.pages page [])))
unfolding accessed_page access_turn
access_turn_sound s w (who.Driver j) page play ok h = absurd cc
access_turn_sound s w (who.Back id) page play ok h = go (nat_lt (place_of s id) (place_count s)) refl h
  where
    k : ℕ
    k = place_of s id

    wishes : k < place_count s → (h : Wish) → wish s (place_of s id) (seat_of w (place_of s id)) ≡ h → wished_page h ≡ Some page
        → SoundParts s (left_by_access s w (who.Back id) page (wished_access s (place_of s id) (actor_of s w (who.Back id)) (get_or w.pages page []) h))
    wishes lt (Accesses l a) e p =
        let at : target_of l a ≡ page = cc in
        subst (λ n. SoundParts s (left_by_access s w (who.Back id) n (wished_access s (place_of s id) (actor_of s w (who.Back id)) (get_or w.pages n []) (Accesses l a)))) at
        (access_sound s w (place_of s id) l a play.valid ok lt (wishes_access s (place_of s id) (seat_of w (place_of s id)) l a e))
    wishes lt (Asks m) e p = absurd cc
    wishes lt (Receives t) e p = absurd cc
    wishes lt Rests e p = absurd cc

    go : (b : Bool) → nat_lt (place_of s id) (place_count s) ≡ b → cond b (wished_page (wish s (place_of s id) (seat_of w (place_of s id)))) None ≡ Some page
        → SoundParts s (left_by_access s w (who.Back id) page (wished_access s (place_of s id) (actor_of s w (who.Back id)) (get_or w.pages page []) (wish s (place_of s id) (seat_of w (place_of s id)))))
    go true e p = wishes (ltb-true (place_of s id) (place_count s) e) (wish s (place_of s id) (seat_of w (place_of s id))) refl p
    go false e p = absurd cc
access_turn_sound s w who.Device page play ok h = absurd cc
access_turn_sound s w who.Events page play ok h = absurd cc

pub page_is : (page : ℕ) (o : Option ℕ) → is_page page o ≡ true → o ≡ Some page
page_is page None h = absurd cc
page_is page (Some p) h = ap Some (eqb-true p page h)

-- a turn
pub turn_sound : (s : ScriptValue) (w : World) (a : Who) → IsPlayable s → SoundParts s w → SoundParts s (turn s w a).world
unfolding turn
turn_sound s w a play ok = go (accessed_page s a (actor_of s w a)) refl
  where
    go : (o : Option ℕ) → accessed_page s a (actor_of s w a) ≡ o → SoundParts s (turn_at s w a o).world
    go None e = control_sound s w a play ok
    go (Some page) e = access_turn_sound s w a page play ok e

pub run_sound : (s : ScriptValue) (w : World) (turns : List Who) → IsPlayable s → SoundParts s w → SoundParts s (run s w turns)
run_sound s w [] play ok = ok
run_sound s w (a ∷ rest) play ok = run_sound s (turn s w a).world rest play (turn_sound s w a play ok)
