-- Turns: what one actor does under the control, or with a page of the memory.
use Rattle.std.specs.Prelude.{◌==◌, ℕ, Bool, true, false, ◌&&◌, nat_lt, nat_le, if◌then◌else◌, List, [], ◌∷◌, ◌++◌, length, get_or, set, Option, Some, None}
use Rattle.vi_history.specs.declared.outcome.Shown.{Shown}
use Rattle.vi_history.specs.declared.entry.Entry.{Entry}
use Rattle.vi_history.specs.declared.call.Caller.TheVariants.{Driver}
use Rattle.vi_lines.specs.declared.line.Who.{Who}
use Rattle.vi_lines.specs.declared.line.Who.TheVariants as who
use Rattle.vi_lines.specs.Value.{ScriptValue}
use Rattle.vi_lines.specs.Calls.{lines_of}
use Rattle.vi_model.specs.Control.{Events, Control, Made, driver_count, link_of, with_link}
use Rattle.vi_model.specs.Places.{place_count, place_of}
use Rattle.vi_model.specs.Device.{device_turn}
use Rattle.vi_model.specs.Drivers.{Stand, Driven, driver_turn}
use Rattle.vi_model.specs.Backs.{Wish, Accesses, Asks, Receives, Rests, Exchange, wish, ask, receive, access, target_of, Accessed}
use Rattle.vi_model.specs.Actors.{Actor, stand_in, seat_in, back_actor, driver_actor}
use Rattle.vi_model.specs.Worlds.{World, actor_of, with_actor}

-- what a turn did: it moved, or it waits for another actor, or its actor is finished
pub data Turned : Type 0 where
  Moved : Turned
  Waiting : Turned
  Rest : Turned

-- a turn under control: the control and the actor after it, and the entry that it makes
pub record ControlTurn : Type 0 where
  pub control : Control
  pub actor : Actor
  pub entry : Option Entry
  pub turned : Turned

-- nothing changes
abbrev pub stays : Turned → Control → Actor → ControlTurn
stays turned c a = record { control = c; actor = a; entry = None; turned = turned }

abbrev pub is_none : List ℕ → Bool
is_none [] = true
is_none (n ∷ ns) = false

-- a driver rests where no line is left and none is open
abbrev pub driver_idle : ScriptValue → ℕ → Stand → Turned
driver_idle s driver d = if nat_le (length (lines_of s (Driver driver))) d.submitted && is_none d.open_lines then Rest else Waiting

abbrev pub driven : Turned → Control → Actor → Option Driven → ControlTurn
driven idle c a None = stays idle c a
driven idle c a (Some o) = record { control = o.control; actor = driver_actor o.stand; entry = None; turned = Moved }

-- a back end's exchange with the control
abbrev pub exchanged : ℕ → Turned → Control → Actor → Exchange → ControlTurn
exchanged place idle c a m =
    if m.moved then record { control = with_link c place m.link; actor = back_actor m.seat; entry = None; turned = Moved } else stays idle c a

-- what a back end wishes, under control; an access isn't
abbrev pub wished : ScriptValue → ℕ → Control → Actor → Wish → ControlTurn
wished s place c a (Accesses lease part) = stays Waiting c a
wished s place c a (Asks miss) = exchanged place Waiting c a (ask (link_of c place) (seat_in a) miss)
wished s place c a (Receives tests) = exchanged place Waiting c a (receive s c place tests (link_of c place) (seat_in a))
wished s place c a Rests = exchanged place Rest c a (receive s c place false (link_of c place) (seat_in a))

abbrev pub served : Control → Actor → Option Made → ControlTurn
served c a None = stays Waiting c a
served c a (Some o) = record { control = o.control; actor = a; entry = o.entry; turned = Moved }

-- the event reader takes the oldest record and gives its buffer back
abbrev pub without_oldest : Control → List Shown → Control
without_oldest c waiting = let e : Events = c.events in record c { events = record e { waiting = waiting } }

abbrev pub event_read : Control → Actor → List Shown → ControlTurn
event_read c a [] = stays Waiting c a
event_read c a (x ∷ waiting) = record { control = without_oldest c waiting; actor = a; entry = None; turned = Moved }

-- An actor's turn under control. Where it waits or rests, where it is an access, and where the script has no such
-- actor, all stays and no entry is made.
unfoldable pub control_turn : ScriptValue → Who → Control → Actor → ControlTurn
control_turn s (who.Driver number) c a =
    if nat_lt number driver_count then driven (driver_idle s number (stand_in a.progress)) c a (driver_turn s c number (stand_in a.progress)) else stays Rest c a
control_turn s (who.Back id) c a =
    if nat_lt (place_of s id) (place_count s) then wished s (place_of s id) c a (wish s (place_of s id) (seat_in a)) else stays Waiting c a
control_turn s who.Device c a = served c a (device_turn s c)
control_turn s who.Events c a = if s.setup.events then event_read c a c.events.waiting else stays Waiting c a

-- the page of the memory that a back end's wish accesses
abbrev pub wished_page : Wish → Option ℕ
wished_page (Accesses lease part) = Some (target_of lease part)
wished_page (Asks miss) = None
wished_page (Receives tests) = None
wished_page Rests = None

-- the page of the memory that an actor's turn accesses, if the turn is an access
unfoldable pub accessed_page : ScriptValue → Who → Actor → Option ℕ
accessed_page s (who.Driver number) a = None
accessed_page s (who.Back id) a = if nat_lt (place_of s id) (place_count s) then wished_page (wish s (place_of s id) (seat_in a)) else None
accessed_page s who.Device a = None
accessed_page s who.Events a = None

abbrev pub is_page : ℕ → Option ℕ → Bool
is_page page None = false
is_page page (Some p) = p == page

-- this actor's turn is an access of this page
abbrev pub accesses : ScriptValue → Who → ℕ → Actor → Bool
accesses s who page a = is_page page (accessed_page s who a)

-- an access: the page's bytes and the actor after it, and the entry that it makes
pub record AccessTurn : Type 0 where
  pub page : List ℕ
  pub actor : Actor
  pub entry : Option Entry

abbrev pub no_access : Actor → List ℕ → AccessTurn
no_access a bytes = record { page = bytes; actor = a; entry = None }

abbrev pub from_accessed : Accessed → AccessTurn
from_accessed x = record { page = x.page; actor = back_actor x.seat; entry = Some x.entry }

abbrev pub wished_access : ScriptValue → ℕ → Actor → List ℕ → Wish → AccessTurn
wished_access s place a bytes (Accesses lease part) = from_accessed (access s place (seat_in a) lease part bytes)
wished_access s place a bytes (Asks miss) = no_access a bytes
wished_access s place a bytes (Receives tests) = no_access a bytes
wished_access s place a bytes Rests = no_access a bytes

-- the access of an actor's turn, on the bytes of its page
unfoldable pub access_turn : ScriptValue → Who → Actor → List ℕ → AccessTurn
access_turn s (who.Driver number) a bytes = no_access a bytes
access_turn s (who.Back id) a bytes = wished_access s (place_of s id) a bytes (wish s (place_of s id) (seat_in a))
access_turn s who.Device a bytes = no_access a bytes
access_turn s who.Events a bytes = no_access a bytes

abbrev pub made_entries : Option Entry → List Entry
made_entries None = []
made_entries (Some h) = h ∷ []

-- the world that a turn under control leaves
abbrev pub left_by : ScriptValue → World → Who → ControlTurn → World
left_by s w who t = with_actor s who t.actor (record w { control = t.control; history = w.history ++ made_entries t.entry })

-- the world that an access of a page leaves
abbrev pub left_by_access : ScriptValue → World → Who → ℕ → AccessTurn → World
left_by_access s w who page t = with_actor s who t.actor (record w { pages = set w.pages page t.page; history = w.history ++ made_entries t.entry })

-- a turn, and what it did
pub record Turn : Type 0 where
  pub world : World
  pub turned : Turned

abbrev pub under_control : ScriptValue → World → Who → ControlTurn → Turn
under_control s w who t = record { world = left_by s w who t; turned = t.turned }

abbrev pub turn_at : ScriptValue → World → Who → Option ℕ → Turn
turn_at s w who None = under_control s w who (control_turn s who w.control (actor_of s w who))
turn_at s w who (Some page) = record { world = left_by_access s w who page (access_turn s who (actor_of s w who) (get_or w.pages page [])); turned = Moved }

-- One turn of an actor: an access of a page of the memory, or a turn under control.
unfoldable pub turn : ScriptValue → World → Who → Turn
turn s w who = turn_at s w who (accessed_page s who (actor_of s w who))

-- the world after some turns
abbrev pub run : ScriptValue → World → List Who → World
run s w [] = w
run s w (who ∷ rest) = run s (turn s w who).world rest
