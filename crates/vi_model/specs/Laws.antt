-- What is known of every sound world and of every turn.
use Rattle.std.specs.Prelude.{◌≡◌, ◌⊎◌, ◌==◌, ◌≢◌, ◌<◌, ◌≤◌, ℕ, Bool, true, false, List, [], ◌∷◌, length, get_or, set, Some}
use Rattle.std.specs.List.{AllByRecursion}
use Rattle.vi_bytes.specs.declared.lease.Lease.{Lease}
use Rattle.vi_bytes.specs.declared.part.Part.{Part}
use Rattle.vi_lines.specs.declared.line.Who.{Who}
use Rattle.vi_lines.specs.declared.line.Who.TheVariants as who
use Rattle.vi_lines.specs.Value.{ScriptValue}
use Rattle.vi_lines.specs.Valid.{IsValid}
use Rattle.vi_lines.specs.Fields.{HasFields}
use Rattle.vi_history.specs.declared.call.Caller.TheVariants.{Driver}
use Rattle.vi_history.specs.declared.call.Call.{Call}
use Rattle.vi_history.specs.declared.call.Call.TheVariants as call
use Rattle.vi_history.specs.Device.{One}
use Rattle.vi_history.specs.Translation.{lease, permits}
use Rattle.vi_history.specs.Replies.{reply, next, page_at}
use Rattle.vi_history.specs.Histories.{answer_of}
use Rattle.vi_lines.specs.Calls.{lines_of}
use Rattle.vi_lines.specs.Ordered.{IsOrdered}
use Rattle.vi_lines.specs.Legal.{IsLegalHistory}
use Rattle.vi_lines.specs.Order.{IsOrderedSoFar}
use Rattle.vi_model.specs.Places.{place_count, place_of, id_at, back_at}
use Rattle.vi_model.specs.Control.{driver_count}
use Rattle.vi_model.specs.Actors.{Actor}
use Rattle.vi_model.specs.Worlds.{World, stand_of, seat_of, actor_of, with_actor, opening}
use Rattle.vi_model.specs.Turns.{Moved, ControlTurn, AccessTurn, control_turn, accesses, access_turn, left_by, left_by_access, turn, run}
use Rattle.vi_model.specs.Playable.{IsPlayable}
use Rattle.vi_model.specs.Grants.{piece}
use Rattle.vi_model.specs.Serves.{page_of}
use Rattle.vi_model.specs.Backs.{Seat, Access, Work, Reading, Writing, need_of, target_of, Accessed, access}
use Rattle.vi_model.specs.Whole.{IsWholeDev}
use Rattle.vi_model.specs.Sound.{IsSound}

-- a valid script whose requests fit their fields can be played
abbrev pub ValidIsPlayable : Type 0
ValidIsPlayable = (s : ScriptValue) → IsValid s → HasFields s → IsPlayable s

-- the world in which nothing has happened is sound
abbrev pub OpeningIsSound : Type 0
OpeningIsSound = (s : ScriptValue) → IsPlayable s → IsSound s (opening s)

-- a turn under control keeps a sound world sound
abbrev pub ControlKeepsSound : Type 0
ControlKeepsSound = (s : ScriptValue) (w : World) (a : Who) → IsPlayable s → IsSound s w → IsSound s (left_by s w a (control_turn s a w.control (actor_of s w a)))

-- so does an access of a page
abbrev pub AccessesKeepSound : Type 0
AccessesKeepSound = (s : ScriptValue) (w : World) (a : Who) (page : ℕ) → IsPlayable s → IsSound s w → accesses s a page (actor_of s w a) ≡ true
    → IsSound s (left_by_access s w a page (access_turn s a (actor_of s w a) (get_or w.pages page [])))

-- the call that an access of an endpoint is
abbrev pub access_call : ℕ → Part → Work → Call
access_call id part Reading = call.Read id part
access_call id part (Writing bytes) = call.Write id part bytes

-- the access of this page has the one-thread device's answer to the call, and leaves the memory that this device leaves
pub record IsAnswered (one : One) (c : Call) (page : ℕ) (x : Accessed) : Type 0 where
  pub answer : answer_of x.entry ≡ reply one c
  pub memory : next one c ≡ record one { memory = set one.memory page x.page }

-- So it is wherever the lease leads as the device does now, and permits the access.
abbrev pub AccessesAnswer : Type 0
AccessesAnswer = (s : ScriptValue) (place : ℕ) (z : Seat) (one : One) (l : Lease) (a : Access) → IsWholeDev one.dev
    → lease one.dev (id_at s place) (page_of a.part.iova) ≡ Some (piece l (page_of a.part.iova)) → permits (need_of a.work) l.perm ≡ true
    → IsAnswered one (access_call (id_at s place) a.part a.work) (target_of l a) (access s place z l a (page_at one.memory (target_of l a)))

-- and so every turn, whoever takes it
abbrev pub TurnsKeepSound : Type 0
TurnsKeepSound = (s : ScriptValue) (w : World) (a : Who) → IsPlayable s → IsSound s w → IsSound s (turn s w a).world

-- the lease is one of these
abbrev pub IsAmong : List Lease → Lease → Type 0
IsAmong [] l = ⊥
IsAmong (x ∷ xs) l = (x ≡ l) ⊎ IsAmong xs l

-- the world in which the actor caches these leases
abbrev pub with_leases : ScriptValue → World → Who → List Lease → World
with_leases s w a leases = let x : Actor = actor_of s w a in with_actor s a (record x { leases = leases }) w

-- a sound world stays sound where cached leases are left out
abbrev pub FewerLeasesKeepSound : Type 0
FewerLeasesKeepSound = (s : ScriptValue) (w : World) (a : Who) (leases : List Lease) → IsSound s w → AllByRecursion (IsAmong (let x : Actor = actor_of s w a in x.leases)) leases
    → IsSound s (with_leases s w a leases)

-- the history of a sound world is legal and in order so far
abbrev pub SoundIsLegal : Type 0
SoundIsLegal = (s : ScriptValue) (w : World) → IsSound s w → IsLegalHistory s w.history × IsOrderedSoFar s w.history

-- so whatever turns are taken, by whomever, the history is legal and in order so far
abbrev pub EveryRunIsLegal : Type 0
EveryRunIsLegal = (s : ScriptValue) (turns : List Who) → IsPlayable s
    → IsLegalHistory s (run s (opening s) turns).history × IsOrderedSoFar s (run s (opening s) turns).history

-- every line of every caller is finished
pub record HasFinished (s : ScriptValue) (w : World) : Type 0 where
  pub drivers : (driver : ℕ) → driver < driver_count → length (lines_of s (Driver driver)) ≤ (stand_of w driver).submitted
  pub none_open : (driver : ℕ) → driver < driver_count → (stand_of w driver).open_lines ≡ []
  pub backs : (place : ℕ) → place < place_count s → length (lines_of s (back_at s place)) ≤ (seat_of w place).finished

-- where all lines are finished, the history of a sound world is in order, block by block and batch by batch
abbrev pub FinishedIsOrdered : Type 0
FinishedIsOrdered = (s : ScriptValue) (w : World) → IsPlayable s → IsSound s w → HasFinished s w → IsOrdered s w.history

-- a turn that waits or rests changes nothing
abbrev pub OnlyMovedChanges : Type 0
OnlyMovedChanges = (s : ScriptValue) (w : World) (a : Who) → (turn s w a).turned ≢ Moved → (turn s w a).world ≡ w

-- two names of one actor
abbrev pub same_actor : ScriptValue → Who → Who → Bool
same_actor s (who.Driver i) (who.Driver j) = i == j
same_actor s (who.Driver i) (who.Back id) = false
same_actor s (who.Driver i) who.Device = false
same_actor s (who.Driver i) who.Events = false
same_actor s (who.Back id) (who.Driver i) = false
same_actor s (who.Back id) (who.Back other) = place_of s id == place_of s other
same_actor s (who.Back id) who.Device = false
same_actor s (who.Back id) who.Events = false
same_actor s who.Device b = false
same_actor s who.Events b = false

-- a turn changes what no other actor has, neither under control nor with a page
abbrev pub OthersStay : Type 0
OthersStay = (s : ScriptValue) (w : World) (a b : Who) (t : ControlTurn) (x : AccessTurn) (page : ℕ) → same_actor s a b ≡ false
    → (actor_of s (left_by s w a t) b ≡ actor_of s w b) × (actor_of s (left_by_access s w a page x) b ≡ actor_of s w b)

-- what an actor has after its turn is what its turn says
abbrev pub ActorsGoOn : Type 0
ActorsGoOn = (s : ScriptValue) (w : World) (a : Who) → IsSound s w
    → actor_of s (left_by s w a (control_turn s a w.control (actor_of s w a))) a ≡ (let t : ControlTurn = control_turn s a w.control (actor_of s w a) in t.actor)

abbrev pub ActorsAccess : Type 0
ActorsAccess = (s : ScriptValue) (w : World) (a : Who) (page : ℕ) (bytes : List ℕ) → IsSound s w → accesses s a page (actor_of s w a) ≡ true
    → actor_of s (left_by_access s w a page (access_turn s a (actor_of s w a) bytes)) a ≡ (let t : AccessTurn = access_turn s a (actor_of s w a) bytes in t.actor)

-- each place is that of its id
abbrev pub PlacesHaveIds : Type 0
PlacesHaveIds = (s : ScriptValue) (place : ℕ) → IsPlayable s → place < place_count s → place_of s (id_at s place) ≡ place
