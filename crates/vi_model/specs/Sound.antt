-- When a world is sound: what every turn keeps.
use Rattle.std.specs.Prelude.{◌≡◌, ℕ, ◌+◌, ◌<◌, ◌≤◌, List, Option, length, map}
use Rattle.std.specs.List.{AllByRecursion}
use Rattle.vi_history.specs.Device.{Dev}
use Rattle.vi_history.specs.Start.{start}
use Rattle.vi_history.specs.Histories.{after, IsLegal}
use Rattle.vi_history.specs.Records.{records}
use Rattle.vi_history.specs.declared.call.Call.{Call}
use Rattle.vi_history.specs.declared.entry.Entry.{Entry}
use Rattle.vi_history.specs.declared.outcome.Shown.{Shown}
use Rattle.vi_lines.specs.Value.{ScriptValue}
use Rattle.vi_lines.specs.Legal.{AreCalls}
use Rattle.vi_lines.specs.Order.{IsOrderedSoFar}
use Rattle.vi_model.specs.Lanes.{Miss, Lanes}
use Rattle.vi_grants.specs.declared.row.Grant.{Grant}
use Rattle.vi_model.specs.Removals.{Removal}
use Rattle.vi_model.specs.Control.{Link, Events, Control, driver_count, port_of, link_of}
use Rattle.vi_model.specs.Places.{place_count, id_at}
use Rattle.vi_model.specs.Backs.{Seat}
use Rattle.vi_model.specs.Worlds.{World, stand_of, seat_of}
use Rattle.vi_model.specs.Whole.{IsWholeDev}
use Rattle.vi_model.specs.Links.{IsLinked}
use Rattle.vi_model.specs.Asking.{AsksOnce}
use Rattle.vi_model.specs.Tracks.{IsTracked}
use Rattle.vi_model.specs.Held.{AreQueued, IsRemoval, SettingIsCall, count_held, IsSoundDriver}
use Rattle.vi_model.specs.Shown.{AreShown}
use Rattle.vi_model.specs.Rooms.{all_maps, all_transfers, pages_of, HasGrantRoom}

-- the bytes of the records of a history whose entries answer these calls
abbrev pub record_bytes : List Call → List Entry → List (List ℕ)
record_bytes calls entries = map (λ (x : Shown). x.bytes) (records calls entries)

-- The history is legal and in order so far, and the device, the memory and the delivered records are what it leads to.
pub record IsTold (s : ScriptValue) (dev : Dev) (memory : List (List ℕ)) (e : Events) (entries : List Entry) : Type 0 where
  pub calls : List Call
  pub named : AreCalls s entries calls
  pub legal : IsLegal (start s.setup) calls entries
  pub ordered : IsOrderedSoFar s entries
  pub one : after (start s.setup) calls ≡ record { dev = dev; memory = memory }
  pub shown : AreShown s.setup.queue (record_bytes calls entries) e

-- one row for each place in each table
pub record HasRows (grants : List (List Grant)) (spares : List ℕ) (mail : List Lanes) (parked : List (Option Miss)) (posted : List ℕ) (places : ℕ) : Type 0 where
  pub of_grants : length grants ≡ places
  pub of_spares : length spares ≡ places
  pub of_mail : length mail ≡ places
  pub of_parked : length parked ≡ places
  pub of_posted : length posted ≡ places

abbrev pub HasTables : Control → ℕ → Type 0
HasTables c places = HasRows c.grants c.spares c.mail c.parked c.posted places

-- what is so of each back end
pub record IsSoundBack (s : ScriptValue) (dev : Dev) (removals : List Removal) (entries : List Entry) (place : ℕ) (x : Link) (z : Seat) : Type 0 where
  pub link : IsLinked dev removals (id_at s place) place x.grants z.cache x.down x.acks
  pub miss : AsksOnce s place x z
  pub track : IsTracked s entries place x z
  pub room : HasGrantRoom (pages_of s place) x.grants x.spare

-- the parts of soundness
pub record SoundParts (s : ScriptValue) (w : World) : Type 0 where
  pub told : IsTold s w.control.dev w.pages w.control.events w.history
  pub whole : IsWholeDev w.control.dev
  -- a domain's mappings and the room that is left for more are together this number
  pub maps : all_maps s ≤ w.control.mappings
  pub records : all_transfers s ≤ length w.control.events.shown + w.control.events.room
  pub tables : HasTables w.control (place_count s)
  pub seats : length w.seats ≡ place_count s
  pub ports : length w.control.ports ≡ driver_count
  pub stands : length w.stands ≡ driver_count
  pub queue : AreQueued s w.control.queue
  pub removals : AllByRecursion (IsRemoval s (place_count s)) w.control.removals
  pub settings : (driver : ℕ) → driver < driver_count → SettingIsCall s driver (port_of w.control driver).setting
  pub backs : (place : ℕ) → place < place_count s → IsSoundBack s w.control.dev w.control.removals w.history place (link_of w.control place) (seat_of w place)
  pub drivers : (driver : ℕ) → driver < driver_count
      → IsSoundDriver s driver (count_held w.control.queue w.control.removals (port_of w.control driver).setting driver) w.history (port_of w.control driver).answered (port_of w.control driver).posted (stand_of w driver)

-- A world of a script is sound.
unfoldable pub IsSound : ScriptValue → World → Type 0
IsSound s w = SoundParts s w
