-- What actors begin with.
use Rattle.std.specs.Prelude.{◌≡◌, ◌<◌, ℕ}
use Rattle.vi_lines.specs.declared.line.Who.{Who}
use Rattle.vi_lines.specs.declared.line.Who.TheVariants as who
use Rattle.vi_lines.specs.Value.{ScriptValue}
use Rattle.vi_model.specs.Control.{driver_count}
use Rattle.vi_model.specs.Places.{place_count, place_of}
use Rattle.vi_log.specs.Logs.{LogValue}
use Rattle.vi_model.specs.Rounds.{calls_of}
use Rattle.vi_core.specs.HistoryRoom.{bytes_of}
use Rattle.vi_model.specs.Drivers.{no_stand}
use Rattle.vi_model.specs.Backs.{no_seat}
use Rattle.vi_driver.specs.Drivers.{OwnDriver, own_driver}
use Rattle.vi_backend.specs.Own.{Own, IsOwn, IsBackOf}
use Rattle.vi_run.specs.declared.role.Role.{Role}
use Rattle.vi_run.specs.declared.role.Role.TheVariants as role

-- the driver before its first call
pub record IsNewDriver (s : ScriptValue) (w : Who) (d : OwnDriver) : Type 0 where
  pub who_is : w ≡ who.Driver d.number
  pub number : d.number < driver_count
  pub own : d ≡ own_driver s d.number no_stand

-- the back end before its first call
pub record IsNewBack (s : ScriptValue) (w : Who) (place : ℕ) (b : Own) : Type 0 where
  pub who_is : w ≡ who.Back b.id
  pub place_is : place_of s b.id ≡ place
  pub below : place < place_count s
  pub back : IsBackOf s place b
  pub own : IsOwn b
  pub seat : b.seat ≡ no_seat

-- what this actor works with before its first turn
abbrev pub IsNew : ScriptValue → Who → Role → Type 0
IsNew s w (role.Driver d) = IsNewDriver s w d
IsNew s w (role.Back place b) = IsNewBack s w place b
IsNew s w role.Device = w ≡ who.Device
IsNew s w (role.Events events) = (w ≡ who.Events) × (events ≡ s.setup.events)

-- a log with room for an entry of each call of the script, and for all bytes that they can have
pub record HasAllRoom (s : ScriptValue) (log : LogValue) : Type 0 where
  pub entries : log.spare_entries ≡ calls_of s
  pub bytes : log.spare_bytes ≡ bytes_of s

-- a driver and the event reader make no entries
abbrev pub HasRoomFor : ScriptValue → Role → LogValue → Type 0
HasRoomFor s (role.Driver d) log = Unit {0}
HasRoomFor s (role.Back place b) log = HasAllRoom s log
HasRoomFor s role.Device log = HasAllRoom s log
HasRoomFor s (role.Events events) log = Unit {0}
