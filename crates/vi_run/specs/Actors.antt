-- What contracts see of an actor, and what is so of it between its turns.
use Rattle.std.specs.Prelude.{◌≡◌, ◌<◌, ◌+◌, ℕ, Bool, true, ◌&&◌, nat_le, [], length, sum_by, Some, None}
use Rattle.vi_log.specs.Logs.{Ticketed}
use Rattle.vi_history.specs.declared.call.Caller.TheVariants.{Driver, Back}
use Rattle.vi_lines.specs.declared.line.Who.{Who}
use Rattle.vi_lines.specs.declared.line.Who.TheVariants as who
use Rattle.vi_lines.specs.Value.{ScriptValue}
use Rattle.vi_lines.specs.Calls.{lines_of}
use Rattle.vi_model.specs.Control.{driver_count}
use Rattle.vi_model.specs.Places.{place_count, place_of}
use Rattle.vi_model.specs.Actors.{Actor, stand_in, steps_in, driver_actor, back_actor}
use Rattle.vi_model.specs.Turns.{is_none}
use Rattle.vi_model.specs.Rounds.{calls_of}
use Rattle.vi_driver.specs.Drivers.{OwnDriver, own_driver}
use Rattle.vi_backend.specs.Own.{Own, IsOwn, IsBackOf}
use Rattle.vi_core.specs.HistoryRoom.{bytes_of}
use Rattle.vi_turns.specs.Views.{acts_for}
use Rattle.vi_turns.specs.Order.{IsPlaced}
use Rattle.vi_turns.specs.Passes.{PassValue, Board}
use Rattle.vi_turns.specs.declared.view.View.{View}
use Rattle.vi_run.specs.declared.role.Role.{Role}
use Rattle.vi_run.specs.declared.role.Role.TheVariants as role

-- its pass, and who it is
pub record ActorValue : Type 0 where
  pub pass : PassValue
  pub who : Who

abbrev pub view_of : ActorValue → View
view_of a = let p : PassValue = a.pass in p.view

-- the pass is one of this shared object
pub record IsPassOf (b : Board) (p : PassValue) : Type 0 where
  pub table : p.table ≡ b.table
  pub script : (let v : View = p.view in v.script) ≡ b.script

-- The pass acts for it, holds nothing, took in no other, and is placed in a sound world.
pub record IsIdle (a : ActorValue) : Type 0 where
  pub acts : acts_for (view_of a) ≡ Some a.who
  pub empty : (view_of a).held ≡ None
  pub alone : (view_of a).taken ≡ []
  pub placed : IsPlaced (view_of a)

-- With what is left, its log has room for an entry of each call of the script, and for all bytes that they can have.
pub record HasLogRoom (a : ActorValue) : Type 0 where
  pub entries : length (view_of a).log + a.pass.spare_entries ≡ calls_of (view_of a).script
  pub bytes : sum_by (λ (x : Ticketed). length x.entry.bytes) (view_of a).log + a.pass.spare_bytes ≡ bytes_of (view_of a).script

-- it is this driver of the script
pub record IsDriver (a : ActorValue) (d : OwnDriver) : Type 0 where
  pub who_is : a.who ≡ who.Driver d.number
  pub number : d.number < driver_count
  pub own : d ≡ own_driver (view_of a).script d.number d.stand
  pub actor : (view_of a).actor ≡ driver_actor d.stand

-- it is this back end of the script
pub record IsBack (a : ActorValue) (place : ℕ) (b : Own) : Type 0 where
  pub who_is : a.who ≡ who.Back b.id
  pub place_is : place_of (view_of a).script b.id ≡ place
  pub below : place < place_count (view_of a).script
  pub back : IsBackOf (view_of a).script place b
  pub own : IsOwn b
  pub actor : (view_of a).actor ≡ back_actor b.seat
  pub room : HasLogRoom a

pub record IsDevice (a : ActorValue) : Type 0 where
  pub who_is : a.who ≡ who.Device
  pub room : HasLogRoom a

pub record IsReader (a : ActorValue) (events : Bool) : Type 0 where
  pub who_is : a.who ≡ who.Events
  pub events_is : events ≡ (view_of a).script.setup.events

-- what it works with is what its turns need
abbrev pub Plays : Role → ActorValue → Type 0
Plays (role.Driver d) a = IsDriver a d
Plays (role.Back place b) a = IsBack a place b
Plays role.Device a = IsDevice a
Plays (role.Events events) a = IsReader a events

-- all its lines are finished
abbrev pub is_done_by : ScriptValue → Who → Actor → Bool
is_done_by s (who.Driver number) a = nat_le (length (lines_of s (Driver number))) (stand_in a.progress).submitted && is_none (stand_in a.progress).open_lines
is_done_by s (who.Back id) a = nat_le (length (lines_of s (Back id))) (steps_in a.progress).finished
is_done_by s who.Device a = true
is_done_by s who.Events a = true

abbrev pub is_done : ActorValue → Bool
is_done a = is_done_by (view_of a).script a.who (view_of a).actor
