-- What each kind of actor's turn keeps.
use Rattle.std.specs.Prelude.{◌≡◌}
use Rattle.vi_lines.specs.declared.line.Who.{Who}
use Rattle.vi_lines.specs.declared.line.Who.TheVariants as who
use Rattle.vi_driver.specs.Drivers.{OwnDriver}
use Rattle.vi_backend.specs.Own.{Own}
use Rattle.vi_turns.specs.Passes.{PassValue}
use Rattle.vi_turns.specs.declared.view.View.{View}
use Rattle.vi_run.specs.declared.ran.Ran.{Ran}
use Rattle.vi_run.specs.Actors.{ActorValue, IsIdle}
use Rattle.vi_run.specs.Taking.{HasRun}

-- the actor of a pass
abbrev pub actor_with : PassValue → Who → ActorValue
actor_with p who = record { pass = p; who = who }

abbrev pub driver_with : PassValue → OwnDriver → ActorValue
driver_with p d = actor_with p (who.Driver d.number)

abbrev pub back_with : PassValue → Own → ActorValue
back_with p b = actor_with p (who.Back b.id)

abbrev pub device_with : PassValue → ActorValue
device_with p = actor_with p who.Device

abbrev pub reader_with : PassValue → ActorValue
reader_with p = actor_with p who.Events

-- from one pass to the other is a turn of this actor
pub record HasTurned (w : Who) (old new : PassValue) (r : Ran) : Type 0 where
  pub idle : IsIdle (actor_with new w)
  pub number : (let v : View = new.view in v.number) ≡ (let v : View = old.view in v.number)
  pub ran : HasRun old.view new.view r
