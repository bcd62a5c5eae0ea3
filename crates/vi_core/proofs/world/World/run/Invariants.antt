use Rattle.std.proofs.Common.{◌≡◌, take}
use Rattle.vi_model.specs.Turns.{run}
use Rattle.vi_core.specs.Running.{Running}
use Rattle.vi_core.proofs.world.World.run.Given as goal

abbrev pub invariant-loop-who : goal.invariant-loop-who
invariant-loop-who l = record {
  script : (let r : Running = l.self in r.script) ≡ (let r : Running = l.initial.self in r.script);
  world : (let r : Running = l.self in r.world) ≡ run (let r : Running = l.initial.self in r.script) (let r : Running = l.initial.self in r.world) (take l.who-index l.turns);
}
