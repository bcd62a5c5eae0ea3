-- A run is its script and its world.
use Rattle.std.proofs.Common.{◌≡◌, ap, ◌∙◌}
use Rattle.vi_lines.specs.Value.{ScriptValue}
use Rattle.vi_model.specs.Worlds.{World}
use Rattle.vi_core.specs.Running.{Running}

pub run_is : (r : Running) (s : ScriptValue) (w : World) → r.script ≡ s → r.world ≡ w → r ≡ record { script = s; world = w }
run_is r s w e f = ap (λ (t : ScriptValue). let x : Running = record { script = t; world = r.world } in x) e ∙ ap (λ (v : World). let x : Running = record { script = s; world = v } in x) f
