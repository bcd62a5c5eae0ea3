-- What a turn leaves.
use Rattle.std.specs.Prelude.{◌≡◌}
use Rattle.vi_lines.specs.declared.line.Who.{Who}
use Rattle.vi_model.specs.Turns.{turn}
use Rattle.vi_core.specs.declared.turned.Turned.{Turned}
use Rattle.vi_core.specs.Turning.{turned_of}
use Rattle.vi_core.specs.Running.{Running}
use Rattle.vi_core.specs.Parts.{Parts, IsKept, world_of}

-- from the first to the second is this actor's turn, and that is what it did
pub record HasTurned (who : Who) (old new : Running) (turned : Turned) : Type 0 where
  pub script : new.script ≡ old.script
  pub world : new.world ≡ (turn old.script old.world who).world
  pub turned_is : turned_of turned ≡ (turn old.script old.world who).turned

-- so it is of the parts of a world
pub record HasMoved (who : Who) (p q : Parts) (turned : Turned) : Type 0 where
  pub kept : IsKept q
  pub script : q.script ≡ p.script
  pub world : world_of q ≡ (turn p.script (world_of p) who).world
  pub turned_is : turned_of turned ≡ (turn p.script (world_of p) who).turned
