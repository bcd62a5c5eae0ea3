use Rattle.vi_core.specs.Opening.{AreNew}
use Rattle.vi_core.proofs.opening.backs_of.Given as goal

abbrev pub invariant-loop-place : goal.invariant-loop-place
invariant-loop-place l = AreNew l.script l.place l.backs.items
