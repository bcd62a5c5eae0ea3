use Rattle.vi_prop.proofs.Filled.{IsFilled}
use Rattle.vi_prop.proofs.encoding.encode.Given as goal

abbrev pub invariant-loop-i : goal.invariant-loop-i
invariant-loop-i l = IsFilled l.regions l.i l.bytes
