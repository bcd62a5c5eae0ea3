use Rattle.std.proofs.Common.{rules, arith}
use Rattle.vi_turns.proofs.Wins.{fronts}
use Rattle.vi_turns.proofs.shared.Shared.front.Goals as goal

pub load-requires : goal.load-requires
load-requires c = (search rules, omega arith, fronts _ _ _ _ c.pass.invariant.1)
