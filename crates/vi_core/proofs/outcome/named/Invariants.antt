use Rattle.std.proofs.Common.{◌≡◌, take, map}
use Rattle.vi_core.specs.Outcomes.{named_by}
use Rattle.vi_core.proofs.outcome.named.Given as goal

abbrev pub invariant-loop-delivered : goal.invariant-loop-delivered
invariant-loop-delivered l = l.all.items ≡ map (named_by l.numbers) (take l.delivered-index l.shown)
