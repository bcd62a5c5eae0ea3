use Rattle.std.proofs.Common.{◌≡◌, ◌≤◌, drop, length}
use Rattle.vi_calls.specs.Rows.{first_token}
use Rattle.vi_calls.proofs.row.first.Given as goal

abbrev pub invariant-loop-left : goal.invariant-loop-left
invariant-loop-left l = (l.left ≤ length l.tokens) × (l.first ≡ first_token (drop l.left l.tokens))

abbrev pub decreases-loop-left : goal.decreases-loop-left
decreases-loop-left l = l.left
