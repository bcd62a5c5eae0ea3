use Rattle.std.proofs.Common.{◌≡◌, ℕ, ◌<◌, ◌-◌, true}
use Rattle.vi_shoot.specs.Removals.{has_number}
use Rattle.vi_shoot.proofs.ops.Ops.free_number.Given as goal

abbrev pub invariant-loop-number : goal.invariant-loop-number
invariant-loop-number l = (n : ℕ) → n < l.number → has_number n l.self ≡ true

abbrev pub decreases-loop-number : goal.decreases-loop-number
decreases-loop-number l = 8 - l.number
