use Rattle.std.proofs.Common.{◌≡◌, ℕ, ◌-◌, ◌≤◌, ◌<◌, false}
use Rattle.vi_control.specs.Places.{closed_at}
use Rattle.vi_control.proofs.granting.highest_open.Given as goal

abbrev pub invariant-loop-high : goal.invariant-loop-high
invariant-loop-high l = record {
  from : l.page ≤ l.high;
  to : l.high ≤ l.last;
  all : (q : ℕ) → l.page < q → q ≤ l.high → closed_at l.device.dev l.removals l.place q ≡ false;
}

abbrev pub decreases-loop-high : goal.decreases-loop-high
decreases-loop-high l = l.last - l.high
