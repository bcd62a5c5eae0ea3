use Rattle.std.proofs.Common.{◌≡◌, ℕ, ◌-◌, ◌≤◌, ◌<◌, false}
use Rattle.vi_control.specs.Places.{closed_at}
use Rattle.vi_control.proofs.granting.lowest_open.Given as goal

abbrev pub invariant-loop-low : goal.invariant-loop-low
invariant-loop-low l = record {
  up_to : l.low ≤ l.page;
  from : l.first ≤ l.low;
  all : (q : ℕ) → l.low ≤ q → q < l.page → closed_at l.device.dev l.removals l.place q ≡ false;
}

abbrev pub decreases-loop-low : goal.decreases-loop-low
decreases-loop-low l = l.low - l.first
