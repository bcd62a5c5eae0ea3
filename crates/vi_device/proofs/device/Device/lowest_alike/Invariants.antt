use Rattle.std.proofs.Common.{◌≡◌, ℕ, ◌-◌, ◌*◌, ◌/◌, ◌≤◌, ◌<◌, true}
use Rattle.vi_history.specs.Runs.{goes_alike}
use Rattle.vi_device.specs.Values.{id_at}
use Rattle.vi_device.proofs.device.Device.lowest_alike.Given as goal

abbrev pub invariant-loop-low : goal.invariant-loop-low
invariant-loop-low l = record {
  is_first : l.first ≡ l.page / 16 * 16;
  up_to : l.low ≤ l.page;
  block : l.first ≤ l.low;
  all : (q : ℕ) → l.low ≤ q → q < l.page → goes_alike l.self.dev (id_at l.self.dev l.place) l.page q ≡ true;
}

abbrev pub decreases-loop-low : goal.decreases-loop-low
decreases-loop-low l = l.low - l.first
