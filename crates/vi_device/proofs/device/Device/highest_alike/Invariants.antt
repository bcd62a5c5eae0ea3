use Rattle.std.proofs.Common.{◌≡◌, ℕ, ◌+◌, ◌-◌, ◌*◌, ◌/◌, ◌≤◌, ◌<◌, true}
use Rattle.vi_history.specs.Runs.{goes_alike}
use Rattle.vi_device.specs.Values.{id_at}
use Rattle.vi_device.proofs.device.Device.highest_alike.Given as goal

abbrev pub invariant-loop-high : goal.invariant-loop-high
invariant-loop-high l = record {
  is_last : l.last ≡ l.page / 16 * 16 + 15;
  from : l.page ≤ l.high;
  block : l.high ≤ l.last;
  all : (q : ℕ) → l.page < q → q ≤ l.high → goes_alike l.self.dev (id_at l.self.dev l.place) l.page q ≡ true;
}

abbrev pub decreases-loop-high : goal.decreases-loop-high
decreases-loop-high l = l.last - l.high
