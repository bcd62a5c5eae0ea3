use Rattle.std.proofs.Common.{◌≡◌, ◌<◌, ◌≤◌, ℕ, length, get_or}
use Rattle.vi_model.specs.Control.{no_lanes}
use Rattle.vi_model.specs.Tasks.{reach_between}
use Rattle.vi_control.specs.Awaits.{told_at}
use Rattle.vi_control.proofs.awaiting.tell.Given as goal

abbrev pub invariant-loop-place : goal.invariant-loop-place
invariant-loop-place l = record {
  long : length l.lanes.mail ≡ length l.initial.lanes.mail;
  parked : l.lanes.parked ≡ l.initial.lanes.parked;
  told : (k : ℕ) → k < l.place → get_or l.lanes.mail k no_lanes ≡ told_at l.waits.0 (reach_between l.span.first l.span.last) l.initial.lanes.mail k;
  others : (k : ℕ) → l.place ≤ k → get_or l.lanes.mail k no_lanes ≡ get_or l.initial.lanes.mail k no_lanes;
}
