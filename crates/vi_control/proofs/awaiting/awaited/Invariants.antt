use Rattle.std.proofs.Common.{◌≡◌, ◌<◌, ◌≤◌, ℕ, false, length, get_or}
use Rattle.vi_control.specs.Awaits.{stands_in_way}
use Rattle.vi_control.proofs.awaiting.awaited.Given as goal

abbrev pub invariant-loop-place : goal.invariant-loop-place
invariant-loop-place l = record {
  long : length l.flags ≡ 16;
  told : (k : ℕ) → k < l.place → get_or l.flags k false ≡ stands_in_way l.device.dev l.removals.ids l.grants l.task k;
  others : (k : ℕ) → l.place ≤ k → get_or l.flags k false ≡ false;
}
