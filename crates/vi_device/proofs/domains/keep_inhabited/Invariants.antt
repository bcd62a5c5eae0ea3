use Rattle.std.proofs.Common.{◌≡◌, ℕ, ◌+◌, ◌-◌, vec_len, vec_capacity}
use Rattle.vi_device.specs.Kept.{AreKept}
use Rattle.vi_device.proofs.KeptLemmas.{Passed}
use Rattle.vi_device.proofs.domains.keep_inhabited.Given as goal

abbrev pub invariant-loop-place : goal.invariant-loop-place
invariant-loop-place l = record {
  passed : Passed l.endpoints l.initial.held.items l.held.items l.place;
  tables : (maps : ℕ) → AreKept maps l.initial.held.items l.initial.unused.items → AreKept maps l.held.items l.unused.items;
  count : vec_len l.held + vec_len l.unused ≡ 16;
  held_room : vec_capacity l.held ≡ vec_capacity l.initial.held;
  unused_room : vec_capacity l.unused ≡ vec_capacity l.initial.unused;
}

abbrev pub decreases-loop-place : goal.decreases-loop-place
decreases-loop-place l = vec_len l.held - l.place
