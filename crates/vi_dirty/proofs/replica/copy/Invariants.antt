use Rattle.std.proofs.Common.{◌≡◌, drop, length}
use Rattle.vi_dirty.specs.Tracked.{AreEqualBut}
use Rattle.vi_dirty.proofs.replica.copy.Given as goal

-- the memories differ at most in the pages that are still to come
abbrev pub invariant-loop-page : goal.invariant-loop-page
invariant-loop-page l = record {
  length : length l.replica.items ≡ length l.tracker.one.memory;
  but : AreEqualBut (drop l.page-index l.pages) l.replica.items l.tracker.one.memory;
}
