use Rattle.std.proofs.Common.{◌≡◌, ℕ, false, drop, get_or, length}
use Rattle.vi_dirty.specs.Marks.{one_if, times}
use Rattle.vi_dirty.proofs.set.unmark.Given as goal

-- the pages that are still to come are those that are marked
abbrev pub invariant-loop-page : goal.invariant-loop-page
invariant-loop-page l = record {
  once : (page : ℕ) → times page (drop l.page-index l.pages) ≡ one_if (get_or l.marks.items page false);
  length : length l.marks.items ≡ length l.initial.marks.items;
}
