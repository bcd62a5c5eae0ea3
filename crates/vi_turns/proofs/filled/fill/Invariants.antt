use Rattle.std.proofs.Common.{◌≡◌, ◌++◌, vec_capacity}
use Rattle.std.specs.Vec.Iter.{into_iter_items}
use Rattle.vi_turns.specs.Ended.{page_slots}
use Rattle.vi_turns.proofs.filled.fill.Given as goal

abbrev pub invariant-loop-page : goal.invariant-loop-page
invariant-loop-page l =
    (l.slots.items ≡ l.fn.slots.items ++ page_slots l.yielded)
    × (l.fn.pages.items ≡ l.yielded ++ into_iter_items l.page-iterator)
    × (vec_capacity l.slots ≡ vec_capacity l.fn.slots)
