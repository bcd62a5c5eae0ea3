use Rattle.std.proofs.Common.{◌≤◌, ◌∙◌, List, ℕ, IsPermutation, length, vec_capacity, subst, arith}
use Rattle.vi_dirty.proofs.Marking.{emptied, marked_set, sorted_pages, seen_none}
use Rattle.vi_dirty.proofs.set.PageSet.take.Goals as goal

pub returns-in_err-pages-clause-set : goal.returns-in_err-pages-clause-set
returns-in_err-pages-clause-set c = rw (← c.self.view_is) (marked_set c.self.inside.marks.items)

pub invariant_of-self : goal.invariant_of-self
invariant_of-self c =
    let room : length c.unmark.new.marks.items ≤ vec_capacity c.clear.new.self = omega (arith, c.unmark.ensures.length, c.clear.ensures.capacity, c.self.invariant.room) in
    rw (c.clear.ensures.items) (emptied c.unmark.new.marks.items (vec_capacity c.clear.new.self) room c.unmark.ensures.none)

pub returns-clause-pages : goal.returns-clause-pages
returns-clause-pages c =
    let moved = subst (λ (l : List ℕ). IsPermutation l c.sort_unstable.new.self.items) (c.in_ok-pages.ensures.items ∙ c.as_slice.ensures.value) c.sort_unstable.ensures.permutation in
    rw (← c.self.view_is) (sorted_pages c.self.inside.marks.items c.self.inside.order.items c.sort_unstable.new.self.items _ c.self.invariant moved c.sort_unstable.ensures.sorted)

pub returns-clause-set : goal.returns-clause-set
returns-clause-set c = rw (← c.self.view_is) (marked_set c.self.inside.marks.items)

pub returns-clause-ok : goal.returns-clause-ok
returns-clause-ok c = rw (← c.self.view_is) (seen_none c.self.inside.marks.items c.unmark.new.marks.items c.unmark.ensures.length c.unmark.ensures.none)
