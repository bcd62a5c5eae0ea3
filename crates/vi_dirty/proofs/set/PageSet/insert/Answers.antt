use Rattle.std.proofs.Common.{◌≡◌, ◌<◌, ◌∙◌, false, length, get_or, sym, arith}
use Rattle.std.proofs.lemmas.List.{get_or_read}
use Rattle.vi_dirty.proofs.Marking.{has_room, seen_now, seen_twice}
use Rattle.vi_dirty.proofs.set.PageSet.insert.Goals as goal

pub push_reserved-requires : goal.push_reserved-requires
push_reserved-requires c =
    let marks = c.self.inside.marks.items in
    let lt : c.args.page < length marks = rw (← c.self.view_is) at c.requires in
    let is : get_or marks c.args.page false ≡ false = sym (get_or_read marks c.args.page c.index.result.now lt c.index.ensures false) ∙ c.if-not-index.true in
    omega (arith, has_room marks c.self.inside.order.items _ c.args.page c.self.invariant lt is, c.self.inside.order.ok.0)

pub returns-then-not-index : goal.returns-then-not-index
returns-then-not-index c =
    let marks = c.self.inside.marks.items in
    let lt : c.args.page < length marks = rw (← c.self.view_is) at c.requires in
    rw (← c.self.view_is) (seen_now marks c.args.page lt)

pub returns-else-not-index : goal.returns-else-not-index
returns-else-not-index c =
    let marks = c.self.inside.marks.items in
    let lt : c.args.page < length marks = rw (← c.self.view_is) at c.requires in
    let is = sym (get_or_read marks c.args.page c.index.result.now lt c.index.ensures false) ∙ c.if-not-index.false in
    rw (← c.self.view_is) (seen_twice marks c.args.page is)
