use Rattle.std.proofs.Common.{◌≡◌, ◌==◌, ◌+◌, ◌-◌, ◌≤◌, true, not, cond, is_some, List, length, length-set, vec_capacity, ap, refl, arith}
use Rattle.vi_grants.specs.declared.row.Grant.{Grant}
use Rattle.vi_grants.specs.Rows.{GrantRow, grant_of, others}
use Rattle.vi_grants.specs.Marks.{slot_of}
use Rattle.vi_grants.proofs.MarkLemmas.{AreMarked-push, AreMarked-filter}
use Rattle.vi_grants.proofs.RowLemmas.{IsRow-granted, room-granted}
use Rattle.vi_grants.proofs.row.Row.add.Goals as goal

pub push_reserved-requires : goal.push_reserved-requires
push_reserved-requires c =
    let row : GrantRow = record { grants = c.self.inside.grants.items; spare = c.self.inside.spare } in
    let fits : length row.grants + row.spare ≤ vec_capacity c.self.inside.grants = omega (arith, c.self.inside.grants.ok.0, c.self.invariant.1) in
    let room = room-granted c.args.asked row (vec_capacity c.self.inside.grants) fits (rw (← c.self.view_is) at c.requires.room) in
    let kept = ap (λ (gs : List Grant). length gs) c.take_out-had.ensures.items in
    omega (arith, kept, room, c.take_out-had.ensures.capacity, c.take_out-had.new.grants.ok.0)

pub invariant_of-self : goal.invariant_of-self
invariant_of-self c =
    let row : GrantRow = record { grants = c.self.inside.grants.items; spare = c.self.inside.spare } in
    let fits : length row.grants + row.spare ≤ vec_capacity c.self.inside.grants = omega (arith, c.self.inside.grants.ok.0, c.self.invariant.1) in
    let small : length row.grants + row.spare ≤ 4294967295 = omega (arith, c.self.inside.grants.ok.0, c.self.invariant.2) in
    let has_room = rw (← c.self.view_is) at c.requires.room in
    let in_capacity = room-granted c.args.asked row (vec_capacity c.self.inside.grants) fits has_room in
    let in_u32 = room-granted c.args.asked row 4294967295 small has_room in
    let kept = ap (λ (gs : List Grant). length gs) c.take_out-had.ensures.items in
    let left : c.room_left-self-inside.result ≡ cond (is_some (grant_of c.args.asked row.grants)) row.spare (row.spare - 1) =
    rw (c.room_left-self-inside.ensures, c.take_out-had.ensures.had) refl in (
      rw (c.push_reserved.ensures.items, c.take_out-had.ensures.items) (IsRow-granted c.args.asked c.args.lease row c.room_left-self-inside.result c.self.invariant.0 c.requires.lease c.requires.has_asked),
      omega (arith, kept, left, in_capacity, c.push_reserved.ensures.len, c.push_reserved.ensures.capacity, c.take_out-had.ensures.capacity, c.take_out-had.new.grants.ok.0),
      omega (arith, kept, left, in_u32, c.push_reserved.ensures.len, c.take_out-had.new.grants.ok.0),
      rw (c.mark.ensures) (omega (arith, c.self.invariant.3, length-set c.self.inside.marks (slot_of c.args.asked (length c.self.inside.marks)) true)),
      rw (c.mark.ensures, c.push_reserved.ensures.items, c.take_out-had.ensures.items)
          (AreMarked-push c.self.inside.marks c.self.invariant.3 (others c.args.asked c.self.inside.grants.items) (record { asked = c.args.asked; lease = c.args.lease })
          (AreMarked-filter c.self.inside.marks (λ (g : Grant). not (g.asked == c.args.asked)) c.self.inside.grants.items c.self.invariant.4)),
    )

pub returns-clause-row : goal.returns-clause-row
returns-clause-row c = (invariant_of-self c).0
