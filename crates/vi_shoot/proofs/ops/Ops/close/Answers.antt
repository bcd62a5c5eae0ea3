use Rattle.std.proofs.Common.{◌≡◌, Some, ap, sym, ◌∙◌}
use Rattle.std.specs.List.{position}
use Rattle.vi_shoot.specs.declared.ops.Op.{Op}
use Rattle.vi_shoot.specs.Removals.{is_number, what_and_token}
use Rattle.vi_shoot.proofs.Firsts.{is_some-position, find_position}
use Rattle.vi_shoot.proofs.Numbers.{without_number-position, AreOpen-without}
use Rattle.vi_shoot.proofs.Oldest.{has_number-closable}
use Rattle.vi_shoot.proofs.ops.Ops.close.Goals as goal

pub unwrap-at-requires : goal.unwrap-at-requires
unwrap-at-requires c = rw c.numbered.ensures (is_some-position (λ (op : Op). is_number c.args.number op) c.args.self.now (has_number-closable c.args.self.now c.args.number c.requires))

pub invariant_of-self : goal.invariant_of-self
invariant_of-self c =
    let at : position (λ op. is_number c.args.number op) c.self.inside.open.items ≡ Some c.unwrap-at.result = rw c.self.view_is (sym c.numbered.ensures ∙ c.unwrap-at.ensures) in
    let left = without_number-position c.args.number c.unwrap-at.result c.self.inside.open.items c.remove-what.result c.self.invariant.each at in
    rw (c.remove-what.ensures.items, ← left) (AreOpen-without c.args.number c.self.inside.open.items c.self.invariant)

pub returns-clause-closed : goal.returns-clause-closed
returns-clause-closed c =
    let at : position (λ op. is_number c.args.number op) c.self.inside.open.items ≡ Some c.unwrap-at.result = rw c.self.view_is (sym c.numbered.ensures ∙ c.unwrap-at.ensures) in
    let found = find_position (λ (op : Op). is_number c.args.number op) c.self.inside.open.items c.unwrap-at.result c.remove-what.result at in
    rw (← c.self.view_is, found) (ap (λ (op : Op). Some (what_and_token op)) c.remove-what.ensures.value)

pub returns-clause-left : goal.returns-clause-left
returns-clause-left c =
    let at : position (λ op. is_number c.args.number op) c.self.inside.open.items ≡ Some c.unwrap-at.result = rw c.self.view_is (sym c.numbered.ensures ∙ c.unwrap-at.ensures) in
    let left = without_number-position c.args.number c.unwrap-at.result c.self.inside.open.items c.remove-what.result c.self.invariant.each at in
    rw (c.remove-what.ensures.items, ← c.self.view_is) (sym left)

pub returns-clause-open : goal.returns-clause-open
returns-clause-open c =
    let at : position (λ op. is_number c.args.number op) c.self.inside.open.items ≡ Some c.unwrap-at.result = rw c.self.view_is (sym c.numbered.ensures ∙ c.unwrap-at.ensures) in
    let left = without_number-position c.args.number c.unwrap-at.result c.self.inside.open.items c.remove-what.result c.self.invariant.each at in
    rw (c.remove-what.ensures.items, ← left) (AreOpen-without c.args.number c.self.inside.open.items c.self.invariant)
