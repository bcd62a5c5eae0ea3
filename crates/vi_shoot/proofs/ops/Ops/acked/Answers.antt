use Rattle.std.proofs.Common.{◌≡◌, Some, ap, sym, ◌∙◌, length-set}
use Rattle.std.specs.List.{position}
use Rattle.std.specs.Option.{option_map}
use Rattle.std.proofs.lemmas.List.Quantifiers.{position-Some}
use Rattle.vi_shoot.specs.declared.ops.Op.{Op}
use Rattle.vi_shoot.specs.Removals.{waits_for, number_and_reach}
use Rattle.vi_shoot.proofs.Firsts.{is_some-position, find_position, refill-same}
use Rattle.vi_shoot.proofs.Oldest.{acked_position, AreOpen-acked, IsProperReach-at}
use Rattle.vi_shoot.proofs.ops.Ops.acked.Goals as goal

pub unwrap-at-requires : goal.unwrap-at-requires
unwrap-at-requires c = rw c.first_awaiting.ensures (is_some-position (λ (op : Op). waits_for c.args.place op) c.args.self.now c.requires.waits)

pub returns-clause-acked : goal.returns-clause-acked
returns-clause-acked c =
    let items = c.self.inside.open.items in
    let at : position (λ op. waits_for c.args.place op) items ≡ Some c.unwrap-at.result = rw c.self.view_is (sym c.first_awaiting.ensures ∙ c.unwrap-at.ensures) in
    rw (c.deref_mut.ensures.value, refill-same items _ (length-set items c.unwrap-at.result _), ← c.self.view_is, c.acknowledged.ensures, c.deref.ensures.0) (sym (acked_position c.args.place c.unwrap-at.result items _ at))

pub invariant_of-self : goal.invariant_of-self
invariant_of-self c =
    let items = c.self.inside.open.items in
    let at : position (λ op. waits_for c.args.place op) items ≡ Some c.unwrap-at.result = rw c.self.view_is (sym c.first_awaiting.ensures ∙ c.unwrap-at.ensures) in
    rw (c.deref_mut.ensures.value, refill-same items _ (length-set items c.unwrap-at.result _), c.acknowledged.ensures, c.deref.ensures.0, ← acked_position c.args.place c.unwrap-at.result items _ at) (AreOpen-acked c.args.place items c.self.invariant)

pub returns-clause-open : goal.returns-clause-open
returns-clause-open c =
    let items = c.self.inside.open.items in
    let at : position (λ op. waits_for c.args.place op) items ≡ Some c.unwrap-at.result = rw c.self.view_is (sym c.first_awaiting.ensures ∙ c.unwrap-at.ensures) in
    rw (c.deref_mut.ensures.value, refill-same items _ (length-set items c.unwrap-at.result _), c.acknowledged.ensures, c.deref.ensures.0, ← acked_position c.args.place c.unwrap-at.result items _ at) (AreOpen-acked c.args.place items c.self.invariant)

pub returns-clause-oldest : goal.returns-clause-oldest
returns-clause-oldest c =
    let items = c.self.inside.open.items in
    let at : position (λ op. waits_for c.args.place op) items ≡ Some c.unwrap-at.result = rw c.self.view_is (sym c.first_awaiting.ensures ∙ c.unwrap-at.ensures) in
    rw (← c.self.view_is, c.reach.ensures, c.deref.ensures.0) (sym (ap (option_map number_and_reach) (find_position (λ (op : Op). waits_for c.args.place op) items c.unwrap-at.result _ at)))

pub returns-clause-proper : goal.returns-clause-proper
returns-clause-proper c =
    let items = c.self.inside.open.items in
    let at : position (λ op. waits_for c.args.place op) items ≡ Some c.unwrap-at.result = rw c.self.view_is (sym c.first_awaiting.ensures ∙ c.unwrap-at.ensures) in
    rw (c.reach.ensures, c.deref.ensures.0) (IsProperReach-at items c.unwrap-at.result _ c.self.invariant.each (position-Some (λ (op : Op). waits_for c.args.place op) items c.unwrap-at.result c.acknowledged.result at).0)
