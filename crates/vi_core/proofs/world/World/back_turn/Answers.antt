use Rattle.std.proofs.Common.{arith, ap, sym, ◌∙◌}
use Rattle.std.specs.Prelude.{nat_eq}
use Rattle.std.specs.List.{position}
use Rattle.vi_backend.specs.Own.{Own}
use Rattle.vi_core.specs.Inner.{parts_of}
use Rattle.vi_core.proofs.Moving.{as_turn}
use Rattle.vi_core.proofs.MovingBacks.{no_back_waits}
use Rattle.vi_core.proofs.Needs.{few_places}
use Rattle.vi_core.proofs.Reading.{is_found, read_own, read_wishes, found_page, read_room, read_reaches, read_needs, read_converses}
use Rattle.vi_core.proofs.world.World.back_turn.Goals as goal

pub returns-in_default : goal.returns-in_default
returns-in_default c =
    let p = parts_of c.self.inside in
    let none = ap (λ bs. position (λ (b : Own). nat_eq b.id c.args.id) bs) (sym c.deref.ensures.value) ∙ sym c.place_of.ensures ∙ c.in_default.is in
    rw (← c.self.view_is) (as_turn _ p p _ (no_back_waits p c.args.id c.self.invariant none))

pub index_mut-bytes-requires : goal.index_mut-bytes-requires
index_mut-bytes-requires c =
    let p = parts_of c.self.inside in
    let at = ap (λ bs. position (λ (b : Own). nat_eq b.id c.args.id) bs) (sym c.deref.ensures.value) ∙ sym c.place_of.ensures ∙ c.in-Some.is in
    let f = is_found p c.args.id c.in-Some.place _ c.index.result.now c.self.invariant at c.index.ensures (sym c.wished_page.ensures ∙ c.in-Some-wished_page.is) in
    let there = found_page p c.args.id c.in-Some.place c.in-Some-wished_page.page c.wishes_agree.ensures c.self.invariant f in
    omega (arith, there, c.self.inside.pages.ok.0)

pub reach-done-requires-clause-own : goal.reach-done-requires-clause-own
reach-done-requires-clause-own c =
    let p = parts_of c.self.inside in
    let at = ap (λ bs. position (λ (b : Own). nat_eq b.id c.args.id) bs) (sym c.deref.ensures.value) ∙ sym c.place_of.ensures ∙ c.in-Some.is in
    let f = is_found p c.args.id c.in-Some.place _ c.index.result.now c.self.invariant at c.index.ensures (sym c.wished_page.ensures ∙ c.in-Some-wished_page.is) in
    read_own p c.args.id c.in-Some.place _ c.index_mut.result.now c.self.invariant f c.index_mut.ensures.value

pub reach-done-requires-clause-wish : goal.reach-done-requires-clause-wish
reach-done-requires-clause-wish c =
    let p = parts_of c.self.inside in
    let at = ap (λ bs. position (λ (b : Own). nat_eq b.id c.args.id) bs) (sym c.deref.ensures.value) ∙ sym c.place_of.ensures ∙ c.in-Some.is in
    let f = is_found p c.args.id c.in-Some.place _ c.index.result.now c.self.invariant at c.index.ensures (sym c.wished_page.ensures ∙ c.in-Some-wished_page.is) in
    read_wishes p c.args.id c.in-Some.place c.in-Some-wished_page.page c.index_mut.result.now c.self.invariant f c.index_mut.ensures.value

pub push-requires-clause-entry : goal.push-requires-clause-entry
push-requires-clause-entry c =
    let p = parts_of c.self.inside in
    let at = ap (λ bs. position (λ (b : Own). nat_eq b.id c.args.id) bs) (sym c.deref.ensures.value) ∙ sym c.place_of.ensures ∙ c.in-Some.is in
    let f = is_found p c.args.id c.in-Some.place _ c.index.result.now c.self.invariant at c.index.ensures (sym c.wished_page.ensures ∙ c.in-Some-wished_page.is) in
    (read_room p c.args.id c.in-Some.place c.in-Some-wished_page.page c.index_mut.result.now c.reach-done.new.back c.index_mut-bytes.result.now c.reach-done.new.page c.reach-done.result c.wishes_agree.ensures c.self.invariant f
    c.index_mut.ensures.value c.index_mut-bytes.ensures.value c.reach-done.ensures.turn c.reach-done.ensures.stays).0

pub push-requires-clause-bytes : goal.push-requires-clause-bytes
push-requires-clause-bytes c =
    let p = parts_of c.self.inside in
    let at = ap (λ bs. position (λ (b : Own). nat_eq b.id c.args.id) bs) (sym c.deref.ensures.value) ∙ sym c.place_of.ensures ∙ c.in-Some.is in
    let f = is_found p c.args.id c.in-Some.place _ c.index.result.now c.self.invariant at c.index.ensures (sym c.wished_page.ensures ∙ c.in-Some-wished_page.is) in
    rw (c.read.ensures.bytes)
    (read_room p c.args.id c.in-Some.place c.in-Some-wished_page.page c.index_mut.result.now c.reach-done.new.back c.index_mut-bytes.result.now c.reach-done.new.page c.reach-done.result c.wishes_agree.ensures c.self.invariant f
    c.index_mut.ensures.value c.index_mut-bytes.ensures.value c.reach-done.ensures.turn c.reach-done.ensures.stays).1

pub invariant_of-self : goal.invariant_of-self
invariant_of-self c =
    let p = parts_of c.self.inside in
    let at = ap (λ bs. position (λ (b : Own). nat_eq b.id c.args.id) bs) (sym c.deref.ensures.value) ∙ sym c.place_of.ensures ∙ c.in-Some.is in
    let f = is_found p c.args.id c.in-Some.place _ c.index.result.now c.self.invariant at c.index.ensures (sym c.wished_page.ensures ∙ c.in-Some-wished_page.is) in
    rw (c.push.ensures, c.read.ensures.bytes)
    (read_reaches p c.args.id c.in-Some.place c.in-Some-wished_page.page c.index_mut.result.now c.reach-done.new.back c.index_mut-bytes.result.now c.reach-done.new.page c.reach-done.result c.wishes_agree.ensures c.self.invariant f
    c.index_mut.ensures.value c.index_mut-bytes.ensures.value c.reach-done.ensures.turn c.reach-done.ensures.stays c.reach-done.ensures.own).kept

pub returns-in-Some-wished_page : goal.returns-in-Some-wished_page
returns-in-Some-wished_page c =
    let p = parts_of c.self.inside in
    let at = ap (λ bs. position (λ (b : Own). nat_eq b.id c.args.id) bs) (sym c.deref.ensures.value) ∙ sym c.place_of.ensures ∙ c.in-Some.is in
    let f = is_found p c.args.id c.in-Some.place _ c.index.result.now c.self.invariant at c.index.ensures (sym c.wished_page.ensures ∙ c.in-Some-wished_page.is) in
    rw (← c.self.view_is, c.push.ensures, c.read.ensures.bytes) (as_turn _ _ _ _
    (read_reaches p c.args.id c.in-Some.place c.in-Some-wished_page.page c.index_mut.result.now c.reach-done.new.back c.index_mut-bytes.result.now c.reach-done.new.page c.reach-done.result c.wishes_agree.ensures c.self.invariant f
    c.index_mut.ensures.value c.index_mut-bytes.ensures.value c.reach-done.ensures.turn c.reach-done.ensures.stays c.reach-done.ensures.own))

pub overflow_cast-place : goal.overflow_cast-place
overflow_cast-place c =
    let p = parts_of c.self.inside in
    let at = ap (λ bs. position (λ (b : Own). nat_eq b.id c.args.id) bs) (sym c.deref.ensures.value) ∙ sym c.place_of.ensures ∙ c.in-Some.is in
    let f = is_found p c.args.id c.in-Some.place _ c.index.result.now c.self.invariant at c.index.ensures (sym c.wished_page.ensures ∙ c.in-None.is) in
    let few = few_places p c.self.invariant in
    let below = f.below in
    omega (arith, below, few)

pub converse-requires : goal.converse-requires
converse-requires c =
    let p = parts_of c.self.inside in
    let at = ap (λ bs. position (λ (b : Own). nat_eq b.id c.args.id) bs) (sym c.deref.ensures.value) ∙ sym c.place_of.ensures ∙ c.in-Some.is in
    let f = is_found p c.args.id c.in-Some.place _ c.index.result.now c.self.invariant at c.index.ensures (sym c.wished_page.ensures ∙ c.in-None.is) in
    record { room = read_needs p c.args.id c.in-Some.place c.index_mut-in-None.result.now c.self.invariant f c.index_mut-in-None.ensures.value }

pub invariant_of-self-in-None : goal.invariant_of-self-in-None
invariant_of-self-in-None c =
    let p = parts_of c.self.inside in
    let at = ap (λ bs. position (λ (b : Own). nat_eq b.id c.args.id) bs) (sym c.deref.ensures.value) ∙ sym c.place_of.ensures ∙ c.in-Some.is in
    let f = is_found p c.args.id c.in-Some.place _ c.index.result.now c.self.invariant at c.index.ensures (sym c.wished_page.ensures ∙ c.in-None.is) in
    (read_converses p c.args.id c.in-Some.place c.index_mut-in-None.result.now c.converse.new.control c.converse.new.back c.converse.result c.wishes_agree.ensures c.self.invariant f
    c.index_mut-in-None.ensures.value c.converse.ensures.turn c.converse.ensures.own c.converse.ensures.plan).kept

pub returns-in-None : goal.returns-in-None
returns-in-None c =
    let p = parts_of c.self.inside in
    let at = ap (λ bs. position (λ (b : Own). nat_eq b.id c.args.id) bs) (sym c.deref.ensures.value) ∙ sym c.place_of.ensures ∙ c.in-Some.is in
    let f = is_found p c.args.id c.in-Some.place _ c.index.result.now c.self.invariant at c.index.ensures (sym c.wished_page.ensures ∙ c.in-None.is) in
    rw (← c.self.view_is) (as_turn _ _ _ _
    (read_converses p c.args.id c.in-Some.place c.index_mut-in-None.result.now c.converse.new.control c.converse.new.back c.converse.result c.wishes_agree.ensures c.self.invariant f
    c.index_mut-in-None.ensures.value c.converse.ensures.turn c.converse.ensures.own c.converse.ensures.plan))
