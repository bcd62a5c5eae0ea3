use Rattle.std.proofs.Common.{refl, arith}
use Rattle.vi_bytes.specs.Mappings.{without_span}
use Rattle.vi_device.specs.Kept.{CutsNone}
use Rattle.vi_device.proofs.KeptLemmas.{at_place, AreKept-set, domains_set}
use Rattle.vi_device.proofs.domains.Domains.remove.Goals as goal

pub index_mut-requires : goal.index_mut-requires
index_mut-requires c =
    let there = at_place (CutsNone c.args.span.now) c.args.id c.self.inside.held.items c.place_of-place.result (rw (← c.deref.ensures.value) c.place_of-place.ensures) (rw (← c.self.view_is) at c.requires.whole) in
    omega (arith, there.0, c.self.inside.held.ok.0)

pub remove-requires-clause-whole : goal.remove-requires-clause-whole
remove-requires-clause-whole c =
    let there = at_place (CutsNone c.args.span.now) c.args.id c.self.inside.held.items c.place_of-place.result (rw (← c.deref.ensures.value) c.place_of-place.ensures) (rw (← c.self.view_is) at c.requires.whole) in
    there.1 c.index_mut.result.now c.index_mut.ensures.value

pub invariant_of-self : goal.invariant_of-self
invariant_of-self c =
    let there = at_place (CutsNone c.args.span.now) c.args.id c.self.inside.held.items c.place_of-place.result (rw (← c.deref.ensures.value) c.place_of-place.ensures) (rw (← c.self.view_is) at c.requires.whole) in
    (rw c.remove.ensures (AreKept-set c.self.inside.maps c.self.inside.held.items c.self.inside.unused.items c.place_of-place.result c.index_mut.result.now _ c.self.invariant.0 there.0 c.index_mut.ensures.value refl refl), c.self.invariant.1, c.self.invariant.2)

pub returns : goal.returns
returns c =
    rw (c.remove.ensures, domains_set c.args.id (without_span c.args.span.now) c.self.inside.held.items c.place_of-place.result c.index_mut.result.now c.self.invariant.0.distinct (rw (← c.deref.ensures.value) c.place_of-place.ensures) c.index_mut.ensures.value, ← c.self.view_is) refl
