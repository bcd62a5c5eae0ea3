use Rattle.std.proofs.Common.{refl, arith}
use Rattle.vi_bytes.specs.Mappings.{with_mapping}
use Rattle.vi_device.specs.Kept.{TakesMapping}
use Rattle.vi_device.proofs.KeptLemmas.{at_place, maps_at, AreKept-set, domains_set}
use Rattle.vi_device.proofs.domains.Domains.insert.Goals as goal

pub index_mut-requires : goal.index_mut-requires
index_mut-requires c =
    let there = at_place (TakesMapping c.self.inside.maps c.args.m) c.args.id c.self.inside.held.items c.place_of-place.result (rw (← c.deref.ensures.value) c.place_of-place.ensures) (rw (← c.self.view_is) at c.requires.takes) in
    omega (arith, there.0, c.self.inside.held.ok.0)

pub insert-requires-clause-free : goal.insert-requires-clause-free
insert-requires-clause-free c =
    let there = at_place (TakesMapping c.self.inside.maps c.args.m) c.args.id c.self.inside.held.items c.place_of-place.result (rw (← c.deref.ensures.value) c.place_of-place.ensures) (rw (← c.self.view_is) at c.requires.takes) in
    (there.1 c.index_mut.result.now c.index_mut.ensures.value).0

pub insert-requires-clause-room : goal.insert-requires-clause-room
insert-requires-clause-room c =
    let there = at_place (TakesMapping c.self.inside.maps c.args.m) c.args.id c.self.inside.held.items c.place_of-place.result (rw (← c.deref.ensures.value) c.place_of-place.ensures) (rw (← c.self.view_is) at c.requires.takes) in
    let same = maps_at c.self.inside.maps c.self.inside.held.items c.self.inside.unused.items c.place_of-place.result c.index_mut.result.now c.self.invariant.0 there.0 c.index_mut.ensures.value in
    rw same (there.1 c.index_mut.result.now c.index_mut.ensures.value).1

pub invariant_of-self : goal.invariant_of-self
invariant_of-self c =
    let there = at_place (TakesMapping c.self.inside.maps c.args.m) c.args.id c.self.inside.held.items c.place_of-place.result (rw (← c.deref.ensures.value) c.place_of-place.ensures) (rw (← c.self.view_is) at c.requires.takes) in
    (rw c.insert.ensures (AreKept-set c.self.inside.maps c.self.inside.held.items c.self.inside.unused.items c.place_of-place.result c.index_mut.result.now _ c.self.invariant.0 there.0 c.index_mut.ensures.value refl refl), c.self.invariant.1, c.self.invariant.2)

pub returns : goal.returns
returns c =
    rw (c.insert.ensures, domains_set c.args.id (with_mapping c.args.m) c.self.inside.held.items c.place_of-place.result c.index_mut.result.now c.self.invariant.0.distinct (rw (← c.deref.ensures.value) c.place_of-place.ensures) c.index_mut.ensures.value, ← c.self.view_is) refl
