use Rattle.std.proofs.Common.{◌≡◌, None, map, refl, arith}
use Rattle.std.proofs.lemmas.List.{map-append}
use Rattle.vi_device.specs.Kept.{domain_in, domain_seen}
use Rattle.vi_device.proofs.KeptLemmas.{AreKept-added}
use Rattle.vi_device.proofs.domains.Domains.add.Goals as goal

pub invariant_of-self : goal.invariant_of-self
invariant_of-self c =
    let new : domain_in c.args.id (map domain_seen c.self.inside.held.items) ≡ None = rw (← c.self.view_is) at c.requires.new in
    let added = AreKept-added c.self.inside.maps c.self.inside.held.items c.self.inside.unused.items c.pop.new.self.items c.args.id c.args.bypass c.in-Some.table c.self.invariant.0 c.in-Some.ensures.items new in
    (rw c.push_reserved.ensures.items added.0, omega (arith, c.self.invariant.1), omega (arith, c.self.invariant.2))

pub returns-in-Some : goal.returns-in-Some
returns-in-Some c =
    let new : domain_in c.args.id (map domain_seen c.self.inside.held.items) ≡ None = rw (← c.self.view_is) at c.requires.new in
    let added = AreKept-added c.self.inside.maps c.self.inside.held.items c.self.inside.unused.items c.pop.new.self.items c.args.id c.args.bypass c.in-Some.table c.self.invariant.0 c.in-Some.ensures.items new in
    rw (c.push_reserved.ensures.items, added.1, map-append domain_seen c.self.inside.held.items _, ← c.self.view_is) refl
