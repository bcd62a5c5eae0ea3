use Rattle.std.proofs.Common.{◌≡◌, map, drop}
use Rattle.vi_device.specs.Kept.{domain_seen, domain_in}
use Rattle.vi_device.proofs.domains.held_of.Given as goal

abbrev pub invariant-loop-domain : goal.invariant-loop-domain
invariant-loop-domain l = domain_in l.id (map domain_seen (drop l.domain-index l.held)) ≡ domain_in l.id (map domain_seen l.held)
