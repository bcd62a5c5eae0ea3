use Rattle.std.proofs.Common.{◌≡◌, ◌==◌, ◌+◌, map, drop}
use Rattle.std.specs.List.{position_or_len}
use Rattle.vi_device.specs.Kept.{domain_seen}
use Rattle.vi_device.proofs.domains.place_of.Given as goal

abbrev pub invariant-loop-place : goal.invariant-loop-place
invariant-loop-place l = l.place + position_or_len (λ y. y.id == l.id) (map domain_seen (drop l.place l.held)) ≡ position_or_len (λ y. y.id == l.id) (map domain_seen l.held)
