use Rattle.std.proofs.Common.{◌≡◌, ◌==◌, drop}
use Rattle.std.specs.List.{find}
use Rattle.vi_device.proofs.endpoints.Endpoints.find.Given as goal

abbrev pub invariant-loop-place : goal.invariant-loop-place
invariant-loop-place l = find (λ x. x.id == l.id) (drop l.place l.self) ≡ find (λ x. x.id == l.id) l.self
