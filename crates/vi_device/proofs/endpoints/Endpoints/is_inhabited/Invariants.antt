use Rattle.std.proofs.Common.{◌≡◌, drop}
use Rattle.std.specs.List.{list_any}
use Rattle.vi_history.specs.Device.{is_in}
use Rattle.vi_device.proofs.endpoints.Endpoints.is_inhabited.Given as goal

abbrev pub invariant-loop-place : goal.invariant-loop-place
invariant-loop-place l = list_any (λ x. is_in l.domain x.domain) (drop l.place l.self) ≡ list_any (λ x. is_in l.domain x.domain) l.self
