use Rattle.std.proofs.Common.{◌≡◌, take, map}
use Rattle.vi_history.specs.Start.{unattached}
use Rattle.vi_plain.proofs.device.Device.new.Given as goal

abbrev pub invariant-loop-endpoint : goal.invariant-loop-endpoint
invariant-loop-endpoint l = l.endpoints.items ≡ map (λ e. unattached e) (take l.endpoint-index l.endpoint-items)
