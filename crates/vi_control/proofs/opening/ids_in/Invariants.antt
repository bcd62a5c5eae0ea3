use Rattle.std.proofs.Common.{◌≡◌, take, map}
use Rattle.vi_control.proofs.opening.ids_in.Given as goal

abbrev pub invariant-loop-endpoint : goal.invariant-loop-endpoint
invariant-loop-endpoint l = l.ids.items ≡ map (λ e. e.id) (take l.endpoint-index l.endpoints)
