use Rattle.std.proofs.Common.{◌≡◌, take, map}
use Rattle.vi_state.proofs.state.ids_of.Given as goal

abbrev pub invariant-loop-endpoint : goal.invariant-loop-endpoint
invariant-loop-endpoint l = l.ids.items ≡ map (λ e. e.id) (take l.endpoint-index l.endpoints)
