use Rattle.std.proofs.Common.{◌≡◌, ◌++◌, take, map}
use Rattle.vi_lines.specs.declared.line.Who.TheVariants as who
use Rattle.vi_core.proofs.round.push_backs.Given as goal

abbrev pub invariant-loop-endpoint : goal.invariant-loop-endpoint
invariant-loop-endpoint l = l.actors.items ≡ l.initial.actors.items ++ map (λ id. who.Back id) (map (λ e. e.id) (take l.endpoint-index l.endpoint-items))
