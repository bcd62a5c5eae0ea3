use Rattle.std.proofs.Common.{◌≡◌, take, map}
use Rattle.vi_history.specs.declared.call.Caller.TheVariants.{Back}
use Rattle.vi_control.specs.Opening.{transfers_in}
use Rattle.vi_control.proofs.opening.transfers_by.Given as goal

abbrev pub invariant-loop-id : goal.invariant-loop-id
invariant-loop-id l = map (λ t. t.items) l.rows.items ≡ map (λ id. transfers_in l.lines (Back id)) (take l.id-index l.ids)
