use Rattle.std.proofs.Common.{◌≡◌, drop}
use Rattle.std.specs.List.{list_any}
use Rattle.vi_grants.specs.Rows.{is_met}
use Rattle.vi_grants.proofs.row.any_meets.Given as goal

abbrev pub invariant-loop-grant : goal.invariant-loop-grant
invariant-loop-grant l = list_any (is_met l.span) (drop l.grant-index l.grants) ≡ list_any (is_met l.span) l.grants
