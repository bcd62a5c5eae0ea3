use Rattle.std.proofs.Common.{◌≡◌, drop}
use Rattle.vi_grants.specs.Rows.{grant_of}
use Rattle.vi_grants.proofs.row.has_grant.Given as goal

abbrev pub invariant-loop-grant : goal.invariant-loop-grant
invariant-loop-grant l = grant_of l.asked (drop l.grant-index l.grants) ≡ grant_of l.asked l.grants
