use Rattle.std.proofs.Common.{◌≡◌, replicate, vec_capacity}
use Rattle.vi_grants.specs.Rows.{empty_row}
use Rattle.vi_grants.proofs.grants.Grants.with_room.Given as goal

abbrev pub invariant-loop-place : goal.invariant-loop-place
invariant-loop-place l = (l.rows.items ≡ replicate l.place (empty_row l.each)) × (vec_capacity l.rows ≡ l.backs)
