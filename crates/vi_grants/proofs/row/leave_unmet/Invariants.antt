use Rattle.std.proofs.Common.{◌≡◌, ◌≤◌, ◌++◌, length, take, drop, not, vec_len, vec_capacity}
use Rattle.std.specs.List.{filter}
use Rattle.vi_grants.specs.Rows.{is_met}
use Rattle.vi_grants.proofs.row.leave_unmet.Given as goal

abbrev pub invariant-loop-at : goal.invariant-loop-at
invariant-loop-at l = record {
  within : l.at ≤ length l.fn.grants.items;
  items : l.grants.items ≡ take l.at l.fn.grants.items ++ filter (λ g. not (is_met l.span g)) (drop l.at l.fn.grants.items);
  fewer : vec_len l.grants ≤ vec_len l.fn.grants;
  capacity : vec_capacity l.grants ≡ vec_capacity l.fn.grants;
}
