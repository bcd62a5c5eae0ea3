use Rattle.std.proofs.Common.{◌≡◌, ◌≤◌, replicate, vec_capacity}
use Rattle.vi_device.specs.Tables.{empty_table}
use Rattle.vi_device.proofs.domains.Domains.with_room.Given as goal

abbrev pub invariant-loop-table : goal.invariant-loop-table
invariant-loop-table l = record {
  tables : l.unused.items ≡ replicate l._table (empty_table l.maps);
  room : 16 ≤ vec_capacity l.unused;
}
