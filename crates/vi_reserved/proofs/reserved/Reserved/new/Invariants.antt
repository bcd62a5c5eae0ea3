use Rattle.std.proofs.Common.{◌≡◌, length, take, vec_capacity}
use Rattle.vi_reserved.specs.Regions.{regions_of}
use Rattle.vi_reserved.proofs.reserved.Reserved.new.Given as goal

abbrev pub invariant-loop-endpoint : goal.invariant-loop-endpoint
invariant-loop-endpoint l = record {
  regions : l.all.items ≡ regions_of (take l.endpoint-index l.endpoints);
  room : vec_capacity l.all ≡ length l.endpoints;
}
