use Rattle.std.proofs.Common.{refl}
use Rattle.vi_lanes.proofs.Calls.{built_kept, built_seen}
use Rattle.vi_lanes.proofs.lanes.Lanes.build.Goals as goal

pub invariant_of-result : goal.invariant_of-result
invariant_of-result c = built_kept _ c.args.places c.requires c.in_ok-mail.ensures c.new.ensures refl

pub returns : goal.returns
returns c = built_seen _ c.args.places c.requires c.in_ok-mail.ensures c.new.ensures refl
