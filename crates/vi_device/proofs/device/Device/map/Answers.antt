use Rattle.std.proofs.Common.{arith}
use Rattle.vi_device.proofs.EffectLemmas.{maps_well, takes}
use Rattle.vi_device.proofs.device.Device.map.Goals as goal

pub insert-requires-clause-proper : goal.insert-requires-clause-proper
insert-requires-clause-proper c = (maps_well c.args.self.now.dev c.args.domain c.args.first c.args.last c.args.target c.args.flags c.requires.accepted).proper

pub insert-requires-clause-ranges : goal.insert-requires-clause-ranges
insert-requires-clause-ranges c =
    let well = maps_well c.args.self.now.dev c.args.domain c.args.first c.args.last c.args.target c.args.flags c.requires.accepted in
    record { flags = well.flags_few; last = omega (arith, c.ranges.last.fits); target = well.ends }

pub insert-requires-clause-takes : goal.insert-requires-clause-takes
insert-requires-clause-takes c =
    let well = maps_well c.args.self.now.dev c.args.domain c.args.first c.args.last c.args.target c.args.flags c.requires.accepted in
    takes c.self.inside.domains.maps (record { first = c.args.first; last = c.args.last }) c.args.target c.args.flags _ (rw (← c.self.view_is) at well.free) (rw (← c.self.view_is) at c.requires.room)
