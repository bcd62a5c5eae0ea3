use Rattle.std.proofs.Common.{refl}
use Rattle.vi_device.proofs.EffectLemmas.{attaches_known}
use Rattle.vi_device.proofs.device.Device.take_effect.Goals as goal

pub attach-requires : goal.attach-requires
attach-requires c = attaches_known c.args.self.now.dev c.in-Attach.domain c.in-Attach.endpoint c.in-Attach.flags (rw c.in-Attach.is at c.requires.accepted)

pub returns-in-Map : goal.returns-in-Map
returns-in-Map c = rw (c.map.ensures, c.in-Map.is) refl
