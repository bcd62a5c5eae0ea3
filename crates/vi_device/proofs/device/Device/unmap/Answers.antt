use Rattle.vi_device.proofs.EffectLemmas.{unmaps_well}
use Rattle.vi_device.proofs.device.Device.unmap.Goals as goal

pub remove-requires-clause-proper : goal.remove-requires-clause-proper
remove-requires-clause-proper c = (unmaps_well c.args.self.now.dev c.args.domain c.args.first c.args.last c.requires).0

pub remove-requires-clause-whole : goal.remove-requires-clause-whole
remove-requires-clause-whole c = rw (← c.self.view_is) at (unmaps_well c.args.self.now.dev c.args.domain c.args.first c.args.last c.requires).1
