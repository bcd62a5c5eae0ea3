use Rattle.vi_plain.proofs.Domains.{HaveOwnIds-same, HaveOwnIds-filter}
use Rattle.vi_plain.proofs.device.Device.move_to.Goals as goal

pub invariant_of-self : goal.invariant_of-self
invariant_of-self c =
    (c.self.invariant.0, HaveOwnIds-same _ _ c.keep_inhabited.ensures (HaveOwnIds-filter _ c.self.inside.domains.items c.self.invariant.1))
