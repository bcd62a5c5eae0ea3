use Rattle.vi_bytes.specs.Mappings.{without_span}
use Rattle.vi_plain.specs.Kept.{HaveOwnIds}
use Rattle.vi_plain.proofs.Domains.{Keeps-with_mappings, HaveOwnIds-back}
use Rattle.vi_plain.proofs.device.Device.unmap.Goals as goal

pub invariant_of-self : goal.invariant_of-self
invariant_of-self c =
    let taken = c.deref_mut.result.now in
    let own : HaveOwnIds taken = rw c.deref_mut.ensures.value c.self.invariant.1 in
    let keeps = Keeps-with_mappings c.args.domain (without_span c.args.span.now) taken c.unmap.new.domains own c.unmap.ensures in
    (c.self.invariant.0, HaveOwnIds-back c.self.inside.domains.len taken c.unmap.new.domains c.self.inside.domains.items c.deref_mut.ensures.len c.deref_mut.ensures.value keeps)
