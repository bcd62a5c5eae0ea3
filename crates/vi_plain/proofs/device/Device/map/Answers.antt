use Rattle.std.proofs.lemmas.Result.{on_ok_weaker, on_err_weaker}
use Rattle.vi_bytes.specs.Mappings.{with_mapping}
use Rattle.vi_plain.specs.Kept.{HaveOwnIds}
use Rattle.vi_plain.proofs.Domains.{Keeps, Keeps-same, Keeps-with_mappings, HaveOwnIds-back}
use Rattle.vi_plain.proofs.Granules.{IsSound-from_status}
use Rattle.vi_plain.proofs.Outcomes.{either_way}
use Rattle.vi_plain.proofs.device.Device.map.Goals as goal

pub map-requires-clause-sound : goal.map-requires-clause-sound
map-requires-clause-sound c =
    let m = c.args.mapping in
    IsSound-from_status c.args.self.now c.args.domain m.span.first m.span.last m.target m.flags (rw (← c.self.view_is) c.self.invariant.0) c.requires

pub invariant_of-self : goal.invariant_of-self
invariant_of-self c =
    let taken = c.deref_mut.result.now in
    let own : HaveOwnIds taken = rw c.deref_mut.ensures.value c.self.invariant.1 in
    let keeps : Keeps taken c.map.new.domains =
    either_way c.map.result
    (on_ok_weaker c.map.result (Keeps-with_mappings c.args.domain (with_mapping c.args.mapping) taken c.map.new.domains own) c.map.ensures.ok)
    (on_err_weaker c.map.result (Keeps-same taken c.map.new.domains own) c.map.ensures.err) in
    (c.self.invariant.0, HaveOwnIds-back c.self.inside.domains.len taken c.map.new.domains c.self.inside.domains.items c.deref_mut.ensures.len c.deref_mut.ensures.value keeps)
