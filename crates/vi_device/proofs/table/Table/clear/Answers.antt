use Rattle.std.proofs.Common.{◌≡◌, ◌+◌, length, refl}
use Rattle.std.proofs.lemmas.Result.{IfOk-at_ok}
use Rattle.vi_bytes.specs.Mappings.{mapping_cut, within_span, without_span}
use Rattle.vi_device.proofs.TableLemmas.{ok_by_none, Fits-remove, all_addresses, cut-all, without-all}
use Rattle.vi_device.proofs.table.Table.clear.Goals as goal

removed : (c : goal.After-unmap)
    → c.unmap.new.self ≡ record { mappings = without_span all_addresses c.self.inside.tree.mappings; spare = c.self.inside.tree.spare + length (within_span all_addresses c.self.inside.tree.mappings) }
removed c =
    let set = c.self.inside.tree in
    ok_by_none c.unmap.result (mapping_cut all_addresses set.mappings) (λ x. record { met = x }) _ _ (λ e. (e.met, refl)) c.unmap.ensures.split (cut-all set.mappings c.self.invariant.ranges) c.unmap.ensures.number
    (λ n is number. rw (← number) (IfOk-at_ok _ is c.unmap.ensures.removed))

pub invariant_of-self : goal.invariant_of-self
invariant_of-self c = rw (removed c) (Fits-remove c.self.inside.maps c.self.inside.tree all_addresses c.self.invariant)

pub returns : goal.returns
returns c = rw (removed c, without-all c.self.inside.tree.mappings c.self.invariant.ranges, ← c.self.view_is) refl
