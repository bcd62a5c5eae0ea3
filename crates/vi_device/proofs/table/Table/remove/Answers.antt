use Rattle.std.proofs.Common.{◌≡◌, ◌+◌, length, None, refl}
use Rattle.std.proofs.lemmas.Result.{IfOk-at_ok}
use Rattle.vi_bytes.specs.Mappings.{is_cut, mapping_cut, within_span, without_span}
use Rattle.vi_device.proofs.TableLemmas.{ok_by_none, none-find, Fits-remove}
use Rattle.vi_device.proofs.table.Table.remove.Goals as goal

removed : (c : goal.After-unmap)
    → c.unmap.new.self ≡ record { mappings = without_span c.args.span.now c.self.inside.tree.mappings; spare = c.self.inside.tree.spare + length (within_span c.args.span.now c.self.inside.tree.mappings) }
removed c =
    let set = c.self.inside.tree in
    let uncut : mapping_cut c.args.span.now set.mappings ≡ None = none-find (is_cut c.args.span.now) set.mappings (rw (← c.self.view_is) at c.requires.whole) in
    ok_by_none c.unmap.result (mapping_cut c.args.span.now set.mappings) (λ x. record { met = x }) _ _ (λ e. (e.met, refl)) c.unmap.ensures.split uncut c.unmap.ensures.number
    (λ n is number. rw (← number) (IfOk-at_ok _ is c.unmap.ensures.removed))

pub invariant_of-self : goal.invariant_of-self
invariant_of-self c = rw (removed c) (Fits-remove c.self.inside.maps c.self.inside.tree c.args.span.now c.self.invariant)

pub returns : goal.returns
returns c = rw (removed c, ← c.self.view_is) refl
