use Rattle.std.proofs.Common.{◌≡◌, ◌-◌, ◌<◌, length, None, refl}
use Rattle.vi_bytes.specs.Spans.{meets}
use Rattle.vi_bytes.specs.Mappings.{with_mapping, mapping_meeting}
use Rattle.vi_device.proofs.TableLemmas.{ok_by_none, none-find, Fits-insert}
use Rattle.vi_device.proofs.table.Table.insert.Goals as goal

inserted : (c : goal.After-insert) → c.insert.new.self ≡ record { mappings = with_mapping c.args.m c.self.inside.tree.mappings; spare = c.self.inside.tree.spare - 1 }
inserted c =
    let set = c.self.inside.tree in
    let free : mapping_meeting c.args.m.span set.mappings ≡ None = none-find (λ x. meets x.span c.args.m.span) set.mappings (rw (← c.self.view_is) at c.requires.free) in
    ok_by_none c.insert.result (mapping_meeting c.args.m.span set.mappings) (λ x. record { met = x }) _ _ (λ e. (e.met, refl)) c.insert.ensures.over free c.insert.ensures.inserted (λ x is done. done)

pub invariant_of-self : goal.invariant_of-self
invariant_of-self c =
    let below : length c.self.inside.tree.mappings < c.self.inside.maps = rw (← c.self.view_is) at c.requires.room in
    rw (inserted c) (Fits-insert c.self.inside.maps c.self.inside.tree c.args.m c.self.invariant below c.requires.ranges)

pub returns : goal.returns
returns c = rw (inserted c, ← c.self.view_is) refl
