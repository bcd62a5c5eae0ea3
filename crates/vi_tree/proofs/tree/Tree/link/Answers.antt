use Rattle.std.proofs.Common.{◌≡◌, ◌≤◌, ◌-◌, List, None, ap, ◌∙◌, arith}
use Rattle.vi_bytes.specs.declared.lease.Mapping.{Mapping}
use Rattle.vi_bytes.specs.Mappings.{MappingSet, mapping_meeting}
use Rattle.vi_tree.specs.Shapes.{inorder}
use Rattle.vi_tree.specs.Moves.{inserted}
use Rattle.vi_tree.specs.Trees.{shape_of}
use Rattle.vi_tree.proofs.MoveLemmas.{inorder-inserted}
use Rattle.vi_tree.proofs.TreeLemmas.{root_low, level_low, absent_from_free, Holds-put, IsTree-inserted, IsTree-own, shape_of-holds}
use Rattle.vi_tree.proofs.tree.Tree.link.Goals as goal

pub insert_at-self-inside-requires-clause-stands : goal.insert_at-self-inside-requires-clause-stands
insert_at-self-inside-requires-clause-stands c =
    let t = shape_of c.self.inside.nodes c.self.inside.root in
    let is = c.self.invariant in
    let absent = absent_from_free c.self.inside.nodes t c.put-key.result is.holds.held c.put-key.ensures.free in
    let holds = Holds-put c.self.inside.nodes c.put-key.new.self c.self.inside.root t c.put-key.result _ is.holds absent c.put-key.ensures.updates in
    record { shape = t; holds = holds; absent = absent }

pub insert_at-self-inside-requires-clause-counts : goal.insert_at-self-inside-requires-clause-counts
insert_at-self-inside-requires-clause-counts c =
    let low = root_low c.self.inside.nodes c.self.inside.root c.self.inside.spare (shape_of c.self.inside.nodes c.self.inside.root) c.self.invariant in
    let small = level_low c.self.inside.nodes c.self.inside.root c.self.inside.spare (shape_of c.self.inside.nodes c.self.inside.root) c.self.invariant in
    omega arith

pub invariant_of-self : goal.invariant_of-self
invariant_of-self c =
    let t = shape_of c.self.inside.nodes c.self.inside.root in
    let is = c.self.invariant in
    let absent = absent_from_free c.self.inside.nodes t c.put-key.result is.holds.held c.put-key.ensures.free in
    let holds = Holds-put c.self.inside.nodes c.put-key.new.self c.self.inside.root t c.put-key.result _ is.holds absent c.put-key.ensures.updates in
    let u = inserted c.put-key.result c.args.m t in
    let becomes = c.insert_at-self-inside.ensures.links t holds absent in
    let room : 1 ≤ c.self.inside.spare = rw (← c.self.view_is) at (c.requires.room) in
    let free : mapping_meeting c.args.m.span (inorder t) ≡ None = rw (← c.self.view_is) at (c.requires.free) in
    let tree = IsTree-inserted c.self.inside.nodes c.put-key.new.self c.insert_at-self-inside.new.nodes c.self.inside.root c.insert_at-self-inside.result c.self.inside.spare t c.args.m c.put-key.result is c.requires.proper room free c.put-key.ensures.len c.put-key.ensures.capacity becomes c.insert_at-self-inside.ensures.room in
    IsTree-own _ _ _ u tree

pub returns-clause-inserted : goal.returns-clause-inserted
returns-clause-inserted c =
    let t = shape_of c.self.inside.nodes c.self.inside.root in
    let is = c.self.invariant in
    let absent = absent_from_free c.self.inside.nodes t c.put-key.result is.holds.held c.put-key.ensures.free in
    let holds = Holds-put c.self.inside.nodes c.put-key.new.self c.self.inside.root t c.put-key.result _ is.holds absent c.put-key.ensures.updates in
    let u = inserted c.put-key.result c.args.m t in
    let becomes = c.insert_at-self-inside.ensures.links t holds absent in
    let room : 1 ≤ c.self.inside.spare = rw (← c.self.view_is) at (c.requires.room) in
    let free : mapping_meeting c.args.m.span (inorder t) ≡ None = rw (← c.self.view_is) at (c.requires.free) in
    let tree = IsTree-inserted c.self.inside.nodes c.put-key.new.self c.insert_at-self-inside.new.nodes c.self.inside.root c.insert_at-self-inside.result c.self.inside.spare t c.args.m c.put-key.result is c.requires.proper room free c.put-key.ensures.len c.put-key.ensures.capacity becomes c.insert_at-self-inside.ensures.room in
    let P : List Mapping → MappingSet = λ xs. record { mappings = xs; spare = c.self.inside.spare - 1 } in
    rw (← c.self.view_is) (ap P (ap inorder (shape_of-holds c.insert_at-self-inside.new.nodes c.insert_at-self-inside.result u becomes.holds) ∙ inorder-inserted c.put-key.result c.args.m t is.apart))

pub returns-clause-apart : goal.returns-clause-apart
returns-clause-apart c =
    let t = shape_of c.self.inside.nodes c.self.inside.root in
    let is = c.self.invariant in
    let absent = absent_from_free c.self.inside.nodes t c.put-key.result is.holds.held c.put-key.ensures.free in
    let holds = Holds-put c.self.inside.nodes c.put-key.new.self c.self.inside.root t c.put-key.result _ is.holds absent c.put-key.ensures.updates in
    let u = inserted c.put-key.result c.args.m t in
    let becomes = c.insert_at-self-inside.ensures.links t holds absent in
    let room : 1 ≤ c.self.inside.spare = rw (← c.self.view_is) at (c.requires.room) in
    let free : mapping_meeting c.args.m.span (inorder t) ≡ None = rw (← c.self.view_is) at (c.requires.free) in
    let tree = IsTree-inserted c.self.inside.nodes c.put-key.new.self c.insert_at-self-inside.new.nodes c.self.inside.root c.insert_at-self-inside.result c.self.inside.spare t c.args.m c.put-key.result is c.requires.proper room free c.put-key.ensures.len c.put-key.ensures.capacity becomes c.insert_at-self-inside.ensures.room in
    (IsTree-own c.insert_at-self-inside.new.nodes c.insert_at-self-inside.result (c.self.inside.spare - 1) u tree).apart

pub returns-clause-few : goal.returns-clause-few
returns-clause-few c =
    let t = shape_of c.self.inside.nodes c.self.inside.root in
    let is = c.self.invariant in
    let absent = absent_from_free c.self.inside.nodes t c.put-key.result is.holds.held c.put-key.ensures.free in
    let holds = Holds-put c.self.inside.nodes c.put-key.new.self c.self.inside.root t c.put-key.result _ is.holds absent c.put-key.ensures.updates in
    let u = inserted c.put-key.result c.args.m t in
    let becomes = c.insert_at-self-inside.ensures.links t holds absent in
    let room : 1 ≤ c.self.inside.spare = rw (← c.self.view_is) at (c.requires.room) in
    let free : mapping_meeting c.args.m.span (inorder t) ≡ None = rw (← c.self.view_is) at (c.requires.free) in
    let tree = IsTree-inserted c.self.inside.nodes c.put-key.new.self c.insert_at-self-inside.new.nodes c.self.inside.root c.insert_at-self-inside.result c.self.inside.spare t c.args.m c.put-key.result is c.requires.proper room free c.put-key.ensures.len c.put-key.ensures.capacity becomes c.insert_at-self-inside.ensures.room in
    (IsTree-own c.insert_at-self-inside.new.nodes c.insert_at-self-inside.result (c.self.inside.spare - 1) u tree).few

pub returns-clause-counted : goal.returns-clause-counted
returns-clause-counted c =
    let low = root_low c.self.inside.nodes c.self.inside.root c.self.inside.spare (shape_of c.self.inside.nodes c.self.inside.root) c.self.invariant in
    let small = level_low c.self.inside.nodes c.self.inside.root c.self.inside.spare (shape_of c.self.inside.nodes c.self.inside.root) c.self.invariant in
    rw (← c.self.view_is) (omega arith)
