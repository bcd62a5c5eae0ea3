use Rattle.std.proofs.Common.{◌≡◌, ◌+◌, List, length, ap, ◌∙◌, arith}
use Rattle.vi_bytes.specs.declared.lease.Mapping.{Mapping}
use Rattle.vi_bytes.specs.Mappings.{MappingSet}
use Rattle.vi_tree.specs.Shapes.{inorder}
use Rattle.vi_tree.specs.Moves.{without}
use Rattle.vi_tree.specs.Trees.{shape_of, others_than}
use Rattle.vi_tree.proofs.MoveLemmas.{inorder-without}
use Rattle.vi_tree.proofs.TreeLemmas.{root_low, level_low, IsTree-removed, IsTree-own, shape_of-holds}
use Rattle.vi_tree.proofs.tree.Tree.remove.Goals as goal

pub remove_at-self-inside-requires-clause-counts : goal.remove_at-self-inside-requires-clause-counts
remove_at-self-inside-requires-clause-counts c =
    let low = root_low c.self.inside.nodes c.self.inside.root c.self.inside.spare (shape_of c.self.inside.nodes c.self.inside.root) c.self.invariant in
    let small = level_low c.self.inside.nodes c.self.inside.root c.self.inside.spare (shape_of c.self.inside.nodes c.self.inside.root) c.self.invariant in
    omega arith

pub invariant_of-self : goal.invariant_of-self
invariant_of-self c =
    let t = shape_of c.self.inside.nodes c.self.inside.root in
    let is = c.self.invariant in
    let u = without c.args.first t in
    let becomes = c.remove_at-self-inside.ensures.removes t is.holds in
    let there : length (others_than c.args.first (inorder t)) + 1 ≡ length (inorder t) = rw (← c.self.view_is) at (c.requires.there) in
    let tree = IsTree-removed c.self.inside.nodes c.remove_at-self-inside.new.nodes c.self.inside.root c.remove_at-self-inside.result c.self.inside.spare t c.args.first is becomes (c.remove_at-self-inside.ensures.len t is.holds) c.remove_at-self-inside.ensures.capacity there in
    IsTree-own _ _ _ u tree

pub returns-clause-removed : goal.returns-clause-removed
returns-clause-removed c =
    let t = shape_of c.self.inside.nodes c.self.inside.root in
    let is = c.self.invariant in
    let u = without c.args.first t in
    let becomes = c.remove_at-self-inside.ensures.removes t is.holds in
    let there : length (others_than c.args.first (inorder t)) + 1 ≡ length (inorder t) = rw (← c.self.view_is) at (c.requires.there) in
    let tree = IsTree-removed c.self.inside.nodes c.remove_at-self-inside.new.nodes c.self.inside.root c.remove_at-self-inside.result c.self.inside.spare t c.args.first is becomes (c.remove_at-self-inside.ensures.len t is.holds) c.remove_at-self-inside.ensures.capacity there in
    let P : List Mapping → MappingSet = λ xs. record { mappings = xs; spare = c.self.inside.spare + 1 } in
    rw (← c.self.view_is) (ap P (ap inorder (shape_of-holds c.remove_at-self-inside.new.nodes c.remove_at-self-inside.result u becomes.holds) ∙ inorder-without c.args.first t is.apart))

pub returns-clause-apart : goal.returns-clause-apart
returns-clause-apart c =
    let t = shape_of c.self.inside.nodes c.self.inside.root in
    let is = c.self.invariant in
    let u = without c.args.first t in
    let becomes = c.remove_at-self-inside.ensures.removes t is.holds in
    let there : length (others_than c.args.first (inorder t)) + 1 ≡ length (inorder t) = rw (← c.self.view_is) at (c.requires.there) in
    let tree = IsTree-removed c.self.inside.nodes c.remove_at-self-inside.new.nodes c.self.inside.root c.remove_at-self-inside.result c.self.inside.spare t c.args.first is becomes (c.remove_at-self-inside.ensures.len t is.holds) c.remove_at-self-inside.ensures.capacity there in
    (IsTree-own c.remove_at-self-inside.new.nodes c.remove_at-self-inside.result (c.self.inside.spare + 1) u tree).apart

pub returns-clause-few : goal.returns-clause-few
returns-clause-few c =
    let t = shape_of c.self.inside.nodes c.self.inside.root in
    let is = c.self.invariant in
    let u = without c.args.first t in
    let becomes = c.remove_at-self-inside.ensures.removes t is.holds in
    let there : length (others_than c.args.first (inorder t)) + 1 ≡ length (inorder t) = rw (← c.self.view_is) at (c.requires.there) in
    let tree = IsTree-removed c.self.inside.nodes c.remove_at-self-inside.new.nodes c.self.inside.root c.remove_at-self-inside.result c.self.inside.spare t c.args.first is becomes (c.remove_at-self-inside.ensures.len t is.holds) c.remove_at-self-inside.ensures.capacity there in
    (IsTree-own c.remove_at-self-inside.new.nodes c.remove_at-self-inside.result (c.self.inside.spare + 1) u tree).few

pub returns-clause-counted : goal.returns-clause-counted
returns-clause-counted c =
    let low = root_low c.self.inside.nodes c.self.inside.root c.self.inside.spare (shape_of c.self.inside.nodes c.self.inside.root) c.self.invariant in
    let small = level_low c.self.inside.nodes c.self.inside.root c.self.inside.spare (shape_of c.self.inside.nodes c.self.inside.root) c.self.invariant in
    rw (← c.self.view_is) (omega arith)
