use Rattle.std.proofs.Common.{◌≡◌, ◌<◌, ◌+◌, ◌^◌, List, Result, Ok, Err, length, ap, ◌∙◌, arith}
use Rattle.std.specs.Result.{OnErr}
use Rattle.slab.specs.Slab.{slab_len, HasRoomFor}
use Rattle.vi_bytes.specs.declared.lease.Mapping.{Mapping}
use Rattle.vi_bytes.specs.Mappings.{MappingSet}
use Rattle.vi_tree.specs.Shapes.{inorder}
use Rattle.vi_tree.specs.Trees.{shape_of}
use Rattle.vi_tree.proofs.TreeLemmas.{IsTree-roomier, IsTree-own, shape_of-holds}
use Rattle.vi_tree.proofs.tree.Tree.reserve.Goals as goal

on_err : {A E : Type 0} (r : Result A E) (P : Type 0) → P → OnErr r P
on_err (Ok a) P p = tt
on_err (Err e) P p = p

pub invariant_of-self : goal.invariant_of-self
invariant_of-self c =
    let t = shape_of c.self.inside.nodes c.self.inside.root in
    let is = c.self.invariant in
    let room = is.room in
    let more = c.reserve.ensures.capacity in
    let tree = IsTree-roomier c.self.inside.nodes c.reserve.new.self c.self.inside.root c.self.inside.spare c.self.inside.spare t is c.reserve.ensures.kept (omega arith) is.few in
    IsTree-own c.reserve.new.self c.self.inside.root c.self.inside.spare t tree

pub returns-in_err-reserve-clause-kept : goal.returns-in_err-reserve-clause-kept
returns-in_err-reserve-clause-kept c =
    let t = shape_of c.self.inside.nodes c.self.inside.root in
    let is = c.self.invariant in
    let room = is.room in
    let more = c.reserve.ensures.capacity in
    let tree = IsTree-roomier c.self.inside.nodes c.reserve.new.self c.self.inside.root c.self.inside.spare c.self.inside.spare t is c.reserve.ensures.kept (omega arith) is.few in
    rw (← c.self.view_is) (ap inorder (shape_of-holds c.reserve.new.self c.self.inside.root t tree.holds))

pub returns-in_err-reserve-clause-refused : goal.returns-in_err-reserve-clause-refused
returns-in_err-reserve-clause-refused c =
    let t = shape_of c.self.inside.nodes c.self.inside.root in
    let is = c.self.invariant in
    let room = is.room in
    let more = c.reserve.ensures.capacity in
    let tree = IsTree-roomier c.self.inside.nodes c.reserve.new.self c.self.inside.root c.self.inside.spare c.self.inside.spare t is c.reserve.ensures.kept (omega arith) is.few in
    let P : List Mapping → MappingSet = λ xs. record { mappings = xs; spare = c.self.inside.spare } in
    on_err c.from_residual.result _ (ap P (ap inorder (shape_of-holds c.reserve.new.self c.self.inside.root t tree.holds)) ∙ c.self.view_is)

pub returns-in_err-reserve-clause-apart : goal.returns-in_err-reserve-clause-apart
returns-in_err-reserve-clause-apart c =
    let t = shape_of c.self.inside.nodes c.self.inside.root in
    let is = c.self.invariant in
    let room = is.room in
    let more = c.reserve.ensures.capacity in
    let tree = IsTree-roomier c.self.inside.nodes c.reserve.new.self c.self.inside.root c.self.inside.spare c.self.inside.spare t is c.reserve.ensures.kept (omega arith) is.few in
    (IsTree-own c.reserve.new.self c.self.inside.root c.self.inside.spare t tree).apart

pub returns-in_err-reserve-clause-few : goal.returns-in_err-reserve-clause-few
returns-in_err-reserve-clause-few c =
    let t = shape_of c.self.inside.nodes c.self.inside.root in
    let is = c.self.invariant in
    let room = is.room in
    let more = c.reserve.ensures.capacity in
    let tree = IsTree-roomier c.self.inside.nodes c.reserve.new.self c.self.inside.root c.self.inside.spare c.self.inside.spare t is c.reserve.ensures.kept (omega arith) is.few in
    (IsTree-own c.reserve.new.self c.self.inside.root c.self.inside.spare t tree).few

pub invariant_of-self-then-self-n : goal.invariant_of-self-then-self-n
invariant_of-self-then-self-n c =
    let t = shape_of c.self.inside.nodes c.self.inside.root in
    let is = c.self.invariant in
    let room = is.room in
    let more = c.reserve.ensures.capacity in
    let counted = is.counted in
    let len : slab_len c.reserve.new.self ≡ slab_len c.self.inside.nodes = ap slab_len c.reserve.ensures.kept in
    let fits : length (inorder t) + c.args.n < 2 ^ 32 = rw (← c.self.view_is) at c.requires in
    let free : HasRoomFor c.reserve.new.self c.args.n = c.in_ok-reserve.ensures.room in
    let tree = IsTree-roomier c.self.inside.nodes c.reserve.new.self c.self.inside.root c.self.inside.spare c.args.n t is c.reserve.ensures.kept (omega arith) fits in
    IsTree-own c.reserve.new.self c.self.inside.root c.args.n t tree

pub returns-in_ok-reserve-clause-kept : goal.returns-in_ok-reserve-clause-kept
returns-in_ok-reserve-clause-kept c =
    let t = shape_of c.self.inside.nodes c.self.inside.root in
    let is = c.self.invariant in
    let room = is.room in
    let more = c.reserve.ensures.capacity in
    let counted = is.counted in
    let len : slab_len c.reserve.new.self ≡ slab_len c.self.inside.nodes = ap slab_len c.reserve.ensures.kept in
    let fits : length (inorder t) + c.args.n < 2 ^ 32 = rw (← c.self.view_is) at c.requires in
    let free : HasRoomFor c.reserve.new.self c.args.n = c.in_ok-reserve.ensures.room in
    let tree = IsTree-roomier c.self.inside.nodes c.reserve.new.self c.self.inside.root c.self.inside.spare c.args.n t is c.reserve.ensures.kept (omega arith) fits in
    rw (← c.self.view_is) (ap inorder (shape_of-holds c.reserve.new.self c.self.inside.root t tree.holds))

pub returns-in_ok-reserve-clause-apart : goal.returns-in_ok-reserve-clause-apart
returns-in_ok-reserve-clause-apart c =
    let t = shape_of c.self.inside.nodes c.self.inside.root in
    let is = c.self.invariant in
    let room = is.room in
    let more = c.reserve.ensures.capacity in
    let counted = is.counted in
    let len : slab_len c.reserve.new.self ≡ slab_len c.self.inside.nodes = ap slab_len c.reserve.ensures.kept in
    let fits : length (inorder t) + c.args.n < 2 ^ 32 = rw (← c.self.view_is) at c.requires in
    let free : HasRoomFor c.reserve.new.self c.args.n = c.in_ok-reserve.ensures.room in
    let tree = IsTree-roomier c.self.inside.nodes c.reserve.new.self c.self.inside.root c.self.inside.spare c.args.n t is c.reserve.ensures.kept (omega arith) fits in
    (IsTree-own c.reserve.new.self c.self.inside.root c.args.n t tree).apart

pub returns-in_ok-reserve-clause-few : goal.returns-in_ok-reserve-clause-few
returns-in_ok-reserve-clause-few c =
    let t = shape_of c.self.inside.nodes c.self.inside.root in
    let is = c.self.invariant in
    let room = is.room in
    let more = c.reserve.ensures.capacity in
    let counted = is.counted in
    let len : slab_len c.reserve.new.self ≡ slab_len c.self.inside.nodes = ap slab_len c.reserve.ensures.kept in
    let fits : length (inorder t) + c.args.n < 2 ^ 32 = rw (← c.self.view_is) at c.requires in
    let free : HasRoomFor c.reserve.new.self c.args.n = c.in_ok-reserve.ensures.room in
    let tree = IsTree-roomier c.self.inside.nodes c.reserve.new.self c.self.inside.root c.self.inside.spare c.args.n t is c.reserve.ensures.kept (omega arith) fits in
    (IsTree-own c.reserve.new.self c.self.inside.root c.args.n t tree).few
