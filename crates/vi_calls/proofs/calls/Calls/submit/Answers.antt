use Rattle.std.proofs.Common.{length, refl, arith}
use Rattle.vi_calls.proofs.Submitting.{submit-ok, submit-few, seen-submit, IsKept-submit}
use Rattle.vi_calls.proofs.calls.Calls.submit.Goals as goal

pub unwrap-head-requires : goal.unwrap-head-requires
unwrap-head-requires c =
    let few = rw (← c.self.view_is) at c.requires.room in
    submit-ok c.self.inside c.self.invariant c.add.result (length c.args.read.now) c.args.write few c.add.ensures.full

pub overflow_add-self : goal.overflow_add-self
overflow_add-self c =
    let few = rw (← c.self.view_is) at c.requires.room in
    omega (arith, submit-few c.self.inside c.self.invariant few)

pub invariant_of-self : goal.invariant_of-self
invariant_of-self c =
    let added = rw c.unwrap-head.ensures at c.add.ensures.added in
    let fresh = rw c.unwrap-head.ensures at c.add.ensures.fresh in
    IsKept-submit c.self.inside c.self.invariant c.add.new.self c.unwrap-head.result.0 c.args.read.now c.args.write _ added fresh c.add.ensures.shows c.requires.driver refl refl c.requires.read

pub returns : goal.returns
returns c =
    let added = rw c.unwrap-head.ensures at c.add.ensures.added in
    let fresh = rw c.unwrap-head.ensures at c.add.ensures.fresh in
    rw (← c.self.view_is) (seen-submit c.self.inside c.self.invariant c.add.new.self c.unwrap-head.result.0 c.args.read.now c.args.write _ added fresh)
