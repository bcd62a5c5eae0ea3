use Rattle.std.proofs.Common.{◌-◌, Bool, arith, length-set}
use Rattle.std.proofs.lemmas.List.Sums.{prefix_len-le-length}
use Rattle.vi_check.proofs.EnteredLemmas.{done_first-set}
use Rattle.vi_check.proofs.driver.Entered.enter.Goals as goal

pub done_from-requires : goal.done_from-requires
done_from-requires c =
    let most = prefix_len-le-length (λ (e : Bool). e) c.self.inside.entered.items in
    rw (c.deref.ensures.value) (omega (arith, most, c.self.invariant, length-set {A = Bool}))

pub invariant_of-self : goal.invariant_of-self
invariant_of-self c =
    rw (c.done_from.ensures.done, c.deref.ensures.value, c.self.invariant) (done_first-set c.self.inside.entered.items (c.args.line - 1))
