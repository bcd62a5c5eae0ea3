use Rattle.std.proofs.lemmas.List.Sums.{prefix_len-le-length}
use Rattle.std.proofs.Common.{Bool}
use Rattle.vi_check.proofs.driver.Entered.done_first.Goals as goal

pub returns-clause-most : goal.returns-clause-most
returns-clause-most c =
    let most = prefix_len-le-length (λ (e : Bool). e) c.self.inside.entered.items in
    rw (← c.self.view_is, c.self.invariant) most
