use Rattle.std.proofs.Common.{◌≤◌, ◌<◌, arith}
use Rattle.std.proofs.lemmas.Option.{IfSome_then}
use Rattle.vi_iova.proofs.walk.Wanted.past.Goals as goal

pub returns-else-taken-first-clause-next : goal.returns-else-taken-first-clause-next
returns-else-taken-first-clause-next c =
    let le : c.args.first ≤ c.args.taken.now.last = omega (arith, c.if-taken-first.false) in
    IfSome_then c.above.result c.above.ensures.next (λ n next.
    let above : c.args.taken.now.last < n = next.above in
    record { whole = next.whole; from = omega arith; above = above; lowest = λ m whole from over. next.lowest m whole over })
