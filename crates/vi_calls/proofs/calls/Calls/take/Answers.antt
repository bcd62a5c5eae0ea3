use Rattle.vi_calls.proofs.Taking.{IsKept-none, IsKept-taken, request-taken}
use Rattle.vi_calls.proofs.calls.Calls.take.Goals as goal

pub invariant_of-self : goal.invariant_of-self
invariant_of-self c = IsKept-none c.self.inside c.self.invariant c.pop.new.self c.pop.ensures.ring c.pop.result c.pop.ensures.first c.in-Empty.is c.pop.ensures.shows

pub invariant_of-self-2 : goal.invariant_of-self-2
invariant_of-self-2 c =
    let first = rw c.in-Chain.is at c.pop.ensures.first in
    IsKept-taken c.self.inside c.self.invariant c.pop.new.self c.pop.ensures.ring c.in-Chain.chain first c.pop.ensures.shows

pub returns-clause-request : goal.returns-clause-request
returns-clause-request c =
    let first = rw c.in-Chain.is at c.pop.ensures.first in
    rw (← c.self.view_is) (request-taken c.self.inside c.self.invariant c.pop.new.self c.pop.ensures.ring c.in-Chain.chain first c.reading.result c.reading.ensures)
