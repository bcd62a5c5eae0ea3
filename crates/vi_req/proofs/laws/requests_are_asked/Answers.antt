use Rattle.vi_req.proofs.ReadingLemmas.{reading-Asks, reading-request_bytes}
use Rattle.vi_req.proofs.laws.requests_are_asked.Goals as goal

pub returns-clause-asked : goal.returns-clause-asked
returns-clause-asked c = λ bytes write request room. reading-Asks bytes write request room

pub returns-clause-written : goal.returns-clause-written
returns-clause-written c = reading-request_bytes
