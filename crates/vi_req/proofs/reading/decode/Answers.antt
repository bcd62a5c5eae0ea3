use Rattle.vi_req.specs.Requests.{IsRequest}
use Rattle.vi_req.specs.Refusals.{RefusedAs}
use Rattle.vi_req.proofs.Exact.{exact_ok, exact_err}
use Rattle.vi_req.proofs.RequestLemmas.{one_request, one_fault, apart}
use Rattle.vi_req.proofs.ReadingLemmas.{reading-as}
use Rattle.vi_req.proofs.reading.decode.Goals as goal

pub returns-clause-accepted : goal.returns-clause-accepted
returns-clause-accepted c =
    let bytes = c.args.bytes.now in
    exact_ok (λ request. IsRequest request bytes) (RefusedAs bytes) (one_request bytes) (one_fault bytes) (apart bytes) c.read.result c.read.ensures

pub returns-clause-refused : goal.returns-clause-refused
returns-clause-refused c =
    let bytes = c.args.bytes.now in
    exact_err (λ request. IsRequest request bytes) (RefusedAs bytes) (one_request bytes) (one_fault bytes) (apart bytes) c.read.result c.read.ensures

pub returns-clause-answered : goal.returns-clause-answered
returns-clause-answered c = λ write room. reading-as c.args.bytes.now write c.read.result c.read.ensures room
