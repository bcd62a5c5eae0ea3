use Rattle.vi_req.proofs.RequestLemmas.{IsRequest-request_bytes}
use Rattle.vi_req.proofs.laws.requests_read_back.Goals as goal

pub returns : goal.returns
returns c = IsRequest-request_bytes
