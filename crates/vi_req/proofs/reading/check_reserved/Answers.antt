use Rattle.vi_req.proofs.Zeros.{not_zero_when}
use Rattle.vi_req.proofs.reading.check_reserved.Goals as goal

pub returns-then-not-are_zero_from : goal.returns-then-not-are_zero_from
returns-then-not-are_zero_from c = record {
  size = c.requires.size;
  some = not_zero_when c.are_zero_from.result _ _ c.are_zero_from.ensures c.if-not-are_zero_from.true c.requires.reserved;
}
