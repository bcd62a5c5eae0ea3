use Rattle.std.proofs.Common.{not, rules}
use Rattle.std.proofs.lemmas.Fn.{filter_same}
use Rattle.vi_iova.specs.Spaces.{is_same}
use Rattle.vi_iova.proofs.space.take_out.Goals as goal

pub returns : goal.returns
returns c = filter_same _ (λ t. not (is_same t c.args.span.now)) _ (λ x b q k. search rules) _ _ c.retain.ensures.filtered
