use Rattle.std.proofs.Common.{not, rules}
use Rattle.std.proofs.lemmas.Fn.{filter_same}
use Rattle.vi_bytes.specs.Spans.{covers}
use Rattle.vi_ranges.proofs.ranges.keep_outside.Goals as goal

pub returns-clause-items : goal.returns-clause-items
returns-clause-items c = filter_same _ (λ m. not (covers c.args.span.now m.span)) _ (λ x b q k. search rules) _ _ c.retain.ensures.filtered
