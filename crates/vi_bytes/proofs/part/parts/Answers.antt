use Rattle.std.proofs.lemmas.Nat.{and_mask}
use Rattle.vi_bytes.proofs.PartLemmas.{Touches-below_count, below_count-Touches}
use Rattle.vi_bytes.proofs.part.parts.Goals as goal

pub returns-clause-pages : goal.returns-clause-pages
returns-clause-pages c =
    λ k. rw (and_mask c.args.iova 12) (
      (λ below. Touches-below_count c.args.iova c.args.len k c.requires.some below),
      (λ touches. below_count-Touches c.args.iova c.args.len k touches),
    )
