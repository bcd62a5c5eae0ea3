use Rattle.std.proofs.Common.{leb-true, le-leb}
use Rattle.vi_bytes.proofs.SpanLemmas.{Meets-from_ends, ends-from_Meets}
use Rattle.vi_bytes.proofs.span.Span.meets.Goals as goal

pub returns-then-self-other-clause-shares : goal.returns-then-self-other-clause-shares
returns-then-self-other-clause-shares c =
    let s = c.args.self.now in
    let t = c.args.other.now in (
      (λ above. Meets-from_ends s t c.requires.proper c.requires.other_proper c.if-self-other.true (leb-true t.first s.last above)),
      (λ meets. le-leb t.first s.last (ends-from_Meets s t meets).1),
    )
