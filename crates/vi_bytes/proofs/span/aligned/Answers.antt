use Rattle.std.proofs.Common.{◌≡◌, ◌<◌, ◌%◌, ◌-◌, eq-eqb, eqb-true, arith}
use Rattle.vi_bytes.proofs.SpanLemmas.{IsWholeGranules-from_remainders, mod-from_IsMultiple, mod-from_product}
use Rattle.vi_bytes.proofs.span.aligned.Goals as goal

pub returns-then-first-granule-eq0 : goal.returns-then-first-granule-eq0
returns-then-first-granule-eq0 c =
    let some : 0 < c.args.granule = omega arith in
    rw c.from-granule.ensures (
      (λ test.
          let at_first : c.args.first % c.args.granule ≡ 0 = rw c.from-granule.ensures at c.if-first-granule-eq0.true in
          IsWholeGranules-from_remainders c.args.first c.args.last c.args.granule some at_first (eqb-true (c.args.last % c.args.granule) (c.args.granule - 1) test)),
      (λ whole. eq-eqb (c.args.last % c.args.granule) (c.args.granule - 1) (mod-from_product c.args.last c.args.granule whole.1.0 some whole.1.1)),
    )

pub returns-else-first-granule-eq0 : goal.returns-else-first-granule-eq0
returns-else-first-granule-eq0 c =
    let not_whole = rw c.from-granule.ensures at c.if-first-granule-eq0.false in
    rw c.from-granule.ensures (
      (λ test. absurd (not_whole (eqb-true (c.args.first % c.args.granule) 0 test))),
      (λ whole. absurd (not_whole (mod-from_IsMultiple c.args.first c.args.granule whole.0))),
    )
