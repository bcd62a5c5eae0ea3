use Rattle.std.proofs.Common.{◌≡◌, ◌-◌, true, false, get_or, refl, sym, ◌∙◌, arith}
use Rattle.vi_check.proofs.EnteredLemmas.{done_first-le}
use Rattle.vi_check.proofs.BatchLemmas.{comes_next-at}
use Rattle.vi_check.proofs.MissingLemmas.{no_lines}
use Rattle.vi_check.proofs.progress.Progress.line_comes_next.Goals as goal

pub returns-in_default : goal.returns-in_default
returns-in_default c =
    absurd (omega (arith, no_lines c.args.script.now c.args.self.now c.args.number c.requires.fits (c.in_default.ensures), c.requires.first, c.requires.last))

pub returns-then-has : goal.returns-then-has
returns-then-has c =
    let e = comes_next-at c.args.script.now c.args.self.now c.args.number c.args.line c.in-Some.entered.now c.in-Some.ensures in
    let has : get_or c.in-Some.entered.now (c.args.line - 1) false ≡ true = sym c.has.ensures ∙ c.if-has.true in
    rw (e, has) refl

pub overflow_cast-open : goal.overflow_cast-open
overflow_cast-open c =
    let open' = done_first-le c.in-Some.entered.now (c.args.line - 1) (sym c.has.ensures ∙ c.if-has.false) in
    omega (arith, open', c.done_first.ensures.done)

pub overflow_add-open : goal.overflow_add-open
overflow_add-open c =
    let open' = done_first-le c.in-Some.entered.now (c.args.line - 1) (sym c.has.ensures ∙ c.if-has.false) in
    omega (arith, open', c.done_first.ensures.done)

pub is_one_batch-requires-clause-rises : goal.is_one_batch-requires-clause-rises
is_one_batch-requires-clause-rises c =
    let open' = done_first-le c.in-Some.entered.now (c.args.line - 1) (sym c.has.ensures ∙ c.if-has.false) in
    omega (arith, open', c.done_first.ensures.done)

pub returns : goal.returns
returns c =
    let e = comes_next-at c.args.script.now c.args.self.now c.args.number c.args.line c.in-Some.entered.now c.in-Some.ensures in
    let has : get_or c.in-Some.entered.now (c.args.line - 1) false ≡ false = sym c.has.ensures ∙ c.if-has.false in
    rw (e, has, c.is_one_batch.ensures, c.done_first.ensures.done) refl
