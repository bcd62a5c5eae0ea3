use Rattle.std.proofs.Common.{◌*◌, ◌+◌, ◌^◌, ◌≤◌, refl, sym, ap, ◌∙◌, arith, drop}
use Rattle.vi_words.proofs.NumberLemmas.{more_worth, more_worth-all, digits_in-nil, more_worth-digit, more_worth-other, more_worth-end, more_worth-large}
use Rattle.vi_words.proofs.numbers.worth.Goals as goal

pub returns-then-is_empty : goal.returns-then-is_empty
returns-then-is_empty c = rw (digits_in-nil c.args.base c.args.word.now c.if-is_empty.ensures) refl

pub returns-then-digit-base : goal.returns-then-digit-base
returns-then-digit-base c =
    sym (c.loop-byte.invariant.worth ∙ more_worth-other c.args.base c.loop-byte.worth c.loop-byte.byte-index c.digit-digit.result c.args.word.now c.loop-byte-test.true c.digit-digit.ensures.value c.if-digit-base.true)

pub returns-in_err-worth : goal.returns-in_err-worth
returns-in_err-worth c =
    let digit = more_worth-digit c.args.base c.loop-byte.worth c.loop-byte.byte-index c.digit-digit.result c.args.word.now c.loop-byte-test.true c.digit-digit.ensures.value c.if-digit-base.false in
    let large : 2 ^ 64 ≤ c.loop-byte.worth * c.args.base + c.digit-digit.result = omega (arith, c.in_err-worth.ensures) in
    rw c.from_residual.ensures (sym (c.loop-byte.invariant.worth ∙ (digit ∙ more_worth-large c.args.base _ (drop (c.loop-byte.byte-index + 1) c.args.word.now) c.requires.some large)))

pub loop-byte-init : goal.loop-byte-init
loop-byte-init c = record { worth = more_worth-all c.args.base c.args.word.now c.if-is_empty.ensures; fits = omega arith }

pub loop-byte-preserved : goal.loop-byte-preserved
loop-byte-preserved c =
    let digit = more_worth-digit c.args.base c.loop-byte.worth c.loop-byte.byte-index c.digit-digit.result c.args.word.now c.loop-byte-test.true c.digit-digit.ensures.value c.if-digit-base.false in
    record {
      worth = c.loop-byte.invariant.worth ∙ (digit ∙ ap (λ n. more_worth c.args.base n (drop (c.loop-byte.byte-index + 1) c.args.word.now)) (sym c.in_ok-worth.ensures.1));
      fits = omega (arith, c.in_ok-worth.ensures.0, c.in_ok-worth.ensures.1);
    }

pub returns : goal.returns
returns c = sym (c.loop-byte.invariant.worth ∙ more_worth-end c.args.base c.loop-byte.worth c.loop-byte.byte-index c.args.word.now c.loop-byte-test.false c.loop-byte.invariant.fits)
