use Rattle.std.proofs.Common.{◌≡◌, ◌*◌, ◌+◌, refl, sym, ap, ◌∙◌, arith, drop}
use Rattle.vi_words.specs.Numbers.{capped}
use Rattle.vi_words.proofs.NumberLemmas.{more_capped, more_capped-all, digits_in-nil, more_capped-digit, more_capped-other, more_capped-end}
use Rattle.vi_words.proofs.numbers.capped_worth.Goals as goal

pub returns-then-is_empty : goal.returns-then-is_empty
returns-then-is_empty c = rw (digits_in-nil 10 c.args.word.now c.if-is_empty.ensures) refl

pub returns-then-digit-ge10 : goal.returns-then-digit-ge10
returns-then-digit-ge10 c =
    sym (c.loop-byte.invariant.worth ∙ more_capped-other c.loop-byte.worth c.loop-byte.byte-index c.digit-digit.result c.args.word.now c.loop-byte-test.true c.digit-digit.ensures.value c.if-digit-ge10.true)

pub loop-byte-init : goal.loop-byte-init
loop-byte-init c = record { worth = more_capped-all c.args.word.now c.if-is_empty.ensures; most = omega arith }

pub loop-byte-preserved : goal.loop-byte-preserved
loop-byte-preserved c =
    let digit = more_capped-digit c.loop-byte.worth c.loop-byte.byte-index c.digit-digit.result c.args.word.now c.loop-byte-test.true c.digit-digit.ensures.value c.if-digit-ge10.false in
    let is : c.min-worth.result ≡ capped (c.loop-byte.worth * 10 + c.digit-digit.result) = omega arith in
    record { worth = c.loop-byte.invariant.worth ∙ (digit ∙ ap (λ n. more_capped n (drop (c.loop-byte.byte-index + 1) c.args.word.now)) (sym is)); most = omega arith }

pub returns : goal.returns
returns c = sym (c.loop-byte.invariant.worth ∙ more_capped-end c.loop-byte.worth c.loop-byte.byte-index c.args.word.now c.loop-byte-test.false c.loop-byte.invariant.most)
