use Rattle.std.proofs.Common.{Ok, sym, ◌∙◌, ap, arith}
use Rattle.std.proofs.lemmas.Result.{err_from_is_err_and}
use Rattle.vi_vring.proofs.Surveys.{surveyed_start, surveyed_err, surveyed_end, surveyed_next, small_piece, small_counted}
use Rattle.vi_vring.proofs.walking.survey.Goals as goal

pub chain-init : goal.chain-init
chain-init c = record {
  rest = surveyed_start c.args.n c.args.area.now c.args.head;
  small = record { readable = omega arith; writable = omega arith };
}

pub counted-so_far-requires-clause-len : goal.counted-so_far-requires-clause-len
counted-so_far-requires-clause-len c = small_piece c.args.area.now c.in_ok-found.found.piece c.chain.so_far c.in_ok-found.ensures.fits

pub counted-so_far-requires-clause-small : goal.counted-so_far-requires-clause-small
counted-so_far-requires-clause-small c = c.chain.invariant.small

pub returns-in_err-found : goal.returns-in_err-found
returns-in_err-found c =
    let p = err_from_is_err_and c.from_residual.result c.from_residual.ensures.1 in
    let go = surveyed_err c.args.n c.args.area.now c.chain._passed c.chain.d c.chain.so_far c.chain-test.true c.if-d-n.false c.in_err-found.field-0.0 c.in_err-found.ensures.described in
    rw (p.1, p.2) (sym go ∙ c.chain.invariant.rest)

pub returns-in-None : goal.returns-in-None
returns-in-None c =
    let go = surveyed_end c.args.n c.args.area.now c.chain._passed c.chain.d c.chain.so_far c.chain-test.true c.if-d-n.false c.in_ok-found.found c.in_ok-found.ensures.described c.in-None.is in
    ap Ok c.counted-so_far.ensures ∙ sym go ∙ c.chain.invariant.rest

pub chain-preserved : goal.chain-preserved
chain-preserved c =
    let go = surveyed_next c.args.n c.args.area.now c.chain._passed c.chain.d c.chain.so_far c.chain-test.true c.if-d-n.false c.in_ok-found.found c.in-Some.next c.in_ok-found.ensures.described c.in-Some.is in
    rw c.counted-so_far.ensures (record {
      rest = sym go ∙ c.chain.invariant.rest;
      small = small_counted c.args.area.now c.in_ok-found.found.piece c.chain.so_far c.in_ok-found.ensures.fits c.chain.invariant.small;
    })
