use Rattle.std.proofs.Common.{is_ok, sym, ap, ◌∙◌, arith}
use Rattle.std.proofs.lemmas.List.{length_push}
use Rattle.vi_vring.specs.Shown.{piece_at}
use Rattle.vi_vring.proofs.Walks.{descriptor_of, GoesOn, shown_start, whole_on, walked_end, walked_next, Fits_none, Fits_push}
use Rattle.vi_vring.proofs.walking.gather.Goals.{In-chain}
use Rattle.vi_vring.proofs.walking.gather.Goals as goal

pub chain-init : goal.chain-init
chain-init c = record {
  rest = shown_start c.args.n c.args.area.now c.args.head c.args.pieces.now.items c.requires.empty;
  fits = Fits_none c.args.area.now c.args.pieces.now.items c.requires.empty;
  count = rw c.requires.empty (omega arith);
}

-- the chain goes on at the descriptor that the loop stands at
here : (c : In-chain) → GoesOn c.args.n c.args.area.now c.chain.d c.chain.pieces.items
here c = whole_on c.args.n c.args.area.now c.chain._passed c.chain.d c.chain.pieces.items c.chain-test.true (ap is_ok c.chain.invariant.rest ∙ c.requires.unbroken)

pub piece_of-piece-requires : goal.piece_of-piece-requires
piece_of-piece-requires c = let h = (here (goal.at.piece_of-piece-requires c).In-chain).table in omega (arith, h, c.requires.table)

pub next_of-requires : goal.next_of-requires
next_of-requires c = let h = (here (goal.at.next_of-requires c).In-chain).table in omega (arith, h, c.requires.table)

pub returns-in-None-clause-shown : goal.returns-in-None-clause-shown
returns-in-None-clause-shown c =
    let h = here (goal.at.returns-in-None-clause-shown c).In-chain in
    let go = walked_end c.args.n c.args.area.now c.chain._passed c.chain.d c.chain.pieces.items c.chain-test.true h.table (descriptor_of c.chain.d c.args.area.now) h.described (sym c.next_of.ensures ∙ c.in-None.is) in
    rw (c.push.ensures.items, c.piece_of-piece.ensures) (sym c.chain.invariant.rest ∙ go)

pub returns-in-None-clause-fits : goal.returns-in-None-clause-fits
returns-in-None-clause-fits c =
    let h = here (goal.at.returns-in-None-clause-fits c).In-chain in
    rw (c.push.ensures.items, c.piece_of-piece.ensures) (Fits_push c.args.area.now (piece_at c.chain.d c.args.area.now) c.chain.pieces.items c.chain.invariant.fits h.memory)

pub chain-preserved : goal.chain-preserved
chain-preserved c =
    let h = here (goal.at.chain-preserved c).In-chain in
    let go = walked_next c.args.n c.args.area.now c.chain._passed c.chain.d c.chain.pieces.items c.chain-test.true h.table (descriptor_of c.chain.d c.args.area.now) c.in-Some.next h.described (sym c.next_of.ensures ∙ c.in-Some.is) in
    let more = length_push c.chain.pieces.items (piece_at c.chain.d c.args.area.now) in
    rw (c.push.ensures.items, c.piece_of-piece.ensures) (record {
      rest = sym go ∙ c.chain.invariant.rest;
      fits = Fits_push c.args.area.now (piece_at c.chain.d c.args.area.now) c.chain.pieces.items c.chain.invariant.fits h.memory;
      count = omega (arith, more, c.chain.invariant.count);
    })
