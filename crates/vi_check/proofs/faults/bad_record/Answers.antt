use Rattle.std.proofs.Common.{◌+◌, take, sym, ap, ◌∙◌, arith}
use Rattle.std.proofs.lemmas.List.{at_drop_all, take_rest}
use Rattle.vi_check.specs.Faults.{bad_record}
use Rattle.vi_check.proofs.FaultLemmas.{last_of, bad_record-next, bad_record-here}
use Rattle.vi_check.proofs.faults.bad_record.Goals as goal

pub loop-at-preserved : goal.loop-at-preserved
loop-at-preserved c =
    let there = rw (take_rest c.args.records.now c.loop-at.next) at (ap (λ k. c.loop-at.next + k) c.skipped-next.ensures.count) in
    record {
      within = omega (arith, c.stands_at.ensures.within c.if-not-stands_at.false);
      rest = bad_record-next c.args.records.now c.args.shown.now c.loop-at.next c.loop-at.at _ _ c.requires.rising c.loop-at-test.true there (sym c.stands_at.ensures.result ∙ c.if-not-stands_at.false) ∙ c.loop-at.invariant.rest;
    }

pub returns-then-not-stands_at : goal.returns-then-not-stands_at
returns-then-not-stands_at c =
    let there = rw (take_rest c.args.records.now c.loop-at.next) at (ap (λ k. c.loop-at.next + k) c.skipped-next.ensures.count) in
    bad_record-here c.args.records.now c.args.shown.now c.loop-at.next c.loop-at.at _ _ c.requires.rising c.loop-at-test.true there (sym c.stands_at.ensures.result ∙ c.if-not-stands_at.true) ∙ c.loop-at.invariant.rest

pub returns : goal.returns
returns c =
    let records = c.args.records.now in
    sym (at_drop_all (bad_record records (c.loop-at.at + 1) (last_of 0 (take c.loop-at.next records))) c.args.shown.now c.loop-at.at c.loop-at-test.false) ∙ c.loop-at.invariant.rest
