use Rattle.std.proofs.Common.{◌≤◌, ◌<◌, length, refl, sym, ◌∙◌, ap, find, arith}
use Rattle.vi_vring.specs.Notes.{has_head, without}
use Rattle.vi_vring.proofs.NoteLemmas.{next_place, found_here, left_here, found_none, left_none, found_next, left_next}
use Rattle.vi_vring.proofs.note.take_out.Goals as goal

pub returns-then-from-head-clause-note : goal.returns-then-from-head-clause-note
returns-then-from-head-clause-note c =
    let lt : c.loop-i.i < length c.loop-i.notes.items = omega (arith, c.loop-i.notes.ok.0) in
    sym (found_here c.args.head c.loop-i.notes.items c.loop-i.i c.remove.result c.index.result.now lt c.remove.ensures.value c.index.ensures (sym c.from.ensures ∙ c.if-from-head.true))
    ∙ c.loop-i.invariant.found ∙ ap (find (has_head c.args.head)) c.loop-i.invariant.same

pub returns-then-from-head-clause-rest : goal.returns-then-from-head-clause-rest
returns-then-from-head-clause-rest c =
    let lt : c.loop-i.i < length c.loop-i.notes.items = omega (arith, c.loop-i.notes.ok.0) in
    c.remove.ensures.items ∙ next_place c.loop-i.notes.items c.loop-i.i ∙ sym (left_here c.args.head c.loop-i.notes.items c.loop-i.i c.index.result.now lt c.index.ensures (sym c.from.ensures ∙ c.if-from-head.true))
    ∙ c.loop-i.invariant.left ∙ ap (without c.args.head) c.loop-i.invariant.same

pub returns-clause-note : goal.returns-clause-note
returns-clause-note c =
    let ge : length c.loop-i.notes.items ≤ c.loop-i.i = omega (arith, c.loop-i.notes.ok.0, c.loop-i-test.false, c.len-i-end.ensures, c.loop-i.invariant.length) in
    sym (found_none c.args.head c.loop-i.notes.items c.loop-i.i ge) ∙ c.loop-i.invariant.found ∙ ap (find (has_head c.args.head)) c.loop-i.invariant.same

pub returns-clause-rest : goal.returns-clause-rest
returns-clause-rest c =
    let ge : length c.loop-i.notes.items ≤ c.loop-i.i = omega (arith, c.loop-i.notes.ok.0, c.loop-i-test.false, c.len-i-end.ensures, c.loop-i.invariant.length) in
    sym (left_none c.args.head c.loop-i.notes.items c.loop-i.i ge) ∙ c.loop-i.invariant.left ∙ ap (without c.args.head) c.loop-i.invariant.same

pub loop-i-preserved : goal.loop-i-preserved
loop-i-preserved c =
    let lt : c.loop-i.i < length c.loop-i.notes.items = omega (arith, c.loop-i.notes.ok.0, c.loop-i-test.true, c.len-i-end.ensures, c.loop-i.invariant.length) in
    record {
      same = c.loop-i.invariant.same;
      length = c.loop-i.invariant.length;
      room = c.loop-i.invariant.room;
      found = found_next c.args.head c.loop-i.notes.items c.loop-i.i c.index.result.now lt c.index.ensures (λ e. c.if-from-head.false (c.from.ensures ∙ e)) ∙ c.loop-i.invariant.found;
      left = left_next c.args.head c.loop-i.notes.items c.loop-i.i c.index.result.now lt c.index.ensures (λ e. c.if-from-head.false (c.from.ensures ∙ e)) ∙ c.loop-i.invariant.left;
    }

pub loop-i-init : goal.loop-i-init
loop-i-init c = record { same = refl; length = refl; room = refl; found = refl; left = refl }
