use Rattle.std.proofs.Common.{length, ap, ◌∙◌, arith}
use Rattle.vi_history.specs.declared.call.Caller.TheVariants.{Back}
use Rattle.vi_lines.specs.declared.line.Line.{Line}
use Rattle.vi_lines.specs.Calls.{same_caller}
use Rattle.vi_lines.specs.Index.{row_places}
use Rattle.vi_lines.proofs.IndexLemmas.{length-filter-le}
use Rattle.vi_script.proofs.TallyLemmas.{lines_counted, no_lines, no_back}
use Rattle.vi_script.proofs.tally.Tally.count_back.Goals as goal

pub returns-then-id-clause-lines : goal.returns-then-id-clause-lines
returns-then-id-clause-lines c =
    let counted = c.count_of.ensures ∙ ap (λ rows. length (row_places (Back c.args.id) rows)) c.deref.ensures.value in
    rw (← c.self.view_is) (lines_counted c.self.inside.lines.items c.self.inside.rows.items (Back c.args.id) c.count_of.result c.self.invariant.rows counted)

pub returns-then-id-clause-few : goal.returns-then-id-clause-few
returns-then-id-clause-few c =
    let counted = c.count_of.ensures ∙ ap (λ rows. length (row_places (Back c.args.id) rows)) c.deref.ensures.value in
    let is = lines_counted c.self.inside.lines.items c.self.inside.rows.items (Back c.args.id) c.count_of.result c.self.invariant.rows counted in
    omega (arith, is, length-filter-le (λ (l : Line). same_caller l.caller (Back c.args.id)) c.self.inside.lines.items, c.self.invariant.few)

pub returns-else-id-clause-lines : goal.returns-else-id-clause-lines
returns-else-id-clause-lines c =
    rw (← c.self.view_is) (no_lines c.self.inside.lines.items (Back c.args.id) c.self.invariant.callers (no_back c.args.id c.if-id.false))
