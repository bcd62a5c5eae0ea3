use Rattle.std.proofs.Common.{length, ap, ◌∙◌, arith}
use Rattle.vi_history.specs.declared.call.Caller.TheVariants.{Driver}
use Rattle.vi_lines.specs.declared.line.Line.{Line}
use Rattle.vi_lines.specs.Calls.{same_caller}
use Rattle.vi_lines.specs.Index.{row_places}
use Rattle.vi_lines.proofs.IndexLemmas.{length-filter-le}
use Rattle.vi_script.proofs.TallyLemmas.{lines_counted, no_lines, no_driver}
use Rattle.vi_script.proofs.tally.Tally.count_driver.Goals as goal

pub returns-then-number-clause-lines : goal.returns-then-number-clause-lines
returns-then-number-clause-lines c =
    let counted = c.count_of.ensures ∙ ap (λ rows. length (row_places (Driver c.args.number) rows)) c.deref.ensures.value in
    rw (← c.self.view_is) (lines_counted c.self.inside.lines.items c.self.inside.rows.items (Driver c.args.number) c.count_of.result c.self.invariant.rows counted)

pub returns-then-number-clause-few : goal.returns-then-number-clause-few
returns-then-number-clause-few c =
    let counted = c.count_of.ensures ∙ ap (λ rows. length (row_places (Driver c.args.number) rows)) c.deref.ensures.value in
    let is = lines_counted c.self.inside.lines.items c.self.inside.rows.items (Driver c.args.number) c.count_of.result c.self.invariant.rows counted in
    omega (arith, is, length-filter-le (λ (l : Line). same_caller l.caller (Driver c.args.number)) c.self.inside.lines.items, c.self.invariant.few)

pub returns-else-number-clause-lines : goal.returns-else-number-clause-lines
returns-else-number-clause-lines c =
    rw (← c.self.view_is) (no_lines c.self.inside.lines.items (Driver c.args.number) c.self.invariant.callers (no_driver c.args.number c.if-number.false))
