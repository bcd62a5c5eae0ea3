use Rattle.std.proofs.Common.{◌≡◌, ◌-◌, Option, Some, None, sym, ap, subst, ◌∙◌}
use Rattle.std.specs.List.{slice_get}
use Rattle.std.specs.Option.{option_copied}
use Rattle.vi_lines.specs.declared.line.Line.{Line}
use Rattle.vi_lines.specs.Calls.{line_of}
use Rattle.vi_lines.specs.Index.{row_places}
use Rattle.vi_lines.specs.Value.{ScriptValue}
use Rattle.vi_lines.proofs.IndexLemmas.{line_of-no_row, line_of-in_row}
use Rattle.vi_lines.proofs.script.Script.line.Goals as goal

pub returns-in-Some : goal.returns-in-Some
returns-in-Some c =
    let s : ScriptValue = record { setup = c.self.inside.setup; turns = c.self.inside.turns; lines = c.self.inside.lines } in
    let found : Some c.in-Some.place ≡ slice_get (row_places c.args.caller c.self.inside.rows.items) (c.args.line - 1) =
    sym c.in-Some.is ∙ (c.place_of.ensures ∙ ap (λ rows. slice_get (row_places c.args.caller rows) (c.args.line - 1)) c.deref.ensures.value) in
    subst (λ v. option_copied c.get.result ≡ line_of v c.args.caller c.args.line) c.self.view_is
    (c.get.ensures.value ∙ line_of-in_row s c.self.inside.rows.items c.args.caller c.args.line c.in-Some.place c.self.invariant.0 c.if-line-eq0.false found)

pub returns-in-None : goal.returns-in-None
returns-in-None c =
    let s : ScriptValue = record { setup = c.self.inside.setup; turns = c.self.inside.turns; lines = c.self.inside.lines } in
    let none : None ≡ slice_get (row_places c.args.caller c.self.inside.rows.items) (c.args.line - 1) =
    sym c.in-None.is ∙ (c.place_of.ensures ∙ ap (λ rows. slice_get (row_places c.args.caller rows) (c.args.line - 1)) c.deref.ensures.value) in
    subst (λ v. ◌≡◌ {A = Option Line} None (line_of v c.args.caller c.args.line)) c.self.view_is
    (line_of-no_row s c.self.inside.rows.items c.args.caller c.args.line c.self.invariant.0 c.if-line-eq0.false none)
