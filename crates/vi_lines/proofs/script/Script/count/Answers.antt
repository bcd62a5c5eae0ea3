use Rattle.std.proofs.Common.{◌≡◌, ◌<◌, ◌^◌, length, arith, ap, subst, ◌∙◌}
use Rattle.vi_lines.specs.Calls.{lines_of}
use Rattle.vi_lines.specs.Index.{row_places}
use Rattle.vi_lines.specs.Value.{ScriptValue}
use Rattle.vi_lines.proofs.IndexLemmas.{length-row_places, length-lines_of-le}
use Rattle.vi_lines.proofs.script.Script.count.Goals as goal

pub overflow_cast-result : goal.overflow_cast-result
overflow_cast-result c =
    let s : ScriptValue = record { setup = c.self.inside.setup; turns = c.self.inside.turns; lines = c.self.inside.lines } in
    let counted : c.count_of.result ≡ length (lines_of s c.args.caller) =
    c.count_of.ensures ∙ (ap (λ rows. length (row_places c.args.caller rows)) c.deref.ensures.value ∙ length-row_places s c.self.inside.rows.items c.args.caller c.self.invariant.0) in
    let few : length s.lines < 2 ^ 32 = c.self.invariant.1 in
    rw counted (omega (arith, length-lines_of-le s c.args.caller))

pub returns : goal.returns
returns c =
    let s : ScriptValue = record { setup = c.self.inside.setup; turns = c.self.inside.turns; lines = c.self.inside.lines } in
    let counted : c.count_of.result ≡ length (lines_of s c.args.caller) =
    c.count_of.ensures ∙ (ap (λ rows. length (row_places c.args.caller rows)) c.deref.ensures.value ∙ length-row_places s c.self.inside.rows.items c.args.caller c.self.invariant.0) in
    subst (λ v. c.count_of.result ≡ length (lines_of v c.args.caller)) c.self.view_is counted
