use Rattle.std.proofs.Common.{◌≤◌, List, false, fold, length, replicate, ap, subst, ◌∙◌}
use Rattle.vi_lines.specs.declared.line.Line.{Line}
use Rattle.vi_lines.specs.Value.{ScriptValue}
use Rattle.vi_backend.proofs.Marking.{marked_by_line, all_marked, take_past}
use Rattle.vi_backend.proofs.lines.awaited_lines.Goals as goal

pub returns : goal.returns
returns c =
    let same = c.as_slice-line-items.ensures ∙ ap (λ (s : ScriptValue). s.lines) c.script.view_is in
    let all = subst (λ (ls : List Line). length ls ≤ c.loop-line.line-index) same c.loop-line-test.false in
    c.loop-line.invariant
    ∙ (ap (fold (marked_by_line c.args.caller) (replicate c.args.count false)) (take_past c.args.script.now.lines c.loop-line.line-index all) ∙ all_marked c.args.script.now c.args.caller c.args.count)
