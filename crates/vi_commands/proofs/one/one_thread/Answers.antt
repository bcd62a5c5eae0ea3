use Rattle.std.proofs.Common.{◌≡◌, ℕ, ◌+◌, List, [], length, take, drop, if◌then◌else◌, refl, sym, ◌∙◌, ap, arith}
use Rattle.vi_lines.specs.Rules.{count_lines}
use Rattle.vi_lines.specs.Value.{ScriptValue}
use Rattle.vi_lines.specs.Calls.{same_caller}
use Rattle.vi_lines.specs.declared.line.Line.{Line}
use Rattle.vi_commands.specs.OneThread.{Replied, one_thread, with_line, with_lines, nothing_replied, outcome_of}
use Rattle.vi_commands.proofs.OneLemmas.{with_lines-next, with_lines-end, count_lines-next, count_lines-le}
use Rattle.vi_commands.proofs.TakenLemmas.{IsTaken-among, IsPlainSetup-from_valid}
use Rattle.vi_commands.proofs.one.one_thread.Goals as goal

pub new-requires : goal.new-requires
new-requires c = IsPlainSetup-from_valid _ (rw (← c.script.view_is) at c.requires.setup_valid)

pub loop-line-init : goal.loop-line-init
loop-line-init c = (refl, λ caller. rw c.new-counts.ensures refl, rw c.in_ok-course.ensures (omega arith))

pub next-requires : goal.next-requires
next-requires c =
    let counted = c.loop-line.invariant.1 c.line-item.result.caller in
    omega (arith, counted, count_lines-le c.as_slice-line-items.result.now c.loop-line.line-index c.line-item.result.caller, ap length c.as_slice-line-items.ensures, rw (← c.script.view_is) at c.requires.few)

pub reply_to-requires-clause-taken : goal.reply_to-requires-clause-taken
reply_to-requires-clause-taken c =
    let same = c.as_slice-line-items.ensures ∙ ap (λ (s : ScriptValue). s.lines) c.script.view_is in
    IsTaken-among c.args.script.now c.requires c.as_slice-line-items.result.now same c.loop-line.line-index c.line-item.result c.loop-line-test.true c.line-item.is

pub reply_to-requires-clause-few : goal.reply_to-requires-clause-few
reply_to-requires-clause-few c =
    omega (arith, c.loop-line.invariant.2, c.loop-line-test.true, ap length c.as_slice-line-items.ensures, rw (← c.script.view_is) at c.requires.few)

pub loop-line-preserved : goal.loop-line-preserved
loop-line-preserved c =
    let lines = c.as_slice-line-items.result.now in
    let i = c.loop-line.line-index in
    let l = c.line-item.result in
    let number : c.in_ok-number.number ≡ count_lines (take i lines) l.caller + 1 = c.in_ok-number.ensures.number ∙ ap (λ (n : ℕ). n + 1) (c.loop-line.invariant.1 l.caller) in
    let replied : c.reply_to.new.self ≡ with_line c.loop-line.course l (count_lines (take i lines) l.caller + 1) = c.in_ok-reply_to.ensures.replied ∙ ap (λ (n : ℕ). with_line c.loop-line.course l n) number in (
      ap (λ (done : Replied). with_lines done (take (i + 1) lines) (drop (i + 1) lines)) replied
          ∙ (sym (with_lines-next c.loop-line.course lines i l c.loop-line-test.true c.line-item.is) ∙ c.loop-line.invariant.0),
      λ caller. c.in_ok-number.ensures.counted caller ∙ (ap (λ (n : ℕ). n + (if same_caller l.caller caller then 1 else 0)) (c.loop-line.invariant.1 caller)
          ∙ sym (count_lines-next lines i l caller c.loop-line-test.true c.line-item.is)),
      omega (arith, c.in_ok-reply_to.ensures.most, c.loop-line.invariant.2),
    )

pub outcome-requires : goal.outcome-requires
outcome-requires c =
    omega (arith, c.loop-line.invariant.2, c.loop-line.auto.line-index-end, c.loop-line-test.false, ap length c.as_slice-line-items.ensures, rw (← c.script.view_is) at c.requires.few)

pub returns-clause-outcome : goal.returns-clause-outcome
unfolding one_thread
returns-clause-outcome c =
    let lines = c.as_slice-line-items.result.now in
    let all = sym (with_lines-end c.loop-line.course lines c.loop-line.line-index c.loop-line-test.false) ∙ c.loop-line.invariant.0 in
    let from = ap (λ (done : Replied). with_lines done [] lines) c.in_ok-course.ensures ∙ ap (λ (ls : List Line). with_lines (nothing_replied c.script.inside.setup) [] ls) c.as_slice-line-items.ensures in
    rw (← c.script.view_is) (c.outcome.ensures.outcome ∙ ap (λ (done : Replied). outcome_of done) (all ∙ from))
