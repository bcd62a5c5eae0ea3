use Rattle.std.proofs.Common.{List, subst}
use Rattle.vi_trace.specs.declared.finding.Finding.TheVariants.{Held, Broken}
use Rattle.vi_trace.specs.declared.trace.TraceLine.{TraceLine}
use Rattle.vi_trace.specs.Rules.{nothing_known, Judges}
use Rattle.vi_trace.proofs.JudgingLemmas.{broken_there, goes_there, holds_at_end, taken_there, refused_there}
use Rattle.vi_trace.proofs.judging.judge.Goals as goal

pub loop-line-init : goal.loop-line-init
loop-line-init c = (nothing_known, c.new-state.ensures, λ f judged. subst (λ (ls : List TraceLine). Judges nothing_known ls f) c.lines-line-items.ensures judged)

pub returns-in-Some : goal.returns-in-Some
returns-in-Some c =
    let i = c.loop-line.invariant in
    let l = c.line-item.result in
    let breaks = refused_there i.0 l c.take.new.self c.in_ok-rule.field-0 c.in-Some.rule c.in-Some.is (c.in_ok-rule.ensures i.0 i.1) in
    i.2 (Broken l.number c.in-Some.rule) (broken_there i.0 c.lines-line-items.result.now c.loop-line.line-index l c.in-Some.rule c.loop-line-test.true c.line-item.is breaks)

pub loop-line-preserved : goal.loop-line-preserved
loop-line-preserved c =
    let i = c.loop-line.invariant in
    let l = c.line-item.result in
    let t = taken_there i.0 l c.take.new.self c.in_ok-rule.field-0 c.in_default.is (c.in_ok-rule.ensures i.0 i.1) in
    (t.0, t.2, λ f judged. i.2 f (goes_there i.0 t.0 c.lines-line-items.result.now c.loop-line.line-index l f c.loop-line-test.true c.line-item.is t.1 judged))

pub returns : goal.returns
returns c =
    let i = c.loop-line.invariant in
    i.2 Held (holds_at_end i.0 c.lines-line-items.result.now c.loop-line.line-index c.loop-line-test.false)
