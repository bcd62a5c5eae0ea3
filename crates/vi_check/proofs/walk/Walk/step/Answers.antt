use Rattle.std.proofs.Common.{◌≡◌, None, sym, ap, subst, ◌∙◌}
use Rattle.std.specs.Prelude.{IfOk}
use Rattle.vi_lines.specs.Order.{IsDue}
use Rattle.vi_lines.proofs.TransferLemmas.{HasTransfers-from_valid}
use Rattle.vi_check.specs.Seen.{Seen, FitsScript, Walked}
use Rattle.vi_check.proofs.CallLemmas.{good}
use Rattle.vi_check.proofs.SeenLemmas.{FitsScript-seen}
use Rattle.vi_check.proofs.WalkLemmas.{seen_in_walked, passed_test, due_test, awaited_from_one, finding-unknown, finding-extra, finding-order, finding-answer, IsDue-tested, IfOk-each}
use Rattle.vi_check.proofs.walk.Walk.step.Goals as goal

pub call-requires : goal.call-requires
call-requires c = HasTransfers-from_valid c.args.script.now c.requires.valid

pub returns-in_default-clause-found : goal.returns-in_default-clause-found
returns-in_default-clause-found c = finding-unknown c.args.script.now c.args.before.now c.args.entry.now (sym c.in_ok-call.ensures ∙ c.in_default.is)

pub has_passed-requires : goal.has_passed-requires
has_passed-requires c =
    let m = c.args.entry.now.mark in
    (good c.args.script.now m.caller m.line m.part c.in-Some.call c.requires.valid (sym c.in_ok-call.ensures ∙ c.in-Some.is)).first

pub returns-then-has_passed-clause-found : goal.returns-then-has_passed-clause-found
returns-then-has_passed-clause-found c =
    let s = c.args.script.now in
    let before = c.args.before.now in
    let known = sym c.in_ok-call.ensures ∙ c.in-Some.is in
    let seen = ap (λ (w : Walked). w.seen) (c.self.view_is ∙ c.requires.walked) ∙ seen_in_walked s before in
    let test = passed_test s before c.args.entry.now c.in-Some.call c.self.inside.progress c.has_passed.result c.requires.valid c.requires.ordered known seen c.has_passed.ensures in
    finding-extra s before c.args.entry.now c.in-Some.call known (sym test ∙ c.if-has_passed.true)

pub may_come-requires-clause-fits : goal.may_come-requires-clause-fits
may_come-requires-clause-fits c =
    let s = c.args.script.now in
    let seen = ap (λ (w : Walked). w.seen) (c.self.view_is ∙ c.requires.walked) ∙ seen_in_walked s c.args.before.now in
    subst (λ (x : Seen). FitsScript s x) (sym seen) (FitsScript-seen s c.args.before.now c.requires.valid)

pub may_come-requires-clause-first : goal.may_come-requires-clause-first
may_come-requires-clause-first c =
    let m = c.args.entry.now.mark in
    (good c.args.script.now m.caller m.line m.part c.in-Some.call c.requires.valid (sym c.in_ok-call.ensures ∙ c.in-Some.is)).first

pub may_come-requires-clause-last : goal.may_come-requires-clause-last
may_come-requires-clause-last c =
    let m = c.args.entry.now.mark in
    (good c.args.script.now m.caller m.line m.part c.in-Some.call c.requires.valid (sym c.in_ok-call.ensures ∙ c.in-Some.is)).last

pub may_come-requires-clause-awaited : goal.may_come-requires-clause-awaited
may_come-requires-clause-awaited c = awaited_from_one c.args.script.now c.args.entry.now c.in-Some.call c.requires.valid (sym c.in_ok-call.ensures ∙ c.in-Some.is)

pub returns-then-not-may_come-clause-found : goal.returns-then-not-may_come-clause-found
returns-then-not-may_come-clause-found c =
    let s = c.args.script.now in
    let before = c.args.before.now in
    let known = sym c.in_ok-call.ensures ∙ c.in-Some.is in
    let seen = ap (λ (w : Walked). w.seen) (c.self.view_is ∙ c.requires.walked) ∙ seen_in_walked s before in
    let left' = passed_test s before c.args.entry.now c.in-Some.call c.self.inside.progress c.has_passed.result c.requires.valid c.requires.ordered known seen c.has_passed.ensures in
    let due = due_test s before c.args.entry.now c.in-Some.call c.self.inside.progress c.may_come.result c.requires.valid c.requires.ordered known seen c.may_come.ensures in
    finding-order s before c.args.entry.now c.in-Some.call known (sym left' ∙ c.if-has_passed.false) (sym due ∙ c.if-not-may_come.true)

pub returns-clause-found : goal.returns-clause-found
returns-clause-found c =
    let s = c.args.script.now in
    let before = c.args.before.now in
    let known = sym c.in_ok-call.ensures ∙ c.in-Some.is in
    let seen = ap (λ (w : Walked). w.seen) (c.self.view_is ∙ c.requires.walked) ∙ seen_in_walked s before in
    let left' = passed_test s before c.args.entry.now c.in-Some.call c.self.inside.progress c.has_passed.result c.requires.valid c.requires.ordered known seen c.has_passed.ensures in
    let due = due_test s before c.args.entry.now c.in-Some.call c.self.inside.progress c.may_come.result c.requires.valid c.requires.ordered known seen c.may_come.ensures in
    subst (λ x. IfOk c.answer.result (λ found. found ≡ x)) (finding-answer s before c.args.entry.now c.in-Some.call known (sym left' ∙ c.if-has_passed.false) (sym due ∙ c.if-not-may_come.false)) c.answer.ensures.found

pub returns-clause-due : goal.returns-clause-due
returns-clause-due c =
    let s = c.args.script.now in
    let before = c.args.before.now in
    let known = sym c.in_ok-call.ensures ∙ c.in-Some.is in
    let seen = ap (λ (w : Walked). w.seen) (c.self.view_is ∙ c.requires.walked) ∙ seen_in_walked s before in
    let due = due_test s before c.args.entry.now c.in-Some.call c.self.inside.progress c.may_come.result c.requires.valid c.requires.ordered known seen c.may_come.ensures in
    let is = IsDue-tested s before c.args.entry.now c.in-Some.call c.requires.valid known (sym due ∙ c.if-not-may_come.false) in
    IfOk-each c.answer.result (λ found. found ≡ None → IsDue s before c.args.entry.now) (λ found none. is)
