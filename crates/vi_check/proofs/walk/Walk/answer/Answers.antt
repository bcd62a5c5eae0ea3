use Rattle.std.proofs.Common.{◌≡◌, ◌+◌, length, sym, ap, subst, ◌∙◌}
use Rattle.vi_history.specs.Device.{One}
use Rattle.vi_history.specs.Histories.{answer_of}
use Rattle.vi_history.specs.Replies.{reply, next}
use Rattle.vi_check.specs.Seen.{Seen, Walked, MayEnter, with_answer}
use Rattle.vi_check.specs.Verdicts.{device_after}
use Rattle.vi_check.proofs.AnswerLemmas.{same_answer-eq}
use Rattle.vi_check.proofs.CallLemmas.{good}
use Rattle.vi_check.proofs.TrackedLemmas.{IsTracked-ordered}
use Rattle.vi_check.proofs.WalkLemmas.{MayEnter-known, one_in_walked, walked_of-push, wrong_answer-other, wrong_answer-same, fault_known}
use Rattle.vi_check.proofs.walk.Walk.answer.Goals as goal

pub step-requires : goal.step-requires
step-requires c =
    let m = c.args.entry.now.mark in
    (good c.args.script.now m.caller m.line m.part c.args.call.now c.requires.valid c.requires.known).plain

pub returns-then-not-same_answer-clause-found : goal.returns-then-not-same_answer-clause-found
returns-then-not-same_answer-clause-found c =
    let device : c.self.inside.plain ≡ device_after c.args.script.now c.args.before.now =
    ap (λ (w : Walked). w.one) (c.self.view_is ∙ c.requires.walked) ∙ one_in_walked c.args.script.now c.args.before.now in
    let reply' = c.in_ok-want.ensures.answer ∙ ap (λ (one : One). reply one c.args.call.now) device in
    wrong_answer-other (length c.args.before.now + 1) c.args.entry.now c.in_ok-want.want c.in_ok-got.got _ reply' c.in_ok-want.ensures.caller c.in_ok-want.ensures.line c.in_ok-want.ensures.part
    (sym c.same_answer.ensures ∙ c.if-not-same_answer.true) c.in_ok-got.ensures

pub enter-requires-clause-entry : goal.enter-requires-clause-entry
enter-requires-clause-entry c =
    let seen = ap (λ (w : Walked). w.seen) (c.self.view_is ∙ c.requires.walked) in
    subst (λ (seen : Seen). MayEnter c.args.script.now seen c.args.entry.now) (sym seen) (MayEnter-known c.args.script.now c.args.before.now c.args.entry.now c.args.call.now c.requires.valid c.requires.known)

pub enter-requires-clause-access : goal.enter-requires-clause-access
enter-requires-clause-access c = λ fault.
    let same = same_answer-eq (answer_of c.args.entry.now) (answer_of c.in_ok-want.want) (sym c.same_answer.ensures ∙ c.if-not-same_answer.false) in
    (fault_known c.args.entry.now c.self.inside.plain c.args.call.now (same ∙ c.in_ok-want.ensures.answer) fault).access

pub enter-requires-clause-reason : goal.enter-requires-clause-reason
enter-requires-clause-reason c = λ fault.
    let same = same_answer-eq (answer_of c.args.entry.now) (answer_of c.in_ok-want.want) (sym c.same_answer.ensures ∙ c.if-not-same_answer.false) in
    (fault_known c.args.entry.now c.self.inside.plain c.args.call.now (same ∙ c.in_ok-want.ensures.answer) fault).reason

pub returns-clause-found : goal.returns-clause-found
returns-clause-found c =
    let device : c.self.inside.plain ≡ device_after c.args.script.now c.args.before.now =
    ap (λ (w : Walked). w.one) (c.self.view_is ∙ c.requires.walked) ∙ one_in_walked c.args.script.now c.args.before.now in
    let reply' = c.in_ok-want.ensures.answer ∙ ap (λ (one : One). reply one c.args.call.now) device in
    wrong_answer-same (length c.args.before.now + 1) c.args.entry.now c.in_ok-want.want _ reply' (sym c.same_answer.ensures ∙ c.if-not-same_answer.false)

pub returns-clause-walked : goal.returns-clause-walked
returns-clause-walked c = λ none.
    let s = c.args.script.now in
    let before = c.args.before.now in
    let h = c.args.entry.now in
    let call = c.args.call.now in
    let was = ap (λ (w : Walked). record { seen = w.seen; one = next w.one call; records = w.records }) (c.self.view_is ∙ c.requires.walked) in
    let same = (IsTracked-ordered s before c.requires.valid c.requires.ordered).calls in
    c.in_ok-enter.ensures ∙ rw c.in_ok-want.ensures.ok (ap (λ (w : Walked). with_answer s (length before + 1) h call w) was ∙ walked_of-push s before h call c.requires.valid c.requires.known same)
