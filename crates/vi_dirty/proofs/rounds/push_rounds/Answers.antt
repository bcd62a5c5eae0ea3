use Rattle.std.proofs.Common.{◌≡◌, ◌++◌, ◌∙◌, ℕ, subst}
use Rattle.std.specs.String.{string_bytes}
use Rattle.vi_dirty.specs.Rounds.{round_lines}
use Rattle.vi_dirty.proofs.Course.{begins, goes_on, ends, count_is}
use Rattle.vi_dirty.proofs.Leading.{ready_split}
use Rattle.vi_dirty.proofs.rounds.push_rounds.Goals as goal

pub push_round-requires-clause-ready : goal.push_round-requires-clause-ready
push_round-requires-clause-ready c = rw (c.cut.ensures.round) (ready_split c.args.script.now c.args.every c.loop-i.rest.now c.loop-i.course.tracker c.loop-i.invariant.go.ready).0

pub loop-i-init : goal.loop-i-init
loop-i-init c = rw (c.div_ceil-count.ensures) (begins c.args.script.now c.args.every _ c.args.entries.now c.args.course.now.tracker c.args.course.now.all c.requires.some c.requires.go)

pub loop-i-preserved : goal.loop-i-preserved
loop-i-preserved c =
    let e = c.in_ok-push_round.ensures in
    rw (e.tracker, e.all, e.line, c.cut.ensures.round, c.cut.ensures.later) (goes_on c.args.script.now c.args.every c.div_ceil-count.result c.loop-i.i c.args.course.now.all.room c.args.course.now.tracker.one _ _ c.args.entries.now c.loop-i.course.tracker c.loop-i.course.all _ c.loop-i.rest.now c.loop-i-test.true c.loop-i.invariant)

pub returns-clause-lines : goal.returns-clause-lines
returns-clause-lines c = λ calls are.
    let count = c.div_ceil-count.ensures ∙ count_is c.args.script.now c.args.every c.args.entries.now calls are in
    let all = ends c.args.script.now c.args.every c.div_ceil-count.result c.loop-i.i c.args.course.now.all.room c.args.course.now.tracker.one _ _ c.args.entries.now c.loop-i.course.tracker c.loop-i.course.all _ c.loop-i.rest.now calls c.loop-i-test.false c.loop-i.invariant are in
    subst (λ (n : ℕ). string_bytes c.loop-i.out ≡ string_bytes c.args.out.now ++ round_lines c.args.every 1 n c.args.course.now.tracker.one calls) count all.0

pub returns-clause-all : goal.returns-clause-all
returns-clause-all c = λ calls are.
    (ends c.args.script.now c.args.every c.div_ceil-count.result c.loop-i.i c.args.course.now.all.room c.args.course.now.tracker.one _ _ c.args.entries.now c.loop-i.course.tracker c.loop-i.course.all _ c.loop-i.rest.now calls c.loop-i-test.false c.loop-i.invariant are).1
