use Rattle.std.proofs.Common.{◌≡◌, ◌≤◌, Bool, true, false, nat_eq, [], ◌∷◌, Option, Some, arith, refl, ap, ◌∙◌}
use Rattle.vi_history.specs.Replies.{Answer, status_answer}
use Rattle.vi_model.specs.Control.{Queued, Answered}
use Rattle.vi_model.specs.Starts.{answer_port}
use Rattle.vi_model.specs.Asking.{one_if}
use Rattle.vi_calls.specs.declared.calls.Request.{Request}
use Rattle.vi_calls.specs.Value.{CallsValue, port_at}
use Rattle.vi_calls.specs.Moves.{no_calls, with_queued, taken_once, answered_chain}
use Rattle.vi_calls.specs.Collecting.{AreAnsweredOnce, after_collect}
use Rattle.vi_calls.proofs.Counting.{is-same}
use Rattle.vi_calls.proofs.Sequels.{answered-again}
use Rattle.tests_rings.proofs.calls.answered.Goals as goal

one-most : (b : Bool) → one_if b ≤ 1
one-most true = omega arith
one-most false = omega arith

once-one : (a : Answered) → AreAnsweredOnce (a ∷ [])
once-one a = λ line. omega (arith, one-most (nat_eq a.line line))

answered-is : (submitted taken answered : CallsValue) (q : Queued) (result : Option Request) (request : Request) (a : Answer) → submitted ≡ with_queued q no_calls → taken ≡ taken_once result submitted
    → result ≡ Some request → answered ≡ answered_chain request.head a taken → answered ≡ record no_calls { ports = answer_port no_calls.ports q.driver q.line a }
answered-is submitted taken answered q result request a s t r e =
    rw (e, t, r, s) (answered-again (with_queued q no_calls) q [] request.head (record { first = refl; fresh = refl }) a)

abbrev detach : Queued
detach = record { driver = 3; line = 1; read = 2 ∷ 0 ∷ 0 ∷ 0 ∷ 1 ∷ 0 ∷ 0 ∷ 0 ∷ 7 ∷ 0 ∷ 0 ∷ 0 ∷ 0 ∷ 0 ∷ 0 ∷ 0 ∷ 0 ∷ 0 ∷ 0 ∷ 0 ∷ []; write = 4 }

-- the one answer of a driver, and none when it is collected
once-first : (v : CallsValue) (q : Queued) (a : Answer) → q.driver ≡ 3 → v ≡ record no_calls { ports = answer_port no_calls.ports q.driver q.line a } → AreAnsweredOnce (port_at v 3).answered
once-first v q a d e = rw (e, d) (once-one (record { line = q.line; answer = a }))

once-second : (v w : CallsValue) (q : Queued) (a : Answer) → q.driver ≡ 3 → v ≡ record no_calls { ports = answer_port no_calls.ports q.driver q.line a } → w ≡ after_collect 3 v
    → AreAnsweredOnce (port_at w 3).answered
once-second v w q a d e f =
    let same : nat_eq q.line q.line ≡ true = is-same q.line in
    rw (f, e, d, same) (λ line. omega arith)

pub collect-first-requires-clause-once : goal.collect-first-requires-clause-once
collect-first-requires-clause-once c =
    once-first c.answer.new.self detach (status_answer 4) refl
    (answered-is c.submit.new.self c.take.new.self c.answer.new.self detach c.take.result c.in-Some.request (status_answer 4) (c.submit.ensures ∙ ap (with_queued detach) c.requires) c.take.ensures.taken c.in-Some.is c.answer.ensures)

pub collect-again-requires-clause-once : goal.collect-again-requires-clause-once
collect-again-requires-clause-once c =
    once-second c.answer.new.self c.collect-first.new.self detach (status_answer 4) refl
    (answered-is c.submit.new.self c.take.new.self c.answer.new.self detach c.take.result c.in-Some.request (status_answer 4) (c.submit.ensures ∙ ap (with_queued detach) c.requires) c.take.ensures.taken c.in-Some.is c.answer.ensures)
    c.collect-first.ensures.rest
