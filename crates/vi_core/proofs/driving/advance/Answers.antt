use Rattle.std.proofs.Common.{refl, ap, sym, ◌∙◌, inl, inr}
use Rattle.std.specs.Prelude.{is_some}
use Rattle.vi_core.proofs.DriverTurns.{next_is, line_room, drives_rest, drives_collect, drives_awaiting, drives_submitted, awaits_none, are_all_posted}
use Rattle.vi_core.proofs.driving.advance.Goals as goal

pub submit-requires-clause-batch : goal.submit-requires-clause-batch
submit-requires-clause-batch c = (next_is c.args.driver.now _ (sym c.next.ensures ∙ c.in-Submit.is) (inl refl)).2

pub submit-requires-clause-room : goal.submit-requires-clause-room
submit-requires-clause-room c = line_room c.args.control.now.plan c.args.control.now.state c.args.driver.now _ c.requires.room (sym c.next.ensures ∙ c.in-Submit.is) (inl refl)

pub awaits-requires : goal.awaits-requires
awaits-requires c = ap is_some (next_is c.args.driver.now _ (sym c.next.ensures ∙ c.in-Await.is) (inr refl)).1

pub returns-then-not-are_posted-clause-turn : goal.returns-then-not-are_posted-clause-turn
returns-then-not-are_posted-clause-turn c =
    drives_awaiting c.args.control.now c.args.driver.now c.requires.none (sym c.next.ensures ∙ c.in-Await.is) (rw c.awaits.ensures at (sym c.are_posted.ensures ∙ c.if-not-are_posted.true))

pub submit-requires-in-Await-clause-batch : goal.submit-requires-in-Await-clause-batch
submit-requires-in-Await-clause-batch c = (next_is c.args.driver.now _ (sym c.next.ensures ∙ c.in-Await.is) (inr refl)).2

pub submit-requires-in-Await-clause-room : goal.submit-requires-in-Await-clause-room
submit-requires-in-Await-clause-room c = line_room c.args.control.now.plan c.args.control.now.state c.args.driver.now _ c.requires.room (sym c.next.ensures ∙ c.in-Await.is) (inr refl)

pub returns-in-Rest-clause-turn : goal.returns-in-Rest-clause-turn
returns-in-Rest-clause-turn c = drives_rest c.args.control.now c.args.driver.now c.requires.none (sym c.next.ensures ∙ c.in-Rest.is)

pub returns-in-Collect-clause-turn : goal.returns-in-Collect-clause-turn
returns-in-Collect-clause-turn c = drives_collect c.args.control.now c.args.driver.now c.requires.none (sym c.next.ensures ∙ c.in-Collect.is)

pub returns-in-Submit-clause-turn : goal.returns-in-Submit-clause-turn
returns-in-Submit-clause-turn c =
    let f = next_is c.args.driver.now _ (sym c.next.ensures ∙ c.in-Submit.is) (inl refl) in
    drives_submitted c.args.control.now c.submit.new.control c.args.driver.now c.submit.new.driver f.0 c.requires.none f.1 f.2 (λ s p. awaits_none f.0 f.3 s c.args.control.now.state) c.submit.ensures

pub returns-else-not-are_posted-clause-turn : goal.returns-else-not-are_posted-clause-turn
returns-else-not-are_posted-clause-turn c =
    let f = next_is c.args.driver.now _ (sym c.next.ensures ∙ c.in-Await.is) (inr refl) in
    let posted = rw c.awaits.ensures at (sym c.are_posted.ensures ∙ c.if-not-are_posted.false) in
    drives_submitted c.args.control.now c.submit-in-Await.new.control c.args.driver.now c.submit-in-Await.new.driver f.0 c.requires.none f.1 f.2 (are_all_posted c.args.control.now c.args.driver.now f.0 f.1 posted) c.submit-in-Await.ensures
