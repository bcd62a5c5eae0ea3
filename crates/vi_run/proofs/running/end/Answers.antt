use Rattle.std.proofs.Common.{List, ◌∷◌, length, ap, sym, ◌∙◌, subst, arith, rules}
use Rattle.std.specs.Vec.Iter.{into_iter_items}
use Rattle.std.proofs.lemmas.List.{nil_from_length}
use Rattle.vi_log.specs.Logs.{LogValue}
use Rattle.vi_turns.specs.Passes.{PassValue, log_of}
use Rattle.vi_turns.specs.Views.{joined}
use Rattle.vi_turns.specs.declared.view.View.{View}
use Rattle.vi_run.specs.Actors.{ActorValue}
use Rattle.vi_run.proofs.Joining.{IsEnding, begins, first_left, not_first, has_room, joins_next, ends}
use Rattle.vi_run.proofs.running.end.Goals as goal
use Rattle.vi_run.proofs.running.end.Goals.{In-Some}

-- what is left, the next actor first
next_of : (c : In-Some) → IsEnding c.args.shared (length c.args.actors.items) c.loop-actor.pass (c.in-Some.actor ∷ into_iter_items c.next.new.self) c.loop-actor.logs.items
next_of c = subst (λ (xs : List ActorValue). IsEnding c.args.shared (length c.args.actors.items) c.loop-actor.pass xs c.loop-actor.logs.items) c.in-Some.ensures.steps.0 c.loop-actor.invariant.ending

pub loop-actor-init : goal.loop-actor-init
loop-actor-init c =
    let items = c.into_iter-actor-iterator.ensures.into_iter_gives.0 in
    let len = c.into_iter-actor-iterator.ensures.into_iter_gives.1 in
    let none = c.requires.room.0 in
    let own = c.args.logs.ok.0 in
    let size = c.args.actors.ok.0 in
    let room = c.requires.room.1 in
    record {
      can = tt;
      finite = tt;
      size = (let same = ap (λ (xs : List ActorValue). length xs) items in omega (arith, len, size, same));
      ending = subst (λ (xs : List ActorValue). IsEnding c.args.shared (length c.args.actors.items) c.args.pass xs c.args.logs.items) (sym items)
          (begins c.args.shared c.args.pass c.args.actors.items c.args.logs.items c.requires.opened c.requires.finished (nil_from_length c.args.logs.items (omega (arith, own, none))));
      room = room;
    }

pub join-requires-clause-own : goal.join-requires-clause-own
join-requires-clause-own c =
    let e = next_of ((goal.at.join-requires-clause-own c).In-Some) in
    (e.own.table, ap (λ (p : PassValue). p.table) c.end-ended.ensures.pass ∙ (first_left _ _ _ _ _ _ e).at.own.table)

pub join-requires-clause-ends : goal.join-requires-clause-ends
join-requires-clause-ends c =
    let e = next_of ((goal.at.join-requires-clause-ends c).In-Some) in
    (λ zeroth. not_first _ _ _ _ _ _ e (sym (ap (λ (p : PassValue). let v : View = p.view in v.number) c.end-ended.ensures.pass) ∙ zeroth), c.end-ended.ensures.empty)

pub push_reserved-requires : goal.push_reserved-requires
push_reserved-requires c =
    let e = next_of ((goal.at.push_reserved-requires c).In-Some) in
    let few = has_room _ _ _ _ _ _ e in
    let own = c.loop-actor.logs.ok.0 in
    let room = c.loop-actor.invariant.room in
    omega (arith, few, own, room)

pub loop-actor-preserved : goal.loop-actor-preserved
loop-actor-preserved c =
    let e = next_of ((goal.at.loop-actor-preserved c).In-Some) in
    let steps = c.in-Some.ensures.steps in
    let pass = c.end-ended.ensures.pass in
    let before = c.loop-actor.pass in
    let count = length c.args.actors.items in
    record {
      can = tt;
      finite = tt;
      size =
          let len = steps.1 in
          let size = c.loop-actor.invariant.size in
          let items = ap (λ (xs : List ActorValue). length xs) steps.0 in
          omega (arith, len, size, items);
      ending = subst (λ (ls : List LogValue). IsEnding c.args.shared count c.join.new.into (into_iter_items c.next.new.self) ls) (sym c.push_reserved.ensures.items)
          (joins_next c.args.shared count before c.join.new.into c.in-Some.actor (into_iter_items c.next.new.self) c.loop-actor.logs.items c.join.result e c.end-ended.ensures.idle c.join.ensures.same
          (c.join.ensures.joined ∙ ap (λ (p : PassValue). joined before.view p.view) pass) (c.join.ensures.log ∙ ap log_of pass));
      room = search rules;
    }

pub of-requires : goal.of-requires
of-requires c =
    let e = c.loop-actor.invariant.ending in
    let none = c.in-None.ensures.steps.0 in
    let size = c.loop-actor.invariant.size in
    let nil = nil_from_length (into_iter_items c.loop-actor.actor-iterator) (omega (arith, none, size)) in
    ends c.args.shared (length c.args.actors.items) c.loop-actor.pass c.loop-actor.logs.items c.close.result.last c.close.result.control c.close.result.pages.items
    (subst (λ (xs : List ActorValue). IsEnding c.args.shared (length c.args.actors.items) c.loop-actor.pass xs c.loop-actor.logs.items) nil e)
    c.requires.opened.count c.close.ensures.last c.close.ensures.closed
