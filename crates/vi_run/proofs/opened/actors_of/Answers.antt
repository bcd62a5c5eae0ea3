use Rattle.std.proofs.Common.{◌+◌, ℕ, List, length, slice_index_or, ap, sym, ◌∙◌, subst, arith, rules}
use Rattle.vi_lines.specs.declared.line.Who.{Who}
use Rattle.vi_lines.specs.declared.line.Who.TheVariants as who
use Rattle.vi_turns.specs.Views.{split_left, split_right}
use Rattle.vi_turns.specs.declared.view.View.{View}
use Rattle.vi_run.specs.Actors.{ActorValue}
use Rattle.vi_run.specs.Runs.{IsActorAt, AreActors}
use Rattle.vi_run.proofs.Members.{who_at, few_actors}
use Rattle.vi_run.proofs.Opening.{actor_at, begins_idle, begins_playing, next_is, one_more}
use Rattle.vi_run.proofs.opened.actors_of.Goals as goal

pub role_of-requires-clause-actor : goal.role_of-requires-clause-actor
role_of-requires-clause-actor c =
    let i = c.loop-who.who-index in
    (i + 1, who_at c.args.script.now i ∙ actor_at c.args.script.now c.args.round.now i (who.Driver 0) c.requires.round (omega arith))

pub split-requires-clause-first : goal.split-requires-clause-first
split-requires-clause-first c =
    let few = few_actors c.args.script.now c.requires.playable in
    let count = ap (λ (l : List Who). length l) c.requires.round in
    let made = ap (λ (v : View). v.made) c.loop-who.invariant.view in
    (ap (λ (v : View). v.number) c.loop-who.invariant.view, omega (arith, few, count, made))

pub invariant_of-push_reserved : goal.invariant_of-push_reserved
invariant_of-push_reserved c =
    let s = c.args.script.now in
    let i = c.loop-who.who-index in
    let at = actor_at s c.args.round.now i (who.Driver 0) c.requires.round (omega arith) in
    let view = c.split.ensures.other ∙ ap split_right c.loop-who.invariant.view in (
      begins_idle s i c.split.result _ c.requires.playable at view,
      begins_playing s i c.split.result _ c.in_ok-role.role c.in_ok-log.log at view c.split.ensures.room c.in_ok-role.ensures c.in_ok-log.ensures.room,
    )

pub loop-who-preserved : goal.loop-who-preserved
loop-who-preserved c =
    let s = c.args.script.now in
    let i = c.loop-who.who-index in
    let inv = c.loop-who.invariant in
    let a : ActorValue = record { pass = c.split.result; who = slice_index_or c.args.round.now i (who.Driver 0) } in
    let view = c.split.ensures.other ∙ ap split_right inv.view in
    record {
      view = c.split.ensures.made ∙ ap split_left inv.view;
      table = c.split.ensures.same.table ∙ inv.table;
      count = search rules;
      each = subst (AreActors c.args.shared.now) (sym c.push_reserved.ensures.items)
          (one_more c.args.shared.now c.loop-who.all.items a inv.each
          (subst (λ (n : ℕ). IsActorAt c.args.shared.now n a) (sym inv.count) (next_is c.args.shared.now s i a c.requires.own.1 c.split.ensures.own view)));
      room = search rules;
    }
