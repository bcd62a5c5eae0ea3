-- What a pass whose actor takes a turn may do, and that it is the actor's turn.
use Rattle.std.proofs.Common.{◌≡◌, ◌≢◌, ℕ, ◌≤◌, Option, Some, None, refl, sym, ap, ap₂, subst, ◌∙◌, inl}
use Rattle.vi_history.specs.declared.entry.Entry.{Entry}
use Rattle.vi_lines.specs.declared.line.Who.{Who}
use Rattle.vi_model.specs.Control.{Control}
use Rattle.vi_model.specs.Turns.{control_turn, accessed_page}
use Rattle.vi_control.specs.Plan.{plan_of}
use Rattle.vi_control.specs.Value.{ControlValue}
use Rattle.vi_core.specs.declared.turned.Turned.{Turned}
use Rattle.vi_core.specs.Turning.{turned_of}
use Rattle.vi_turns.specs.Views.{who_of, turn_by, acts_for, turn_of, lost, won_control, stamped, gave_back}
use Rattle.vi_turns.specs.Order.{IsPlaced}
use Rattle.vi_turns.specs.Passes.{PassValue, IsDue, IsDueControl}
use Rattle.vi_turns.specs.declared.view.View.{View}
use Rattle.vi_turns.specs.declared.shared.Busy.{Busy}
use Rattle.vi_run.specs.declared.ran.Ran.TheVariants as ran
use Rattle.vi_run.specs.Actors.{IsIdle}
use Rattle.vi_run.specs.Taking.{wished_by, wished_of, word_for, quietly, with_entry}
use Rattle.vi_run.specs.Turns.{actor_with, HasTurned}

-- ---- the turn of a pass's actor

pub turn_is : (v : View) (a : Who) (c : Control) → acts_for v ≡ Some a → turn_of v c ≡ control_turn v.script a c v.actor
turn_is v a c acts = ap (λ (o : Option Who). turn_by v.script o c v.actor) acts

pub wished_is : (v : View) (a : Who) → acts_for v ≡ Some a → wished_of v ≡ accessed_page v.script a v.actor
wished_is v a acts = ap (λ (o : Option Who). wished_by v.script o v.actor) acts

-- ---- an idle pass stays idle

-- The pass acts for the same actor, holds nothing and took in no other.
pub record IsLater (v u : View) : Type 0 where
  pub script : u.script ≡ v.script
  pub number : u.number ≡ v.number
  pub empty : u.held ≡ None
  pub taken : u.taken ≡ v.taken

pub later_idle : (p q : PassValue) (a : Who) → IsIdle (actor_with p a) → IsLater p.view q.view → IsPlaced q.view → IsIdle (actor_with q a)
later_idle p q a idle later placed = record {
  acts = ap₂ who_of later.script later.number ∙ idle.acts;
  empty = later.empty;
  alone = later.taken ∙ idle.alone;
  placed = placed;
}

-- the exchange was lost: the world is as it was
lost_placed : (v : View) (word found : ℕ) → IsPlaced v → IsPlaced (lost v word found)
lost_placed v word found is = record {
  world = is.world;
  placed = record { playable = is.placed.playable; sound = is.placed.sound; actor = is.placed.actor; log = is.placed.log; once = is.placed.once };
}

pub busy_turned : (p q : PassValue) (a : Who) (b : Busy) (word : ℕ) → IsIdle (actor_with p a) → word ≡ word_for (wished_of p.view)
    → (b.word ≡ word) × (b.found ≢ 0) × (q.view ≡ lost p.view word b.found) → HasTurned a p q (ran.Busy b)
busy_turned p q a b word idle needs busy =
    let v : View = p.view in
    record {
      idle = later_idle p q a idle
          (subst (IsLater v) (sym busy.2) (record { script = refl; number = refl; empty = idle.empty; taken = refl }))
          (subst IsPlaced (sym busy.2) (lost_placed v word b.found idle.placed));
      number = ap (λ (z : View). z.number) busy.2;
      ran = record { word = busy.0 ∙ needs; found = busy.1; view_is = busy.2 ∙ ap (λ n. lost v n b.found) (sym busy.0) };
    }

-- ---- a turn without an entry

pub quiet_due : (v u : View) (c given : ControlValue) → u ≡ won_control v c.state → given.state ≡ (turn_of v c.state).control → given.plan ≡ plan_of v.script
    → (turn_of v c.state).entry ≡ None → IsDueControl u given
quiet_due v u c given is state plan none =
    subst (λ (z : View). IsDueControl z given) (sym is) (record { control = c.state; holds = refl; state = state; plan = plan; none = λ _. none })

pub quiet_later : (v u : View) (c : Control) → u ≡ gave_back (won_control v c) → IsLater v u
quiet_later v u c is = subst (IsLater v) (sym is) (record { script = refl; number = refl; empty = refl; taken = refl })

pub quiet_turned : (p q : PassValue) (a : Who) (c : Control) (t : Turned) → IsIdle (actor_with p a) → wished_of p.view ≡ None → turned_of t ≡ (turn_of p.view c).turned
    → (turn_of p.view c).entry ≡ None → q.view ≡ gave_back (won_control p.view c) → IsPlaced q.view → HasTurned a p q (ran.Turned t)
quiet_turned p q a c t idle wish turned none is placed = record {
  idle = later_idle p q a idle (quiet_later p.view q.view c is) placed;
  number = ap (λ (z : View). z.number) is;
  ran = quietly c wish turned none is;
}

-- ---- a turn with an entry

pub entry_due : (v u : View) (c : Control) (e : Entry) → u ≡ won_control v c → (turn_of v c).entry ≡ Some e → IsDue u e
entry_due v u c e is makes = subst (λ (z : View). IsDue z e) (sym is) (inl (record { control = c; holds = refl; entry = makes }))

pub stamped_due : (v u : View) (c : Control) (given : ControlValue) (ticket : ℕ) → u ≡ stamped (won_control v c) ticket → given.state ≡ (turn_of v c).control → given.plan ≡ plan_of v.script
    → IsDueControl u given
stamped_due v u c given ticket is state plan =
    subst (λ (z : View). IsDueControl z given) (sym is) (record { control = (turn_of v c).control; holds = refl; state = state; plan = plan; none = λ no. absurd (cc) })

pub stamped_later : (v u : View) (c : Control) (ticket : ℕ) → u ≡ gave_back (stamped (won_control v c) ticket) → IsLater v u
stamped_later v u c ticket is = subst (IsLater v) (sym is) (record { script = refl; number = refl; empty = refl; taken = refl })

pub entry_turned : (p q : PassValue) (a : Who) (c : Control) (e : Entry) (ticket : ℕ) (t : Turned) → IsIdle (actor_with p a) → wished_of p.view ≡ None → turned_of t ≡ (turn_of p.view c).turned
    → (turn_of p.view c).entry ≡ Some e → p.view.seen ≤ ticket → q.view ≡ gave_back (stamped (won_control p.view c) ticket) → IsPlaced q.view → HasTurned a p q (ran.Turned t)
entry_turned p q a c e ticket t idle wish turned makes seen is placed = record {
  idle = later_idle p q a idle (stamped_later p.view q.view c ticket is) placed;
  number = ap (λ (z : View). z.number) is;
  ran = with_entry c e ticket wish turned makes seen is;
}
