-- What a pass is once its actor's turn under the control is done, but for giving the control back.
use Rattle.std.proofs.Common.{◌≡◌, ℕ, ◌+◌, ◌≤◌, ◌++◌, length, Option, Some, None, sym, ap, subst, ◌∙◌}
use Rattle.vi_history.specs.declared.entry.Entry.{Entry}
use Rattle.vi_log.specs.Logs.{Ticketed}
use Rattle.vi_lines.specs.declared.line.Who.{Who}
use Rattle.vi_model.specs.Control.{Control}
use Rattle.vi_control.specs.Plan.{plan_of}
use Rattle.vi_control.specs.Value.{ControlValue}
use Rattle.vi_core.specs.declared.turned.Turned.{Turned}
use Rattle.vi_core.specs.Turning.{turned_of}
use Rattle.vi_turns.specs.Views.{turn_of, logged, won_control, stamped, gave_back}
use Rattle.vi_turns.specs.Order.{IsPlaced}
use Rattle.vi_turns.specs.Passes.{PassValue, IsSamePass, IsDueControl}
use Rattle.vi_turns.specs.declared.view.View.{View}
use Rattle.vi_run.specs.declared.ran.Ran.TheVariants as ran
use Rattle.vi_run.specs.Actors.{IsIdle, HasLogRoom}
use Rattle.vi_run.specs.Taking.{wished_of}
use Rattle.vi_run.specs.Turns.{actor_with, HasTurned}
use Rattle.vi_run.proofs.LogRoom.{IsKept, room_kept, room_left}
use Rattle.vi_run.proofs.Won.{quiet_due, quiet_turned, stamped_due, entry_turned}

-- the turn made no entry, and the pass is as it was when it won the control
pub record IsWon (p m : PassValue) (c : Control) : Type 0 where
  pub none : (turn_of p.view c).entry ≡ None
  pub view_is : m.view ≡ won_control p.view c
  pub entries : m.spare_entries ≡ p.spare_entries
  pub bytes : m.spare_bytes ≡ p.spare_bytes

-- or it made this entry, and the pass stamped it
pub record IsStamped (p m : PassValue) (c : Control) (e : Entry) (ticket : ℕ) : Type 0 where
  pub makes : (turn_of p.view c).entry ≡ Some e
  pub seen : p.view.seen ≤ ticket
  pub view_is : m.view ≡ stamped (won_control p.view c) ticket
  pub entries : m.spare_entries + 1 ≡ p.spare_entries
  pub bytes : m.spare_bytes + length e.bytes ≡ p.spare_bytes

pub data Makes (p m : PassValue) (c : Control) : Type 0 where
  quietly : IsWon p m c → Makes p m c
  an_entry : (e : Entry) (ticket : ℕ) → IsStamped p m c e ticket → Makes p m c

-- the pass w that won the control made no entry
pub none_made : (p w m : PassValue) (c : Control) → IsSamePass p w → w.view ≡ won_control p.view c → m ≡ w → (turn_of p.view c).entry ≡ None → Makes p m c
none_made p w m c same won is none =
    subst (λ (x : PassValue). Makes p x c) (sym is) (quietly (record { none = none; view_is = won; entries = same.entries; bytes = same.bytes }))

-- or it stamped its entry
pub one_made : (p w s m : PassValue) (c : Control) (e : Entry) (ticket : ℕ) → IsSamePass p w → w.view ≡ won_control p.view c → m ≡ s → (turn_of p.view c).entry ≡ Some e
    → (w.view.seen ≤ ticket) × (s.view ≡ stamped w.view ticket) → (s.spare_entries + 1 ≡ w.spare_entries) × (s.spare_bytes + length e.bytes ≡ w.spare_bytes) → Makes p m c
one_made p w s m c e ticket same won is makes drew room =
    subst (λ (x : PassValue). Makes p x c) (sym is)
    (an_entry e ticket (record {
      makes = makes;
      seen = subst (λ (v : View). v.seen ≤ ticket) won drew.0;
      view_is = drew.1 ∙ ap (λ (v : View). stamped v ticket) won;
      entries = room.0 ∙ same.entries;
      bytes = room.1 ∙ same.bytes;
    }))

-- what the turn left is due
pub made_due : (p m : PassValue) (c given : ControlValue) → Makes p m c.state → given.state ≡ (turn_of p.view c.state).control → given.plan ≡ plan_of p.view.script → IsDueControl m.view given
made_due p m c given (quietly k) state plan = quiet_due p.view m.view c given k.view_is state plan k.none
made_due p m c given (an_entry e ticket k) state plan = stamped_due p.view m.view c.state given ticket k.view_is state plan

-- once the control is given back, it was the actor's turn
pub made_turned : (p m q : PassValue) (a : Who) (c : Control) (t : Turned) → IsIdle (actor_with p a) → wished_of p.view ≡ None → turned_of t ≡ (turn_of p.view c).turned → Makes p m c
    → q.view ≡ gave_back m.view → IsPlaced q.view → HasTurned a p q (ran.Turned t)
made_turned p m q a c t idle wish turned (quietly k) is placed = quiet_turned p q a c t idle wish turned k.none (is ∙ ap gave_back k.view_is) placed
made_turned p m q a c t idle wish turned (an_entry e ticket k) is placed = entry_turned p q a c e ticket t idle wish turned k.makes k.seen (is ∙ ap gave_back k.view_is) placed

-- and the log has room for the others
quiet_kept : (p q : PassValue) (c : Control) → q.view ≡ gave_back (won_control p.view c) → q.spare_entries ≡ p.spare_entries → q.spare_bytes ≡ p.spare_bytes → IsKept p q
quiet_kept p q c is entries bytes = record { script = ap (λ (z : View). z.script) is; log = ap (λ (z : View). z.log) is; entries = entries; bytes = bytes }

pub quiet_room : (p q : PassValue) (a b : Who) (c : Control) → q.view ≡ gave_back (won_control p.view c) → q.spare_entries ≡ p.spare_entries → q.spare_bytes ≡ p.spare_bytes
    → HasLogRoom (actor_with p a) → HasLogRoom (actor_with q b)
quiet_room p q a b c is entries bytes room = room_kept (actor_with p a) (actor_with q b) (quiet_kept p q c is entries bytes) room

pub made_room : (p m q : PassValue) (a : Who) (c : Control) → Makes p m c → IsSamePass m q → q.view ≡ gave_back m.view → HasLogRoom (actor_with p a) → HasLogRoom (actor_with q a)
made_room p m q a c (quietly k) same is room = quiet_room p q a a c (is ∙ ap gave_back k.view_is) (same.entries ∙ k.entries) (same.bytes ∙ k.bytes) room
made_room p m q a c (an_entry e ticket k) same is room =
    let x : Ticketed = record { ticket = ticket; entry = e } in
    let all : q.view ≡ gave_back (stamped (won_control p.view c) ticket) = is ∙ ap gave_back k.view_is in
    room_left (actor_with p a) (actor_with q a) x
    (record {
      script = ap (λ (z : View). z.script) all;
      log = ap (λ (z : View). z.log) all ∙ ap (λ (o : Option Entry). p.view.log ++ logged ticket o) k.makes;
      entries = ap (λ n. n + 1) same.entries ∙ k.entries;
      bytes = ap (λ n. n + length e.bytes) same.bytes ∙ k.bytes;
    }) room
