use Rattle.std.proofs.Common.{◌≡◌, ℕ, sym, ap}
use Rattle.vi_model.specs.Control.{Control}
use Rattle.vi_model.specs.Turns.{ControlTurn, Waiting, stays}
use Rattle.vi_turns.specs.Views.{who_of, turn_by, turn_of}
use Rattle.vi_turns.specs.declared.view.View.{View}
use Rattle.vi_run.proofs.Won.{quiet_due}
use Rattle.tests_core.proofs.meeting.beside_zero.Goals as goal

-- pass 0 acts for nobody, so its turn leaves the control as it is
zero_turn : (v : View) (c : Control) → v.number ≡ 0 → turn_of v c ≡ stays Waiting c v.actor
zero_turn v c zero = ap (λ (n : ℕ). turn_by v.script (who_of v.script n) c v.actor) zero

pub give_control-requires-clause-due : goal.give_control-requires-clause-due
give_control-requires-clause-due c =
    let stays_so = zero_turn c.args.zero.now.view c.in-Ok.control.value.state c.requires.number in
    quiet_due c.args.zero.now.view c.try_control.new.pass.view c.in-Ok.control.value c.in-Ok.control.value c.in-Ok.ensures.won
    (sym (ap (λ (t : ControlTurn). t.control) stays_so)) c.in-Ok.ensures.plan (ap (λ (t : ControlTurn). t.entry) stays_so)
