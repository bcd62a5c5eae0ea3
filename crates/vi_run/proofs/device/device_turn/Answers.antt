use Rattle.std.proofs.Common.{ℕ, ◌≤◌, length, sym, ap, subst, ◌∙◌}
use Rattle.vi_history.specs.declared.entry.Entry.{Entry}
use Rattle.vi_lines.specs.declared.line.Who.TheVariants as who
use Rattle.vi_control.specs.Value.{ControlValue, entry_with}
use Rattle.vi_run.specs.Taking.{word_for}
use Rattle.vi_run.proofs.LogRoom.{FindsRoom}
use Rattle.vi_run.proofs.Won.{busy_turned}
use Rattle.vi_run.proofs.Stamped.{Makes, none_made, one_made}
use Rattle.vi_run.proofs.Serving.{Serves, serves_no_page, serve_needs_lent, serves_lent, served_none, served_some, served_room, served_due, serve_due, serve_turned, serve_plays}
use Rattle.vi_run.proofs.device.device_turn.Goals.{in-Some, in_default}
use Rattle.vi_run.proofs.device.device_turn.Goals as goal

pub returns-in-Err-clause-turned : goal.returns-in-Err-clause-turned
returns-in-Err-clause-turned g c =
    busy_turned c.args.pass.now c.try_control.new.pass who.Device c.in-Err.busy 1 c.requires.idle (ap word_for (sym (serves_no_page c.args.pass.now c.requires.idle))) c.in-Err.ensures.busy

pub serve-served-requires : goal.serve-served-requires
serve-served-requires g c = serve_needs_lent c.args.pass.now c.in-Ok.control.value c.deref_mut.result.now c.deref_mut.ensures.value c.in-Ok.ensures.sound c.in-Ok.ensures.plan

pub stamp-requires-clause-room : goal.stamp-requires-clause-room
stamp-requires-clause-room g c =
    let k : Serves c.args.pass.now c.in-Ok.control.value c.serve-served.new.control c.serve-served.result =
    serves_lent c.args.pass.now c.in-Ok.control.value c.deref_mut.result.now c.serve-served.new.control c.serve-served.result c.deref_mut.ensures.value c.requires.idle c.requires.plays c.in-Ok.ensures.sound c.in-Ok.ensures.plan c.serve-served.ensures.turn c.serve-served.ensures.plan in
    let e : Entry = entry_with c.answered.result.now c.in-Some.mark in
    let room : FindsRoom c.args.pass.now e =
    served_room c.args.pass.now c.in-Ok.control.value c.serve-served.new.control c.serve-served.result k e
    (served_some c.args.pass.now c.in-Ok.control.value c.serve-served.new.control c.serve-served.result k c.in-Some.mark c.answered.result.now c.in-Some.is (c.answered.ensures ∙ ap (λ (v : ControlValue). v.answered) c.deref.ensures)) in (
      subst (λ (n : ℕ). 1 ≤ n) (sym c.in-Ok.ensures.same.entries) room.entries,
      subst (λ (n : ℕ). length e.bytes ≤ n) (sym c.in-Ok.ensures.same.bytes) room.bytes,
    )

pub stamp-requires-clause-due : goal.stamp-requires-clause-due
stamp-requires-clause-due g c =
    let k : Serves c.args.pass.now c.in-Ok.control.value c.serve-served.new.control c.serve-served.result =
    serves_lent c.args.pass.now c.in-Ok.control.value c.deref_mut.result.now c.serve-served.new.control c.serve-served.result c.deref_mut.ensures.value c.requires.idle c.requires.plays c.in-Ok.ensures.sound c.in-Ok.ensures.plan c.serve-served.ensures.turn c.serve-served.ensures.plan in
    let e : Entry = entry_with c.answered.result.now c.in-Some.mark in
    served_due c.args.pass.now c.in-Ok.control.value c.serve-served.new.control c.serve-served.result k c.try_control.new.pass.view e c.in-Ok.ensures.won
    (served_some c.args.pass.now c.in-Ok.control.value c.serve-served.new.control c.serve-served.result k c.in-Some.mark c.answered.result.now c.in-Some.is (c.answered.ensures ∙ ap (λ (v : ControlValue). v.answered) c.deref.ensures))

pub give_control-requires-clause-due : goal.give_control-requires-clause-due
give_control-requires-clause-due g c =
    let k : Serves c.args.pass.now c.in-Ok.control.value c.serve-served.new.control c.serve-served.result =
    serves_lent c.args.pass.now c.in-Ok.control.value c.deref_mut.result.now c.serve-served.new.control c.serve-served.result c.deref_mut.ensures.value c.requires.idle c.requires.plays c.in-Ok.ensures.sound c.in-Ok.ensures.plan c.serve-served.ensures.turn c.serve-served.ensures.plan in
    let made : Makes c.args.pass.now c.match-served.pass c.in-Ok.control.value.state = elim c.match-served.branch [
      | in-Some w ↦ one_made c.args.pass.now c.try_control.new.pass w.stamp.new.pass c.match-served.pass c.in-Ok.control.value.state
          (entry_with w.answered.result.now w.in-Some.mark) w.stamp.result c.in-Ok.ensures.same c.in-Ok.ensures.won w.pass-is
          (served_some c.args.pass.now c.in-Ok.control.value c.serve-served.new.control c.serve-served.result k
          w.in-Some.mark w.answered.result.now w.in-Some.is (w.answered.ensures ∙ ap (λ (v : ControlValue). v.answered) w.deref.ensures)) w.stamp.ensures.ticket w.stamp.ensures.room
      | in_default w ↦ none_made c.args.pass.now c.try_control.new.pass c.match-served.pass c.in-Ok.control.value.state c.in-Ok.ensures.same c.in-Ok.ensures.won w.pass-is
          (served_none c.args.pass.now c.in-Ok.control.value c.serve-served.new.control c.serve-served.result k w.in_default.is)
    ] in
    serve_due c.args.pass.now c.in-Ok.control.value c.serve-served.new.control c.serve-served.result k c.match-served.pass made

pub returns-clause-plays : goal.returns-clause-plays
returns-clause-plays g c =
    let k : Serves c.args.pass.now c.in-Ok.control.value c.serve-served.new.control c.serve-served.result =
    serves_lent c.args.pass.now c.in-Ok.control.value c.deref_mut.result.now c.serve-served.new.control c.serve-served.result c.deref_mut.ensures.value c.requires.idle c.requires.plays c.in-Ok.ensures.sound c.in-Ok.ensures.plan c.serve-served.ensures.turn c.serve-served.ensures.plan in
    let made : Makes c.args.pass.now c.match-served.pass c.in-Ok.control.value.state = elim c.match-served.branch [
      | in-Some w ↦ one_made c.args.pass.now c.try_control.new.pass w.stamp.new.pass c.match-served.pass c.in-Ok.control.value.state
          (entry_with w.answered.result.now w.in-Some.mark) w.stamp.result c.in-Ok.ensures.same c.in-Ok.ensures.won w.pass-is
          (served_some c.args.pass.now c.in-Ok.control.value c.serve-served.new.control c.serve-served.result k
          w.in-Some.mark w.answered.result.now w.in-Some.is (w.answered.ensures ∙ ap (λ (v : ControlValue). v.answered) w.deref.ensures)) w.stamp.ensures.ticket w.stamp.ensures.room
      | in_default w ↦ none_made c.args.pass.now c.try_control.new.pass c.match-served.pass c.in-Ok.control.value.state c.in-Ok.ensures.same c.in-Ok.ensures.won w.pass-is
          (served_none c.args.pass.now c.in-Ok.control.value c.serve-served.new.control c.serve-served.result k w.in_default.is)
    ] in
    serve_plays c.args.pass.now c.in-Ok.control.value c.serve-served.new.control c.serve-served.result k c.match-served.pass c.give_control.new.pass made c.give_control.ensures.same c.give_control.ensures.given

pub returns-clause-turned : goal.returns-clause-turned
returns-clause-turned g c =
    let k : Serves c.args.pass.now c.in-Ok.control.value c.serve-served.new.control c.serve-served.result =
    serves_lent c.args.pass.now c.in-Ok.control.value c.deref_mut.result.now c.serve-served.new.control c.serve-served.result c.deref_mut.ensures.value c.requires.idle c.requires.plays c.in-Ok.ensures.sound c.in-Ok.ensures.plan c.serve-served.ensures.turn c.serve-served.ensures.plan in
    let made : Makes c.args.pass.now c.match-served.pass c.in-Ok.control.value.state = elim c.match-served.branch [
      | in-Some w ↦ one_made c.args.pass.now c.try_control.new.pass w.stamp.new.pass c.match-served.pass c.in-Ok.control.value.state
          (entry_with w.answered.result.now w.in-Some.mark) w.stamp.result c.in-Ok.ensures.same c.in-Ok.ensures.won w.pass-is
          (served_some c.args.pass.now c.in-Ok.control.value c.serve-served.new.control c.serve-served.result k
          w.in-Some.mark w.answered.result.now w.in-Some.is (w.answered.ensures ∙ ap (λ (v : ControlValue). v.answered) w.deref.ensures)) w.stamp.ensures.ticket w.stamp.ensures.room
      | in_default w ↦ none_made c.args.pass.now c.try_control.new.pass c.match-served.pass c.in-Ok.control.value.state c.in-Ok.ensures.same c.in-Ok.ensures.won w.pass-is
          (served_none c.args.pass.now c.in-Ok.control.value c.serve-served.new.control c.serve-served.result k w.in_default.is)
    ] in
    serve_turned c.args.pass.now c.in-Ok.control.value c.serve-served.new.control c.serve-served.result k c.match-served.pass c.give_control.new.pass made c.give_control.ensures.given c.give_control.ensures.placed
