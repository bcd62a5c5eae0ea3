use Rattle.std.proofs.Common.{[], ◌∙◌, ap, ap₂}
use Rattle.vi_history.specs.declared.setup.Setup.{Setup}
use Rattle.vi_lines.specs.Value.{ScriptValue}
use Rattle.vi_dirty.proofs.Course.{begun, can_begin}
use Rattle.vi_dirty.proofs.Marking.{set_of}
use Rattle.vi_dirty.proofs.Setups.{setup_followed}
use Rattle.vi_dirty.proofs.rounds.begin.Goals as goal

pub new-requires-2 : goal.new-requires-2
new-requires-2 c = let v = rw (← c.script.view_is) at c.requires.valid in setup_followed c.script.inside.setup v.setup_valid

pub returns-clause-go : goal.returns-clause-go
returns-clause-go c =
    let setup = ap (λ (s : ScriptValue). s.setup) c.script.view_is in
    can_begin c.args.script.now c.args.entries.now c.in_ok-tracker.tracker c.in_ok-all.all c.requires.valid c.requires.legal
    (c.in_ok-tracker.ensures ∙ ap₂ begun setup c.in_ok-maps.ensures)
    (c.in_ok-all.ensures ∙ ap (λ (s : Setup). set_of s.memory []) setup)
