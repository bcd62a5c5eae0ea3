use Rattle.std.proofs.Common.{[], sym, ap, subst, ◌∙◌}
use Rattle.vi_history.specs.Start.{start}
use Rattle.vi_plain.specs.Conditions.{IsPlainSetup}
use Rattle.vi_lines.specs.Value.{ScriptValue}
use Rattle.vi_check.specs.Seen.{nothing_seen}
use Rattle.vi_check.proofs.WalkLemmas.{IsPlainSetup-from_valid, walked_of-none}
use Rattle.vi_check.proofs.walk.Walk.new.Goals as goal

pub new-requires-2 : goal.new-requires-2
new-requires-2 c = subst (λ (v : ScriptValue). IsPlainSetup v.setup) (sym c.script.view_is) (IsPlainSetup-from_valid c.args.script.now c.requires)

pub returns : goal.returns
returns c =
    let s = c.args.script.now in
    rw (c.in_ok-new.ensures, c.in_ok-new-2.ensures, c.new-3.ensures.items)
    (ap (λ (v : ScriptValue). record { seen = nothing_seen s; one = start v.setup; records = [] }) c.script.view_is ∙ walked_of-none s)
