use Rattle.std.proofs.Common.{◌≡◌, List, length, ap, sym, ◌∙◌, rules}
use Rattle.vi_lines.specs.declared.line.Who.{Who}
use Rattle.vi_lines.specs.Value.{ScriptValue}
use Rattle.vi_model.specs.Rounds.{actors}
use Rattle.vi_run.proofs.opened.set_up.Goals as goal

pub invariant_of-result : goal.invariant_of-result
invariant_of-result c =
    let opened = c.in_ok-all.ensures in
    let count : length c.in_ok-all.all.items ≡ length c.in_ok-round.round.items =
    opened.count ∙ (ap (λ (s : ScriptValue). length (actors s)) c.in_ok-shared.ensures.own.1 ∙ sym (ap (λ (l : List Who). length l) c.in_ok-round.ensures)) in
    (opened, c.in_ok-logs.ensures.len, search rules)
