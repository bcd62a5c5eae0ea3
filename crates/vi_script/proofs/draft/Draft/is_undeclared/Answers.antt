use Rattle.std.proofs.Common.{not, ap, ◌∙◌}
use Rattle.vi_script.proofs.NameLemmas.{turns_declared}
use Rattle.vi_script.proofs.draft.Draft.is_undeclared.Goals as goal

pub returns-in-Turns : goal.returns-in-Turns
returns-in-Turns c = rw c.in-Turns.is (ap not (rw c.deref.ensures.value at c.turns_are_declared.ensures ∙ turns_declared c.args.self.now c.in-Turns.turns.items))
