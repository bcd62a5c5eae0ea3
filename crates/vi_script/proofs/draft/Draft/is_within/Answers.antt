use Rattle.std.proofs.Common.{◌∙◌}
use Rattle.vi_script.proofs.NameLemmas.{turns_of_drivers}
use Rattle.vi_script.proofs.draft.Draft.is_within.Goals as goal

pub returns-in-Turns : goal.returns-in-Turns
returns-in-Turns c = rw c.in-Turns.is ((rw c.deref.ensures.value at c.turns_of_drivers.ensures) ∙ turns_of_drivers c.in-Turns.turns.items)
