use Rattle.std.proofs.Common.{not, ap, ◌∙◌}
use Rattle.vi_script.specs.Names.{named}
use Rattle.vi_script.proofs.NameLemmas.{awaits_above}
use Rattle.vi_script.proofs.draft.Draft.awaits_badly.Goals as goal

pub returns-in-Actor : goal.returns-in-Actor
returns-in-Actor c =
    rw c.in-Actor.is (ap not ((rw c.deref.ensures.value at c.all_well.ensures) ∙ awaits_above c.args.self.now.lines (named c.in-Actor.line.caller) c.in-Actor.line.awaits.items))
