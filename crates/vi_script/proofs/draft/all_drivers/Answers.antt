use Rattle.std.proofs.Common.{◌∙◌}
use Rattle.vi_script.proofs.NameLemmas.{awaits_of_drivers}
use Rattle.vi_script.proofs.draft.all_drivers.Goals as goal

pub returns : goal.returns
returns c = c.each_driver.ensures ∙ awaits_of_drivers c.args.names.now
