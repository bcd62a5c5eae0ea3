use Rattle.vi_commands.specs.Work.{finds}
use Rattle.std.proofs.Common.{refl}
use Rattle.vi_commands.proofs.told.found.Goals as goal

pub returns : goal.returns
returns c = λ input is. finds refl c.args.lines.now c.in_ok-finding.finding is c.in_ok-finding.ensures c.status_of.ensures c.in_ok-text.ensures
