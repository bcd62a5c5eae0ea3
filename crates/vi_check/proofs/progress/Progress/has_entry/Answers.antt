use Rattle.std.proofs.Common.{[], false, get_or, ap, sym}
use Rattle.std.proofs.Common.{Bool, List, ◌-◌}
use Rattle.vi_check.proofs.EnteredLemmas.{get_or-none}
use Rattle.vi_check.proofs.progress.Progress.has_entry.Goals as goal

pub returns-in-None : goal.returns-in-None
returns-in-None c =
    sym (ap (λ (xs : List Bool). get_or xs (c.args.line - 1) false) (get_or-none c.args.self.now.drivers c.args.number [] c.in-None.ensures))
