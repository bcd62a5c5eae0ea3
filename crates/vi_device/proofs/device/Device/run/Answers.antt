use Rattle.std.proofs.Common.{sym, ◌∙◌}
use Rattle.vi_device.specs.Values.{id_at}
use Rattle.vi_device.proofs.RunLemmas.{run_none, run_between}
use Rattle.vi_device.proofs.device.Device.run.Goals as goal

pub returns-in-None-clause-run : goal.returns-in-None-clause-run
returns-in-None-clause-run c = sym (run_none c.args.self.now.dev (id_at c.args.self.now.dev c.args.place) c.args.page (sym c.lease.ensures.lease ∙ c.in-None.is))

pub returns-in-Some-clause-run : goal.returns-in-Some-clause-run
returns-in-Some-clause-run c =
    rw c.saturating_sub.ensures (sym (run_between c.args.self.now.dev (id_at c.args.self.now.dev c.args.place) c.args.page c.lowest_alike-low.result c.highest_alike-high.result c.in-Some.lease (sym c.lease.ensures.lease ∙ c.in-Some.is) c.lowest_alike-low.ensures c.highest_alike-high.ensures))
