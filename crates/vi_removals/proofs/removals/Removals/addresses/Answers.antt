use Rattle.std.proofs.Common.{sym}
use Rattle.vi_removals.proofs.Takes.{addresses-what, proper-addresses}
use Rattle.vi_removals.proofs.removals.Removals.addresses.Goals as goal

pub returns-clause-addresses : goal.returns-clause-addresses
returns-clause-addresses c = rw (c.span.ensures, c.reach.ensures) (sym (addresses-what c.args.self.now.ids c.args.task.now c.what_of.result (sym c.what_of.ensures)))

pub returns-clause-proper : goal.returns-clause-proper
returns-clause-proper c = rw (returns-clause-addresses c) (proper-addresses c.args.self.now.ids c.args.task.now c.requires)
