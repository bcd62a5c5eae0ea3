use Rattle.std.proofs.Common.{sym, ◌∙◌, ap, is_some}
use Rattle.vi_control.proofs.Ties.{ready-some, ready-taking}
use Rattle.vi_control.proofs.start.take_ready.Goals as goal

pub unwrap-requires : goal.unwrap-requires
unwrap-requires c = ap is_some c.take_ready.ensures.first ∙ ready-some c.args.removals.now.opened c.requires

pub returns-clause-taking : goal.returns-clause-taking
returns-clause-taking c =
    ready-taking c.args.removals.now.ids c.args.removals.now.opened c.unwrap.result (sym c.unwrap.ensures ∙ c.take_ready.ensures.first) c.is_full-full.ensures.open.each
