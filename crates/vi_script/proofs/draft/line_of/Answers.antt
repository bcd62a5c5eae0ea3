use Rattle.std.proofs.Common.{refl}
use Rattle.std.specs.List.{list_all}
use Rattle.std.proofs.lemmas.Bool.{and_parts}
use Rattle.vi_script.specs.Names.{named, all_awaited}
use Rattle.vi_script.specs.Statements.{fits, await_fits}
use Rattle.vi_script.proofs.NameLemmas.{kept_caller, kept_awaits}
use Rattle.vi_script.proofs.draft.line_of.Goals as goal

pub returns : goal.returns
returns c =
    let names = and_parts (fits (named c.args.line.caller)) (list_all (λ a. await_fits a) (all_awaited c.args.line.awaits.items)) c.requires.names in
    rw (c.caller.ensures, c.into_job.ensures, c.in_ok-awaits.ensures, c.deref.ensures.value, kept_caller c.args.line.caller names.0 c.requires.driver, kept_awaits c.args.line.awaits.items names.1 c.requires.drivers) refl
