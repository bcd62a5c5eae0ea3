use Rattle.std.proofs.Common.{◌≡◌, Some, refl, rules}
use Rattle.vi_commands.specs.declared.command.Command.TheVariants.{Make}
use Rattle.vi_commands.specs.Top.{usage}
use Rattle.vi_commands.specs.declared.status.Status.TheVariants.{Usage}
use Rattle.vi_commands.proofs.EndLemmas.{Ends-from_deliver, Ends-from_make}
use Rattle.vi_commands.proofs.top.carry_out.Goals as goal

pub returns-in-None-clause-ends : goal.returns-in-None-clause-ends
returns-in-None-clause-ends g c =
    let d = c.deliver.ensures in
    Ends-from_deliver _ _ _ Usage _ _ (usage c.in-None.is refl refl) d.either d.whole d.prefix d.write_fault

pub returns-in-Some-Make-clause-ends : goal.returns-in-Some-Make-clause-ends
returns-in-Some-Make-clause-ends g c =
    let d = c.write_load_script.ensures in
    let form : c.args.command ≡ Some (Make c.in-Some-Make.rounds) = search rules in
    Ends-from_make _ _ _ _ c.in-Some-Make.rounds form d.either d.whole d.prefix d.nothing d.write_fault
