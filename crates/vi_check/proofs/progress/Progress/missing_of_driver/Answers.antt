use Rattle.std.proofs.Common.{◌≡◌, [], get_or, ap, sym, ◌∙◌, arith}
use Rattle.vi_check.specs.Seen.{done_first}
use Rattle.vi_check.proofs.EnteredLemmas.{get_or-some}
use Rattle.vi_check.proofs.MissingLemmas.{missing_in-absent, missing_in-done, missing_in-open}
use Rattle.vi_check.proofs.progress.Progress.missing_of_driver.Goals as goal

pub returns-in_default : goal.returns-in_default
returns-in_default c = missing_in-absent c.args.script.now c.args.self.now c.args.number c.requires c.in_default.ensures

pub returns-then-done-count : goal.returns-then-done-count
returns-then-done-count c =
    let entered = (get_or-some c.args.self.now.drivers c.args.number c.in-Some.entered.now [] c.in-Some.ensures).1 in
    let done : c.done_first-done.result ≡ done_first (get_or c.args.self.now.drivers c.args.number []) = c.done_first-done.ensures.done ∙ sym (ap done_first entered) in
    missing_in-done c.args.script.now c.args.self.now c.args.number c.done_first-done.result done (omega (arith, c.count.ensures, c.if-done-count.true))

pub returns : goal.returns
returns c =
    let entered = (get_or-some c.args.self.now.drivers c.args.number c.in-Some.entered.now [] c.in-Some.ensures).1 in
    let done : c.done_first-done.result ≡ done_first (get_or c.args.self.now.drivers c.args.number []) = c.done_first-done.ensures.done ∙ sym (ap done_first entered) in
    missing_in-open c.args.script.now c.args.self.now c.args.number c.done_first-done.result done (omega (arith, c.count.ensures, c.if-done-count.false))
