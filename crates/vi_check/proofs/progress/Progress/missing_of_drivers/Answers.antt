use Rattle.std.proofs.Common.{◌+◌, ◌-◌, map, sym, ap, ◌∙◌}
use Rattle.std.specs.List.{range_with_len}
use Rattle.std.specs.Option.{option_or}
use Rattle.vi_history.specs.declared.call.Caller.TheVariants.{Driver}
use Rattle.vi_check.specs.Seen.{first_missing_in}
use Rattle.vi_check.proofs.MissingLemmas.{drivers_next, drivers_done}
use Rattle.vi_check.proofs.progress.Progress.missing_of_drivers.Goals as goal

pub returns-in-Some : goal.returns-in-Some
returns-in-Some c =
    let n = c.loop-number.number in
    let rest = first_missing_in c.args.script.now c.args.self.now (map (λ number. Driver number) (range_with_len (n + 1) (8 - (n + 1)))) in
    ap (λ o. option_or o rest) c.in-Some.ensures ∙ (sym (drivers_next c.args.script.now c.args.self.now n c.loop-number-test.true) ∙ c.loop-number.invariant)

pub loop-number-preserved : goal.loop-number-preserved
loop-number-preserved c =
    let n = c.loop-number.number in
    let rest = first_missing_in c.args.script.now c.args.self.now (map (λ number. Driver number) (range_with_len (n + 1) (8 - (n + 1)))) in
    ap (λ o. option_or o rest) c.in_default.ensures ∙ (sym (drivers_next c.args.script.now c.args.self.now n c.loop-number-test.true) ∙ c.loop-number.invariant)

pub returns : goal.returns
returns c = drivers_done c.args.script.now c.args.self.now c.loop-number.number c.loop-number-test.false ∙ c.loop-number.invariant
