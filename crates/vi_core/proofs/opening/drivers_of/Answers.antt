use Rattle.std.proofs.Common.{◌∷◌, [], ◌++◌, arith, ap₂, sym, ◌∙◌}
use Rattle.std.proofs.lemmas.List.FromFn.{map-range_with_len_more}
use Rattle.vi_model.specs.Drivers.{no_stand}
use Rattle.vi_driver.specs.Drivers.{own_driver}
use Rattle.vi_core.proofs.opening.drivers_of.Goals as goal

pub loop-number-preserved : goal.loop-number-preserved
loop-number-preserved c =
    c.in_ok-push.ensures.items
    ∙ ap₂ (λ ds d. ds ++ d ∷ []) c.loop-number.invariant c.in_ok-new.ensures
    ∙ sym (map-range_with_len_more (λ number. own_driver c.args.script.now number no_stand) 0 c.loop-number.number c.loop-number.number (omega arith))
