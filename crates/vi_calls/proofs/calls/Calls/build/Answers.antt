use Rattle.std.proofs.Common.{◌≡◌, ap, ◌∙◌, refl, arith, replicate}
use Rattle.vi_calls.specs.Rows.{no_row}
use Rattle.vi_calls.proofs.Building.{IsKept-new}
use Rattle.vi_calls.proofs.calls.Calls.build.Goals as goal

pub invariant_of-result : goal.invariant_of-result
invariant_of-result c =
    let all : c.loop-driver._driver ≡ 8 = omega arith in
    IsKept-new _ c.args.size c.requires c.in_ok-ring.ensures refl refl (c.loop-driver.invariant.0 ∙ ap (λ n. replicate n no_row) all)

pub returns : goal.returns
returns c =
    let all : c.loop-driver._driver ≡ 8 = omega arith in
    rw (c.in_ok-ring.ensures, c.loop-driver.invariant.0, all) refl
