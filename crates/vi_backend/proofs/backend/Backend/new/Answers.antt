use Rattle.std.proofs.Common.{◌∙◌, ap, sym, length, arith}
use Rattle.vi_backend.specs.Own.{awaited_of}
use Rattle.vi_backend.proofs.Copying.{starts_own}
use Rattle.vi_backend.proofs.backend.Backend.new.Goals as goal

pub invariant_of-result : goal.invariant_of-result
invariant_of-result c =
    let as_many = c.count.ensures ∙ ap length (sym c.in_ok-lines.ensures) in
    rw (c.new.ensures.empty) (starts_own c.args.script.now _ _ _ _ _ c.requires.transfers c.in_ok-lines.ensures (c.in_ok-awaited.ensures ∙ ap (awaited_of c.args.script.now _) as_many) (omega (arith, c.count.type_inv, as_many)))

pub returns-clause-own : goal.returns-clause-own
returns-clause-own c =
    let as_many = c.count.ensures ∙ ap length (sym c.in_ok-lines.ensures) in
    rw (c.new.ensures.empty) (starts_own c.args.script.now _ _ _ _ _ c.requires.transfers c.in_ok-lines.ensures (c.in_ok-awaited.ensures ∙ ap (awaited_of c.args.script.now _) as_many) (omega (arith, c.count.type_inv, as_many)))
