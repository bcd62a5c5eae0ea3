use Rattle.std.proofs.Common.{rules, arith, subst, sym}
use Rattle.vi_control.specs.Value.{ControlValue}
use Rattle.vi_turns.specs.Passes.{PassValue, IsDueControl}
use Rattle.vi_turns.proofs.Gives.{gives_control}
use Rattle.vi_turns.proofs.shared.Shared.give_control.Goals as goal

pub store-requires : goal.store-requires
store-requires c =
    let due : IsDueControl c.pass.inside.seat.me.0 c.args.control.value = subst (λ (p : PassValue). IsDueControl p.view c.args.control.value) (sym c.pass.view_is) c.requires.due in
    let given = subst (λ (v : ControlValue). IsDueControl c.pass.inside.seat.me.0 v) (sym c.of.ensures) due in
    (search rules, omega arith, gives_control _ _ _ _ _ _ c.of.result c.exchange-out.ensures.3 c.pass.invariant.1 given)
