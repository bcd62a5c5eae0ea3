use Rattle.std.proofs.Common.{rules, arith, ap, ◌+◌, ◌∙◌}
use Rattle.vi_turns.specs.declared.slot.Slot.TheVariants.{Control}
use Rattle.vi_turns.specs.Passes.{PassValue}
use Rattle.vi_turns.proofs.Wins.{tries_control, out_is}
use Rattle.vi_turns.proofs.shared.Shared.try_control.Goals as goal

pub compare_exchange-found-requires : goal.compare_exchange-found-requires
compare_exchange-found-requires c = (search rules, omega arith, tries_control _ _ _ _ _ c.pass.invariant.1 (ap (λ (p : PassValue). p.view.held) c.pass.view_is ∙ c.requires.empty) (ap (λ n. n + 1) c.pass.invariant.3))

pub exchange-taken-requires : goal.exchange-taken-requires
exchange-taken-requires c = let t = c.compare_exchange-found.ensures.2.0 c.if-found-ne0.false in (search rules, (Control t.control, out_is _ _ _ (ap (λ m. m.1) t.after_is)))
