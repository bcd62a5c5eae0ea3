use Rattle.std.proofs.Common.{rules, arith, ap, ◌∙◌}
use Rattle.vi_turns.specs.Passes.{PassValue}
use Rattle.vi_turns.proofs.Ends.{splits}
use Rattle.vi_turns.proofs.shared.Shared.split.Goals as goal

pub split_seat-seat-requires : goal.split_seat-seat-requires
split_seat-seat-requires c = (search rules, omega arith, splits _ _ _ c.pass.invariant.1 (ap (λ (p : PassValue). p.view.number) c.pass.view_is ∙ c.requires.first.0))
