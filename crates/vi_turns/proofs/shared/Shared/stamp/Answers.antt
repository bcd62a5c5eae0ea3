use Rattle.std.proofs.Common.{rules, arith, sym, subst}
use Rattle.vi_turns.specs.Passes.{PassValue, IsDue}
use Rattle.vi_turns.proofs.Stamps.{stamps}
use Rattle.vi_turns.proofs.shared.Shared.stamp.Goals as goal

pub fetch_add-ticket-requires : goal.fetch_add-ticket-requires
fetch_add-ticket-requires c = (search rules, omega arith, stamps _ _ _ _ _ c.pass.invariant.1 (subst (λ (p : PassValue). IsDue p.view (record { mark = c.args.mark; bytes = c.args.bytes.now })) (sym c.pass.view_is) c.requires.due))
