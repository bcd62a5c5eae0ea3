use Rattle.std.proofs.Common.{rules, arith, ap, ◌∙◌, sym}
use Rattle.vi_turns.specs.Passes.{PassValue, slots_of}
use Rattle.vi_turns.proofs.Ends.{joins}
use Rattle.vi_turns.proofs.shared.Shared.join.Goals as goal

pub join_seat-requires : goal.join_seat-requires
join_seat-requires c =
    let empty = ap (λ (p : PassValue). p.view.held) c.pass.view_is ∙ c.requires.ends.1 in
    let other = c.requires.ends.0 in (
      search rules,
      search rules,
      c.pass.invariant.0 ∙ ap slots_of empty,
      omega arith,
      joins _ _ _ _ _ c.into.invariant.1 c.pass.invariant.1 (λ e. other (sym (ap (λ (p : PassValue). p.view.number) c.pass.view_is) ∙ e)) empty,
    )
