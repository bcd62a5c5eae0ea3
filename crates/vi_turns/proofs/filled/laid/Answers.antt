use Rattle.std.proofs.Common.{ℕ, List, subst, sym, ◌∙◌}
use Rattle.atomic_table.specs.Table.{opening}
use Rattle.vi_turns.specs.Order.{IsInOrder}
use Rattle.vi_turns.specs.Views.{first}
use Rattle.vi_turns.proofs.filled.laid.Goals as goal

pub new-requires : goal.new-requires
new-requires c =
    let s = c.args.script.now in
    subst (λ (words : List ℕ). IsInOrder s (opening words c.args.slots.items (first s))) (sym (c.as_slice.ensures.value ∙ c.in_ok-all.ensures)) c.requires
