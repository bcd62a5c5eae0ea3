use Rattle.std.proofs.Common.{◌≡◌, rules, arith, ap, subst, sym}
use Rattle.vi_turns.specs.Passes.{Board, PassValue, HoldsPage}
use Rattle.vi_turns.proofs.Gives.{gives_page}
use Rattle.vi_turns.proofs.shared.Shared.give_page.Goals as goal

pub store-requires : goal.store-requires
store-requires c =
    let pages : c.self.inside.table.shared.key.setup.memory ≡ c.args.self.now.script.setup.memory = ap (λ (b : Board). b.script.setup.memory) c.self.view_is in
    let due = subst (λ (p : PassValue). HoldsPage c.args.page c.args.value p.view) (sym c.pass.view_is) c.requires.due in
    (search rules, omega arith, gives_page _ _ _ _ _ _ _ c.args.page c.args.value c.exchange-out.ensures.3 c.pass.invariant.1 due (omega arith) (omega arith))
