use Rattle.std.proofs.Common.{◌≡◌, rules, arith, ap, ◌+◌, ◌-◌, ◌∙◌}
use Rattle.vi_turns.specs.declared.slot.Slot.TheVariants.{Page}
use Rattle.vi_turns.specs.Passes.{Board, PassValue}
use Rattle.vi_turns.proofs.Wins.{tries_page, out_at}
use Rattle.vi_turns.proofs.shared.Shared.try_page.Goals as goal

pub compare_exchange-found-requires : goal.compare_exchange-found-requires
compare_exchange-found-requires c =
    let pages : c.self.inside.table.shared.key.setup.memory ≡ c.args.self.now.script.setup.memory = ap (λ (b : Board). b.script.setup.memory) c.self.view_is in
    (search rules, omega arith, tries_page _ _ _ _ _ (c.args.page + 1 + 1) c.args.page c.pass.invariant.1 (ap (λ (p : PassValue). p.view.held) c.pass.view_is ∙ c.requires.empty) (ap (λ n. n + 1) c.pass.invariant.3) (omega arith) (omega arith))

pub exchange-taken-requires : goal.exchange-taken-requires
exchange-taken-requires c =
    let t = c.compare_exchange-found.ensures.2.0 c.if-found-ne0.false in
    (search rules, (Page t.bytes, out_at _ _ (c.args.page + 1 + 1 - 2 + 1) _ _ (ap (λ m. m.1) t.after_is) (omega arith)))
