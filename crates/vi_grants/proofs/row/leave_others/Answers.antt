use Rattle.std.proofs.Common.{◌≡◌, ◌==◌, length, rules, arith}
use Rattle.std.proofs.lemmas.Fn.{filter_same}
use Rattle.vi_grants.specs.declared.row.Grant.{Grant}
use Rattle.vi_grants.proofs.Finds.{finds-from_lengths}
use Rattle.vi_grants.proofs.row.leave_others.Goals as goal

pub returns-clause-items : goal.returns-clause-items
returns-clause-items c = filter_same _ _ _ (λ x b f' k. search rules) _ _ c.retain.ensures.filtered

pub returns-clause-had : goal.returns-clause-had
returns-clause-had c =
    let before : c.len-before.result ≡ length c.args.grants.now.items = omega (arith, c.len-before.ensures, c.args.grants.now.ok.0) in
    let left : c.len.result ≡ length c.retain.new.self.items = omega (arith, c.len.ensures, c.retain.new.self.ok.0) in
    finds-from_lengths (λ (g : Grant). g.asked == c.args.asked) c.args.grants.now.items c.retain.new.self.items c.len-before.result c.len.result before left (returns-clause-items c)
