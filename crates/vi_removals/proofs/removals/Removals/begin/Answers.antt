use Rattle.std.proofs.Common.{length}
use Rattle.vi_removals.specs.declared.removals.Call.{Call}
use Rattle.vi_removals.proofs.Views.{someone-all}
use Rattle.vi_removals.proofs.Ties.{number-begun, IsWhole-begun, seen-begun, AreOpened-seen}
use Rattle.vi_removals.proofs.removals.Removals.begin.Goals as goal

pub begin-number-requires-clause-waits : goal.begin-number-requires-clause-waits
begin-number-requires-clause-waits c = rw c.copied_flags-waits.ensures.copy (someone-all (length c.args.self.now.ids) c.args.waits.now.0 c.requires.someone c.requires.beyond)

pub bounds-self-inside-number : goal.bounds-self-inside-number
bounds-self-inside-number c =
    number-begun c.self.inside.ops c.begin-number.new.self c.what_of-what.result c.copied_flags-waits.result c.args.token c.begin-number.result c.begin-number.ensures.number c.begin-number.ensures.begun c.begin-number.ensures.open

pub invariant_of-self : goal.invariant_of-self
invariant_of-self c =
    let p = c.self.inside in
    let call : Call = record { driver = c.args.driver; line = c.args.line; task = c.args.task } in
    let taking = rw (← c.self.view_is) at c.requires.taking in
    let takes = rw (← c.self.view_is) at c.what_of-what.ensures in
    let beyond = rw (← c.self.view_is, ← c.copied_flags-waits.ensures.copy) at c.requires.beyond in
    IsWhole-begun p c.begin-number.new.self c.what_of-what.result c.copied_flags-waits.result c.args.token c.begin-number.result call c.self.invariant
    c.begin-number.ensures.number c.begin-number.ensures.begun c.begin-number.ensures.open c.begin-number.ensures.fresh taking takes c.copied_flags-waits.ensures.flags beyond

pub returns-clause-open : goal.returns-clause-open
returns-clause-open c = AreOpened-seen _ (invariant_of-self c)

pub returns-clause-begun : goal.returns-clause-begun
returns-clause-begun c =
    let p = c.self.inside in
    let call : Call = record { driver = c.args.driver; line = c.args.line; task = c.args.task } in
    rw (← c.self.view_is, ← c.copied_flags-waits.ensures.copy)
    (seen-begun p c.begin-number.new.self c.what_of-what.result c.copied_flags-waits.result c.args.token c.begin-number.result call c.self.invariant
    c.begin-number.ensures.number c.begin-number.ensures.begun c.begin-number.ensures.open c.begin-number.ensures.fresh)
