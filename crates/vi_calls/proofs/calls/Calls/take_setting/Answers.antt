use Rattle.std.proofs.Common.{◌<◌, length, None}
use Rattle.vi_calls.specs.Inner.{lists_or}
use Rattle.vi_calls.proofs.Ports.{left-is}
use Rattle.vi_calls.proofs.calls.Calls.take_setting.Goals as goal

pub returns-clause-rest : goal.returns-clause-rest
returns-clause-rest c =
    let s = c.self.inside in
    let lt : c.args.driver < length s.rows.items = rw c.self.invariant.drivers c.requires in
    rw (← c.self.view_is) (left-is s.submitted s.rows.items (lists_or s.ring.lists) c.args.driver c.index_mut-row.result.now lt c.index_mut-row.ensures.value c.take_setting.new.self None c.take_setting.ensures.rest)
