use Rattle.std.proofs.Common.{◌<◌, length, Some}
use Rattle.vi_calls.specs.Inner.{lists_or}
use Rattle.vi_calls.proofs.Ports.{left-is}
use Rattle.vi_calls.proofs.calls.Calls.leave.Goals as goal

pub returns : goal.returns
returns c =
    let s = c.self.inside in
    let lt : c.args.driver < length s.rows.items = rw c.self.invariant.drivers c.requires.driver in
    rw (← c.self.view_is) (left-is s.submitted s.rows.items (lists_or s.ring.lists) c.args.driver c.index_mut-row.result.now lt c.index_mut-row.ensures.value c.leave.new.self (Some (record { line = c.args.line; on = c.args.on })) c.leave.ensures)
