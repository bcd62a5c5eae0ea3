use Rattle.std.proofs.Common.{◌<◌, length}
use Rattle.vi_calls.specs.Inner.{lists_or}
use Rattle.vi_calls.proofs.Ports.{posted-is}
use Rattle.vi_calls.proofs.calls.Calls.post.Goals as goal

pub returns : goal.returns
returns c =
    let s = c.self.inside in
    let lt : c.args.driver < length s.rows.items = rw c.self.invariant.drivers c.requires in
    rw (← c.self.view_is) (posted-is s.submitted s.rows.items (lists_or s.ring.lists) c.args.driver c.index_mut-row.result.now lt c.index_mut-row.ensures.value c.post.new.self c.args.lines c.post.ensures)
