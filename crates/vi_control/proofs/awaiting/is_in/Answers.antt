use Rattle.std.proofs.Common.{sym, ◌∙◌, ap}
use Rattle.vi_history.specs.Device as device
use Rattle.vi_control.proofs.Awaited.{member-at}
use Rattle.vi_control.proofs.awaiting.is_in.Goals as goal

pub returns-in-Member : goal.returns-in-Member
returns-in-Member c =
    let at = sym c.in-Member.is ∙ c.membership.ensures in
    ap (device.is_in c.args.domain) at ∙ member-at c.args.domain c.args.endpoint c.args.device.now.dev c.args.removals.now.ids c.place_of.result c.requires.endpoints (rw c.ids.ensures at c.place_of.ensures.first)

pub returns-in-Unattached : goal.returns-in-Unattached
returns-in-Unattached c =
    let at = sym c.in-Unattached.is ∙ c.membership.ensures in
    ap (device.is_in c.args.domain) at ∙ member-at c.args.domain c.args.endpoint c.args.device.now.dev c.args.removals.now.ids c.place_of.result c.requires.endpoints (rw c.ids.ensures at c.place_of.ensures.first)
