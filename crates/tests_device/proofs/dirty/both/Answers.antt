use Rattle.std.proofs.Common.{sym, subst}
use Rattle.vi_history.specs.Device.{One}
use Rattle.vi_state.proofs.Staying.{stays_followed}
use Rattle.vi_state.specs.Followed.{IsFollowed}
use Rattle.tests_device.proofs.dirty.both.Goals as goal

pub returns-clause-later : goal.returns-clause-later
returns-clause-later c = subst (λ (one : One). IsFollowed one c.args.later.now) (sym c.in_ok-entry.ensures.ok) (stays_followed c.args.plain.now c.args.later.now c.args.call.now c.requires.later)
