use Rattle.std.proofs.Common.{◌≡◌, ◌<◌, false, length}
use Rattle.vi_shoot.specs.Removals.{has_number}
use Rattle.vi_shoot.proofs.Numbers.{AreOpen-push}
use Rattle.vi_shoot.proofs.ops.Ops.begin.Goals as goal

pub invariant_of-self : goal.invariant_of-self
invariant_of-self c =
    let items = c.self.inside.open.items in
    let room : length items < 8 = rw c.self.view_is c.requires.room in
    let free : has_number c.free_number-number.result items ≡ false = rw c.self.view_is c.free_number-number.ensures.fresh in
    rw c.push.ensures.items (AreOpen-push items _ c.self.invariant room c.free_number-number.ensures.below free c.requires.proper)

pub returns-clause-open : goal.returns-clause-open
returns-clause-open c =
    let items = c.self.inside.open.items in
    let room : length items < 8 = rw c.self.view_is c.requires.room in
    let free : has_number c.free_number-number.result items ≡ false = rw c.self.view_is c.free_number-number.ensures.fresh in
    rw c.push.ensures.items (AreOpen-push items _ c.self.invariant room c.free_number-number.ensures.below free c.requires.proper)
