use Rattle.std.proofs.Common.{length}
use Rattle.vi_state.proofs.Keeping.{has_room, accepted_state}
use Rattle.vi_state.proofs.state.State.accept.Goals as goal

pub commit-requires : goal.commit-requires
commit-requires c = record { room = has_room c.self.inside.device.maps c.self.inside.spare c.self.inside.device.dev c.args.request.now c.self.invariant.kept (rw (← c.self.view_is) at c.requires.room) }

pub invariant_of-self : goal.invariant_of-self
invariant_of-self c =
    rw (c.commit.ensures.effect, c.maps_of.ensures) (accepted_state c.self.inside.device.maps c.self.inside.spare (length c.self.inside.pages.items) c.self.inside.device.dev c.self.inside.ids.items c.args.request.now c.self.invariant (rw (← c.self.view_is) at c.requires.right) (rw (← c.self.view_is) at c.requires.room))
