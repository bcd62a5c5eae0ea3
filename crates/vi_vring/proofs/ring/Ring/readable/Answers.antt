use Rattle.std.proofs.Common.{ap, ◌∙◌}
use Rattle.vi_vring.specs.Parts.{readable_bytes}
use Rattle.vi_vring.specs.Moves.{pieces_shown}
use Rattle.vi_vring.proofs.PushSound.{readable_known}
use Rattle.vi_vring.proofs.ring.Ring.readable.Goals as goal

pub returns-clause-queued : goal.returns-clause-queued
returns-clause-queued c =
    let shows = rw (← c.self.view_is) at c.requires.shown in
    let out = rw (← c.self.view_is) at c.requires.out in
    let pieces = c.deref-3.ensures.0 ∙ c.pieces_of.ensures.pieces ∙ ap (λ a. pieces_shown c.self.inside.size a c.args.chain.now.head) c.deref.ensures.value in
    let copied = c.copy_readable.ensures ∙ ap (λ a. readable_bytes a c.deref-3.result.now) c.deref-2.ensures.value ∙ ap (readable_bytes c.self.inside.area.items) pieces in
    rw (← c.self.view_is, copied)
    (readable_known c.self.inside.size c.self.inside.reading c.self.inside.writing c.self.inside.room c.self.inside.area.items c.self.inside.taken c.self.inside.seen c.self.inside.lent c.self.inside.notes c.self.invariant
    c.args.chain.now shows out)
