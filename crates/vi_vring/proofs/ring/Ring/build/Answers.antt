use Rattle.vi_vring.proofs.BuildSound.{build_sound}
use Rattle.vi_vring.proofs.ring.Ring.build.Goals as goal

pub invariant_of-result : goal.invariant_of-result
invariant_of-result c =
    let items = c.in_ok-area.ensures.items_if_clones_equal (λ y e. e) in
    rw (items, c.area.ensures, c.max-room.ensures, c.in_ok-notes.ensures) (build_sound c.args.n c.args.read c.args.write c.requires.size c.requires.read c.requires.write)
