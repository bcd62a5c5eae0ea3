use Rattle.vi_vring.specs.Shown.{shown}
use Rattle.vi_vring.proofs.Pops.{popped_whole}
use Rattle.vi_vring.proofs.device.pieces_of.Goals as goal

pub gather-requires-clause-unbroken : goal.gather-requires-clause-unbroken
gather-requires-clause-unbroken c = popped_whole c.args.chain.now.head (shown c.args.n c.args.area.now c.args.chain.now.head) c.args.chain.now c.requires.shown
