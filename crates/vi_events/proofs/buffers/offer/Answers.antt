use Rattle.vi_events.proofs.Rings.{takes_one_more}
use Rattle.vi_events.proofs.buffers.offer.Goals as goal

pub unwrap-requires : goal.unwrap-requires
unwrap-requires c = takes_one_more c.args.ring.now c.add.result c.requires.events c.requires.room c.add.ensures.full
