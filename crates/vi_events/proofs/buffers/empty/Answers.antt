use Rattle.std.proofs.Common.{refl}
use Rattle.vi_events.specs.Buffers.{lists_in}
use Rattle.vi_events.proofs.Rings.{IsEventRing-collect, collected_into-first}
use Rattle.vi_events.proofs.buffers.empty.Goals as goal

pub returns-clause-events : goal.returns-clause-events
returns-clause-events c = rw c.collect.ensures.ring (IsEventRing-collect c.args.head.0 c.args.ring.now c.requires.events c.requires.first)

pub returns-clause-bytes : goal.returns-clause-bytes
returns-clause-bytes c =
    let bytes = rw c.requires.events.known at c.collect.ensures.bytes in
    rw bytes (collected_into-first c.args.ring.now.size c.args.head.0 (lists_in c.args.ring.now) _ c.requires.events.buffers refl c.requires.first)
