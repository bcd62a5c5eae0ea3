use Rattle.vi_req.proofs.ReadingLemmas.{reading-short}
use Rattle.vi_req.proofs.asking.read.Goals as goal

pub returns-then-write-writable_for : goal.returns-then-write-writable_for
returns-then-write-writable_for c =
    let short = rw (c.writable_for.ensures, c.type_of-kind.ensures) at c.if-write-writable_for.true in
    rw (reading-short c.args.bytes.now c.args.write short)
