use Rattle.vi_plain.proofs.Readings.{reading-short}
use Rattle.vi_plain.proofs.device.Device.take.Goals as goal

pub returns-then-write-writable_for-clause-answer : goal.returns-then-write-writable_for-clause-answer
returns-then-write-writable_for-clause-answer c =
    let short = rw (c.writable_for.ensures, c.type_of-kind.ensures) at c.if-write-writable_for.true in
    rw (reading-short c.args.read.now c.args.write short) c.nothing.ensures

pub returns-then-write-writable_for-clause-ok : goal.returns-then-write-writable_for-clause-ok
returns-then-write-writable_for-clause-ok c =
    let short = rw (c.writable_for.ensures, c.type_of-kind.ensures) at c.if-write-writable_for.true in
    rw (reading-short c.args.read.now c.args.write short)
