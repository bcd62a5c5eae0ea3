use Rattle.std.proofs.Common.{◌+◌, sym, ◌∙◌, arith}
use Rattle.vi_report.proofs.LineTaking.{entry_at-shorter}
use Rattle.vi_report.proofs.ReportReading.{entries-more, entries-refused, entries-first, entries-last}
use Rattle.vi_report.proofs.reading.read_entries.Goals as goal

pub loop-i-init : goal.loop-i-init
loop-i-init c = record { read = rw c.new-entries.ensures.items (entries-first c.args.count c.args.bytes.now); shorter = omega arith }

pub loop-i-preserved : goal.loop-i-preserved
loop-i-preserved c =
    let more = entries-more c.loop-i.entries.items c.args.count c.loop-i.i c.loop-i.rest.now c.in-Ok.more.now c.in-Ok.entry c.loop-i-test.true c.in-Ok.ensures in
    let less = entry_at-shorter (c.loop-i.i + 1) c.loop-i.rest.now (c.in-Ok.entry, c.in-Ok.more.now) c.in-Ok.ensures in
    record { read = rw c.in_ok-push-in-Ok.ensures.items (sym more ∙ c.loop-i.invariant.read); shorter = omega (arith, less, c.loop-i.invariant.shorter) }

pub returns-in-Err-clause-found : goal.returns-in-Err-clause-found
returns-in-Err-clause-found c =
    rw c.at.ensures (entries-refused c.in-Err.refusal c.loop-i.entries.items c.args.count c.loop-i.i c.loop-i.rest.now c.args.bytes.now c.loop-i-test.true c.in-Err.ensures c.loop-i.invariant.read)

pub returns-clause-found : goal.returns-clause-found
returns-clause-found c = entries-last c.loop-i.entries.items c.args.count c.loop-i.i c.loop-i.rest.now c.args.bytes.now c.loop-i-test.false c.loop-i.invariant.read
