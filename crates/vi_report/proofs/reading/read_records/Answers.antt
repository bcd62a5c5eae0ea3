use Rattle.std.proofs.Common.{sym, ◌∙◌, arith}
use Rattle.vi_report.proofs.LineTaking.{record_at-shorter}
use Rattle.vi_report.proofs.ReportReading.{records-more, records-refused, records-first, records-last}
use Rattle.vi_report.proofs.reading.read_records.Goals as goal

pub loop-i-init : goal.loop-i-init
loop-i-init c = record { read = rw c.new-records.ensures.items (records-first c.args.shown c.args.count c.args.line c.args.bytes.now); shorter = omega arith }

pub loop-i-preserved : goal.loop-i-preserved
loop-i-preserved c =
    let more = records-more c.loop-i.records.items c.args.shown c.args.count c.args.line c.loop-i.i c.loop-i.rest.now c.in-Some.more.now c.in-Some.record c.loop-i-test.true c.in-Some.ensures in
    let less = record_at-shorter c.args.count c.loop-i.rest.now (c.in-Some.record, c.in-Some.more.now) c.ranges.count.fits c.in-Some.ensures in
    record { read = rw c.in_ok-push-in-Some.ensures.items (sym more ∙ c.loop-i.invariant.read); shorter = omega (arith, less, c.loop-i.invariant.shorter) }

pub returns-in-None-clause-found : goal.returns-in-None-clause-found
returns-in-None-clause-found c =
    records-refused c.loop-i.records.items c.args.shown c.args.count c.args.line c.loop-i.i c.loop-i.rest.now c.args.bytes.now c.loop-i-test.true c.in-None.ensures c.loop-i.invariant.read

pub returns-clause-found : goal.returns-clause-found
returns-clause-found c = records-last c.loop-i.records.items c.args.shown c.args.count c.args.line c.loop-i.i c.loop-i.rest.now c.args.bytes.now c.loop-i-test.false c.loop-i.invariant.read
