use Rattle.std.proofs.Common.{arith}
use Rattle.vi_report.proofs.LineTaking.{head_at-shorter, faults_at-shorter, end_at-shorter}
use Rattle.vi_report.proofs.reading.outcome.Goals as goal

pub read_entries-requires : goal.read_entries-requires
read_entries-requires c = omega (arith, head_at-shorter c.args.bytes.now (c.in-Some.count, c.in-Some.rest.now) c.in-Some.ensures)

pub overflow_add-result : goal.overflow_add-result
overflow_add-result c =
    let head = head_at-shorter c.args.bytes.now (c.in-Some.count, c.in-Some.rest.now) c.in-Some.ensures in
    omega (arith, head, c.in_ok-entries.ensures.shorter)

pub overflow_add-count : goal.overflow_add-count
overflow_add-count c =
    let head = head_at-shorter c.args.bytes.now (c.in-Some.count, c.in-Some.rest.now) c.in-Some.ensures in
    let faults = faults_at-shorter c.in_ok-entries.rest.now (c.in-Some-read_faults.faults, c.in-Some-read_faults.rest.now) c.in-Some-read_faults.ensures in
    omega (arith, head, c.in_ok-entries.ensures.shorter, faults)

pub read_records-requires : goal.read_records-requires
read_records-requires c =
    let head = head_at-shorter c.args.bytes.now (c.in-Some.count, c.in-Some.rest.now) c.in-Some.ensures in
    let faults = faults_at-shorter c.in_ok-entries.rest.now (c.in-Some-read_faults.faults, c.in-Some-read_faults.rest.now) c.in-Some-read_faults.ensures in
    omega (arith, head, c.in_ok-entries.ensures.shorter, faults)

pub overflow_add-end : goal.overflow_add-end
overflow_add-end c =
    let head = head_at-shorter c.args.bytes.now (c.in-Some.count, c.in-Some.rest.now) c.in-Some.ensures in
    let faults = faults_at-shorter c.in_ok-entries.rest.now (c.in-Some-read_faults.faults, c.in-Some-read_faults.rest.now) c.in-Some-read_faults.ensures in
    omega (arith, head, c.in_ok-entries.ensures.shorter, faults)

pub overflow_add-end-2 : goal.overflow_add-end-2
overflow_add-end-2 c =
    let head = head_at-shorter c.args.bytes.now (c.in-Some.count, c.in-Some.rest.now) c.in-Some.ensures in
    let faults = faults_at-shorter c.in_ok-entries.rest.now (c.in-Some-read_faults.faults, c.in-Some-read_faults.rest.now) c.in-Some-read_faults.ensures in
    omega (arith, head, c.in_ok-entries.ensures.shorter, faults, c.in_ok-shown.ensures.shorter)

pub overflow_add-result-then-not-is_empty : goal.overflow_add-result-then-not-is_empty
overflow_add-result-then-not-is_empty c =
    let head = head_at-shorter c.args.bytes.now (c.in-Some.count, c.in-Some.rest.now) c.in-Some.ensures in
    let faults = faults_at-shorter c.in_ok-entries.rest.now (c.in-Some-read_faults.faults, c.in-Some-read_faults.rest.now) c.in-Some-read_faults.ensures in
    let end = end_at-shorter c.in_ok-shown.rest.now c.in-Some-after.rest.now c.in-Some-after.ensures in
    omega (arith, head, c.in_ok-entries.ensures.shorter, faults, c.in_ok-shown.ensures.shorter, end)
