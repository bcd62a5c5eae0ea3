use Rattle.std.proofs.Common.{◌+◌, ap, ◌∙◌, arith, rules, Ok, length}
use Rattle.vi_trace.specs.Traces.{followed, trace_from}
use Rattle.vi_trace.proofs.ReadingLemmas.{few_lines, trace_begins, trace_refused, trace_goes_on, trace_ends}
use Rattle.vi_trace.proofs.reading.parse.Goals as goal

pub loop-line-init : goal.loop-line-init
loop-line-init c = record {
  read = rw (c.new-said.ensures.items, c.of-lines.ensures) (trace_begins c.args.bytes.now);
  few = let few = few_lines c.args.bytes.now in rw c.of-lines.ensures (omega arith);
}

pub loop-line-preserved : goal.loop-line-preserved
loop-line-preserved c =
    let l = c.loop-line in
    let read = l.invariant.read ∙ ap (λ lines. followed (Ok l.said.items) (trace_from (l.number + 1) lines)) c.in-Some.ensures in
    let lengths = ap length c.in-Some.ensures in
    record {
      read = trace_goes_on c.args.bytes.now (l.number + 1) l.said.items c.add.new.said.items c.in-Some.line.now c.take.new.self read c.in_ok-add.ensures;
      few = omega arith;
    }

pub returns-in_err-add : goal.returns-in_err-add
returns-in_err-add c =
    let l = c.loop-line in
    let read = l.invariant.read ∙ ap (λ lines. followed (Ok l.said.items) (trace_from (l.number + 1) lines)) c.in-Some.ensures in
    let refused = trace_refused c.args.bytes.now (l.number + 1) l.said.items c.in-Some.line.now c.take.new.self c.in_err-add.field-0.0 read c.in_err-add.ensures in
    search rules

pub returns : goal.returns
returns c =
    let l = c.loop-line in
    let read = l.invariant.read ∙ ap (λ lines. followed (Ok l.said.items) (trace_from (l.number + 1) lines)) c.in_default.ensures.0 in
    record { read = rw (c.from_lines.ensures, c.from_vec.ensures) (trace_ends c.args.bytes.now (l.number + 1) l.said.items read) }
