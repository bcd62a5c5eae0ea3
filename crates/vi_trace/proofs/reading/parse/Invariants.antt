use Rattle.std.proofs.Common.{◌≡◌, ◌+◌, ◌≤◌, length, Ok}
use Rattle.vi_words.specs.Words.{lines_of_text}
use Rattle.vi_trace.specs.Traces.{trace_from, followed}
use Rattle.vi_trace.proofs.reading.parse.Given as goal

abbrev pub invariant-loop-line : goal.invariant-loop-line
invariant-loop-line l = record {
  read : trace_from 1 (lines_of_text l.bytes) ≡ followed (Ok l.said.items) (trace_from (l.number + 1) l.lines);
  few : l.number + length l.lines ≤ length l.bytes;
}

abbrev pub decreases-loop-line : goal.decreases-loop-line
decreases-loop-line l = length l.lines
