use Rattle.std.proofs.Common.{drop}
use Rattle.vi_trace.specs.declared.finding.Finding.{Finding}
use Rattle.vi_trace.specs.Rules.{Known, nothing_known, Judges}
use Rattle.vi_trace.specs.Steps.{Holds}
use Rattle.vi_trace.proofs.judging.judge.Given as goal

-- what is known above the line: what the rest is found to be below it, the whole is
abbrev pub invariant-loop-line : goal.invariant-loop-line
invariant-loop-line l =
    (known : Known) × Holds l.state known × ((f : Finding) → Judges known (drop l.line-index l.line-items) f → Judges nothing_known l.trace f)
