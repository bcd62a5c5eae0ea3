use Rattle.std.proofs.Common.{◌≡◌, [], take, drop}
use Rattle.vi_lines.specs.Order.{IsOrderedSoFar}
use Rattle.vi_check.specs.Seen.{walked_of}
use Rattle.vi_check.specs.Verdicts.{first_finding}
use Rattle.vi_check.proofs.walk.Walk.first_finding.Given as goal

abbrev pub invariant-loop-at : goal.invariant-loop-at
invariant-loop-at l = record {
  walked : l.self ≡ walked_of l.script (take l.at l.entries);
  ordered : IsOrderedSoFar l.script (take l.at l.entries);
  rest : first_finding l.script (take l.at l.entries) (drop l.at l.entries) ≡ first_finding l.script [] l.entries;
}
