use Rattle.std.proofs.Common.{◌+◌, ◌≤◌}
use Rattle.vi_tree.specs.Shapes.{link_height}
use Rattle.vi_tree.specs.Held.{Stands}
use Rattle.vi_tree.proofs.SearchLemmas.{Narrows}
use Rattle.vi_tree.proofs.search.lowest_meeting.Given as goal

abbrev pub invariant-loop-link : goal.invariant-loop-link
invariant-loop-link l = record {
  stands : Stands l.nodes l.link;
  narrows : Narrows l.nodes l.span l.initial.link l.link l.found;
  rises : l.initial.steps ≤ l.steps;
  counted : l.steps + link_height l.link ≤ l.initial.steps + link_height l.initial.link;
}

abbrev pub decreases-loop-link : goal.decreases-loop-link
decreases-loop-link l = link_height l.link
