use Rattle.std.proofs.Common.{[], take, sym, ap, subst, ◌∙◌}
use Rattle.std.proofs.lemmas.List.{at_drop_all}
use Rattle.vi_lines.specs.Order.{IsOrderedSoFar}
use Rattle.vi_check.specs.Seen.{walked_of}
use Rattle.vi_check.specs.Verdicts.{first_finding}
use Rattle.vi_check.proofs.TrackedLemmas.{AreDue-push}
use Rattle.vi_check.proofs.VerdictLemmas.{front, first_finding-next, first_finding-here}
use Rattle.vi_check.proofs.walk.Walk.first_finding.Goals as goal

pub loop-at-preserved : goal.loop-at-preserved
loop-at-preserved c =
    let s = c.args.script.now in
    let entries = c.args.entries.now in
    let at = c.loop-at.at in
    let h = c.index-entries-at.result in
    let more = front entries at h c.loop-at-test.true c.index-entries-at.is in
    record {
      walked = c.in_ok-found.ensures.walked c.in_default.is ∙ ap (λ hs. walked_of s hs) more;
      ordered = subst (λ hs. IsOrderedSoFar s hs) more (AreDue-push s [] (take at entries) h c.loop-at.invariant.ordered (c.in_ok-found.ensures.due c.in_default.is));
      rest = first_finding-next s entries at h c.loop-at-test.true c.index-entries-at.is (sym c.in_ok-found.ensures.found ∙ c.in_default.is) ∙ c.loop-at.invariant.rest;
    }

pub returns-in-Some-clause-found : goal.returns-in-Some-clause-found
returns-in-Some-clause-found c =
    first_finding-here c.args.script.now c.args.entries.now c.loop-at.at c.index-entries-at.result c.in-Some.found c.loop-at-test.true c.index-entries-at.is (sym c.in_ok-found.ensures.found ∙ c.in-Some.is)
    ∙ c.loop-at.invariant.rest

pub returns-clause-found : goal.returns-clause-found
returns-clause-found c =
    let s = c.args.script.now in
    let entries = c.args.entries.now in
    sym (at_drop_all (first_finding s (take c.loop-at.at entries)) entries c.loop-at.at c.loop-at-test.false) ∙ c.loop-at.invariant.rest
