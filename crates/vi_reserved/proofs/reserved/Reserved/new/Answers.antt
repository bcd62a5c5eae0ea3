use Rattle.std.proofs.Common.{take}
use Rattle.std.proofs.lemmas.List.Elements.{All-map, All-take}
use Rattle.vi_reserved.specs.Regions.{AreProper}
use Rattle.vi_reserved.proofs.reserved.Reserved.new.Goals as goal

pub invariant_of-result : goal.invariant_of-result
invariant_of-result c =
    let endpoints = c.args.endpoints.now in
    let so_far = c.loop-endpoint.endpoint-index in
    rw c.loop-endpoint.invariant.regions (All-map AreProper (λ e. e.regions) (take so_far endpoints) (All-take (λ e. AreProper e.regions) so_far endpoints c.requires))

pub returns-clause-proper : goal.returns-clause-proper
returns-clause-proper c = invariant_of-result c
