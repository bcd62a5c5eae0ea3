use Rattle.std.proofs.Common.{[], sym, ◌∙◌}
use Rattle.std.proofs.lemmas.List.Elements.{All-get_or}
use Rattle.vi_device.specs.Values.{AreRegions}
use Rattle.vi_device.proofs.SeatLemmas.{regions_within, regions_there}
use Rattle.vi_device.proofs.endpoints.Endpoints.regions.Goals as goal

pub regions-requires : goal.regions-requires
regions-requires c = regions_within c.self.invariant c.self.view_is c.requires

pub returns-clause-regions : goal.returns-clause-regions
returns-clause-regions c = c.regions.ensures.regions ∙ sym (regions_there c.args.place c.self.invariant c.self.view_is)

pub returns-clause-declared : goal.returns-clause-declared
returns-clause-declared c = rw c.regions.ensures.regions (All-get_or AreRegions c.self.inside.reserved c.args.place [] (regions_within c.self.invariant c.self.view_is c.requires) c.self.invariant.regions)
