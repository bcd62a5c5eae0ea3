use Rattle.std.proofs.Common.{is_some, sym, ap, ◌∙◌}
use Rattle.std.specs.List.{list_any}
use Rattle.vi_bytes.specs.Spans.{has}
use Rattle.vi_reserved.specs.Regions.{regions_at}
use Rattle.vi_device.proofs.SeatLemmas.{regions_within, regions_there}
use Rattle.vi_device.proofs.TableLemmas.{is_some-find}
use Rattle.vi_device.proofs.endpoints.Endpoints.keeps.Goals as goal

pub first_with-requires : goal.first_with-requires
first_with-requires c = record { place_in = regions_within c.self.invariant c.self.view_is c.requires }

pub returns : goal.returns
returns c = c.is_some.ensures ∙ ap is_some c.first_with.ensures.first ∙ is_some-find (λ r. has r.span c.args.address) (regions_at c.self.inside.reserved c.args.place) ∙ ap (list_any (λ r. has r.span c.args.address)) (sym (regions_there c.args.place c.self.invariant c.self.view_is))
