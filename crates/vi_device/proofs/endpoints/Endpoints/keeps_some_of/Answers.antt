use Rattle.std.proofs.Common.{is_some, sym, ap, ◌∙◌}
use Rattle.vi_bytes.specs.Spans.{meets}
use Rattle.vi_history.specs.Statuses.{any_region_meets}
use Rattle.vi_reserved.specs.Regions.{regions_at}
use Rattle.vi_device.proofs.SeatLemmas.{regions_within, regions_there}
use Rattle.vi_device.proofs.TableLemmas.{is_some-find}
use Rattle.vi_device.proofs.endpoints.Endpoints.keeps_some_of.Goals as goal

pub first_meeting-requires-clause-place_in : goal.first_meeting-requires-clause-place_in
first_meeting-requires-clause-place_in c = regions_within c.self.invariant c.self.view_is c.requires.place_in

pub returns : goal.returns
returns c = c.is_some.ensures ∙ ap is_some c.first_meeting.ensures.first ∙ is_some-find (λ r. meets r.span c.args.span.now) (regions_at c.self.inside.reserved c.args.place) ∙ ap (any_region_meets c.args.span.now) (sym (regions_there c.args.place c.self.invariant c.self.view_is))
