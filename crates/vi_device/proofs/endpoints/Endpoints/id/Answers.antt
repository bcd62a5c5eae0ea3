use Rattle.std.proofs.Common.{sym, ap, arith}
use Rattle.vi_device.proofs.SeatLemmas.{seat_within, seat_there}
use Rattle.vi_device.proofs.endpoints.Endpoints.id.Goals as goal

pub index-requires : goal.index-requires
index-requires c = omega (arith, seat_within c.self.invariant c.self.view_is c.requires, c.self.inside.seats.ok.0)

pub returns : goal.returns
returns c = ap (λ x. x.id) (sym (seat_there c.self.invariant c.self.view_is c.requires c.index.ensures))
