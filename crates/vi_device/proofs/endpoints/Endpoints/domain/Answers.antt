use Rattle.std.proofs.Common.{sym, ap, arith}
use Rattle.vi_device.proofs.SeatLemmas.{seat_within, seat_there, own_id}
use Rattle.vi_device.proofs.endpoints.Endpoints.domain.Goals as goal

pub index-requires : goal.index-requires
index-requires c = omega (arith, seat_within c.self.invariant c.self.view_is c.requires, c.self.inside.seats.ok.0)

pub returns-clause-domain : goal.returns-clause-domain
returns-clause-domain c = ap (λ x. x.domain) (sym (seat_there c.self.invariant c.self.view_is c.requires c.index.ensures))

pub returns-clause-own_id : goal.returns-clause-own_id
returns-clause-own_id c = own_id c.self.invariant c.self.view_is c.requires
