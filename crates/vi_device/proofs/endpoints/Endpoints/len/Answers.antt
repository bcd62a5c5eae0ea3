use Rattle.std.proofs.Common.{arith}
use Rattle.vi_device.proofs.SeatLemmas.{length_of_seen}
use Rattle.vi_device.proofs.endpoints.Endpoints.len.Goals as goal

pub returns : goal.returns
returns c = omega (arith, c.len.ensures, length_of_seen c.self.invariant c.self.view_is, c.self.inside.seats.ok.0)
