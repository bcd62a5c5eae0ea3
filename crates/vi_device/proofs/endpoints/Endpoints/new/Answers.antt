use Rattle.vi_device.proofs.SeatLemmas.{seated_first, endpoints_seen-unattached}
use Rattle.vi_device.proofs.endpoints.Endpoints.new.Goals as goal

pub invariant_of-result : goal.invariant_of-result
invariant_of-result c = rw (c.in_ok-seats_of.ensures, c.in_ok-new.ensures.regions) (seated_first c.args.endpoints.now c.requires.few c.requires.distinct c.requires.regions)

pub returns : goal.returns
returns c = rw (c.in_ok-seats_of.ensures, c.in_ok-new.ensures.regions) (endpoints_seen-unattached c.args.endpoints.now)
