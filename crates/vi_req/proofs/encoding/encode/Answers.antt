use Rattle.vi_req.proofs.RequestLemmas.{IsRequest-written}
use Rattle.vi_req.proofs.encoding.encode.Goals as goal

pub returns-in-Attach-clause-reads : goal.returns-in-Attach-clause-reads
returns-in-Attach-clause-reads c = IsRequest-written _ _ _ c.of.result c.in-Attach.is c.attach.ensures.bytes c.attach.ensures.fits c.of.ensures

pub returns-in-Detach-clause-reads : goal.returns-in-Detach-clause-reads
returns-in-Detach-clause-reads c = IsRequest-written _ _ _ c.of-in-Detach.result c.in-Detach.is c.detach.ensures.bytes c.detach.ensures.fits c.of-in-Detach.ensures

pub returns-in-Map-clause-reads : goal.returns-in-Map-clause-reads
returns-in-Map-clause-reads c = IsRequest-written _ _ _ c.of-in-Map.result c.in-Map.is c.map.ensures.bytes c.map.ensures.fits c.of-in-Map.ensures

pub returns-in-Unmap-clause-reads : goal.returns-in-Unmap-clause-reads
returns-in-Unmap-clause-reads c = IsRequest-written _ _ _ c.of-in-Unmap.result c.in-Unmap.is c.unmap.ensures.bytes c.unmap.ensures.fits c.of-in-Unmap.ensures

pub returns-in-Probe-clause-reads : goal.returns-in-Probe-clause-reads
returns-in-Probe-clause-reads c = IsRequest-written _ _ _ c.of-in-Probe.result c.in-Probe.is c.probe.ensures.bytes c.probe.ensures.fits c.of-in-Probe.ensures
