use Rattle.tests_device.proofs.log.merges_by_ticket.Goals as goal

pub merge-requires : goal.merge-requires
merge-requires g c = (3, c.in_ok-logs.ensures)
