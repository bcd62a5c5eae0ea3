use Rattle.vi_control.proofs.Setups.{setup_of, ring_size, jobs_of}
use Rattle.vi_control.proofs.Planned.{device_built, events_built, maps_made, transfers_made}
use Rattle.vi_control.proofs.parts.device_of.Goals as goal

pub build-requires : goal.build-requires
build-requires c = let valid = rw (← c.script.view_is) at c.requires in ring_size _ valid.setup_valid.queue_fits

pub build-requires-2 : goal.build-requires-2
build-requires-2 c = let valid = rw (← c.script.view_is) at c.requires in ring_size _ valid.setup_valid.queue_fits

pub count_maps-requires-clause-jobs : goal.count_maps-requires-clause-jobs
count_maps-requires-clause-jobs c = let valid = rw (← c.script.view_is) at c.requires in rw c.as_slice-lines.ensures (jobs_of _ valid)

pub new-requires : goal.new-requires
new-requires c = let valid = rw (← c.script.view_is) at c.requires in setup_of _ valid.setup_valid

pub returns-clause-events : goal.returns-clause-events
returns-clause-events c = rw (← c.script.view_is) (events_built _ _ _ c.in_ok-events.ensures (transfers_made _ _ _ c.as_slice-lines.ensures c.count_transfers.ensures))

pub returns-clause-device : goal.returns-clause-device
returns-clause-device c = rw (← c.script.view_is) (device_built _ _ _ c.in_ok-device.ensures.device (maps_made _ _ _ c.as_slice-lines.ensures c.count_maps.ensures))
