-- The device and the memory before the first call.
use Rattle.std.specs.Prelude.{ℕ, List, [], map, replicate}
use Rattle.vi_bytes.specs.declared.region.EndpointSetup.{EndpointSetup}
use Rattle.vi_bytes.specs.declared.region.Membership.TheVariants.{Unattached}
use Rattle.vi_history.specs.Device.{Dev, One, Endpoint}
use Rattle.vi_history.specs.declared.setup.Setup.{Setup}

-- a page of 4096 zero bytes
unfoldable pub zero_page : List ℕ
zero_page = replicate 4096 0

-- a declared endpoint is in no domain at first
abbrev pub unattached : EndpointSetup → Endpoint
unattached e = record { id = e.id; regions = e.regions; domain = Unattached }

-- the setup's device, without a domain
abbrev pub start_dev : Setup → Dev
start_dev s = record { granule = s.granule; input = s.input; pages = s.memory; bypass = s.bypass; endpoints = map (λ e. unattached e) s.endpoints; domains = [] }

-- the device, and the memory all zero
unfoldable pub start : Setup → One
start s = record { dev = start_dev s; memory = replicate s.memory zero_page }
