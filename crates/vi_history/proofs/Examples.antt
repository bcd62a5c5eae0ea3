-- Worked examples, computed by the definitions.
use Rattle.std.proofs.Common.{◌≡◌, ℕ, ◌+◌, ◌-◌, ◌*◌, ◌^◌, true, false, List, [], ◌∷◌, refl, Some, None}
use Rattle.vi_bytes.specs.declared.lease.Need.TheVariants.{Read, Write}
use Rattle.vi_bytes.specs.declared.part.Part.{Part}
use Rattle.vi_bytes.specs.declared.region.RegionKind.TheVariants.{Reserved}
use Rattle.vi_bytes.specs.declared.region.EndpointSetup.{EndpointSetup}
use Rattle.vi_history.specs.declared.found.Found.TheVariants.{At, Fault}
use Rattle.vi_history.specs.declared.request.Request.{Request}
use Rattle.vi_history.specs.declared.request.Request.TheVariants.{Attach, Detach, Map, Unmap}
use Rattle.vi_history.specs.Device.{One, Dev}
use Rattle.vi_history.specs.Statuses.{status}
use Rattle.vi_history.specs.Effects.{commit, with_bypass}
use Rattle.vi_history.specs.Requests.{reading, request_bytes}
use Rattle.vi_history.specs.declared.reading.Reading.TheVariants.{Silent, Malformed, Asks}
use Rattle.vi_history.specs.Translation.{look, translate}
use Rattle.vi_history.specs.Replies.{Answer, status_answer, nothing_answer, set_answer, read_answer, wrote_answer, fault_answer, reply, next}
use Rattle.vi_history.specs.Runs.{run}
use Rattle.vi_history.specs.declared.call.Call.{Call}
use Rattle.vi_history.specs.declared.call.Call.TheVariants as call
use Rattle.vi_history.specs.Start.{start_dev}

-- the statuses of requests, one after another
statuses : Dev → List Request → List ℕ
statuses dev [] = []
statuses dev (q ∷ qs) = status dev q ∷ statuses (commit dev q) qs

-- the device after them
committed : Dev → List Request → Dev
committed dev [] = dev
committed dev (q ∷ qs) = committed (commit dev q) qs

-- an endpoint with no regions
plain_endpoint : ℕ → EndpointSetup
plain_endpoint id = record { id = id; regions = [] }

device_with : ℕ → ℕ → List EndpointSetup → Dev
device_with memory granule endpoints = start_dev (record {
  memory = memory;
  queue = 16;
  cache = 8;
  granule = granule;
  input = record { first = 0; last = 2 ^ 64 - 1 };
  bypass = false;
  events = true;
  endpoints = endpoints;
})

-- a device with one page of memory, and one with an endpoint and so many pages
device_of : ℕ → List EndpointSetup → Dev
device_of granule endpoints = device_with 1 granule endpoints

device_of_memory : ℕ → Dev
device_of_memory memory = device_with memory 4096 (plain_endpoint 7 ∷ [])

-- pages, mapped for reading to target 0, and unmapped
map_pages : ℕ → ℕ → Request
map_pages first last = Map 1 (4096 * first) (4096 * last + 4095) 0 1

unmap_pages : ℕ → ℕ → Request
unmap_pages first last = Unmap 1 (4096 * first) (4096 * last + 4095)

-- the standard's seven examples of UNMAP (Virtio 1.2, 5.13.6.6), the domain cleared after the fourth and the
-- fifth: only the fourth is refused, since it would split a mapping
unmap_examples : statuses (device_of 4096 (plain_endpoint 7 ∷ []))
    (Attach 1 7 0 ∷ unmap_pages 0 4 ∷ map_pages 0 9 ∷ unmap_pages 0 9 ∷ map_pages 0 4 ∷ map_pages 5 9 ∷ unmap_pages 0 9
    ∷ map_pages 0 9 ∷ unmap_pages 0 4 ∷ unmap_pages 0 9 ∷ map_pages 0 4 ∷ map_pages 5 9 ∷ unmap_pages 0 4 ∷ unmap_pages 5 9
    ∷ map_pages 0 4 ∷ unmap_pages 0 9 ∷ map_pages 0 4 ∷ map_pages 10 14 ∷ unmap_pages 0 14 ∷ [])
    ≡ 0 ∷ 0 ∷ 0 ∷ 0 ∷ 0 ∷ 0 ∷ 0 ∷ 0 ∷ 5 ∷ 0 ∷ 0 ∷ 0 ∷ 0 ∷ 0 ∷ 0 ∷ 0 ∷ 0 ∷ 0 ∷ 0 ∷ []
unfolding statuses device_of device_with plain_endpoint map_pages unmap_pages status commit
unmap_examples = refl

-- the order of a MAP's refusals: alignment before what meets a mapping, an empty range before alignment
map_refusals : statuses (device_of 4096 (plain_endpoint 7 ∷ []))
    (Attach 1 7 0 ∷ Map 1 0x1000 0x1fff 0 1 ∷ Map 1 0x1000 0x17ff 0 1 ∷ Map 1 0x1000 0x2fff 0 1 ∷ Map 1 0x1000 0x1000 0 1
    ∷ Map 9 0x1000 0x1fff 0 1 ∷ Map 1 0x9000 0x1fff 0 4 ∷ Map 1 0x2000 0x2fff 0xfffffffffffff000 1 ∷ Map 1 0x3000 0x4fff 0xfffffffffffff000 1 ∷ [])
    ≡ 0 ∷ 0 ∷ 5 ∷ 4 ∷ 4 ∷ 6 ∷ 4 ∷ 0 ∷ 5 ∷ []
unfolding statuses device_of device_with plain_endpoint status commit
map_refusals = refl

-- an endpoint moves from one domain to another, and an emptied domain ceases to exist
attach_and_detach : statuses (device_of 4096 (plain_endpoint 7 ∷ []))
    (Attach 1 7 0 ∷ Map 1 0x1000 0x1fff 0 3 ∷ Attach 2 7 0 ∷ Map 1 0x1000 0x1fff 0 3 ∷ Detach 1 7 ∷ Detach 2 7
    ∷ Unmap 2 0 0xfff ∷ Attach 1 7 0 ∷ Attach 1 9 0 ∷ [])
    ≡ 0 ∷ 0 ∷ 0 ∷ 6 ∷ 4 ∷ 0 ∷ 6 ∷ 0 ∷ 6 ∷ []
unfolding statuses device_of device_with plain_endpoint status commit
attach_and_detach = refl

-- a mapping can't meet a region of an endpoint of the domain, nor an endpoint with such a region join
regions : statuses (device_of 4096 (record { id = 7; regions = record { kind = Reserved; span = record { first = 0x8000; last = 0x8fff } } ∷ [] } ∷ plain_endpoint 8 ∷ []))
    (Attach 1 7 0 ∷ Map 1 0x8000 0x8fff 0 3 ∷ Map 1 0x7000 0x7fff 0 3 ∷ Attach 2 8 0 ∷ Map 2 0x8000 0x8fff 0 3 ∷ Attach 2 7 0 ∷ [])
    ≡ 0 ∷ 4 ∷ 0 ∷ 0 ∷ 0 ∷ 4 ∷ []
unfolding statuses device_of device_with plain_endpoint status commit
regions = refl

-- a bypass domain takes no mapping and no endpoint that doesn't ask for bypass
bypass_domain : statuses (device_of 4096 (plain_endpoint 5 ∷ plain_endpoint 6 ∷ []))
    (Attach 3 5 1 ∷ Map 3 0 0xfff 0 1 ∷ Attach 3 6 0 ∷ Attach 3 6 2 ∷ Attach 3 6 1 ∷ [])
    ≡ 0 ∷ 4 ∷ 4 ∷ 4 ∷ 0 ∷ []
unfolding statuses device_of device_with plain_endpoint status commit
bypass_domain = refl

-- with a granule of four pages mappings go by four pages, in range and target
larger_granule : statuses (device_of 16384 (plain_endpoint 7 ∷ []))
    (Attach 1 7 0 ∷ Map 1 0x1000 0x1fff 0 1 ∷ Map 1 0x4000 0x7fff 0 1 ∷ Map 1 0x8000 0xbfff 0x1000 1 ∷ Unmap 1 0x5000 0x5fff ∷ Unmap 1 0x4000 0x7fff ∷ [])
    ≡ 0 ∷ 5 ∷ 0 ∷ 5 ∷ 5 ∷ 0 ∷ []
unfolding statuses device_of device_with plain_endpoint status commit
larger_granule = refl

-- the last page of the address space: its last address is translated, and unmapped with all others
last_page : Dev
last_page = committed (device_of 4096 (plain_endpoint 7 ∷ [])) (Attach 1 7 0 ∷ Map 1 0xfffffffffffff000 0xffffffffffffffff 0 3 ∷ [])

last_address : translate last_page 7 0xffffffffffffffff Read ≡ At 0xfff
unfolding last_page committed device_of device_with plain_endpoint status commit look
last_address = refl

last_address_unmapped : translate (commit last_page (Unmap 1 0 0xffffffffffffffff)) 7 0xffffffffffffffff Read ≡ Fault 2
unfolding last_page committed device_of device_with plain_endpoint status commit look
last_address_unmapped = refl

-- a page that is mapped for reading only, and an address in no mapping
read_only : Dev
read_only = committed (device_of 4096 (plain_endpoint 7 ∷ [])) (Attach 1 7 0 ∷ Map 1 0x1000 0x1fff 0 1 ∷ [])

read_only_read : translate read_only 7 0x1004 Read ≡ At 4
unfolding read_only committed device_of device_with plain_endpoint status commit look
read_only_read = refl

read_only_write : translate read_only 7 0x1004 Write ≡ Fault 2
unfolding read_only committed device_of device_with plain_endpoint status commit look
read_only_write = refl

-- in no domain: fault 1, or with bypass the address itself, which may lie outside the memory
no_domain : translate (device_of 4096 (plain_endpoint 7 ∷ [])) 7 0 Read ≡ Fault 1
unfolding device_of device_with plain_endpoint look
no_domain = refl

in_bypass : translate (with_bypass (device_of 4096 (plain_endpoint 7 ∷ [])) true) 7 0x10 Write ≡ At 0x10
unfolding device_of device_with plain_endpoint look
in_bypass = refl

beyond_memory : translate (with_bypass (device_of 4096 (plain_endpoint 7 ∷ [])) true) 7 0x1000 Write ≡ Fault 0
unfolding device_of device_with plain_endpoint look
beyond_memory = refl

-- bytes of an unknown type, a request of the wrong size, and a writable part that is too short
unknown_type : reading (9 ∷ 0 ∷ 0 ∷ 0 ∷ []) 4 ≡ Silent
unfolding reading
unknown_type = refl

wrong_size : reading (1 ∷ 0 ∷ 0 ∷ 0 ∷ 1 ∷ 0 ∷ 0 ∷ 0 ∷ 7 ∷ 0 ∷ 0 ∷ 0 ∷ 0 ∷ 0 ∷ 0 ∷ 0 ∷ 0 ∷ 0 ∷ 0 ∷ []) 4 ≡ Malformed false
unfolding reading
wrong_size = refl

no_room_for_status : reading (1 ∷ 0 ∷ 0 ∷ 0 ∷ 1 ∷ 0 ∷ 0 ∷ 0 ∷ 7 ∷ 0 ∷ 0 ∷ 0 ∷ 0 ∷ 0 ∷ 0 ∷ 0 ∷ 0 ∷ 0 ∷ 0 ∷ 0 ∷ []) 3 ≡ Silent
unfolding reading
no_room_for_status = refl

spelled : reading (request_bytes (Map 1 0x1000 0x1fff 0x2000 3)) 4 ≡ Asks (Map 1 0x1000 0x1fff 0x2000 3)
unfolding reading request_bytes
spelled = refl

-- the replies to calls, one after another
replies : One → List Call → List Answer
replies one [] = []
replies one (c ∷ cs) = reply one c ∷ replies (next one c) cs

-- a device over a memory of one short page
short_memory : Dev → One
short_memory dev = record { dev = dev; memory = (0 ∷ 0 ∷ 0 ∷ 0 ∷ []) ∷ [] }

at : ℕ → ℕ → Part
at iova len = record { iova = iova; len = len }

-- bypass set and not: fault 1, set, wrote, read, and outside the memory fault 0
bypass_and_back : replies (short_memory (device_of 4096 (plain_endpoint 7 ∷ [])))
    (call.Read 7 (at 0 1) ∷ call.Bypass true ∷ call.Write 7 (at 0 1) (255 ∷ []) ∷ call.Read 7 (at 0 1) ∷ call.Write 7 (at 0x1000 1) (238 ∷ [])
    ∷ call.Bypass false ∷ call.Read 7 (at 0 1) ∷ [])
    ≡ fault_answer 1 ∷ set_answer ∷ wrote_answer ∷ read_answer (255 ∷ []) ∷ fault_answer 0 ∷ set_answer ∷ fault_answer 1 ∷ []
unfolding replies short_memory at device_of device_with plain_endpoint reply next look
bypass_and_back = refl

-- requests as raw bytes: an unknown type, 19 bytes of an ATTACH, and no room for the status
raw_requests : replies (short_memory (device_of 4096 (plain_endpoint 7 ∷ [])))
    (call.Raw (9 ∷ 0 ∷ 0 ∷ 0 ∷ []) 4 ∷ call.Raw (1 ∷ 0 ∷ 0 ∷ 0 ∷ 1 ∷ 0 ∷ 0 ∷ 0 ∷ 7 ∷ 0 ∷ 0 ∷ 0 ∷ 0 ∷ 0 ∷ 0 ∷ 0 ∷ 0 ∷ 0 ∷ 0 ∷ []) 4
    ∷ call.Raw (request_bytes (Attach 1 7 0)) 3 ∷ call.Raw (request_bytes (Attach 1 7 0)) 4 ∷ [])
    ≡ nothing_answer ∷ status_answer 4 ∷ nothing_answer ∷ status_answer 0 ∷ []
unfolding replies short_memory device_of device_with plain_endpoint reply next reading request_bytes status commit
raw_requests = refl

-- two pages of one mapping are one run, from either page; a page of another mapping isn't in it
two_mappings : Dev
two_mappings = committed (device_of_memory 4) (Attach 1 7 0 ∷ Map 1 0x1000 0x2fff 0 3 ∷ Map 1 0x3000 0x3fff 0x2000 3 ∷ [])

run_from_first : run two_mappings 7 1 ≡ Some (record { page = 1; count = 2; target = 0; perm = 3 })
unfolding two_mappings device_of_memory device_with committed plain_endpoint status commit look run
run_from_first = refl

run_from_second : run two_mappings 7 2 ≡ Some (record { page = 1; count = 2; target = 0; perm = 3 })
unfolding two_mappings device_of_memory device_with committed plain_endpoint status commit look run
run_from_second = refl

run_alone : run two_mappings 7 3 ≡ Some (record { page = 3; count = 1; target = 2; perm = 3 })
unfolding two_mappings device_of_memory device_with committed plain_endpoint status commit look run
run_alone = refl

no_run : run two_mappings 7 4 ≡ None
unfolding two_mappings device_of_memory device_with committed plain_endpoint status commit look run
no_run = refl

-- a run ends with the 16 pages of its block
run_of_block : run (committed (device_of_memory 64) (Attach 1 7 0 ∷ Map 1 0xe000 0x20fff 0x4000 1 ∷ [])) 7 0x12
    ≡ Some (record { page = 0x10; count = 16; target = 6; perm = 1 })
unfolding device_of_memory device_with committed plain_endpoint status commit look run
run_of_block = refl
