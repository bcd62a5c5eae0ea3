-- How the device keeps its endpoints.
use Rattle.std.specs.Prelude.{◌≡◌, ◌==◌, ℕ, ◌≤◌, if◌then◌else◌, List, [], length, map, get_or, All}
use Rattle.std.specs.List.{zip}
use Rattle.vi_bytes.specs.declared.region.Membership.{Membership}
use Rattle.vi_bytes.specs.declared.region.Membership.TheVariants.{Unattached}
use Rattle.vi_bytes.specs.declared.region.EndpointSetup.{EndpointSetup}
use Rattle.vi_bytes.specs.declared.region.Region.{Region}
use Rattle.vi_history.specs.Device.{Endpoint}
use Rattle.vi_device.specs.Values.{AreDistinct, AreRegions}
use Rattle.vi_device.specs.declared.seat.Seat.{Seat}

-- an endpoint, from its seat and its regions
abbrev pub endpoint_seen : Seat × List Region → Endpoint
endpoint_seen x = record { id = x.0.id; regions = x.1; domain = x.0.domain }

-- the endpoints, each from its seat and the regions at its place
abbrev pub endpoints_seen : List Seat → List (List Region) → List Endpoint
endpoints_seen seats reserved = map endpoint_seen (zip seats reserved)

-- at most 16 endpoints, no two with one id, each with its regions
pub record AreSeated (seats : List Seat) (reserved : List (List Region)) : Type 0 where
  pub few : length seats ≤ 16
  pub distinct : AreDistinct (map (λ s. s.id) seats)
  pub each : length reserved ≡ length seats
  pub regions : All AreRegions reserved

-- an endpoint with no regions and in no domain, which stands where none was declared
abbrev pub nobody : Endpoint
nobody = record { id = 0; regions = []; domain = Unattached }

-- the endpoint at this place from 0
abbrev pub endpoint_at : List Endpoint → ℕ → Endpoint
endpoint_at endpoints place = get_or endpoints place nobody

-- a seat, in this domain or in none if it has this id
abbrev pub seat_moved_if : ℕ → Membership → Seat → Seat
seat_moved_if id membership s = if s.id == id then record s { domain = membership } else s

-- the seat of a declared endpoint, in no domain at first
abbrev pub unattached_seat : EndpointSetup → Seat
unattached_seat e = record { id = e.id; domain = Unattached }
