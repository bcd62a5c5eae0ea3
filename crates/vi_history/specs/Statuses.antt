-- The status of a request, by the rules that are tried in order (Virtio 1.2, 5.13.6.3 to 5.13.6.7).
use Rattle.std.specs.Prelude.{◌==◌, ℕ, ◌+◌, ◌-◌, ◌%◌, ◌^◌, Bool, true, false, not, ◌&&◌, nat_lt, nat_le, if◌then◌else◌, List, Option, Some, None}
use Rattle.std.specs.List.{list_any}
use Rattle.vi_bytes.specs.Spans.{meets, covers}
use Rattle.vi_bytes.specs.Mappings.{is_cut}
use Rattle.vi_bytes.specs.declared.span.Span.{Span}
use Rattle.vi_bytes.specs.declared.lease.Mapping.{Mapping}
use Rattle.vi_bytes.specs.declared.region.Region.{Region}
use Rattle.vi_history.specs.Device.{Dev, Endpoint, Domain, endpoint_of, domain_of, is_in}
use Rattle.vi_history.specs.declared.status.TheConstants.{OK, INVAL, RANGE, NOENT}
use Rattle.vi_history.specs.declared.request.Request.{Request}
use Rattle.vi_history.specs.declared.request.Request.TheVariants.{Attach, Detach, Map, Unmap, Probe}

-- whether two flags are alike
abbrev pub same : Bool → Bool → Bool
same true b = b
same false b = not b

-- one of the mappings shares an address with the span
abbrev pub any_mapping_meets : Span → List Mapping → Bool
any_mapping_meets span mappings = list_any (λ m. meets m.span span) mappings

-- one of the regions shares an address with the span
abbrev pub any_region_meets : Span → List Region → Bool
any_region_meets span regions = list_any (λ r. meets r.span span) regions

-- one of the mappings shares an address with one of the regions
abbrev pub any_mapping_meets_region : List Region → List Mapping → Bool
any_mapping_meets_region regions mappings = list_any (λ m. any_region_meets m.span regions) mappings

-- a mapping shares an address with the span and doesn't lie wholly in it
abbrev pub any_mapping_is_cut : Span → List Mapping → Bool
any_mapping_is_cut span mappings = list_any (is_cut span) mappings

-- a region of an endpoint of the domain shares an address with the span
abbrev pub region_meets_in : Dev → ℕ → Span → Bool
region_meets_in dev domain span = list_any (λ x. is_in domain x.domain && any_region_meets span x.regions) dev.endpoints

-- the numbers are multiples of the granule
abbrev pub are_multiples : ℕ → ℕ → ℕ → ℕ → Bool
are_multiples granule first behind target = (first % granule == 0) && (behind % granule == 0) && (target % granule == 0)

-- ATTACH to a domain that exists: the bypass flag differs, INVAL; the endpoint is in it already, OK; a
-- mapping meets a region of the endpoint, INVAL
abbrev pub attach_to : ℕ → Bool → Endpoint → Option Domain → ℕ
attach_to domain bypass x None = OK
attach_to domain bypass x (Some y) =
    if not (same y.bypass bypass) then INVAL else (
    if is_in domain x.domain then OK else (
    if any_mapping_meets_region x.regions y.mappings then INVAL else OK))

-- ATTACH of an endpoint: an unknown one, NOENT
abbrev pub attach_of : Dev → ℕ → Bool → Option Endpoint → ℕ
attach_of dev domain bypass None = NOENT
attach_of dev domain bypass (Some x) = attach_to domain bypass x (domain_of dev domain)

-- ATTACH: a flag bit other than BYPASS, INVAL
abbrev pub attach_status : Dev → ℕ → ℕ → ℕ → ℕ
attach_status dev domain endpoint flags =
    if nat_lt flags 2 then attach_of dev domain (flags == 1) (endpoint_of dev endpoint) else INVAL

-- DETACH: an unknown endpoint, NOENT; it isn't in this domain, INVAL
abbrev pub detach_status : ℕ → Option Endpoint → ℕ
detach_status domain None = NOENT
detach_status domain (Some x) = if is_in domain x.domain then OK else INVAL

-- MAP into a domain: it doesn't exist, NOENT; it is a bypass domain, INVAL; the last address isn't above
-- the first, INVAL; the range or the target isn't whole granules, RANGE; the range isn't within the input
-- range, RANGE; the target range passes 2^64 - 1, RANGE; the range meets a region of an endpoint of the
-- domain or a mapping, INVAL
abbrev pub map_into : Dev → ℕ → Span → ℕ → Option Domain → ℕ
map_into dev domain span target None = NOENT
map_into dev domain span target (Some y) =
    if y.bypass then INVAL else (
    if nat_le span.last span.first then INVAL else (
    if not (are_multiples dev.granule span.first (span.last + 1) target) then RANGE else (
    if not (covers dev.input span) then RANGE else (
    if nat_le (2 ^ 64) (target + (span.last - span.first)) then RANGE else (
    if region_meets_in dev domain span then INVAL else (
    if any_mapping_meets span y.mappings then INVAL else OK))))))

-- MAP: a flag bit other than READ and WRITE, INVAL
abbrev pub map_status : Dev → ℕ → Span → ℕ → ℕ → ℕ
map_status dev domain span target flags =
    if nat_lt flags 4 then map_into dev domain span target (domain_of dev domain) else INVAL

-- UNMAP: the domain doesn't exist, NOENT; it is a bypass domain, INVAL; the last address is below the
-- first, INVAL; a mapping lies in the range only in part, RANGE
abbrev pub unmap_status : Span → Option Domain → ℕ
unmap_status span None = NOENT
unmap_status span (Some y) =
    if y.bypass then INVAL else (
    if nat_lt span.last span.first then INVAL else (
    if any_mapping_is_cut span y.mappings then RANGE else OK))

-- PROBE: an unknown endpoint, NOENT
abbrev pub probe_status : Option Endpoint → ℕ
probe_status None = NOENT
probe_status (Some x) = OK

-- the status of a request in this state
unfoldable pub status : Dev → Request → ℕ
status dev (Attach domain endpoint flags) = attach_status dev domain endpoint flags
status dev (Detach domain endpoint) = detach_status domain (endpoint_of dev endpoint)
status dev (Map domain first last target flags) = map_status dev domain (record { first = first; last = last }) target flags
status dev (Unmap domain first last) = unmap_status (record { first = first; last = last }) (domain_of dev domain)
status dev (Probe endpoint) = probe_status (endpoint_of dev endpoint)
