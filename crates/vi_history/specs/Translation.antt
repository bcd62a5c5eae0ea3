-- Where an address of an endpoint leads (Virtio 1.2, 5.13.2 and 5.13.6.9).
use Rattle.std.specs.Prelude.{◌==◌, ℕ, ◌+◌, ◌-◌, ◌*◌, ◌/◌, ◌%◌, Bool, not, ◌&&◌, nat_lt, if◌then◌else◌, List, Option, Some, None, find}
use Rattle.std.specs.List.{list_any}
use Rattle.vi_bytes.specs.Spans.{has}
use Rattle.vi_bytes.specs.declared.span.TheConstants.{PAGE}
use Rattle.vi_bytes.specs.declared.lease.Mapping.{Mapping}
use Rattle.vi_bytes.specs.declared.lease.Lease.{Lease}
use Rattle.vi_bytes.specs.declared.lease.Need.{Need}
use Rattle.vi_bytes.specs.declared.lease.Need.TheVariants.{Read, Write}
use Rattle.vi_bytes.specs.declared.region.Region.{Region}
use Rattle.vi_bytes.specs.declared.region.Membership.{Membership}
use Rattle.vi_bytes.specs.declared.region.Membership.TheVariants.{Unattached, Member}
use Rattle.vi_history.specs.Device.{Dev, Endpoint, Domain, endpoint_of, domain_of}
use Rattle.vi_history.specs.declared.reason.TheConstants.{UNKNOWN, DOMAIN, MAPPING}
use Rattle.vi_history.specs.declared.found.Found.{Found}
use Rattle.vi_history.specs.declared.found.Found.TheVariants.{At, Fault}

-- flag bit 0 permits reading, bit 1 writing
abbrev pub permits : Need → ℕ → Bool
permits Read flags = flags % 2 == 1
permits Write flags = flags / 2 % 2 == 1

-- what an address is found to be, the need aside: it leads to a target that these flags permit, or its
-- fault has this reason
pub data Look : Type 0 where
  Leads : (target flags : ℕ) → Look
  Nowhere : (reason : ℕ) → Look

-- a translation that permits both needs and changes nothing
abbrev pub bypassed : ℕ → Look
bypassed address = Leads address 3

-- by the mapping that has the address, if one does
abbrev pub look_in_mapping : ℕ → Option Mapping → Look
look_in_mapping address None = Nowhere MAPPING
look_in_mapping address (Some m) = Leads (m.target + (address - m.span.first)) m.flags

-- in a domain: a bypass domain; an address in a region of the endpoint; else by the domain's mappings
abbrev pub look_in_domain : ℕ → List Region → Option Domain → Look
look_in_domain address regions None = Nowhere DOMAIN
look_in_domain address regions (Some y) =
    if y.bypass then bypassed address else (
    if list_any (λ r. has r.span address) regions then Nowhere MAPPING else
    look_in_mapping address (find (λ m. has m.span address) y.mappings))

-- for an endpoint in no domain by the bypass field, else in its domain
abbrev pub look_by : Dev → ℕ → List Region → Membership → Look
look_by dev address regions Unattached = if dev.bypass then bypassed address else Nowhere DOMAIN
look_by dev address regions (Member domain) = look_in_domain address regions (domain_of dev domain)

-- for an endpoint; every access names one that was declared
abbrev pub look_of : Dev → ℕ → Option Endpoint → Look
look_of dev address None = Nowhere DOMAIN
look_of dev address (Some x) = look_by dev address x.regions x.domain

-- what the address is found to be for the endpoint of this id
unfoldable pub look : Dev → ℕ → ℕ → Look
look dev endpoint address = look_of dev address (endpoint_of dev endpoint)

-- the address lies in one of the memory's pages
abbrev pub is_in_memory : ℕ → ℕ → Bool
is_in_memory pages address = nat_lt (address / PAGE) pages

-- for a need: it isn't permitted, MAPPING; the target is outside the memory, UNKNOWN
abbrev pub found_for : ℕ → Need → Look → Found
found_for pages need (Leads target flags) =
    if not (permits need flags) then Fault MAPPING else (
    if not (is_in_memory pages target) then Fault UNKNOWN else At target)
found_for pages need (Nowhere reason) = Fault reason

-- the translation of an address for an endpoint and a need
abbrev pub translate : Dev → ℕ → ℕ → Need → Found
translate dev endpoint address need = found_for dev.pages need (look dev endpoint address)

-- the lease of one page that a look at its first address gives: none where both needs fault
abbrev pub lease_for : ℕ → ℕ → Look → Option Lease
lease_for pages page (Leads target flags) =
    if is_in_memory pages target && not (flags % 4 == 0) then Some (record { page = page; count = 1; target = target / PAGE; perm = flags }) else None
lease_for pages page (Nowhere reason) = None

-- the lease of one page of an endpoint: its target page and the permitted needs
abbrev pub lease : Dev → ℕ → ℕ → Option Lease
lease dev endpoint page = lease_for dev.pages page (look dev endpoint (PAGE * page))
