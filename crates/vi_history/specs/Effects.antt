-- What a request with status OK makes of the device (Virtio 1.2, 5.13.6.3 to 5.13.6.7).
use Rattle.std.specs.Prelude.{◌==◌, ℕ, Bool, false, if◌then◌else◌, List, [], ◌∷◌, ◌++◌, Option, Some, None, map, filter}
use Rattle.std.specs.List.{list_any}
use Rattle.vi_bytes.specs.Mappings.{with_mapping, without_span}
use Rattle.vi_bytes.specs.declared.lease.Mapping.{Mapping}
use Rattle.vi_bytes.specs.declared.region.Membership.{Membership}
use Rattle.vi_bytes.specs.declared.region.Membership.TheVariants.{Unattached, Member}
use Rattle.vi_history.specs.Device.{Dev, Endpoint, Domain, endpoint_of, domain_of, is_in}
use Rattle.vi_history.specs.Statuses.{status}
use Rattle.vi_history.specs.declared.status.TheConstants.{OK}
use Rattle.vi_history.specs.declared.request.Request.{Request}
use Rattle.vi_history.specs.declared.request.Request.TheVariants.{Attach, Detach, Map, Unmap, Probe}

-- an endpoint, in this domain or in none if it has this id
abbrev pub moved_if : ℕ → Membership → Endpoint → Endpoint
moved_if id membership x = if x.id == id then record x { domain = membership } else x

-- the endpoints, with the one of this id in this domain or in none
abbrev pub moved : ℕ → Membership → List Endpoint → List Endpoint
moved id membership endpoints = map (moved_if id membership) endpoints

-- some endpoint is attached to the domain
abbrev pub is_inhabited : List Endpoint → ℕ → Bool
is_inhabited endpoints domain = list_any (λ x. is_in domain x.domain) endpoints

-- the domains to which an endpoint is attached: the others have ceased to exist
abbrev pub inhabited : List Endpoint → List Domain → List Domain
inhabited endpoints domains = filter (λ y. is_inhabited endpoints y.id) domains

-- the domains with this one, which is made without mappings where it doesn't exist
abbrev pub with_domain : ℕ → Bool → List Domain → Option Domain → List Domain
with_domain id bypass domains None = domains ++ record { id = id; bypass = bypass; mappings = [] } ∷ []
with_domain id bypass domains (Some y) = domains

-- a domain, its mappings changed so if it has this id
abbrev pub changed_if : ℕ → (List Mapping → List Mapping) → Domain → Domain
changed_if id change y = if y.id == id then record y { mappings = change y.mappings } else y

-- the domains, with the mappings of the one of this id changed so
abbrev pub with_mappings : ℕ → (List Mapping → List Mapping) → List Domain → List Domain
with_mappings id change domains = map (changed_if id change) domains

-- whether the endpoint of this id is attached to the domain
abbrev pub endpoint_is_in : ℕ → Option Endpoint → Bool
endpoint_is_in domain None = false
endpoint_is_in domain (Some x) = is_in domain x.domain

-- ATTACH: the endpoint leaves its domain and joins this one
abbrev pub attached : Dev → ℕ → Bool → ℕ → Dev
attached dev domain bypass endpoint =
    record dev {
      endpoints = moved endpoint (Member domain) dev.endpoints;
      domains = inhabited (moved endpoint (Member domain) dev.endpoints) (with_domain domain bypass dev.domains (domain_of dev domain));
    }

-- DETACH: the endpoint leaves its domain
abbrev pub detached : Dev → ℕ → Dev
detached dev endpoint =
    record dev {
      endpoints = moved endpoint Unattached dev.endpoints;
      domains = inhabited (moved endpoint Unattached dev.endpoints) dev.domains;
    }

-- the effect of a request whose status is OK; an ATTACH to the domain that the endpoint is in has none
abbrev pub effect : Dev → Request → Dev
effect dev (Attach domain endpoint flags) =
    if endpoint_is_in domain (endpoint_of dev endpoint) then dev else attached dev domain (flags == 1) endpoint
effect dev (Detach domain endpoint) = detached dev endpoint
effect dev (Map domain first last target flags) =
    record dev { domains = with_mappings domain (with_mapping (record { span = record { first = first; last = last }; target = target; flags = flags })) dev.domains }
effect dev (Unmap domain first last) =
    record dev { domains = with_mappings domain (without_span (record { first = first; last = last })) dev.domains }
effect dev (Probe endpoint) = dev

-- the device after a request: a refused one changes nothing
unfoldable pub commit : Dev → Request → Dev
commit dev request = if status dev request == OK then effect dev request else dev

-- the device after the bypass field was set (Virtio 1.2, 5.13.4)
abbrev pub with_bypass : Dev → Bool → Dev
with_bypass dev on = record dev { bypass = on }
