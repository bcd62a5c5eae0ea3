-- The state of the one-thread device: its endpoints, its domains and their mappings, and the memory.
use Rattle.std.specs.Prelude.{◌==◌, ℕ, Bool, List, Option, find}
use Rattle.vi_bytes.specs.declared.span.Span.{Span}
use Rattle.vi_bytes.specs.declared.lease.Mapping.{Mapping}
use Rattle.vi_bytes.specs.declared.region.Region.{Region}
use Rattle.vi_bytes.specs.declared.region.Membership.{Membership}
use Rattle.vi_bytes.specs.declared.region.Membership.TheVariants.{Unattached, Member}
use Rattle.std.specs.Prelude.{false}

-- an endpoint: its id, the regions that it keeps to itself, and the domain that it is attached to
pub record Endpoint : Type 0 where
  pub id : ℕ
  pub regions : List Region
  pub domain : Membership

-- a domain: its id, whether its endpoints bypass translation, and its mappings by rising address, no
-- two with a common address
pub record Domain : Type 0 where
  pub id : ℕ
  pub bypass : Bool
  pub mappings : List Mapping

-- Virtio 1.2, 5.13: the device. `pages` is the number of pages of the memory. A domain is in the list
-- exactly while an endpoint is attached to it; the list is in the order in which domains were made.
pub record Dev : Type 0 where
  pub granule : ℕ
  pub input : Span
  pub pages : ℕ
  pub bypass : Bool
  pub endpoints : List Endpoint
  pub domains : List Domain

-- the device with the memory, a list of 4096 bytes for each page
pub record One : Type 0 where
  pub dev : Dev
  pub memory : List (List ℕ)

-- the endpoint of this id, if it was declared
abbrev pub endpoint_of : Dev → ℕ → Option Endpoint
endpoint_of dev id = find (λ x. x.id == id) dev.endpoints

-- the domain of this id, if it exists
abbrev pub domain_of : Dev → ℕ → Option Domain
domain_of dev id = find (λ y. y.id == id) dev.domains

-- the endpoint is attached to this domain
abbrev pub is_in : ℕ → Membership → Bool
is_in domain Unattached = false
is_in domain (Member id) = id == domain
