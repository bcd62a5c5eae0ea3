-- What is so of every state of the device that requests lead to: regions and mappings are whole pages, the mappings of
-- a domain have no common address, and domains have different ids.
use Rattle.std.specs.Prelude.{◌≡◌, ◌⊎◌, ◌==◌, ◌+◌, true, List, [], ◌∷◌, None, find}
use Rattle.std.specs.List.{AllByRecursion}
use Rattle.vi_bytes.specs.Mappings.{AreApart}
use Rattle.vi_bytes.specs.declared.span.TheConstants.{PAGE}
use Rattle.vi_bytes.specs.declared.lease.Mapping.{Mapping}
use Rattle.vi_bytes.specs.declared.region.Region.{Region}
use Rattle.vi_history.specs.Device.{Dev, Endpoint, Domain}
use Rattle.vi_history.specs.Statuses.{are_multiples}

-- the region begins and ends with a page
abbrev pub IsWholeRegion : Region → Type 0
IsWholeRegion r = are_multiples PAGE r.span.first (r.span.last + 1) 0 ≡ true

-- so does the mapping, and its target begins with one
abbrev pub IsWholeMapping : Mapping → Type 0
IsWholeMapping m = are_multiples PAGE m.span.first (m.span.last + 1) m.target ≡ true

abbrev pub IsWholeEndpoint : Endpoint → Type 0
IsWholeEndpoint x = AllByRecursion IsWholeRegion x.regions

abbrev pub IsWholeDomain : Domain → Type 0
IsWholeDomain y = AllByRecursion IsWholeMapping y.mappings × AreApart y.mappings

-- no two domains have one id
abbrev pub HaveOwnIds : List Domain → Type 0
HaveOwnIds [] = Unit {0}
HaveOwnIds (y ∷ ys) = (find (λ z. z.id == y.id) ys ≡ None) × HaveOwnIds ys

pub record IsWholeDev (dev : Dev) : Type 0 where
  pub granule : (dev.granule ≡ 4096) ⊎ ((dev.granule ≡ 16384) ⊎ (dev.granule ≡ 65536))
  pub endpoints : AllByRecursion IsWholeEndpoint dev.endpoints
  pub domains : AllByRecursion IsWholeDomain dev.domains
  pub ids : HaveOwnIds dev.domains
