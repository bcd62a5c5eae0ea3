-- What users see of a device, and what a setup and a request have to be.
use Rattle.std.specs.Prelude.{◌≡◌, ◌==◌, ℕ, ◌-◌, ◌<◌, ◌≤◌, false, List, [], ◌∷◌, ◌++◌, length, map, replicate, get_or, All, Option, Some, None}
use Rattle.std.specs.List.{list_any}
use Rattle.vi_bytes.specs.Spans.{IsProper}
use Rattle.vi_bytes.specs.declared.region.Membership.{Membership}
use Rattle.vi_bytes.specs.declared.region.Membership.TheVariants.{Unattached}
use Rattle.vi_bytes.specs.declared.region.Region.{Region}
use Rattle.vi_history.specs.Device.{Dev, Domain, domain_of}
use Rattle.vi_history.specs.declared.request.Request.{Request}
use Rattle.vi_history.specs.declared.request.Request.TheVariants.{Attach, Detach, Map, Unmap, Probe}
use Rattle.vi_history.specs.declared.setup.Setup.{Setup}

-- the device's state, and the number of mappings that each of 16 domains has room for
pub record DeviceValue : Type 0 where
  pub dev : Dev
  pub maps : ℕ

-- how many more mappings fit in each of the 16 domains: first those that exist, in their order, then those
-- that can still be made
abbrev pub rooms : DeviceValue → List ℕ
rooms v = map (λ y. v.maps - length y.mappings) v.dev.domains ++ replicate (16 - length v.dev.domains) v.maps

-- the id of the endpoint at this place from 0, as they were declared
abbrev pub id_at : Dev → ℕ → ℕ
id_at dev place = get_or (map (λ x. x.id) dev.endpoints) place 0

-- the domain that the endpoint at this place is in
abbrev pub membership_at : Dev → ℕ → Membership
membership_at dev place = get_or (map (λ x. x.domain) dev.endpoints) place Unattached

-- the domain exists, and this holds of it
abbrev pub ExistsWith : (Domain → Type 0) → Option Domain → Type 0
ExistsWith P None = ⊥
ExistsWith P (Some y) = P y

-- no two of the ids are alike
abbrev pub AreDistinct : List ℕ → Type 0
AreDistinct [] = Unit {0}
AreDistinct (id ∷ ids) = (list_any (λ x. x == id) ids ≡ false) × AreDistinct ids

-- an endpoint has at most 16 regions, and each has an address
pub record AreRegions (regions : List Region) : Type 0 where
  pub few : length regions ≤ 16
  pub proper : All (λ r. IsProper r.span) regions

-- a setup of at most 16 endpoints, no two with one id
pub record IsSetup (s : Setup) : Type 0 where
  pub few : length s.endpoints ≤ 16
  pub distinct : AreDistinct (map (λ e. e.id) s.endpoints)
  pub regions : All (λ e. AreRegions e.regions) s.endpoints

-- one more mapping fits in the domain, if it exists
abbrev pub RoomIn : ℕ → Option Domain → Type 0
RoomIn maps None = Unit {0}
RoomIn maps (Some y) = length y.mappings < maps

-- a MAP needs room in its domain
abbrev pub HasRoom : DeviceValue → Request → Type 0
HasRoom v (Attach domain endpoint flags) = Unit {0}
HasRoom v (Detach domain endpoint) = Unit {0}
HasRoom v (Map domain first last target flags) = RoomIn v.maps (domain_of v.dev domain)
HasRoom v (Unmap domain first last) = Unit {0}
HasRoom v (Probe endpoint) = Unit {0}
