-- How the device keeps its domains.
use Rattle.std.specs.Prelude.{◌≡◌, ◌==◌, ℕ, ◌+◌, ◌<◌, false, List, length, map, find, All, Option}
use Rattle.vi_bytes.specs.declared.lease.Mapping.{Mapping}
use Rattle.vi_bytes.specs.declared.span.Span.{Span}
use Rattle.vi_history.specs.Device.{Domain}
use Rattle.vi_history.specs.Statuses.{any_mapping_meets, any_mapping_is_cut}
use Rattle.vi_device.specs.Tables.{TableValue, empty_table}
use Rattle.vi_device.specs.Values.{AreDistinct}
use Rattle.vi_device.specs.declared.held.Held.{Held}

-- a domain that is kept with its table
abbrev pub domain_seen : Held → Domain
domain_seen h = record { id = h.id; bypass = h.bypass; mappings = h.table.mappings }

-- the domains that exist, and the number of mappings that each has room for
pub record DomainsValue : Type 0 where
  pub domains : List Domain
  pub maps : ℕ

-- the domain of this id
abbrev pub domain_in : ℕ → List Domain → Option Domain
domain_in id domains = find (λ y. y.id == id) domains

-- Each of 16 tables is a domain's, or it is unused and empty; no two domains have one id.
pub record AreKept (maps : ℕ) (held : List Held) (unused : List TableValue) : Type 0 where
  pub count : length held + length unused ≡ 16
  pub distinct : AreDistinct (map (λ y. y.id) (map domain_seen held))
  pub tables : All (λ h. h.table.maps ≡ maps) held
  pub empty : All (λ t. t ≡ empty_table maps) unused

-- the domain takes the mapping: it shares no address with another, and one more fits
abbrev pub TakesMapping : ℕ → Mapping → Domain → Type 0
TakesMapping maps m y = (any_mapping_meets m.span y.mappings ≡ false) × (length y.mappings < maps)

-- none of the domain's mappings lies only in part in the span
abbrev pub CutsNone : Span → Domain → Type 0
CutsNone span y = any_mapping_is_cut span y.mappings ≡ false
