-- What a state keeps true of its device, so that no call needs more room and each access stays within a page.
use Rattle.std.specs.Prelude.{◌≡◌, ℕ, ◌+◌, ◌%◌, ◌/◌, ◌^◌, ◌<◌, ◌≤◌, List, length, map}
use Rattle.std.specs.List.{AllByRecursion}
use Rattle.vi_bytes.specs.declared.lease.Mapping.{Mapping}
use Rattle.vi_bytes.specs.declared.span.TheConstants.{PAGE}
use Rattle.vi_device.specs.Values.{DeviceValue}
use Rattle.vi_history.specs.Device.{Dev, Domain}
use Rattle.vi_history.specs.declared.found.Found.{Found}
use Rattle.vi_history.specs.declared.found.Found.TheVariants.{At, Fault}

-- the mapping's first address and its target begin a page each
abbrev pub IsPaged : Mapping → Type 0
IsPaged m = (m.span.first % PAGE ≡ 0) × (m.target % PAGE ≡ 0)

-- a domain's mappings go by pages, and there is room for so many more
abbrev pub IsRoomy : ℕ → ℕ → Domain → Type 0
IsRoomy maps spare y = (length y.mappings + spare ≤ maps) × AllByRecursion IsPaged y.mappings

-- so do those of all domains
pub record IsKept (maps spare : ℕ) (dev : Dev) : Type 0 where
  pub granule : dev.granule % PAGE ≡ 0
  pub room : spare ≤ maps
  pub domains : AllByRecursion (IsRoomy maps spare) dev.domains

-- the parts of a state belong together
pub record IsState (device : DeviceValue) (names : List ℕ) (size spare : ℕ) : Type 0 where
  pub kept : IsKept device.maps spare device.dev
  pub ids : names ≡ map (λ x. x.id) device.dev.endpoints
  pub few : length names ≤ 16
  pub pages : size ≡ device.dev.pages
  pub fits : size < 2 ^ 32

-- an address leads into the memory, and to the same place of a page
abbrev pub KeepsOffset : ℕ → ℕ → Found → Type 0
KeepsOffset pages address (At target) = (target % PAGE ≡ address % PAGE) × (target / PAGE < pages)
KeepsOffset pages address (Fault reason) = Unit {0}
