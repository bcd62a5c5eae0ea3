-- What a plain device keeps true of its domains and mappings, and so of where an address leads.
use Rattle.std.specs.Prelude.{◌≡◌, ℕ, ◌+◌, ◌-◌, ◌/◌, ◌%◌, ◌^◌, ◌<◌, ◌≢◌, List, AllPairs}
use Rattle.vi_bytes.specs.declared.lease.Mapping.{Mapping}
use Rattle.vi_bytes.specs.declared.span.TheConstants.{PAGE}
use Rattle.vi_history.specs.Device.{Domain}
use Rattle.vi_history.specs.declared.found.Found.{Found}
use Rattle.vi_history.specs.declared.found.Found.TheVariants.{At, Fault}

-- the targets of a mapping are below 2^64, and its first address and its target begin a page each
pub record IsSound (m : Mapping) : Type 0 where
  pub fits : m.target + (m.span.last - m.span.first) < 2 ^ 64
  pub first : m.span.first % PAGE ≡ 0
  pub target : m.target % PAGE ≡ 0

-- a granule is whole pages
pub record IsGranule (granule : ℕ) : Type 0 where
  pub some : 0 < granule
  pub pages : granule % PAGE ≡ 0

-- no two of the domains have the same id
abbrev pub HaveOwnIds : List Domain → Type 0
HaveOwnIds domains = AllPairs (λ y z. y.id ≢ z.id) domains

-- an address leads into the memory, and to the same place of a page
abbrev pub KeepsOffset : ℕ → ℕ → Found → Type 0
KeepsOffset pages address (At target) = (target % PAGE ≡ address % PAGE) × (target / PAGE < pages)
KeepsOffset pages address (Fault reason) = Unit {0}
