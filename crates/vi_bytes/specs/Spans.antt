-- Spans as sets of addresses, and what is whole pages or granules.
use Rattle.std.specs.Prelude.{◌≡◌, ℕ, ◌+◌, ◌*◌, ◌≤◌, Bool, ◌&&◌, nat_le}
use Rattle.vi_bytes.specs.declared.span.Span.{Span}
use Rattle.vi_bytes.specs.declared.span.TheConstants.{PAGE}

-- the last address is not below the first, so the span has an address
abbrev pub IsProper : Span → Type 0
IsProper s = s.first ≤ s.last

-- the address is in the span; both ends are
abbrev pub Has : Span → ℕ → Type 0
Has s address = (s.first ≤ address) × (address ≤ s.last)

-- an address is in both
abbrev pub Meets : Span → Span → Type 0
Meets s t = (address : ℕ) × Has s address × Has t address

-- all addresses of the second are in the first
abbrev pub Covers : Span → Span → Type 0
Covers s t = (address : ℕ) → Has t address → Has s address

-- the tests of these three, for proper spans, as definitions that compute
abbrev pub has : Span → ℕ → Bool
has s address = nat_le s.first address && nat_le address s.last

abbrev pub meets : Span → Span → Bool
meets s t = nat_le s.first t.last && nat_le t.first s.last

abbrev pub covers : Span → Span → Bool
covers s t = nat_le s.first t.first && nat_le t.last s.last

-- the addresses of a page
abbrev pub page_span : ℕ → Span
page_span page = record { first = PAGE * page; last = PAGE * page + 4095 }

-- n is a multiple of the granule, as whole numbers
abbrev pub IsMultiple : ℕ → ℕ → Type 0
IsMultiple granule n = (k : ℕ) × (n ≡ granule * k)

-- the addresses from first to last are whole granules
abbrev pub IsWholeGranules : ℕ → ℕ → ℕ → Type 0
IsWholeGranules first last granule = IsMultiple granule first × IsMultiple granule (last + 1)
