-- The leases that a back end caches, most recent first.
use Rattle.std.specs.Prelude.{◌≡◌, ℕ, ◌≤◌, false, not, List, [], ◌∷◌, length, take, All, Option, Some, None, filter, find, slice_get}
use Rattle.vi_bytes.specs.Leases.{IsLease, has_page, share_page, reaches_into}
use Rattle.vi_bytes.specs.declared.lease.Lease.{Lease}
use Rattle.vi_bytes.specs.declared.span.Span.{Span}

-- the leases, and how many there can be
pub record CachedLeases : Type 0 where
  pub leases : List Lease
  pub capacity : ℕ

-- the lease has a page in common with none of these
abbrev pub IsSeparate : Lease → List Lease → Type 0
IsSeparate l [] = Unit {0}
IsSeparate l (k ∷ ks) = (share_page l k ≡ false) × IsSeparate l ks

-- no two of the leases have a common page
abbrev pub AreSeparate : List Lease → Type 0
AreSeparate [] = Unit {0}
AreSeparate (l ∷ ls) = IsSeparate l ls × AreSeparate ls

-- what is so of every cache
pub record IsCache (c : CachedLeases) : Type 0 where
  pub leases_each : All IsLease c.leases
  pub separate : AreSeparate c.leases
  pub within_capacity : length c.leases ≤ c.capacity
  pub some : 1 ≤ c.capacity
  pub most : c.capacity ≤ 64

-- the lease that has the page
abbrev pub cached_at : ℕ → List Lease → Option Lease
cached_at page leases = find (λ l. has_page l page) leases

-- the leases that don't have the page
abbrev pub without_page : ℕ → List Lease → List Lease
without_page page leases = filter (λ l. not (has_page l page)) leases

-- the list after a look for the page: the lease that has it, if there is one, stands in front of the others
abbrev pub fronted : Option Lease → ℕ → List Lease → List Lease
fronted None page leases = leases
fronted (Some l) page leases = l ∷ without_page page leases

abbrev pub looked : ℕ → List Lease → List Lease
looked page leases = fronted (cached_at page leases) page leases

-- the leases that have no page in common with the lease
abbrev pub apart : Lease → List Lease → List Lease
apart lease leases = filter (λ l. not (share_page lease l)) leases

-- the list after the lease was put: it stands in front of these, as far as there is room
abbrev pub put : ℕ → Lease → List Lease → List Lease
put capacity lease leases = take capacity (lease ∷ apart lease leases)

-- the one for which there is no room
abbrev pub evicted : ℕ → Lease → List Lease → Option Lease
evicted capacity lease leases = slice_get (lease ∷ apart lease leases) capacity

-- the leases of which no page has an address of the span
abbrev pub untouched : Span → List Lease → List Lease
untouched span leases = filter (λ l. not (reaches_into l span)) leases
