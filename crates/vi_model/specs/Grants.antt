-- The leases that a back end was granted, each under the page that it asked for.
use Rattle.std.specs.Prelude.{◌==◌, ℕ, ◌+◌, ◌-◌, Bool, not, if◌then◌else◌, List, [], ◌∷◌, ◌++◌, Option, Some, None, filter}
use Rattle.std.specs.List.{list_any, range_with_len}
use Rattle.vi_bytes.specs.declared.span.Span.{Span}
use Rattle.vi_bytes.specs.declared.lease.Lease.{Lease}
use Rattle.vi_grants.specs.declared.row.Grant.{Grant}
use Rattle.vi_model.specs.Tasks.{reaches}

-- the lease of one page of a lease
abbrev pub piece : Lease → ℕ → Lease
piece l page = record { page = page; count = 1; target = l.target + (page - l.page); perm = l.perm }

-- a page of the lease passes the test
abbrev pub some_page : (ℕ → Bool) → Lease → Bool
some_page test l = list_any test (range_with_len l.page l.count)

-- a page of the lease has an address of the reach
abbrev pub touches : Option Span → Lease → Bool
touches reach l = some_page (reaches reach) l

-- the lease that is granted under this page
abbrev pub lease_under : ℕ → List Grant → Option Lease
lease_under page [] = None
lease_under page (g ∷ gs) = if g.asked == page then Some g.lease else lease_under page gs

-- the grants that the reach leaves
abbrev pub spared : Option Span → List Grant → List Grant
spared reach grants = filter (λ g. not (touches reach g.lease)) grants

-- the grants under other pages
abbrev pub others : ℕ → List Grant → List Grant
others page grants = filter (λ g. not (g.asked == page)) grants

-- the grants with one more, in the place of one under the same page
abbrev pub granted : ℕ → Lease → List Grant → List Grant
granted page l grants = others page grants ++ (record { asked = page; lease = l }) ∷ []
