-- The leases that a back end caches, the one used last first.
use Rattle.std.specs.Prelude.{ℕ, not, List, ◌∷◌, take, Option, filter, find}
use Rattle.vi_bytes.specs.Leases.{has_page, share_page}
use Rattle.vi_bytes.specs.declared.span.Span.{Span}
use Rattle.vi_bytes.specs.declared.lease.Lease.{Lease}
use Rattle.vi_model.specs.Grants.{touches}

-- the cached lease that has the page
abbrev pub cached_at : ℕ → List Lease → Option Lease
cached_at page cache = find (λ l. has_page l page) cache

-- the cached leases that share no page with this one
abbrev pub apart : Lease → List Lease → List Lease
apart lease cache = filter (λ l. not (share_page lease l)) cache

-- the cached leases of which no page has an address of the reach
abbrev pub untouched : Option Span → List Lease → List Lease
untouched reach cache = filter (λ l. not (touches reach l)) cache

-- a cache of this capacity after an Update
abbrev pub put : ℕ → Lease → List Lease → List Lease
put capacity lease cache = take capacity (lease ∷ apart lease cache)

-- the leases that don't have the page
abbrev pub without_page : ℕ → List Lease → List Lease
without_page page cache = filter (λ l. not (has_page l page)) cache

-- the cache after an access by this lease, which has the page
abbrev pub fronted : Lease → ℕ → List Lease → List Lease
fronted lease page cache = lease ∷ without_page page cache
