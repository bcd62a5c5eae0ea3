-- Leases as sets of pages.
use Rattle.std.specs.Prelude.{◌≡◌, ℕ, ◌+◌, ◌-◌, ◌*◌, ◌/◌, ◌≤◌, ◌<◌, Bool, ◌&&◌, nat_le, nat_lt}
use Rattle.vi_bytes.specs.Spans.{Meets, meets, page_span}
use Rattle.vi_bytes.specs.declared.span.Span.{Span}
use Rattle.vi_bytes.specs.declared.span.TheConstants.{PAGE}
use Rattle.vi_bytes.specs.declared.lease.Lease.{Lease}

-- a lease has 1 to 16 pages, all with the same number divided by 16
pub record IsLease (l : Lease) : Type 0 where
  pub some : 1 ≤ l.count
  pub most : l.count ≤ 16
  pub one_block : l.page / 16 ≡ (l.page + l.count - 1) / 16

-- the page is one of the lease's
abbrev pub HasPage : Lease → ℕ → Type 0
HasPage l page = (l.page ≤ page) × (page < l.page + l.count)

-- a page is in both
abbrev pub SharePage : Lease → Lease → Type 0
SharePage l k = (page : ℕ) × HasPage l page × HasPage k page

-- a page of the lease has an address of the span
abbrev pub ReachesInto : Lease → Span → Type 0
ReachesInto l span = (page : ℕ) × HasPage l page × Meets (page_span page) span

-- the tests of these three, as definitions that compute
abbrev pub has_page : Lease → ℕ → Bool
has_page l page = nat_le l.page page && nat_lt page (l.page + l.count)

abbrev pub share_page : Lease → Lease → Bool
share_page l k = nat_lt l.page (k.page + k.count) && nat_lt k.page (l.page + l.count)

-- the addresses of all the lease's pages
abbrev pub lease_span : Lease → Span
lease_span l = record { first = PAGE * l.page; last = PAGE * (l.page + l.count - 1) + 4095 }

abbrev pub reaches_into : Lease → Span → Bool
reaches_into l span = meets (lease_span l) span
