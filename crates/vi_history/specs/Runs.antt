-- Runs of pages: the translations around a page that one lease may hold.
use Rattle.std.specs.Prelude.{◌==◌, ℕ, ◌+◌, ◌-◌, ◌*◌, ◌/◌, min, max, Bool, true, false, ◌&&◌, if◌then◌else◌, List, [], ◌∷◌, length, Option, Some, None, is_some, filter}
use Rattle.std.specs.List.{list_all, range_with_len}
use Rattle.vi_bytes.specs.Mappings.{mapping_at}
use Rattle.vi_bytes.specs.declared.span.TheConstants.{PAGE}
use Rattle.vi_bytes.specs.declared.lease.Lease.{Lease}
use Rattle.vi_bytes.specs.declared.lease.Mapping.{Mapping}
use Rattle.vi_bytes.specs.declared.region.Membership.{Membership}
use Rattle.vi_bytes.specs.declared.region.Membership.TheVariants.{Unattached, Member}
use Rattle.vi_history.specs.Device.{Dev, Endpoint, Domain, endpoint_of, domain_of}
use Rattle.vi_history.specs.Translation.{lease}

-- the mapping of a domain that has the address; a bypass domain has none
abbrev pub mapping_in : ℕ → Option Domain → Option Mapping
mapping_in address None = None
mapping_in address (Some y) = if y.bypass then None else mapping_at address y.mappings

abbrev pub mapping_by : Dev → ℕ → Membership → Option Mapping
mapping_by dev address Unattached = None
mapping_by dev address (Member domain) = mapping_in address (domain_of dev domain)

abbrev pub mapping_of : Dev → ℕ → Option Endpoint → Option Mapping
mapping_of dev address None = None
mapping_of dev address (Some x) = mapping_by dev address x.domain

-- the mapping that has the first address of an endpoint's page; in bypass there is none
abbrev pub mapping_through : Dev → ℕ → ℕ → Option Mapping
mapping_through dev endpoint page = mapping_of dev (PAGE * page) (endpoint_of dev endpoint)

-- two pages are in one mapping, which its first address tells, or both in bypass
abbrev pub same_mapping : Option Mapping → Option Mapping → Bool
same_mapping None None = true
same_mapping None (Some n) = false
same_mapping (Some m) None = false
same_mapping (Some m) (Some n) = m.span.first == n.span.first

-- the page q has a lease, by the mapping or the bypass that the page p goes by
abbrev pub goes_alike : Dev → ℕ → ℕ → ℕ → Bool
goes_alike dev endpoint p q = is_some (lease dev endpoint q) && same_mapping (mapping_through dev endpoint p) (mapping_through dev endpoint q)

-- the pages from p to q, both included, whichever is the lower
abbrev pub pages_between : ℕ → ℕ → List ℕ
pages_between p q = range_with_len (min p q) (max p q - min p q + 1)

-- the 16 pages that have the same number as p, divided by 16
abbrev pub block_of : ℕ → List ℕ
block_of p = range_with_len (p / 16 * 16) 16

-- the pages around p such that each page from p to them passes the test
abbrev pub reached : (ℕ → Bool) → ℕ → List ℕ
reached test p = filter (λ q. list_all test (pages_between p q)) (block_of p)

-- a lease of these pages, which are in order and go as the page p does
abbrev pub lease_over : ℕ → List ℕ → Lease → Option Lease
lease_over p [] l = None
lease_over p (q ∷ qs) l = Some (record { page = q; count = length (q ∷ qs); target = l.target - (p - q); perm = l.perm })

abbrev pub run_of : ℕ → List ℕ → Option Lease → Option Lease
run_of p qs None = None
run_of p qs (Some l) = lease_over p qs l

-- The run of a page that has a lease: the pages of its block that are reached from it by pages that go alike,
-- with the permission of its lease.
unfoldable pub run : Dev → ℕ → ℕ → Option Lease
run dev endpoint page = run_of page (reached (goes_alike dev endpoint page) page) (lease dev endpoint page)
