-- The lease that is granted: of the run of a page, the pages up to the first one that an open removal closes.
use Rattle.std.specs.Prelude.{ℕ, Bool, not, List, Option, Some, None, filter}
use Rattle.std.specs.List.{list_all, range_with_len}
use Rattle.vi_bytes.specs.declared.lease.Lease.{Lease}
use Rattle.vi_history.specs.Device.{Dev}
use Rattle.vi_history.specs.Runs.{pages_between, lease_over}
use Rattle.vi_model.specs.Grants.{piece}
use Rattle.vi_model.specs.Removals.{Removal, closed}

-- the pages of the lease such that no page from this one to them is shut
abbrev pub open_around : (ℕ → Bool) → ℕ → Lease → List ℕ
open_around shut page l = filter (λ q. list_all (λ p. not (shut p)) (pages_between page q)) (range_with_len l.page l.count)

-- the lease of these pages of the run
unfoldable pub cut : (ℕ → Bool) → ℕ → Lease → Option Lease
cut shut page l = lease_over page (open_around shut page l) (piece l page)

-- the lease to grant to the back end at this place
abbrev pub open_run : Dev → ℕ → ℕ → List Removal → ℕ → Option Lease → Option Lease
open_run dev endpoint place removals page None = None
open_run dev endpoint place removals page (Some run) = cut (λ q. closed dev endpoint place q removals) page run
