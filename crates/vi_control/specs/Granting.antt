-- The lease that is granted for a page.
use Rattle.std.specs.Prelude.{◌≡◌, ℕ, ◌+◌, ◌-◌, ◌^◌, ◌<◌, ◌≤◌, Bool, true, false, map, length, Option}
use Rattle.vi_bytes.specs.Leases.{IsLease, HasPage}
use Rattle.vi_bytes.specs.declared.lease.Lease.{Lease}
use Rattle.vi_device.specs.Values.{AreDistinct}
use Rattle.vi_history.specs.Device.{Dev}
use Rattle.vi_history.specs.Runs.{run}
use Rattle.vi_iotlb.specs.Fields.{IsGrant, IsPermission}
use Rattle.vi_model.specs.Cuts.{open_run}
use Rattle.vi_removals.specs.Value.{RemovalsValue, removals_of}
use Rattle.vi_control.specs.Places.{id_in}

-- the endpoints that the removals know by place are those of the device
pub record AreSeated (dev : Dev) (removals : RemovalsValue) : Type 0 where
  pub endpoints : map (λ x. x.id) dev.endpoints ≡ removals.ids
  pub distinct : AreDistinct removals.ids
  pub few : length removals.ids ≤ 16

-- the lease of the run of a page, up to the pages that open removals close
abbrev pub open_run_at : Dev → RemovalsValue → ℕ → ℕ → Option Lease
open_run_at dev removals place page = open_run dev (id_in removals place) place (removals_of removals) page (run dev (id_in removals place) page)

-- from this page up to p all are open, and the one below it is shut, or below the first
pub record IsLowestOpen (shut : ℕ → Bool) (first p low : ℕ) : Type 0 where
  pub up_to : low ≤ p
  pub from : first ≤ low
  pub all : (q : ℕ) → low ≤ q → q < p → shut q ≡ false
  pub ends : first < low → shut (low - 1) ≡ true

-- from p up to this page all are open, and the one above it is shut, or above the last
pub record IsHighestOpen (shut : ℕ → Bool) (p last high : ℕ) : Type 0 where
  pub from : p ≤ high
  pub to : high ≤ last
  pub all : (q : ℕ) → p < q → q ≤ high → shut q ≡ false
  pub ends : high < last → shut (high + 1) ≡ true

-- a lease that an update may carry, and that has the page
pub record IsGrantable (page : ℕ) (l : Lease) : Type 0 where
  pub asked : HasPage l page
  pub lease : IsLease l
  pub ends : l.page + l.count ≤ 2 ^ 52
  pub grant : IsGrant l.page l.count l.target
  pub permission : IsPermission l.perm
