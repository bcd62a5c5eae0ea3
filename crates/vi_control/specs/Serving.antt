-- What the device makes of a miss and of an acknowledgement.
use Rattle.std.specs.Prelude.{◌≡◌, ℕ, ◌+◌, ◌≤◌, ◌<◌, [], length, get_or, Option, None}
use Rattle.vi_bytes.specs.FaultRecords.{fault_record}
use Rattle.vi_bytes.specs.declared.lease.Lease.{Lease}
use Rattle.vi_history.specs.Runs.{run}
use Rattle.vi_history.specs.declared.call.Caller.TheVariants.{Back}
use Rattle.vi_history.specs.declared.entry.Mark.{Mark}
use Rattle.vi_history.specs.declared.entry.Kind.TheVariants as kind
use Rattle.vi_model.specs.Control.{Link, Control, link_of, with_link}
use Rattle.vi_model.specs.Cuts.{open_run}
use Rattle.vi_model.specs.Grants.{lease_under}
use Rattle.vi_model.specs.Lanes.{Miss}
use Rattle.vi_model.specs.Serves.{granted_link, faulted_link, parked_link, noted}
use Rattle.vi_control.specs.Value.{ControlValue}

-- the id of the endpoint at a place
abbrev pub planned_id : ControlValue → ℕ → ℕ
planned_id v place = get_or v.plan.ids place 0

-- the lease to grant for a page
abbrev pub lease_for : ControlValue → ℕ → ℕ → Option Lease
lease_for v place page = open_run v.state.dev (planned_id v place) place v.state.removals page (run v.state.dev (planned_id v place) page)

-- the control after it was granted
abbrev pub granted_for : ControlValue → ℕ → ℕ → Control
granted_for v place page = with_link v.state place (granted_link (link_of v.state place) page (lease_for v place page))

-- after the access of a miss was answered with a fault
abbrev pub faulted_for : ControlValue → ℕ → Miss → ℕ → Control
faulted_for v place m reason =
    record (with_link v.state place (faulted_link (link_of v.state place))) { events = noted v.plan.buffers v.state.events (fault_record reason m.need (planned_id v place) m.iova) }

-- after the miss was parked
abbrev pub parked_for : ControlValue → ℕ → Miss → Control
parked_for v place m = with_link v.state place (parked_link (link_of v.state place) m)

-- the mark of that fault
abbrev pub fault_mark : ℕ → Miss → ℕ → Mark
fault_mark id m reason = record { caller = Back id; line = m.line; part = m.part; kind = kind.Fault; code = reason }

-- there is room to grant a lease for the page, and to reply
pub record HasGrantRoom (x : Link) (page : ℕ) : Type 0 where
  pub grant : lease_under page x.grants ≡ None → 1 ≤ x.spare
  pub update : length x.down ≤ 8
  pub reply : x.replies ≡ []

-- there is room to report a fault, and to reply
pub record HasFaultRoom (c : Control) (x : Link) : Type 0 where
  pub reply : x.replies ≡ []
  pub shown : 1 ≤ c.events.room
  pub faults : length c.events.shown + c.events.dropped < 10000

-- the back end has no miss under way or parked
pub record HasNoMiss (x : Link) : Type 0 where
  pub up : x.up ≡ []
  pub parked : x.parked ≡ None
