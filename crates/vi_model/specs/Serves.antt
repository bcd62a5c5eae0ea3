-- The device serves the frames of back ends.
use Rattle.std.specs.Prelude.{ℕ, ◌+◌, ◌-◌, ◌/◌, Bool, true, false, nat_lt, if◌then◌else◌, List, [], ◌∷◌, ◌++◌, length, Option, Some, None, is_some}
use Rattle.vi_bytes.specs.FaultRecords.{fault_record}
use Rattle.vi_bytes.specs.declared.span.TheConstants.{PAGE}
use Rattle.vi_bytes.specs.declared.lease.Lease.{Lease}
use Rattle.vi_history.specs.Replies.{fault_answer}
use Rattle.vi_history.specs.Translation.{translate}
use Rattle.vi_history.specs.Runs.{run}
use Rattle.vi_history.specs.declared.found.Found.{Found}
use Rattle.vi_history.specs.declared.found.Found.TheVariants as found
use Rattle.vi_history.specs.declared.outcome.Shown.{Shown}
use Rattle.vi_lines.specs.Value.{ScriptValue}
use Rattle.vi_model.specs.Lanes.{Update, Miss}
use Rattle.vi_model.specs.Grants.{lease_under, granted}
use Rattle.vi_model.specs.Removals.{Removal, acked, acked_grants, closed}
use Rattle.vi_model.specs.Cuts.{open_run}
use Rattle.vi_model.specs.Control.{Link, Events, Control, Made, link_of, with_link}
use Rattle.vi_model.specs.Places.{id_at, back_at}
use Rattle.vi_model.specs.Starts.{entry_of}

-- the page of an address
abbrev pub page_of : ℕ → ℕ
page_of address = address / PAGE

-- the back end's row after an acknowledgement: its grants that the oldest removal reaches are taken back
abbrev pub acked_link : ℕ → List Removal → Link → Link
acked_link place removals x = record x {
  grants = acked_grants place removals x.grants;
  spare = x.spare + (length x.grants - length (acked_grants place removals x.grants));
  acks = x.acks - 1;
}

-- serve an acknowledgement: the oldest removal that waits for the back end does so no longer
unfoldable pub serve_ack : Control → ℕ → Control
serve_ack c place = record (with_link c place (acked_link place c.removals (link_of c place))) { removals = acked place c.removals }

-- the row after a miss was granted this lease: the Update is sent, and then a Reply without fault
abbrev pub granted_link : Link → ℕ → Option Lease → Link
granted_link x page None = record x { replies = x.replies ++ false ∷ [] }
granted_link x page (Some l) = record x {
  grants = granted page l x.grants;
  spare = if is_some (lease_under page x.grants) then x.spare else x.spare - 1;
  down = x.down ++ Update l ∷ [];
  replies = x.replies ++ false ∷ [];
}

-- the row after a Reply with fault was sent
abbrev pub faulted_link : Link → Link
faulted_link x = record x { replies = x.replies ++ true ∷ [] }

-- the row with the miss parked
abbrev pub parked_link : Link → Miss → Link
parked_link x m = record x { parked = Some m }

-- the record of the next fault
abbrev pub next_record : Events → List ℕ → Shown
next_record e bytes = record { entry = length e.shown + e.dropped + 1; bytes = bytes }

-- a fault's record is put into one of the event buffers, of which there are so many, or dropped where none is free
abbrev pub noted : ℕ → Events → List ℕ → Events
noted buffers e bytes =
    if nat_lt (length e.waiting) buffers
    then record e { shown = e.shown ++ next_record e bytes ∷ []; waiting = e.waiting ++ next_record e bytes ∷ []; room = e.room - 1 }
    else record e { dropped = e.dropped + 1 }

-- the record of a miss whose access faults
abbrev pub miss_record : ScriptValue → ℕ → Miss → ℕ → List ℕ
miss_record s place m reason = fault_record reason m.need (id_at s place) m.iova

-- serve a miss by where its address leads; x is the back end's row without it
abbrev pub serve_found : ScriptValue → Control → ℕ → Link → Miss → Found → Made
serve_found s c place x m (found.At target) = record {
  control = with_link c place (granted_link x (page_of m.iova) (open_run c.dev (id_at s place) place c.removals (page_of m.iova) (run c.dev (id_at s place) (page_of m.iova))));
  entry = None;
}
serve_found s c place x m (found.Fault reason) = record {
  control = record (with_link c place (faulted_link x)) { events = noted s.setup.queue c.events (miss_record s place m reason) };
  entry = Some (entry_of (back_at s place) m.line m.part (fault_answer reason));
}

-- the page of the miss is closed
abbrev pub is_shut : ScriptValue → Control → ℕ → Miss → Bool
is_shut s c place m = closed c.dev (id_at s place) place (page_of m.iova) c.removals

-- Serve a Miss or an AccessFail: on a closed page it is parked, and else served by where its address leads.
unfoldable pub serve_miss : ScriptValue → Control → ℕ → Link → Miss → Made
serve_miss s c place x m =
    if is_shut s c place m
    then record { control = with_link c place (parked_link x m); entry = None }
    else serve_found s c place x m (translate c.dev (id_at s place) m.iova m.need)
