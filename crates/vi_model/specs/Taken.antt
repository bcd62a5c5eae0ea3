-- What a removal takes away is with nobody when its entry is made.
use Rattle.std.specs.Prelude.{◌≡◌, ◌<◌, ℕ, false, List, [], ◌∷◌, Some}
use Rattle.std.specs.List.{AllByRecursion}
use Rattle.vi_bytes.specs.declared.lease.Lease.{Lease}
use Rattle.vi_history.specs.Device.{Dev}
use Rattle.vi_lines.specs.Value.{ScriptValue}
use Rattle.vi_model.specs.Tasks.{closes}
use Rattle.vi_model.specs.declared.task.Task.{Task}
use Rattle.vi_model.specs.Lanes.{Down, Update, Invalidate}
use Rattle.vi_model.specs.Grants.{some_page}
use Rattle.vi_model.specs.Removals.{Removal, first_ready}
use Rattle.vi_model.specs.Control.{Link, link_of}
use Rattle.vi_model.specs.Places.{place_count, id_at}
use Rattle.vi_model.specs.Starts.{awaited_by, any}
use Rattle.vi_model.specs.Backs.{Seat}
use Rattle.vi_model.specs.Worlds.{World, seat_of}
use Rattle.vi_model.specs.Sound.{IsSound}

-- the task closes no page of the lease for this endpoint now
abbrev pub LeavesLease : Dev → Task → ℕ → Lease → Type 0
LeavesLease dev task endpoint l = some_page (closes dev task endpoint) l ≡ false

-- nor one of the lease of an Update under way
abbrev pub LeavesUpdates : Dev → Task → ℕ → List Down → Type 0
LeavesUpdates dev task endpoint [] = Unit {0}
LeavesUpdates dev task endpoint (Update l ∷ down) = LeavesLease dev task endpoint l × LeavesUpdates dev task endpoint down
LeavesUpdates dev task endpoint (Invalidate reach ∷ down) = LeavesUpdates dev task endpoint down

-- no back end caches a page that the task closes for it now, and none is on its way
pub record IsTaken (s : ScriptValue) (w : World) (task : Task) : Type 0 where
  pub cached : (place : ℕ) → place < place_count s → AllByRecursion (LeavesLease w.control.dev task (id_at s place)) (let z : Seat = seat_of w place in z.cache)
  pub sent : (place : ℕ) → place < place_count s → LeavesUpdates w.control.dev task (id_at s place) (let x : Link = link_of w.control place in x.down)

-- so it is of the removal that is finished
abbrev pub FinishedIsTaken : Type 0
FinishedIsTaken = (s : ScriptValue) (w : World) (r : Removal) → IsSound s w → first_ready w.control.removals ≡ Some r → IsTaken s w r.task

-- and of one that starts with nobody to wait for
abbrev pub StartedIsTaken : Type 0
StartedIsTaken = (s : ScriptValue) (w : World) (task : Task) → IsSound s w → any (awaited_by s w.control task) ≡ false → IsTaken s w task
