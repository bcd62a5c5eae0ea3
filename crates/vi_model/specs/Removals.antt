-- The open removals, in the order in which they were begun, and what they close.
use Rattle.std.specs.Prelude.{ℕ, Bool, false, not, ◌&&◌, ◌||◌, if◌then◌else◌, List, [], ◌∷◌, Option, get_or, set, find}
use Rattle.std.specs.List.{list_any, list_all}
use Rattle.vi_bytes.specs.declared.span.Span.{Span}
use Rattle.vi_history.specs.Device.{Dev}
use Rattle.vi_model.specs.Tasks.{closes, reach_of, reaches}
use Rattle.vi_model.specs.declared.task.Task.{Task}
use Rattle.vi_model.specs.Grants.{some_page, spared}
use Rattle.vi_grants.specs.declared.row.Grant.{Grant}

-- a removal that was begun: its driver's line, what that asks for, and for each place whether its back end is waited for
pub record Removal : Type 0 where
  pub driver : ℕ
  pub line : ℕ
  pub task : Task
  pub waits : List Bool

-- the removal waits for the back end at this place
abbrev pub waits_for : ℕ → Removal → Bool
waits_for place r = get_or r.waits place false

-- it waits for nobody
abbrev pub is_ready : Removal → Bool
is_ready r = list_all not r.waits

-- it waits for this back end no longer
abbrev pub acknowledged : ℕ → Removal → Removal
acknowledged place r = record r { waits = set r.waits place false }

-- the oldest removal that waits for this back end does so no longer
abbrev pub acked : ℕ → List Removal → List Removal
acked place [] = []
acked place (r ∷ rs) = if waits_for place r then acknowledged place r ∷ rs else r ∷ acked place rs

-- the back end's grants after it acknowledged the oldest removal that waits for it
abbrev pub acked_grants : ℕ → List Removal → List Grant → List Grant
acked_grants place [] grants = grants
acked_grants place (r ∷ rs) grants = if waits_for place r then spared (reach_of r.task) grants else acked_grants place rs grants

-- the reaches of the removals that wait for this back end
abbrev pub awaited_reaches : ℕ → List Removal → List (Option Span)
awaited_reaches place [] = []
awaited_reaches place (r ∷ rs) = if waits_for place r then reach_of r.task ∷ awaited_reaches place rs else awaited_reaches place rs

-- A removal closes a page of an endpoint where it takes the endpoint's translation of it away now, and, as long as it
-- waits for the endpoint's back end, where the page is in its reach.
abbrev pub closes_page : Dev → ℕ → ℕ → ℕ → Removal → Bool
closes_page dev endpoint place page r = closes dev r.task endpoint page || (waits_for place r && reaches (reach_of r.task) page)

abbrev pub closed : Dev → ℕ → ℕ → ℕ → List Removal → Bool
closed dev endpoint place page removals = list_any (closes_page dev endpoint place page) removals

-- a removal that starts has to wait for the back end: it closes a page of a granted lease
abbrev pub must_wait : Dev → Task → ℕ → List Grant → Bool
must_wait dev task endpoint grants = list_any (λ g. some_page (closes dev task endpoint) g.lease) grants

-- the first begun that waits for nobody, and the others
abbrev pub first_ready : List Removal → Option Removal
first_ready removals = find is_ready removals

abbrev pub without_first : List Removal → List Removal
without_first [] = []
without_first (r ∷ rs) = if is_ready r then rs else r ∷ without_first rs
