-- What users see of the open removals.
use Rattle.std.specs.Prelude.{ℕ, ◌-◌, ◌^◌, Bool, if◌then◌else◌, List, [], ◌∷◌, map, find, Option, Some, None}
use Rattle.vi_bytes.specs.declared.span.Span.{Span}
use Rattle.vi_model.specs.declared.task.Task.{Task}
use Rattle.vi_model.specs.Removals.{Removal, waits_for, is_ready, acknowledged}
use Rattle.vi_model.specs.Tasks.{reach_of}
use Rattle.vi_shoot.specs.declared.ops.Token.{Token}
use Rattle.vi_removals.specs.declared.removals.Ready.{Ready}

-- an open removal, and the call that it belongs to
pub record Opened : Type 0 where
  pub removal : Removal
  pub token : Token

-- the endpoints' ids by place, and the open removals in the order in which they began
pub record RemovalsValue : Type 0 where
  pub ids : List ℕ
  pub opened : List Opened

-- the removals alone
abbrev pub removals_of : RemovalsValue → List Removal
removals_of v = map (λ o. o.removal) v.opened

-- a removal as it begins
abbrev pub opened_by : ℕ → ℕ → Task → List Bool → Token → Opened
opened_by driver line task waits token = record {
  removal = record { driver = driver; line = line; task = task; waits = waits };
  token = token;
}

-- it waits for the back end at this place
abbrev pub is_awaiting : ℕ → Opened → Bool
is_awaiting place o = waits_for place o.removal

-- it waits for this back end no longer
abbrev pub released : ℕ → Opened → Opened
released place o = record o { removal = acknowledged place o.removal }

-- the oldest that waits for this back end does so no longer
abbrev pub with_ack : ℕ → List Opened → List Opened
with_ack place [] = []
with_ack place (o ∷ os) = if is_awaiting place o then released place o ∷ os else o ∷ with_ack place os

-- the oldest that waits for this back end
abbrev pub oldest_awaiting : ℕ → List Opened → Option Opened
oldest_awaiting place os = find (is_awaiting place) os

-- the addresses of a reach: all of them where it is None
abbrev pub addresses_of : Option Span → Span
addresses_of None = record { first = 0; last = 2 ^ 64 - 1 }
addresses_of (Some span) = span

-- the addresses that a removal tells back ends to forget
abbrev pub addresses_in : Opened → Span
addresses_in o = addresses_of (reach_of o.removal.task)

-- it waits for nobody
abbrev pub is_free : Opened → Bool
is_free o = is_ready o.removal

-- the first begun that waits for nobody, and the others
abbrev pub first_free : List Opened → Option Opened
first_free os = find is_free os

abbrev pub without_free : List Opened → List Opened
without_free [] = []
without_free (o ∷ os) = if is_free o then os else o ∷ without_free os

-- what a removal that leaves hands over
abbrev pub ready_of : Opened → Ready
ready_of o = record { driver = o.removal.driver; line = o.removal.line; task = o.removal.task; token = o.token }
