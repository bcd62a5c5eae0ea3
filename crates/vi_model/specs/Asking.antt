-- The open miss of a back end: at most one, in one place.
use Rattle.std.specs.Prelude.{◌≡◌, ℕ, ◌+◌, ◌≤◌, Bool, true, false, if◌then◌else◌, List, Option, Some, None, length}
use Rattle.std.specs.List.{AllByRecursion}
use Rattle.vi_bytes.specs.Leases.{has_page}
use Rattle.vi_bytes.specs.declared.lease.Lease.{Lease}
use Rattle.vi_history.specs.Translation.{permits}
use Rattle.vi_lines.specs.Value.{ScriptValue}
use Rattle.vi_model.specs.Lanes.{Miss, count_updates}
use Rattle.vi_model.specs.Control.{Link}
use Rattle.vi_model.specs.Serves.{page_of}
use Rattle.vi_model.specs.Backs.{Seat, Access, need_of, access_at}

-- 1 if it is set
abbrev pub one_if : Bool → ℕ
one_if b = if b then 1 else 0

-- how many there are: one or none
abbrev pub count_option : {A : Type 0} → Option A → ℕ
count_option None = 0
count_option (Some x) = 1

-- the cached lease doesn't serve the miss: it has not its page, or the miss is an AccessFail and the lease doesn't
-- permit its need
abbrev pub DoesNotServe : Miss → Lease → Type 0
DoesNotServe m l = has_page l (page_of m.iova) ≡ true → (m.fail ≡ true) × (permits m.need l.perm ≡ false)

abbrev pub IsUnserved : Miss → List Lease → Type 0
IsUnserved m cache = AllByRecursion (DoesNotServe m) cache

-- the miss is of the back end's current part, and no cached lease serves it
pub record IsCurrent (s : ScriptValue) (place : ℕ) (z : Seat) (m : Miss) : Type 0 where
  pub line : m.line ≡ z.finished + 1
  pub part : m.part ≡ z.done + 1
  pub access : Access
  pub is_access : access_at s place m.line m.part ≡ Some access
  pub iova : access.part.iova ≡ m.iova
  pub len : access.part.len ≡ m.len
  pub need : need_of access.work ≡ m.need
  pub unserved : IsUnserved m z.cache

-- so is each of these misses, and the parked one
abbrev pub AreCurrent : ScriptValue → ℕ → Seat → List Miss → Type 0
AreCurrent s place z misses = AllByRecursion (IsCurrent s place z) misses

abbrev pub ParkedIsCurrent : ScriptValue → ℕ → Seat → Option Miss → Type 0
ParkedIsCurrent s place z None = Unit {0}
ParkedIsCurrent s place z (Some m) = IsCurrent s place z m

-- A miss is open exactly where it is on its way up, parked, or answered by a reply under way. An Update is under way
-- only while a reply is. The posted number is what the back end last posted, and all its finished lines while it asks.
pub record AsksOnce (s : ScriptValue) (place : ℕ) (x : Link) (z : Seat) : Type 0 where
  pub one : length x.up + (count_option x.parked + length x.replies) ≡ one_if z.asking
  pub up : AreCurrent s place z x.up
  pub parked : ParkedIsCurrent s place z x.parked
  pub updates : count_updates x.down ≤ length x.replies
  pub posted : z.asking ≡ true → x.posted ≡ z.finished
  pub told : x.posted ≡ z.told
  pub low : z.told ≤ z.finished
