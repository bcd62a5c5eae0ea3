-- What a back end has for itself.
use Rattle.std.specs.Prelude.{◌≡◌, ◌≤◌, ◌<◌, ◌^◌, ◌-◌, ℕ, Bool, true, nat_lt, if◌then◌else◌, List, [], ◌∷◌, length, map, set, All, Option, Some, None}
use Rattle.std.specs.List.{range_with_len}
use Rattle.vi_bytes.specs.declared.lease.Lease.{Lease}
use Rattle.vi_history.specs.declared.call.Caller.{Caller}
use Rattle.vi_iotlb.specs.Fields.{IsGrant}
use Rattle.vi_lines.specs.declared.line.Await.{Await}
use Rattle.vi_lines.specs.declared.line.Line.{Line}
use Rattle.vi_lines.specs.Value.{ScriptValue}
use Rattle.vi_lines.specs.Calls.{TransfersWell, lines_of, same_caller}
use Rattle.vi_model.specs.Places.{id_at, back_at}
use Rattle.vi_model.specs.Posted.{is_awaited}
use Rattle.vi_model.specs.Backs.{Seat}

-- Its endpoint's id, its lines, of each of them whether some line awaits it, how many leases it can cache, and how
-- far it is.
pub record Own : Type 0 where
  pub id : ℕ
  pub lines : List Line
  pub awaited : List Bool
  pub capacity : ℕ
  pub seat : Seat

-- of each of the caller's first lines, so many, whether some line of the script awaits it
abbrev pub awaited_of : ScriptValue → Caller → ℕ → List Bool
awaited_of s caller count = map (is_awaited s caller) (range_with_len 1 count)

-- marks of lines, with the one of this number set, if there is one
abbrev pub marked : ℕ → List Bool → List Bool
marked line marks = if nat_lt 0 line then set marks (line - 1) true else marks

-- and with the one of a caller's line that is awaited
abbrev pub marked_by : Caller → List Bool → Await → List Bool
marked_by caller marks a = if same_caller a.caller caller then marked a.line marks else marks

-- the list of what is there
abbrev pub listed : Option Line → List Line
listed None = []
listed (Some l) = l ∷ []

-- it is the back end at this place of the script
pub record IsBackOf (s : ScriptValue) (place : ℕ) (b : Own) : Type 0 where
  pub endpoint : b.id ≡ id_at s place
  pub own_lines : b.lines ≡ lines_of s (back_at s place)
  pub own_awaited : b.awaited ≡ awaited_of s (back_at s place) (length b.lines)
  pub own_capacity : b.capacity ≡ s.setup.cache

-- the lease has pages below 2^52 that an Update may grant, and targets below 16384
abbrev pub IsGrantedLease : Lease → Type 0
IsGrantedLease l = IsGrant l.page l.count l.target

-- what is so of every back end
pub record IsOwn (b : Own) : Type 0 where
  pub transfers : All (λ l. TransfersWell l.job) b.lines
  pub count : length b.lines < 2 ^ 32
  pub awaited_each : length b.awaited ≡ length b.lines
  pub told_finished : b.seat.told ≤ b.seat.finished
  pub finished_lines : b.seat.finished ≤ length b.lines
  pub parts : b.seat.done ≤ 16
  pub accesses : b.seat.since ≤ 16
  pub asks_for_line : b.seat.asking ≡ true → b.seat.finished < length b.lines
  pub leases : All IsGrantedLease b.seat.cache
