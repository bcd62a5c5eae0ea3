-- An upper bound on the moves that a world's actors can still make.
use Rattle.std.specs.Prelude.{◌≡◌, ℕ, zero, suc, ◌+◌, ◌-◌, ◌*◌, ◌<◌, Bool, true, false, not, ◌&&◌, ◌||◌, nat_lt, if◌then◌else◌, List, [], ◌∷◌, length, Option, Some, None}
use Rattle.vi_bytes.specs.Leases.{has_page}
use Rattle.vi_bytes.specs.declared.lease.Lease.{Lease}
use Rattle.vi_history.specs.Translation.{permits}
use Rattle.vi_history.specs.declared.call.Caller.TheVariants.{Driver}
use Rattle.vi_lines.specs.declared.line.Line.{Line}
use Rattle.vi_lines.specs.declared.line.Who.{Who}
use Rattle.vi_lines.specs.Value.{ScriptValue}
use Rattle.vi_lines.specs.Calls.{lines_of, parts_of}
use Rattle.vi_model.specs.Lanes.{Down, Update, Invalidate, Miss}
use Rattle.vi_model.specs.Caches.{cached_at}
use Rattle.vi_model.specs.Control.{Setting, Port, Link, Control, driver_count, port_of, link_of}
use Rattle.vi_model.specs.Places.{place_count, back_at}
use Rattle.vi_model.specs.Starts.{any}
use Rattle.vi_model.specs.Serves.{page_of}
use Rattle.vi_model.specs.Drivers.{Stand}
use Rattle.vi_model.specs.Backs.{Seat, Access, need_of, access_at}
use Rattle.vi_model.specs.Worlds.{World, stand_of, seat_of}
use Rattle.vi_model.specs.Asking.{one_if, count_option}
use Rattle.vi_model.specs.Turns.{Moved, turn}
use Rattle.vi_model.specs.Playable.{IsPlayable}
use Rattle.vi_model.specs.Sound.{IsSound}

-- the access of the part that the back end is at, if it is at one
abbrev pub current_access : ScriptValue → ℕ → Seat → Option Access
current_access s place z = access_at s place (z.finished + 1) (z.done + 1)

-- the lease that is found serves the access
abbrev pub serves : Access → Option Lease → Bool
serves a None = false
serves a (Some l) = permits (need_of a.work) l.perm

-- the cache serves the current part; where there is none, nothing is wanted
abbrev pub is_cached : Option Access → List Lease → Bool
is_cached None cache = true
is_cached (Some a) cache = serves a (cached_at (page_of a.part.iova) cache)

-- so does a lease
abbrev pub brings : Option Access → Lease → Bool
brings None l = true
brings (Some a) l = has_page l (page_of a.part.iova) && permits (need_of a.work) l.perm

-- an Update that does is on its way down
abbrev pub is_coming : Option Access → List Down → Bool
is_coming o [] = false
is_coming o (Update l ∷ down) = brings o l || is_coming o down
is_coming o (Invalidate reach ∷ down) = is_coming o down

-- the frames of the main channel: an Update that isn't wanted may drive a wanted lease out of the cache, an Invalidate
-- takes it away and is acknowledged
abbrev pub down_cost : Option Access → List Down → ℕ
down_cost o [] = 0
down_cost o (Update l ∷ down) = (if brings o l then 1 else 6) + down_cost o down
down_cost o (Invalidate reach ∷ down) = 7 + down_cost o down

-- the replies: one with a fault ends its line
abbrev pub reply_cost : List Bool → ℕ
reply_cost [] = 0
reply_cost (fault ∷ replies) = (if fault then 8 else 1) + reply_cost replies

-- a miss is on its way or parked, or a reply with fault comes back
abbrev pub is_busy : List Miss → Option Miss → List Bool → Bool
is_busy up parked replies = nat_lt 0 (length up + count_option parked) || any replies

-- one more miss will be needed
abbrev pub lack : Bool → Bool → ℕ
lack busy covered = if busy then 0 else (if covered then 0 else 5)

-- the lines behind the first so many: 7 for each part and 2 for each line
abbrev pub work_from : ℕ → List Line → ℕ
work_from finished [] = 0
work_from zero (l ∷ ls) = 2 + 7 * parts_of l.job + work_from zero ls
work_from (suc finished) (l ∷ ls) = work_from finished ls

-- what is left behind the finished lines and parts; the current line too is over where a reply with fault comes back
abbrev pub work_left : List Line → Bool → ℕ → ℕ → ℕ
work_left ls true finished done = work_from (finished + 1) ls
work_left ls false finished done = work_from finished ls - 7 * done

-- what the back end may still do alone: find its line ready, post its finished lines, and receive
abbrev pub seat_cost : Seat → ℕ
seat_cost z = one_if (not z.ready) + (one_if (nat_lt z.told z.finished) + one_if (nat_lt 0 z.since))

-- all that may happen at a back end's place
abbrev pub place_cost : ScriptValue → ℕ → Link → Seat → ℕ
place_cost s place x z =
    x.acks + (down_cost (current_access s place z) x.down + (4 * length x.up + (3 * count_option x.parked + (reply_cost x.replies
    + (lack (is_busy x.up x.parked x.replies) (is_cached (current_access s place z) z.cache || is_coming (current_access s place z) x.down)
    + (work_left (lines_of s (back_at s place)) (any x.replies) z.finished z.done + seat_cost z))))))

-- so much, so many times
abbrev pub times : ℕ → ℕ → ℕ
times cost zero = 0
times cost (suc n) = cost + times cost n

-- f 0 + f 1 + .. of so many numbers
abbrev pub total : (ℕ → ℕ) → ℕ → ℕ
total f zero = 0
total f (suc n) = f n + total f n

-- a call that waits: it is started, finished and collected, with an Invalidate to each back end
abbrev pub call_cost : ScriptValue → ℕ
call_cost s = 3 + times 7 (place_count s)

abbrev pub setting_cost : ℕ → Option Setting → ℕ
setting_cost cost None = 0
setting_cost cost (Some x) = cost

-- a driver's lines that it has still to submit, its setting and its answers
abbrev pub driver_cost : ScriptValue → ℕ → Port → Stand → ℕ
driver_cost s driver p d = times (call_cost s + 1) (length (lines_of s (Driver driver)) - d.submitted) + (setting_cost (call_cost s) p.setting + length p.answered)

abbrev pub places_cost : ScriptValue → World → ℕ
places_cost s w = total (λ place. place_cost s place (link_of w.control place) (seat_of w place)) (place_count s)

abbrev pub drivers_cost : ScriptValue → World → ℕ
drivers_cost s w = total (λ driver. driver_cost s driver (port_of w.control driver) (stand_of w driver)) driver_count

-- the queued calls, the open removals, and the records that nobody has read
abbrev pub shared_cost : ScriptValue → Control → ℕ
shared_cost s c = times (call_cost s) (length c.queue) + (2 * length c.removals + length c.events.waiting)

abbrev pub measure : ScriptValue → World → ℕ
measure s w = places_cost s w + (drivers_cost s w + shared_cost s w.control)

-- a turn that moves lowers the bound
abbrev pub MovesLower : Type 0
MovesLower = (s : ScriptValue) (w : World) (a : Who) → IsPlayable s → IsSound s w → (turn s w a).turned ≡ Moved → measure s (turn s w a).world < measure s w
