-- A back end's turn: it accesses memory by a cached lease, asks for one, or takes a frame.
use Rattle.std.specs.Prelude.{◌==◌, ℕ, ◌+◌, ◌-◌, ◌%◌, Bool, true, false, not, ◌&&◌, ◌||◌, nat_lt, nat_le, if◌then◌else◌, List, [], ◌∷◌, ◌++◌, length, take, drop, Option, Some, None}
use Rattle.std.specs.List.{list_any, range_with_len}
use Rattle.vi_bytes.specs.declared.span.TheConstants.{PAGE}
use Rattle.vi_bytes.specs.declared.lease.Lease.{Lease}
use Rattle.vi_bytes.specs.declared.lease.Need.{Need}
use Rattle.vi_bytes.specs.declared.lease.Need.TheVariants as need
use Rattle.vi_bytes.specs.declared.part.Part.{Part}
use Rattle.vi_history.specs.Replies.{Answer, read_answer, wrote_answer, written}
use Rattle.vi_history.specs.Translation.{permits}
use Rattle.vi_history.specs.declared.call.Call.{Call}
use Rattle.vi_history.specs.declared.call.Call.TheVariants as call
use Rattle.vi_history.specs.declared.entry.Entry.{Entry}
use Rattle.vi_lines.specs.declared.line.Await.{Await}
use Rattle.vi_lines.specs.Value.{ScriptValue}
use Rattle.vi_lines.specs.Calls.{lines_of, call_of, awaits_of, part_count_of}
use Rattle.vi_model.specs.Lanes.{Down, Update, Invalidate, Miss}
use Rattle.vi_model.specs.Grants.{piece}
use Rattle.vi_model.specs.Caches.{cached_at, untouched, put, fronted}
use Rattle.vi_model.specs.Control.{Link, Control}
use Rattle.vi_model.specs.Places.{back_at}
use Rattle.vi_model.specs.Posted.{all_posted, is_awaited}
use Rattle.vi_model.specs.Starts.{entry_of}
use Rattle.vi_model.specs.Serves.{page_of}

-- How far a back end is: how many lines and how many parts of its current line it has finished; whether it found what
-- that line awaits posted; whether its miss is open; how many accesses it made since it last received; how many
-- finished lines it last posted. And the leases that it caches.
pub record Seat : Type 0 where
  pub finished : ℕ
  pub done : ℕ
  pub ready : Bool
  pub asking : Bool
  pub since : ℕ
  pub told : ℕ
  pub cache : List Lease

abbrev pub no_seat : Seat
no_seat = record { finished = 0; done = 0; ready = false; asking = false; since = 0; told = 0; cache = [] }

-- what an access does at its first address: it reads, or writes these bytes
pub data Work : Type 0 where
  Reading : Work
  Writing : (bytes : List ℕ) → Work

pub record Access : Type 0 where
  pub part : Part
  pub work : Work

abbrev pub need_of : Work → Need
need_of Reading = need.Read
need_of (Writing bytes) = need.Write

-- the access that a call is, if it is one
abbrev pub access_of : Call → Option Access
access_of (call.Ask request) = None
access_of (call.Raw read write) = None
access_of (call.Bypass on) = None
access_of (call.Read endpoint part) = Some (record { part = part; work = Reading })
access_of (call.Write endpoint part bytes) = Some (record { part = part; work = Writing bytes })

abbrev pub access_in : Option Call → Option Access
access_in None = None
access_in (Some c) = access_of c

-- the access of a part of a back end's line
abbrev pub access_at : ScriptValue → ℕ → ℕ → ℕ → Option Access
access_at s place line part = access_in (call_of s (back_at s place) line part)

-- the answer to an access of a page's bytes, and the bytes after it
abbrev pub work_answer : List ℕ → Part → Work → Answer
work_answer page part Reading = read_answer (take part.len (drop (part.iova % PAGE) page))
work_answer page part (Writing bytes) = wrote_answer

abbrev pub work_page : List ℕ → Part → Work → List ℕ
work_page page part Reading = page
work_page page part (Writing bytes) = written page (part.iova % PAGE) bytes

-- what a back end does in its turn
pub data Wish : Type 0 where
  Accesses : (lease : Lease) → (access : Access) → Wish
  Asks : (miss : Miss) → Wish
  Receives : (tests : Bool) → Wish
  Rests : Wish

-- the miss of its current part
abbrev pub miss_of : Seat → Access → Bool → Miss
miss_of z a fail = record { line = z.finished + 1; part = z.done + 1; iova = a.part.iova; len = a.part.len; need = need_of a.work; fail = fail }

-- by the cached lease that has the part's page: a Miss without one, an AccessFail where it doesn't permit the need
abbrev pub part_wish : Seat → Access → Option Lease → Wish
part_wish z a None = Asks (miss_of z a false)
part_wish z a (Some l) = if permits (need_of a.work) l.perm then Accesses l a else Asks (miss_of z a true)

abbrev pub current_wish : Seat → Option Access → Wish
current_wish z None = Receives false
current_wish z (Some a) = part_wish z a (cached_at (page_of a.part.iova) z.cache)

abbrev pub is_empty : List Await → Bool
is_empty [] = true
is_empty (a ∷ rest) = false

-- what the current line awaits
abbrev pub current_awaits : ScriptValue → ℕ → Seat → List Await
current_awaits s place z = awaits_of s (back_at s place) (z.finished + 1)

-- a finished line isn't posted, and some line awaits it
abbrev pub owes_posting : ScriptValue → ℕ → Seat → Bool
owes_posting s place z = list_any (is_awaited s (back_at s place)) (range_with_len (z.told + 1) (z.finished - z.told))

-- The first rule that applies: its miss is open, it has made 16 accesses since it last received, or it owes a
-- posting, and it receives; all its lines are finished, and it receives and rests; it has not found what its line
-- awaits posted, and it receives and tests that; else it does its current part.
unfoldable pub wish : ScriptValue → ℕ → Seat → Wish
wish s place z =
    if z.asking || (nat_le 16 z.since || owes_posting s place z) then Receives false else (
    if nat_le (length (lines_of s (back_at s place))) z.finished then Rests else (
    if not (is_empty (current_awaits s place z)) && not z.ready then Receives true else
    current_wish z (access_at s place (z.finished + 1) (z.done + 1))))

-- a turn of a back end under control, and whether it moved
pub record Exchange : Type 0 where
  pub link : Link
  pub seat : Seat
  pub moved : Bool

-- ask: the number of finished lines is posted, and the miss is sent
unfoldable pub ask : Link → Seat → Miss → Exchange
ask x z m = record {
  link = record x { up = x.up ++ m ∷ []; posted = z.finished };
  seat = record z { asking = true; told = z.finished };
  moved = true;
}

-- it received no frame, and found what it awaits posted or not
abbrev pub heard : Seat → Bool → Seat
heard z ready = record z { ready = ready; since = 0; told = z.finished }

-- a Reply closes the miss, and with a fault the line is finished
abbrev pub replied : Seat → Bool → Seat
replied z true = record z { finished = z.finished + 1; done = 0; ready = false; asking = false; since = 0; told = z.finished }
replied z false = record z { asking = false; since = 0; told = z.finished }

-- it finds what it awaits posted now
abbrev pub finds : ScriptValue → Control → ℕ → Bool → Seat → Bool
finds s c place tests z = tests && all_posted s c (current_awaits s place z)

-- it takes a reply, if there is one
abbrev pub take_reply : ScriptValue → Control → ℕ → Bool → Link → Seat → List Bool → Exchange
take_reply s c place tests x z [] = record {
  link = record x { posted = z.finished };
  seat = heard z (z.ready || finds s c place tests z);
  moved = nat_lt z.told z.finished || (nat_lt 0 z.since || finds s c place tests z);
}
take_reply s c place tests x z (fault ∷ replies) = record { link = record x { replies = replies; posted = z.finished }; seat = replied z fault; moved = true }

-- the seat after a control turn that changed the cache
abbrev pub with_cache : Seat → List Lease → Seat
with_cache z cache = record z { since = 0; told = z.finished; cache = cache }

-- a frame of the main channel before a reply: an Update is cached, and an Invalidate is forgotten and acknowledged
abbrev pub take_down : ScriptValue → Control → ℕ → Bool → Link → Seat → List Down → Exchange
take_down s c place tests x z [] = take_reply s c place tests x z x.replies
take_down s c place tests x z (Update lease ∷ down) =
    record { link = record x { down = down; posted = z.finished }; seat = with_cache z (put s.setup.cache lease z.cache); moved = true }
take_down s c place tests x z (Invalidate reach ∷ down) =
    record { link = record x { down = down; acks = x.acks + 1; posted = z.finished }; seat = with_cache z (untouched reach z.cache); moved = true }

-- receive: the number of finished lines is posted, and one frame is taken, if there is one
unfoldable pub receive : ScriptValue → Control → ℕ → Bool → Link → Seat → Exchange
receive s c place tests x z = take_down s c place tests x z x.down

-- an access of a page: its bytes, the seat and the entry
pub record Accessed : Type 0 where
  pub page : List ℕ
  pub seat : Seat
  pub entry : Entry

-- the seat after an access by a lease; it ends its line, or not
abbrev pub moved_seat : Seat → Bool → Lease → ℕ → Seat
moved_seat z true lease page = record z { finished = z.finished + 1; done = 0; ready = false; since = z.since + 1; cache = fronted lease page z.cache }
moved_seat z false lease page = record z { done = z.done + 1; since = z.since + 1; cache = fronted lease page z.cache }

-- the part is its line's last
abbrev pub is_last : ScriptValue → ℕ → ℕ → ℕ → Bool
is_last s place line part = part == part_count_of s (back_at s place) line

-- the memory page that a lease gives for the page of an access
abbrev pub target_of : Lease → Access → ℕ
target_of lease a = (piece lease (page_of a.part.iova)).target

-- the access of the current part, on the bytes of its page
unfoldable pub access : ScriptValue → ℕ → Seat → Lease → Access → List ℕ → Accessed
access s place z lease a page = record {
  page = work_page page a.part a.work;
  seat = moved_seat z (is_last s place (z.finished + 1) (z.done + 1)) lease (page_of a.part.iova);
  entry = entry_of (back_at s place) (z.finished + 1) (z.done + 1) (work_answer page a.part a.work);
}
