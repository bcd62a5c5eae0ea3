-- What a back end's access comes to, by its own lines.
use Rattle.std.specs.Prelude.{◌==◌, ℕ, ◌+◌, Bool, true, false, List}
use Rattle.vi_bytes.specs.declared.lease.Lease.{Lease}
use Rattle.vi_history.specs.declared.call.Caller.TheVariants.{Back}
use Rattle.vi_lines.specs.Calls.{parts_in}
use Rattle.vi_model.specs.Starts.{entry_of}
use Rattle.vi_model.specs.Serves.{page_of}
use Rattle.vi_model.specs.Backs.{Seat, Access, Accessed, work_page, work_answer, moved_seat}
use Rattle.vi_cache.specs.Caches.{looked}
use Rattle.vi_backend.specs.Own.{Own}
use Rattle.vi_backend.specs.Wishes.{current_line}

-- its current part is its line's last
abbrev pub is_at_last : Own → Bool
is_at_last b = b.seat.done + 1 == parts_in (current_line b)

-- the access of its current part by a lease, on the bytes of its page
abbrev pub own_accessed : Own → Lease → Access → List ℕ → Accessed
own_accessed b lease a page = record {
  page = work_page page a.part a.work;
  seat = moved_seat b.seat (is_at_last b) lease (page_of a.part.iova);
  entry = entry_of (Back b.id) (b.seat.finished + 1) (b.seat.done + 1) (work_answer page a.part a.work);
}

-- its seat after the wished frame was sent
abbrev pub asked_seat : Seat → Seat
asked_seat z = record z { asking = true; told = z.finished }

-- its seat after it looked a page up in its cache
abbrev pub looked_seat : Seat → ℕ → Seat
looked_seat z page = record z { cache = looked page z.cache }

-- its seat after one more part, the last of its line or not
abbrev pub stepped : Seat → Bool → Seat
stepped z true = record z { finished = z.finished + 1; done = 0; ready = false; since = z.since + 1 }
stepped z false = record z { done = z.done + 1; since = z.since + 1 }
