-- What a back end wishes, by its own lines.
use Rattle.std.specs.Prelude.{◌+◌, ◌-◌, Bool, true, false, not, ◌&&◌, ◌||◌, nat_le, if◌then◌else◌, List, length, take, drop, Option, slice_get}
use Rattle.std.specs.List.{list_any}
use Rattle.vi_bytes.specs.declared.lease.Lease.{Lease}
use Rattle.vi_history.specs.declared.call.Caller.TheVariants.{Back}
use Rattle.vi_iotlb.specs.declared.frame.Frame.{Frame}
use Rattle.vi_iotlb.specs.declared.frame.Frame.TheVariants as frame
use Rattle.vi_lines.specs.declared.line.Line.{Line}
use Rattle.vi_lines.specs.declared.line.Await.{Await}
use Rattle.vi_lines.specs.Calls.{call_in, awaits_in}
use Rattle.vi_model.specs.Lanes.{Miss}
use Rattle.vi_model.specs.Backs.{Access, access_in, is_empty, current_wish, target_of}
use Rattle.vi_model.specs.Backs as model
use Rattle.vi_backend.specs.declared.wish.Wish.{Wish}
use Rattle.vi_backend.specs.declared.wish.Wish.TheVariants as shows
use Rattle.vi_backend.specs.Own.{Own}

-- its current line, what that line awaits, and its current access
abbrev pub current_line : Own → Option Line
current_line b = slice_get b.lines b.seat.finished

abbrev pub own_awaits : Own → List Await
own_awaits b = awaits_in (current_line b)

abbrev pub own_access : Own → Option Access
own_access b = access_in (call_in (Back b.id) (b.seat.done + 1) (current_line b))

-- a finished line isn't posted, and some line awaits it
abbrev pub owes : Own → Bool
owes b = list_any (λ awaited. awaited) (take (b.seat.finished - b.seat.told) (drop b.seat.told b.awaited))

-- its miss is open, it made 16 accesses since it last received, or it owes a posting
abbrev pub must_receive : Own → Bool
must_receive b = b.seat.asking || (nat_le 16 b.seat.since || owes b)

-- all its lines are finished
abbrev pub is_finished : Own → Bool
is_finished b = nat_le (length b.lines) b.seat.finished

-- it did not yet find posted what its current line awaits
abbrev pub must_await : Own → Bool
must_await b = not (is_empty (own_awaits b)) && not b.seat.ready

-- the first of these that applies, and else its current part
unfoldable pub own_wish : Own → model.Wish
own_wish b =
    if must_receive b then model.Receives false else (
    if is_finished b then model.Rests else (
    if must_await b then model.Receives true else
    current_wish b.seat (own_access b)))

-- the wish is to receive, and to test whether the awaited lines are posted
abbrev pub tests_in : model.Wish → Bool
tests_in (model.Accesses lease access) = false
tests_in (model.Asks miss) = false
tests_in (model.Receives tests) = tests
tests_in model.Rests = false

-- where the wish is an access, this is so of its lease and its access
abbrev pub IfAccess : model.Wish → (Lease → Access → Type 0) → Type 0
IfAccess (model.Accesses lease access) P = P lease access
IfAccess (model.Asks miss) P = Unit {0}
IfAccess (model.Receives tests) P = Unit {0}
IfAccess model.Rests P = Unit {0}

-- the frame of a miss: an AccessFail where a lease was there
abbrev pub frame_of : Miss → Frame
frame_of m = if m.fail then frame.AccessFail m.iova m.len m.need else frame.Miss m.iova m.len m.need

-- the wish as its holder is told it
abbrev pub shown : model.Wish → Wish
shown (model.Accesses lease access) = shows.Access (target_of lease access)
shown (model.Asks miss) = shows.Ask (frame_of miss)
shown (model.Receives tests) = shows.Receive
shown model.Rests = shows.Rest

-- the wish, as it is told, is to ask, or an access
abbrev pub IsAsk : Wish → Type 0
IsAsk (shows.Access page) = ⊥
IsAsk (shows.Ask frame) = Unit {0}
IsAsk shows.Receive = ⊥
IsAsk shows.Rest = ⊥

abbrev pub IsAccess : Wish → Type 0
IsAccess (shows.Access page) = Unit {0}
IsAccess (shows.Ask frame) = ⊥
IsAccess shows.Receive = ⊥
IsAccess shows.Rest = ⊥
