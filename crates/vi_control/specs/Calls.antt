-- What the drivers' and the back ends' calls do to the control's state.
use Rattle.std.specs.Prelude.{◌≡◌, ℕ, ◌+◌, ◌^◌, ◌≤◌, ◌<◌, true, false, List, [], ◌∷◌, ◌++◌, drop, get_or, set, None, IsTrue}
use Rattle.vi_bytes.specs.Parts.{IsTransfer}
use Rattle.vi_history.specs.declared.call.Caller.{Caller}
use Rattle.vi_history.specs.declared.call.Caller.TheVariants.{Driver, Back}
use Rattle.vi_iotlb.specs.declared.frame.Frame.{Frame}
use Rattle.vi_iotlb.specs.declared.frame.Frame.TheVariants as frame
use Rattle.vi_model.specs.Lanes.{Down, Miss}
use Rattle.vi_model.specs.Control.{Port, Link, Events, Control, driver_count, port_of, link_of, with_port, with_link}
use Rattle.vi_model.specs.Places.{place_in}
use Rattle.vi_calls.specs.Collecting.{without_answer}
use Rattle.vi_model.specs.Drivers.{first_answer}
use Rattle.vi_removals.specs.Takings.{has_id}
use Rattle.vi_control.specs.declared.transfer.Transfer.{Transfer}
use Rattle.vi_control.specs.Plan.{Plan}
use Rattle.vi_control.specs.Asked.{transfer_at, asked_at}

-- the driver's row without the answered line of the lowest number
abbrev pub collected : ℕ → Control → Control
collected driver c = let p : Port = port_of c driver in with_port c driver (without_answer (first_answer p.answered) p)

-- a driver, or the back end of one of the endpoints
abbrev pub IsCaller : List ℕ → Caller → Type 0
IsCaller ids (Driver number) = number < driver_count
IsCaller ids (Back id) = IsTrue (has_id id ids)

-- how many of the caller's first lines are posted as finished
abbrev pub posted_by : List ℕ → Control → Caller → ℕ
posted_by ids c (Driver number) = (port_of c number).posted
posted_by ids c (Back id) = get_or c.posted (place_in ids id) 0

-- so many are
abbrev pub with_posted : List ℕ → Caller → ℕ → Control → Control
with_posted ids (Driver number) lines c = let p : Port = port_of c number in with_port c number (record p { posted = lines })
with_posted ids (Back id) lines c = record c { posted = set c.posted (place_in ids id) lines }

-- the address is one of the first 2^16 from the transfer's first on
pub record IsWithin (t : Transfer) (iova : ℕ) : Type 0 where
  pub low : t.iova ≤ iova
  pub high : iova < t.iova + 65536

-- a back end may ask: it has no other miss, and the address is one of its first line after the posted ones
pub record MayAsk (plan : Plan) (place : ℕ) (x : Link) (iova len : ℕ) : Type 0 where
  pub transfer : IsTransfer iova len
  pub up : x.up ≡ []
  pub parked : x.parked ≡ None
  pub few : x.posted + 1 < 2 ^ 32
  pub within : IsWithin (transfer_at plan place (x.posted + 1)) iova

-- what a back end may send: a Miss or an AccessFail where it may ask, and an Ack where there is room for one
abbrev pub MaySend : Plan → ℕ → Link → Frame → Type 0
MaySend plan place x (frame.Miss iova len need) = MayAsk plan place x iova len
MaySend plan place x (frame.AccessFail iova len need) = MayAsk plan place x iova len
MaySend plan place x (frame.Update page count target permission) = ⊥
MaySend plan place x (frame.Invalidate span) = ⊥
MaySend plan place x frame.Ack = x.acks < 8
MaySend plan place x (frame.Reply fault) = ⊥

-- the row of a back end with a miss more on its way up
abbrev pub with_miss : Miss → Link → Link
with_miss m x = record x { up = x.up ++ m ∷ [] }

-- and with what it sends
abbrev pub sent_link : Plan → ℕ → Frame → Link → Link
sent_link plan place (frame.Miss iova len need) x = with_miss (asked_at plan place x.posted iova len need false) x
sent_link plan place (frame.AccessFail iova len need) x = with_miss (asked_at plan place x.posted iova len need true) x
sent_link plan place (frame.Update page count target permission) x = x
sent_link plan place (frame.Invalidate span) x = x
sent_link plan place frame.Ack x = record x { acks = x.acks + 1 }
sent_link plan place (frame.Reply fault) x = x

-- the back end at a place asks
abbrev pub asking : ℕ → Miss → Control → Control
asking place m c = with_link c place (with_miss m (link_of c place))

-- or sends any frame
abbrev pub sent : Plan → ℕ → Frame → Control → Control
sent plan place f c = with_link c place (sent_link plan place f (link_of c place))

-- the row without what the back end receives next: the oldest Update or Invalidate, or else the oldest reply
abbrev pub received_from : List Down → Link → Link
received_from [] x = record x { replies = drop 1 x.replies }
received_from (oldest ∷ down) x = record x { down = down }

abbrev pub received : ℕ → Control → Control
received place c = let x : Link = link_of c place in with_link c place (received_from x.down x)

-- the oldest fault record that nobody has read is read
abbrev pub without_oldest : Control → Control
without_oldest c = let e : Events = c.events in record c { events = record e { waiting = drop 1 e.waiting } }
