-- How what is kept is seen: frames, and beside them the line and the part of a back end's one open miss.
use Rattle.std.specs.Prelude.{◌≡◌, ℕ, ◌≤◌, Bool, true, false, List, [], ◌∷◌, length, map, replicate, Option, None, IfSome}
use Rattle.std.specs.Option.{option_map}
use Rattle.vi_bytes.specs.declared.lease.Need.{Need}
use Rattle.vi_bytes.specs.declared.lease.Need.TheVariants.{Read}
use Rattle.vi_iotlb.specs.Frames.{IsSendable}
use Rattle.vi_iotlb.specs.declared.frame.Frame.{Frame}
use Rattle.vi_iotlb.specs.declared.frame.Frame.TheVariants as frame
use Rattle.vi_mail.specs.Lanes.{FourLanes, no_lanes}
use Rattle.vi_model.specs.Lanes.{Down, Update, Invalidate, Miss, Lanes}
use Rattle.vi_model.specs.Tasks.{reach_between}
use Rattle.vi_lanes.specs.declared.miss.Origin.{Origin}
use Rattle.vi_lanes.specs.declared.lanes.Lanes.TheInside.{Inside}
use Rattle.vi_lanes.specs.Value.{LanesValue}
use Rattle.vi_lanes.specs.Frames.{down_frame, miss_frame}

-- what is kept for one back end: its lanes, its parked frame, and where its open miss comes from
pub record Desk : Type 0 where
  pub lanes : FourLanes
  pub parked : Option Frame
  pub origin : Origin

abbrev pub nowhere : Origin
nowhere = record { line = 0; part = 0 }

abbrev pub no_desk : Desk
no_desk = record { lanes = no_lanes; parked = None; origin = nowhere }

-- An Update or an Invalidate, by its frame. This and the two below are total: what is never in their lane is seen as
-- something.
abbrev pub down_of : Frame → Down
down_of (frame.Miss iova len need) = Invalidate None
down_of (frame.AccessFail iova len need) = Invalidate None
down_of (frame.Update page count target perm) = Update (record { page = page; count = count; target = target; perm = perm })
down_of (frame.Invalidate span) = Invalidate (reach_between span.first span.last)
down_of frame.Ack = Invalidate None
down_of (frame.Reply fault) = Invalidate None

-- the miss of this line and part
abbrev pub miss_from : Origin → ℕ → ℕ → Need → Bool → Miss
miss_from origin iova len need fail = record { line = origin.line; part = origin.part; iova = iova; len = len; need = need; fail = fail }

-- the miss of this line and part, by its frame
abbrev pub miss_of : Origin → Frame → Miss
miss_of origin (frame.Miss iova len need) = miss_from origin iova len need false
miss_of origin (frame.AccessFail iova len need) = miss_from origin iova len need true
miss_of origin (frame.Update page count target perm) = miss_from origin 0 0 Read false
miss_of origin (frame.Invalidate span) = miss_from origin 0 0 Read false
miss_of origin frame.Ack = miss_from origin 0 0 Read false
miss_of origin (frame.Reply fault) = miss_from origin 0 0 Read false

-- whether the access faults, by the reply
abbrev pub fault_of : Frame → Bool
fault_of (frame.Miss iova len need) = false
fault_of (frame.AccessFail iova len need) = false
fault_of (frame.Update page count target perm) = false
fault_of (frame.Invalidate span) = false
fault_of frame.Ack = false
fault_of (frame.Reply fault) = fault

-- the lanes and the parked miss of one back end, as they are seen
abbrev pub desk_lanes : Desk → Lanes
desk_lanes d = record {
  down = map down_of d.lanes.main_down;
  acks = length d.lanes.main_up;
  up = map (miss_of d.origin) d.lanes.back_up;
  replies = map fault_of d.lanes.back_down;
}

abbrev pub desk_parked : Desk → Option Miss
desk_parked d = option_map (miss_of d.origin) d.parked

-- what is parked asks for a transfer; no other miss of that back end is under way
pub record IsParked (origin : Origin) (back_up : List Frame) (parked : Frame) : Type 0 where
  pub asks : miss_frame (miss_of origin parked) ≡ parked
  pub sendable : IsSendable parked
  pub alone : back_up ≡ []

-- each lane has frames of its kind: those of what is seen of it; and at most one miss is under way
pub record IsDesk (d : Desk) : Type 0 where
  pub down : map down_frame (map down_of d.lanes.main_down) ≡ d.lanes.main_down
  pub acks : replicate (length d.lanes.main_up) frame.Ack ≡ d.lanes.main_up
  pub up : map miss_frame (map (miss_of d.origin) d.lanes.back_up) ≡ d.lanes.back_up
  pub replies : map (λ fault. frame.Reply fault) (map fault_of d.lanes.back_down) ≡ d.lanes.back_down
  pub parked : IfSome d.parked (IsParked d.origin d.lanes.back_up)
  pub most : length d.lanes.back_up ≤ 1

-- the three tables joined by place, as far as there are lanes
abbrev pub desks : List FourLanes → List (Option Frame) → List Origin → List Desk
desks [] parked origins = []
desks (row ∷ rows) [] origins = []
desks (row ∷ rows) (frame ∷ parked) [] = []
desks (row ∷ rows) (frame ∷ parked) (origin ∷ origins) = record { lanes = row; parked = frame; origin = origin } ∷ desks rows parked origins

abbrev pub AreDesks : List Desk → Type 0
AreDesks [] = Unit {0}
AreDesks (d ∷ ds) = IsDesk d × AreDesks ds

abbrev pub desks_seen : List Desk → LanesValue
desks_seen ds = record { mail = map desk_lanes ds; parked = map desk_parked ds }

abbrev pub desks_in : Inside → List Desk
desks_in m = desks m.mail.rows m.parked m.origins

abbrev pub seen : Inside → LanesValue
seen m = desks_seen (desks_in m)

-- what is true of what is kept
pub record IsKept (m : Inside) : Type 0 where
  pub slots : m.mail.slots ≡ 8
  pub rows : length m.mail.rows ≤ 16
  pub parked : length m.parked ≡ 16
  pub origins : length m.origins ≡ 16
  pub desks : AreDesks (desks_in m)
