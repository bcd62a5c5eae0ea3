-- The lanes of the back ends, as lists of frames, the oldest first.
use Rattle.std.specs.Prelude.{ℕ, ◌+◌, List, [], ◌∷◌, ◌++◌, drop, slice_index_or, slice_set}
use Rattle.vi_iotlb.specs.Frames.{frame_bytes}
use Rattle.vi_iotlb.specs.declared.frame.Frame.{Frame}
use Rattle.vi_mail.specs.declared.row.Lane.{Lane}
use Rattle.vi_mail.specs.declared.row.Lane.TheVariants.{MainDown, MainUp, BackDown, BackUp}

-- the four lanes of one back end
pub record FourLanes : Type 0 where
  pub main_down : List Frame
  pub main_up : List Frame
  pub back_down : List Frame
  pub back_up : List Frame

-- the lanes of each back end, by its place, and the number that gives their bounds
pub record Lanes : Type 0 where
  pub rows : List FourLanes
  pub slots : ℕ

-- the lanes of one back end with that number
pub record SlottedLanes : Type 0 where
  pub lanes : FourLanes
  pub slots : ℕ

-- one lane, and how many frames it may have
pub record Bounded : Type 0 where
  pub frames : List Frame
  pub bound : ℕ

abbrev pub empty_queue : ℕ → Bounded
empty_queue bound = record { frames = []; bound = bound }

abbrev pub appended : Frame → Bounded → Bounded
appended frame queue = record queue { frames = queue.frames ++ frame ∷ [] }

abbrev pub without_oldest : Bounded → Bounded
without_oldest queue = record queue { frames = drop 1 queue.frames }

-- one of the four, and the four with another list for it
abbrev pub lane_of : Lane → FourLanes → List Frame
lane_of MainDown lanes = lanes.main_down
lane_of MainUp lanes = lanes.main_up
lane_of BackDown lanes = lanes.back_down
lane_of BackUp lanes = lanes.back_up

abbrev pub with_lane : Lane → List Frame → FourLanes → FourLanes
with_lane MainDown frames lanes = record lanes { main_down = frames }
with_lane MainUp frames lanes = record lanes { main_up = frames }
with_lane BackDown frames lanes = record lanes { back_down = frames }
with_lane BackUp frames lanes = record lanes { back_up = frames }

-- how many frames a lane may have
abbrev pub bound_of : Lane → ℕ → ℕ
bound_of MainDown slots = slots + 1
bound_of MainUp slots = slots
bound_of BackDown slots = 1
bound_of BackUp slots = 1

abbrev pub no_lanes : FourLanes
no_lanes = record { main_down = []; main_up = []; back_down = []; back_up = [] }

-- a frame goes to the end of its lane
abbrev pub sent_in : Lane → Frame → FourLanes → FourLanes
sent_in lane frame lanes = with_lane lane (lane_of lane lanes ++ frame ∷ []) lanes

-- the oldest frame leaves its lane, if there is one
abbrev pub taken_from : Lane → FourLanes → FourLanes
taken_from lane lanes = with_lane lane (drop 1 (lane_of lane lanes)) lanes

-- the lanes of the back end at a place
abbrev pub lanes_at : ℕ → Lanes → FourLanes
lanes_at place mail = slice_index_or mail.rows place no_lanes

abbrev pub lane_at : ℕ → Lane → Lanes → List Frame
lane_at place lane mail = lane_of lane (lanes_at place mail)

-- and the same for a lane of the back end at a place
abbrev pub sent : ℕ → Lane → Frame → Lanes → Lanes
sent place lane frame mail = record mail { rows = slice_set mail.rows place (sent_in lane frame (lanes_at place mail)) }

abbrev pub taken : ℕ → Lane → Lanes → Lanes
taken place lane mail = record mail { rows = slice_set mail.rows place (taken_from lane (lanes_at place mail)) }

-- the bytes of the oldest frame, or none where there is none
abbrev pub oldest_bytes : List Frame → List ℕ
oldest_bytes [] = []
oldest_bytes (frame ∷ frames) = frame_bytes frame
