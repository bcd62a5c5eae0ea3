-- The lanes of the back ends and what is parked for them, and how each call changes them.
use Rattle.std.specs.Prelude.{ℕ, ◌+◌, ◌-◌, Bool, List, [], ◌∷◌, ◌++◌, drop, get_or, set, Option, None}
use Rattle.vi_model.specs.Lanes.{Down, Miss, Lanes}
use Rattle.vi_model.specs.Control.{no_lanes}

-- for each back end, by its place, its four lanes and its parked miss
pub record LanesValue : Type 0 where
  pub mail : List Lanes
  pub parked : List (Option Miss)

-- the lanes of the back end at a place
abbrev pub lanes_at : ℕ → LanesValue → Lanes
lanes_at place value = get_or value.mail place no_lanes

-- and its parked miss
abbrev pub parked_at : ℕ → LanesValue → Option Miss
parked_at place value = get_or value.parked place None

-- with these lanes for the back end at a place
abbrev pub with_lanes : ℕ → Lanes → LanesValue → LanesValue
with_lanes place lanes value = record value { mail = set value.mail place lanes }

-- with this parked for it
abbrev pub with_parked : ℕ → Option Miss → LanesValue → LanesValue
with_parked place miss value = record value { parked = set value.parked place miss }

-- an Update or an Invalidate is sent down
abbrev pub told : Down → Lanes → Lanes
told down lanes = record lanes { down = lanes.down ++ down ∷ [] }

-- an acknowledgement is sent up
abbrev pub acknowledged : Lanes → Lanes
acknowledged lanes = record lanes { acks = lanes.acks + 1 }

-- a miss is sent up
abbrev pub asked : Miss → Lanes → Lanes
asked miss lanes = record lanes { up = lanes.up ++ miss ∷ [] }

-- a reply is sent down
abbrev pub replied : Bool → Lanes → Lanes
replied fault lanes = record lanes { replies = lanes.replies ++ fault ∷ [] }

-- an acknowledgement is taken
abbrev pub without_ack : Lanes → Lanes
without_ack lanes = record lanes { acks = lanes.acks - 1 }

-- the oldest miss is taken
abbrev pub without_miss : Lanes → Lanes
without_miss lanes = record lanes { up = drop 1 lanes.up }

-- the oldest reply is taken
abbrev pub without_reply : Lanes → Lanes
without_reply lanes = record lanes { replies = drop 1 lanes.replies }

-- what the back end receives next is taken: the oldest Update or Invalidate, or else the oldest reply
abbrev pub received_from : List Down → Lanes → Lanes
received_from [] lanes = without_reply lanes
received_from (oldest ∷ down) lanes = record lanes { down = down }

abbrev pub received : Lanes → Lanes
received lanes = received_from lanes.down lanes
