-- The lowest places at which there is something to serve, by the parts of a control.
use Rattle.std.specs.Prelude.{ℕ, Bool, false, not, ◌||◌, nat_lt, length, get_or, find, Option, Some, None}
use Rattle.std.specs.List.{range_with_len}
use Rattle.vi_history.specs.Device.{Dev}
use Rattle.vi_lanes.specs.Value.{LanesValue, lanes_at, parked_at}
use Rattle.vi_model.specs.Lanes.{Lanes, Miss}
use Rattle.vi_model.specs.Removals.{closed}
use Rattle.vi_model.specs.Serves.{page_of}
use Rattle.vi_removals.specs.Value.{RemovalsValue, removals_of}

-- the id of the endpoint at a place
abbrev pub id_in : RemovalsValue → ℕ → ℕ
id_in removals place = get_or removals.ids place 0

-- an open removal closes the page for the back end at the place
abbrev pub closed_at : Dev → RemovalsValue → ℕ → ℕ → Bool
closed_at dev removals place page = closed dev (id_in removals place) place page (removals_of removals)

-- a frame of these lanes is on its way up
abbrev pub has_frame_in : Lanes → Bool
has_frame_in lanes = nat_lt 0 lanes.acks || nat_lt 0 (length lanes.up)

-- the lowest of so many places with a frame
abbrev pub first_frame_in : ℕ → LanesValue → Option ℕ
first_frame_in places lanes = find (λ place. has_frame_in (lanes_at place lanes)) (range_with_len 0 places)

-- a miss is there, and its page isn't closed
abbrev pub is_free_at : Dev → RemovalsValue → ℕ → Option Miss → Bool
is_free_at dev removals place None = false
is_free_at dev removals place (Some m) = not (closed_at dev removals place (page_of m.iova))

-- the lowest place with a parked miss whose page isn't closed
abbrev pub first_free_in : Dev → RemovalsValue → LanesValue → Option ℕ
first_free_in dev removals lanes = find (λ place. is_free_at dev removals place (parked_at place lanes)) (range_with_len 0 (length removals.ids))
