-- The three tables as one list of desks.
use Rattle.std.proofs.Common.{◌≡◌, ◌<◌, ◌≤◌, ℕ, zero, suc, List, [], ◌∷◌, length, map, get_or, set, replicate, Option, None, refl, ap, ◌∙◌, arith}
use Rattle.vi_iotlb.specs.declared.frame.Frame.{Frame}
use Rattle.vi_mail.specs.Lanes.{FourLanes, no_lanes}
use Rattle.vi_lanes.specs.declared.miss.Origin.{Origin}
use Rattle.vi_lanes.specs.Frames.{lanes_frames}
use Rattle.vi_lanes.specs.Inside.{Desk, no_desk, desks, desk_lanes, desk_parked, IsDesk, AreDesks}

-- one row is changed
pub desks-rows : (rows : List FourLanes) (parked : List (Option Frame)) (origins : List Origin) (k : ℕ) (lanes : FourLanes)
    → desks (set rows k lanes) parked origins ≡ set (desks rows parked origins) k (record (get_or (desks rows parked origins) k no_desk) { lanes = lanes })
desks-rows [] parked origins k lanes = refl
desks-rows (row ∷ rows) [] origins zero lanes = refl
desks-rows (row ∷ rows) [] origins (suc k) lanes = refl
desks-rows (row ∷ rows) (p ∷ parked) [] zero lanes = refl
desks-rows (row ∷ rows) (p ∷ parked) [] (suc k) lanes = refl
desks-rows (row ∷ rows) (p ∷ parked) (o ∷ origins) zero lanes = refl
desks-rows (row ∷ rows) (p ∷ parked) (o ∷ origins) (suc k) lanes = ap (λ ds. record { lanes = row; parked = p; origin = o } ∷ ds) (desks-rows rows parked origins k lanes)

-- one parked frame is changed
pub desks-parked : (rows : List FourLanes) (parked : List (Option Frame)) (origins : List Origin) (k : ℕ) (new : Option Frame)
    → desks rows (set parked k new) origins ≡ set (desks rows parked origins) k (record (get_or (desks rows parked origins) k no_desk) { parked = new })
desks-parked [] parked origins k new = refl
desks-parked (row ∷ rows) [] origins k new = refl
desks-parked (row ∷ rows) (p ∷ parked) [] zero new = refl
desks-parked (row ∷ rows) (p ∷ parked) [] (suc k) new = refl
desks-parked (row ∷ rows) (p ∷ parked) (o ∷ origins) zero new = refl
desks-parked (row ∷ rows) (p ∷ parked) (o ∷ origins) (suc k) new = ap (λ ds. record { lanes = row; parked = p; origin = o } ∷ ds) (desks-parked rows parked origins k new)

-- one row and its origin are changed
pub desks-asked : (rows : List FourLanes) (parked : List (Option Frame)) (origins : List Origin) (k : ℕ) (lanes : FourLanes) (new : Origin)
    → desks (set rows k lanes) parked (set origins k new) ≡ set (desks rows parked origins) k (record (get_or (desks rows parked origins) k no_desk) { lanes = lanes; origin = new })
desks-asked [] parked origins k lanes new = refl
desks-asked (row ∷ rows) [] origins zero lanes new = refl
desks-asked (row ∷ rows) [] origins (suc k) lanes new = refl
desks-asked (row ∷ rows) (p ∷ parked) [] zero lanes new = refl
desks-asked (row ∷ rows) (p ∷ parked) [] (suc k) lanes new = refl
desks-asked (row ∷ rows) (p ∷ parked) (o ∷ origins) zero lanes new = refl
desks-asked (row ∷ rows) (p ∷ parked) (o ∷ origins) (suc k) lanes new = ap (λ ds. record { lanes = row; parked = p; origin = o } ∷ ds) (desks-asked rows parked origins k lanes new)

-- one parked frame and its origin are changed
pub desks-parking : (rows : List FourLanes) (parked : List (Option Frame)) (origins : List Origin) (k : ℕ) (new : Option Frame) (origin : Origin)
    → desks rows (set parked k new) (set origins k origin) ≡ set (desks rows parked origins) k (record (get_or (desks rows parked origins) k no_desk) { parked = new; origin = origin })
desks-parking [] parked origins k new origin = refl
desks-parking (row ∷ rows) [] origins k new origin = refl
desks-parking (row ∷ rows) (p ∷ parked) [] zero new origin = refl
desks-parking (row ∷ rows) (p ∷ parked) [] (suc k) new origin = refl
desks-parking (row ∷ rows) (p ∷ parked) (o ∷ origins) zero new origin = refl
desks-parking (row ∷ rows) (p ∷ parked) (o ∷ origins) (suc k) new origin = ap (λ ds. record { lanes = row; parked = p; origin = o } ∷ ds) (desks-parking rows parked origins k new origin)

-- what a desk has is what the tables have at its place
pub lanes_there : (rows : List FourLanes) (parked : List (Option Frame)) (origins : List Origin) (k : ℕ) → length rows ≤ length parked → length rows ≤ length origins
    → get_or rows k no_lanes ≡ (get_or (desks rows parked origins) k no_desk).lanes
lanes_there [] parked origins k p o = refl
lanes_there (row ∷ rows) [] origins k p o = absurd (omega (arith, p))
lanes_there (row ∷ rows) (x ∷ parked) [] k p o = absurd (omega (arith, o))
lanes_there (row ∷ rows) (x ∷ parked) (y ∷ origins) zero p o = refl
lanes_there (row ∷ rows) (x ∷ parked) (y ∷ origins) (suc k) p o = lanes_there rows parked origins k (omega (arith, p)) (omega (arith, o))

pub parked_there : (rows : List FourLanes) (parked : List (Option Frame)) (origins : List Origin) (k : ℕ) → k < length (desks rows parked origins)
    → get_or parked k None ≡ (get_or (desks rows parked origins) k no_desk).parked
parked_there [] parked origins k below = absurd (omega (arith, below))
parked_there (row ∷ rows) [] origins k below = absurd (omega (arith, below))
parked_there (row ∷ rows) (x ∷ parked) [] k below = absurd (omega (arith, below))
parked_there (row ∷ rows) (x ∷ parked) (y ∷ origins) zero below = refl
parked_there (row ∷ rows) (x ∷ parked) (y ∷ origins) (suc k) below = parked_there rows parked origins k (omega (arith, below))

pub origin_there : (rows : List FourLanes) (parked : List (Option Frame)) (origins : List Origin) (k : ℕ) (d : Origin) → k < length (desks rows parked origins)
    → get_or origins k d ≡ (get_or (desks rows parked origins) k no_desk).origin
origin_there [] parked origins k d below = absurd (omega (arith, below))
origin_there (row ∷ rows) [] origins k d below = absurd (omega (arith, below))
origin_there (row ∷ rows) (x ∷ parked) [] k d below = absurd (omega (arith, below))
origin_there (row ∷ rows) (x ∷ parked) (y ∷ origins) zero d below = refl
origin_there (row ∷ rows) (x ∷ parked) (y ∷ origins) (suc k) d below = origin_there rows parked origins k d (omega (arith, below))

-- there is a desk for each row
pub length-desks : (rows : List FourLanes) (parked : List (Option Frame)) (origins : List Origin) → length rows ≤ length parked → length rows ≤ length origins
    → length (desks rows parked origins) ≡ length rows
length-desks [] parked origins p o = refl
length-desks (row ∷ rows) [] origins p o = absurd (omega (arith, p))
length-desks (row ∷ rows) (x ∷ parked) [] p o = absurd (omega (arith, o))
length-desks (row ∷ rows) (x ∷ parked) (y ∷ origins) p o = ap suc (length-desks rows parked origins (omega (arith, p)) (omega (arith, o)))

pub AreDesks-set : (ds : List Desk) (k : ℕ) (new : Desk) → AreDesks ds → IsDesk new → AreDesks (set ds k new)
AreDesks-set [] k new all one = tt
AreDesks-set (d ∷ ds) zero new all one = (one, all.1)
AreDesks-set (d ∷ ds) (suc k) new all one = (all.0, AreDesks-set ds k new all.1 one)

no_desk_is : IsDesk no_desk
no_desk_is = record { down = refl; acks = refl; up = refl; replies = refl; parked = tt; most = omega arith }

pub IsDesk-get_or : (ds : List Desk) (k : ℕ) → AreDesks ds → IsDesk (get_or ds k no_desk)
IsDesk-get_or [] k all = no_desk_is
IsDesk-get_or (d ∷ ds) zero all = all.0
IsDesk-get_or (d ∷ ds) (suc k) all = IsDesk-get_or ds k all.1

-- the frames of what is seen of a desk are its lanes
pub lanes_frames-desk : (d : Desk) → IsDesk d → lanes_frames (desk_lanes d) ≡ d.lanes
lanes_frames-desk d kept = rw (kept.down, kept.acks, kept.up, kept.replies) refl

pub rows-are : (rows : List FourLanes) (parked : List (Option Frame)) (origins : List Origin) → length rows ≤ length parked → length rows ≤ length origins
    → AreDesks (desks rows parked origins) → map lanes_frames (map desk_lanes (desks rows parked origins)) ≡ rows
rows-are [] parked origins p o all = refl
rows-are (row ∷ rows) [] origins p o all = absurd (omega (arith, p))
rows-are (row ∷ rows) (x ∷ parked) [] p o all = absurd (omega (arith, o))
rows-are (row ∷ rows) (x ∷ parked) (y ∷ origins) p o all =
    let rest = rows-are rows parked origins (omega (arith, p)) (omega (arith, o)) all.1 in
    let first = lanes_frames-desk (record { lanes = row; parked = x; origin = y }) all.0 in
    ap (λ r. r ∷ map lanes_frames (map desk_lanes (desks rows parked origins))) first ∙ ap (λ rs. row ∷ rs) rest

-- where nothing is
pub empty_lanes : (n : ℕ) (parked : List (Option Frame)) (origins : List Origin) → n ≤ length parked → n ≤ length origins
    → map desk_lanes (desks (replicate n no_lanes) parked origins) ≡ replicate n (desk_lanes no_desk)
empty_lanes zero parked origins p o = refl
empty_lanes (suc n) [] origins p o = absurd (omega (arith, p))
empty_lanes (suc n) (x ∷ parked) [] p o = absurd (omega (arith, o))
empty_lanes (suc n) (x ∷ parked) (y ∷ origins) p o = ap (λ rs. desk_lanes no_desk ∷ rs) (empty_lanes n parked origins (omega (arith, p)) (omega (arith, o)))

pub empty_parked : (n k : ℕ) (origins : List Origin) → n ≤ k → n ≤ length origins
    → map desk_parked (desks (replicate n no_lanes) (replicate k None) origins) ≡ replicate n None
empty_parked zero k origins p o = refl
empty_parked (suc n) zero origins p o = absurd (omega (arith, p))
empty_parked (suc n) (suc k) [] p o = absurd (omega (arith, o))
empty_parked (suc n) (suc k) (y ∷ origins) p o = ap (λ rs. None ∷ rs) (empty_parked n k origins (omega (arith, p)) (omega (arith, o)))

pub empty_desks : (n k : ℕ) (origins : List Origin) → AreDesks (desks (replicate n no_lanes) (replicate k None) origins)
empty_desks zero k origins = tt
empty_desks (suc n) zero origins = tt
empty_desks (suc n) (suc k) [] = tt
empty_desks (suc n) (suc k) (y ∷ origins) = (record { down = refl; acks = refl; up = refl; replies = refl; parked = tt; most = omega arith }, empty_desks n k origins)
