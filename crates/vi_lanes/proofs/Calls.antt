-- What a call makes of what is kept.
use Rattle.std.proofs.Common.{◌≡◌, ◌<◌, ◌≤◌, ℕ, Bool, List, [], ◌∷◌, length, map, get_or, set, slice_get, replicate, Option, Some, None, refl, ap, sym, ◌∙◌, arith}
use Rattle.std.proofs.Math.ListN.{get_or-map}
use Rattle.std.specs.Option.{option_map}
use Rattle.std.proofs.Math.Seq.{map-set_same}
use Rattle.std.proofs.lemmas.List.{map-set, length-map, length-set, length-replicate, get_or-set_same, drop_all}
use Rattle.std.proofs.lemmas.Option.{slice_get-map}
use Rattle.vi_parked.specs.Asking.{IsAsking}
use Rattle.vi_iotlb.specs.Frames.{IsSendable}
use Rattle.vi_iotlb.specs.declared.frame.Frame.{Frame}
use Rattle.vi_iotlb.specs.declared.frame.Frame.TheVariants as frame
use Rattle.vi_mail.specs.Lanes.{FourLanes, sent_in, taken_from, sent, taken}
use Rattle.vi_mail.specs.Lanes.{lanes_at as row_of, no_lanes as no_row}
use Rattle.vi_model.specs.Control.{no_lanes}
use Rattle.vi_mail.specs.declared.row.Lane.{Lane}
use Rattle.vi_mail.specs.declared.row.Lane.TheVariants.{MainDown, MainUp, BackDown, BackUp}
use Rattle.vi_model.specs.Lanes.{Lanes}
use Rattle.vi_lanes.specs.declared.lanes.Lanes.TheInside.{Inside}
use Rattle.vi_lanes.specs.declared.miss.Miss.{Miss}
use Rattle.vi_lanes.specs.declared.miss.Origin.{Origin}
use Rattle.vi_lanes.specs.Value.{lanes_at, parked_at, with_lanes, with_parked, told, acknowledged, asked, replied, without_ack, without_miss, received}
use Rattle.vi_lanes.specs.Frames.{said, down_frame, miss_frame, next_frame}
use Rattle.vi_lanes.specs.Inside.{Desk, no_desk, nowhere, IsDesk, IsParked, down_of, miss_of, desk_lanes, desk_parked, desks_in, seen, IsKept}
use Rattle.vi_lanes.proofs.Tables.{desks-rows, desks-parked, desks-asked, desks-parking, lanes_there, parked_there, origin_there, length-desks, AreDesks-set, IsDesk-get_or, empty_lanes, empty_parked, empty_desks}
use Rattle.vi_lanes.proofs.Moves.{origin_of, told_desk, told_lanes, acknowledged_desk, acknowledged_lanes, replied_desk, replied_lanes, asked_desk, asked_lanes, parked_desk, unparked_desk, taken_desk, without_ack_lanes, without_miss_lanes, without_reply_lanes, without_down_lanes, miss_of-miss_frame, reply_received, down_received, oldest_asks, parked_asks, asking_is_free}

-- the desk at a place
abbrev pub desk_at : Inside → ℕ → Desk
desk_at m k = get_or (desks_in m) k no_desk

pub desk_is : (m : Inside) (k : ℕ) → IsKept m → IsDesk (desk_at m k)
desk_is m k kept = IsDesk-get_or (desks_in m) k kept.desks

-- what is seen at a place is its desk's
pub lanes_seen : (m : Inside) (k : ℕ) → lanes_at k (seen m) ≡ desk_lanes (desk_at m k)
lanes_seen m k = get_or-map desk_lanes (desks_in m) k no_desk

pub parked_seen : (m : Inside) (k : ℕ) → parked_at k (seen m) ≡ desk_parked (desk_at m k)
parked_seen m k = get_or-map desk_parked (desks_in m) k no_desk

-- and so is what is kept
pub row_at : (m : Inside) (k : ℕ) → IsKept m → row_of k m.mail ≡ (desk_at m k).lanes
row_at m k kept = lanes_there m.mail.rows m.parked m.origins k (omega (arith, kept.rows, kept.parked)) (omega (arith, kept.rows, kept.origins))

below_desks : (m : Inside) (k : ℕ) → k < length (seen m).mail → k < length (desks_in m)
below_desks m k below = omega (arith, below, length-map (desks_in m) desk_lanes)

pub frame_at : (m : Inside) (k : ℕ) → k < length (seen m).mail → get_or m.parked k None ≡ (desk_at m k).parked
frame_at m k below = parked_there m.mail.rows m.parked m.origins k (below_desks m k below)

pub origin_at : (m : Inside) (k : ℕ) (d : Origin) → k < length (seen m).mail → get_or m.origins k d ≡ (desk_at m k).origin
origin_at m k d below = origin_there m.mail.rows m.parked m.origins k d (below_desks m k below)

-- a place is one of the mail's, and below 16
pub in_mail : (m : Inside) (k : ℕ) → IsKept m → k < length (seen m).mail → k < length m.mail.rows
in_mail m k kept below =
    let all = length-desks m.mail.rows m.parked m.origins (omega (arith, kept.rows, kept.parked)) (omega (arith, kept.rows, kept.origins)) in
    omega (arith, below_desks m k below, all)

pub below_16 : (m : Inside) (k : ℕ) → IsKept m → k < length (seen m).mail → k < 16
below_16 m k kept below = omega (arith, in_mail m k kept below, kept.rows)

-- how many frames are in each lane
pub length-main_down : (m : Inside) (k : ℕ) → IsKept m → length (row_of k m.mail).main_down ≡ length (lanes_at k (seen m)).down
length-main_down m k kept = rw (row_at m k kept, lanes_seen m k) (sym (length-map (desk_at m k).lanes.main_down down_of))

pub length-main_up : (m : Inside) (k : ℕ) → IsKept m → length (row_of k m.mail).main_up ≡ (lanes_at k (seen m)).acks
length-main_up m k kept = rw (row_at m k kept, lanes_seen m k) refl

pub length-back_down : (m : Inside) (k : ℕ) → IsKept m → length (row_of k m.mail).back_down ≡ length (lanes_at k (seen m)).replies
length-back_down m k kept = rw (row_at m k kept, lanes_seen m k) (sym (length-map (desk_at m k).lanes.back_down _))

pub length-back_up : (m : Inside) (k : ℕ) → IsKept m → length (row_of k m.mail).back_up ≡ length (lanes_at k (seen m)).up
length-back_up m k kept = rw (row_at m k kept, lanes_seen m k) (sym (length-map (desk_at m k).lanes.back_up _))

-- one row is changed
abbrev pub with_row : Inside → ℕ → FourLanes → Inside
with_row m k lanes = record m { mail = record m.mail { rows = set m.mail.rows k lanes } }

row_kept : (m : Inside) (k : ℕ) (lanes : FourLanes) → IsKept m → IsDesk (record (desk_at m k) { lanes = lanes }) → IsKept (with_row m k lanes)
row_kept m k lanes kept one = record {
  slots = kept.slots;
  rows = rw (length-set m.mail.rows k lanes) kept.rows;
  parked = kept.parked;
  origins = kept.origins;
  desks = rw (desks-rows m.mail.rows m.parked m.origins k lanes) (AreDesks-set (desks_in m) k (record (desk_at m k) { lanes = lanes }) kept.desks one);
}

row_seen : (m : Inside) (k : ℕ) (lanes : FourLanes) (x : Lanes) → desk_lanes (record (desk_at m k) { lanes = lanes }) ≡ x → seen (with_row m k lanes) ≡ with_lanes k x (seen m)
row_seen m k lanes x is =
    let d : Desk = record (desk_at m k) { lanes = lanes } in
    rw (desks-rows m.mail.rows m.parked m.origins k lanes, map-set desk_lanes (desks_in m) k d, map-set_same desk_parked (desks_in m) k d no_desk refl, is) refl

-- an Update or an Invalidate is sent
pub told_kept : (m : Inside) (k : ℕ) (f : Frame) → IsKept m → down_frame (down_of f) ≡ f → IsKept (record m { mail = sent k MainDown f m.mail })
told_kept m k f kept same = rw (row_at m k kept) (row_kept m k (sent_in MainDown f (desk_at m k).lanes) kept (told_desk (desk_at m k) f (desk_is m k kept) same))

pub told_seen : (m : Inside) (k : ℕ) (f : Frame) → IsKept m → seen (record m { mail = sent k MainDown f m.mail }) ≡ with_lanes k (told (down_of f) (lanes_at k (seen m))) (seen m)
told_seen m k f kept = rw (row_at m k kept, lanes_seen m k) (row_seen m k (sent_in MainDown f (desk_at m k).lanes) _ (told_lanes (desk_at m k) f))

-- an acknowledgement is sent
pub acknowledged_kept : (m : Inside) (k : ℕ) → IsKept m → IsKept (record m { mail = sent k MainUp frame.Ack m.mail })
acknowledged_kept m k kept = rw (row_at m k kept) (row_kept m k (sent_in MainUp frame.Ack (desk_at m k).lanes) kept (acknowledged_desk (desk_at m k) (desk_is m k kept)))

pub acknowledged_seen : (m : Inside) (k : ℕ) → IsKept m → seen (record m { mail = sent k MainUp frame.Ack m.mail }) ≡ with_lanes k (acknowledged (lanes_at k (seen m))) (seen m)
acknowledged_seen m k kept = rw (row_at m k kept, lanes_seen m k) (row_seen m k (sent_in MainUp frame.Ack (desk_at m k).lanes) _ (acknowledged_lanes (desk_at m k)))

-- a reply is sent
pub replied_kept : (m : Inside) (k : ℕ) (fault : Bool) → IsKept m → IsKept (record m { mail = sent k BackDown (frame.Reply fault) m.mail })
replied_kept m k fault kept =
    rw (row_at m k kept) (row_kept m k (sent_in BackDown (frame.Reply fault) (desk_at m k).lanes) kept (replied_desk (desk_at m k) fault (desk_is m k kept)))

pub replied_seen : (m : Inside) (k : ℕ) (fault : Bool) → IsKept m → seen (record m { mail = sent k BackDown (frame.Reply fault) m.mail }) ≡ with_lanes k (replied fault (lanes_at k (seen m))) (seen m)
replied_seen m k fault kept = rw (row_at m k kept, lanes_seen m k) (row_seen m k (sent_in BackDown (frame.Reply fault) (desk_at m k).lanes) _ (replied_lanes (desk_at m k) fault))

-- a frame is taken
pub taken_kept : (m : Inside) (k : ℕ) (lane : Lane) → IsKept m → IsKept (record m { mail = taken k lane m.mail })
taken_kept m k lane kept = rw (row_at m k kept) (row_kept m k (taken_from lane (desk_at m k).lanes) kept (taken_desk lane (desk_at m k) (desk_is m k kept)))

pub without_ack_seen : (m : Inside) (k : ℕ) → IsKept m → seen (record m { mail = taken k MainUp m.mail }) ≡ with_lanes k (without_ack (lanes_at k (seen m))) (seen m)
without_ack_seen m k kept = rw (row_at m k kept, lanes_seen m k) (row_seen m k (taken_from MainUp (desk_at m k).lanes) _ (without_ack_lanes (desk_at m k)))

pub without_miss_seen : (m : Inside) (k : ℕ) → IsKept m → seen (record m { mail = taken k BackUp m.mail }) ≡ with_lanes k (without_miss (lanes_at k (seen m))) (seen m)
without_miss_seen m k kept = rw (row_at m k kept, lanes_seen m k) (row_seen m k (taken_from BackUp (desk_at m k).lanes) _ (without_miss_lanes (desk_at m k)))

pub without_reply_seen : (m : Inside) (k : ℕ) → IsKept m → (row_of k m.mail).main_down ≡ [] → seen (record m { mail = taken k BackDown m.mail }) ≡ with_lanes k (received (lanes_at k (seen m))) (seen m)
without_reply_seen m k kept none =
    let here = row_at m k kept in
    rw (here, lanes_seen m k) (row_seen m k (taken_from BackDown (desk_at m k).lanes) _ (without_reply_lanes (desk_at m k) (rw here at none)))

pub without_down_seen : (m : Inside) (k : ℕ) → IsKept m → ((row_of k m.mail).main_down ≡ [] → ⊥) → seen (record m { mail = taken k MainDown m.mail }) ≡ with_lanes k (received (lanes_at k (seen m))) (seen m)
without_down_seen m k kept some =
    let here = row_at m k kept in
    rw (here, lanes_seen m k) (row_seen m k (taken_from MainDown (desk_at m k).lanes) _ (without_down_lanes (desk_at m k) (rw here at some)))

-- a miss is sent
abbrev asked_in : Inside → ℕ → FourLanes → Origin → Inside
asked_in m k lanes origin = record m { mail = record m.mail { rows = set m.mail.rows k lanes }; origins = set m.origins k origin }

row_asked : (m : Inside) (k : ℕ) (lanes : FourLanes) (origin : Origin) → IsKept m → IsDesk (record (desk_at m k) { lanes = lanes; origin = origin }) → IsKept (asked_in m k lanes origin)
row_asked m k lanes origin kept one = record {
  slots = kept.slots;
  rows = rw (length-set m.mail.rows k lanes) kept.rows;
  parked = kept.parked;
  origins = rw (length-set m.origins k origin) kept.origins;
  desks = rw (desks-asked m.mail.rows m.parked m.origins k lanes origin) (AreDesks-set (desks_in m) k (record (desk_at m k) { lanes = lanes; origin = origin }) kept.desks one);
}

row_asked_seen : (m : Inside) (k : ℕ) (lanes : FourLanes) (origin : Origin) (x : Lanes) → (desk_at m k).parked ≡ None → desk_lanes (record (desk_at m k) { lanes = lanes; origin = origin }) ≡ x
    → seen (asked_in m k lanes origin) ≡ with_lanes k x (seen m)
row_asked_seen m k lanes origin x free is =
    let d : Desk = record (desk_at m k) { lanes = lanes; origin = origin } in
    let same : desk_parked d ≡ desk_parked (desk_at m k) = rw free refl in
    rw (desks-asked m.mail.rows m.parked m.origins k lanes origin, map-set desk_lanes (desks_in m) k d, map-set_same desk_parked (desks_in m) k d no_desk same, is) refl

-- nothing is parked where none is seen, and nothing asks where none is seen
option_none : {A B : Type 0} → (f : A → B) (o : Option A) → option_map f o ≡ None → o ≡ None
option_none f None e = refl
option_none f (Some x) e = absurd (cc)

map_none : {A B : Type 0} → (f : A → B) (xs : List A) → map f xs ≡ [] → xs ≡ []
map_none f [] e = refl
map_none f (x ∷ xs) e = absurd (cc)

free_desk : (m : Inside) (k : ℕ) → parked_at k (seen m) ≡ None → (desk_at m k).parked ≡ None
free_desk m k free = option_none _ (desk_at m k).parked (rw (parked_seen m k) at free)

pub free_at : (m : Inside) (k : ℕ) → k < length (seen m).mail → parked_at k (seen m) ≡ None → get_or m.parked k None ≡ None
free_at m k below free = frame_at m k below ∙ free_desk m k free

none_asking : (m : Inside) (k : ℕ) → (lanes_at k (seen m)).up ≡ [] → (desk_at m k).lanes.back_up ≡ []
none_asking m k none = map_none _ (desk_at m k).lanes.back_up (rw (lanes_seen m k) at none)

pub asked_kept : (m : Inside) (k : ℕ) (miss : Miss) → IsKept m → (lanes_at k (seen m)).up ≡ [] → parked_at k (seen m) ≡ None
    → IsKept (record m { mail = sent k BackUp (miss_frame (said miss)) m.mail; origins = set m.origins k (origin_of miss) })
asked_kept m k miss kept none free =
    rw (row_at m k kept) (row_asked m k (sent_in BackUp (miss_frame (said miss)) (desk_at m k).lanes) (origin_of miss) kept (asked_desk (desk_at m k) miss (desk_is m k kept) (free_desk m k free) (none_asking m k none)))

pub asked_seen : (m : Inside) (k : ℕ) (miss : Miss) → IsKept m → (lanes_at k (seen m)).up ≡ [] → parked_at k (seen m) ≡ None
    → seen (record m { mail = sent k BackUp (miss_frame (said miss)) m.mail; origins = set m.origins k (origin_of miss) }) ≡ with_lanes k (asked (said miss) (lanes_at k (seen m))) (seen m)
asked_seen m k miss kept none free =
    rw (row_at m k kept, lanes_seen m k) (row_asked_seen m k (sent_in BackUp (miss_frame (said miss)) (desk_at m k).lanes) (origin_of miss) _ (free_desk m k free) (asked_lanes (desk_at m k) miss (none_asking m k none)))

-- a miss is parked
pub parked_kept : (m : Inside) (k : ℕ) (miss : Miss) → IsKept m → IsSendable (miss_frame (said miss)) → (lanes_at k (seen m)).up ≡ []
    → IsKept (record m { parked = set m.parked k (Some (miss_frame (said miss))); origins = set m.origins k (origin_of miss) })
parked_kept m k miss kept sendable none = record {
  slots = kept.slots;
  rows = kept.rows;
  parked = rw (length-set m.parked k (Some (miss_frame (said miss)))) kept.parked;
  origins = rw (length-set m.origins k (origin_of miss)) kept.origins;
  desks = rw (desks-parking m.mail.rows m.parked m.origins k (Some (miss_frame (said miss))) (origin_of miss))
      (AreDesks-set (desks_in m) k (record (desk_at m k) { parked = Some (miss_frame (said miss)); origin = origin_of miss }) kept.desks (parked_desk (desk_at m k) miss (desk_is m k kept) sendable (none_asking m k none)));
}

pub parked_now : (m : Inside) (k : ℕ) (miss : Miss) → (lanes_at k (seen m)).up ≡ []
    → seen (record m { parked = set m.parked k (Some (miss_frame (said miss))); origins = set m.origins k (origin_of miss) }) ≡ with_parked k (Some (said miss)) (seen m)
parked_now m k miss none =
    let d : Desk = record (desk_at m k) { parked = Some (miss_frame (said miss)); origin = origin_of miss } in
    let same : desk_lanes d ≡ desk_lanes (desk_at m k) = rw (none_asking m k none) refl in
    rw (desks-parking m.mail.rows m.parked m.origins k (Some (miss_frame (said miss))) (origin_of miss), map-set desk_parked (desks_in m) k d, map-set_same desk_lanes (desks_in m) k d no_desk same, miss_of-miss_frame miss) refl

-- nothing is parked any more
pub unparked_kept : (m : Inside) (k : ℕ) → IsKept m → IsKept (record m { parked = set m.parked k None })
unparked_kept m k kept = record {
  slots = kept.slots;
  rows = kept.rows;
  parked = rw (length-set m.parked k None) kept.parked;
  origins = kept.origins;
  desks = rw (desks-parked m.mail.rows m.parked m.origins k None) (AreDesks-set (desks_in m) k (record (desk_at m k) { parked = None }) kept.desks (unparked_desk (desk_at m k) (desk_is m k kept)));
}

pub unparked_seen : (m : Inside) (k : ℕ) → seen (record m { parked = set m.parked k None }) ≡ with_parked k None (seen m)
unparked_seen m k =
    let d : Desk = record (desk_at m k) { parked = None } in
    rw (desks-parked m.mail.rows m.parked m.origins k None, map-set desk_parked (desks_in m) k d, map-set_same desk_lanes (desks_in m) k d no_desk refl) refl

-- what is received
pub reply_is_next : (m : Inside) (k : ℕ) → IsKept m → (row_of k m.mail).main_down ≡ [] → slice_get (row_of k m.mail).back_down 0 ≡ next_frame (lanes_at k (seen m))
reply_is_next m k kept none =
    let here = row_at m k kept in
    rw (here, lanes_seen m k) (reply_received (desk_at m k) (desk_is m k kept) (rw here at none))

pub down_is_next : (m : Inside) (k : ℕ) → IsKept m → ((row_of k m.mail).main_down ≡ [] → ⊥) → slice_get (row_of k m.mail).main_down 0 ≡ next_frame (lanes_at k (seen m))
down_is_next m k kept some =
    let here = row_at m k kept in
    rw (here, lanes_seen m k) (down_received (desk_at m k) (desk_is m k kept) (rw here at some))

-- the oldest miss is seen by its frame, which asks
pub oldest_seen : (m : Inside) (k : ℕ) → IsKept m → slice_get (lanes_at k (seen m)).up 0 ≡ option_map (miss_of (desk_at m k).origin) (slice_get (row_of k m.mail).back_up 0)
oldest_seen m k kept = rw (lanes_seen m k, row_at m k kept) (slice_get-map (miss_of (desk_at m k).origin) (desk_at m k).lanes.back_up 0)

pub oldest_is_asking : (m : Inside) (k : ℕ) (f : Frame) → IsKept m → Some f ≡ slice_get (row_of k m.mail).back_up 0 → IsAsking f
oldest_is_asking m k f kept oldest = oldest_asks (desk_at m k) f (desk_is m k kept) (rw (row_at m k kept) at oldest)

-- what is parked is seen by its frame, which can be sent
pub parked_frame : (m : Inside) (k : ℕ) → k < length (seen m).mail → parked_at k (seen m) ≡ option_map (miss_of (desk_at m k).origin) (get_or m.parked k None)
parked_frame m k below = rw (parked_seen m k, frame_at m k below) refl

pub parked_is_kept : (m : Inside) (k : ℕ) (f : Frame) → IsKept m → k < length (seen m).mail → get_or m.parked k None ≡ Some f → IsParked (desk_at m k).origin (desk_at m k).lanes.back_up f
parked_is_kept m k f kept below is = parked_asks (desk_at m k) f (desk_is m k kept) (sym (frame_at m k below) ∙ is)

-- and by the line and the part that are kept for it
pub parked_found : (m : Inside) (k : ℕ) (f : Frame) (miss : Miss) → k < length (seen m).mail → get_or m.parked k None ≡ Some f → said miss ≡ miss_of (get_or m.origins k nowhere) f
    → Some (said miss) ≡ parked_at k (seen m)
parked_found m k f miss below is same = rw (same, origin_at m k nowhere below, parked_frame m k below, is) refl

pub oldest_found : (m : Inside) (k : ℕ) (f : Frame) (miss : Miss) → IsKept m → k < length (seen m).mail → Some f ≡ slice_get (row_of k m.mail).back_up 0
    → said miss ≡ miss_of (get_or m.origins k nowhere) f → Some (said miss) ≡ slice_get (lanes_at k (seen m)).up 0
oldest_found m k f miss kept below is same = rw (same, origin_at m k nowhere below, oldest_seen m k kept, ← is) refl

-- once a miss is taken no other is under way, and none is parked
pub alone_taken : (m : Inside) (k : ℕ) → IsKept m → k < length (seen m).mail → (lanes_at k (seen (record m { mail = taken k BackUp m.mail }))).up ≡ []
alone_taken m k kept below =
    let one : length (lanes_at k (seen m)).up ≤ 1 = omega (arith, length-back_up m k kept, ap length (ap (λ (r : FourLanes). r.back_up) (row_at m k kept)), (desk_is m k kept).most) in
    ap (λ v. (lanes_at k v).up) (without_miss_seen m k kept)
    ∙ ap (λ (x : Lanes). x.up) (get_or-set_same (seen m).mail k (without_miss (lanes_at k (seen m))) no_lanes below)
    ∙ drop_all 1 (lanes_at k (seen m)).up one

pub free_taken : (m : Inside) (k : ℕ) (f : Frame) → IsKept m → Some f ≡ slice_get (row_of k m.mail).back_up 0 → parked_at k (seen (record m { mail = taken k BackUp m.mail })) ≡ None
free_taken m k f kept oldest =
    let free = asking_is_free (desk_at m k) f (desk_is m k kept) (rw (row_at m k kept) at oldest) in
    ap (λ v. parked_at k v) (without_miss_seen m k kept) ∙ parked_seen m k ∙ ap (option_map (miss_of (desk_at m k).origin)) free

-- once what is parked is taken none is parked, and none is under way
pub alone_unparked : (m : Inside) (k : ℕ) (f : Frame) → IsKept m → k < length (seen m).mail → get_or m.parked k None ≡ Some f → (lanes_at k (seen (record m { parked = set m.parked k None }))).up ≡ []
alone_unparked m k f kept below is =
    let alone = (parked_is_kept m k f kept below is).alone in
    ap (λ v. (lanes_at k v).up) (unparked_seen m k) ∙ ap (λ (x : Lanes). x.up) (lanes_seen m k) ∙ ap (map (miss_of (desk_at m k).origin)) alone

pub free_unparked : (m : Inside) (k : ℕ) → k < length (seen m).mail → parked_at k (seen (record m { parked = set m.parked k None })) ≡ None
free_unparked m k below =
    let within : k < length (seen m).parked = omega (arith, below_desks m k below, length-map (desks_in m) desk_parked) in
    ap (λ v. parked_at k v) (unparked_seen m k) ∙ get_or-set_same (seen m).parked k None None within

abbrev no_frame : Option Frame
no_frame = None

sixteen : length (replicate 16 no_frame) ≡ 16
sixteen = length-replicate 16 no_frame

-- at the start nothing is under way, and nothing is parked
pub built_kept : (m : Inside) (n : ℕ) → n ≤ 16 → m.mail ≡ record { rows = replicate n no_row; slots = 8 } → m.parked ≡ replicate 16 None → length m.origins ≡ 16 → IsKept m
built_kept m n low mail parked origins = record {
  slots = rw mail refl;
  rows = rw (mail, length-replicate n no_row) low;
  parked = rw parked sixteen;
  origins = origins;
  desks = rw (mail, parked) (empty_desks n 16 m.origins);
}

pub built_seen : (m : Inside) (n : ℕ) → n ≤ 16 → m.mail ≡ record { rows = replicate n no_row; slots = 8 } → m.parked ≡ replicate 16 None → length m.origins ≡ 16
    → seen m ≡ record { mail = replicate n no_lanes; parked = replicate n None }
built_seen m n low mail parked origins =
    let fits : n ≤ length m.origins = omega (arith, low, origins) in
    let kept : n ≤ length (replicate 16 no_frame) = omega (arith, low, sixteen) in
    rw (mail, parked, empty_lanes n (replicate 16 no_frame) m.origins kept fits, empty_parked n 16 m.origins low fits) refl

-- a list that has nothing is empty
pub none_there : {A : Type 0} → (xs : List A) → (0 < length xs → ⊥) → xs ≡ []
none_there [] never = refl
none_there (x ∷ xs) never = absurd (never (omega arith))
