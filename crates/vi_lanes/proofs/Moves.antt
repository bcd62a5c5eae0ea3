-- What a call makes of one desk: it stays a desk, and it is seen so.
use Rattle.std.proofs.Common.{◌≡◌, Bool, List, [], ◌∷◌, map, drop, slice_get, Option, Some, None, IfSome, refl, ap, sym, arith}
use Rattle.std.proofs.lemmas.List.{map-append, length-append, length-drop, drop-map}
use Rattle.vi_iotlb.specs.Frames.{IsSendable}
use Rattle.vi_iotlb.specs.declared.frame.Frame.{Frame}
use Rattle.vi_iotlb.specs.declared.frame.Frame.TheVariants as frame
use Rattle.vi_mail.specs.Lanes.{sent_in, taken_from}
use Rattle.vi_parked.specs.Asking.{IsAsking}
use Rattle.vi_mail.specs.declared.row.Lane.{Lane}
use Rattle.vi_mail.specs.declared.row.Lane.TheVariants.{MainDown, MainUp, BackDown, BackUp}
use Rattle.vi_lanes.specs.declared.miss.Miss.{Miss}
use Rattle.vi_lanes.specs.declared.miss.Origin.{Origin}
use Rattle.vi_lanes.specs.Value.{told, acknowledged, asked, replied, without_ack, without_miss, received}
use Rattle.vi_lanes.specs.Frames.{said, down_frame, miss_frame, reply_frame, next_in, next_frame}
use Rattle.vi_lanes.specs.Inside.{Desk, IsDesk, IsParked, down_of, miss_of, fault_of, desk_lanes}
use Rattle.vi_lanes.proofs.Kept.{miss_of-asking, kept-append, kept-drop, acks-append, acks-drop, IsAsking-from_miss}

-- the line and the part of a miss
abbrev pub origin_of : Miss → Origin
origin_of m = record { line = m.line; part = m.part }

pub miss_of-miss_frame : (m : Miss) → miss_of (origin_of m) (miss_frame (said m)) ≡ said m
miss_of-miss_frame m = miss_of-asking (origin_of m) m.fail m.iova m.len m.need

pub told_desk : (d : Desk) (f : Frame) → IsDesk d → down_frame (down_of f) ≡ f → IsDesk (record d { lanes = sent_in MainDown f d.lanes })
told_desk d f kept same = record { down = kept-append down_frame down_of d.lanes.main_down f kept.down same; acks = kept.acks; up = kept.up; replies = kept.replies; parked = kept.parked; most = kept.most }

pub told_lanes : (d : Desk) (f : Frame) → desk_lanes (record d { lanes = sent_in MainDown f d.lanes }) ≡ told (down_of f) (desk_lanes d)
told_lanes d f = rw (map-append down_of d.lanes.main_down (f ∷ [])) refl

pub acknowledged_desk : (d : Desk) → IsDesk d → IsDesk (record d { lanes = sent_in MainUp frame.Ack d.lanes })
acknowledged_desk d kept = record { down = kept.down; acks = acks-append d.lanes.main_up kept.acks; up = kept.up; replies = kept.replies; parked = kept.parked; most = kept.most }

pub acknowledged_lanes : (d : Desk) → desk_lanes (record d { lanes = sent_in MainUp frame.Ack d.lanes }) ≡ acknowledged (desk_lanes d)
acknowledged_lanes d = rw (length-append d.lanes.main_up (frame.Ack ∷ [])) refl

pub replied_desk : (d : Desk) (fault : Bool) → IsDesk d → IsDesk (record d { lanes = sent_in BackDown (frame.Reply fault) d.lanes })
replied_desk d fault kept =
    record { down = kept.down; acks = kept.acks; up = kept.up; replies = kept-append (λ f. frame.Reply f) fault_of d.lanes.back_down (frame.Reply fault) kept.replies refl; parked = kept.parked; most = kept.most }

pub replied_lanes : (d : Desk) (fault : Bool) → desk_lanes (record d { lanes = sent_in BackDown (frame.Reply fault) d.lanes }) ≡ replied fault (desk_lanes d)
replied_lanes d fault = rw (map-append fault_of d.lanes.back_down (frame.Reply fault ∷ [])) refl

pub asked_desk : (d : Desk) (m : Miss) → IsDesk d → d.parked ≡ None → d.lanes.back_up ≡ []
    → IsDesk (record d { lanes = sent_in BackUp (miss_frame (said m)) d.lanes; origin = origin_of m })
asked_desk d m kept free none = record {
  down = kept.down;
  acks = kept.acks;
  up = rw none (ap (λ x. miss_frame x ∷ []) (miss_of-miss_frame m));
  replies = kept.replies;
  parked = rw free tt;
  most = rw none (omega arith);
}

pub asked_lanes : (d : Desk) (m : Miss) → d.lanes.back_up ≡ []
    → desk_lanes (record d { lanes = sent_in BackUp (miss_frame (said m)) d.lanes; origin = origin_of m }) ≡ asked (said m) (desk_lanes d)
asked_lanes d m none = rw (none, miss_of-miss_frame m) refl

pub parked_desk : (d : Desk) (m : Miss) → IsDesk d → IsSendable (miss_frame (said m)) → d.lanes.back_up ≡ []
    → IsDesk (record d { parked = Some (miss_frame (said m)); origin = origin_of m })
parked_desk d m kept sendable none = record {
  down = kept.down;
  acks = kept.acks;
  up = rw none refl;
  replies = kept.replies;
  parked = record { asks = ap miss_frame (miss_of-miss_frame m); sendable = sendable; alone = none };
  most = kept.most;
}

pub unparked_desk : (d : Desk) → IsDesk d → IsDesk (record d { parked = None })
unparked_desk d kept = record { down = kept.down; acks = kept.acks; up = kept.up; replies = kept.replies; parked = tt; most = kept.most }

still_alone : (origin : Origin) (up : List Frame) (parked : Option Frame) → IfSome parked (IsParked origin up) → IfSome parked (IsParked origin (drop 1 up))
still_alone origin up None is = tt
still_alone origin up (Some f) is = record { asks = is.asks; sendable = is.sendable; alone = ap (drop 1) is.alone }

pub taken_desk : (lane : Lane) (d : Desk) → IsDesk d → IsDesk (record d { lanes = taken_from lane d.lanes })
taken_desk MainDown d kept = record { down = kept-drop down_frame down_of d.lanes.main_down kept.down; acks = kept.acks; up = kept.up; replies = kept.replies; parked = kept.parked; most = kept.most }
taken_desk MainUp d kept = record { down = kept.down; acks = acks-drop d.lanes.main_up kept.acks; up = kept.up; replies = kept.replies; parked = kept.parked; most = kept.most }
taken_desk BackDown d kept =
    record { down = kept.down; acks = kept.acks; up = kept.up; replies = kept-drop (λ f. frame.Reply f) fault_of d.lanes.back_down kept.replies; parked = kept.parked; most = kept.most }
taken_desk BackUp d kept = record {
  down = kept.down;
  acks = kept.acks;
  up = kept-drop miss_frame (miss_of d.origin) d.lanes.back_up kept.up;
  replies = kept.replies;
  parked = still_alone d.origin d.lanes.back_up d.parked kept.parked;
  most = omega (arith, kept.most, length-drop 1 d.lanes.back_up);
}

pub without_ack_lanes : (d : Desk) → desk_lanes (record d { lanes = taken_from MainUp d.lanes }) ≡ without_ack (desk_lanes d)
without_ack_lanes d = rw (length-drop 1 d.lanes.main_up) refl

pub without_miss_lanes : (d : Desk) → desk_lanes (record d { lanes = taken_from BackUp d.lanes }) ≡ without_miss (desk_lanes d)
without_miss_lanes d = rw (drop-map (miss_of d.origin) 1 d.lanes.back_up) refl

-- what is received is a reply where nothing else is under way
pub reply_received : (d : Desk) → IsDesk d → d.lanes.main_down ≡ [] → slice_get d.lanes.back_down 0 ≡ next_frame (desk_lanes d)
reply_received d kept none = rw none (go d.lanes.back_down kept.replies)
  where
    go : (xs : List Frame) → map (λ fault. frame.Reply fault) (map fault_of xs) ≡ xs → slice_get xs 0 ≡ reply_frame (map fault_of xs)
    go [] e = refl
    go (x ∷ xs) e = ap (λ ys. slice_get ys 0) (sym e)

pub without_reply_lanes : (d : Desk) → d.lanes.main_down ≡ [] → desk_lanes (record d { lanes = taken_from BackDown d.lanes }) ≡ received (desk_lanes d)
without_reply_lanes d none = rw (none, drop-map fault_of 1 d.lanes.back_down) refl

-- and else an Update or an Invalidate
pub down_received : (d : Desk) → IsDesk d → (d.lanes.main_down ≡ [] → ⊥) → slice_get d.lanes.main_down 0 ≡ next_frame (desk_lanes d)
down_received d kept some = go d.lanes.main_down kept.down some
  where
    go : (xs : List Frame) → map down_frame (map down_of xs) ≡ xs → (xs ≡ [] → ⊥) → slice_get xs 0 ≡ next_in (map down_of xs) (map fault_of d.lanes.back_down)
    go [] e some = absurd (some refl)
    go (x ∷ xs) e some = ap (λ ys. slice_get ys 0) (sym e)

pub without_down_lanes : (d : Desk) → (d.lanes.main_down ≡ [] → ⊥) → desk_lanes (record d { lanes = taken_from MainDown d.lanes }) ≡ received (desk_lanes d)
without_down_lanes d some = go d.lanes.main_down refl some
  where
    go : (xs : List Frame) → d.lanes.main_down ≡ xs → (xs ≡ [] → ⊥) → desk_lanes (record d { lanes = taken_from MainDown d.lanes }) ≡ received (desk_lanes d)
    go [] e some = absurd (some refl)
    go (x ∷ xs) e some = rw e refl

-- the oldest frame of a back end's misses asks
pub oldest_asks : (d : Desk) (f : Frame) → IsDesk d → Some f ≡ slice_get d.lanes.back_up 0 → IsAsking f
oldest_asks d f kept oldest = go d.lanes.back_up kept.up oldest
  where
    go : (xs : List Frame) → map miss_frame (map (miss_of d.origin) xs) ≡ xs → Some f ≡ slice_get xs 0 → IsAsking f
    go [] e oldest = absurd (cc)
    go (x ∷ xs) e oldest =
        let head : Some (miss_frame (miss_of d.origin x)) ≡ Some x = ap (λ ys. slice_get ys 0) e in
        let same : miss_frame (miss_of d.origin x) ≡ f = cc (head, oldest) in
        IsAsking-from_miss (miss_of d.origin x) f same

-- and what is parked is as it was kept
pub parked_asks : (d : Desk) (f : Frame) → IsDesk d → d.parked ≡ Some f → IsParked d.origin d.lanes.back_up f
parked_asks d f kept is = rw is at kept.parked

-- where a miss is under way none is parked, and it is the only one
pub asking_is_free : (d : Desk) (f : Frame) → IsDesk d → Some f ≡ slice_get d.lanes.back_up 0 → d.parked ≡ None
asking_is_free d f kept oldest = go d.parked kept.parked
  where
    go : (p : Option Frame) → IfSome p (IsParked d.origin d.lanes.back_up) → p ≡ None
    go None is = refl
    go (Some g) is = let no : Some f ≡ slice_get [] 0 = rw is.alone at oldest in absurd (cc)
