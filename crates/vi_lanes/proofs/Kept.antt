-- A frame and what is seen of it; a lane has its own frames as long as others of its kind come and go.
use Rattle.std.proofs.Common.{◌≡◌, ◌==◌, ◌&&◌, ◌-◌, ◌^◌, ℕ, Bool, true, false, if◌then◌else◌, List, [], ◌∷◌, ◌++◌, length, map, drop, replicate, Some, None, refl, ap, sym, ◌∙◌}
use Rattle.std.proofs.lemmas.Bool.{eqb-true}
use Rattle.std.proofs.lemmas.List.{map-append, length-append, replicate-append-replicate}
use Rattle.vi_bytes.specs.declared.lease.Need.{Need}
use Rattle.vi_iotlb.specs.declared.frame.Frame.{Frame}
use Rattle.vi_iotlb.specs.declared.frame.Frame.TheVariants as frame
use Rattle.vi_parked.specs.Asking.{IsAsking}
use Rattle.vi_model.specs.Lanes.{Miss}
use Rattle.vi_model.specs.Tasks.{reach_between}
use Rattle.vi_lanes.specs.declared.miss.Origin.{Origin}
use Rattle.vi_lanes.specs.Frames.{span_of, asking_frame, miss_frame}
use Rattle.vi_lanes.specs.Inside.{miss_from, miss_of}

pub span_of-reach_between : (first last : ℕ) → span_of (reach_between first last) ≡ record { first = first; last = last }
span_of-reach_between first last = go (first == 0) (last == 2 ^ 64 - 1) refl refl
  where
    go : (a b : Bool) → (first == 0) ≡ a → (last == 2 ^ 64 - 1) ≡ b → span_of (if a && b then None else Some (record { first = first; last = last })) ≡ record { first = first; last = last }
    go false b e f = refl
    go true false e f = refl
    go true true e f = rw (eqb-true first 0 e, eqb-true last (2 ^ 64 - 1) f) refl

pub miss_of-asking : (origin : Origin) (fail : Bool) (iova len : ℕ) (need : Need) → miss_of origin (asking_frame fail iova len need) ≡ miss_from origin iova len need fail
miss_of-asking origin true iova len need = refl
miss_of-asking origin false iova len need = refl

is_asking : (fail : Bool) (iova len : ℕ) (need : Need) → IsAsking (asking_frame fail iova len need)
is_asking true iova len need = tt
is_asking false iova len need = tt

-- a frame that is a miss's asks
pub IsAsking-from_miss : (m : Miss) (f : Frame) → miss_frame m ≡ f → IsAsking f
IsAsking-from_miss m f e = rw (← e) (is_asking m.fail m.iova m.len m.need)

pub kept-append : {A B : Type 0} → (back : B → A) (of : A → B) (xs : List A) (x : A) → map back (map of xs) ≡ xs → back (of x) ≡ x → map back (map of (xs ++ x ∷ [])) ≡ xs ++ x ∷ []
kept-append back of xs x e one =
    ap (map back) (map-append of xs (x ∷ [])) ∙ map-append back (map of xs) (of x ∷ []) ∙ ap (λ ys. ys ++ back (of x) ∷ []) e ∙ ap (λ y. xs ++ y ∷ []) one

pub kept-drop : {A B : Type 0} → (back : B → A) (of : A → B) (xs : List A) → map back (map of xs) ≡ xs → map back (map of (drop 1 xs)) ≡ drop 1 xs
kept-drop back of [] e = refl
kept-drop back of (x ∷ xs) e = ap (drop 1) e

pub acks-append : (xs : List Frame) → replicate (length xs) frame.Ack ≡ xs → replicate (length (xs ++ frame.Ack ∷ [])) frame.Ack ≡ xs ++ frame.Ack ∷ []
acks-append xs e =
    ap (λ n. replicate n frame.Ack) (length-append xs (frame.Ack ∷ [])) ∙ sym (replicate-append-replicate (length xs) 1 frame.Ack) ∙ ap (λ ys. ys ++ frame.Ack ∷ []) e

pub acks-drop : (xs : List Frame) → replicate (length xs) frame.Ack ≡ xs → replicate (length (drop 1 xs)) frame.Ack ≡ drop 1 xs
acks-drop [] e = refl
acks-drop (x ∷ xs) e = ap (drop 1) e
