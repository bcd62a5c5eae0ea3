-- What turns keep: the same actors with the same passes.
use Rattle.std.proofs.Common.{◌≡◌, ◌≢◌, ◌<◌, ◌+◌, ℕ, Bool, true, false, eqb, List, ◌++◌, length, set, get_or, take, drop, slice_get, Some, refl, sym, ap, ◌∙◌, subst, arith}
use Rattle.std.specs.Prelude.{All}
use Rattle.std.specs.Fork.{IsChunk}
use Rattle.std.proofs.lemmas.Bool.{eqb-true}
use Rattle.std.proofs.lemmas.Bool.Decides.{nat_tests}
use Rattle.std.proofs.lemmas.List.{append-nil, drop_all, length-set, take_all}
use Rattle.std.proofs.lemmas.List.Elements.{All-get_or}
use Rattle.std.proofs.lemmas.Option.{same_Some, slice_get_within, slice_get-get_or, get_or_from_slice_get}
use Rattle.vi_turns.specs.Passes.{Board}
use Rattle.vi_turns.proofs.Getting.{get_set_there, get_set_other}
use Rattle.vi_run.specs.Actors.{ActorValue, IsPassOf}
use Rattle.vi_run.specs.Runs.{AreActors, IsSame, AreSame}

-- each actor's pass is one of this shared object
abbrev pub AreOwn : Board → List ActorValue → Type 0
AreOwn b xs = All (λ a. IsPassOf b a.pass) xs

-- ---- one actor

-- before any turn it is the same
pub same_first : (b : Board) (a : ActorValue) → IsPassOf b a.pass → IsSame b a a
same_first b a own = record { own = own; who = refl; number = refl }

-- and after more turns still
pub same_more : (b : Board) (x y z : ActorValue) → IsSame b x y → IsSame b y z → IsSame b x z
same_more b x y z one two = record { own = two.own; who = two.who ∙ one.who; number = two.number ∙ one.number }

-- ---- the actors of a worker

-- each of them is the same
pub same_at : (b : Board) (old new : List ActorValue) (i : ℕ) (d : ActorValue) → AreSame b old new → i < length old → IsSame b (get_or old i d) (get_or new i d)
same_at b old new i d same within =
    let count = same.count in
    same.each i (get_or old i d) (get_or new i d) (slice_get-get_or old i d within) (slice_get-get_or new i d (omega (arith, count, within)))

pub all_first : (b : Board) (xs : List ActorValue) → AreOwn b xs → AreSame b xs xs
all_first b xs own = record {
  count = refl;
  each = λ i x y one two. subst (λ (z : ActorValue). IsSame b x z) (same_Some x y (sym one ∙ two))
      (same_first b x (subst (λ (z : ActorValue). IsPassOf b z.pass) (get_or_from_slice_get xs i x x one) (All-get_or (λ (a : ActorValue). IsPassOf b a.pass) xs i x (slice_get_within xs i x one) own)));
}

-- their passes are those of the shared object still
pub own_at : (b : Board) (old new : List ActorValue) (i : ℕ) (d : ActorValue) → AreSame b old new → i < length new → IsPassOf b (get_or new i d).pass
own_at b old new i d same within = let count = same.count in (same_at b old new i d same (omega (arith, count, within))).own

-- after turns of one of them
pub all_more : (b : Board) (old new : List ActorValue) (k : ℕ) (d z : ActorValue) → AreSame b old new → k < length new → IsSame b (get_or new k d) z → AreSame b old (set new k z)
all_more b old new k d z same within one = record {
  count = length-set new k z ∙ same.count;
  each = λ i x y first last. go i x y first last (eqb i k) refl;
}
  where
    go : (i : ℕ) (x y : ActorValue) → slice_get old i ≡ Some x → slice_get (set new k z) i ≡ Some y → (t : Bool) → eqb i k ≡ t → IsSame b x y
    go i x y first last true e =
        let is : i ≡ k = eqb-true i k e in
        let there = get_set_there new k (get_or new k d) z (slice_get-get_or new k d within) in
        let y_is : z ≡ y = same_Some z y (sym there ∙ (ap (λ (n : ℕ). slice_get (set new k z) n) (sym is) ∙ last)) in
        let before = same.each k x (get_or new k d) (ap (λ (n : ℕ). slice_get old n) (sym is) ∙ first) (slice_get-get_or new k d within) in
        subst (λ (v : ActorValue). IsSame b x v) y_is (same_more b x (get_or new k d) z before one)
    go i x y first last false e =
        let other : i ≢ k = λ (q : i ≡ k). absurd (grind (arith, nat_tests, q, e)) in
        same.each i x y first (sym (get_set_other new k i z other) ∙ last)

-- ---- all actors

-- the passes of all actors are those of the shared object
pub actors_own : (b : Board) (all : List ActorValue) → AreActors b all → AreOwn b all
actors_own b all actors k d within = (actors k (get_or all k d) (slice_get-get_or all k d within)).own

-- and so are those of a chunk
pub chunk_own : (b : Board) (all : List ActorValue) (size start : ℕ) (ys : List ActorValue) → AreActors b all → IsChunk all size start ys → AreOwn b ys
chunk_own b all size start ys actors chunk k d within =
    let inside = chunk.in_bounds in
    subst (λ (a : ActorValue). IsPassOf b a.pass) (sym (chunk.elements k d within)) (actors_own b all actors (start + k) d (omega (arith, inside, within)))

-- where each actor is the same, they are the actors still
pub actors_kept : (b : Board) (old new : List ActorValue) → length new ≡ length old → AreActors b old
    → ((i : ℕ) (d : ActorValue) → i < length old → IsSame b (get_or old i d) (get_or new i d)) → AreActors b new
actors_kept b old new count actors same i a at =
    let within : i < length new = slice_get_within new i a at in
    let before = actors i (get_or old i a) (slice_get-get_or old i a (omega (arith, count, within))) in
    let kept = subst (λ (z : ActorValue). IsSame b (get_or old i a) z) (get_or_from_slice_get new i a a at) (same i a (omega (arith, count, within))) in
    record { own = kept.own; number = kept.number ∙ before.number }

-- a list that was lent whole, and came back with this, is this
pub came_back : (old new : List ActorValue) (n : ℕ) → length new ≡ length old → n ≡ length old → take n (new ++ drop (length new) old) ≡ new
came_back old new n same whole =
    ap (λ (xs : List ActorValue). take n (new ++ xs)) (drop_all (length new) old (omega (arith, same)))
    ∙ (ap (λ (xs : List ActorValue). take n xs) (append-nil new) ∙ take_all n new (omega (arith, same, whole)))
