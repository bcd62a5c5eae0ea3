-- The records that wait, and the buffers' records.
use Rattle.std.proofs.Common.{◌≡◌, ◌+◌, ℕ, zero, suc, List, [], ◌∷◌, map, drop, None, refl, add-one}
use Rattle.std.specs.Prelude.{slice_get}

drop-suc : {X : Type 0} (n : ℕ) (xs : List X) → drop (suc n) xs ≡ drop 1 (drop n xs)
drop-suc zero xs = refl
drop-suc (suc n) [] = refl
drop-suc (suc n) (x ∷ xs) = drop-suc n xs

-- one more is left out
pub drop-one_more : {X : Type 0} (n : ℕ) (xs : List X) → drop (n + 1) xs ≡ drop 1 (drop n xs)
drop-one_more n xs = rw add-one (drop-suc n xs)

-- a list whose image has no first element is empty
pub empty-from_image : {X Y : Type 0} (f : X → Y) (xs : List X) → slice_get (map f xs) 0 ≡ None → xs ≡ []
empty-from_image f [] none = refl
empty-from_image f (x ∷ xs) none = absurd (cc)
