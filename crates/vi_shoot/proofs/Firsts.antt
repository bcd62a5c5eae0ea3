-- The first element of a list that passes a test, and those that don't.
use Rattle.std.proofs.Common.{◌≡◌, ℕ, zero, suc, ◌+◌, ◌<◌, Bool, true, false, not, cond, ◌||◌, List, [], ◌∷◌, Some, length, get_or, refl, ap, arith, is_some, nat_lt}
use Rattle.std.specs.List.{list_any, find, filter, position, position_or_len, refill}
use Rattle.std.proofs.Math.Dec.{ltb}
use Rattle.std.proofs.lemmas.List.{drop_all, append-nil, take_all}
use Rattle.std.proofs.lemmas.List.Quantifiers.{position-Some}
use Rattle.std.proofs.lemmas.Bool.Decides.{nat_tests}

module _ {X : Type 0} (p : X → Bool) where
  position_or_len-below : (xs : List X) → list_any p xs ≡ true → position_or_len p xs < length xs
  position_or_len-below [] any = absurd (cc)
  position_or_len-below (x ∷ xs) any = go (p x) (position_or_len-below xs) any
    where
      go : (b : Bool) → (list_any p xs ≡ true → position_or_len p xs < length xs) → (b || list_any p xs) ≡ true → cond (not b) (1 + position_or_len p xs) 0 < suc (length xs)
      go true rest any = omega arith
      go false rest any = let h = rest any in omega arith

  pub is_some-position : (xs : List X) → list_any p xs ≡ true → is_some (position p xs) ≡ true
  is_some-position xs any =
      let h = position_or_len-below xs any in
      let test : nat_lt (position_or_len p xs) (length xs) ≡ true = grind (arith, nat_tests) in
      rw test refl

  pub find_here : (xs : List X) (i : ℕ) (d : X) → i < length xs → p (get_or xs i d) ≡ true → ((k : ℕ) → k < i → p (get_or xs k d) ≡ false) → find p xs ≡ Some (get_or xs i d)
  find_here [] i d lt here before = absurd (omega (arith, lt))
  find_here (x ∷ xs) zero d lt here before = rw here refl
  find_here (x ∷ xs) (suc i) d lt here before =
      let not_x : p x ≡ false = before 0 (omega arith) in
      rw not_x (find_here xs i d (omega (arith, lt)) here (λ k below. before (suc k) (omega (arith, below))))

  pub find_position : (xs : List X) (i : ℕ) (d : X) → position p xs ≡ Some i → find p xs ≡ Some (get_or xs i d)
  find_position xs i d at = let first = position-Some p xs i d at in find_here xs i d first.0 first.1 first.2

  pub is_some-find : (xs : List X) → is_some (find p xs) ≡ list_any p xs
  is_some-find [] = refl
  is_some-find (x ∷ xs) = go (p x) (is_some-find xs)
    where
      go : (b : Bool) → is_some (find p xs) ≡ list_any p xs → is_some (cond b (Some x) (find p xs)) ≡ (b || list_any p xs)
      go true rest = refl
      go false rest = rest

  pub filter_all : (xs : List X) → list_any p xs ≡ false → filter (λ x. not (p x)) xs ≡ xs
  filter_all [] none = refl
  filter_all (x ∷ xs) none = go (p x) (filter_all xs) none
    where
      go : (b : Bool) → (list_any p xs ≡ false → filter (λ x. not (p x)) xs ≡ xs) → (b || list_any p xs) ≡ false → cond (not b) (x ∷ filter (λ x. not (p x)) xs) (filter (λ x. not (p x)) xs) ≡ x ∷ xs
      go true rest none = absurd (cc)
      go false rest none = ap (λ ys. x ∷ ys) (rest none)

-- a list filled up from one of its length is itself
pub refill-same : {X : Type 0} (xs ys : List X) → length ys ≡ length xs → refill (length xs) xs ys ≡ ys
refill-same xs ys same =
    rw (drop_all (length ys) xs (omega arith), append-nil ys) (take_all (length xs) ys (omega arith))
