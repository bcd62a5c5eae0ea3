-- Elements of a list, read by their places.
use Rattle.std.proofs.Common.{◌≡◌, ◌≢◌, ℕ, zero, suc, ◌<◌, List, [], ◌∷◌, ◌++◌, length, set, get_or, slice_get, Some, refl, sym, ap, ◌∙◌, arith}
use Rattle.std.proofs.lemmas.Option.{none-some, same_Some, get_or_from_slice_get, slice_get_within}

module _ {A : Type 0} where
  -- the place is inside the list
  pub get_within : (l : List A) (i : ℕ) (a : A) → slice_get l i ≡ Some a → i < length l
  get_within l i a at = slice_get_within l i a at

  -- inside the list there is an element
  pub get_inside : (l : List A) (i : ℕ) → i < length l → (a : A) × (slice_get l i ≡ Some a)
  get_inside [] i within = absurd (omega (arith, within))
  get_inside (x ∷ xs) zero within = (x, refl)
  get_inside (x ∷ xs) (suc i) within = get_inside xs i (omega (arith, within))

  -- what was set is there
  pub get_set_there : (l : List A) (i : ℕ) (a b : A) → slice_get l i ≡ Some a → slice_get (set l i b) i ≡ Some b
  get_set_there [] i a b at = absurd (none-some a at)
  get_set_there (x ∷ xs) zero a b at = refl
  get_set_there (x ∷ xs) (suc i) a b at = get_set_there xs i a b at

  -- other places keep their elements
  pub get_set_other : (l : List A) (i j : ℕ) (b : A) → j ≢ i → slice_get (set l i b) j ≡ slice_get l j
  get_set_other [] i j b other = refl
  get_set_other (x ∷ xs) zero zero b other = absurd (other refl)
  get_set_other (x ∷ xs) zero (suc j) b other = refl
  get_set_other (x ∷ xs) (suc i) zero b other = refl
  get_set_other (x ∷ xs) (suc i) (suc j) b other = get_set_other xs i j b (λ e. other (ap suc e))

  -- a longer list has the same element at the place
  pub get_longer : (l m : List A) (i : ℕ) (a : A) → slice_get l i ≡ Some a → slice_get (l ++ m) i ≡ Some a
  get_longer [] m i a at = absurd (none-some a at)
  get_longer (x ∷ xs) m zero a at = at
  get_longer (x ∷ xs) m (suc i) a at = get_longer xs m i a at

  -- what was put behind the others is the last
  pub get_last : (l : List A) (n : ℕ) (a : A) → length l ≡ n → slice_get (l ++ a ∷ []) n ≡ Some a
  get_last [] zero a long = refl
  get_last [] (suc n) a long = absurd (omega (arith, long))
  get_last (x ∷ xs) zero a long = absurd (omega (arith, long))
  get_last (x ∷ xs) (suc n) a long = get_last xs n a (omega (arith, long))

  -- with a default, the element is the same
  pub get_default : (l : List A) (i : ℕ) (a d : A) → slice_get l i ≡ Some a → get_or l i d ≡ a
  get_default l i a d at = get_or_from_slice_get l i a d at

  -- a place has one element
  pub same_entry : (l : List A) (i : ℕ) (a b : A) → slice_get l i ≡ Some a → slice_get l i ≡ Some b → a ≡ b
  same_entry l i a b one two = same_Some a b (sym one ∙ two)
