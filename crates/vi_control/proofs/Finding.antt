-- The lowest number that passes a test.
use Rattle.std.proofs.Common.{◌≡◌, ℕ, suc, ◌+◌, ◌-◌, ◌<◌, Bool, true, false, cond, List, [], ◌∷◌, Some, is_some, ◌||◌, refl, subst, arith}
use Rattle.std.specs.List.{find, list_any, range_with_len}

-- it is the first of the rest
pub first_here : (test : ℕ → Bool) (i n : ℕ) → i < n → test i ≡ true → find test (range_with_len i (n - i)) ≡ Some i
first_here test i n below passes =
    let on : n - i ≡ suc (n - (i + 1)) = omega arith in
    rw (on, passes) refl

-- or it is among those behind
pub first_later : (test : ℕ → Bool) (i n : ℕ) → i < n → test i ≡ false → find test (range_with_len i (n - i)) ≡ find test (range_with_len (i + 1) (n - (i + 1)))
first_later test i n below fails =
    let on : n - i ≡ suc (n - (i + 1)) = omega arith in
    rw (on, fails) refl

-- tests that agree find the same
pub find_alike : {X : Type 0} (p q : X → Bool) (xs : List X) → ((x : X) → p x ≡ q x) → find p xs ≡ find q xs
find_alike p q [] alike = refl
find_alike p q (x ∷ xs) alike = rw (alike x, find_alike p q xs alike) refl

-- one passes where one is found
pub any_is_found : {X : Type 0} (test : X → Bool) (xs : List X) → list_any test xs ≡ is_some (find test xs)
any_is_found test [] = refl
any_is_found {X} test (x ∷ xs) = rw (any_is_found test xs) (go (test x))
  where
    go : (b : Bool) → (b || is_some (find test xs)) ≡ is_some (cond b (Some x) (find test xs))
    go true = refl
    go false = refl

-- what is found passes
pub found_passes : {X : Type 0} (test : X → Bool) (xs : List X) (x : X) → find test xs ≡ Some x → test x ≡ true
found_passes test [] x e = absurd cc
found_passes {X} test (y ∷ xs) x e = go (test y) refl e (found_passes test xs x)
  where
    go : (b : Bool) → test y ≡ b → cond b (Some y) (find test xs) ≡ Some x → (find test xs ≡ Some x → test x ≡ true) → test x ≡ true
    go true is e rest = let same : y ≡ x = cc in subst (λ z. test z ≡ true) same is
    go false is e rest = rest e
