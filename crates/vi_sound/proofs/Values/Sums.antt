-- Sums of so many numbers.
use Rattle.std.proofs.Common.{◌≡◌, ◌==◌, ℕ, zero, suc, ◌+◌, ◌-◌, ◌≤◌, ◌<◌, refl, arith, ap, ◌⊎◌, inl, inr}
use Rattle.std.proofs.lemmas.Bool.{cases_eq, cases_lt, eq-eqb, ne_eqb}
use Rattle.vi_model.specs.Asking.{one_if}

-- f 0 + f 1 + .. of n numbers
abbrev pub sum_to : ℕ → (ℕ → ℕ) → ℕ
sum_to zero f = 0
sum_to (suc n) f = sum_to n f + f n

pub sum_more : (n : ℕ) (f g : ℕ → ℕ) → sum_to n (λ i. f i + g i) ≡ sum_to n f + sum_to n g
sum_more zero f g = omega arith
sum_more (suc n) f g = let r = sum_more n f g in omega (arith, r)

pub sum_zero : (n : ℕ) → sum_to n (λ i. 0) ≡ 0
sum_zero zero = refl
sum_zero (suc n) = let r = sum_zero n in omega (arith, r)

sum_none : (n d : ℕ) → n ≤ d → sum_to n (λ i. one_if (d == i)) ≡ 0
sum_none zero d h = refl
sum_none (suc n) d h = let r = sum_none n d (omega (arith, h)) in let z : one_if (d == n) ≡ 0 = ap one_if (ne_eqb d n (λ e. omega (arith, e, h))) in omega (arith, r, z)

pub sum_one : (n d : ℕ) → d < n → sum_to n (λ i. one_if (d == i)) ≡ 1
sum_one zero d h = absurd (omega (arith, h))
sum_one (suc n) d h = go (cases_eq d n) (λ l. sum_one n d l)
  where
    go : (d ≡ n) ⊎ (d ≡ n → ⊥) → (d < n → sum_to n (λ i. one_if (d == i)) ≡ 1) → sum_to n (λ i. one_if (d == i)) + one_if (d == n) ≡ 1
    go (inl e) ih = let r = sum_none n d (omega (arith, e)) in let o : one_if (d == n) ≡ 1 = ap one_if (eq-eqb d n e) in omega (arith, r, o)
    go (inr ne) ih = let r = ih (omega (arith, ne, h)) in let z : one_if (d == n) ≡ 0 = ap one_if (ne_eqb d n ne) in omega (arith, r, z)

pub sum_le : (n : ℕ) (f g : ℕ → ℕ) → ((i : ℕ) → i < n → f i ≤ g i) → sum_to n f ≤ sum_to n g
sum_le zero f g h = omega arith
sum_le (suc n) f g h = let r = sum_le n f g (λ i l. h i (omega (arith, l))) in let o = h n (omega arith) in omega (arith, r, o)

pub sum_lt : (n j : ℕ) (f g : ℕ → ℕ) → ((i : ℕ) → i < n → f i ≤ g i) → j < n → f j + 1 ≤ g j → sum_to n f + 1 ≤ sum_to n g
sum_lt zero j f g h l z = absurd (omega (arith, l))
sum_lt (suc n) j f g h l z = go (cases_eq n j) (λ m. sum_lt n j f g (λ i l. h i (omega (arith, l))) m z)
  where
    go : (n ≡ j) ⊎ (n ≡ j → ⊥) → (j < n → sum_to n f + 1 ≤ sum_to n g) → sum_to n f + f n + 1 ≤ sum_to n g + g n
    go (inl e) ih = let r = sum_le n f g (λ i l. h i (omega (arith, l))) in let a : f n ≡ f j = ap f e in let b : g n ≡ g j = ap g e in omega (arith, r, a, b, z)
    go (inr ne) ih = let r = ih (omega (arith, l, ne)) in let o = h n (omega arith) in omega (arith, r, o)

pub sum_same : (n : ℕ) (f g : ℕ → ℕ) → ((i : ℕ) → i < n → f i ≡ g i) → sum_to n f ≡ sum_to n g
sum_same zero f g h = refl
sum_same (suc n) f g h = let r = sum_same n f g (λ i l. h i (omega (arith, l))) in let o = h n (omega arith) in omega (arith, r, o)

-- at most one each, and none but from a up to b
pub sum_window : (n a b : ℕ) (f : ℕ → ℕ) → ((i : ℕ) → f i ≤ 1) → ((i : ℕ) → i < a → f i ≡ 0) → ((i : ℕ) → b ≤ i → f i ≡ 0) → (sum_to n f ≤ n - a) × (sum_to n f ≤ b - a)
sum_window zero a b f one low high = (omega arith, omega arith)
sum_window (suc n) a b f one low high = go (cases_lt n a) (cases_lt n b) (sum_window n a b f one low high)
  where
    go : (n < a) ⊎ (a ≤ n) → (n < b) ⊎ (b ≤ n) → (sum_to n f ≤ n - a) × (sum_to n f ≤ b - a) → (sum_to n f + f n ≤ suc n - a) × (sum_to n f + f n ≤ b - a)
    go (inl l) c r = let z = low n l in let x = r.0 in let y = r.1 in (omega (arith, z, x), omega (arith, z, y))
    go (inr g) (inr h) r = let z = high n h in let x = r.0 in let y = r.1 in (omega (arith, z, x), omega (arith, z, y))
    go (inr g) (inl h) r = let o = one n in let x = r.0 in (omega (arith, o, x, g), omega (arith, o, x, g, h))
