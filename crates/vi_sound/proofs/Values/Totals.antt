-- Sums over all places.
use Rattle.std.proofs.Common.{◌≡◌, ℕ, zero, suc, ◌+◌, ◌-◌, ◌≤◌, ◌<◌, arith, ap, sym, subst, ◌⊎◌, inl, inr}
use Rattle.std.proofs.lemmas.Bool.{cases_eq}
use Rattle.vi_model.specs.Bound.{times, total}

pub total_le : (f g : ℕ → ℕ) (n : ℕ) → ((i : ℕ) → i < n → g i ≤ f i) → total g n ≤ total f n
total_le f g zero h = omega arith
total_le f g (suc n) h = let a = h n (omega arith) in let b = total_le f g n (λ i lt. h i (omega (arith, lt))) in omega (arith, a, b)

pub total_more : (f g : ℕ → ℕ) (c n : ℕ) → ((i : ℕ) → i < n → g i ≤ f i + c) → total g n ≤ total f n + times c n
total_more f g c zero h = omega arith
total_more f g c (suc n) h = let a = h n (omega arith) in let b = total_more f g c n (λ i lt. h i (omega (arith, lt))) in omega (arith, a, b)

-- one summand falls by a, and no other rises
pub total_one : (f g : ℕ → ℕ) (a n k : ℕ) → k < n → g k + a ≤ f k → ((i : ℕ) → i < n → (i ≡ k → ⊥) → g i ≤ f i) → total g n + a ≤ total f n
total_one f g a zero k lt own other = absurd (omega (arith, lt))
total_one f g a (suc n) k lt own other = go (cases_eq n k) (λ l. total_one f g a n k l own (λ i m. other i (omega (arith, m))))
  where
    go : (n ≡ k) ⊎ (n ≡ k → ⊥) → (k < n → total g n + a ≤ total f n) → g n + total g n + a ≤ f n + total f n
    go (inl e) ih =
        let here : g n + a ≤ f n = subst (λ i. g i + a ≤ f i) (sym e) own in
        let rest = total_le f g n (λ i l. other i (omega (arith, l)) (λ q. omega (arith, l, q, e))) in
        omega (arith, here, rest)
    go (inr ne) ih =
        let rest = ih (omega (arith, lt, ne)) in
        let here = other n (omega arith) ne in
        omega (arith, here, rest)

-- one summand rises by at most a, and no other rises
pub total_rise : (f g : ℕ → ℕ) (a n k : ℕ) → k < n → g k ≤ f k + a → ((i : ℕ) → i < n → (i ≡ k → ⊥) → g i ≤ f i) → total g n ≤ total f n + a
total_rise f g a zero k lt own other = absurd (omega (arith, lt))
total_rise f g a (suc n) k lt own other = go (cases_eq n k) (λ l. total_rise f g a n k l own (λ i m. other i (omega (arith, m))))
  where
    go : (n ≡ k) ⊎ (n ≡ k → ⊥) → (k < n → total g n ≤ total f n + a) → g n + total g n ≤ f n + total f n + a
    go (inl e) ih =
        let here : g n ≤ f n + a = subst (λ i. g i ≤ f i + a) (sym e) own in
        let rest = total_le f g n (λ i l. other i (omega (arith, l)) (λ q. omega (arith, l, q, e))) in
        omega (arith, here, rest)
    go (inr ne) ih =
        let rest = ih (omega (arith, lt, ne)) in
        let here = other n (omega arith) ne in
        omega (arith, here, rest)

pub times_less : (c n m : ℕ) → m < n → times c (n - m) ≡ c + times c (n - (m + 1))
times_less c n m h = let e : n - m ≡ suc (n - (m + 1)) = omega (arith, h) in ap (times c) e
