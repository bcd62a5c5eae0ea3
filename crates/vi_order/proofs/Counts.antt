-- Lists of numbers in which each number stands equally often have the same elements.
use Rattle.std.proofs.Common.{◌≡◌, ◌==◌, ℕ, zero, suc, ◌+◌, ◌<◌, ◌≤◌, cond, inl, inr, List, [], ◌∷◌, ◌++◌, length, get_or, map, All, IsPermutation, count_by, remove, refl, ap, sym, subst, arith}
use Rattle.std.specs.List.{range_with_len}
use Rattle.std.specs.List.Sorted.{IsNonDecreasing}
use Rattle.std.proofs.lemmas.Bool.{cases_eq, eq-eqb, ne_eqb}
use Rattle.std.proofs.lemmas.List.{get_or-append-add, length-append}
use Rattle.std.proofs.lemmas.List.Elements.{All-head, All-tail}
use Rattle.std.proofs.lemmas.List.Sums.{sum_by-cons, sum_by-remove}
use Rattle.std.proofs.lemmas.List.Sorted.{IsPermutation-refl, IsPermutation-remove, IsPermutation-cons, IsPermutation-trans}

-- how often a number stands in a list
abbrev pub count : ℕ → List ℕ → ℕ
count v xs = count_by (λ n. n == v) xs

abbrev pub one_at : ℕ → ℕ → ℕ
one_at v n = cond (n == v) 1 0

pub count-cons : (v x : ℕ) (xs : List ℕ) → count v (x ∷ xs) ≡ one_at v x + count v xs
count-cons v x xs = sum_by-cons (one_at v) x xs

one_at-same : (v x : ℕ) → x ≡ v → one_at v x ≡ 1
one_at-same v x e = rw (eq-eqb x v e) refl

one_at-other : (v x : ℕ) → (x ≡ v → ⊥) → one_at v x ≡ 0
one_at-other v x other = rw (ne_eqb x v other) refl

-- ---- ranges

pub count-range_below : (v a n : ℕ) → v < a → count v (range_with_len a n) ≡ 0
count-range_below v a zero below = refl
count-range_below v a (suc n) below =
    omega (arith, count-cons v a (range_with_len (a + 1) n), one_at-other v a (λ e. omega (arith, e)), count-range_below v (a + 1) n (omega arith))

pub count-range_above : (v a n : ℕ) → a + n ≤ v → count v (range_with_len a n) ≡ 0
count-range_above v a zero above = refl
count-range_above v a (suc n) above =
    omega (arith, count-cons v a (range_with_len (a + 1) n), one_at-other v a (λ e. omega (arith, e)), count-range_above v (a + 1) n (omega arith))

pub count-range_within : (v a n : ℕ) → a ≤ v → v < a + n → count v (range_with_len a n) ≡ 1
count-range_within v a zero from to = absurd (omega arith)
count-range_within v a (suc n) from to =
    elim (cases_eq a v) [
      | inl e ↦ omega (arith, count-cons v a (range_with_len (a + 1) n), one_at-same v a e, count-range_below v (a + 1) n (omega (arith, e)))
      | inr other ↦ omega (arith, count-cons v a (range_with_len (a + 1) n), one_at-other v a other, count-range_within v (a + 1) n (omega (arith, other)) (omega arith))
    ]

-- ---- permutations

found : (v : ℕ) (xs : List ℕ) → 0 < count v xs → (i : ℕ) × (i < length xs) × (v ≡ get_or xs i v)
found v [] some = absurd (omega arith)
found v (x ∷ xs) some =
    elim (cases_eq x v) [
      | inl e ↦ (0, omega arith, sym e)
      | inr other ↦
          let rest = found v xs (omega (arith, count-cons v x xs, one_at-other v x other)) in
          (suc rest.0, omega (arith, rest.1), rest.2)
    ]

empty : (xs : List ℕ) → ((v : ℕ) → count v xs ≡ 0) → xs ≡ []
empty [] none = refl
empty (x ∷ xs) none = absurd (omega (arith, none x, count-cons x x xs, one_at-same x x refl))

pub permutation_by_count : (xs ys : List ℕ) → ((v : ℕ) → count v xs ≡ count v ys) → IsPermutation xs ys
permutation_by_count xs [] same = rw (empty xs same) (IsPermutation-refl [])
permutation_by_count xs (y ∷ ys) same =
    let at = found y xs (omega (arith, same y, count-cons y y ys, one_at-same y y refl)) in
    let left : (v : ℕ) → one_at v y + count v (remove xs at.0) ≡ one_at v y + count v ys =
    λ v. let cut : count v (remove xs at.0) + one_at v y ≡ count v xs =
    subst (λ z. count v (remove xs at.0) + one_at v z ≡ count v xs) (sym at.2) (sum_by-remove (one_at v) xs at.0 y at.1) in
    omega (arith, cut, same v, count-cons v y ys) in
    IsPermutation-trans xs (y ∷ remove xs at.0) (y ∷ ys) (IsPermutation-remove xs at.0 y at.1 at.2)
    (IsPermutation-cons y (remove xs at.0) ys (permutation_by_count (remove xs at.0) ys (λ v. omega (arith, left v))))

-- ---- numbers that don't fall

pub rising-cons : (x : ℕ) (xs : List ℕ) → All (λ y. x ≤ y) xs → IsNonDecreasing xs → IsNonDecreasing (x ∷ xs)
rising-cons x xs above up zero zero d le within = omega arith
rising-cons x xs above up zero (suc j) d le within = above j d (omega arith)
rising-cons x xs above up (suc i) zero d le within = absurd (omega arith)
rising-cons x xs above up (suc i) (suc j) d le within = up i j d (omega arith) (omega arith)

pub above_rest : (front : List ℕ) (x : ℕ) (xs : List ℕ) → IsNonDecreasing (front ++ x ∷ xs) → All (λ y. x ≤ y) xs
above_rest front x xs up k d within =
    let h = up (length front + 0) (length front + suc k) d (omega arith) (omega (arith, length-append front (x ∷ xs))) in
    rw (get_or-append-add front (x ∷ xs) 0 d, get_or-append-add front (x ∷ xs) (suc k) d) at h

pub none_above : (f : ℕ → ℕ) (b v : ℕ) (xs : List ℕ) → All (λ y. b ≤ y) (map f xs) → f v < b → count v xs ≡ 0
none_above f b v [] above below = refl
none_above f b v (x ∷ xs) above below =
    let head : b ≤ f x = All-head (λ y. b ≤ y) (f x) (map f xs) above in
    let other : x ≡ v → ⊥ = λ e. let same : f x ≡ f v = ap f e in omega (arith, head, same) in
    omega (arith, count-cons v x xs, one_at-other v x other, none_above f b v xs (All-tail (λ y. b ≤ y) (f x) (map f xs) above) below)
