-- Lists of numbers in which each number stands equally often are one list in two orders.
use Rattle.std.proofs.Common.{◌≡◌, ℕ, ◌+◌, ◌≤◌, Bool, true, false, List, [], ◌∷◌, ◌++◌, refl, sym, ap, subst, arith}
use Rattle.std.specs.Prelude.{count_by, ◌==◌, if◌then◌else◌, IsPermutation}
use Rattle.std.proofs.lemmas.List.Sums.{sum_by-append}
use Rattle.std.proofs.lemmas.List.Sorted.{IsPermutation-refl, IsPermutation-sym, IsPermutation-cons, IsPermutation-middle, IsPermutation-trans}
use Rattle.vi_calls.proofs.Counting.{one, count-cons, is-at, one-same}

-- how often a number stands there
abbrev pub times : ℕ → List ℕ → ℕ
times n xs = count_by (λ (x : ℕ). x == n) xs

pub times-append : (n : ℕ) (xs ys : List ℕ) → times n (xs ++ ys) ≡ times n xs + times n ys
times-append n xs ys = sum_by-append (λ (x : ℕ). if x == n then 1 else 0) xs ys

pub times-cons : (n x : ℕ) (xs : List ℕ) → times n (x ∷ xs) ≡ one (x == n) + times n xs
times-cons n x xs = count-cons (λ (y : ℕ). y == n) x xs

times-middle : (n x : ℕ) (before after : List ℕ) → times n (before ++ x ∷ after) ≡ one (x == n) + times n (before ++ after)
times-middle n x before after = omega (arith, times-append n before (x ∷ after), times-append n before after, times-cons n x after)

-- the number stands between two parts
record IsParted (n : ℕ) (xs : List ℕ) : Type 0 where
  pub before : List ℕ
  pub after : List ℕ
  pub is : xs ≡ before ++ n ∷ after

parted : (n : ℕ) (xs : List ℕ) → 1 ≤ times n xs → IsParted n xs
parted n [] some = absurd (omega arith)
parted n (x ∷ xs) some = go (x == n) refl (parted n xs)
  where
    go : (b : Bool) → (x == n) ≡ b → (1 ≤ times n xs → IsParted n xs) → IsParted n (x ∷ xs)
    go true e rest = record { before = []; after = xs; is = ap (λ (y : ℕ). y ∷ xs) (is-at x n e) }
    go false e rest =
        let w : one (x == n) ≡ 0 = ap one e in
        let there = rest (omega (arith, some, w, times-cons n x xs)) in
        record { before = x ∷ there.before; after = there.after; is = ap (λ (ys : List ℕ). x ∷ ys) there.is }

pub permuted : (xs ys : List ℕ) → ((n : ℕ) → times n xs ≡ times n ys) → IsPermutation xs ys
permuted [] [] same = IsPermutation-refl []
permuted [] (y ∷ ys) same = absurd (omega (arith, same y, one-same y, times-cons y y ys))
permuted (x ∷ xs) ys same =
    let p = parted x ys (omega (arith, same x, one-same x, times-cons x x xs)) in
    let rest = permuted xs (p.before ++ p.after)
    (λ n. (let there = ap (times n) p.is in omega (arith, same n, there, times-cons n x xs, times-middle n x p.before p.after))) in
    let first = IsPermutation-cons x xs (p.before ++ p.after) rest in
    let back = IsPermutation-sym (p.before ++ x ∷ p.after) (x ∷ (p.before ++ p.after)) (IsPermutation-middle p.before x p.after) in
    subst (IsPermutation (x ∷ xs)) (sym p.is) (IsPermutation-trans (x ∷ xs) (x ∷ (p.before ++ p.after)) (p.before ++ x ∷ p.after) first back)
