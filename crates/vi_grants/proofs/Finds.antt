-- What a search finds in a part of a list.
use Rattle.std.proofs.Common.{◌≡◌, ℕ, suc, ◌-◌, ◌<◌, ◌≤◌, Bool, true, false, cond, not, nat_lt, List, [], ◌∷◌, Some, None, is_some, length, get_or, take, drop, ◌++◌, refl, sym, ap, ◌∙◌, subst, arith}
use Rattle.std.specs.List.{filter, find, count_by}
use Rattle.std.proofs.Math.Seq.{take-suc, drop-cons, length-take-le}
use Rattle.std.proofs.Math.ListN.{get_or-append}
use Rattle.std.proofs.lemmas.List.{append_assoc, get_or-take}
use Rattle.std.proofs.lemmas.List.Sums.{length-filter}
use Rattle.std.proofs.lemmas.List.Filters.{length-filter_both}
use Rattle.std.proofs.lemmas.Bool.Decides.{nat_tests}

-- an element that passes is found from its place on
pub find-drop_here : {X : Type 0} (p : X → Bool) (xs : List X) (i : ℕ) (d : X) → i < length xs → p (get_or xs i d) ≡ true → find p (drop i xs) ≡ Some (get_or xs i d)
find-drop_here p xs i d below passes = rw (drop-cons xs i d below, passes) refl

-- what isn't in a list isn't in a part of it
pub find_none-filter : {X : Type 0} (p q : X → Bool) (xs : List X) → find p xs ≡ None → find p (filter q xs) ≡ None
find_none-filter p q [] h = h
find_none-filter {X} p q (x ∷ xs) h = go (p x) (q x) refl h (find_none-filter p q xs) where
  go : (b c : Bool) → p x ≡ b → cond b (Some x) (find p xs) ≡ None → (find p xs ≡ None → find p (filter q xs) ≡ None) → find p (cond c (x ∷ filter q xs) (filter q xs)) ≡ None
  go true c e none rest = cc
  go false true e none rest = rw e (rest none)
  go false false e none rest = rest none

-- nor what passes in the part that fails
pub find-filter_not : {X : Type 0} (p : X → Bool) (xs : List X) → find p (filter (λ x. not (p x)) xs) ≡ None
find-filter_not p [] = refl
find-filter_not {X} p (x ∷ xs) = go (p x) refl (find-filter_not p xs) where
  go : (b : Bool) → p x ≡ b → find p (filter (λ y. not (p y)) xs) ≡ None → find p (cond (not b) (x ∷ filter (λ y. not (p y)) xs) (filter (λ y. not (p y)) xs)) ≡ None
  go true e rest = rest
  go false e rest = rw e rest

-- a filter leaves no more than there were
pub length-filter-le : {X : Type 0} (p : X → Bool) (xs : List X) → length (filter p xs) ≤ length xs
length-filter-le p xs = omega (arith, length-filter_both p (λ x. not (p x)) (λ _. refl) xs)

-- what it takes out is what the test counts
pub count_by-from_lengths : {X : Type 0} (p : X → Bool) (xs ys : List X) (had left : ℕ) → had ≡ length xs → left ≡ length ys → ys ≡ filter (λ x. not (p x)) xs → had - left ≡ count_by p xs
count_by-from_lengths {X} p xs ys had left at_first at_last rest =
    let kept = ap (λ (zs : List X). length zs) rest in
    omega (arith, kept, length-filter_both p (λ x. not (p x)) (λ _. refl) xs, length-filter p xs)

-- a filter by a test's opposite leaves fewer where the test finds an element
pub length-filter_not-lt : {X : Type 0} (p : X → Bool) (xs : List X) → is_some (find p xs) ≡ true → length (filter (λ x. not (p x)) xs) < length xs
length-filter_not-lt p [] h = cc
length-filter_not-lt {X} p (x ∷ xs) h = go (p x) h (length-filter-le (λ y. not (p y)) xs) (length-filter_not-lt p xs) where
  go : (b : Bool) → is_some (cond b (Some x) (find p xs)) ≡ true → length (filter (λ y. not (p y)) xs) ≤ length xs → (is_some (find p xs) ≡ true → length (filter (λ y. not (p y)) xs) < length xs) → length (cond (not b) (x ∷ filter (λ y. not (p y)) xs) (filter (λ y. not (p y)) xs)) < suc (length xs)
  go true found le rest = omega arith
  go false found le rest = let h : length (filter (λ y. not (p y)) xs) < length xs = rest found in omega arith

-- and as many where it finds none
length-filter_not-same : {X : Type 0} (p : X → Bool) (xs : List X) → is_some (find p xs) ≡ false → length (filter (λ x. not (p x)) xs) ≡ length xs
length-filter_not-same p [] h = refl
length-filter_not-same {X} p (x ∷ xs) h = go (p x) h (length-filter_not-same p xs) where
  go : (b : Bool) → is_some (cond b (Some x) (find p xs)) ≡ false → (is_some (find p xs) ≡ false → length (filter (λ y. not (p y)) xs) ≡ length xs) → length (cond (not b) (x ∷ filter (λ y. not (p y)) xs) (filter (λ y. not (p y)) xs)) ≡ suc (length xs)
  go true none rest = cc
  go false none rest = let h : length (filter (λ y. not (p y)) xs) ≡ length xs = rest none in omega arith

-- so the lengths tell whether it finds one
pub finds-from_lengths : {X : Type 0} (p : X → Bool) (xs ys : List X) (had left : ℕ) → had ≡ length xs → left ≡ length ys → ys ≡ filter (λ x. not (p x)) xs → nat_lt left had ≡ is_some (find p xs)
finds-from_lengths {X} p xs ys had left at_first at_last rest = sym (go (is_some (find p xs)) refl) where
  kept : length ys ≡ length (filter (λ x. not (p x)) xs)
  kept = ap (λ (zs : List X). length zs) rest

  go : (b : Bool) → is_some (find p xs) ≡ b → b ≡ nat_lt left had
  go true e = let lt : left < had = omega (arith, kept, length-filter_not-lt p xs e) in grind (arith, nat_tests)
  go false e = let le : had ≤ left = omega (arith, kept, length-filter_not-same p xs e) in grind (arith, nat_tests)

-- a filter from the back on keeps the element below the place, where it passes
pub filter-step : {X : Type 0} (p : X → Bool) (xs ys : List X) (at n : ℕ) (x : X) → at ≡ suc n → n < length xs → ys ≡ take at xs ++ filter p (drop at xs) → x ≡ get_or ys n x → p x ≡ true → ys ≡ take n xs ++ filter p (drop n xs)
filter-step {X} p xs ys at n x place below so_far read passes =
    let so_far' = rw place at so_far in
    let long : length (take (suc n) xs) ≡ suc n = length-take-le (suc n) xs below in
    let unchanged : get_or ys n x ≡ get_or xs n x =
    ap (λ (zs : List X). get_or zs n x) so_far' ∙ get_or-append (take (suc n) xs) (filter p (drop (suc n) xs)) x n (omega arith) ∙ get_or-take (suc n) xs n x (omega arith) in
    let here : p (get_or xs n x) ≡ true = subst (λ (y : X). p y ≡ true) (read ∙ unchanged) passes in
    let front = ap (λ (zs : List X). zs ++ filter p (drop (suc n) xs)) (take-suc xs n x below) ∙ append_assoc (take n xs) (get_or xs n x ∷ []) (filter p (drop (suc n) xs)) in
    let back : filter p (drop n xs) ≡ get_or xs n x ∷ filter p (drop (suc n) xs) = rw (drop-cons xs n x below, here) refl in
    so_far' ∙ front ∙ sym (ap (λ (zs : List X). take n xs ++ zs) back)
