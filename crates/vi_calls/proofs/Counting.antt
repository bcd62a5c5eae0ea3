-- Lists whose elements have keys: how often a key is there, and the list without the first element that has it.
use Rattle.std.proofs.Common.{◌≡◌, ◌≢◌, ℕ, ◌+◌, ◌≤◌, Bool, true, false, not, List, [], ◌∷◌, ◌++◌, length, map, Some, None, refl, ap, sym, subst, arith}
use Rattle.std.specs.Prelude.{if◌then◌else◌, ◌==◌, count_by, filter, find, is_some}
use Rattle.std.specs.List.{AllByRecursion}
use Rattle.std.proofs.lemmas.Bool.Decides.{nat_tests}
use Rattle.std.proofs.lemmas.List.Sums.{sum_by-cons, sum_by-append}

abbrev pub one : Bool → ℕ
one b = if b then 1 else 0

pub count-cons : {X : Type 0} (p : X → Bool) (x : X) (xs : List X) → count_by p (x ∷ xs) ≡ one (p x) + count_by p xs
count-cons p x xs = sum_by-cons (λ y. if p y then 1 else 0) x xs

pub count-push : {X : Type 0} (p : X → Bool) (xs : List X) (x : X) → count_by p (xs ++ x ∷ []) ≡ count_by p xs + one (p x)
count-push p xs x =
    let last : count_by p (x ∷ []) ≡ one (p x) + 0 = count-cons p x [] in
    omega (arith, sum_by-append (λ y. if p y then 1 else 0) xs (x ∷ []), last)

pub All-push : {X : Type 0} (P : X → Type 0) (xs : List X) (x : X) → AllByRecursion P xs → P x → AllByRecursion P (xs ++ x ∷ [])
All-push P [] x all new = (new, tt)
All-push P (y ∷ ys) x all new = (all.0, All-push P ys x all.1 new)

pub All-each : {X : Type 0} (P Q : X → Type 0) (xs : List X) → ((x : X) → P x → Q x) → AllByRecursion P xs → AllByRecursion Q xs
All-each P Q [] f all = tt
All-each P Q (x ∷ xs) f all = (f x all.0, All-each P Q xs f all.1)

-- the elements that are kept, of a map
pub map-filter : {X Y : Type 0} (f : X → Y) (p : Y → Bool) (xs : List X) → filter p (map f xs) ≡ map f (filter (λ x. p (f x)) xs)
map-filter f p [] = refl
map-filter f p (x ∷ xs) = go (p (f x)) (map-filter f p xs)
  where
    go : (b : Bool) → filter p (map f xs) ≡ map f (filter (λ y. p (f y)) xs)
        → (if b then f x ∷ filter p (map f xs) else filter p (map f xs)) ≡ map f (if b then x ∷ filter (λ y. p (f y)) xs else filter (λ y. p (f y)) xs)
    go true e = ap (λ ys. f x ∷ ys) e
    go false e = e

pub is-at : (m n : ℕ) → (m == n) ≡ true → m ≡ n
is-at m n e = grind (arith, nat_tests)

pub not-at : (m n : ℕ) → (m == n) ≡ false → m ≢ n
not-at m n e = grind (arith, nat_tests)

pub is-other : (m n : ℕ) → m ≢ n → (n == m) ≡ false
is-other m n e = grind (arith, nat_tests)

pub is-same : (n : ℕ) → (n == n) ≡ true
is-same n = grind (arith, nat_tests)

pub one-same : (n : ℕ) → one (n == n) ≡ 1
one-same n = grind (arith, nat_tests)

module _ {X : Type 0} (key : X → ℕ) where
  abbrev pub has : ℕ → X → Bool
  has k x = key x == k

  abbrev pub without : ℕ → List X → List X
  without k [] = []
  without k (x ∷ xs) = if key x == k then xs else x ∷ without k xs

  -- a key that isn't there
  pub absent-head : (k : ℕ) (x : X) (xs : List X) → count_by (has k) (x ∷ xs) ≡ 0 → (key x ≢ k) × (count_by (has k) xs ≡ 0)
  absent-head k x xs none = go (key x == k) refl (count-cons (has k) x xs)
    where
      go : (b : Bool) → (key x == k) ≡ b → count_by (has k) (x ∷ xs) ≡ one b + count_by (has k) xs → (key x ≢ k) × (count_by (has k) xs ≡ 0)
      go true e c = absurd (omega arith)
      go false e c = (not-at (key x) k e, omega arith)

  -- one that is there once is found there
  pub find-present : (k : ℕ) (xs : List X) → 1 ≤ count_by (has k) xs → is_some (find (has k) xs) ≡ true
  find-present k [] some = absurd (omega arith)
  find-present k (x ∷ xs) some = go (key x == k) (count-cons (has k) x xs) (find-present k xs)
    where
      go : (b : Bool) → count_by (has k) (x ∷ xs) ≡ one b + count_by (has k) xs → (1 ≤ count_by (has k) xs → is_some (find (has k) xs) ≡ true) → is_some (if b then Some x else find (has k) xs) ≡ true
      go true c rest = refl
      go false c rest = rest (omega arith)

  pub find-absent : (k : ℕ) (xs : List X) → count_by (has k) xs ≡ 0 → find (has k) xs ≡ None
  find-absent k [] none = refl
  find-absent k (x ∷ xs) none = go (key x == k) (count-cons (has k) x xs) (find-absent k xs)
    where
      go : (b : Bool) → count_by (has k) (x ∷ xs) ≡ one b + count_by (has k) xs → (count_by (has k) xs ≡ 0 → find (has k) xs ≡ None) → (if b then Some x else find (has k) xs) ≡ None
      go true c rest = absurd (omega arith)
      go false c rest = rest (omega arith)

  -- what is found has the key, and what holds of each element
  pub find-All : (P : X → Type 0) (k : ℕ) (xs : List X) (x : X) → find (has k) xs ≡ Some x → AllByRecursion P xs → P x × (key x ≡ k) × (1 ≤ count_by (has k) xs)
  find-All P k [] x found all = absurd (cc)
  find-All P k (y ∷ ys) x found all = go (key y == k) refl found (count-cons (has k) y ys) (λ f. find-All P k ys x f all.1)
    where
      go : (b : Bool) → (key y == k) ≡ b → (if b then Some y else find (has k) ys) ≡ Some x → count_by (has k) (y ∷ ys) ≡ one b + count_by (has k) ys
          → (find (has k) ys ≡ Some x → P x × (key x ≡ k) × (1 ≤ count_by (has k) ys)) → P x × (key x ≡ k) × (1 ≤ count_by (has k) (y ∷ ys))
      go true e f c rest = let same : y ≡ x = cc in subst (λ z. P z × (key z ≡ k) × (1 ≤ count_by (has k) (y ∷ ys))) same (all.0, is-at (key y) k e, omega arith)
      go false e f c rest = let r = rest f in (r.0, r.1, omega (arith, r.2))

  -- without the first element of a key
  pub count-without : (k j : ℕ) (xs : List X) → 1 ≤ count_by (has k) xs → count_by (has j) (without k xs) + one (k == j) ≡ count_by (has j) xs
  count-without k j [] some = absurd (omega arith)
  count-without k j (x ∷ xs) some = go (key x == k) refl (count-cons (has k) x xs) (count-without k j xs)
    where
      go : (b : Bool) → (key x == k) ≡ b → count_by (has k) (x ∷ xs) ≡ one b + count_by (has k) xs → (1 ≤ count_by (has k) xs → count_by (has j) (without k xs) + one (k == j) ≡ count_by (has j) xs)
          → count_by (has j) (if b then xs else x ∷ without k xs) + one (k == j) ≡ count_by (has j) (x ∷ xs)
      go true e c rest =
          let same : one (key x == j) ≡ one (k == j) = ap (λ m. one (m == j)) (is-at (key x) k e) in
          omega (arith, count-cons (has j) x xs, same)
      go false e c rest = omega (arith, count-cons (has j) x xs, count-cons (has j) x (without k xs), rest (omega arith))

  pub length-without : (k : ℕ) (xs : List X) → 1 ≤ count_by (has k) xs → length (without k xs) + 1 ≡ length xs
  length-without k [] some = absurd (omega arith)
  length-without k (x ∷ xs) some = go (key x == k) (count-cons (has k) x xs) (length-without k xs)
    where
      go : (b : Bool) → count_by (has k) (x ∷ xs) ≡ one b + count_by (has k) xs → (1 ≤ count_by (has k) xs → length (without k xs) + 1 ≡ length xs)
          → length (if b then xs else x ∷ without k xs) + 1 ≡ length (x ∷ xs)
      go true c rest = omega arith
      go false c rest = omega (arith, rest (omega arith))

  pub All-without : (P : X → Type 0) (k : ℕ) (xs : List X) → AllByRecursion P xs → AllByRecursion P (without k xs)
  All-without P k [] all = tt
  All-without P k (x ∷ xs) all = go (key x == k) (All-without P k xs all.1)
    where
      go : (b : Bool) → AllByRecursion P (without k xs) → AllByRecursion P (if b then xs else x ∷ without k xs)
      go true rest = all.1
      go false rest = (all.0, rest)

  -- another key is found as before
  pub find-without : (k j : ℕ) (xs : List X) → j ≢ k → find (has j) (without k xs) ≡ find (has j) xs
  find-without k j [] other = refl
  find-without k j (x ∷ xs) other = go (key x == k) refl (find-without k j xs other)
    where
      go : (b : Bool) → (key x == k) ≡ b → find (has j) (without k xs) ≡ find (has j) xs → find (has j) (if b then xs else x ∷ without k xs) ≡ (if key x == j then Some x else find (has j) xs)
      go true e rest =
          let same : key x ≡ k = is-at (key x) k e in
          let no : (key x == j) ≡ false = grind (arith, nat_tests) in
          rw no refl
      go false e rest = ap (λ o. if key x == j then Some x else o) rest

  -- a key that is there once at most: nothing else has it
  pub filter-absent : (k : ℕ) (xs : List X) → count_by (has k) xs ≡ 0 → filter (λ x. not (has k x)) xs ≡ xs
  filter-absent k [] none = refl
  filter-absent k (x ∷ xs) none = go (key x == k) (count-cons (has k) x xs) (filter-absent k xs)
    where
      go : (b : Bool) → count_by (has k) (x ∷ xs) ≡ one b + count_by (has k) xs → (count_by (has k) xs ≡ 0 → filter (λ y. not (has k y)) xs ≡ xs)
          → (if not b then x ∷ filter (λ y. not (has k y)) xs else filter (λ y. not (has k y)) xs) ≡ x ∷ xs
      go true c rest = absurd (omega arith)
      go false c rest = ap (λ ys. x ∷ ys) (rest (omega arith))

  pub without-filter : (k : ℕ) (xs : List X) → count_by (has k) xs ≤ 1 → without k xs ≡ filter (λ x. not (has k x)) xs
  without-filter k [] once = refl
  without-filter k (x ∷ xs) once = go (key x == k) (count-cons (has k) x xs) (without-filter k xs)
    where
      go : (b : Bool) → count_by (has k) (x ∷ xs) ≡ one b + count_by (has k) xs → (count_by (has k) xs ≤ 1 → without k xs ≡ filter (λ y. not (has k y)) xs)
          → (if b then xs else x ∷ without k xs) ≡ (if not b then x ∷ filter (λ y. not (has k y)) xs else filter (λ y. not (has k y)) xs)
      go true c rest = sym (filter-absent k xs (omega arith))
      go false c rest = ap (λ ys. x ∷ ys) (rest (omega arith))
