-- Numbers digit by digit: the answer for a word is the one for its rest behind what was read.
use Rattle.std.proofs.Common.{◌≡◌, ◌==◌, ℕ, ◌+◌, ◌*◌, ◌^◌, ◌<◌, ◌≤◌, true, false, cond, List, [], ◌∷◌, length, Option, Some, None, drop, get_or, refl, ap, sym, ◌∙◌, arith, inl, inr}
use Rattle.std.specs.Prelude.{nat_lt}
use Rattle.std.specs.Option.{option_map}
use Rattle.std.specs.List.{list_all}
use Rattle.std.proofs.lemmas.Bool.{cases_Bool, lt-ltb, le-ltb, eqb-true}
use Rattle.std.proofs.Math.Nat.{mul-le-mul_left}
use Rattle.std.proofs.lemmas.List.{drop_more, drop_all}
use Rattle.vi_words.specs.Numbers.{digit_of, worth_from, digits_in, bounded, capped}

-- what digits are worth behind a number, if they are digits
pub more_worth : ℕ → ℕ → List ℕ → Option ℕ
more_worth base before xs = cond (list_all (λ b. nat_lt (digit_of b) base) xs) (bounded (Some (worth_from base before xs))) None

pub more_worth-all : (base : ℕ) (word : List ℕ) → false ≡ (length word == 0) → bounded (digits_in base word) ≡ more_worth base 0 word
unfolding digits_in more_worth
more_worth-all base [] h = absurd (cc)
more_worth-all base (b ∷ bs) h =
    elim (cases_Bool (list_all (λ b. nat_lt (digit_of b) base) (b ∷ bs))) [
      | inl y ↦ rw y refl
      | inr n ↦ rw n refl
    ]

pub digits_in-nil : (base : ℕ) (word : List ℕ) → true ≡ (length word == 0) → digits_in base word ≡ None
unfolding digits_in
digits_in-nil base [] h = refl
digits_in-nil base (b ∷ bs) h = let e = eqb-true (length (b ∷ bs)) 0 (sym h) in absurd (omega arith)

-- one more digit
pub more_worth-digit : (base before i digit : ℕ) (word : List ℕ) → i < length word → digit ≡ digit_of (get_or word i 0) → digit < base
    → more_worth base before (drop i word) ≡ more_worth base (before * base + digit) (drop (i + 1) word)
unfolding more_worth
more_worth-digit base before i digit word below is small =
    let passes : nat_lt (digit_of (get_or word i 0)) base ≡ true = rw (← is) (lt-ltb digit base small) in
    rw (drop_more word i 0 below, passes, is) refl

-- a byte that is no digit
pub more_worth-other : (base before i digit : ℕ) (word : List ℕ) → i < length word → digit ≡ digit_of (get_or word i 0) → base ≤ digit
    → more_worth base before (drop i word) ≡ None
unfolding more_worth
more_worth-other base before i digit word below is other =
    let fails : nat_lt (digit_of (get_or word i 0)) base ≡ false = rw (← is) (le-ltb digit base other) in
    rw (drop_more word i 0 below, fails) refl

-- no more digits
pub more_worth-end : (base before i : ℕ) (word : List ℕ) → length word ≤ i → before < 2 ^ 64 → more_worth base before (drop i word) ≡ Some before
unfolding more_worth
more_worth-end base before i word past fits = rw (drop_all i word past, lt-ltb before (2 ^ 64) fits) refl

-- a number only grows
worth_from-le : (base before : ℕ) (xs : List ℕ) → 1 ≤ base → before ≤ worth_from base before xs
worth_from-le base before [] some = omega arith
worth_from-le base before (x ∷ xs) some =
    let e = worth_from-le base (before * base + digit_of x) xs some in
    let m : before * 1 ≤ before * base = mul-le-mul_left before some in
    omega arith

-- so one that is too large stays it
pub more_worth-large : (base before : ℕ) (xs : List ℕ) → 1 ≤ base → 2 ^ 64 ≤ before → more_worth base before xs ≡ None
unfolding more_worth
more_worth-large base before xs some large =
    let e = worth_from-le base before xs some in
    let past : 2 ^ 64 ≤ worth_from base before xs = omega arith in
    elim (cases_Bool (list_all (λ b. nat_lt (digit_of b) base) xs)) [
      | inl y ↦ rw (y, le-ltb (worth_from base before xs) (2 ^ 64) past) refl
      | inr n ↦ rw n refl
    ]

-- the same with large numbers counting as one
capped_worth-same : (a b : ℕ) (xs : List ℕ) → capped a ≡ capped b → capped (worth_from 10 a xs) ≡ capped (worth_from 10 b xs)
capped_worth-same a b [] h = h
capped_worth-same a b (x ∷ xs) h = capped_worth-same (a * 10 + digit_of x) (b * 10 + digit_of x) xs (omega arith)

pub more_capped : ℕ → List ℕ → Option ℕ
more_capped before xs = cond (list_all (λ b. nat_lt (digit_of b) 10) xs) (Some (capped (worth_from 10 before xs))) None

pub more_capped-all : (word : List ℕ) → false ≡ (length word == 0) → option_map capped (digits_in 10 word) ≡ more_capped 0 word
unfolding digits_in more_capped
more_capped-all [] h = absurd (cc)
more_capped-all (b ∷ bs) h =
    elim (cases_Bool (list_all (λ b. nat_lt (digit_of b) 10) (b ∷ bs))) [
      | inl y ↦ rw y refl
      | inr n ↦ rw n refl
    ]

pub more_capped-digit : (before i digit : ℕ) (word : List ℕ) → i < length word → digit ≡ digit_of (get_or word i 0) → digit < 10
    → more_capped before (drop i word) ≡ more_capped (capped (before * 10 + digit)) (drop (i + 1) word)
unfolding more_capped
more_capped-digit before i digit word below is small =
    let passes : nat_lt (digit_of (get_or word i 0)) 10 ≡ true = rw (← is) (lt-ltb digit 10 small) in
    let same : capped (worth_from 10 (before * 10 + digit) (drop (i + 1) word)) ≡ capped (worth_from 10 (capped (before * 10 + digit)) (drop (i + 1) word)) =
    capped_worth-same (before * 10 + digit) (capped (before * 10 + digit)) (drop (i + 1) word) (omega arith) in
    let rest = drop (i + 1) word in
    rw (drop_more word i 0 below, passes)
    (ap (λ n. cond (list_all (λ b. nat_lt (digit_of b) 10) rest) (Some n) None) (ap (λ d. capped (worth_from 10 (before * 10 + d) rest)) (sym is) ∙ same))

pub more_capped-other : (before i digit : ℕ) (word : List ℕ) → i < length word → digit ≡ digit_of (get_or word i 0) → 10 ≤ digit
    → more_capped before (drop i word) ≡ None
unfolding more_capped
more_capped-other before i digit word below is other =
    let fails : nat_lt (digit_of (get_or word i 0)) 10 ≡ false = rw (← is) (le-ltb digit 10 other) in
    rw (drop_more word i 0 below, fails) refl

pub more_capped-end : (before i : ℕ) (word : List ℕ) → length word ≤ i → before ≤ 4294967296 → more_capped before (drop i word) ≡ Some before
unfolding more_capped
more_capped-end before i word past fits =
    let e : capped before ≡ before = omega arith in
    rw (drop_all i word past) (ap (λ n. Some n) e)
