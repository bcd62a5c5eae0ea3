-- Spans by rising address.
use Rattle.std.proofs.Common.{◌≡◌, ℕ, suc, ◌≤◌, ◌<◌, Bool, true, false, nat_lt, List, [], ◌∷◌, length, get_or, cond, refl, arith}
use Rattle.std.specs.List.{filter, AllByRecursion}
use Rattle.std.specs.List.Sorted.{IsNonDecreasingBy}
use Rattle.std.proofs.lemmas.Bool.Decides.{nat_tests}
use Rattle.vi_bytes.specs.declared.span.Span.{Span}
use Rattle.vi_iova.specs.Spaces.{among}
use Rattle.vi_iova.specs.Order.{BeginFrom, AreRising}

-- a fact at a test from the fact at each of its answers
pub by_test : (t : Bool) (P : Bool → Type 0) → (t ≡ true → P true) → (t ≡ false → P false) → P t
by_test t P at_true at_false = elim t as (λ b. (b ≡ true → P true) → (b ≡ false → P false) → P b) [ true ↦ λ f g. f refl | false ↦ λ f g. g refl ] at_true at_false

-- what is so of each span is so where one is left out, and where one comes to them of which it is so too
pub all-filter : {X : Type 0} (P : X → Type 0) (p : X → Bool) (xs : List X) → AllByRecursion P xs → AllByRecursion P (filter p xs)
all-filter P p [] all = tt
all-filter P p (x ∷ xs) all =
    let rest = all-filter P p xs all.1 in
    elim (p x) as (λ b. AllByRecursion P (cond b (x ∷ filter p xs) (filter p xs))) [ true ↦ (all.0, rest) | false ↦ rest ]

pub all-among : (P : Span → Type 0) (span : Span) (ts : List Span) → P span → AllByRecursion P ts → AllByRecursion P (among span ts)
all-among P span [] here all = (here, tt)
all-among P span (t ∷ ts) here all =
    let rest = all-among P span ts here all.1 in
    elim (nat_lt span.first t.first) as (λ b. AllByRecursion P (cond b (span ∷ t ∷ ts) (t ∷ among span ts))) [ true ↦ (here, all) | false ↦ (all.0, rest) ]

-- what begins from an address on begins from each lower one on
pub BeginFrom-lower : (low high : ℕ) (ts : List Span) → low ≤ high → BeginFrom high ts → BeginFrom low ts
BeginFrom-lower low high [] le from = tt
BeginFrom-lower low high (t ∷ ts) le from = (let h : high ≤ t.first = from.0 in omega arith, BeginFrom-lower low high ts le from.1)

pub AreRising-filter : (p : Span → Bool) (ts : List Span) → AreRising ts → AreRising (filter p ts)
AreRising-filter p [] rising = tt
AreRising-filter p (t ∷ ts) rising =
    let rest = AreRising-filter p ts rising.1 in
    elim (p t) as (λ b. AreRising (cond b (t ∷ filter p ts) (filter p ts))) [ true ↦ (all-filter (λ u. t.first ≤ u.first) p ts rising.0, rest) | false ↦ rest ]

pub AreRising-among : (span : Span) (ts : List Span) → AreRising ts → AreRising (among span ts)
AreRising-among span [] rising = (tt, tt)
AreRising-among span (t ∷ ts) rising =
    let rest = AreRising-among span ts rising.1 in
    let P : Bool → Type 0 = λ b. AreRising (cond b (span ∷ t ∷ ts) (t ∷ among span ts)) in
    let lower : nat_lt span.first t.first ≡ true → P true = λ (h : nat_lt span.first t.first ≡ true).
    let le : span.first ≤ t.first = grind (arith, nat_tests) in
    ((le, BeginFrom-lower span.first t.first ts le rising.0), rising) in
    let higher : nat_lt span.first t.first ≡ false → P false = λ (h : nat_lt span.first t.first ≡ false).
    let le : t.first ≤ span.first = grind (arith, nat_tests) in
    (all-among (λ u. t.first ≤ u.first) span ts le rising.0, rest) in
    by_test (nat_lt span.first t.first) P lower higher

-- sorted by their first addresses, by index and by recursion
BeginFrom-index : (address : ℕ) (ts : List Span) → ((k : ℕ) (d : Span) → k < length ts → address ≤ (get_or ts k d).first) → BeginFrom address ts
BeginFrom-index address [] each = tt
BeginFrom-index address (t ∷ ts) each = (each 0 t (omega arith), BeginFrom-index address ts (λ k d below. each (suc k) d (omega arith)))

pub AreRising-sorted : (ts : List Span) → IsNonDecreasingBy (λ t. t.first) ts → AreRising ts
AreRising-sorted [] sorted = tt
AreRising-sorted (t ∷ ts) sorted = (
  BeginFrom-index t.first ts (λ k d below. sorted 0 (suc k) d (omega arith) (omega arith)),
  AreRising-sorted ts (λ i j d le below. sorted (suc i) (suc j) d (omega arith) (omega arith)),
)
