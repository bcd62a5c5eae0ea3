-- The run of a page from its lowest page to its highest.
use Rattle.std.proofs.Common.{◌≡◌, ℕ, ◌+◌, ◌-◌, ◌*◌, ◌/◌, ◌≤◌, ◌<◌, ◌==◌, ◌&&◌, Bool, true, false, zero, suc, min, max, nat_lt, List, [], ◌∷◌, ◌++◌, length, Option, Some, None, refl, ap, ◌∙◌, arith}
use Rattle.std.specs.List.{filter, list_all, range_with_len}
use Rattle.std.proofs.lemmas.Bool.Decides.{nat_tests}
use Rattle.std.proofs.lemmas.List.Elements.{filter-append}
use Rattle.std.proofs.lemmas.List.FromFn.{length-range_with_len}
use Rattle.vi_bytes.specs.declared.lease.Lease.{Lease}
use Rattle.vi_bytes.specs.declared.lease.Mapping.{Mapping}
use Rattle.vi_history.specs.Device.{Dev}
use Rattle.vi_history.specs.Runs.{run, run_of, lease_over, reached, pages_between, goes_alike, mapping_through, same_mapping}
use Rattle.vi_history.specs.Translation.{lease}
use Rattle.vi_ranges.proofs.MappingLemmas.{by_test}
use Rattle.vi_device.specs.Ends.{IsLowest, IsHighest}

-- tests over the numbers from a on
all_pass : (test : ℕ → Bool) (a n : ℕ) → ((q : ℕ) → a ≤ q → q < a + n → test q ≡ true) → list_all test (range_with_len a n) ≡ true
all_pass test a zero passes = refl
all_pass test a (suc n) passes =
    let here : test a ≡ true = passes a (omega arith) (omega arith) in
    rw here (all_pass test (a + 1) n (λ q low high. passes q (omega arith) (omega arith)))

one_fails : (test : ℕ → Bool) (a n q : ℕ) → a ≤ q → q < a + n → test q ≡ false → list_all test (range_with_len a n) ≡ false
one_fails test a zero q low high fails = absurd (omega arith)
one_fails test a (suc n) q low high fails =
    by_test (a == q) (λ _. list_all test (range_with_len a (suc n)) ≡ false)
    (λ (t : (a == q) ≡ true). let same : a ≡ q = grind (arith, nat_tests) in let here : test a ≡ false = rw same fails in rw here refl)
    (λ (t : (a == q) ≡ false).
    let differ : (a ≡ q → ⊥) = grind (arith, nat_tests) in
    let above : a + 1 ≤ q = omega arith in
    rw (one_fails test (a + 1) n q above (omega arith) fails) (ends (test a)))
  where
    ends : (b : Bool) → (b && false) ≡ false
    ends true = refl
    ends false = refl

keeps_all : (p : ℕ → Bool) (a n : ℕ) → ((q : ℕ) → a ≤ q → q < a + n → p q ≡ true) → filter p (range_with_len a n) ≡ range_with_len a n
keeps_all p a zero passes = refl
keeps_all p a (suc n) passes =
    let here : p a ≡ true = passes a (omega arith) (omega arith) in
    rw here (ap (λ qs. a ∷ qs) (keeps_all p (a + 1) n (λ q low high. passes q (omega arith) (omega arith))))

keeps_none : (p : ℕ → Bool) (a n : ℕ) → ((q : ℕ) → a ≤ q → q < a + n → p q ≡ false) → filter p (range_with_len a n) ≡ []
keeps_none p a zero fails = refl
keeps_none p a (suc n) fails =
    let here : p a ≡ false = fails a (omega arith) (omega arith) in
    rw here (keeps_none p (a + 1) n (λ q low high. fails q (omega arith) (omega arith)))

parts : (a m n b : ℕ) → a + m ≡ b → range_with_len a (m + n) ≡ range_with_len a m ++ range_with_len b n
parts a zero n b e = let same : a ≡ b = omega arith in rw (same, zero_more n) refl
  where
    zero_more : (n : ℕ) → zero + n ≡ n
    zero_more n = omega arith
parts a (suc m) n b e =
    let more : suc m + n ≡ suc (m + n) = omega arith in
    let here : a + 1 + m ≡ b = omega arith in
    rw more (ap (λ qs. a ∷ qs) (parts (a + 1) m n b here))

-- what passes is the numbers from low to high
keeps_between : (p : ℕ → Bool) (a n low high : ℕ) → a ≤ low → low ≤ high → high < a + n
    → ((q : ℕ) → a ≤ q → q < low → p q ≡ false) → ((q : ℕ) → low ≤ q → q ≤ high → p q ≡ true) → ((q : ℕ) → high < q → q < a + n → p q ≡ false)
    → filter p (range_with_len a n) ≡ range_with_len low (suc (high - low))
keeps_between p a n low high begins order ends before there behind =
    let m = low - a in
    let k = suc (high - low) in
    let r = a + n - suc high in
    let whole : n ≡ m + (k + r) = omega arith in
    let first : a + m ≡ low = omega arith in
    let second : low + k ≡ suc high = omega arith in
    let cut : range_with_len a n ≡ range_with_len a m ++ (range_with_len low k ++ range_with_len (suc high) r) = ap (range_with_len a) whole ∙ parts a m (k + r) low first ∙ ap (λ qs. range_with_len a m ++ qs) (parts low k r (suc high) second) in
    let none_below = keeps_none p a m (λ q l h. before q l (omega arith)) in
    let all = keeps_all p low k (λ q l h. there q l (omega arith)) in
    let none_above = keeps_none p (suc high) r (λ q l h. behind q (omega arith) (omega arith)) in
    ap (filter p) cut ∙ filter-append p (range_with_len a m) (range_with_len low k ++ range_with_len (suc high) r) ∙ ap (λ qs. qs ++ filter p (range_with_len low k ++ range_with_len (suc high) r)) none_below
    ∙ filter-append p (range_with_len low k) (range_with_len (suc high) r) ∙ ap (λ qs. qs ++ filter p (range_with_len (suc high) r)) all ∙ ap (λ qs. range_with_len low k ++ qs) none_above ∙ append_nil (range_with_len low k)
  where
    append_nil : (xs : List ℕ) → xs ++ [] ≡ xs
    append_nil [] = refl
    append_nil (x ∷ xs) = ap (λ ys. x ∷ ys) (append_nil xs)

-- what is reached from a page that passes
pub reached_between : (test : ℕ → Bool) (p low high : ℕ) → test p ≡ true → IsLowest test p low → IsHighest test p high → reached test p ≡ range_with_len low (suc (high - low))
reached_between test p low high here l h =
    let all : (q : ℕ) → low ≤ q → q ≤ high → test q ≡ true = λ q above below. at q above below in
    keeps_between (λ q. list_all test (pages_between p q)) (p / 16 * 16) 16 low high l.block (omega (arith, l.up_to, h.from)) h.block
    (λ q above below. one_fails test (min p q) (max p q - min p q + 1) (low - 1) (omega (arith, l.up_to)) (omega (arith, l.up_to)) (l.ends (omega arith)))
    (λ q above below. all_pass test (min p q) (max p q - min p q + 1) (λ x from to. all x (omega (arith, l.up_to, h.from)) (omega (arith, l.up_to, h.from))))
    (λ q above below. one_fails test (min p q) (max p q - min p q + 1) (high + 1) (omega (arith, h.from)) (omega (arith, h.from)) (h.ends (omega arith)))
  where
    at : (q : ℕ) → low ≤ q → q ≤ high → test q ≡ true
    at q above below = by_test (q == p) (λ _. test q ≡ true)
        (λ (t : (q == p) ≡ true). let same : q ≡ p = grind (arith, nat_tests) in rw same here)
        (λ (t : (q == p) ≡ false).
        let differ : (q ≡ p → ⊥) = grind (arith, nat_tests) in
        by_test (nat_lt q p) (λ _. test q ≡ true)
        (λ (s : nat_lt q p ≡ true). l.all q above (grind (arith, nat_tests)))
        (λ (s : nat_lt q p ≡ false). let le : p ≤ q = grind (arith, nat_tests) in h.all q (omega arith) below))

same_itself : (o : Option Mapping) → same_mapping o o ≡ true
same_itself None = refl
same_itself (Some m) = grind (arith, nat_tests)

pub goes_itself : (dev : Dev) (id p : ℕ) (l : Lease) → lease dev id p ≡ Some l → goes_alike dev id p p ≡ true
goes_itself dev id p l found = rw (found, same_itself (mapping_through dev id p)) refl

-- the run of a page without a lease, and of one with it
pub run_none : (dev : Dev) (id p : ℕ) → lease dev id p ≡ None → run dev id p ≡ None
unfolding run
run_none dev id p none = rw none refl

pub run_between : (dev : Dev) (id p low high : ℕ) (l : Lease) → lease dev id p ≡ Some l → IsLowest (goes_alike dev id p) p low → IsHighest (goes_alike dev id p) p high
    → run dev id p ≡ Some (record { page = low; count = high - low + 1; target = l.target - (p - low); perm = l.perm })
unfolding run
run_between dev id p low high l found lowest highest =
    let pages = reached_between (goes_alike dev id p) p low high (goes_itself dev id p l found) lowest highest in
    let size : length (range_with_len low (suc (high - low))) ≡ high - low + 1 = length-range_with_len low (suc (high - low)) ∙ (omega arith) in
    ap (run_of p (reached (goes_alike dev id p) p)) found ∙ ap (λ qs. lease_over p qs l) pages ∙ ap (λ n. Some (record { page = low; count = n; target = l.target - (p - low); perm = l.perm })) size
