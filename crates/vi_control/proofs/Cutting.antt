-- The lease that is granted: the run of a page, cut where a removal closes a page.
use Rattle.std.proofs.Common.{◌≡◌, ◌==◌, ℕ, ◌+◌, ◌-◌, ◌*◌, ◌/◌, ◌%◌, ◌^◌, ◌≤◌, ◌<◌, Bool, true, false, cond, not, ◌&&◌, zero, suc, min, max, nat_lt, List, [], ◌∷◌, ◌++◌, length, Option, Some, None, refl, ap, sym, subst, ◌∙◌, arith, ◌⊎◌, inl, inr}
use Rattle.std.specs.List.{filter, list_all, range_with_len}
use Rattle.std.proofs.lemmas.Bool.{cases_eq, cases_lt}
use Rattle.std.proofs.lemmas.Bool.Decides.{nat_tests}
use Rattle.std.proofs.lemmas.List.Elements.{filter-append}
use Rattle.std.proofs.lemmas.List.FromFn.{length-range_with_len}
use Rattle.vi_bytes.specs.Leases.{has_page}
use Rattle.vi_bytes.specs.declared.lease.Lease.{Lease}
use Rattle.vi_bytes.specs.declared.span.TheConstants.{PAGE}
use Rattle.vi_history.specs.Device.{Dev}
use Rattle.vi_history.specs.Runs.{run, lease_over, pages_between}
use Rattle.vi_history.specs.Translation.{Look, Leads, Nowhere, lease, lease_for, look}
use Rattle.vi_model.specs.Cuts.{cut, open_around, open_run}
use Rattle.vi_model.specs.Grants.{piece}
use Rattle.vi_model.specs.Removals.{Removal, closed}
use Rattle.vi_model.specs.Whole.{IsWholeDev}
use Rattle.vi_sound.proofs.Values.Runs.{IsRun, run_is, cut_is}
use Rattle.vi_control.specs.Granting.{IsLowestOpen, IsHighestOpen, IsGrantable}

-- ---- tests over the numbers from a on

all_pass : (test : ℕ → Bool) (a n : ℕ) → ((q : ℕ) → a ≤ q → q < a + n → test q ≡ true) → list_all test (range_with_len a n) ≡ true
all_pass test a zero passes = refl
all_pass test a (suc n) passes =
    let here : test a ≡ true = passes a (omega arith) (omega arith) in
    rw here (all_pass test (a + 1) n (λ q low high. passes q (omega arith) (omega arith)))

one_fails : (test : ℕ → Bool) (a n q : ℕ) → a ≤ q → q < a + n → test q ≡ false → list_all test (range_with_len a n) ≡ false
one_fails test a zero q low high fails = absurd (omega arith)
one_fails test a (suc n) q low high fails = go (cases_eq a q) (λ above. one_fails test (a + 1) n q above (omega (arith, high)) fails)
  where
    ends : (b : Bool) → (b && false) ≡ false
    ends true = refl
    ends false = refl

    go : (a ≡ q) ⊎ (a ≡ q → ⊥) → (a + 1 ≤ q → list_all test (range_with_len (a + 1) n) ≡ false) → list_all test (range_with_len a (suc n)) ≡ false
    go (inl same) rest = let here : test a ≡ false = ap test same ∙ fails in rw here refl
    go (inr differ) rest = rw (rest (omega (arith, low, differ))) (ends (test a))

keeps_all : (p : ℕ → Bool) (a n : ℕ) → ((q : ℕ) → a ≤ q → q < a + n → p q ≡ true) → filter p (range_with_len a n) ≡ range_with_len a n
keeps_all p a zero passes = refl
keeps_all p a (suc n) passes =
    let here : p a ≡ true = passes a (omega arith) (omega arith) in
    rw here (ap (λ qs. a ∷ qs) (keeps_all p (a + 1) n (λ q low high. passes q (omega arith) (omega arith))))

keeps_none : (p : ℕ → Bool) (a n : ℕ) → ((q : ℕ) → a ≤ q → q < a + n → p q ≡ false) → filter p (range_with_len a n) ≡ []
keeps_none p a zero fails = refl
keeps_none p a (suc n) fails =
    let here : p a ≡ false = fails a (omega arith) (omega arith) in
    rw here (keeps_none p (a + 1) n (λ q low high. fails q (omega arith) (omega arith)))

parts : (a m n b : ℕ) → a + m ≡ b → range_with_len a (m + n) ≡ range_with_len a m ++ range_with_len b n
parts a zero n b e = let same : a ≡ b = omega arith in rw (same, zero_more n) refl
  where
    zero_more : (n : ℕ) → zero + n ≡ n
    zero_more n = omega arith
parts a (suc m) n b e =
    let more : suc m + n ≡ suc (m + n) = omega arith in
    let here : a + 1 + m ≡ b = omega arith in
    rw more (ap (λ qs. a ∷ qs) (parts (a + 1) m n b here))

append_nil : (xs : List ℕ) → xs ++ [] ≡ xs
append_nil [] = refl
append_nil (x ∷ xs) = ap (λ ys. x ∷ ys) (append_nil xs)

-- what passes is the numbers from low to high
keeps_between : (p : ℕ → Bool) (a n low high : ℕ) → a ≤ low → low ≤ high → high < a + n
    → ((q : ℕ) → a ≤ q → q < low → p q ≡ false) → ((q : ℕ) → low ≤ q → q ≤ high → p q ≡ true) → ((q : ℕ) → high < q → q < a + n → p q ≡ false)
    → filter p (range_with_len a n) ≡ range_with_len low (suc (high - low))
keeps_between p a n low high begins order ends before there behind =
    let m = low - a in
    let k = suc (high - low) in
    let r = a + n - suc high in
    let whole : n ≡ m + (k + r) = omega arith in
    let first : a + m ≡ low = omega arith in
    let second : low + k ≡ suc high = omega arith in
    let cut : range_with_len a n ≡ range_with_len a m ++ (range_with_len low k ++ range_with_len (suc high) r) = ap (range_with_len a) whole ∙ parts a m (k + r) low first ∙ ap (λ qs. range_with_len a m ++ qs) (parts low k r (suc high) second) in
    let none_below = keeps_none p a m (λ q l h. before q l (omega arith)) in
    let all = keeps_all p low k (λ q l h. there q l (omega arith)) in
    let none_above = keeps_none p (suc high) r (λ q l h. behind q (omega arith) (omega arith)) in
    ap (filter p) cut ∙ filter-append p (range_with_len a m) (range_with_len low k ++ range_with_len (suc high) r) ∙ ap (λ qs. qs ++ filter p (range_with_len low k ++ range_with_len (suc high) r)) none_below
    ∙ filter-append p (range_with_len low k) (range_with_len (suc high) r) ∙ ap (λ qs. qs ++ filter p (range_with_len (suc high) r)) all ∙ ap (λ qs. range_with_len low k ++ qs) none_above ∙ append_nil (range_with_len low k)

-- ---- the cut of a run

open_between : (shut : ℕ → Bool) (p low high : ℕ) (l : Lease) → shut p ≡ false → l.page ≤ p → p < l.page + l.count → IsLowestOpen shut l.page p low → IsHighestOpen shut p (l.page + l.count - 1) high
    → open_around shut p l ≡ range_with_len low (suc (high - low))
open_between shut p low high l here begins ends lowest highest =
    keeps_between (λ q. list_all (λ x. not (shut x)) (pages_between p q)) l.page l.count low high lowest.from (omega (arith, lowest.up_to, highest.from)) (omega (arith, highest.to))
    (λ q above below. one_fails (λ x. not (shut x)) (min p q) (max p q - min p q + 1) (low - 1) (omega (arith, lowest.up_to)) (omega (arith, lowest.up_to)) (ap not (lowest.ends (omega arith))))
    (λ q above below. all_pass (λ x. not (shut x)) (min p q) (max p q - min p q + 1) (λ x from to. ap not (at x (omega (arith, lowest.up_to, highest.from)) (omega (arith, lowest.up_to, highest.from)))))
    (λ q above below. one_fails (λ x. not (shut x)) (min p q) (max p q - min p q + 1) (high + 1) (omega (arith, highest.from)) (omega (arith, highest.from)) (ap not (highest.ends (omega arith))))
  where
    at : (q : ℕ) → low ≤ q → q ≤ high → shut q ≡ false
    at q above below = go (cases_eq q p) (cases_lt q p)
      where
        go : (q ≡ p) ⊎ (q ≡ p → ⊥) → (q < p) ⊎ (p ≤ q) → shut q ≡ false
        go (inl same) order = ap shut same ∙ here
        go (inr differ) (inl lt) = lowest.all q above lt
        go (inr differ) (inr le) = highest.all q (omega (arith, le, differ)) below

pub cut_between : (shut : ℕ → Bool) (p low high : ℕ) (l : Lease) → shut p ≡ false → l.page ≤ p → p < l.page + l.count → IsLowestOpen shut l.page p low → IsHighestOpen shut p (l.page + l.count - 1) high
    → cut shut p l ≡ Some (record { page = low; count = high - low + 1; target = l.target + (low - l.page); perm = l.perm })
unfolding cut
cut_between shut p low high l here begins ends lowest highest =
    let size : length (range_with_len low (suc (high - low))) ≡ high - low + 1 = length-range_with_len low (suc (high - low)) ∙ (omega arith) in
    let goal : l.target + (p - l.page) - (p - low) ≡ l.target + (low - l.page) = omega (arith, lowest.from, lowest.up_to) in
    ap (λ qs. lease_over p qs (piece l p)) (open_between shut p low high l here begins ends lowest highest)
    ∙ (ap (λ n. Some (let k : Lease = record { page = low; count = n; target = l.target + (p - l.page) - (p - low); perm = l.perm } in k)) size
    ∙ ap (λ n. Some (let k : Lease = record { page = low; count = high - low + 1; target = n; perm = l.perm } in k)) goal)

-- ---- what a run is good for

-- the target of a page's lease is in memory
in_memory : (dev : Dev) (e p : ℕ) (l : Lease) → lease dev e p ≡ Some l → l.target < dev.pages
in_memory dev e p l h = go (look dev e (PAGE * p)) h
  where
    go : (o : Look) → lease_for dev.pages p o ≡ Some l → l.target < dev.pages
    go (Nowhere reason) h = absurd cc
    go (Leads t f) h = some (nat_lt (t / PAGE) dev.pages) (not (f % 4 == 0)) refl h
      where
        some : (v w : Bool) → nat_lt (t / PAGE) dev.pages ≡ v → cond (v && w) (Some (record { page = p; count = 1; target = t / PAGE; perm = f })) None ≡ Some l → l.target < dev.pages
        some true true e h = let is : l.target ≡ t / PAGE = ap (λ (n : Option Lease). target_in n) (sym h) in let low : t / PAGE < dev.pages = grind (arith, nat_tests, e) in omega (arith, is, low)
          where
            target_in : Option Lease → ℕ
            target_in None = 0
            target_in (Some n) = n.target
        some true false e h = absurd cc
        some false w e h = absurd cc

inside_of : (l : Lease) (q : ℕ) → has_page l q ≡ true → (l.page ≤ q) × (q < l.page + l.count)
inside_of l q h = (grind (arith, nat_tests), grind (arith, nat_tests))

is_inside : (l : Lease) (q : ℕ) → l.page ≤ q → q < l.page + l.count → has_page l q ≡ true
is_inside l q low high = grind (arith, nat_tests)

pub run_grantable : (dev : Dev) (e p : ℕ) (l : Lease) → IsRun dev e p l → p < 2 ^ 52 → dev.pages ≤ 16384 → 1 ≤ l.perm → l.perm ≤ 3 → IsGrantable p l
run_grantable dev e p l is below memory one three =
    let at = inside_of l p is.asked in
    let first : l.page / 16 ≡ p / 16 = is.block l.page (is_inside l l.page (omega arith) (omega (arith, at.0, at.1))) in
    let inside : has_page l (l.page + l.count - 1) ≡ true = is_inside l (l.page + l.count - 1) (omega (arith, at.0, at.1)) (omega (arith, at.0, at.1)) in
    let last : (l.page + l.count - 1) / 16 ≡ p / 16 = is.block (l.page + l.count - 1) inside in
    let target : l.target + (l.page + l.count - 1 - l.page) < dev.pages = in_memory dev e (l.page + l.count - 1) (piece l (l.page + l.count - 1)) (is.each (l.page + l.count - 1) inside) in
    let some : 1 ≤ l.count = omega (arith, at.0, at.1) in
    let most : l.count ≤ 16 = omega (arith, first, last, some) in
    let block : l.page / 16 ≡ (l.page + l.count - 1) / 16 = first ∙ sym last in
    let ends : l.page + l.count ≤ 2 ^ 52 = omega (arith, first, last, some, below) in
    record {
      asked = at;
      lease = record { some = some; most = most; one_block = block };
      ends = ends;
      grant = record { ends = omega (arith, some, ends); some = some; most = most; one_block = block; in_memory = omega (arith, target, memory, some) };
      permission = record { some = one; most = three };
    }

-- a run of the device
pub run_fits : (dev : Dev) (d e p : ℕ) (l : Lease) → d ≡ e → Some l ≡ run dev d p → IsWholeDev dev → p < 2 ^ 52 → dev.pages ≤ 16384 → (1 ≤ l.perm) × (l.perm ≤ 3) → IsGrantable p l
run_fits dev d e p l same h ok below memory perm = run_grantable dev e p l (run_is dev e p l ok (ap (λ i. run dev i p) (sym same) ∙ sym h)) below memory perm.0 perm.1

cut_grantable : (dev : Dev) (e p : ℕ) (shut : ℕ → Bool) (l m : Lease) → IsRun dev e p l → shut p ≡ false → cut shut p l ≡ Some m → m.perm ≡ l.perm → p < 2 ^ 52 → dev.pages ≤ 16384 → 1 ≤ l.perm → l.perm ≤ 3 → IsGrantable p m
cut_grantable dev e p shut l m is here found perm below memory one three = go (cut_is dev e p shut l is here)
  where
    go : (k : Lease) × (cut shut p l ≡ Some k) × IsRun dev e p k × ((q : ℕ) → has_page k q ≡ true → shut q ≡ false) → IsGrantable p m
    go (k, other, run, free) =
        let same : k ≡ m = cc (other, found) in
        let mine : IsRun dev e p m = subst (IsRun dev e p) same run in
        run_grantable dev e p m mine below memory (omega (arith, perm, one)) (omega (arith, perm, three))

-- the lease that is granted, by the run and the ends of what is open
pub granted_run : (dev : Dev) (d e place p low high : ℕ) (removals : List Removal) (l : Lease) → d ≡ e → Some l ≡ run dev d p → IsGrantable p l → closed dev e place p removals ≡ false
    → IsLowestOpen (λ q. closed dev e place q removals) l.page p low → IsHighestOpen (λ q. closed dev e place q removals) p (l.page + l.count - 1) high
    → Some (record { page = low; count = high - low + 1; target = l.target + (low - l.page); perm = l.perm }) ≡ open_run dev e place removals p (run dev e p)
granted_run dev d e place p low high removals l same h fits here lowest highest =
    let found : run dev e p ≡ Some l = ap (λ i. run dev i p) (sym same) ∙ sym h in
    rw found (sym (cut_between (λ q. closed dev e place q removals) p low high l here fits.asked.0 fits.asked.1 lowest highest))

pub granted_fits : (dev : Dev) (d e place p low high : ℕ) (removals : List Removal) (l : Lease) → d ≡ e → Some l ≡ run dev d p → IsGrantable p l → closed dev e place p removals ≡ false
    → IsLowestOpen (λ q. closed dev e place q removals) l.page p low → IsHighestOpen (λ q. closed dev e place q removals) p (l.page + l.count - 1) high
    → IsWholeDev dev → p < 2 ^ 52 → dev.pages ≤ 16384
    → IsGrantable p (record { page = low; count = high - low + 1; target = l.target + (low - l.page); perm = l.perm })
granted_fits dev d e place p low high removals l same h fits here lowest highest ok below memory =
    cut_grantable dev e p (λ q. closed dev e place q removals) l (record { page = low; count = high - low + 1; target = l.target + (low - l.page); perm = l.perm })
    (run_is dev e p l ok (ap (λ i. run dev i p) (sym same) ∙ sym h)) here
    (cut_between (λ q. closed dev e place q removals) p low high l here fits.asked.0 fits.asked.1 lowest highest) refl below memory fits.permission.some fits.permission.most
