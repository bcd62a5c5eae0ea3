-- Sets of pages below a number, as rising lists.
use Rattle.std.proofs.Common.{◌≡◌, ◌==◌, ℕ, zero, suc, ◌+◌, ◌<◌, ◌≤◌, Bool, true, false, cond, ◌||◌, List, [], ◌∷◌, ◌++◌, append_assoc, length, take, get_or, Result, Ok, Err, inl, inr, refl, arith, ap, ap₂, sym, ◌∙◌}
use Rattle.std.specs.List.{range_with_len, filter}
use Rattle.std.specs.Result.{OnOk, OnErr}
use Rattle.std.proofs.lemmas.Bool.{cases_eq, cases_lt, ne_eqb, eq-eqb}
use Rattle.std.proofs.lemmas.List.{take_more}
use Rattle.std.proofs.lemmas.List.Folds.{list_any-append}
use Rattle.vi_state.specs.Written.{page_set}
use Rattle.vi_dirty.specs.Marks.{PageSetValue}
use Rattle.vi_dirty.specs.Tracked.{is_among}

-- pages below all of a range are not in it
among_low : (f : ℕ → Bool) (n from p : ℕ) → p < from → is_among p (filter f (range_with_len from n)) ≡ false
among_low f zero from p lt = refl
among_low f (suc n) from p lt = go (f from) (among_low f n (from + 1) p (omega (arith, lt))) (ne_eqb from p (λ e. omega (arith, e, lt)))
  where
    go : (v : Bool) → is_among p (filter f (range_with_len (from + 1) n)) ≡ false → (from == p) ≡ false → is_among p (cond v (from ∷ filter f (range_with_len (from + 1) n)) (filter f (range_with_len (from + 1) n))) ≡ false
    go true rest differ = rw differ rest
    go false rest differ = rest

-- a page of the range is among those that pass a test where it passes the test
pub among_filter : (f : ℕ → Bool) (n from p : ℕ) → from ≤ p → p < from + n → is_among p (filter f (range_with_len from n)) ≡ f p
among_filter f zero from p ge lt = absurd (omega (arith, ge, lt))
among_filter f (suc n) from p ge lt = elim (cases_eq from p) [
  | inl e ↦ here (f from) refl e
  | inr differ ↦ there (f from) (ne_eqb from p differ) (among_filter f n (from + 1) p (more differ) (omega (arith, lt)))
]
  where
    more : (from ≡ p → ⊥) → from + 1 ≤ p
    more differ = elim (cases_lt from p) [
      | inl lt ↦ omega (arith, lt)
      | inr le ↦ absurd (differ (omega (arith, le, ge)))
    ]

    here : (v : Bool) → f from ≡ v → from ≡ p → is_among p (cond v (from ∷ filter f (range_with_len (from + 1) n)) (filter f (range_with_len (from + 1) n))) ≡ f p
    here true is e = rw (eq-eqb from p e) (sym is ∙ ap f e)
    here false is e = among_low f n (from + 1) p (omega (arith, e)) ∙ sym is ∙ ap f e

    there : (v : Bool) → (from == p) ≡ false → is_among p (filter f (range_with_len (from + 1) n)) ≡ f p → is_among p (cond v (from ∷ filter f (range_with_len (from + 1) n)) (filter f (range_with_len (from + 1) n))) ≡ f p
    there true differ rest = rw differ rest
    there false differ rest = rest

pub filter_same : (f g : ℕ → Bool) (n from : ℕ) → ((p : ℕ) → from ≤ p → p < from + n → f p ≡ g p) → filter f (range_with_len from n) ≡ filter g (range_with_len from n)
filter_same f g zero from same = refl
filter_same f g (suc n) from same = ap₂ (λ b ps. cond b (from ∷ ps) ps) (same from (omega arith) (omega arith)) (filter_same f g n (from + 1) (λ p ge lt. same p (omega (arith, ge)) (omega (arith, lt))))

filter_no : (n from : ℕ) → filter (λ _. false) (range_with_len from n) ≡ []
filter_no zero from = refl
filter_no (suc n) from = filter_no n (from + 1)

pub filter_none : (f : ℕ → Bool) (n from : ℕ) → ((p : ℕ) → f p ≡ false) → filter f (range_with_len from n) ≡ []
filter_none f n from none = filter_same f (λ _. false) n from (λ p ge lt. none p) ∙ filter_no n from

-- ---- sets

pub among_set : (n p : ℕ) (xs : List ℕ) → p < n → is_among p (page_set n xs) ≡ is_among p xs
among_set n p xs lt = among_filter (λ q. is_among q xs) n 0 p (omega arith) (omega (arith, lt))

pub set_same : (n : ℕ) (xs ys : List ℕ) → ((p : ℕ) → p < n → is_among p xs ≡ is_among p ys) → page_set n xs ≡ page_set n ys
set_same n xs ys same = filter_same (λ p. is_among p xs) (λ p. is_among p ys) n 0 (λ p ge lt. same p (omega (arith, lt)))

pub set_none : (n : ℕ) → page_set n [] ≡ []
set_none n = filter_no n 0

pub set_again : (n : ℕ) (xs : List ℕ) → page_set n (page_set n xs) ≡ page_set n xs
set_again n xs = set_same n (page_set n xs) xs (λ p lt. among_set n p xs lt)

pub set_nil : (n : ℕ) (xs : List ℕ) → page_set n xs ≡ xs → page_set n (xs ++ []) ≡ xs
set_nil n xs is = set_same n (xs ++ []) xs (λ p lt. list_any-append (λ q. q == p) xs [] ∙ or_no (is_among p xs)) ∙ is
  where
    or_no : (b : Bool) → (b || false) ≡ b
    or_no true = refl
    or_no false = refl

-- what is added to a set is added to its pages
pub set_adds : (n : ℕ) (xs ys : List ℕ) → page_set n (page_set n xs ++ ys) ≡ page_set n (xs ++ ys)
set_adds n xs ys = set_same n (page_set n xs ++ ys) (xs ++ ys) (λ p lt.
    list_any-append (λ q. q == p) (page_set n xs) ys ∙ ap (λ b. b || is_among p ys) (among_set n p xs lt) ∙ sym (list_any-append (λ q. q == p) xs ys))

-- a set that is added is as its pages
pub set_added : (n : ℕ) (xs ys : List ℕ) → page_set n (xs ++ page_set n ys) ≡ page_set n (xs ++ ys)
set_added n xs ys = set_same n (xs ++ page_set n ys) (xs ++ ys) (λ p lt.
    list_any-append (λ q. q == p) xs (page_set n ys) ∙ ap (λ b. is_among p xs || b) (among_set n p ys lt) ∙ sym (list_any-append (λ q. q == p) xs ys))

-- the next page of a list is added to the set of those before it
pub set_more : (n : ℕ) (all pages : List ℕ) (i d : ℕ) → i < length pages → page_set n (page_set n (all ++ take i pages) ++ get_or pages i d ∷ []) ≡ page_set n (all ++ take (i + 1) pages)
set_more n all pages i d within =
    set_adds n (all ++ take i pages) (get_or pages i d ∷ []) ∙ ap (page_set n) (append_assoc all (take i pages) (get_or pages i d ∷ []) ∙ ap (λ l. all ++ l) (sym (take_more pages i d within)))

-- a set that was taken, or wasn't for want of memory, is a set of as many pages
pub still_set : {A E : Type 0} (r : Result A E) (pages : ℕ) (old new : PageSetValue) → OnOk r (new ≡ record old { pages = [] }) → OnErr r (new ≡ old) → (old.room ≡ pages) × (page_set old.room old.pages ≡ old.pages)
    → (new.room ≡ pages) × (page_set new.room new.pages ≡ new.pages)
still_set (Ok v) pages old new ok err is = rw ok (is.0, set_none old.room)
still_set (Err e) pages old new ok err is = rw err is
