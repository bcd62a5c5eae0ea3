-- Pages are copied until two memories have the same bytes.
use Rattle.std.proofs.Common.{◌≡◌, ℕ, zero, suc, ◌+◌, ◌<◌, ◌≤◌, Bool, true, false, cond, List, [], ◌∷◌, ◌++◌, All, length, drop, set, filter, inl, inr, refl, arith, ap, ap₂, sym, subst, ◌∙◌, append-nil, length-append}
use Rattle.std.proofs.lemmas.Bool.{cases_eq, ne_eqb}
use Rattle.std.proofs.lemmas.List.{get_or-set_same, get_or-set_other}
use Rattle.std.specs.List.{range_with_len}
use Rattle.vi_bytes.specs.declared.span.TheConstants.{PAGE}
use Rattle.vi_history.specs.Replies.{page_at}
use Rattle.vi_state.specs.Written.{page_set}
use Rattle.vi_dirty.specs.Tracked.{is_among, AreEqualBut}

-- nothing is left where there are no bytes
no_bytes : (xs : List ℕ) → length xs ≡ 0 → xs ≡ []
no_bytes [] is = refl
no_bytes (x ∷ xs) is = absurd (omega (arith, is))

-- a page that is written whole has these bytes
pub whole_page : (old bytes : List ℕ) → length bytes ≡ PAGE → length (bytes ++ drop PAGE old) ≡ PAGE → bytes ++ drop PAGE old ≡ bytes
whole_page old bytes size whole = ap (λ zs. bytes ++ zs) (no_bytes (drop PAGE old) (omega (arith, length-append bytes (drop PAGE old), size, whole))) ∙ append-nil bytes

-- one page less differs once it is copied
pub copied : (pages : List ℕ) (page : ℕ) (a b : List (List ℕ)) (bytes : List ℕ) → page < length a → bytes ≡ page_at b page → AreEqualBut (page ∷ pages) a b → AreEqualBut pages (set a page bytes) b
copied pages page a b bytes within is but q out = elim (cases_eq page q) [
  | inl e ↦ ap (λ p. page_at (set a page bytes) p) (sym e) ∙ get_or-set_same a page bytes [] within ∙ is ∙ ap (page_at b) e
  | inr differ ↦ get_or-set_other a page q bytes [] (λ e. differ (sym e)) ∙ but q (rw (ne_eqb page q differ) out)
]

-- memories of one size that differ in no page are equal
pub all_equal : (a b : List (List ℕ)) → length a ≡ length b → AreEqualBut [] a b → a ≡ b
all_equal [] [] size but = refl
all_equal [] (y ∷ ys) size but = absurd (omega (arith, size))
all_equal (x ∷ xs) [] size but = absurd (omega (arith, size))
all_equal (x ∷ xs) (y ∷ ys) size but = ap₂ (λ z zs. z ∷ zs) (but 0 refl) (all_equal xs ys (omega (arith, size)) (λ p out. but (suc p) refl))

-- the pages of a set are below its number
low_range : (f : ℕ → Bool) (n from most : ℕ) → from + n ≤ most → All (λ p. p < most) (filter f (range_with_len from n))
low_range f zero from most le = λ k d lt. absurd (omega (arith, lt))
low_range f (suc n) from most le = go (f from) (low_range f n (from + 1) most (omega (arith, le)))
  where
    more : All (λ p. p < most) (filter f (range_with_len (from + 1) n)) → All (λ p. p < most) (from ∷ filter f (range_with_len (from + 1) n))
    more rest zero d lt = omega (arith, le)
    more rest (suc k) d lt = rest k d (omega (arith, lt))

    go : (v : Bool) → All (λ p. p < most) (filter f (range_with_len (from + 1) n)) → All (λ p. p < most) (cond v (from ∷ filter f (range_with_len (from + 1) n)) (filter f (range_with_len (from + 1) n)))
    go true rest = more rest
    go false rest = rest

pub set_below : (n : ℕ) (ps : List ℕ) → page_set n ps ≡ ps → All (λ p. p < n) ps
set_below n ps is = subst (λ (l : List ℕ). All (λ p. p < n) l) is (low_range (λ p. is_among p ps) n 0 n (omega arith))
