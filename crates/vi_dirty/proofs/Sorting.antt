-- A rising list is determined by how often each number stands in it.
use Rattle.std.proofs.Common.{◌≡◌, ◌==◌, ℕ, zero, suc, ◌+◌, ◌<◌, ◌≤◌, Bool, true, false, cond, List, [], ◌∷◌, length, get_or, inl, inr, refl, arith, ap, sym, subst, ◌∙◌}
use Rattle.std.specs.List.{range_with_len, filter}
use Rattle.std.specs.List.Sorted.{IsNonDecreasingBy}
use Rattle.std.proofs.lemmas.Bool.{cases_eq, cases_lt, eq-eqb, ne_eqb}
use Rattle.std.proofs.lemmas.List.Sums.{sum_by-cons}
use Rattle.vi_dirty.specs.Marks.{one_if, times}

pub times-cons : (p x : ℕ) (xs : List ℕ) → times p (x ∷ xs) ≡ one_if (x == p) + times p xs
times-cons p x xs = sum_by-cons (λ q. cond (q == p) 1 0) x xs

pub times-here : (p : ℕ) (xs : List ℕ) → times p (p ∷ xs) ≡ 1 + times p xs
times-here p xs = times-cons p p xs ∙ ap (λ b. one_if b + times p xs) (eq-eqb p p refl)

pub times-other : (p x : ℕ) (xs : List ℕ) → (x ≡ p → ⊥) → times p (x ∷ xs) ≡ times p xs
times-other p x xs differ = omega (arith, times-cons p x xs, ap one_if (ne_eqb x p differ))

find_at : (p : ℕ) (xs : List ℕ) → 1 ≤ times p xs → (j : ℕ) × (j < length xs) × (get_or xs j p ≡ p)
find_at p [] some = absurd (omega (arith, some))
find_at p (x ∷ xs) some = elim (cases_eq x p) [
  | inl e ↦ (0, omega arith, e)
  | inr differ ↦ later (find_at p xs (subst (λ n. 1 ≤ n) (times-other p x xs differ) some))
]
  where
    later : (j : ℕ) × (j < length xs) × (get_or xs j p ≡ p) → (j : ℕ) × (j < length (x ∷ xs)) × (get_or (x ∷ xs) j p ≡ p)
    later r = (suc r.0, omega (arith, r.1), r.2)

none_there : (ys : List ℕ) → ((p : ℕ) → times p ys ≡ 0) → ys ≡ []
none_there [] none = refl
none_there (y ∷ ys) none = absurd (omega (arith, times-here y ys, none y))

-- the numbers of a range that pass a test stand in a rising list once each, and no others
pub record Stands (n from : ℕ) (f : ℕ → Bool) (ys : List ℕ) : Type 0 where
  pub rises : IsNonDecreasingBy (λ (x : ℕ). x) ys
  pub low : (p : ℕ) → p < from → times p ys ≡ 0
  pub within : (p : ℕ) → from ≤ p → p < from + n → times p ys ≡ one_if (f p)
  pub high : (p : ℕ) → from + n ≤ p → times p ys ≡ 0

-- where the least number that may stand there does, the list begins with it
starts : (from : ℕ) (ys : List ℕ) → IsNonDecreasingBy (λ (x : ℕ). x) ys → ((p : ℕ) → p < from → times p ys ≡ 0) → times from ys ≡ 1 → (zs : List ℕ) × (ys ≡ from ∷ zs)
starts from [] up low is = absurd (omega (arith, is))
starts from (y ∷ ys) up low is =
    let at = find_at from (y ∷ ys) (omega (arith, is)) in
    let most : y ≤ from = subst (λ n. y ≤ n) at.2 (up 0 at.0 from (omega arith) at.1) in
    (ys, ap (λ h. h ∷ ys) (least most))
  where
    least : y ≤ from → y ≡ from
    least most = elim (cases_lt y from) [
      | inl lt ↦ absurd (omega (arith, times-here y ys, low y lt))
      | inr le ↦ omega (arith, most, le)
    ]

without_least : (n from : ℕ) (f : ℕ → Bool) (ys : List ℕ) → Stands (suc n) from f ys → f from ≡ false → Stands n (from + 1) f ys
without_least n from f ys s e = record {
  rises = s.rises;
  low = λ p lt. elim (cases_lt p from) [
    | inl less ↦ s.low p less
    | inr le ↦ least p (omega (arith, lt, le))
  ];
  within = λ p ge lt. s.within p (omega (arith, ge)) (omega (arith, lt));
  high = λ p ge. s.high p (omega (arith, ge));
}
  where
    least : (p : ℕ) → p ≡ from → times p ys ≡ 0
    least p same = s.within p (omega (arith, same)) (omega (arith, same)) ∙ ap (λ q. one_if (f q)) same ∙ ap one_if e

with_least : (n from : ℕ) (f : ℕ → Bool) (zs : List ℕ) → Stands (suc n) from f (from ∷ zs) → f from ≡ true → Stands n (from + 1) f zs
with_least n from f zs s e = record {
  rises = λ i j d le lt. s.rises (suc i) (suc j) d (omega (arith, le)) (omega (arith, lt));
  low = λ p lt. elim (cases_lt p from) [
    | inl less ↦ sym (times-other p from zs (λ same. omega (arith, same, less))) ∙ s.low p less
    | inr le ↦ least p (omega (arith, lt, le))
  ];
  within = λ p ge lt. sym (later p ge) ∙ s.within p (omega (arith, ge)) (omega (arith, lt));
  high = λ p ge. sym (later p (omega (arith, ge))) ∙ s.high p (omega (arith, ge));
}
  where
    later : (p : ℕ) → from + 1 ≤ p → times p (from ∷ zs) ≡ times p zs
    later p ge = times-other p from zs (λ same. omega (arith, same, ge))

    least : (p : ℕ) → p ≡ from → times p zs ≡ 0
    least p same = rw same (omega (arith, times-here from zs, s.within from (omega arith) (omega arith), ap one_if e))

pub sorted_is : (n from : ℕ) (f : ℕ → Bool) (ys : List ℕ) → Stands n from f ys → ys ≡ filter f (range_with_len from n)
sorted_is zero from f ys s = none_there ys (λ p. elim (cases_lt p from) [
  | inl lt ↦ s.low p lt
  | inr le ↦ s.high p (omega (arith, le))
])
sorted_is (suc n) from f ys s = go (f from) refl (λ zs w. sorted_is n (from + 1) f zs w)
  where
    go : (v : Bool) → f from ≡ v → ((zs : List ℕ) → Stands n (from + 1) f zs → zs ≡ filter f (range_with_len (from + 1) n)) → ys ≡ cond v (from ∷ filter f (range_with_len (from + 1) n)) (filter f (range_with_len (from + 1) n))
    go false e rest = rest ys (without_least n from f ys s e)
    go true e rest =
        let first = starts from ys s.rises s.low (s.within from (omega arith) (omega arith) ∙ ap one_if e) in
        first.1 ∙ ap (λ zs. from ∷ zs) (rest first.0 (with_least n from f first.0 (subst (λ (l : List ℕ). Stands (suc n) from f l) first.1 s) e))
