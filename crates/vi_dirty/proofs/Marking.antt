-- Marks that are set and taken away.
use Rattle.std.proofs.Common.{◌≡◌, ◌==◌, ℕ, zero, suc, ◌+◌, ◌<◌, ◌≤◌, Bool, true, false, cond, ◌||◌, List, [], ◌∷◌, ◌++◌, length, drop, get_or, set, replicate, count_by, inl, inr, refl, arith, ap, ap₂, sym, subst, ◌∙◌}
use Rattle.std.specs.List.{range_with_len, filter}
use Rattle.std.specs.List.Sorted.{IsPermutation, IsSorted}
use Rattle.std.specs.Ordering.{nat_cmp}
use Rattle.std.proofs.lemmas.Bool.{cases_eq, ne_eqb, eq-eqb}
use Rattle.std.proofs.lemmas.List.{length-append, length-set, length-replicate, get_or-set_same, get_or-set_other, at_drop_more}
use Rattle.std.proofs.lemmas.List.Folds.{list_any-append}
use Rattle.std.proofs.lemmas.List.Sorted.{sum_by-IsPermutation, IsNonDecreasingBy-from_sort}
use Rattle.std.proofs.lemmas.List.Sums.{sum_by_push, sum_by-set, sum_by-cons}
use Rattle.vi_state.specs.Written.{page_set}
use Rattle.vi_dirty.specs.Marks.{one_if, times, marked, IsMarked, PageSetValue}
use Rattle.vi_dirty.specs.Tracked.{is_among}
use Rattle.vi_dirty.proofs.Sets.{among_filter, filter_same, filter_none}
use Rattle.vi_dirty.proofs.Sorting.{sorted_is, times-here, times-other}

-- marks as contracts see them
abbrev pub seen : List Bool → PageSetValue
seen marks = record { room = length marks; pages = marked marks }

abbrev pub set_of : ℕ → List ℕ → PageSetValue
set_of n pages = record { room = n; pages = pages }

-- no mark is past the last
pub unmarked_past : (marks : List Bool) (p : ℕ) → length marks ≤ p → get_or marks p false ≡ false
unmarked_past [] p past = refl
unmarked_past (m ∷ ms) zero past = absurd (omega (arith, past))
unmarked_past (m ∷ ms) (suc p) past = unmarked_past ms p (omega (arith, past))

pub marked_within : (marks : List Bool) (p : ℕ) → get_or marks p false ≡ true → p < length marks
marked_within [] p is = absurd cc
marked_within (m ∷ ms) zero is = omega arith
marked_within (m ∷ ms) (suc p) is = let r = marked_within ms p is in omega (arith, r)

among_marked : (marks : List Bool) (p : ℕ) → p < length marks → is_among p (marked marks) ≡ get_or marks p false
among_marked marks p lt = among_filter (λ q. get_or marks q false) (length marks) 0 p (omega arith) (omega (arith, lt))

-- the marked pages are a set
pub marked_set : (marks : List Bool) → page_set (length marks) (marked marks) ≡ marked marks
marked_set marks = filter_same (λ p. is_among p (marked marks)) (λ p. get_or marks p false) (length marks) 0 (λ p ge lt. among_marked marks p (omega (arith, lt)))

-- marks that have one page more
grown : (marks more : List Bool) (page : ℕ) → length more ≡ length marks → ((p : ℕ) → get_or more p false ≡ (get_or marks p false || (page == p)))
    → marked more ≡ page_set (length marks) (marked marks ++ page ∷ [])
grown marks more page same is =
    ap (λ n. filter (λ p. get_or more p false) (range_with_len 0 n)) same
    ∙ filter_same (λ p. get_or more p false) (λ p. is_among p (marked marks ++ page ∷ [])) (length marks) 0 (λ p ge lt.
    is p ∙ ap (λ b. b || (page == p)) (sym (among_marked marks p (omega (arith, lt)))) ∙ ap (λ b. is_among p (marked marks) || b) (sym (or_no (page == p))) ∙ sym (list_any-append (λ q. q == p) (marked marks) (page ∷ [])))
  where
    or_no : (b : Bool) → (b || false) ≡ b
    or_no true = refl
    or_no false = refl

or_yes : (b : Bool) → (b || true) ≡ true
or_yes true = refl
or_yes false = refl

or_nil : (b : Bool) → (b || false) ≡ b
or_nil true = refl
or_nil false = refl

-- a page that is marked already
pub marked_twice : (marks : List Bool) (page : ℕ) → get_or marks page false ≡ true → marked marks ≡ page_set (length marks) (marked marks ++ page ∷ [])
marked_twice marks page is = grown marks marks page refl (λ p. elim (cases_eq page p) [
  | inl e ↦ ap (λ q. get_or marks q false) (sym e) ∙ is ∙ sym (ap (λ b. get_or marks p false || b) (eq-eqb page p e) ∙ or_yes (get_or marks p false))
  | inr differ ↦ sym (ap (λ b. get_or marks p false || b) (ne_eqb page p differ) ∙ or_nil (get_or marks p false))
])

-- a page that is marked now
pub marked_now : (marks : List Bool) (page : ℕ) → page < length marks → marked (set marks page true) ≡ page_set (length marks) (marked marks ++ page ∷ [])
marked_now marks page lt = grown marks (set marks page true) page (length-set marks page true) (λ p. elim (cases_eq page p) [
  | inl e ↦ ap (λ q. get_or (set marks page true) q false) (sym e) ∙ get_or-set_same marks page true false lt ∙ sym (ap (λ b. get_or marks p false || b) (eq-eqb page p e) ∙ or_yes (get_or marks p false))
  | inr differ ↦ get_or-set_other marks page p true false (λ e. differ (sym e)) ∙ sym (ap (λ b. get_or marks p false || b) (ne_eqb page p differ) ∙ or_nil (get_or marks p false))
])

pub seen_twice : (marks : List Bool) (page : ℕ) → get_or marks page false ≡ true → seen marks ≡ set_of (length marks) (page_set (length marks) (marked marks ++ page ∷ []))
seen_twice marks page is = ap (set_of (length marks)) (marked_twice marks page is)

pub seen_now : (marks : List Bool) (page : ℕ) → page < length marks → seen (set marks page true) ≡ set_of (length marks) (page_set (length marks) (marked marks ++ page ∷ []))
seen_now marks page lt = ap₂ set_of (length-set marks page true) (marked_now marks page lt)

-- ---- the list of the marked pages

count_most : (marks : List Bool) → count_by (λ m. m) marks ≤ length marks
count_most [] = omega arith
count_most (m ∷ ms) = let r = count_most ms in subst (λ n. n ≤ length (m ∷ ms)) (sym (sum_by-cons (λ (m : Bool). cond m 1 0) m ms)) (go m r)
  where
    go : (b : Bool) → count_by (λ m. m) ms ≤ length ms → cond b 1 0 + count_by (λ m. m) ms ≤ length (m ∷ ms)
    go true r = omega (arith, r)
    go false r = omega (arith, r)

count_more : (marks : List Bool) (page : ℕ) → page < length marks → get_or marks page false ≡ false → count_by (λ m. m) (set marks page true) ≡ count_by (λ m. m) marks + 1
count_more marks page lt is =
    let counted = sum_by-set (λ (m : Bool). cond m 1 0) marks page true false lt in
    let before : cond (get_or marks page false) 1 0 ≡ 0 = ap (λ b. one_if b) is in
    omega (arith, counted, before)

-- there is room for a page that isn't marked
pub has_room : (marks : List Bool) (order : List ℕ) (capacity page : ℕ) → IsMarked marks order capacity → page < length marks → get_or marks page false ≡ false → length order < capacity
has_room marks order capacity page ok lt is =
    omega (arith, count_more marks page lt is, count_most (set marks page true), length-set marks page true, ok.count, ok.room)

pub inserted : (marks : List Bool) (order : List ℕ) (capacity page : ℕ) → IsMarked marks order capacity → page < length marks → get_or marks page false ≡ false
    → IsMarked (set marks page true) (order ++ page ∷ []) capacity
inserted marks order capacity page ok lt is = record {
  once = λ p. sum_by_push (λ q. cond (q == p) 1 0) order page ∙ elim (cases_eq page p) [
    | inl e ↦ here p e
    | inr differ ↦ there p differ
  ];
  count = omega (arith, length-append order (page ∷ []), ok.count, count_more marks page lt is);
  room = subst (λ n. n ≤ capacity) (sym (length-set marks page true)) ok.room;
}
  where
    here : (p : ℕ) → page ≡ p → times p order + cond (page == p) 1 0 ≡ one_if (get_or (set marks page true) p false)
    here p e =
        let none : times p order ≡ 0 = ok.once p ∙ ap (λ q. one_if (get_or marks q false)) (sym e) ∙ ap one_if is in
        let now : one_if (get_or (set marks page true) p false) ≡ 1 = ap (λ q. one_if (get_or (set marks page true) q false)) (sym e) ∙ ap one_if (get_or-set_same marks page true false lt) in
        let one : cond (page == p) 1 0 ≡ 1 = ap (λ b. one_if b) (eq-eqb page p e) in
        omega (arith, none, now, one)

    there : (p : ℕ) → (page ≡ p → ⊥) → times p order + cond (page == p) 1 0 ≡ one_if (get_or (set marks page true) p false)
    there p differ =
        let same : one_if (get_or (set marks page true) p false) ≡ one_if (get_or marks p false) = ap one_if (get_or-set_other marks page p true false (λ e. differ (sym e))) in
        let zero_is : cond (page == p) 1 0 ≡ 0 = ap (λ b. one_if b) (ne_eqb page p differ) in
        omega (arith, ok.once p, same, zero_is)

-- ---- sorted, it is the set

pub sorted_pages : (marks : List Bool) (order pages : List ℕ) (capacity : ℕ) → IsMarked marks order capacity → IsPermutation order pages → IsSorted nat_cmp pages → pages ≡ marked marks
sorted_pages marks order pages capacity ok moved sorted =
    sorted_is (length marks) 0 (λ p. get_or marks p false) pages (record {
      rises = IsNonDecreasingBy-from_sort (λ (x : ℕ). x) pages sorted;
      low = λ p lt. absurd (omega (arith, lt));
      within = λ p ge lt. counted p;
      high = λ p past. counted p ∙ ap one_if (unmarked_past marks p (omega (arith, past)));
    })
  where
    counted : (p : ℕ) → times p pages ≡ one_if (get_or marks p false)
    counted p = sum_by-IsPermutation (λ q. cond (q == p) 1 0) order pages moved ∙ ok.once p

-- ---- all taken away

count_none : (marks : List Bool) → ((p : ℕ) → get_or marks p false ≡ false) → count_by (λ m. m) marks ≡ 0
count_none [] none = refl
count_none (m ∷ ms) none =
    let first : one_if m ≡ 0 = ap one_if (none 0) in
    omega (arith, sum_by-cons (λ (m : Bool). cond m 1 0) m ms, first, count_none ms (λ p. none (suc p)))

pub emptied : (marks : List Bool) (capacity : ℕ) → length marks ≤ capacity → ((p : ℕ) → get_or marks p false ≡ false) → IsMarked marks [] capacity
emptied marks capacity room none = record {
  once = λ p. sym (ap one_if (none p));
  count = sym (count_none marks none);
  room = room;
}

pub none_marked : (marks : List Bool) → ((p : ℕ) → get_or marks p false ≡ false) → marked marks ≡ []
none_marked marks none = filter_none (λ p. get_or marks p false) (length marks) 0 none

pub none_at_first : (n p : ℕ) → get_or (replicate n false) p false ≡ false
none_at_first zero p = refl
none_at_first (suc n) zero = refl
none_at_first (suc n) (suc p) = none_at_first n p

pub seen_at_first : (marks : List Bool) (n : ℕ) → marks ≡ replicate n false → seen marks ≡ set_of n []
seen_at_first marks n is = ap seen is ∙ ap₂ set_of (length-replicate n false) (none_marked (replicate n false) (λ p. none_at_first n p))

-- marks as many as before, and none set
pub seen_none : (marks more : List Bool) → length more ≡ length marks → ((p : ℕ) → get_or more p false ≡ false) → seen more ≡ set_of (length marks) []
seen_none marks more same none = ap₂ set_of same (none_marked more none)

-- ---- one after the other

-- the pages of a list that still have their marks: the next of them is marked
pub still_marked : (marks : List Bool) (pages : List ℕ) (i page d : ℕ) → i < length pages → page ≡ get_or pages i d → times page (drop i pages) ≡ one_if (get_or marks page false) → page < length marks
still_marked marks pages i page d within is once = go (get_or marks page false) refl
  where
    stands : times page (drop i pages) ≡ 1 + times page (drop (i + 1) pages)
    stands = at_drop_more (times page) pages i d within ∙ ap (λ q. times page (q ∷ drop (i + 1) pages)) (sym is) ∙ times-here page (drop (i + 1) pages)

    go : (v : Bool) → get_or marks page false ≡ v → page < length marks
    go true e = marked_within marks page e
    go false e = absurd (omega (arith, stands, once, ap one_if e))

-- without that mark the others are those of the pages that follow
pub unmarked_next : (marks : List Bool) (pages : List ℕ) (i page d : ℕ) → i < length pages → page ≡ get_or pages i d → page < length marks → ((p : ℕ) → times p (drop i pages) ≡ one_if (get_or marks p false))
    → (p : ℕ) → times p (drop (i + 1) pages) ≡ one_if (get_or (set marks page false) p false)
unmarked_next marks pages i page d within is lt once p = elim (cases_eq page p) [
  | inl e ↦ here e
  | inr differ ↦ there differ
]
  where
    next : times p (drop i pages) ≡ times p (page ∷ drop (i + 1) pages)
    next = at_drop_more (times p) pages i d within ∙ ap (λ q. times p (q ∷ drop (i + 1) pages)) (sym is)

    most : (b : Bool) → one_if b ≤ 1
    most true = omega arith
    most false = omega arith

    here : page ≡ p → times p (drop (i + 1) pages) ≡ one_if (get_or (set marks page false) p false)
    here e =
        let stands = times-here p (drop (i + 1) pages) in
        let same : times p (page ∷ drop (i + 1) pages) ≡ times p (p ∷ drop (i + 1) pages) = ap (λ q. times p (q ∷ drop (i + 1) pages)) e in
        let now : one_if (get_or (set marks page false) p false) ≡ 0 = ap (λ q. one_if (get_or (set marks page false) q false)) (sym e) ∙ ap one_if (get_or-set_same marks page false false lt) in
        omega (arith, next, same, stands, once p, most (get_or marks p false), now)

    there : (page ≡ p → ⊥) → times p (drop (i + 1) pages) ≡ one_if (get_or (set marks page false) p false)
    there differ = sym (next ∙ times-other p page (drop (i + 1) pages) differ) ∙ once p ∙ ap one_if (sym (get_or-set_other marks page p false false (λ e. differ (sym e))))
