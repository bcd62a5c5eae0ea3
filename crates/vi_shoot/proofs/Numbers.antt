-- The numbers of open removals: they stay distinct, and one below 8 is free where fewer than 8 are open.
use Rattle.std.proofs.Common.{◌≡◌, ◌≢◌, ℕ, zero, suc, ◌<◌, ◌≤◌, Bool, true, false, not, cond, ◌||◌, eqb, List, [], ◌∷◌, ◌++◌, Some, length, get_or, refl, ap, sym, ◌∙◌, arith, zero-add}
use Rattle.std.specs.List.{remove, position, range_with_len}
use Rattle.std.proofs.lemmas.List.Quantifiers.{position-Some}
use Rattle.std.proofs.lemmas.List.{length-append}
use Rattle.std.specs.Option.{unwrap_or}
use Rattle.std.proofs.lemmas.Bool.Decides.{nat_tests}
use Rattle.std.proofs.lemmas.List.Folds.{list_any-append}
use Rattle.std.proofs.lemmas.List.FromFn.{get_or-range_with_len}
use Rattle.vi_shoot.specs.declared.ops.Op.{Op}
use Rattle.vi_shoot.specs.Reaches.{reach_of, IsProperReach}
use Rattle.vi_shoot.specs.Removals.{AreOpen, is_number, has_number, free_number, without_number, AreNumbered}
use Rattle.vi_shoot.proofs.Firsts.{find_here, filter_all}

-- taking out one number leaves the others
pub has_number-without : (n k : ℕ) (ops : List Op) → n ≢ k → has_number n (without_number k ops) ≡ has_number n ops
has_number-without n k [] ne = refl
has_number-without n k (op ∷ ops) ne = go (eqb op.number k) refl (has_number-without n k ops ne)
  where
    go : (b : Bool) → eqb op.number k ≡ b → has_number n (without_number k ops) ≡ has_number n ops → has_number n (cond (not b) (op ∷ without_number k ops) (without_number k ops)) ≡ (eqb op.number n || has_number n ops)
    go true e rest =
        let other : eqb op.number n ≡ false = grind (arith, nat_tests) in
        rw other rest
    go false e rest = ap (λ b. eqb op.number n || b) rest

or_none : (a b : Bool) → (a || b) ≡ false → (a ≡ false) × (b ≡ false)
or_none true b none = absurd (cc)
or_none false b none = (refl, none)

-- and a number that none has is still free
pub has_number-without_free : (n k : ℕ) (ops : List Op) → has_number n ops ≡ false → has_number n (without_number k ops) ≡ false
has_number-without_free n k [] free = refl
has_number-without_free n k (op ∷ ops) free = go (eqb op.number k) (has_number-without_free n k ops (or_none (eqb op.number n) (has_number n ops) free).1)
  where
    go : (b : Bool) → has_number n (without_number k ops) ≡ false → has_number n (cond (not b) (op ∷ without_number k ops) (without_number k ops)) ≡ false
    go true rest = rest
    go false rest = rw ((or_none (eqb op.number n) (has_number n ops) free).0) rest

-- without a number there are no more, and fewer where a removal has it
pub length-without : (k : ℕ) (ops : List Op) → length (without_number k ops) ≤ length ops
length-without k [] = omega arith
length-without k (op ∷ ops) = go (eqb op.number k) (length-without k ops)
  where
    go : (b : Bool) → length (without_number k ops) ≤ length ops → length (cond (not b) (op ∷ without_number k ops) (without_number k ops)) ≤ suc (length ops)
    go true rest = omega arith
    go false rest = omega arith

length-without_one : (k : ℕ) (ops : List Op) → has_number k ops ≡ true → length (without_number k ops) < length ops
length-without_one k [] has = absurd (cc)
length-without_one k (op ∷ ops) has = go (eqb op.number k) (length-without k ops) (length-without_one k ops) has
  where
    go : (b : Bool) → length (without_number k ops) ≤ length ops → (has_number k ops ≡ true → length (without_number k ops) < length ops) → (b || has_number k ops) ≡ true → length (cond (not b) (op ∷ without_number k ops) (without_number k ops)) < suc (length ops)
    go true some rest has = omega arith
    go false some rest has = let h = rest has in omega arith

-- where all numbers below k are taken, there are k removals at least
pub taken-below : (k : ℕ) (ops : List Op) → ((n : ℕ) → n < k → has_number n ops ≡ true) → k ≤ length ops
taken-below zero ops taken = omega arith
taken-below (suc k) ops taken =
    let fewer = length-without_one k ops (taken k (omega arith)) in
    let rest = taken-below k (without_number k ops) (λ n below. let ne : n ≢ k = omega (arith, below) in has_number-without n k ops ne ∙ taken n (omega (arith, below))) in
    omega arith

-- the lowest number that no removal has is the free one
pub free_number-is : (k : ℕ) (ops : List Op) → k < 8 → has_number k ops ≡ false → ((n : ℕ) → n < k → has_number n ops ≡ true) → free_number ops ≡ k
free_number-is k ops below free taken =
    let at : (j : ℕ) → j < 8 → get_or (range_with_len 0 8) j 0 ≡ j = λ j lt. get_or-range_with_len 0 8 j 0 lt ∙ zero-add j in
    let found = find_here (λ n. not (has_number n ops)) (range_with_len 0 8) k 0 below (rw (at k below, free) refl) (λ j lt. rw (at j (omega (arith, lt)), taken j lt) refl) in
    ap (λ o. unwrap_or o 8) found ∙ at k below

different : (m n : ℕ) → eqb n m ≡ false → eqb m n ≡ false
different m n h = grind (arith, nat_tests)

-- a removal with a number of its own joins
pub AreNumbered-push : (ops : List Op) (op : Op) → AreNumbered ops → op.number < 8 → has_number op.number ops ≡ false → IsProperReach (reach_of op.what) → AreNumbered (ops ++ op ∷ [])
AreNumbered-push [] op each below free proper = (below, refl, proper, tt)
AreNumbered-push (o ∷ ops) op each below free proper =
    let others = or_none (eqb o.number op.number) (has_number op.number ops) free in
    let other : eqb op.number o.number ≡ false = different op.number o.number others.0 in
    let alone : has_number o.number (ops ++ op ∷ []) ≡ false = list_any-append (λ r. is_number o.number r) ops (op ∷ []) ∙ rw (each.1, other) refl in
    (each.0, alone, each.2, AreNumbered-push ops op each.3 below others.1 proper)

-- taking out a number leaves the others distinct
pub AreNumbered-without : (k : ℕ) (ops : List Op) → AreNumbered ops → AreNumbered (without_number k ops)
AreNumbered-without k [] each = each
AreNumbered-without k (op ∷ ops) each = go (eqb op.number k) (AreNumbered-without k ops each.3)
  where
    go : (b : Bool) → AreNumbered (without_number k ops) → AreNumbered (cond (not b) (op ∷ without_number k ops) (without_number k ops))
    go true rest = rest
    go false rest = (each.0, has_number-without_free op.number k ops each.1, each.2, rest)

-- removing the one with a number leaves those with others
pub without_number-at : (k i : ℕ) (ops : List Op) (d : Op) → AreNumbered ops → i < length ops → is_number k (get_or ops i d) ≡ true → ((j : ℕ) → j < i → is_number k (get_or ops j d) ≡ false) → without_number k ops ≡ remove ops i
without_number-at k i [] d each lt here before = absurd (omega (arith, lt))
without_number-at k zero (op ∷ ops) d each lt here before =
    let same : op.number ≡ k = grind (arith, nat_tests) in
    let free : has_number k ops ≡ false = ap (λ n. has_number n ops) (sym same) ∙ each.1 in
    rw here (filter_all (λ o. is_number k o) ops free)
without_number-at k (suc i) (op ∷ ops) d each lt here before =
    let other : is_number k op ≡ false = before 0 (omega arith) in
    rw other (ap (λ rest. op ∷ rest) (without_number-at k i ops d each.3 (omega (arith, lt)) here (λ j below. before (suc j) (omega (arith, below)))))

pub without_number-position : (k i : ℕ) (ops : List Op) (d : Op) → AreNumbered ops → position (λ op. is_number k op) ops ≡ Some i → without_number k ops ≡ remove ops i
without_number-position k i ops d each at = let first = position-Some (λ (op : Op). is_number k op) ops i d at in without_number-at k i ops d each first.0 first.1 first.2

pub AreOpen-without : (k : ℕ) (ops : List Op) → AreOpen ops → AreOpen (without_number k ops)
AreOpen-without k ops are_open = record { few = omega (arith, are_open.few, length-without k ops); each = AreNumbered-without k ops are_open.each }

pub AreOpen-push : (ops : List Op) (op : Op) → AreOpen ops → length ops < 8 → op.number < 8 → has_number op.number ops ≡ false → IsProperReach (reach_of op.what) → AreOpen (ops ++ op ∷ [])
AreOpen-push ops op are_open room below free proper = record { few = omega (arith, length-append ops (op ∷ [])); each = AreNumbered-push ops op are_open.each below free proper }
