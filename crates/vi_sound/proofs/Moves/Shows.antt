-- Fault records, when one more is noted and when one is read.
use Rattle.std.proofs.Common.{◌≡◌, ℕ, zero, suc, ◌+◌, ◌-◌, ◌≤◌, ◌<◌, Bool, true, false, cond, List, [], ◌∷◌, ◌++◌, length, Some, slice_get, refl, arith, ◌∙◌, ap, sym, subst, ◌⊎◌, inl, inr, append_assoc, length-append}
use Rattle.std.specs.Prelude.{nat_lt}
use Rattle.std.proofs.lemmas.Bool.{ltb-true, ltb-false, cases_eq}
use Rattle.vi_history.specs.declared.outcome.Shown.{Shown}
use Rattle.vi_model.specs.Control.{Events}
use Rattle.vi_model.specs.Serves.{noted, next_record}
use Rattle.vi_model.specs.Shown.{AreNumbered, AreShown}

picked_pass : (i : ℕ) (r : List ℕ) (rs : List (List ℕ)) (xs : List Shown) → AreNumbered i rs xs → AreNumbered i (rs ++ r ∷ []) xs
picked_pass i r [] [] p = tt
picked_pass i r [] (x ∷ xs) p = absurd p
picked_pass i r (q ∷ rs) [] p = picked_pass (suc i) r rs [] p
picked_pass i r (q ∷ rs) (x ∷ xs) (inl p) = inl (p.0, picked_pass (suc i) r rs xs p.1)
picked_pass i r (q ∷ rs) (x ∷ xs) (inr p) = inr (picked_pass (suc i) r rs (x ∷ xs) p)

picked_take : (i : ℕ) (r : List ℕ) (rs : List (List ℕ)) (xs : List Shown) → AreNumbered i rs xs → AreNumbered i (rs ++ r ∷ []) (xs ++ record { entry = i + length rs; bytes = r } ∷ [])
picked_take i r [] [] p = inl (ap (λ n. let x : Shown = record { entry = n; bytes = r } in x) (omega arith), tt)
picked_take i r [] (x ∷ xs) p = absurd p
picked_take i r (q ∷ rs) [] p =
    let k : suc i + length rs ≡ i + suc (length rs) = omega arith in
    inr (subst (λ n. AreNumbered (suc i) (rs ++ r ∷ []) (record { entry = n; bytes = r } ∷ [])) k (picked_take (suc i) r rs [] p))
picked_take i r (q ∷ rs) (x ∷ xs) (inl p) =
    let k : suc i + length rs ≡ i + suc (length rs) = omega arith in
    inl (p.0, subst (λ n. AreNumbered (suc i) (rs ++ r ∷ []) (xs ++ record { entry = n; bytes = r } ∷ [])) k (picked_take (suc i) r rs xs p.1))
picked_take i r (q ∷ rs) (x ∷ xs) (inr p) =
    let k : suc i + length rs ≡ i + suc (length rs) = omega arith in
    inr (subst (λ n. AreNumbered (suc i) (rs ++ r ∷ []) ((x ∷ xs) ++ record { entry = n; bytes = r } ∷ [])) k (picked_take (suc i) r rs (x ∷ xs) p))

nth_front : {A : Type 0} (i : ℕ) (xs : List A) (x y : A) → slice_get xs i ≡ Some y → slice_get (xs ++ x ∷ []) i ≡ Some y
nth_front i [] x y h = absurd cc
nth_front zero (z ∷ xs) x y h = h
nth_front (suc i) (z ∷ xs) x y h = nth_front i xs x y h

nth_last : {A : Type 0} (xs : List A) (x : A) → slice_get (xs ++ x ∷ []) (length xs) ≡ Some x
nth_last [] x = refl
nth_last (z ∷ xs) x = nth_last xs x

-- a fault's record is shown, or dropped
pub fault_noted : (n : ℕ) (rs : List (List ℕ)) (e : Events) (f : List ℕ) → AreShown n rs e → AreShown n (rs ++ f ∷ []) (noted n e f)
fault_noted n rs e f ok = go (nat_lt (length e.waiting) n) refl
  where
    x : Shown
    x = next_record e f

    is : length e.shown + e.dropped ≡ length rs
    is = ok.count

    shown : length (e.shown ++ x ∷ []) ≡ length e.shown + 1
    shown = length-append e.shown (x ∷ [])

    waiting : length (e.waiting ++ x ∷ []) ≡ length e.waiting + 1
    waiting = length-append e.waiting (x ∷ [])

    more : length (rs ++ f ∷ []) ≡ length rs + 1
    more = length-append rs (f ∷ [])

    fewer : length e.waiting ≤ length e.shown
    fewer = let n : length e.shown ≡ length (ok.read ++ e.waiting) = ap (λ (v : List Shown). length v) ok.last in let m = length-append ok.read e.waiting in omega (arith, n, m)

    number : (i : ℕ) → i < n → i < length (e.shown ++ x ∷ []) → (i ≡ length e.shown) ⊎ (i ≡ length e.shown → ⊥) → (y : Shown) × (slice_get (e.shown ++ x ∷ []) i ≡ Some y) × (y.entry ≡ i + 1)
    number i a b (inl same) =
        let none : e.dropped ≡ 0 = zero_from (cases_eq e.dropped 0) in
        (x, ap (λ k. slice_get (e.shown ++ x ∷ []) k) same ∙ nth_last e.shown x, omega (arith, none, same))
      where
        zero_from : (e.dropped ≡ 0) ⊎ (e.dropped ≡ 0 → ⊥) → e.dropped ≡ 0
        zero_from (inl z) = z
        zero_from (inr nz) = let pos : 0 < e.dropped = omega (arith, nz) in let f = ok.enough pos in absurd (omega (arith, f, same, a))
    number i a b (inr ne) = let old = ok.first i a (omega (arith, b, shown, ne)) in (old.0, nth_front i e.shown x old.0 old.1, old.2)

    go : (b : Bool) → nat_lt (length e.waiting) n ≡ b → AreShown n (rs ++ f ∷ []) (cond b (record e { shown = e.shown ++ x ∷ []; waiting = e.waiting ++ x ∷ []; room = e.room - 1 }) (record e { dropped = e.dropped + 1 }))
    go true h = record {
      taken = subst (λ k. AreNumbered 1 (rs ++ f ∷ []) (e.shown ++ record { entry = k; bytes = f } ∷ [])) (omega (arith, is)) (picked_take 1 f rs e.shown ok.taken);
      count = omega (arith, is, shown, more);
      enough = λ d. let m = ok.enough d in omega (arith, m, shown);
      first = λ i a b. number i a b (cases_eq i (length e.shown));
      read = ok.read;
      last = ap (λ (v : List Shown). v ++ x ∷ []) ok.last ∙ append_assoc ok.read e.waiting (x ∷ []);
      few = let lt = ltb-true (length e.waiting) n h in omega (arith, lt, waiting);
    }
    go false h = record {
      taken = picked_pass 1 f rs e.shown ok.taken;
      count = omega (arith, is, more);
      enough = λ d. let full = ltb-false (length e.waiting) n h in omega (arith, full, fewer);
      first = ok.first;
      read = ok.read;
      last = ok.last;
      few = ok.few;
    }

pub shows_read : (n : ℕ) (rs : List (List ℕ)) (e : Events) (x : Shown) (ws : List Shown) → e.waiting ≡ x ∷ ws → AreShown n rs e → AreShown n rs (record e { waiting = ws })
shows_read n rs e x ws is ok = record {
  taken = ok.taken;
  count = ok.count;
  enough = ok.enough;
  first = ok.first;
  read = ok.read ++ x ∷ [];
  last = ok.last ∙ (ap (λ w. ok.read ++ w) is ∙ sym (append_assoc ok.read (x ∷ []) ws));
  few = let n : length e.waiting ≡ suc (length ws) = ap (λ (v : List Shown). length v) is in let r = ok.few in omega (arith, n, r);
}

pub noted_room : (n : ℕ) (e : Events) (f : List ℕ) (all : ℕ) → all ≤ length e.shown + e.room → (let d : Events = noted n e f in all ≤ length d.shown + d.room)
noted_room n e f all h = go (nat_lt (length e.waiting) n)
  where
    x : Shown
    x = next_record e f

    go : (b : Bool) → (let d : Events = cond b (record e { shown = e.shown ++ x ∷ []; waiting = e.waiting ++ x ∷ []; room = e.room - 1 }) (record e { dropped = e.dropped + 1 }) in all ≤ length d.shown + d.room)
    go true = let m = length-append e.shown (x ∷ []) in omega (arith, m, h)
    go false = h
