-- The driver's notes: what a move of a chain leaves of the sums over them.
use Rattle.std.proofs.Common.{◌≡◌, ℕ, zero, suc, ◌+◌, ◌<◌, ◌≤◌, Bool, true, false, List, [], ◌∷◌, ◌++◌, length, take, drop, remove, get_or, Some, None, find, refl, ap, sym, ◌∙◌, arith}
use Rattle.std.specs.Prelude.{if◌then◌else◌}
use Rattle.std.proofs.lemmas.Bool.{cond-true, cond-false, eq-eqb, ne_eqb}
use Rattle.std.proofs.lemmas.Bool.Decides.{nat_tests}
use Rattle.std.proofs.lemmas.List.{drop_more, take_more, drop_all, take_all, append-nil, append_assoc, get_or_default, length-append}
use Rattle.vi_vring.specs.declared.note.Note.{Note}
use Rattle.vi_vring.specs.Notes.{NoteLists, has_head, without, is_double, needs_of, needs, tally, up_to, Whole}

module _ {A : Type 0} where
  pub tally-append : (f : A → ℕ) (xs ys : List A) → tally f (xs ++ ys) ≡ tally f xs + tally f ys
  tally-append f [] ys = omega arith
  tally-append f (x ∷ xs) ys = omega (arith, tally-append f xs ys)

-- the first note with a head, taken out
pub tally-without : (f : Note → ℕ) (head : ℕ) (xs : List Note) (x : Note) → find (has_head head) xs ≡ Some x → tally f (without head xs) + f x ≡ tally f xs
tally-without f head [] = λ x e. absurd cc
tally-without f head (y ∷ ys) = go (has_head head y) (tally-without f head ys)
  where
    go : (b : Bool) → ((x : Note) → find (has_head head) ys ≡ Some x → tally f (without head ys) + f x ≡ tally f ys)
        → (x : Note) → (if b then Some y else find (has_head head) ys) ≡ Some x → tally f (if b then ys else y ∷ without head ys) + f x ≡ f y + tally f ys
    go true k x e = let s : y ≡ x = cc in let h = ap f s in omega (arith, h)
    go false k x e = omega (arith, k x e)

pub without_none : (head : ℕ) (xs : List Note) → find (has_head head) xs ≡ None → without head xs ≡ xs
without_none head [] = λ e. refl
without_none head (y ∷ ys) = go (has_head head y) (without_none head ys)
  where
    go : (b : Bool) → (find (has_head head) ys ≡ None → without head ys ≡ ys) → (if b then Some y else find (has_head head) ys) ≡ None
        → (if b then ys else y ∷ without head ys) ≡ y ∷ ys
    go true k e = absurd cc
    go false k e = ap (λ zs. y ∷ zs) (k e)

-- the note that was found has the head
pub head_found : (head : ℕ) (xs : List Note) (x : Note) → find (has_head head) xs ≡ Some x → x.head ≡ head
head_found head [] = λ x e. absurd cc
head_found head (y ∷ ys) = go (has_head head y) refl (head_found head ys)
  where
    go : (b : Bool) → has_head head y ≡ b → ((x : Note) → find (has_head head) ys ≡ Some x → x.head ≡ head) → (x : Note) → (if b then Some y else find (has_head head) ys) ≡ Some x → x.head ≡ head
    go true e k x f = let s : y ≡ x = cc in let t : y.head ≡ head = grind (arith, nat_tests) in ap (λ (z : Note). z.head) (sym s) ∙ t
    go false e k x f = k x f

needs_some : (note : Note) → 1 ≤ needs note
needs_some note = go (is_double note.read note.write)
  where
    go : (b : Bool) → 1 ≤ (if b then 2 else 1)
    go true = omega arith
    go false = omega arith

pub length-le-needs : (xs : List Note) → length xs ≤ tally needs xs
length-le-needs [] = omega arith
length-le-needs (x ∷ xs) = omega (arith, length-le-needs xs, needs_some x)

-- there is room for a chain where it goes
module _ (v : NoteLists) (w : Whole v) where
  pub available_room : (read write : ℕ) → needs_of read write ≤ length v.free → length v.available < v.size
  available_room read write h =
      let some = go (is_double read write) in
      omega (arith, w.all, h, some, length-le-needs v.available)
    where
      go : (b : Bool) → 1 ≤ (if b then 2 else 1)
      go true = omega arith
      go false = omega arith

  pub popped_room : 0 < length v.available → length v.popped < v.size
  popped_room h = omega (arith, w.all, h, length-le-needs v.available, length-le-needs v.popped)

  pub unread_room : (head : ℕ) (x : Note) → find (has_head head) v.popped ≡ Some x → length v.unread < v.size
  unread_room head x e = omega (arith, w.all, tally-without needs head v.popped x e, needs_some x, length-le-needs v.unread)

  pub uncollected_room : (head : ℕ) (x : Note) → find (has_head head) v.unread ≡ Some x → length v.uncollected < v.size
  uncollected_room head x e = omega (arith, w.all, tally-without needs head v.unread x e, needs_some x, length-le-needs v.uncollected)

  pub free_room : (head : ℕ) (x : Note) → find (has_head head) v.uncollected ≡ Some x → length v.free + needs x ≤ v.size
  free_room head x e = omega (arith, w.all, tally-without needs head v.uncollected x e)

pub next_place : (xs : List Note) (i : ℕ) → remove xs i ≡ take i xs ++ drop (i + 1) xs
next_place xs i = let e : suc i ≡ i + 1 = omega arith in ap (λ k. take i xs ++ drop k xs) e

-- the search for a note with a head, at one place of the list
module _ (head : ℕ) (xs : List Note) (i : ℕ) where
  at : (x : Note) → i < length xs → x ≡ get_or xs i x → drop i xs ≡ x ∷ drop (i + 1) xs
  at x lt e = drop_more xs i x lt ∙ ap (λ y. y ∷ drop (i + 1) xs) (sym e)

  pub found_here : (x y : Note) → i < length xs → x ≡ get_or xs i x → y ≡ get_or xs i y → y.head ≡ head → find (has_head head) (drop i xs) ≡ Some x
  found_here x y lt e f h =
      let s : x ≡ y = e ∙ get_or_default xs i x y lt ∙ sym f in
      ap (find (has_head head)) (at x lt e) ∙ cond-true (has_head head x) (Some x) (find (has_head head) (drop (i + 1) xs)) (eq-eqb x.head head (ap (λ (z : Note). z.head) s ∙ h))

  pub left_here : (y : Note) → i < length xs → y ≡ get_or xs i y → y.head ≡ head → take i xs ++ without head (drop i xs) ≡ take i xs ++ drop (i + 1) xs
  left_here y lt f h =
      ap (λ zs. take i xs ++ without head zs) (at y lt f)
      ∙ ap (λ zs. take i xs ++ zs) (cond-true (has_head head y) (drop (i + 1) xs) (y ∷ without head (drop (i + 1) xs)) (eq-eqb y.head head h))

  pub found_none : length xs ≤ i → find (has_head head) (drop i xs) ≡ None
  found_none h = ap (find (has_head head)) (drop_all i xs h)

  pub left_none : length xs ≤ i → take i xs ++ without head (drop i xs) ≡ xs
  left_none h = ap (λ zs. take i xs ++ without head zs) (drop_all i xs h) ∙ append-nil (take i xs) ∙ take_all i xs h

  pub found_next : (y : Note) → i < length xs → y ≡ get_or xs i y → (y.head ≡ head → ⊥) → find (has_head head) (drop (i + 1) xs) ≡ find (has_head head) (drop i xs)
  found_next y lt f h =
      sym (ap (find (has_head head)) (at y lt f) ∙ cond-false (has_head head y) (Some y) (find (has_head head) (drop (i + 1) xs)) (ne_eqb y.head head h))

  pub left_next : (y : Note) → i < length xs → y ≡ get_or xs i y → (y.head ≡ head → ⊥) → take (i + 1) xs ++ without head (drop (i + 1) xs) ≡ take i xs ++ without head (drop i xs)
  left_next y lt f h =
      let one_more = take_more xs i y lt in
      let goes = ap (λ zs. take i xs ++ without head zs) (at y lt f) ∙ ap (λ zs. take i xs ++ zs) (cond-false (has_head head y) (drop (i + 1) xs) (y ∷ without head (drop (i + 1) xs)) (ne_eqb y.head head h)) in
      rw (one_more, ← f, append_assoc) (sym goes)

pub length-up_to : (n : ℕ) → length (up_to n) ≡ n
length-up_to zero = refl
length-up_to (suc n) = omega (arith, length-append (up_to n) (n ∷ []), length-up_to n)
