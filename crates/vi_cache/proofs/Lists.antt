-- Lists in the steps of the loops that search and reorder them.
use Rattle.std.proofs.Common.{◌≡◌, ◌↔◌, IsSome, ℕ, zero, suc, ◌<◌, ◌≤◌, Bool, true, false, cond, not, List, [], ◌∷◌, ◌++◌, Some, length, get_or, take, drop, set, refl, sym, ap, ◌∙◌, subst, arith, append_assoc}
use Rattle.std.specs.List.{filter, find, slice_get}
use Rattle.std.proofs.lemmas.List.Filters.{length-filter_both}
use Rattle.std.proofs.Math.Seq.{take-suc, drop-cons, length-take-le, set_at, get_or_at}
use Rattle.std.proofs.lemmas.Option.{slice_get-get_or}

-- an element that passes is found from its place on
pub find-drop_here : {X : Type 0} (p : X → Bool) (xs : List X) (i : ℕ) (d : X) → i < length xs → p (get_or xs i d) ≡ true → find p (drop i xs) ≡ slice_get xs i
find-drop_here p xs i d below passes = rw (drop-cons xs i d below, passes) (sym (slice_get-get_or xs i d below))

-- what was found passes
pub find_passes : {X : Type 0} (p : X → Bool) (xs : List X) (x : X) → find p xs ≡ Some x → p x ≡ true
find_passes p [] x e = cc
find_passes {X} p (y ∷ ys) x e = go (p y) refl e (find_passes p ys x) where
  go : (b : Bool) → p y ≡ b → cond b (Some y) (find p ys) ≡ Some x → (find p ys ≡ Some x → p x ≡ true) → p x ≡ true
  go true passes same later = let e : y ≡ x = (cc) in subst (λ (z : X). p z ≡ true) e passes
  go false fails rest later = later rest

-- as far as a place, the elements shift up by one, and x goes to the front
abbrev pub shifted : {X : Type 0} → X → List X → ℕ → List X
shifted x xs i = take i (x ∷ xs) ++ drop i xs

pub shifted-suc : {X : Type 0} (x : X) (xs : List X) (i : ℕ) (d : X) → i < length xs → set (shifted x xs i) i (get_or (x ∷ xs) i d) ≡ shifted x xs (suc i)
shifted-suc {X} x xs i d below =
    let long : length (take i (x ∷ xs)) ≡ i = length-take-le i (x ∷ xs) (omega arith) in
    let written = ap (λ (ys : List X). set (take i (x ∷ xs) ++ ys) i (get_or (x ∷ xs) i d)) (drop-cons xs i d below) ∙ set_at (take i (x ∷ xs)) (get_or xs i d) (drop (suc i) xs) (get_or (x ∷ xs) i d) i long in
    let front = ap (λ (ys : List X). ys ++ drop (suc i) xs) (take-suc (x ∷ xs) i d (omega arith)) ∙ append_assoc (take i (x ∷ xs)) (get_or (x ∷ xs) i d ∷ []) (drop (suc i) xs) in
    written ∙ sym front

-- what stands at the place is the element that was there
pub get_or-shifted : {X : Type 0} (x : X) (xs : List X) (i : ℕ) (d e : X) → i < length xs → get_or (shifted x xs i) i d ≡ get_or xs i e
get_or-shifted {X} x xs i d e below =
    let long : length (take i (x ∷ xs)) ≡ i = length-take-le i (x ∷ xs) (omega arith) in
    ap (λ (ys : List X). get_or (take i (x ∷ xs) ++ ys) i d) (drop-cons xs i e below) ∙ get_or_at (take i (x ∷ xs)) (get_or xs i e) (drop (suc i) xs) d i long

-- a filter leaves no more than there were
pub length-filter-le : {X : Type 0} (p : X → Bool) (xs : List X) → length (filter p xs) ≤ length xs
length-filter-le p xs = omega (arith, length-filter_both p (λ x. not (p x)) (λ _. refl) xs)

-- an element stands at each place below the length
pub IsSome-slice_get : {X : Type 0} (xs : List X) (i : ℕ) → IsSome (slice_get xs i) ↔ (i < length xs)
IsSome-slice_get [] i = (λ e. cc, λ (h : i < 0). absurd (omega arith))
IsSome-slice_get (x ∷ xs) zero = (λ e. omega arith, λ (h : 0 < suc (length xs)). refl)
IsSome-slice_get (x ∷ xs) (suc i) =
    let rest = IsSome-slice_get xs i in
    (λ e. let h : i < length xs = rest.0 e in omega arith, λ (h : suc i < suc (length xs)). rest.1 (omega arith))
