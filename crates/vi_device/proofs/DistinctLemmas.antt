-- Lists of which no two elements have one id.
use Rattle.std.proofs.Common.{◌≡◌, ℕ, ◌≤◌, ◌<◌, ◌==◌, ◌||◌, Bool, true, false, zero, suc, List, [], ◌∷◌, ◌++◌, length, map, set, get_or, Some, refl, sym, ap, ◌∙◌, cond, arith}
use Rattle.std.specs.List.{filter, find, list_any, position_or_len}
use Rattle.std.proofs.lemmas.Bool.Decides.{nat_tests}
use Rattle.vi_bytes.specs.declared.region.Membership.{Membership}
use Rattle.vi_bytes.specs.declared.region.Membership.TheVariants.{Unattached, Member}
use Rattle.vi_history.specs.Device.{Endpoint, Domain, is_in}
use Rattle.vi_history.specs.Effects.{inhabited}
use Rattle.vi_ranges.proofs.MappingLemmas.{by_test}
use Rattle.vi_device.specs.Values.{AreDistinct}
use Rattle.vi_device.proofs.ListLemmas.{length_filter_or, filter_none}

or_false : (a b : Bool) → (a || b) ≡ false → (a ≡ false) × (b ≡ false)
or_false a b e = elim a as (λ a. (a || b) ≡ false → (a ≡ false) × (b ≡ false)) [ true ↦ λ (h : true ≡ false). cc | false ↦ λ (h : b ≡ false). (refl, h) ] e

none_without : (p : ℕ → Bool) (xs : List ℕ) (x : ℕ) (ys : List ℕ) → list_any p (xs ++ x ∷ ys) ≡ false → list_any p (xs ++ ys) ≡ false
none_without p [] x ys none = (or_false (p x) (list_any p ys) none).1
none_without p (z ∷ zs) x ys none =
    let parts = or_false (p z) (list_any p (zs ++ x ∷ ys)) none in
    rw parts.0 (none_without p zs x ys parts.1)

-- without one of them they are distinct still
pub distinct_without : (xs : List ℕ) (x : ℕ) (ys : List ℕ) → AreDistinct (xs ++ x ∷ ys) → AreDistinct (xs ++ ys)
distinct_without [] x ys distinct = distinct.1
distinct_without (z ∷ zs) x ys distinct = (none_without (λ w. w == z) zs x ys distinct.0, distinct_without zs x ys distinct.1)

none_more : (z id : ℕ) (zs : List ℕ) → list_any (λ w. w == z) zs ≡ false → (z == id) ≡ false → list_any (λ w. w == z) (zs ++ id ∷ []) ≡ false
none_more z id [] none other = let h : (id == z) ≡ false = grind (arith, nat_tests) in rw h refl
none_more z id (y ∷ ys) none other =
    let parts = or_false (y == z) (list_any (λ w. w == z) ys) none in
    rw parts.0 (none_more z id ys parts.1 other)

-- with one more, which none of them is
pub distinct_push : (xs : List ℕ) (id : ℕ) → AreDistinct xs → list_any (λ w. w == id) xs ≡ false → AreDistinct (xs ++ id ∷ [])
distinct_push [] id distinct none = (refl, tt)
distinct_push (z ∷ zs) id distinct none =
    let parts = or_false (z == id) (list_any (λ w. w == id) zs) none in
    (none_more z id zs distinct.0 parts.0, distinct_push zs id distinct.1 parts.1)

-- a change of the elements with this id, where there is none
changed_none : {A : Type 0} (f : A → ℕ) (g : A → A) (id : ℕ) (xs : List A) → list_any (λ w. w == id) (map f xs) ≡ false → map (λ x. cond (f x == id) (g x) x) xs ≡ xs
changed_none f g id [] none = refl
changed_none f g id (x ∷ xs) none =
    let parts = or_false (f x == id) (list_any (λ w. w == id) (map f xs)) none in
    rw parts.0 (ap (λ ys. x ∷ ys) (changed_none f g id xs parts.1))

next_place : {A : Type 0} (p : A → Bool) (x : A) (xs : List A) → p x ≡ false → position_or_len p (x ∷ xs) ≡ suc (position_or_len p xs)
next_place p x xs none = rw none (omega arith)

-- and where there is one: it is the one at the first place
pub changed_at : {A : Type 0} (f : A → ℕ) (g : A → A) (id : ℕ) (xs : List A) (d : A) → AreDistinct (map f xs)
    → map (λ x. cond (f x == id) (g x) x) xs ≡ set xs (position_or_len (λ x. f x == id) xs) (g (get_or xs (position_or_len (λ x. f x == id) xs) d))
changed_at f g id [] d distinct = refl
changed_at f g id (x ∷ xs) d distinct =
    let Goal : Type 0 = map (λ y. cond (f y == id) (g y) y) (x ∷ xs) ≡ set (x ∷ xs) (position_or_len (λ y. f y == id) (x ∷ xs)) (g (get_or (x ∷ xs) (position_or_len (λ y. f y == id) (x ∷ xs)) d)) in
    by_test (f x == id) (λ _. Goal)
    (λ (t : (f x == id) ≡ true).
    let same : f x ≡ id = grind (arith, nat_tests) in
    let none : list_any (λ w. w == id) (map f xs) ≡ false = rw same at distinct.0 in
    rw t (ap (λ ys. g x ∷ ys) (changed_none f g id xs none)))
    (λ (t : (f x == id) ≡ false).
    let same : map (λ y. cond (f y == id) (g y) y) (x ∷ xs) ≡ x ∷ map (λ y. cond (f y == id) (g y) y) xs = rw t refl in
    same ∙ ap (λ ys. x ∷ ys) (changed_at f g id xs d distinct.1) ∙ sym (ap (λ k. set (x ∷ xs) k (g (get_or (x ∷ xs) k d))) (next_place (λ y. f y == id) x xs t)))

-- the element at a place is the first of its id
pub found_at : {A : Type 0} (f : A → ℕ) (xs : List A) (k : ℕ) (d : A) → AreDistinct (map f xs) → k < length xs → find (λ x. f x == f (get_or xs k d)) xs ≡ Some (get_or xs k d)
found_at f [] k d distinct within = absurd (omega arith)
found_at f (x ∷ xs) zero d distinct within = let same : (f x == f x) ≡ true = grind (arith, nat_tests) in rw same refl
found_at f (x ∷ xs) (suc k) d distinct within =
    let lt : k < length xs = omega arith in
    let other : (f x == f (get_or xs k d)) ≡ false = differs f xs k d (f x) distinct.0 lt in
    rw other (found_at f xs k d distinct.1 lt)
  where
    differs : {B : Type 0} (f : B → ℕ) (xs : List B) (k : ℕ) (d : B) (id : ℕ) → list_any (λ w. w == id) (map f xs) ≡ false → k < length xs → (id == f (get_or xs k d)) ≡ false
    differs f [] k d id none within = absurd (omega arith)
    differs f (x ∷ xs) zero d id none within = let h = (or_false (f x == id) (list_any (λ w. w == id) (map f xs)) none).0 in grind (arith, nat_tests)
    differs f (x ∷ xs) (suc k) d id none within = let lt : k < length xs = omega arith in differs f xs k d id (or_false (f x == id) (list_any (λ w. w == id) (map f xs)) none).1 lt

-- an endpoint is in one domain at most
none_in : (id : ℕ) (ds : List Domain) → list_any (λ w. w == id) (map (λ y. y.id) ds) ≡ false → length (filter (λ y. id == y.id) ds) ≡ 0
none_in id [] none = refl
none_in id (y ∷ ys) none =
    let parts = or_false (y.id == id) (list_any (λ w. w == id) (map (λ z. z.id) ys)) none in
    let differ = parts.0 in
    let other : (id == y.id) ≡ false = grind (arith, nat_tests) in
    rw other (none_in id ys parts.1)

one_in : (id : ℕ) (ds : List Domain) → AreDistinct (map (λ y. y.id) ds) → length (filter (λ y. id == y.id) ds) ≤ 1
one_in id [] distinct = omega arith
one_in id (y ∷ ys) distinct =
    let Goal : Type 0 = length (filter (λ z. id == z.id) (y ∷ ys)) ≤ 1 in
    by_test (id == y.id) (λ _. Goal)
    (λ (t : (id == y.id) ≡ true).
    let same : y.id ≡ id = grind (arith, nat_tests) in
    let none : length (filter (λ z. id == z.id) ys) ≡ 0 = none_in id ys (rw same at distinct.0) in
    rw t (omega arith))
    (λ (t : (id == y.id) ≡ false). rw t (one_in id ys distinct.1))

one_domain : (m : Membership) (ds : List Domain) → AreDistinct (map (λ y. y.id) ds) → length (filter (λ y. is_in y.id m) ds) ≤ 1
one_domain Unattached ds distinct = let none = filter_none ds in omega arith
one_domain (Member id) ds distinct = one_in id ds distinct

-- there are no more domains that endpoints are in than endpoints
pub few_inhabited : (es : List Endpoint) (ds : List Domain) → AreDistinct (map (λ y. y.id) ds) → length (inhabited es ds) ≤ length es
few_inhabited [] ds distinct = let none = filter_none ds in omega arith
few_inhabited (e ∷ es) ds distinct =
    let rest = few_inhabited es ds distinct in
    let one = one_domain e.domain ds distinct in
    let parts = length_filter_or (λ y. is_in y.id e.domain) (λ y. list_any (λ x. is_in y.id x.domain) es) ds in
    omega arith
