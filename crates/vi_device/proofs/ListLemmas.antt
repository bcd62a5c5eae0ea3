-- Searches and filters over lists.
use Rattle.std.proofs.Common.{◌≡◌, ◌+◌, ◌≤◌, ◌<◌, ◌||◌, Bool, true, false, List, [], ◌∷◌, length, map, get_or, Some, refl, sym, ◌∙◌, cond, arith}
use Rattle.std.specs.List.{filter, find, position_or_len}
use Rattle.std.specs.Option.{option_map}
use Rattle.std.proofs.lemmas.List.Folds.{find_at}
use Rattle.std.proofs.lemmas.Option.{slice_get-get_or, slice_get_within}

-- a search through what a function makes of the elements
pub find_of_map : {A B : Type 0} (p : B → Bool) (f : A → B) (xs : List A) → find p (map f xs) ≡ option_map f (find (λ x. p (f x)) xs)
find_of_map p f [] = refl
find_of_map p f (x ∷ xs) =
    let rest = find_of_map p f xs in
    elim (p (f x)) as (λ b. cond b (Some (f x)) (find p (map f xs)) ≡ option_map f (cond b (Some x) (find (λ y. p (f y)) xs))) [ true ↦ refl | false ↦ rest ]

-- what is found stands at the first place that passes
pub found_within : {A : Type 0} (p : A → Bool) (xs : List A) (y : A) → find p xs ≡ Some y → position_or_len p xs < length xs
found_within p xs y found = slice_get_within xs (position_or_len p xs) y (sym (find_at p xs) ∙ found)

pub found_there : {A : Type 0} (p : A → Bool) (xs : List A) (d : A) → position_or_len p xs < length xs → find p xs ≡ Some (get_or xs (position_or_len p xs) d)
found_there p xs d within = find_at p xs ∙ slice_get-get_or xs (position_or_len p xs) d within

-- what passes one of two tests is no more than what passes each
pub length_filter_or : {A : Type 0} (p q : A → Bool) (xs : List A) → length (filter (λ x. p x || q x) xs) ≤ length (filter p xs) + length (filter q xs)
length_filter_or p q [] = omega arith
length_filter_or p q (x ∷ xs) =
    let rest = length_filter_or p q xs in
    let both = filter (λ y. p y || q y) xs in
    let Goal : Bool → Bool → Type 0 = λ b c. length (cond (b || c) (x ∷ both) both) ≤ length (cond b (x ∷ filter p xs) (filter p xs)) + length (cond c (x ∷ filter q xs) (filter q xs)) in
    let case : (b c : Bool) → Goal b c = λ b c. elim b as (λ b. Goal b c) [
      | true ↦ elim c as (λ c. Goal true c) [ true ↦ omega arith | false ↦ omega arith ]
      | false ↦ elim c as (λ c. Goal false c) [ true ↦ omega arith | false ↦ omega arith ]
    ] in
    case (p x) (q x)

pub filter_none : {A : Type 0} (xs : List A) → length (filter (λ x. false) xs) ≡ 0
filter_none [] = refl
filter_none (x ∷ xs) = filter_none xs
