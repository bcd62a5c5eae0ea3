-- What a loop over numbers has written so far.
use Rattle.std.proofs.Common.{◌≡◌, ℕ, zero, suc, ◌+◌, List, [], ◌∷◌, ◌++◌, refl, ap, sym, ◌∙◌, append_assoc, arith, zero-add}
use Rattle.std.specs.List.{flat_map, range_with_len}
use Rattle.std.proofs.lemmas.List.{append-nil}

-- one more number at the end of a range
range_with_len-more : (a n : ℕ) → range_with_len a (n + 1) ≡ range_with_len a n ++ (a + n) ∷ []
range_with_len-more a zero = let e : a + 0 ≡ a = omega arith in rw e refl
range_with_len-more a (suc n) =
    let k : suc n + 1 ≡ suc (n + 1) = omega arith in
    let e : a + suc n ≡ a + 1 + n = omega arith in
    rw (k, e) (ap (λ xs. a ∷ xs) (range_with_len-more (a + 1) n))

flat_map-append : (f : ℕ → List ℕ) (xs ys : List ℕ) → flat_map f (xs ++ ys) ≡ flat_map f xs ++ flat_map f ys
flat_map-append f [] ys = refl
flat_map-append f (x ∷ xs) ys = rw (flat_map-append f xs ys) (sym (append_assoc (f x) (flat_map f xs) (flat_map f ys)))

pub flat_map_more : (f : ℕ → List ℕ) (n : ℕ) → flat_map f (range_with_len 0 (n + 1)) ≡ flat_map f (range_with_len 0 n) ++ f n
flat_map_more f n =
    let last : f (0 + n) ++ [] ≡ f n = rw zero-add (append-nil (f n)) in
    ap (λ xs. flat_map f xs) (range_with_len-more 0 n) ∙ (flat_map-append f (range_with_len 0 n) ((0 + n) ∷ []) ∙ ap (λ xs. flat_map f (range_with_len 0 n) ++ xs) last)

-- what one more number writes behind what was there
pub written_more : (f : ℕ → List ℕ) (n : ℕ) (initial old new : List ℕ) → old ≡ initial ++ flat_map f (range_with_len 0 n) → new ≡ old ++ f n
    → new ≡ initial ++ flat_map f (range_with_len 0 (n + 1))
written_more f n initial old new was now = now ∙ rw (was, flat_map_more f n) (append_assoc initial (flat_map f (range_with_len 0 n)) (f n))
