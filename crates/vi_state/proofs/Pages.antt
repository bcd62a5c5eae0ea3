-- The bytes of a page of the memory.
use Rattle.std.proofs.Common.{◌≡◌, ℕ, ◌<◌, zero, suc, List, [], ◌∷◌, length, take, get_or, refl, arith, ap, sym, ◌∙◌}

take_all : (xs : List ℕ) → take (length xs) xs ≡ xs
take_all [] = refl
take_all (x ∷ xs) = ap (λ ys. x ∷ ys) (take_all xs)

pub take_whole : (n : ℕ) (xs : List ℕ) → length xs ≡ n → take n xs ≡ xs
take_whole n xs e = ap (λ k. take k xs) (sym e) ∙ take_all xs

pub same_at : (xs : List (List ℕ)) (k : ℕ) (a b : List ℕ) → k < length xs → get_or xs k a ≡ get_or xs k b
same_at [] k a b lt = absurd (omega arith)
same_at (x ∷ xs) zero a b lt = refl
same_at (x ∷ xs) (suc k) a b lt = let below : k < length xs = omega arith in same_at xs k a b below
