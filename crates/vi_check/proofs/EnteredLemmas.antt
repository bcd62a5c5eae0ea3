-- How many of the first lines of a driver have an entry.
use Rattle.std.proofs.Common.{◌≡◌, ℕ, zero, suc, ◌+◌, ◌<◌, ◌≤◌, Bool, true, false, List, [], ◌∷◌, length, Some, None, set, drop, get_or, replicate, refl, arith}
use Rattle.std.specs.Prelude.{slice_get}
use Rattle.vi_check.specs.Seen.{done_first}

pub done_first-none : (n : ℕ) → 0 ≡ done_first (replicate n false)
done_first-none zero = refl
done_first-none (suc n) = refl

-- the rest of the first lines that are done
done_first-drop : (xs : List Bool) (n : ℕ) → n ≤ done_first xs → n + done_first (drop n xs) ≡ done_first xs
done_first-drop xs zero h = omega arith
done_first-drop [] (suc n) h = absurd (omega arith)
done_first-drop (true ∷ xs) (suc n) h = let r = done_first-drop xs n (omega arith) in omega arith
done_first-drop (false ∷ xs) (suc n) h = absurd (omega arith)

-- one more entry leaves them done
done_first-grows : (xs : List Bool) (i : ℕ) → done_first xs ≤ done_first (set xs i true)
done_first-grows [] i = omega arith
done_first-grows (true ∷ xs) zero = omega arith
done_first-grows (false ∷ xs) zero = omega arith
done_first-grows (true ∷ xs) (suc i) = let r = done_first-grows xs i in omega arith
done_first-grows (false ∷ xs) (suc i) = omega arith

pub done_first-set : (xs : List Bool) (i : ℕ) → done_first xs + done_first (drop (done_first xs) (set xs i true)) ≡ done_first (set xs i true)
done_first-set xs i = done_first-drop (set xs i true) (done_first xs) (done_first-grows xs i)

-- past the end there is the default
pub get_or-none : {X : Type 0} (xs : List X) (i : ℕ) (d : X) → None ≡ slice_get xs i → get_or xs i d ≡ d
get_or-none [] i d e = refl
get_or-none (x ∷ xs) zero d e = absurd (cc)
get_or-none (x ∷ xs) (suc i) d e = get_or-none xs i d e

-- an element that is there
pub get_or-some : {X : Type 0} (xs : List X) (i : ℕ) (x d : X) → Some x ≡ slice_get xs i → (i < length xs) × (get_or xs i d ≡ x)
get_or-some [] i x d e = absurd (cc)
get_or-some (y ∷ ys) zero x d e = (omega arith, cc)
get_or-some (y ∷ ys) (suc i) x d e = let r = get_or-some ys i x d e in (omega (arith, r.0), r.1)

pub slice_get-none : {X : Type 0} (xs : List X) (i : ℕ) → None ≡ slice_get xs i → length xs ≤ i
slice_get-none [] i e = omega arith
slice_get-none (x ∷ xs) zero e = absurd (cc)
slice_get-none (x ∷ xs) (suc i) e = let r = slice_get-none xs i e in omega arith

-- the first lines that are done end before one without an entry
pub done_first-le : (xs : List Bool) (i : ℕ) → get_or xs i false ≡ false → done_first xs ≤ i
done_first-le [] i e = omega arith
done_first-le (true ∷ xs) zero e = absurd (cc)
done_first-le (true ∷ xs) (suc i) e = let r = done_first-le xs i e in omega arith
done_first-le (false ∷ xs) i e = omega arith
