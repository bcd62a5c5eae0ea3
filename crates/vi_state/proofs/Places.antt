-- A declared endpoint has a place.
use Rattle.std.proofs.Common.{◌≡◌, ◌==◌, ℕ, ◌+◌, ◌<◌, Bool, true, false, cond, not, List, [], ◌∷◌, length, map, get_or, Some, refl, arith}
use Rattle.std.specs.Prelude.{IsSome}
use Rattle.std.specs.List.{find, prefix_len}
use Rattle.std.proofs.lemmas.Bool.{eqb-true}
use Rattle.std.proofs.Math.Numerals.{one-add}
use Rattle.vi_history.specs.Device.{Endpoint}

-- how many ids come before this one
abbrev pub place_in : ℕ → List ℕ → ℕ
place_in id ids = prefix_len (λ x. not (x == id)) ids

pub place_found : (xs : List Endpoint) (id : ℕ) → IsSome (find (λ x. x.id == id) xs) → (place_in id (map (λ x. x.id) xs) < length xs) × (get_or (map (λ x. x.id) xs) (place_in id (map (λ x. x.id) xs)) 0 ≡ id)
place_found [] id some = absurd cc
place_found (x ∷ xs) id some = go (x.id == id) refl some (place_found xs id)
  where
    rest : ℕ
    rest = place_in id (map (λ x. x.id) xs)

    go : (v : Bool) → (x.id == id) ≡ v → IsSome (cond v (Some x) (find (λ x. x.id == id) xs)) → (IsSome (find (λ x. x.id == id) xs) → (rest < length xs) × (get_or (map (λ x. x.id) xs) rest 0 ≡ id))
        → (cond (not v) (1 + rest) 0 < length (x ∷ xs)) × (get_or (x.id ∷ map (λ x. x.id) xs) (cond (not v) (1 + rest) 0) 0 ≡ id)
    go true e s r = (omega arith, eqb-true x.id id e)
    go false e s r = let k = r s in (omega (arith, k.0), rw (one-add) k.1)
