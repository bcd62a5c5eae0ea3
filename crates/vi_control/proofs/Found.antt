-- The first place of an id.
use Rattle.std.proofs.Common.{◌≡◌, ℕ, Bool, true, false, eqb, nat_lt, cond, List, [], ◌∷◌, Some, None, length, refl, ◌∙◌, arith}
use Rattle.std.specs.List.{position, position_or_len}
use Rattle.vi_model.specs.Places.{place_in}

place_in-position : (ids : List ℕ) (id : ℕ) → place_in ids id ≡ position_or_len (λ x. eqb x id) ids
place_in-position [] id = refl
place_in-position (i ∷ ids) id = go (eqb i id) refl (place_in-position ids id)
  where
    go : (b : Bool) → eqb i id ≡ b → place_in ids id ≡ position_or_len (λ x. eqb x id) ids → place_in (i ∷ ids) id ≡ position_or_len (λ x. eqb x id) (i ∷ ids)
    go true q rest = rw q refl
    go false q rest = rw q (omega (arith, rest))

-- where an id is found
pub place_found : (ids : List ℕ) (id k : ℕ) → position (λ x. eqb x id) ids ≡ Some k → place_in ids id ≡ k
place_found ids id k e = go (nat_lt (position_or_len (λ x. eqb x id) ids) (length ids)) refl e
  where
    go : (b : Bool) → nat_lt (position_or_len (λ x. eqb x id) ids) (length ids) ≡ b → cond b (Some (position_or_len (λ x. eqb x id) ids)) None ≡ Some k → place_in ids id ≡ k
    go true q e = place_in-position ids id ∙ cc
    go false q e = absurd (cc)
