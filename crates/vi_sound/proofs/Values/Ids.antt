-- The places of back ends and their ids.
use Rattle.std.proofs.Common.{◌≡◌, ◌==◌, ℕ, zero, suc, ◌<◌, Bool, true, false, cond, List, [], ◌∷◌, get_or, length, map, refl, arith, ◌∙◌, ap, sym, ◌⊎◌, inl, inr}
use Rattle.std.proofs.lemmas.Bool.{eq-eqb, ne_eqb, eqb-true, or_left, or_right, false≢true, cases_eq}
use Rattle.vi_bytes.specs.declared.region.EndpointSetup.{EndpointSetup}
use Rattle.vi_lines.specs.Value.{ScriptValue}
use Rattle.vi_lines.specs.Valid.{IsValid, has_endpoint, AreEndpoints}
use Rattle.vi_lines.specs.Calls.{same_caller}
use Rattle.vi_model.specs.Places.{ids_of, place_count, id_at, place_in, place_of, back_at}

id_there : (es : List EndpointSetup) (k : ℕ) → k < length (map (λ e. e.id) es) → has_endpoint es (get_or (map (λ e. e.id) es) k 0) ≡ true
id_there [] k lt = absurd (omega (arith, lt))
id_there (e ∷ es) zero lt = or_left (e.id == e.id) (has_endpoint es e.id) (eq-eqb e.id e.id refl)
id_there (e ∷ es) (suc k) lt = or_right (e.id == get_or (map (λ e. e.id) es) k 0) (has_endpoint es (get_or (map (λ e. e.id) es) k 0)) (id_there es k (omega (arith, lt)))

pub differ : (g : ℕ) (es : List EndpointSetup) (j k : ℕ) → AreEndpoints g es → j < length (map (λ e. e.id) es) → k < length (map (λ e. e.id) es) → (j ≡ k → ⊥) → get_or (map (λ e. e.id) es) j 0 ≡ get_or (map (λ e. e.id) es) k 0 → ⊥
differ g [] j k are lj lk ne same = absurd (omega (arith, lj))
differ g (e ∷ es) zero zero are lj lk ne same = ne refl
differ g (e ∷ es) zero (suc k) are lj lk ne same = false≢true (sym are.1 ∙ ap (has_endpoint es) same ∙ id_there es k (omega (arith, lk)))
differ g (e ∷ es) (suc j) zero are lj lk ne same = false≢true (sym are.1 ∙ ap (has_endpoint es) (sym same) ∙ id_there es j (omega (arith, lj)))
differ g (e ∷ es) (suc j) (suc k) are lj lk ne same = differ g es j k are.2 (omega (arith, lj)) (omega (arith, lk)) (λ q. ne (ap suc q)) same

-- two back ends are two callers
pub back_other : (s : ScriptValue) (j k : ℕ) → IsValid s → j < place_count s → k < place_count s → (j ≡ k → ⊥) → same_caller (back_at s k) (back_at s j) ≡ false
back_other s j k valid lj lk ne = ne_eqb (id_at s k) (id_at s j) (λ same. differ s.setup.granule s.setup.endpoints j k valid.setup_valid.endpoints_each lj lk ne (sym same))

found_id : (ids : List ℕ) (id : ℕ) → place_in ids id < length ids → get_or ids (place_in ids id) 0 ≡ id
found_id [] id lt = absurd (omega (arith, lt))
found_id (i ∷ ids) id lt = go (i == id) refl lt (found_id ids id)
  where
    go : (b : Bool) → (i == id) ≡ b → cond b 0 (suc (place_in ids id)) < suc (length ids) → (place_in ids id < length ids → get_or ids (place_in ids id) 0 ≡ id) → get_or (i ∷ ids) (cond b 0 (suc (place_in ids id))) 0 ≡ id
    go true e lt rest = eqb-true i id e
    go false e lt rest = rest (omega (arith, lt))

-- the place of an id that is there has this id
pub id_of_place : (s : ScriptValue) (id : ℕ) → place_of s id < place_count s → id_at s (place_of s id) ≡ id
id_of_place s id lt = found_id (ids_of s) id lt

found_below : (ids : List ℕ) (k : ℕ) → k < length ids → place_in ids (get_or ids k 0) < length ids
found_below [] k lt = absurd (omega (arith, lt))
found_below (i ∷ ids) zero lt = go (i == i) (eq-eqb i i refl)
  where
    go : (b : Bool) → b ≡ true → cond b 0 (suc (place_in ids i)) < suc (length ids)
    go true e = omega arith
    go false e = absurd (false≢true e)
found_below (i ∷ ids) (suc k) lt = go (i == get_or ids k 0) (found_below ids k (omega (arith, lt)))
  where
    go : (b : Bool) → place_in ids (get_or ids k 0) < length ids → cond b 0 (suc (place_in ids (get_or ids k 0))) < suc (length ids)
    go true r = omega arith
    go false r = omega (arith, r)

-- each place is that of its id
pub place_of_id : (s : ScriptValue) (k : ℕ) → IsValid s → k < place_count s → place_of s (id_at s k) ≡ k
place_of_id s k valid lt = go (cases_eq (place_of s (id_at s k)) k)
  where
    there : place_of s (id_at s k) < place_count s
    there = found_below (ids_of s) k lt

    go : (place_of s (id_at s k) ≡ k) ⊎ (place_of s (id_at s k) ≡ k → ⊥) → place_of s (id_at s k) ≡ k
    go (inl e) = e
    go (inr ne) = absurd (differ s.setup.granule s.setup.endpoints (place_of s (id_at s k)) k valid.setup_valid.endpoints_each there lt ne (id_of_place s (id_at s k) there))
