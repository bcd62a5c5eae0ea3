-- The drivers of a round, one after the other.
use Rattle.std.proofs.Common.{◌≡◌, ℕ, suc, ◌+◌, ◌-◌, ◌<◌, ◌++◌, Bool, true, false, cond, List, [], ◌∷◌, map, filter, refl, arith, sym, ap, ◌∙◌}
use Rattle.std.specs.List.{range_with_len}
use Rattle.vi_lines.specs.declared.line.Who.{Who}
use Rattle.vi_lines.specs.declared.line.Who.TheVariants as who
use Rattle.vi_lines.specs.Value.{ScriptValue}
use Rattle.vi_model.specs.Rounds.{has_lines}

-- the drivers from this one on that have lines
abbrev pub drivers_from : ScriptValue → ℕ → List Who
drivers_from s number = map (λ number. who.Driver number) (filter (has_lines s) (range_with_len number (8 - number)))

drivers_next : (s : ScriptValue) (n : ℕ) → n < 8 → drivers_from s n ≡ cond (has_lines s n) (who.Driver n ∷ []) [] ++ drivers_from s (n + 1)
drivers_next s n lt = let e : 8 - n ≡ suc (8 - (n + 1)) = omega arith in rw e (go (has_lines s n))
  where
    rest : List ℕ
    rest = filter (has_lines s) (range_with_len (n + 1) (8 - (n + 1)))

    go : (b : Bool) → map (λ number. who.Driver number) (cond b (n ∷ rest) rest) ≡ cond b (who.Driver n ∷ []) [] ++ map (λ number. who.Driver number) rest
    go true = refl
    go false = refl

pushed : (xs ys : List Who) (a : Who) → (xs ++ a ∷ []) ++ ys ≡ xs ++ a ∷ ys
pushed [] ys a = refl
pushed (x ∷ xs) ys a = ap (λ zs. x ∷ zs) (pushed xs ys a)

-- a driver that has lines is added
pub driver_pushed : (s : ScriptValue) (xs ys : List Who) (n : ℕ) → n < 8 → has_lines s n ≡ true → xs ++ drivers_from s n ≡ ys → (xs ++ who.Driver n ∷ []) ++ drivers_from s (n + 1) ≡ ys
driver_pushed s xs ys n lt h e =
    let next = drivers_next s n lt ∙ ap (λ b. cond b (who.Driver n ∷ []) [] ++ drivers_from s (n + 1)) h in
    pushed xs (drivers_from s (n + 1)) (who.Driver n) ∙ (ap (λ zs. xs ++ zs) (sym next) ∙ e)

-- one that has none isn't
pub driver_skipped : (s : ScriptValue) (xs ys : List Who) (n : ℕ) → n < 8 → has_lines s n ≡ false → xs ++ drivers_from s n ≡ ys → xs ++ drivers_from s (n + 1) ≡ ys
driver_skipped s xs ys n lt h e =
    let next = drivers_next s n lt ∙ ap (λ b. cond b (who.Driver n ∷ []) [] ++ drivers_from s (n + 1)) h in
    ap (λ zs. xs ++ zs) (sym next) ∙ e
