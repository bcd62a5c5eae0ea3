-- What `retain` keeps where the closure only tests.
use Rattle.std.proofs.Common.{◌≡◌, Bool, cond, List, [], ◌∷◌, refl, subst, ◌∙◌}
use Rattle.std.specs.List.{filter}
use Rattle.std.specs.List.Retain.{RetainsInTurn}

same_kept : {X : Type 0} (b c : Bool) (x y : X) (xs ys : List X) → b ≡ c → x ≡ y → xs ≡ ys → cond b (x ∷ xs) xs ≡ cond c (y ∷ ys) ys
same_kept b c x y xs ys e f g = rw (e, f, g) refl

pub kept_in_turn : {S X : Type 0} (R : S → X → Bool → S → X → Type 0) (test : X → Bool) (f : S)
    → ((x : X) (b : Bool) (t : S) (y : X) → R f x b t y → (b ≡ test x) × (t ≡ f) × (y ≡ x))
    → (xs ys : List X) → RetainsInTurn R f xs ys → ys ≡ filter test xs
kept_in_turn R test f h [] ys k = k
kept_in_turn R test f h (x ∷ xs) ys k =
    let said = h x k.0 k.1 k.2 k.3 in
    let rest = kept_in_turn R test f h xs k.4 (subst (λ t. RetainsInTurn R t xs k.4) said.1 k.5) in
    k.6 ∙ same_kept k.0 (test x) k.2 x k.4 (filter test xs) said.0 said.2 rest
