-- Bytes that are all 0, or of which one isn't.
use Rattle.std.proofs.Common.{◌≡◌, ◌≢◌, ℕ, zero, suc, ◌⊎◌, ◌↔◌, IsTrue, Bool, true, false, nat_eq, List, [], ◌∷◌, get_or, refl, inl, inr, subst, sym, ◌∙◌, arith}
use Rattle.std.specs.List.{All, Any, list_all}
use Rattle.std.proofs.lemmas.Bool.{eq-eqb, ne_eqb, eqb-true}
use Rattle.std.proofs.lemmas.List.Elements.{All-nil, All-cons, All-weaker}
use Rattle.std.proofs.lemmas.List.Sums.{AllPass-from_list_all, list_all-from_AllPass}
use Rattle.std.proofs.lemmas.List.Folds.{list_all_at}

abbrev pub IsZero : ℕ → Type 0
IsZero b = b ≡ 0

abbrev pub IsNotZero : ℕ → Type 0
IsNotZero b = b ≢ 0

zero_or_not : (bytes : List ℕ) → All IsZero bytes ⊎ Any IsNotZero bytes
zero_or_not [] = inl (All-nil IsZero)
zero_or_not (zero ∷ bytes) =
    elim (zero_or_not bytes) [
      | inl all ↦ inl (All-cons IsZero zero bytes refl all)
      | inr any ↦ inr (suc any.0, any.1, omega (arith, any.2), any.3, any.4)
    ]
zero_or_not (suc n ∷ bytes) = inr (zero, suc n, omega arith, refl, λ (e : suc n ≡ 0). absurd (omega arith))

-- bytes that aren't all 0
not_zero : (bytes : List ℕ) → (All IsZero bytes → ⊥) → Any IsNotZero bytes
not_zero bytes h = elim (zero_or_not bytes) [ inl all ↦ absurd (h all) | inr any ↦ any ]

-- what a test for zeros that fails says of them
pub not_zero_when : (zeros : Bool) (bytes reserved : List ℕ) → IsTrue zeros ↔ All IsZero bytes → zeros ≡ false → reserved ≡ bytes → Any IsNotZero reserved
not_zero_when zeros bytes reserved tests fails same =
    subst (λ (b : List ℕ). Any IsNotZero b) (sym same) (not_zero bytes (λ all. let passes : IsTrue zeros = tests.1 all in grind arith))

pub not-All-Any : (bytes : List ℕ) → All IsZero bytes → Any IsNotZero bytes → ⊥
not-All-Any bytes all any =
    let at : get_or bytes any.0 any.1 ≡ 0 = all any.0 any.1 any.2 in
    any.4 (sym any.3 ∙ at)

-- the test of them
abbrev pub is_zero : ℕ → Bool
is_zero b = nat_eq b 0

pub list_all-true : (bytes : List ℕ) → All IsZero bytes → list_all is_zero bytes ≡ true
list_all-true bytes all = list_all-from_AllPass is_zero bytes (All-weaker IsZero (λ b. is_zero b ≡ true) (λ b e. eq-eqb b 0 e) bytes all)

pub list_all-false : (bytes : List ℕ) → Any IsNotZero bytes → list_all is_zero bytes ≡ false
list_all-false bytes any =
    let at : is_zero (get_or bytes any.0 any.1) ≡ false = ne_eqb (get_or bytes any.0 any.1) 0 (λ e. any.4 (sym any.3 ∙ e)) in
    list_all_at is_zero bytes any.0 any.1 any.2 at

pub All-from_list_all : (bytes : List ℕ) → list_all is_zero bytes ≡ true → All IsZero bytes
All-from_list_all bytes e = All-weaker (λ b. is_zero b ≡ true) IsZero (λ b i. eqb-true b 0 i) bytes (AllPass-from_list_all is_zero bytes e)
