-- Mappings that meet regions.
use Rattle.std.proofs.Common.{◌≡◌, ◌||◌, Bool, true, false, List, [], ◌∷◌, refl, ap, sym, ◌∙◌}
use Rattle.std.specs.List.{list_any}
use Rattle.vi_bytes.specs.declared.lease.Mapping.{Mapping}
use Rattle.vi_bytes.specs.declared.region.Region.{Region}
use Rattle.vi_bytes.specs.Spans.{meets}
use Rattle.vi_bytes.proofs.SpanLemmas.{meets-comm}
use Rattle.vi_history.specs.Statuses.{any_mapping_meets, any_mapping_meets_region, any_region_meets}

any_or : {A : Type 0} (p q : A → Bool) (xs : List A) → list_any (λ x. p x || q x) xs ≡ (list_any p xs || list_any q xs)
any_or p q [] = refl
any_or p q (x ∷ xs) = ap (λ b. (p x || q x) || b) (any_or p q xs) ∙ around (p x) (q x) (list_any p xs) (list_any q xs)
  where
    around : (a b c d : Bool) → ((a || b) || (c || d)) ≡ ((a || c) || (b || d))
    around true b c d = refl
    around false true true d = refl
    around false true false d = refl
    around false false c d = refl

any_agree : {A : Type 0} (p q : A → Bool) (xs : List A) → ((x : A) → p x ≡ q x) → list_any p xs ≡ list_any q xs
any_agree p q [] same = refl
any_agree p q (x ∷ xs) same = ap (λ b. b || list_any p xs) (same x) ∙ ap (λ b. q x || b) (any_agree p q xs same)

any_false : {A : Type 0} (xs : List A) → list_any (λ x. false) xs ≡ false
any_false [] = refl
any_false (x ∷ xs) = any_false xs

-- region by region or mapping by mapping
pub meets_by_region : (regions : List Region) (ms : List Mapping) → any_mapping_meets_region regions ms ≡ list_any (λ r. any_mapping_meets r.span ms) regions
meets_by_region regions [] = sym (any_false regions)
meets_by_region regions (m ∷ ms) =
    ap (λ b. any_region_meets m.span regions || b) (meets_by_region regions ms)
    ∙ ap (λ b. b || list_any (λ r. any_mapping_meets r.span ms) regions) (any_agree (λ r. meets r.span m.span) (λ r. meets m.span r.span) regions (λ r. meets-comm r.span m.span))
    ∙ sym (any_or (λ r. meets m.span r.span) (λ r. any_mapping_meets r.span ms) regions)
