-- Spans that are one, and what a search for one finds.
use Rattle.std.proofs.Common.{◌≡◌, ℕ, true, ◌==◌, ◌↔◌, List, IsTrue, Contains, slice_index_or, ap, ◌∙◌, subst, eqb-true, eq-eqb, refl}
use Rattle.std.specs.List.{list_any}
use Rattle.std.proofs.lemmas.Bool.{and_parts, and_from}
use Rattle.std.proofs.lemmas.List.Folds.{Any-from_list_any, list_any-from_Any}
use Rattle.vi_bytes.specs.declared.span.Span.{Span}
use Rattle.vi_iova.specs.Spaces.{is_same}

abbrev span : ℕ → ℕ → Span
span first last = record { first = first; last = last }

is_same-eq : (s t : Span) → is_same s t ≡ true → s ≡ t
is_same-eq s t same =
    let parts = and_parts (s.first == t.first) (s.last == t.last) same in
    let firsts : s.first ≡ t.first = eqb-true s.first t.first parts.0 in
    let lasts : s.last ≡ t.last = eqb-true s.last t.last parts.1 in
    ap (λ first. span first s.last) firsts ∙ ap (λ last. span t.first last) lasts

is_same-refl : (s : Span) → is_same s s ≡ true
is_same-refl s = and_from (s.first == s.first) (s.last == s.last) (eq-eqb s.first s.first refl) (eq-eqb s.last s.last refl)

-- one of the spans is the same as this where this is one of them
pub found : (t : Span) (ts : List Span) → IsTrue (list_any (λ u. is_same u t) ts) ↔ Contains ts t
found t ts = (
  (λ test.
      let any = Any-from_list_any (λ u. is_same u t) ts test in
      let is : any.1 ≡ t = is_same-eq any.1 t any.4 in
      (any.0, any.2, subst (λ u. slice_index_or ts any.0 u ≡ u) is any.3)),
  (λ (has : Contains ts t). list_any-from_Any (λ u. is_same u t) ts (has.0, t, has.1, has.2, is_same-refl t)),
)
