-- Pages, spans and permissions as numbers.
use Rattle.std.proofs.Common.{zero, suc, ◌≡◌, ◌≢◌, ◌≤◌, ◌<◌, ◌+◌, ℕ, Bool, true, false, not, List, [], ◌∷◌, ◌++◌, refl, arith, inl, inr}
use Rattle.std.specs.Prelude.{filter, ◌⊎◌, ◌==◌}
use Rattle.std.specs.List.{list_any}
use Rattle.std.proofs.lemmas.Bool.{cases_Bool, cases_eq}
use Rattle.std.proofs.lemmas.Bool.Decides.{nat_tests}
use Rattle.vi_bytes.specs.Spans.{Meets, meets, page_span}
use Rattle.vi_bytes.specs.declared.span.Span.{Span}
use Rattle.vi_bytes.specs.declared.lease.Need.{Need}
use Rattle.vi_bytes.specs.declared.lease.Need.TheVariants.{Read, Write}
use Rattle.vi_bytes.proofs.SpanLemmas.{ends-from_Meets}
use Rattle.vi_trace.specs.Rules.{Kept, allows, perm_of, pages_kept, takes, update_meets}

-- spans that share an address meet by their ends
pub meets-from_Meets : (s t : Span) → Meets s t → meets s t ≡ true
meets-from_Meets s t share =
    let ends = ends-from_Meets s t share in
    grind (arith, nat_tests)

-- an Update of a page that shares an address with a span meets it
pub update_meets-from_page : (first count page : ℕ) (span : Span) → first ≤ page → page < first + count → Meets (page_span page) span → update_meets first count span ≡ true
update_meets-from_page first count page span from to share =
    let ends = ends-from_Meets (page_span page) span share in
    grind (arith, nat_tests)

-- one of several spans passes a test, so the test finds one
pub any_within : (test : Span → Bool) (before after : List Span) (span : Span) → test span ≡ true → list_any test (before ++ span ∷ after) ≡ true
any_within test [] after span passes = rw passes refl
any_within test (s ∷ before) after span passes =
    elim (cases_Bool (test s)) [
      | inl here ↦ rw here refl
      | inr beside ↦ rw beside (any_within test before after span passes)
    ]

-- the permission of a page behind an Update of it, and of other pages
pub perm_of-within : (first count perm page : ℕ) (kept : List Kept) → first ≤ page → page < first + count → perm_of page (pages_kept first count perm ++ kept) ≡ perm
perm_of-within first zero perm page kept from to = absurd (omega arith)
perm_of-within first (suc count) perm page kept from to =
    elim (cases_eq (first + count) page) [
      | inl same ↦ grind (arith, nat_tests)
      | inr other ↦
          let rest = perm_of-within first count perm page kept from (omega arith) in
          grind (arith, nat_tests)
    ]

pub perm_of-beside : (first count perm page : ℕ) (kept : List Kept) → (page < first) ⊎ (first + count ≤ page) → perm_of page (pages_kept first count perm ++ kept) ≡ perm_of page kept
perm_of-beside first zero perm page kept apart = refl
perm_of-beside first (suc count) perm page kept apart =
    let rest = perm_of-beside first count perm page kept (elim apart [ inl low ↦ inl low | inr high ↦ inr (omega arith) ]) in
    let other : first + count ≢ page = elim apart [ inl low ↦ omega arith | inr high ↦ omega arith ] in
    grind (arith, nat_tests)

-- pages of which one meets the span and the other doesn't are two
other_page : (span : Span) (page : ℕ) (k : Kept) → takes span k ≡ true → meets (page_span page) span ≡ false → (k.page == page) ≡ false
other_page span page k gone apart =
    elim (cases_eq k.page page) [
      | inl same ↦ let there : meets (page_span page) span ≡ true = rw same at gone in absurd (cc)
      | inr other ↦ grind (arith, nat_tests)
    ]

other_page_stays : (span : Span) (page : ℕ) (k : Kept) → takes span k ≡ false → meets (page_span page) span ≡ true → (k.page == page) ≡ false
other_page_stays span page k stays share =
    elim (cases_eq k.page page) [
      | inl same ↦ let there : meets (page_span page) span ≡ false = rw same at stays in absurd (cc)
      | inr other ↦ grind (arith, nat_tests)
    ]

-- an Ack leaves a page that doesn't meet its span as it was, and takes the others
pub perm_of-left : (span : Span) (page : ℕ) (kept : List Kept) → meets (page_span page) span ≡ false → perm_of page (filter (λ k. not (takes span k)) kept) ≡ perm_of page kept
perm_of-left span page [] apart = refl
perm_of-left span page (k ∷ ks) apart =
    let rest = perm_of-left span page ks apart in
    elim (cases_Bool (takes span k)) [
      | inl gone ↦ rw (gone, other_page span page k gone apart) rest
      | inr stays ↦ rw (stays, rest) refl
    ]

pub perm_of-taken : (span : Span) (page : ℕ) (kept : List Kept) → meets (page_span page) span ≡ true → perm_of page (filter (λ k. not (takes span k)) kept) ≡ 0
perm_of-taken span page [] share = refl
perm_of-taken span page (k ∷ ks) share =
    let rest = perm_of-taken span page ks share in
    elim (cases_Bool (takes span k)) [
      | inl gone ↦ rw gone rest
      | inr stays ↦ rw (stays, other_page_stays span page k stays share) rest
    ]

-- a page that isn't kept allows nothing
pub nothing_allowed : (need : Need) → allows need 0 ≡ false
nothing_allowed Read = refl
nothing_allowed Write = refl
