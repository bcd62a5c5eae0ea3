-- Spans as sets of addresses, and their tests.
use Rattle.std.proofs.Common.{◌≡◌, ℕ, zero, suc, ◌+◌, ◌-◌, ◌*◌, ◌/◌, ◌%◌, ◌≤◌, ◌<◌, ◌↔◌, ◌⊎◌, ◌&&◌, max, false, nat_le, IsTrue, ap, ◌∙◌, arith, le_refl, leb-true, le-leb}
use Rattle.std.proofs.Math.Nat.{div-add-mod, mul-add, mul-suc, mul-mod_right, mul-add-mod_self_left, mod-eq_of_lt}
use Rattle.std.proofs.lemmas.Bool.{and_parts, and_from}
use Rattle.std.proofs.lemmas.Bool.Decides.{nat_tests}
use Rattle.vi_bytes.specs.declared.span.Span.{Span}
use Rattle.vi_bytes.specs.Spans.{IsProper, Has, Meets, Covers, has, meets, covers, page_span, IsMultiple, IsWholeGranules}

-- two comparisons joined in one test
pub le_both_iff : (a b c d : ℕ) → IsTrue (nat_le a b && nat_le c d) ↔ ((a ≤ b) × (c ≤ d))
le_both_iff a b c d = (
  (λ test. let h = and_parts (nat_le a b) (nat_le c d) test in (leb-true a b h.0, leb-true c d h.1)),
  (λ (h : (a ≤ b) × (c ≤ d)). and_from (nat_le a b) (nat_le c d) (le-leb a b h.0) (le-leb c d h.1)),
)

-- two proper spans that end after the other begins share the later of their first addresses
pub Meets-from_ends : (s t : Span) → IsProper s → IsProper t → s.first ≤ t.last → t.first ≤ s.last → Meets s t
Meets-from_ends s t s_proper t_proper below above =
    let address = max s.first t.first in
    let in_s : Has s address = (omega arith, omega arith) in
    let in_t : Has t address = (omega arith, omega arith) in
    (address, in_s, in_t)

-- spans that share an address end after the other begins
pub ends-from_Meets : (s t : Span) → Meets s t → (s.first ≤ t.last) × (t.first ≤ s.last)
ends-from_Meets s t m =
    let s_from : s.first ≤ m.0 = m.1.0 in
    let s_to : m.0 ≤ s.last = m.1.1 in
    let t_from : t.first ≤ m.0 = m.2.0 in
    let t_to : m.0 ≤ t.last = m.2.1 in
    (omega arith, omega arith)

-- one span has all of a proper span's addresses where it has the ends
pub Covers-from_ends : (s t : Span) → s.first ≤ t.first → t.last ≤ s.last → Covers s t
Covers-from_ends s t below above =
    λ (address : ℕ) (in_t : Has t address).
    let from : t.first ≤ address = in_t.0 in
    let to : address ≤ t.last = in_t.1 in
    (omega arith, omega arith)

pub ends-from_Covers : (s t : Span) → IsProper t → Covers s t → (s.first ≤ t.first) × (t.last ≤ s.last)
ends-from_Covers s t proper covers =
    let at_first : Has s t.first = covers t.first (le_refl t.first, proper) in
    let at_last : Has s t.last = covers t.last (proper, le_refl t.last) in
    (at_first.0, at_last.1)

-- the tests say what they test
pub has-iff : (s : Span) (address : ℕ) → IsTrue (has s address) ↔ Has s address
has-iff s address = le_both_iff s.first address address s.last

pub meets-iff : (s t : Span) → IsProper s → IsProper t → IsTrue (meets s t) ↔ Meets s t
meets-iff s t s_proper t_proper =
    let ends = le_both_iff s.first t.last t.first s.last in (
      (λ test. let h = ends.0 test in Meets-from_ends s t s_proper t_proper h.0 h.1),
      (λ (m : Meets s t). ends.1 (ends-from_Meets s t m)),
    )

pub covers-iff : (s t : Span) → IsProper t → IsTrue (covers s t) ↔ Covers s t
covers-iff s t t_proper =
    let ends = le_both_iff s.first t.first t.last s.last in (
      (λ test. let h = ends.0 test in Covers-from_ends s t h.0 h.1),
      (λ (m : Covers s t). ends.1 (ends-from_Covers s t t_proper m)),
    )

-- spans that don't meet lie one before the other
pub apart-from_meets : (s t : Span) → meets s t ≡ false → (s.last < t.first) ⊎ (t.last < s.first)
apart-from_meets s t apart = grind (arith, nat_tests)

pub meets-comm : (s t : Span) → meets s t ≡ meets t s
meets-comm s t = grind (arith, nat_tests)

-- what has an address of a span that another covers, and what meets it
pub has-from_covers : (s t : Span) (address : ℕ) → IsTrue (covers s t) → IsTrue (has t address) → IsTrue (has s address)
has-from_covers s t address c h = grind (arith, nat_tests)

pub meets-from_covers : (s t u : Span) → IsTrue (covers s t) → IsTrue (meets t u) → IsTrue (meets s u)
meets-from_covers s t u c m = grind (arith, nat_tests)

-- spans that have one address meet
pub meets-from_has : (s t : Span) (address : ℕ) → IsTrue (has s address) → IsTrue (has t address) → IsTrue (meets s t)
meets-from_has s t address in_s in_t = grind (arith, nat_tests)

-- a page's span is proper and has the addresses of the page
pub IsProper-page_span : (page : ℕ) → IsProper (page_span page)
IsProper-page_span page = omega arith

pub has-page_span : (page address : ℕ) → IsTrue (has (page_span page) address) ↔ (address / 4096 ≡ page)
has-page_span page address =
    let between = has-iff (page_span page) address in (
      (λ test. let h = between.0 test in let from : 4096 * page ≤ address = h.0 in let to : address ≤ 4096 * page + 4095 = h.1 in omega arith),
      (λ (p : address / 4096 ≡ page). between.1 (omega arith, omega arith)),
    )

-- remainders of 0 and of the granule less 1 are those of whole granules
pub IsWholeGranules-from_remainders : (first last granule : ℕ) → 0 < granule → first % granule ≡ 0 → last % granule ≡ granule - 1 → IsWholeGranules first last granule
IsWholeGranules-from_remainders first last granule some at_first at_last =
    let first_whole : first ≡ granule * (first / granule) = omega (arith, div-add-mod first granule) in
    let last_whole : last + 1 ≡ granule * (last / granule + 1) = omega (arith, div-add-mod last granule, mul-add granule (last / granule) 1) in
    ((first / granule, first_whole), (last / granule + 1, last_whole))

-- a multiple of the granule has remainder 0
pub mod-from_IsMultiple : (n granule : ℕ) → IsMultiple granule n → n % granule ≡ 0
mod-from_IsMultiple n granule multiple = ap (λ m. m % granule) multiple.1 ∙ mul-mod_right granule multiple.0

-- and the number below it the granule less 1
pub mod-from_product : (last granule k : ℕ) → 0 < granule → last + 1 ≡ granule * k → last % granule ≡ granule - 1
mod-from_product last granule zero some product = absurd (omega arith)
mod-from_product last granule (suc k) some product =
    let parts : last ≡ granule * k + (granule - 1) = omega (arith, mul-suc granule k) in
    ap (λ n. n % granule) parts ∙ mul-add-mod_self_left granule k (granule - 1) ∙ mod-eq_of_lt (omega arith)
