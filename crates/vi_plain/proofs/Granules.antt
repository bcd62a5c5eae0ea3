-- Whole granules, and what a MAP with status OK has.
use Rattle.std.proofs.Common.{◌≡◌, ℕ, ◌+◌, ◌-◌, ◌%◌, ◌^◌, ◌<◌, Bool, true, false, not, ◌==◌, cond, nat_le, nat_lt, Option, Some, None, refl, ap, sym, ◌∙◌, arith, lit<}
use Rattle.std.proofs.Math.Nat.{mod-mod_of_dvd}
use Rattle.std.proofs.lemmas.Bool.{not-false}
use Rattle.std.proofs.lemmas.Bool.Decides.{nat_tests}
use Rattle.std.proofs.lemmas.Nat.Gcd.{dvd_of_mod-eq-zero}
use Rattle.vi_bytes.specs.Spans.{IsWholeGranules}
use Rattle.vi_bytes.specs.declared.span.Span.{Span}
use Rattle.vi_bytes.proofs.SpanLemmas.{mod-from_IsMultiple}
use Rattle.vi_history.specs.Device.{Dev, Domain, domain_of}
use Rattle.vi_bytes.specs.Spans.{covers}
use Rattle.vi_history.specs.Statuses.{are_multiples, map_into, status}
use Rattle.vi_bytes.specs.declared.span.TheConstants.{PAGE}
use Rattle.vi_history.specs.declared.status.TheConstants.{OK, INVAL, RANGE}
use Rattle.vi_history.specs.declared.request.Request.TheVariants.{Map}
use Rattle.vi_plain.specs.Kept.{IsSound, IsGranule}

-- a span of whole granules leaves the target to be tested
pub are_multiples-whole : (granule first last target : ℕ) → IsWholeGranules first last granule → are_multiples granule first (last + 1) target ≡ (target % granule == 0)
are_multiples-whole granule first last target whole =
    rw (mod-from_IsMultiple first granule whole.0, mod-from_IsMultiple (last + 1) granule whole.1) refl

-- whole granules are whole pages
pages-of_granules : (n granule : ℕ) → granule % PAGE ≡ 0 → n % granule ≡ 0 → n % PAGE ≡ 0
pages-of_granules n granule pages whole =
    sym (mod-mod_of_dvd PAGE {b = granule} n (dvd_of_mod-eq-zero PAGE pages)) ∙ ap (λ k. k % PAGE) whole

-- a refusal that doesn't apply
passed : (b : Bool) (n rest : ℕ) → 0 < n → cond b n rest ≡ 0 → (b ≡ false) × (rest ≡ 0)
passed true n rest some e = absurd (omega (arith, some, e))
passed false n rest some e = (refl, e)

permitted : (b : Bool) (n rest : ℕ) → 0 < n → cond b rest n ≡ 0 → rest ≡ 0
permitted true n rest some e = e
permitted false n rest some e = absurd (omega (arith, some, e))

-- what a MAP into a domain passes before it is OK
pub record Passes (dev : Dev) (span : Span) (target : ℕ) : Type 0 where
  pub multiples : are_multiples dev.granule span.first (span.last + 1) target ≡ true
  pub fits : nat_le (2 ^ 64) (target + (span.last - span.first)) ≡ false

passes_into : (dev : Dev) (domain : ℕ) (span : Span) (target : ℕ) (o : Option Domain) → map_into dev domain span target o ≡ OK → Passes dev span target
passes_into dev domain span target None e = absurd (omega (arith, e))
passes_into dev domain span target (Some y) e =
    let a = passed y.bypass INVAL _ (lit< tt) e in
    let b = passed (nat_le span.last span.first) INVAL _ (lit< tt) a.1 in
    let c = passed (not (are_multiples dev.granule span.first (span.last + 1) target)) RANGE _ (lit< tt) b.1 in
    let d = passed (not (covers dev.input span)) RANGE _ (lit< tt) c.1 in
    let f = passed (nat_le (2 ^ 64) (target + (span.last - span.first))) RANGE _ (lit< tt) d.1 in
    record { multiples = not-false (are_multiples dev.granule span.first (span.last + 1) target) c.0; fits = f.0 }

first-whole : (granule first behind target : ℕ) → are_multiples granule first behind target ≡ true → first % granule ≡ 0
first-whole granule first behind target e = grind (arith, nat_tests)

target-whole : (granule first behind target : ℕ) → are_multiples granule first behind target ≡ true → target % granule ≡ 0
target-whole granule first behind target e = grind (arith, nat_tests)

below-from_test : (m n : ℕ) → nat_le m n ≡ false → n < m
below-from_test m n e = grind (arith, nat_tests)

-- a MAP with status OK makes a sound mapping
pub IsSound-from_status : (dev : Dev) (domain first last target flags : ℕ) → IsGranule dev.granule → status dev (Map domain first last target flags) ≡ OK
    → IsSound (record { span = record { first = first; last = last }; target = target; flags = flags })
unfolding status
IsSound-from_status dev domain first last target flags granule e =
    let span : Span = record { first = first; last = last } in
    let p = passes_into dev domain span target (domain_of dev domain) (permitted (nat_lt flags 4) INVAL _ (lit< tt) e) in
    record {
      fits = below-from_test (2 ^ 64) (target + (last - first)) p.fits;
      first = pages-of_granules first dev.granule granule.pages (first-whole dev.granule first (last + 1) target p.multiples);
      target = pages-of_granules target dev.granule granule.pages (target-whole dev.granule first (last + 1) target p.multiples);
    }
