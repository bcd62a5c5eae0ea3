-- Bytes read as one configuration at most, and are then not refused.
use Rattle.std.proofs.Common.{◌≡◌, ◌≢◌, ◌≤◌, ◌↔◌, ℕ, Bool, true, false, IsTrue, not, nat_eq, Result, Ok, Err, List, length, refl, ap, sym, subst, ◌∙◌, arith}
use Rattle.std.proofs.lemmas.Bool.Decides.{nat_tests}
use Rattle.vi_bytes.specs.Fields.{field, byte_at}
use Rattle.vi_bytes.specs.Spans.{IsProper}
use Rattle.vi_bytes.specs.declared.span.Span.{Span}
use Rattle.vi_config.specs.Space.{IsGranule, mask_of, ReadAs, RefusedAs}
use Rattle.vi_config.specs.declared.config.Config.{Config}
use Rattle.vi_config.specs.declared.refusal.ConfigFault.{ConfigFault}
use Rattle.vi_config.specs.declared.refusal.ConfigFault.TheVariants.{Short, Mask, Order}

-- a granule has its own mask
one_granule : (g h : ℕ) → IsGranule g → IsGranule h → mask_of g ≡ mask_of h → g ≡ h
one_granule g h i j e = grind arith

same_bypass : (a b : Bool) (n : ℕ) → IsTrue a ↔ (n ≢ 0) → IsTrue b ↔ (n ≢ 0) → a ≡ b
same_bypass true true n p q = refl
same_bypass false false n p q = refl
same_bypass true false n p q = grind arith
same_bypass false true n p q = grind arith

abbrev pub span : ℕ → ℕ → Span
span first last = record { first = first; last = last }

same_span : (s t : Span) → s.first ≡ t.first → s.last ≡ t.last → s ≡ t
same_span s t p q = ap (λ n. span n s.last) p ∙ ap (span t.first) q

abbrev pub config : ℕ → Span → Bool → Config
config granule input bypass = record { granule = granule; input = input; bypass = bypass }

one_config : (bytes : List ℕ) (c d : Config) → ReadAs bytes c → ReadAs bytes d → c ≡ d
one_config bytes c d p q =
    let granules = one_granule c.granule d.granule p.granule q.granule (sym p.mask_at_0 ∙ q.mask_at_0) in
    let inputs = same_span c.input d.input (sym p.input_start_at_8 ∙ q.input_start_at_8) (sym p.input_end_at_16 ∙ q.input_end_at_16) in
    let bypasses = same_bypass c.bypass d.bypass (byte_at 36 bytes) p.bypass_at_36 q.bypass_at_36 in
    ap (λ n. config n c.input c.bypass) granules ∙ ap (λ s. config d.granule s c.bypass) inputs ∙ ap (config d.granule d.input) bypasses

not_refused : (bytes : List ℕ) (c : Config) (fault : ConfigFault) → ReadAs bytes c → RefusedAs bytes fault → ⊥
not_refused bytes c Short p q = omega (arith, p.size)
not_refused bytes c (Mask mask) p q = q.2 (c.granule, p.granule, sym q.1 ∙ p.mask_at_0)
not_refused bytes c Order p q = omega (arith, p.input_start_at_8, p.input_end_at_16, p.proper)

is_not_zero : (n : ℕ) → IsTrue (not (nat_eq n 0)) ↔ (n ≢ 0)
is_not_zero n = grind (arith, nat_tests)

-- what the fields show
abbrev pub shown : List ℕ → ℕ → Span → Config
shown bytes granule input = config granule input (not (nat_eq (byte_at 36 bytes) 0))

abbrev pub ok : Config → Result Config ConfigFault
ok c = Ok c

module _ (bytes : List ℕ) (granule first last : ℕ) (input : Span) (size : 40 ≤ length bytes) (known : IsGranule granule) (mask : field 0 8 bytes ≡ mask_of granule) (start : first ≡ field 8 8 bytes) (end : last ≡ field 16 8 bytes) (is : input ≡ span first last) (proper : IsProper input) where
  ReadAs-shown : ReadAs bytes (shown bytes granule input)
  ReadAs-shown = record {
    size = size;
    mask_at_0 = mask;
    input_start_at_8 = sym (ap (λ s. s.first) is ∙ start);
    input_end_at_16 = sym (ap (λ s. s.last) is ∙ end);
    bypass_at_36 = is_not_zero (byte_at 36 bytes);
    granule = known;
    proper = proper;
  }

  pub accepted : (c : Config) → (ok (shown bytes granule input) ≡ Ok c) ↔ ReadAs bytes c
  accepted c = (λ e. subst (ReadAs bytes) (cc) ReadAs-shown, λ r. ap Ok (one_config bytes _ c ReadAs-shown r))

  pub refused : (fault : ConfigFault) → (ok (shown bytes granule input) ≡ Err fault) ↔ RefusedAs bytes fault
  refused fault = (λ e. cc, λ r. absurd (not_refused bytes _ fault ReadAs-shown r))
