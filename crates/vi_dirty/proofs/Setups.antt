-- A device can be made of a valid script's setup.
use Rattle.std.proofs.Common.{◌≡◌, ◌==◌, ℕ, zero, suc, ◌%◌, Bool, true, false, ◌||◌, nat_le, List, [], ◌∷◌, All, map, refl, sym, arith, ap}
use Rattle.std.specs.List.{list_all, list_any}
use Rattle.std.proofs.lemmas.Bool.{false≢true, and_parts, leb-true, eqb-true}
use Rattle.vi_bytes.specs.Spans.{IsProper}
use Rattle.vi_bytes.specs.declared.region.Region.{Region}
use Rattle.vi_bytes.specs.declared.region.EndpointSetup.{EndpointSetup}
use Rattle.vi_bytes.specs.declared.span.TheConstants.{PAGE}
use Rattle.vi_history.specs.declared.setup.Setup.{Setup}
use Rattle.vi_device.specs.Values.{AreDistinct, AreRegions}
use Rattle.vi_lines.specs.Rules.{is_aligned}
use Rattle.vi_lines.specs.Limits.{is_granule}
use Rattle.vi_lines.specs.Valid.{is_region, has_endpoint, AreEndpoints, IsValidSetup}
use Rattle.vi_state.specs.Followed.{IsFollowedSetup}

no_other : (es : List EndpointSetup) (id : ℕ) → has_endpoint es id ≡ false → list_any (λ x. x == id) (map (λ (e : EndpointSetup). e.id) es) ≡ false
no_other [] id none = refl
no_other (e ∷ es) id none = go (e.id == id) refl (λ h. no_other es id h) none
  where
    go : (b : Bool) → (e.id == id) ≡ b → (has_endpoint es id ≡ false → list_any (λ x. x == id) (map (λ (e : EndpointSetup). e.id) es) ≡ false) → has_endpoint (e ∷ es) id ≡ false
        → list_any (λ x. x == id) (map (λ (e : EndpointSetup). e.id) (e ∷ es)) ≡ false
    go true q rest h = absurd (false≢true (sym (rw q at h)))
    go false q rest h = rw q (rest (rw q at h))

distinct_ids : (granule : ℕ) (es : List EndpointSetup) → AreEndpoints granule es → AreDistinct (map (λ (e : EndpointSetup). e.id) es)
distinct_ids granule [] are = tt
distinct_ids granule (e ∷ es) are = (no_other es e.id are.1, distinct_ids granule es are.2)

proper_regions : (granule : ℕ) (rs : List Region) → list_all (λ r. is_region granule r) rs ≡ true → All (λ (r : Region). IsProper r.span) rs
proper_regions granule [] h k d below = absurd (omega arith)
proper_regions granule (r ∷ rs) h zero d below =
    let here = and_parts (is_region granule r) (list_all (λ r. is_region granule r) rs) h in
    leb-true r.span.first r.span.last (and_parts (nat_le r.span.first r.span.last) (is_aligned granule r.span) here.0).0
proper_regions granule (r ∷ rs) h (suc k) d below = proper_regions granule rs (and_parts (is_region granule r) (list_all (λ r. is_region granule r) rs) h).1 k d (omega arith)

all_regions : (granule : ℕ) (es : List EndpointSetup) → AreEndpoints granule es → All (λ (e : EndpointSetup). AreRegions e.regions) es
all_regions granule [] are k d below = absurd (omega arith)
all_regions granule (e ∷ es) are zero d below = record { few = are.0.few; proper = proper_regions granule e.regions are.0.regions_each }
all_regions granule (e ∷ es) are (suc k) d below = all_regions granule es are.2 k d (omega arith)

whole_pages : (n : ℕ) → is_granule n ≡ true → n % PAGE ≡ 0
whole_pages n fits = go (n == 4096) (n == 16384) (n == 65536) refl refl refl fits
  where
    go : (a b c : Bool) → (n == 4096) ≡ a → (n == 16384) ≡ b → (n == 65536) ≡ c → (a || (b || c)) ≡ true → n % PAGE ≡ 0
    go true b c p q r some = ap (λ k. k % PAGE) (eqb-true n 4096 p)
    go false true c p q r some = ap (λ k. k % PAGE) (eqb-true n 16384 q)
    go false false true p q r some = ap (λ k. k % PAGE) (eqb-true n 65536 r)
    go false false false p q r some = absurd (cc)

pub setup_followed : (s : Setup) → IsValidSetup s → IsFollowedSetup s
setup_followed s v = record {
  setup = record {
    few = v.few;
    distinct = distinct_ids s.granule s.endpoints v.endpoints_each;
    regions = all_regions s.granule s.endpoints v.endpoints_each;
  };
  granule = whole_pages s.granule v.granule_fits;
}
