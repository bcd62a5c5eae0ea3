-- What a valid script gives: a setup that the parts are built of, and jobs within their limits.
use Rattle.std.proofs.Common.{◌≡◌, ◌≤◌, ℕ, zero, suc, Bool, true, false, not, ◌&&◌, ◌||◌, nat_le, List, [], ◌∷◌, All, length, map, inl, inr, refl, sym, arith}
use Rattle.std.specs.Prelude.{◌==◌}
use Rattle.std.specs.List.{list_all, list_any}
use Rattle.std.proofs.lemmas.Bool.{false≢true, and_parts, leb-true, eqb-true}
use Rattle.vi_bytes.specs.Spans.{IsProper}
use Rattle.vi_bytes.specs.declared.region.Region.{Region}
use Rattle.vi_bytes.specs.declared.region.EndpointSetup.{EndpointSetup}
use Rattle.vi_config.specs.Space.{IsGranule}
use Rattle.vi_history.specs.declared.setup.Setup.{Setup}
use Rattle.vi_vring.specs.Moves.{IsRingSize}
use Rattle.vi_device.specs.Values.{AreDistinct, AreRegions, IsSetup}
use Rattle.vi_lines.specs.declared.line.Line.{Line}
use Rattle.vi_lines.specs.Rules.{is_aligned, job_runs_over}
use Rattle.vi_lines.specs.Limits.{is_memory, is_queue, is_granule, is_job}
use Rattle.vi_lines.specs.Valid.{is_region, has_endpoint, AreEndpoints, IsValidSetup, IsValid, is_line, is_caller_in, does}
use Rattle.vi_lines.specs.Value.{ScriptValue}

no_other : (es : List EndpointSetup) (id : ℕ) → has_endpoint es id ≡ false → list_any (λ x. x == id) (map (λ (e : EndpointSetup). e.id) es) ≡ false
no_other [] id none = refl
no_other (e ∷ es) id none = go (e.id == id) refl (λ h. no_other es id h) none
  where
    go : (b : Bool) → (e.id == id) ≡ b → (has_endpoint es id ≡ false → list_any (λ x. x == id) (map (λ (e : EndpointSetup). e.id) es) ≡ false) → has_endpoint (e ∷ es) id ≡ false
        → list_any (λ x. x == id) (map (λ (e : EndpointSetup). e.id) (e ∷ es)) ≡ false
    go true q rest h = absurd (false≢true (sym (rw q at h)))
    go false q rest h = rw q (rest (rw q at h))

distinct_ids : (granule : ℕ) (es : List EndpointSetup) → AreEndpoints granule es → AreDistinct (map (λ (e : EndpointSetup). e.id) es)
distinct_ids granule [] are = tt
distinct_ids granule (e ∷ es) are = (no_other es e.id are.1, distinct_ids granule es are.2)

proper_regions : (granule : ℕ) (rs : List Region) → list_all (λ r. is_region granule r) rs ≡ true → All (λ (r : Region). IsProper r.span) rs
proper_regions granule [] h k d below = absurd (omega arith)
proper_regions granule (r ∷ rs) h zero d below =
    let here = and_parts (is_region granule r) (list_all (λ r. is_region granule r) rs) h in
    leb-true r.span.first r.span.last (and_parts (nat_le r.span.first r.span.last) (is_aligned granule r.span) here.0).0
proper_regions granule (r ∷ rs) h (suc k) d below = proper_regions granule rs (and_parts (is_region granule r) (list_all (λ r. is_region granule r) rs) h).1 k d (omega arith)

all_regions : (granule : ℕ) (es : List EndpointSetup) → AreEndpoints granule es → All (λ (e : EndpointSetup). AreRegions e.regions) es
all_regions granule [] are k d below = absurd (omega arith)
all_regions granule (e ∷ es) are zero d below = record { few = are.0.few; proper = proper_regions granule e.regions are.0.regions_each }
all_regions granule (e ∷ es) are (suc k) d below = all_regions granule es are.2 k d (omega arith)

-- the device is built of it
pub setup_of : (s : Setup) → IsValidSetup s → IsSetup s
setup_of s v = record {
  few = v.few;
  distinct = distinct_ids s.granule s.endpoints v.endpoints_each;
  regions = all_regions s.granule s.endpoints v.endpoints_each;
}

-- and rings are
pub ring_size : (n : ℕ) → is_queue n ≡ true → IsRingSize n
ring_size n fits = go (n == 16) (n == 32) (n == 64) (n == 128) (n == 256) refl refl refl refl refl fits
  where
    go : (a b c d e : Bool) → (n == 16) ≡ a → (n == 32) ≡ b → (n == 64) ≡ c → (n == 128) ≡ d → (n == 256) ≡ e → (a || (b || (c || (d || e)))) ≡ true → IsRingSize n
    go true b c d e p q r s t some = inl (eqb-true n 16 p)
    go false true c d e p q r s t some = inr (inl (eqb-true n 32 q))
    go false false true d e p q r s t some = inr (inr (inl (eqb-true n 64 r)))
    go false false false true e p q r s t some = inr (inr (inr (inl (eqb-true n 128 s))))
    go false false false false true p q r s t some = inr (inr (inr (inr (eqb-true n 256 t))))
    go false false false false false p q r s t some = absurd (cc)

pub granule_size : (n : ℕ) → is_granule n ≡ true → IsGranule n
granule_size n fits = go (n == 4096) (n == 16384) (n == 65536) refl refl refl fits
  where
    go : (a b c : Bool) → (n == 4096) ≡ a → (n == 16384) ≡ b → (n == 65536) ≡ c → (a || (b || c)) ≡ true → IsGranule n
    go true b c p q r some = inl (eqb-true n 4096 p)
    go false true c p q r some = inr (inl (eqb-true n 16384 q))
    go false false true p q r some = inr (inr (eqb-true n 65536 r))
    go false false false p q r some = absurd (cc)

pub memory_bound : (n : ℕ) → is_memory n ≡ true → n ≤ 16384
memory_bound n fits = leb-true n 16384 (and_parts (nat_le 1 n) (nat_le n 16384) fits).1

-- the jobs of its lines are within their limits
line_job : (es : List EndpointSetup) (l : Line) → is_line es l ≡ true → is_job l.job ≡ true
line_job es l h =
    let few = nat_le (length l.awaits) 16 in
    let a = and_parts (is_caller_in es l.caller) (does l.caller l.add l.job && (is_job l.job && (not (job_runs_over l.job) && few))) h in
    let b = and_parts (does l.caller l.add l.job) (is_job l.job && (not (job_runs_over l.job) && few)) a.1 in
    (and_parts (is_job l.job) (not (job_runs_over l.job) && few) b.1).0

all_jobs : (es : List EndpointSetup) (lines : List Line) → list_all (λ l. is_line es l) lines ≡ true → All (λ (l : Line). is_job l.job ≡ true) lines
all_jobs es [] h k d below = absurd (omega arith)
all_jobs es (l ∷ ls) h zero d below = line_job es l (and_parts (is_line es l) (list_all (λ l. is_line es l) ls) h).0
all_jobs es (l ∷ ls) h (suc k) d below = all_jobs es ls (and_parts (is_line es l) (list_all (λ l. is_line es l) ls) h).1 k d (omega arith)

pub jobs_of : (s : ScriptValue) → IsValid s → All (λ (l : Line). is_job l.job ≡ true) s.lines
jobs_of s v = all_jobs s.setup.endpoints s.lines v.lines_each
