-- The lines of a valid script are lines that the one-thread device takes, and its setup is one that it is made of.
use Rattle.std.proofs.Common.{◌≡◌, ◌==◌, nat_eq, ℕ, zero, suc, ◌+◌, ◌-◌, ◌%◌, ◌^◌, ◌<◌, ◌≤◌, Bool, true, false, not, ◌&&◌, ◌||◌, cond, List, [], ◌∷◌, length, drop, get_or, All, Some, None, refl, sym, ap, subst, arith}
use Rattle.std.specs.Prelude.{nat_le, nat_lt}
use Rattle.std.specs.List.{list_all}
use Rattle.std.proofs.lemmas.Bool.{and_parts, leb-true, false≢true}
use Rattle.std.proofs.lemmas.Bool.Decides.{nat_tests}
use Rattle.std.proofs.lemmas.List.{length-take, length-drop}
use Rattle.vi_bytes.specs.Parts.{IsTransfer, part_count, part_start, nth_part}
use Rattle.vi_bytes.specs.declared.region.EndpointSetup.{EndpointSetup}
use Rattle.vi_bytes.proofs.PartLemmas.{one-le-nth_part, nth_part-end}
use Rattle.vi_history.specs.declared.call.Call.{Call}
use Rattle.vi_history.specs.declared.call.Call.TheVariants as call
use Rattle.vi_history.specs.declared.call.Caller.{Caller}
use Rattle.vi_history.specs.declared.call.Caller.TheVariants.{Driver, Back}
use Rattle.vi_history.specs.declared.setup.Setup.{Setup}
use Rattle.vi_plain.specs.Kept.{IsGranule}
use Rattle.vi_plain.specs.Conditions.{HasFewRegions, IsPlainSetup, IsInOnePage, IsPlainCall}
use Rattle.vi_lines.specs.declared.job.Job.{Job}
use Rattle.vi_lines.specs.declared.job.Job.TheVariants as job
use Rattle.vi_lines.specs.declared.line.Line.{Line}
use Rattle.vi_lines.specs.Calls.{TransfersWell, call_in, driver_call, back_call, part_bytes, parts_of}
use Rattle.vi_lines.specs.Rules.{job_runs_over}
use Rattle.vi_lines.specs.Limits.{is_job, is_granule}
use Rattle.vi_lines.specs.Value.{ScriptValue}
use Rattle.vi_lines.proofs.TransferLemmas.{HasTransfers-from_valid}
use Rattle.vi_lines.specs.Valid.{IsValid, IsValidSetup, AreEndpoints, is_line, is_caller_in, does}
use Rattle.vi_commands.specs.Made.{IsCaller, IsTaken}

list_all_here : {X : Type 0} (p : X → Bool) (xs : List X) (i : ℕ) (d : X) → list_all p xs ≡ true → i < length xs → p (get_or xs i d) ≡ true
list_all_here p [] i d all within = absurd (omega arith)
list_all_here p (x ∷ xs) zero d all within = (and_parts (p x) (list_all p xs) all).0
list_all_here p (x ∷ xs) (suc i) d all within = list_all_here p xs i d (and_parts (p x) (list_all p xs) all).1 (omega arith)

-- a part of a transfer lies in one page
in_one_page : (iova len k : ℕ) → IsTransfer iova len → 1 ≤ k → k ≤ part_count iova len → IsInOnePage (nth_part iova len k)
in_one_page iova len k t first last = record {
  some = one-le-nth_part iova len k t.some first last;
  ends = omega (arith, one-le-nth_part iova len k t.some first last);
}

-- the bytes of a write's part are as many as the part has
part_bytes-length : (iova : ℕ) (bytes : List ℕ) (k : ℕ) → IsTransfer iova (length bytes) → 1 ≤ k → k ≤ part_count iova (length bytes) → length (part_bytes iova bytes k) ≡ (nth_part iova (length bytes) k).len
part_bytes-length iova bytes k t first last =
    omega (arith, length-take (nth_part iova (length bytes) k).len (drop (part_start iova k) bytes), length-drop (part_start iova k) bytes, nth_part-end iova (length bytes) k first last, one-le-nth_part iova (length bytes) k t.some first last)

driver_plain : (j : Job) (c : Call) → is_job j ≡ true → driver_call j ≡ Some c → IsPlainCall c
driver_plain (job.Ask request) c fits is = let same : call.Ask request ≡ c = cc in subst IsPlainCall same tt
driver_plain (job.Raw read write) c fits is =
    let small : length read ≤ 1024 = leb-true (length read) 1024 (and_parts (nat_le (length read) 1024) (nat_le write 1024 && nat_lt 0 (length read + write)) fits).0 in
    let below : length read < 2 ^ 32 - 1 = omega (arith, small) in
    let same : call.Raw read write ≡ c = cc in
    subst IsPlainCall same below
driver_plain (job.Bypass on) c fits is = let same : call.Bypass on ≡ c = cc in subst IsPlainCall same tt
driver_plain (job.Read iova len) c fits is = absurd (cc is)
driver_plain (job.Write iova bytes) c fits is = absurd (cc is)

back_plain : (endpoint : ℕ) (j : Job) (k : ℕ) (c : Call) → TransfersWell j → 1 ≤ k → k ≤ parts_of j → back_call endpoint j k ≡ Some c → IsPlainCall c
back_plain endpoint (job.Ask request) k c t first last is = absurd (cc is)
back_plain endpoint (job.Raw read write) k c t first last is = absurd (cc is)
back_plain endpoint (job.Bypass on) k c t first last is = absurd (cc is)
back_plain endpoint (job.Read iova len) k c t first last is =
    let same : call.Read endpoint (nth_part iova len k) ≡ c = cc in
    subst IsPlainCall same (in_one_page iova len k t first last)
back_plain endpoint (job.Write iova bytes) k c t first last is =
    let same : call.Write endpoint (nth_part iova (length bytes) k) (part_bytes iova bytes k) ≡ c = cc in
    subst IsPlainCall same (in_one_page iova (length bytes) k t first last, part_bytes-length iova bytes k t first last)

line_plain : (caller : Caller) (l : Line) (part : ℕ) (c : Call) → is_job l.job ≡ true → TransfersWell l.job → call_in caller part (Some l) ≡ Some c → IsPlainCall c
line_plain (Driver number) l part c fits t is = go (nat_eq part 0) is
  where
    go : (b : Bool) → cond b (driver_call l.job) None ≡ Some c → IsPlainCall c
    go true e = driver_plain l.job c fits e
    go false e = absurd (cc e)
line_plain (Back endpoint) l part c fits t is = go (nat_le 1 part && nat_le part (parts_of l.job)) refl is
  where
    go : (b : Bool) → (nat_le 1 part && nat_le part (parts_of l.job)) ≡ b → cond b (back_call endpoint l.job part) None ≡ Some c → IsPlainCall c
    go true within e =
        let bounds = and_parts (nat_le 1 part) (nat_le part (parts_of l.job)) within in
        back_plain endpoint l.job part c t (leb-true 1 part bounds.0) (leb-true part (parts_of l.job) bounds.1) e
    go false within e = absurd (cc e)

caller_in : (es : List EndpointSetup) (caller : Caller) → is_caller_in es caller ≡ true → IsCaller caller
caller_in es (Driver number) is = leb-true number 7 is
caller_in es (Back endpoint) is = tt

-- each line of a valid script is taken
pub IsTaken-from_line : (es : List EndpointSetup) (l : Line) → is_line es l ≡ true → TransfersWell l.job → IsTaken l
IsTaken-from_line es l h t =
    let few = nat_le (length l.awaits) 16 in
    let a = and_parts (is_caller_in es l.caller) (does l.caller l.add l.job && (is_job l.job && (not (job_runs_over l.job) && few))) h in
    let b = and_parts (does l.caller l.add l.job) (is_job l.job && (not (job_runs_over l.job) && few)) a.1 in
    let c = and_parts (is_job l.job) (not (job_runs_over l.job) && few) b.1 in
    record { transfers = t; caller = caller_in es l.caller a.0; calls = λ part d is. line_plain l.caller l part d c.0 t is }

granule_pages : (granule : ℕ) → is_granule granule ≡ true → IsGranule granule
granule_pages granule fits = go (granule == 4096) (granule == 16384) (granule == 65536) refl refl refl fits
  where
    go : (a b c : Bool) → (granule == 4096) ≡ a → (granule == 16384) ≡ b → (granule == 65536) ≡ c → (a || (b || c)) ≡ true → IsGranule granule
    go true b c e f g some = let same : granule ≡ 4096 = grind (arith, nat_tests) in record { some = omega (arith, same); pages = ap (λ n. n % 4096) same }
    go false true c e f g some = let same : granule ≡ 16384 = grind (arith, nat_tests) in record { some = omega (arith, same); pages = ap (λ n. n % 4096) same }
    go false false true e f g some = let same : granule ≡ 65536 = grind (arith, nat_tests) in record { some = omega (arith, same); pages = ap (λ n. n % 4096) same }
    go false false false e f g some = absurd (false≢true some)

few_regions : (granule : ℕ) (es : List EndpointSetup) → AreEndpoints granule es → All HasFewRegions es
few_regions granule [] each k d below = absurd (omega arith)
few_regions granule (e ∷ es) each zero d below = each.0.few
few_regions granule (e ∷ es) each (suc k) d below = few_regions granule es each.2 k d (omega arith)

-- a valid setup is one that a plain device is made of
pub IsPlainSetup-from_valid : (s : Setup) → IsValidSetup s → IsPlainSetup s
IsPlainSetup-from_valid s v = record { granule = granule_pages s.granule v.granule_fits; regions = few_regions s.granule s.endpoints v.endpoints_each }

-- the line at this place
pub IsTaken-at : (s : ScriptValue) → IsValid s → (i : ℕ) (l : Line) → i < length s.lines → l ≡ get_or s.lines i l → IsTaken l
IsTaken-at s v i l within is =
    let lines = list_all_here (λ (k : Line). is_line s.setup.endpoints k) s.lines i l v.lines_each within in
    let transfers : TransfersWell (get_or s.lines i l).job = HasTransfers-from_valid s v i l within in
    subst IsTaken (sym is) (IsTaken-from_line s.setup.endpoints (get_or s.lines i l) lines transfers)

-- a line of this list, which is that of the script
pub IsTaken-among : (s : ScriptValue) → IsValid s → (lines : List Line) → lines ≡ s.lines → (i : ℕ) (l : Line) → i < length lines → l ≡ get_or lines i l → IsTaken l
IsTaken-among s v lines same i l within is = IsTaken-at s v i l (subst (λ (ls : List Line). i < length ls) same within) (subst (λ (ls : List Line). l ≡ get_or ls i l) same is)
