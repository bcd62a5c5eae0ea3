-- The transfers of a valid script are within their limits and within the addresses.
use Rattle.std.proofs.Common.{◌≡◌, ℕ, zero, suc, ◌+◌, ◌^◌, true, false, not, ◌&&◌, List, [], ◌∷◌, length, arith}
use Rattle.std.specs.Prelude.{nat_le, nat_lt, All}
use Rattle.std.specs.List.{list_all}
use Rattle.std.proofs.lemmas.Bool.{and_parts, leb-true, ltb-false, not-true}
use Rattle.vi_bytes.specs.Parts.{IsTransfer}
use Rattle.vi_bytes.specs.declared.region.EndpointSetup.{EndpointSetup}
use Rattle.vi_lines.specs.declared.job.Job.{Job}
use Rattle.vi_lines.specs.declared.job.Job.TheVariants as job
use Rattle.vi_lines.specs.declared.line.Line.{Line}
use Rattle.vi_lines.specs.Calls.{TransfersWell, HasTransfers}
use Rattle.vi_lines.specs.Rules.{job_runs_over, runs_over}
use Rattle.vi_lines.specs.Limits.{is_job, is_length}
use Rattle.vi_lines.specs.Value.{ScriptValue}
use Rattle.vi_lines.specs.Valid.{IsValid, is_line, is_caller_in, does}

within : (iova len : ℕ) → is_length len ≡ true → runs_over iova len ≡ false → IsTransfer iova len
within iova len fits over =
    let bounds = and_parts (nat_le 1 len) (nat_le len 65536) fits in
    let ends : nat_lt (2 ^ 64) (iova + len) ≡ false = rw fits at over in
    record { some = leb-true 1 len bounds.0; most = leb-true len 65536 bounds.1; ends = ltb-false (2 ^ 64) (iova + len) ends }

transfers_well : (j : Job) → is_job j ≡ true → job_runs_over j ≡ false → TransfersWell j
transfers_well (job.Ask request) fits over = tt
transfers_well (job.Raw read write) fits over = tt
transfers_well (job.Bypass on) fits over = tt
transfers_well (job.Read iova len) fits over = within iova len fits over
transfers_well (job.Write iova bytes) fits over = within iova (length bytes) fits over

line_transfers : (es : List EndpointSetup) (l : Line) → is_line es l ≡ true → TransfersWell l.job
line_transfers es l h =
    let few = nat_le (length l.awaits) 16 in
    let a = and_parts (is_caller_in es l.caller) (does l.caller l.add l.job && (is_job l.job && (not (job_runs_over l.job) && few))) h in
    let b = and_parts (does l.caller l.add l.job) (is_job l.job && (not (job_runs_over l.job) && few)) a.1 in
    let c = and_parts (is_job l.job) (not (job_runs_over l.job) && few) b.1 in
    let d = and_parts (not (job_runs_over l.job)) few c.1 in
    transfers_well l.job c.0 (not-true (job_runs_over l.job) d.0)

all_transfer : (es : List EndpointSetup) (lines : List Line) → list_all (λ l. is_line es l) lines ≡ true → All (λ l. TransfersWell l.job) lines
all_transfer es [] h k d below = absurd (omega arith)
all_transfer es (l ∷ ls) h zero d below = line_transfers es l (and_parts (is_line es l) (list_all (λ l. is_line es l) ls) h).0
all_transfer es (l ∷ ls) h (suc k) d below = all_transfer es ls (and_parts (is_line es l) (list_all (λ l. is_line es l) ls) h).1 k d (omega arith)

pub HasTransfers-from_valid : (s : ScriptValue) → IsValid s → HasTransfers s
HasTransfers-from_valid s v = all_transfer s.setup.endpoints s.lines v.lines_each
