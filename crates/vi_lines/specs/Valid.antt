-- Which scripts are valid, said of the script itself and not of a text.
use Rattle.std.specs.Prelude.{◌≡◌, ◌==◌, ℕ, ◌≤◌, Bool, true, false, not, ◌&&◌, nat_le, List, [], ◌∷◌, ◌++◌, length}
use Rattle.std.specs.List.{list_any, list_all}
use Rattle.vi_bytes.specs.Spans.{IsProper, meets}
use Rattle.vi_bytes.specs.declared.region.Region.{Region}
use Rattle.vi_bytes.specs.declared.region.EndpointSetup.{EndpointSetup}
use Rattle.vi_history.specs.declared.call.Caller.{Caller}
use Rattle.vi_history.specs.declared.call.Caller.TheVariants.{Driver, Back}
use Rattle.vi_history.specs.declared.setup.Setup.{Setup}
use Rattle.vi_lines.specs.declared.job.Job.{Job}
use Rattle.vi_lines.specs.declared.job.Job.TheVariants as job
use Rattle.vi_lines.specs.declared.line.Line.{Line}
use Rattle.vi_lines.specs.declared.line.Who.{Who}
use Rattle.vi_lines.specs.declared.line.Who.TheVariants as who
use Rattle.vi_lines.specs.Value.{ScriptValue}
use Rattle.vi_lines.specs.Rules.{is_aligned, job_runs_over, awaits_well}
use Rattle.vi_lines.specs.Limits.{is_memory, is_queue, is_cache, is_granule, is_job, bytes_in, open_calls}

-- a region has an address and is whole granules
abbrev pub is_region : ℕ → Region → Bool
is_region granule r = nat_le r.span.first r.span.last && is_aligned granule r.span

-- no two of the regions have a common address
abbrev pub AreDisjoint : List Region → Type 0
AreDisjoint [] = Unit {0}
AreDisjoint (r ∷ rs) = (list_any (λ q. meets r.span q.span) rs ≡ false) × AreDisjoint rs

-- an endpoint has at most 16 regions, whole granules without a common address
pub record IsEndpoint (granule : ℕ) (e : EndpointSetup) : Type 0 where
  pub few : length e.regions ≤ 16
  pub regions_each : list_all (λ r. is_region granule r) e.regions ≡ true
  pub disjoint : AreDisjoint e.regions

-- the endpoint of this id is among these
abbrev pub has_endpoint : List EndpointSetup → ℕ → Bool
has_endpoint endpoints id = list_any (λ e. e.id == id) endpoints

-- endpoints, no two with one id
abbrev pub AreEndpoints : ℕ → List EndpointSetup → Type 0
AreEndpoints granule [] = Unit {0}
AreEndpoints granule (e ∷ es) = IsEndpoint granule e × (has_endpoint es e.id ≡ false) × AreEndpoints granule es

-- a setup: numbers within their limits, an input range that isn't empty, at most 16 endpoints
pub record IsValidSetup (s : Setup) : Type 0 where
  pub memory_fits : is_memory s.memory ≡ true
  pub queue_fits : is_queue s.queue ≡ true
  pub cache_fits : is_cache s.cache ≡ true
  pub granule_fits : is_granule s.granule ≡ true
  pub proper : IsProper s.input
  pub few : length s.endpoints ≤ 16
  pub endpoints_each : AreEndpoints s.granule s.endpoints

-- a caller: a driver from 0 to 7, or the back end of a declared endpoint
abbrev pub is_caller_in : List EndpointSetup → Caller → Bool
is_caller_in endpoints (Driver number) = nat_le number 7
is_caller_in endpoints (Back id) = has_endpoint endpoints id

-- a turn: of such a caller, of the device or of the event reader
abbrev pub is_turn_in : List EndpointSetup → Who → Bool
is_turn_in endpoints (who.Driver number) = nat_le number 7
is_turn_in endpoints (who.Back id) = has_endpoint endpoints id
is_turn_in endpoints who.Device = true
is_turn_in endpoints who.Events = true

-- a driver's job is a request or a bypass setting, and only a request may be added; a back end's is a transfer
abbrev pub driver_does : Bool → Job → Bool
driver_does add (job.Ask request) = true
driver_does add (job.Raw read write) = true
driver_does add (job.Bypass on) = not add
driver_does add (job.Read iova len) = false
driver_does add (job.Write iova bytes) = false

abbrev pub back_does : Bool → Job → Bool
back_does add (job.Ask request) = false
back_does add (job.Raw read write) = false
back_does add (job.Bypass on) = false
back_does add (job.Read iova len) = not add
back_does add (job.Write iova bytes) = not add

abbrev pub does : Caller → Bool → Job → Bool
does (Driver number) add j = driver_does add j
does (Back id) add j = back_does add j

-- a line: of a caller that there is, whose job is one of its own, within its limits and within the addresses
abbrev pub is_line : List EndpointSetup → Line → Bool
is_line endpoints l =
    is_caller_in endpoints l.caller && (does l.caller l.add l.job && (is_job l.job && (not (job_runs_over l.job) && nat_le (length l.awaits) 16)))

-- each line awaits lines above it, of other callers, where these lines are above all of them
abbrev pub AwaitAbove : List Line → List Line → Type 0
AwaitAbove above [] = Unit {0}
AwaitAbove above (l ∷ ls) = (list_all (λ a. awaits_well above l.caller a) l.awaits ≡ true) × AwaitAbove (above ++ l ∷ []) ls

-- a script: at most 10,000 lines, 16,777,216 bytes in all transfers, and 8 calls that can be open at once
pub record IsValid (s : ScriptValue) : Type 0 where
  pub setup_valid : IsValidSetup s.setup
  pub turns_each : list_all (λ t. is_turn_in s.setup.endpoints t) s.turns ≡ true
  pub lines_each : list_all (λ l. is_line s.setup.endpoints l) s.lines ≡ true
  pub few : length s.lines ≤ 10000
  pub bytes : bytes_in s.lines ≤ 16777216
  pub calls : open_calls s.lines ≤ 8
  pub awaits_each : AwaitAbove [] s.lines
