-- Which kind of refusal applies to a line, by what the lines above it say: the first of a fixed order.
use Rattle.std.specs.Prelude.{◌==◌, ℕ, ◌+◌, Bool, true, false, not, ◌&&◌, ◌||◌, nat_lt, nat_le, if◌then◌else◌, List, [], ◌∷◌, ◌++◌, length, Option, Some, None, is_some, Result, Ok, Err}
use Rattle.std.specs.List.{list_any, list_all, find}
use Rattle.vi_bytes.specs.Spans.{meets}
use Rattle.vi_bytes.specs.declared.span.Span.{Span}
use Rattle.vi_bytes.specs.declared.region.Region.{Region}
use Rattle.vi_bytes.specs.declared.region.EndpointSetup.{EndpointSetup}
use Rattle.vi_history.specs.declared.call.Caller.{Caller}
use Rattle.vi_history.specs.declared.call.Caller.TheVariants.{Driver, Back}
use Rattle.vi_script.specs.declared.fault.BadKind.{BadKind}
use Rattle.vi_script.specs.declared.fault.BadKind.TheVariants as bad
use Rattle.vi_lines.specs.declared.job.Job.TheVariants as job
use Rattle.vi_lines.specs.declared.line.Line.{Line}
use Rattle.vi_lines.specs.declared.line.Who.{Who}
use Rattle.vi_lines.specs.declared.line.Who.TheVariants as who
use Rattle.vi_script.specs.Forms.{Form, SetsGranule, Acts}
use Rattle.vi_lines.specs.Limits.{is_memory, is_queue, is_cache, is_granule, is_job, is_driver, transferred, bytes_in, open_calls}
use Rattle.vi_lines.specs.Rules.{is_aligned, job_runs_over, awaits_well}
use Rattle.vi_script.specs.Said.{Said, granule_of}
use Rattle.vi_script.specs.Statements.{Statement, Memory, Queue, Cache, Granule, Input, Bypass, Events, Endpoint, Reserve, Turns, Actor}

-- what was said has an actor line, a region
abbrev pub has_actors : Said → Bool
has_actors above = nat_lt 0 (length above.lines)

abbrev pub has_regions : Said → Bool
has_regions above = list_any (λ e. nat_lt 0 (length e.regions)) above.endpoints

-- Late: a setup line stands below an actor line, or a granule line below a reserve line
abbrev pub is_late : Said → Form → Bool
is_late above (Acts caller act) = false
is_late above (SetsGranule granule) = has_actors above || has_regions above
is_late above _ = has_actors above

-- the endpoint of this id is declared
abbrev pub declares : Said → ℕ → Bool
declares above id = list_any (λ e. e.id == id) above.endpoints

-- Again: a setting is given a second time, or an endpoint declared twice
abbrev pub is_again : Said → Statement → Bool
is_again above (Memory pages) = is_some above.settings.memory
is_again above (Queue size) = is_some above.settings.queue
is_again above (Cache entries) = is_some above.settings.cache
is_again above (Granule granule) = is_some above.settings.granule
is_again above (Input span) = is_some above.settings.input
is_again above (Bypass on) = is_some above.settings.bypass
is_again above (Events on) = is_some above.settings.events
is_again above (Endpoint id) = declares above id
is_again above _ = false

-- a caller that is no back end, or the back end of a declared endpoint
abbrev pub is_declared : Said → Caller → Bool
is_declared above (Driver number) = true
is_declared above (Back id) = declares above id

abbrev pub turn_is_declared : Said → Who → Bool
turn_is_declared above (who.Driver number) = true
turn_is_declared above (who.Back id) = declares above id
turn_is_declared above who.Device = true
turn_is_declared above who.Events = true

-- Endpoint: a region, a turn or a line of an endpoint that isn't declared above
abbrev pub is_undeclared : Said → Statement → Bool
is_undeclared above (Reserve endpoint region) = not (declares above endpoint)
is_undeclared above (Turns turns) = not (list_all (λ t. turn_is_declared above t) turns)
is_undeclared above (Actor l) = not (is_declared above l.caller)
is_undeclared above _ = false

-- the regions of an endpoint
abbrev pub regions_in : Option EndpointSetup → List Region
regions_in None = []
regions_in (Some e) = e.regions

abbrev pub regions_of : Said → ℕ → List Region
regions_of above id = regions_in (find (λ e. e.id == id) above.endpoints)

-- a region is empty, isn't whole granules, or meets another one
abbrev pub is_bad_region : ℕ → List Region → Span → Bool
is_bad_region granule regions span =
    nat_lt span.last span.first || (not (is_aligned granule span) || list_any (λ r. meets r.span span) regions)

-- Span: an input range is empty, a region is bad, or a transfer passes the last address
abbrev pub has_bad_span : Said → Statement → Bool
has_bad_span above (Input span) = nat_lt span.last span.first
has_bad_span above (Reserve endpoint region) = is_bad_region (granule_of above) (regions_of above endpoint) region.span
has_bad_span above (Actor l) = job_runs_over l.job
has_bad_span above _ = false

-- the turn is of a driver beyond 7
abbrev pub turn_is_driver : Who → Bool
turn_is_driver (who.Driver number) = nat_le number 7
turn_is_driver (who.Back id) = true
turn_is_driver who.Device = true
turn_is_driver who.Events = true

-- an actor line is within its limits, and all lines with it are
abbrev pub line_fits : List Line → Line → Bool
line_fits lines l =
    is_driver l.caller && (list_all (λ a. is_driver a.caller) l.awaits && (
    is_job l.job && (nat_le (bytes_in lines + transferred l.job) 16777216 && (
    nat_le (length l.awaits) 16 && nat_le (open_calls (lines ++ l ∷ [])) 8))))

-- a statement is within its limits
abbrev pub is_within : Said → Statement → Bool
is_within above (Memory pages) = is_memory pages
is_within above (Queue size) = is_queue size
is_within above (Cache entries) = is_cache entries
is_within above (Granule granule) = is_granule granule
is_within above (Endpoint id) = nat_lt (length above.endpoints) 16
is_within above (Reserve endpoint region) = nat_lt (length (regions_of above endpoint)) 16
is_within above (Turns turns) = list_all (λ t. turn_is_driver t) turns
is_within above (Actor l) = line_fits above.lines l
is_within above _ = true

-- Limit: the statement or its line is beyond a limit; a text has at most 10,000 lines
abbrev pub is_beyond : Said → ℕ → Statement → Bool
is_beyond above number s = nat_lt 10000 number || not (is_within above s)

-- After: an awaited line isn't above, or is of the same caller
abbrev pub awaits_badly : Said → Statement → Bool
awaits_badly above (Actor l) = not (list_all (λ a. awaits_well above.lines l.caller a) l.awaits)
awaits_badly above _ = false

-- a statement is taken, or the first of these kinds applies to it
abbrev pub taken : Said → ℕ → Statement → Result Statement BadKind
taken above number s =
    if is_again above s then Err bad.Again else (
    if is_undeclared above s then Err bad.Endpoint else (
    if has_bad_span above s then Err bad.Span else (
    if is_beyond above number s then Err bad.Limit else (
    if awaits_badly above s then Err bad.After else Ok s))))
