-- What a driver asks the device for: what its request's bytes come to, or a setting of the bypass field. And which
-- translations it takes away.
use Rattle.std.specs.Prelude.{◌==◌, ℕ, ◌-◌, ◌^◌, Bool, true, false, not, ◌&&◌, if◌then◌else◌, Option, Some, None}
use Rattle.vi_bytes.specs.Spans.{meets, page_span}
use Rattle.vi_bytes.specs.declared.span.Span.{Span}
use Rattle.vi_bytes.specs.declared.region.Membership.{Membership}
use Rattle.vi_bytes.specs.declared.region.Membership.TheVariants.{Unattached, Member}
use Rattle.vi_history.specs.Device.{Dev, Endpoint, endpoint_of}
use Rattle.vi_history.specs.Requests.{reading}
use Rattle.vi_history.specs.declared.reading.Reading.{Reading}
use Rattle.vi_history.specs.declared.reading.Reading.TheVariants.{Silent, Malformed, Asks}
use Rattle.vi_history.specs.Statuses.{status}
use Rattle.vi_history.specs.Effects.{endpoint_is_in, with_bypass}
use Rattle.vi_history.specs.Replies.{Answer, set_answer, reading_answer, reading_commit}
use Rattle.vi_history.specs.declared.status.TheConstants.{OK}
use Rattle.vi_history.specs.declared.request.Request.{Request}
use Rattle.vi_history.specs.declared.request.Request.TheVariants.{Attach, Detach, Map, Unmap, Probe}
use Rattle.vi_history.specs.declared.call.Call.{Call}
use Rattle.vi_history.specs.declared.call.Call.TheVariants as call
use Rattle.vi_history.specs.declared.call.Caller.TheVariants.{Driver}
use Rattle.vi_lines.specs.Value.{ScriptValue}
use Rattle.vi_lines.specs.Calls.{call_of}
use Rattle.vi_model.specs.declared.task.Task.{Task}
use Rattle.vi_model.specs.declared.task.Task.TheVariants.{Reads, Sets}

-- what a call asks for; an access asks for nothing
abbrev pub task_of : Call → Option Task
task_of (call.Ask request) = Some (Reads (Asks request))
task_of (call.Raw read write) = Some (Reads (reading read write))
task_of (call.Bypass on) = Some (Sets on)
task_of (call.Read endpoint part) = None
task_of (call.Write endpoint part bytes) = None

abbrev pub task_in : Option Call → Option Task
task_in None = None
task_in (Some c) = task_of c

-- what a driver's line asks for
abbrev pub task_at : ScriptValue → ℕ → ℕ → Option Task
task_at s driver line = task_in (call_of s (Driver driver) line 0)

-- the answer of the one-thread device, and the device after it
abbrev pub task_answer : Dev → Task → Answer
task_answer dev (Reads r) = reading_answer dev r
task_answer dev (Sets on) = set_answer

abbrev pub task_commit : Dev → Task → Dev
task_commit dev (Reads r) = reading_commit dev r
task_commit dev (Sets on) = with_bypass dev on

-- A request takes translations away where it is an ATTACH that moves the endpoint, a DETACH or an UNMAP, and its
-- status now is OK.
abbrev pub request_removes : Dev → Request → Bool
request_removes dev (Attach domain endpoint flags) = (status dev (Attach domain endpoint flags) == OK) && not (endpoint_is_in domain (endpoint_of dev endpoint))
request_removes dev (Detach domain endpoint) = status dev (Detach domain endpoint) == OK
request_removes dev (Map domain first last target flags) = false
request_removes dev (Unmap domain first last) = status dev (Unmap domain first last) == OK
request_removes dev (Probe endpoint) = false

abbrev pub reading_removes : Dev → Reading → Bool
reading_removes dev Silent = false
reading_removes dev (Malformed probe) = false
reading_removes dev (Asks request) = request_removes dev request

-- such a request is a removal, and so is the bypass field set to off
unfoldable pub removes : Dev → Task → Bool
removes dev (Reads r) = reading_removes dev r
removes dev (Sets on) = not on

abbrev pub is_in_none : Membership → Bool
is_in_none Unattached = true
is_in_none (Member domain) = false

abbrev pub is_unattached : Option Endpoint → Bool
is_unattached None = true
is_unattached (Some x) = is_in_none x.domain

-- an open UNMAP closes the pages of its range for each endpoint that is now in its domain, and an open ATTACH or
-- DETACH all pages of its endpoint
abbrev pub request_closes : Dev → Request → ℕ → ℕ → Bool
request_closes dev (Attach domain moved flags) endpoint page = endpoint == moved
request_closes dev (Detach domain moved) endpoint page = endpoint == moved
request_closes dev (Map domain first last target flags) endpoint page = false
request_closes dev (Unmap domain first last) endpoint page =
    endpoint_is_in domain (endpoint_of dev endpoint) && meets (record { first = first; last = last }) (page_span page)
request_closes dev (Probe probed) endpoint page = false

abbrev pub reading_closes : Dev → Reading → ℕ → ℕ → Bool
reading_closes dev Silent endpoint page = false
reading_closes dev (Malformed probe) endpoint page = false
reading_closes dev (Asks request) endpoint page = request_closes dev request endpoint page

-- and bypass off all pages of each endpoint that is now in no domain
unfoldable pub closes : Dev → Task → ℕ → ℕ → Bool
closes dev (Reads r) endpoint page = reading_closes dev r endpoint page
closes dev (Sets on) endpoint page = is_unattached (endpoint_of dev endpoint) && not on

-- the addresses of a range, None where it is all
abbrev pub reach_between : ℕ → ℕ → Option Span
reach_between first last = if (first == 0) && (last == 2 ^ 64 - 1) then None else Some (record { first = first; last = last })

-- the addresses that a removal tells back ends to forget: the range of an UNMAP, and else all
abbrev pub request_reach : Request → Option Span
request_reach (Attach domain endpoint flags) = None
request_reach (Detach domain endpoint) = None
request_reach (Map domain first last target flags) = None
request_reach (Unmap domain first last) = reach_between first last
request_reach (Probe endpoint) = None

abbrev pub reading_reach : Reading → Option Span
reading_reach Silent = None
reading_reach (Malformed probe) = None
reading_reach (Asks request) = request_reach request

abbrev pub reach_of : Task → Option Span
reach_of (Reads r) = reading_reach r
reach_of (Sets on) = None

-- the page has an address of them
abbrev pub reaches : Option Span → ℕ → Bool
reaches None page = true
reaches (Some span) page = meets span (page_span page)
