-- What the one-thread device replies to a call, and what it is afterwards. It looks a mapping up at every
-- access, and knows no cache, message, lock or thread.
use Rattle.std.specs.Prelude.{ℕ, ◌+◌, ◌/◌, ◌%◌, if◌then◌else◌, List, [], ◌++◌, length, take, drop, replicate, Option, Some, None, get_or, set}
use Rattle.vi_bytes.specs.Properties.{property_bytes}
use Rattle.vi_bytes.specs.declared.span.TheConstants.{PAGE}
use Rattle.vi_bytes.specs.declared.lease.Need.TheVariants as need
use Rattle.vi_history.specs.Device.{Dev, One, Endpoint, endpoint_of}
use Rattle.vi_history.specs.Requests.{reading}
use Rattle.vi_history.specs.declared.reading.Reading.{Reading}
use Rattle.vi_history.specs.declared.reading.Reading.TheVariants.{Silent, Malformed, Asks}
use Rattle.vi_history.specs.Statuses.{status}
use Rattle.vi_history.specs.Effects.{commit, with_bypass}
use Rattle.vi_history.specs.Translation.{translate}
use Rattle.vi_history.specs.declared.status.TheConstants.{INVAL}
use Rattle.vi_history.specs.declared.found.Found.{Found}
use Rattle.vi_history.specs.declared.found.Found.TheVariants as found
use Rattle.vi_history.specs.declared.request.Request.{Request}
use Rattle.vi_history.specs.declared.request.Request.TheVariants.{Attach, Detach, Map, Unmap, Probe}
use Rattle.vi_history.specs.declared.call.Call.{Call}
use Rattle.vi_history.specs.declared.call.Call.TheVariants as call
use Rattle.vi_history.specs.declared.entry.Kind.{Kind}
use Rattle.vi_history.specs.declared.entry.Kind.TheVariants as kind

-- an answer: its kind, the status or the reason, and the bytes
pub record Answer : Type 0 where
  pub kind : Kind
  pub code : ℕ
  pub bytes : List ℕ

abbrev pub status_answer : ℕ → Answer
status_answer code = record { kind = kind.Status; code = code; bytes = [] }

abbrev pub probed_answer : ℕ → List ℕ → Answer
probed_answer code bytes = record { kind = kind.Probed; code = code; bytes = bytes }

abbrev pub nothing_answer : Answer
nothing_answer = record { kind = kind.Nothing; code = 0; bytes = [] }

abbrev pub set_answer : Answer
set_answer = record { kind = kind.Set; code = 0; bytes = [] }

abbrev pub read_answer : List ℕ → Answer
read_answer bytes = record { kind = kind.Read; code = 0; bytes = bytes }

abbrev pub wrote_answer : Answer
wrote_answer = record { kind = kind.Wrote; code = 0; bytes = [] }

abbrev pub fault_answer : ℕ → Answer
fault_answer reason = record { kind = kind.Fault; code = reason; bytes = [] }

-- 512 bytes without a property
unfoldable pub no_properties : List ℕ
no_properties = replicate 512 0

-- the properties of an endpoint (Virtio 1.2, 5.13.6.8), none for an unknown one
abbrev pub properties_of : Option Endpoint → List ℕ
properties_of None = no_properties
properties_of (Some x) = property_bytes x.regions

unfoldable pub properties : Dev → ℕ → List ℕ
properties dev endpoint = properties_of (endpoint_of dev endpoint)

-- the answer to a request: its status, and for a PROBE the properties
abbrev pub request_answer : Dev → Request → Answer
request_answer dev (Attach domain endpoint flags) = status_answer (status dev (Attach domain endpoint flags))
request_answer dev (Detach domain endpoint) = status_answer (status dev (Detach domain endpoint))
request_answer dev (Map domain first last target flags) = status_answer (status dev (Map domain first last target flags))
request_answer dev (Unmap domain first last) = status_answer (status dev (Unmap domain first last))
request_answer dev (Probe endpoint) = probed_answer (status dev (Probe endpoint)) (properties dev endpoint)

-- the answer to what bytes come to
abbrev pub reading_answer : Dev → Reading → Answer
reading_answer dev Silent = nothing_answer
reading_answer dev (Malformed probe) = if probe then probed_answer INVAL no_properties else status_answer INVAL
reading_answer dev (Asks request) = request_answer dev request

-- the device after them
abbrev pub reading_commit : Dev → Reading → Dev
reading_commit dev Silent = dev
reading_commit dev (Malformed probe) = dev
reading_commit dev (Asks request) = commit dev request

-- the bytes of a page
abbrev pub page_at : List (List ℕ) → ℕ → List ℕ
page_at memory page = get_or memory page []

-- the bytes of a page with these in the place of as many from an offset on
abbrev pub written : List ℕ → ℕ → List ℕ → List ℕ
written page offset bytes = take offset page ++ bytes ++ drop (offset + length bytes) page

-- a read by where its first address leads: the bytes there
abbrev pub read_at : List (List ℕ) → ℕ → Found → Answer
read_at memory len (found.At target) = read_answer (take len (drop (target % PAGE) (page_at memory (target / PAGE))))
read_at memory len (found.Fault reason) = fault_answer reason

-- a write by where its first address leads
abbrev pub write_at : Found → Answer
write_at (found.At target) = wrote_answer
write_at (found.Fault reason) = fault_answer reason

-- the memory after it
abbrev pub memory_after_write : List (List ℕ) → List ℕ → Found → List (List ℕ)
memory_after_write memory bytes (found.At target) = set memory (target / PAGE) (written (page_at memory (target / PAGE)) (target % PAGE) bytes)
memory_after_write memory bytes (found.Fault reason) = memory

-- the reply of the one-thread device to a call
unfoldable pub reply : One → Call → Answer
reply one (call.Ask request) = request_answer one.dev request
reply one (call.Raw read write) = reading_answer one.dev (reading read write)
reply one (call.Bypass on) = set_answer
reply one (call.Read endpoint part) = read_at one.memory part.len (translate one.dev endpoint part.iova need.Read)
reply one (call.Write endpoint part bytes) = write_at (translate one.dev endpoint part.iova need.Write)

-- the device and the memory after it
unfoldable pub next : One → Call → One
next one (call.Ask request) = record one { dev = commit one.dev request }
next one (call.Raw read write) = record one { dev = reading_commit one.dev (reading read write) }
next one (call.Bypass on) = record one { dev = with_bypass one.dev on }
next one (call.Read endpoint part) = one
next one (call.Write endpoint part bytes) = record one { memory = memory_after_write one.memory bytes (translate one.dev endpoint part.iova need.Write) }
