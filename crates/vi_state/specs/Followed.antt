-- A state that follows a history: what it needs of its setup and of a call, and what it is afterwards.
use Rattle.std.specs.Prelude.{◌≡◌, ◌==◌, ℕ, ◌+◌, ◌-◌, ◌%◌, ◌^◌, ◌<◌, ◌≤◌, if◌then◌else◌, length, IsSome}
use Rattle.vi_bytes.specs.declared.part.Part.{Part}
use Rattle.vi_bytes.specs.declared.span.TheConstants.{PAGE}
use Rattle.vi_device.specs.Values.{IsSetup}
use Rattle.vi_history.specs.Device.{One, endpoint_of}
use Rattle.vi_history.specs.Replies.{next}
use Rattle.vi_history.specs.Requests.{reading}
use Rattle.vi_history.specs.declared.call.Call.{Call}
use Rattle.vi_history.specs.declared.call.Call.TheVariants as call
use Rattle.vi_history.specs.declared.entry.Entry.{Entry}
use Rattle.vi_history.specs.declared.reading.Reading.{Reading}
use Rattle.vi_history.specs.declared.reading.Reading.TheVariants.{Silent, Malformed, Asks}
use Rattle.vi_history.specs.declared.request.Request.{Request}
use Rattle.vi_history.specs.declared.request.Request.TheVariants.{Attach, Detach, Map, Unmap, Probe}
use Rattle.vi_history.specs.declared.setup.Setup.{Setup}
use Rattle.vi_history.specs.declared.status.TheConstants.{OK}

-- the device with the memory, and how many more mappings there is room for
pub record StateValue : Type 0 where
  pub one : One
  pub spare : ℕ

-- a setup that the device takes, with a granule of whole pages
pub record IsFollowedSetup (s : Setup) : Type 0 where
  pub setup : IsSetup s
  pub granule : s.granule % PAGE ≡ 0

-- the part has a byte, and ends in the page that it begins in
pub record IsInOnePage (part : Part) : Type 0 where
  pub some : 1 ≤ part.len
  pub ends : part.iova % PAGE + part.len ≤ PAGE

-- a request has as many bytes as a virtqueue can carry
abbrev pub IsCarried : Call → Type 0
IsCarried (call.Ask request) = Unit {0}
IsCarried (call.Raw read write) = length read < 2 ^ 32 - 1
IsCarried (call.Bypass on) = Unit {0}
IsCarried (call.Read endpoint part) = Unit {0}
IsCarried (call.Write endpoint part bytes) = Unit {0}

-- An access is by a declared endpoint and stays within one page, and a write has as many bytes as its part. A
-- request may be of any bytes that a virtqueue can carry.
abbrev pub IsFollowed : One → Call → Type 0
IsFollowed one (call.Ask request) = Unit {0}
IsFollowed one (call.Raw read write) = length read < 2 ^ 32 - 1
IsFollowed one (call.Bypass on) = Unit {0}
IsFollowed one (call.Read endpoint part) = IsSome (endpoint_of one.dev endpoint) × IsInOnePage part
IsFollowed one (call.Write endpoint part bytes) = IsSome (endpoint_of one.dev endpoint) × IsInOnePage part × (length bytes ≡ part.len)

-- how many mappings a request makes that is answered with OK: one, if it is a MAP
abbrev pub maps_of : Request → ℕ
maps_of (Attach domain endpoint flags) = 0
maps_of (Detach domain endpoint) = 0
maps_of (Map domain first last target flags) = 1
maps_of (Unmap domain first last) = 0
maps_of (Probe endpoint) = 0

abbrev pub maps_read : Reading → ℕ
maps_read Silent = 0
maps_read (Malformed probe) = 0
maps_read (Asks request) = maps_of request

abbrev pub maps_asked : Call → ℕ
maps_asked (call.Ask request) = maps_of request
maps_asked (call.Raw read write) = maps_read (reading read write)
maps_asked (call.Bypass on) = 0
maps_asked (call.Read endpoint part) = 0
maps_asked (call.Write endpoint part bytes) = 0

-- as many as were asked for, if the answer is this code
abbrev pub maps_if : ℕ → ℕ → ℕ
maps_if code asked = if code == OK then asked else 0

-- how many mappings a call made that was answered so
abbrev pub maps_made : Call → Entry → ℕ
maps_made c h = maps_if h.mark.code (maps_asked c)

-- the call is a MAP, raw or not, and took effect
abbrev pub IsMapDone : Call → Entry → Type 0
IsMapDone c h = maps_made c h ≡ 1

-- the state after a call that was answered so
abbrev pub followed : StateValue → Call → Entry → StateValue
followed s c h = record { one = next s.one c; spare = s.spare - maps_made c h }
