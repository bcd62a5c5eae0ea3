-- What a task takes from endpoints, whose ids are known by place.
use Rattle.std.specs.Prelude.{◌≡◌, ◌==◌, ℕ, ◌≤◌, Bool, false, nat_le, if◌then◌else◌, List, length, All, Option, Some, None, IsTrue, IfSome}
use Rattle.std.specs.List.{list_any, position}
use Rattle.std.specs.Option.{option_map}
use Rattle.vi_bytes.specs.Spans.{IsProper}
use Rattle.vi_history.specs.declared.reading.Reading.{Reading}
use Rattle.vi_history.specs.declared.reading.Reading.TheVariants.{Silent, Malformed, Asks}
use Rattle.vi_history.specs.declared.request.Request.{Request}
use Rattle.vi_history.specs.declared.request.Request.TheVariants.{Attach, Detach, Map, Unmap, Probe}
use Rattle.vi_model.specs.declared.task.Task.{Task}
use Rattle.vi_model.specs.declared.task.Task.TheVariants.{Reads, Sets}
use Rattle.vi_model.specs.Tasks.{reach_of}
use Rattle.vi_shoot.specs.declared.what.What.{What}
use Rattle.vi_shoot.specs.declared.what.What.TheVariants as what
use Rattle.vi_removals.specs.Value.{Opened, RemovalsValue}

-- one of the endpoints has this id
abbrev pub has_id : ℕ → List ℕ → Bool
has_id id ids = list_any (λ x. x == id) ids

-- the first place with this id
abbrev pub place_in : List ℕ → ℕ → Option ℕ
place_in ids id = position (λ x. x == id) ids

-- all addresses are taken from the endpoint with this id
abbrev pub from_endpoint : List ℕ → ℕ → Option What
from_endpoint ids id = option_map (λ place. what.Endpoint place) (place_in ids id)

-- the addresses of a range are taken from the endpoints of the domain
abbrev pub from_domain : ℕ → ℕ → ℕ → Option What
from_domain domain first last = if nat_le first last then Some (what.Unmap domain (record { first = first; last = last })) else None

-- An ATTACH and a DETACH take all addresses from their endpoint (Virtio 1.2, 5.13.6.3 and 5.13.6.4), an UNMAP those of
-- its range from the endpoints of its domain (Virtio 1.2, 5.13.6.6), and no other request takes any.
abbrev pub request_what : List ℕ → Request → Option What
request_what ids (Attach domain endpoint flags) = from_endpoint ids endpoint
request_what ids (Detach domain endpoint) = from_endpoint ids endpoint
request_what ids (Map domain first last target flags) = None
request_what ids (Unmap domain first last) = from_domain domain first last
request_what ids (Probe endpoint) = None

abbrev pub reading_what : List ℕ → Reading → Option What
reading_what ids Silent = None
reading_what ids (Malformed probe) = None
reading_what ids (Asks request) = request_what ids request

-- and the bypass field set to off takes all addresses from those in no domain
abbrev pub what_of : List ℕ → Task → Option What
what_of ids (Reads r) = reading_what ids r
what_of ids (Sets on) = if on then None else Some what.BypassOff

-- the request is an ATTACH or a DETACH of one of the endpoints, or an UNMAP of a range with an address
abbrev pub IsTakingRequest : List ℕ → Request → Type 0
IsTakingRequest ids (Attach domain endpoint flags) = IsTrue (has_id endpoint ids)
IsTakingRequest ids (Detach domain endpoint) = IsTrue (has_id endpoint ids)
IsTakingRequest ids (Map domain first last target flags) = ⊥
IsTakingRequest ids (Unmap domain first last) = first ≤ last
IsTakingRequest ids (Probe endpoint) = ⊥

abbrev pub IsTakingReading : List ℕ → Reading → Type 0
IsTakingReading ids Silent = ⊥
IsTakingReading ids (Malformed probe) = ⊥
IsTakingReading ids (Asks request) = IsTakingRequest ids request

-- a task that may take addresses from endpoints: such a request, or the bypass field set to off
abbrev pub IsTaking : List ℕ → Task → Type 0
IsTaking ids (Reads r) = IsTakingReading ids r
IsTaking ids (Sets on) = on ≡ false

-- what is so of every open removal: its task is such a one, it has a flag for each endpoint, and its range, if it has
-- one, has an address
pub record IsOpened (ids : List ℕ) (o : Opened) : Type 0 where
  pub taking : IsTaking ids o.removal.task
  pub places : length o.removal.waits ≡ length ids
  pub proper : IfSome (reach_of o.removal.task) IsProper

-- and of all: there are at most 16 endpoints and 8 removals
pub record AreOpened (v : RemovalsValue) : Type 0 where
  pub endpoints : length v.ids ≤ 16
  pub few : length v.opened ≤ 8
  pub each : All (IsOpened v.ids) v.opened
