-- What an UNMAP takes away stays away until a MAP brings it back (Virtio 1.2, 5.13.6.6): an access to an address that
-- was unmapped faults.
use Rattle.std.specs.Prelude.{◌≡◌, ◌<◌, ◌≤◌, ℕ, false, List, take, Option, Some, None, slice_get, IsTrue}
use Rattle.vi_history.specs.Device.{Dev, Endpoint, Domain, endpoint_of, domain_of}
use Rattle.vi_history.specs.Requests.{reading}
use Rattle.vi_history.specs.declared.reading.Reading.{Reading}
use Rattle.vi_history.specs.declared.reading.Reading.TheVariants.{Silent, Malformed, Asks}
use Rattle.vi_history.specs.Start.{start}
use Rattle.vi_history.specs.Histories.{after}
use Rattle.vi_history.specs.Kinds.{is_fault}
use Rattle.vi_history.specs.declared.status.TheConstants.{OK}
use Rattle.vi_history.specs.declared.call.Call.{Call}
use Rattle.vi_history.specs.declared.call.Call.TheVariants as call
use Rattle.vi_history.specs.declared.entry.Entry.{Entry}
use Rattle.vi_history.specs.declared.entry.Kind.TheVariants as kind
use Rattle.vi_history.specs.declared.request.Request.{Request}
use Rattle.vi_history.specs.declared.request.Request.TheVariants.{Map, Unmap}
use Rattle.vi_bytes.specs.declared.region.Membership.TheVariants.{Member}
use Rattle.vi_lines.specs.Value.{ScriptValue}
use Rattle.vi_lines.specs.Legal.{AreCalls}

-- the request that these bytes ask
abbrev pub asked_in : Reading → Option Request
asked_in Silent = None
asked_in (Malformed probe) = None
asked_in (Asks request) = Some request

-- the request that a call asks, a raw one by its bytes; a bypass setting and an access ask none
abbrev pub asked : Call → Option Request
asked (call.Ask request) = Some request
asked (call.Raw read write) = asked_in (reading read write)
asked (call.Bypass on) = None
asked (call.Read endpoint part) = None
asked (call.Write endpoint part bytes) = None

-- The call is an access of this endpoint whose part begins at this address. A part lies in one page and is translated at its
-- first address; a mapping is whole pages, and an UNMAP with OK cuts none. So a part that has a byte of a removed mapping
-- begins in the UNMAP's range.
abbrev pub Accesses : ℕ → ℕ → Call → Type 0
Accesses endpoint address (call.Ask request) = ⊥
Accesses endpoint address (call.Raw read write) = ⊥
Accesses endpoint address (call.Bypass on) = ⊥
Accesses endpoint address (call.Read of part) = (of ≡ endpoint) × (part.iova ≡ address)
Accesses endpoint address (call.Write of part bytes) = (of ≡ endpoint) × (part.iova ≡ address)

-- the entry says that a request took effect
abbrev pub IsDone : Entry → Type 0
IsDone h = (h.mark.kind ≡ kind.Status) × (h.mark.code ≡ OK)

-- an UNMAP of this domain took effect, and its range has the address
pub record Unmaps (domain address : ℕ) (c : Call) (h : Entry) : Type 0 where
  pub first : ℕ
  pub last : ℕ
  pub asks : asked c ≡ Some (Unmap domain first last)
  pub done : IsDone h
  pub from : first ≤ address
  pub to : address ≤ last

-- a MAP of this domain took effect, and its range has the address
pub record Maps (domain address : ℕ) (c : Call) (h : Entry) : Type 0 where
  pub first : ℕ
  pub last : ℕ
  pub target : ℕ
  pub flags : ℕ
  pub asks : asked c ≡ Some (Map domain first last target flags)
  pub done : IsDone h
  pub from : first ≤ address
  pub to : address ≤ last

-- the endpoint is in this domain, which isn't a bypass domain
pub record IsTranslatedIn (dev : Dev) (endpoint domain : ℕ) : Type 0 where
  pub member : Endpoint
  pub is_member : endpoint_of dev endpoint ≡ Some member
  pub attached : member.domain ≡ Member domain
  pub joined : Domain
  pub is_joined : domain_of dev domain ≡ Some joined
  pub translates : joined.bypass ≡ false

-- the call and the entry at this place of a history, counted from 0
abbrev pub AreAt : List Call → List Entry → ℕ → Call → Entry → Type 0
AreAt calls entries i c h = (slice_get calls i ≡ Some c) × (slice_get entries i ≡ Some h)

-- Where an UNMAP of a domain took effect, and later an endpoint that is then in this domain, which isn't a bypass
-- domain, accesses an address of the range, the access faults, unless between the two a MAP of the domain took effect
-- that has the address.
unfoldable pub FaultsBehindUnmaps : ScriptValue → List Entry → Type 0
FaultsBehindUnmaps s entries =
    (calls : List Call) → AreCalls s entries calls
    → (i j : ℕ) (unmap access : Call) (h k : Entry) (domain endpoint address : ℕ)
    → i < j → AreAt calls entries i unmap h → AreAt calls entries j access k
    → Unmaps domain address unmap h
    → Accesses endpoint address access
    → IsTranslatedIn (after (start s.setup) (take j calls)).dev endpoint domain
    → ((m : ℕ) (map : Call) (g : Entry) → i < m → m < j → AreAt calls entries m map g → Maps domain address map g → ⊥)
    → IsTrue (is_fault k.mark.kind)
