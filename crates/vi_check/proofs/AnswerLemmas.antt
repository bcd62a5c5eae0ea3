-- Answers that are one, and what a fault is an answer to.
use Rattle.std.proofs.Common.{◌≡◌, ℕ, ◌≤◌, ◌==◌, ◌&&◌, Bool, true, false, not, cond, List, Option, Some, None, refl, sym, ap, ◌∙◌, lit≤}
use Rattle.std.specs.Prelude.{find}
use Rattle.std.specs.List.{list_any}
use Rattle.std.specs.Str.{bytes_eq}
use Rattle.std.proofs.lemmas.Bool.{and_parts, eqb-true, eq-eqb, false≢true}
use Rattle.std.proofs.lemmas.Slice.Eq.{bytes_eq-Decides}
use Rattle.vi_bytes.specs.Spans.{has}
use Rattle.vi_bytes.specs.declared.lease.Mapping.{Mapping}
use Rattle.vi_bytes.specs.declared.region.Region.{Region}
use Rattle.vi_bytes.specs.declared.region.Membership.{Membership}
use Rattle.vi_bytes.specs.declared.region.Membership.TheVariants.{Unattached, Member}
use Rattle.vi_bytes.specs.declared.lease.Need.{Need}
use Rattle.vi_bytes.specs.declared.lease.Need.TheVariants as need
use Rattle.vi_history.specs.Device.{Dev, One, Domain, Endpoint, endpoint_of, domain_of}
use Rattle.vi_history.specs.Kinds.{is_fault}
use Rattle.vi_history.specs.Replies.{Answer, reply, request_answer, reading_answer, read_at, write_at}
use Rattle.vi_history.specs.Requests.{reading}
use Rattle.vi_history.specs.declared.reading.Reading.{Reading}
use Rattle.vi_history.specs.declared.reading.Reading.TheVariants.{Silent, Malformed, Asks}
use Rattle.vi_history.specs.Translation.{Look, Leads, Nowhere, look, look_of, look_by, look_in_domain, look_in_mapping, permits, is_in_memory, found_for, translate}
use Rattle.vi_history.specs.declared.reason.TheConstants.{MAPPING, UNKNOWN}
use Rattle.vi_history.specs.declared.call.Call.{Call}
use Rattle.vi_history.specs.declared.call.Call.TheVariants as call
use Rattle.vi_history.specs.declared.entry.Kind.{Kind}
use Rattle.vi_history.specs.declared.entry.Kind.TheVariants as kind
use Rattle.vi_history.specs.declared.found.Found.{Found}
use Rattle.vi_history.specs.declared.found.Found.TheVariants as found
use Rattle.vi_history.specs.declared.request.Request.{Request}
use Rattle.vi_history.specs.declared.request.Request.TheVariants as request
use Rattle.vi_check.specs.Answers.{same_kind, same_answer}
use Rattle.vi_check.specs.Seen.{IsAccess}

same_kind-eq : (a b : Kind) → same_kind a b ≡ true → a ≡ b
same_kind-eq kind.Status kind.Status e = refl
same_kind-eq kind.Probed kind.Probed e = refl
same_kind-eq kind.Nothing kind.Nothing e = refl
same_kind-eq kind.Set kind.Set e = refl
same_kind-eq kind.Read kind.Read e = refl
same_kind-eq kind.Wrote kind.Wrote e = refl
same_kind-eq kind.Fault kind.Fault e = refl
same_kind-eq a b e = absurd (false≢true e)

same_kind-self : (a : Kind) → same_kind a a ≡ true
same_kind-self kind.Status = refl
same_kind-self kind.Probed = refl
same_kind-self kind.Nothing = refl
same_kind-self kind.Set = refl
same_kind-self kind.Read = refl
same_kind-self kind.Wrote = refl
same_kind-self kind.Fault = refl

-- answers that compare as one are one
pub same_answer-eq : (a b : Answer) → same_answer a b ≡ true → a ≡ b
same_answer-eq a b e =
    let parts = and_parts (same_kind a.kind b.kind) ((a.code == b.code) && bytes_eq a.bytes b.bytes) e in
    let rest = and_parts (a.code == b.code) (bytes_eq a.bytes b.bytes) parts.1 in
    let k : a.kind ≡ b.kind = same_kind-eq a.kind b.kind parts.0 in
    let c : a.code ≡ b.code = eqb-true a.code b.code rest.0 in
    let bytes : a.bytes ≡ b.bytes = (bytes_eq-Decides a.bytes b.bytes).0 rest.1 in
    ap (λ x. record { kind = x; code = a.code; bytes = a.bytes }) k ∙ (ap (λ x. record { kind = b.kind; code = x; bytes = a.bytes }) c ∙ ap (λ x. record { kind = b.kind; code = b.code; bytes = x }) bytes)

pub same_answer-self : (a : Answer) → same_answer a a ≡ true
same_answer-self a = rw (same_kind-self a.kind, eq-eqb a.code a.code refl, (bytes_eq-Decides a.bytes a.bytes).1 refl) refl

-- the reason of a fault is one of the standard's
abbrev pub HasReason : Look → Type 0
HasReason (Leads target flags) = Unit {0}
HasReason (Nowhere reason) = reason ≤ 2

reason_if : (b : Bool) (x y : Look) → HasReason x → HasReason y → HasReason (cond b x y)
reason_if true x y h k = h
reason_if false x y h k = k

reason_in_mapping : (address : ℕ) (o : Option Mapping) → HasReason (look_in_mapping address o)
reason_in_mapping address None = lit≤ tt
reason_in_mapping address (Some m) = tt

reason_in_domain : (address : ℕ) (regions : List Region) (o : Option Domain) → HasReason (look_in_domain address regions o)
reason_in_domain address regions None = lit≤ tt
reason_in_domain address regions (Some y) =
    reason_if y.bypass _ _ tt (reason_if (list_any (λ r. has r.span address) regions) _ _ (lit≤ tt) (reason_in_mapping address (find (λ m. has m.span address) y.mappings)))

reason_by : (dev : Dev) (address : ℕ) (regions : List Region) (m : Membership) → HasReason (look_by dev address regions m)
reason_by dev address regions Unattached = reason_if dev.bypass _ _ tt (lit≤ tt)
reason_by dev address regions (Member domain) = reason_in_domain address regions (domain_of dev domain)

reason_of : (dev : Dev) (address : ℕ) (o : Option Endpoint) → HasReason (look_of dev address o)
reason_of dev address None = lit≤ tt
reason_of dev address (Some x) = reason_by dev address x.regions x.domain

reason_of_look : (dev : Dev) (endpoint address : ℕ) → HasReason (look dev endpoint address)
unfolding look
reason_of_look dev endpoint address = reason_of dev address (endpoint_of dev endpoint)

-- a fault that is found has such a reason
abbrev pub FaultsSo : Found → Type 0
FaultsSo (found.At target) = Unit {0}
FaultsSo (found.Fault reason) = reason ≤ 2

faults_if : (b : Bool) (x y : Found) → FaultsSo x → FaultsSo y → FaultsSo (cond b x y)
faults_if true x y h k = h
faults_if false x y h k = k

faults_for : (pages : ℕ) (n : Need) (l : Look) → HasReason l → FaultsSo (found_for pages n l)
faults_for pages n (Leads target flags) h =
    faults_if (not (permits n flags)) (found.Fault MAPPING) (cond (not (is_in_memory pages target)) (found.Fault UNKNOWN) (found.At target)) (lit≤ tt)
    (faults_if (not (is_in_memory pages target)) (found.Fault UNKNOWN) (found.At target) (lit≤ tt) tt)
faults_for pages n (Nowhere reason) h = h

faults_so : (dev : Dev) (endpoint address : ℕ) (n : Need) → FaultsSo (translate dev endpoint address n)
faults_so dev endpoint address n = faults_for dev.pages n (look dev endpoint address) (reason_of_look dev endpoint address)

-- a fault answers an access, with such a reason
pub record IsFaultOf (c : Call) (a : Answer) : Type 0 where
  pub access : IsAccess c
  pub reason : a.code ≤ 2

fault_of_read : (memory : List (List ℕ)) (len : ℕ) (f : Found) → FaultsSo f → is_fault (read_at memory len f).kind ≡ true → (read_at memory len f).code ≤ 2
fault_of_read memory len (found.At target) h e = absurd (false≢true e)
fault_of_read memory len (found.Fault reason) h e = h

fault_of_write : (f : Found) → FaultsSo f → is_fault (write_at f).kind ≡ true → (write_at f).code ≤ 2
fault_of_write (found.At target) h e = absurd (false≢true e)
fault_of_write (found.Fault reason) h e = h

no_fault_of_request : (dev : Dev) (r : Request) → is_fault (request_answer dev r).kind ≡ false
no_fault_of_request dev (request.Attach domain endpoint flags) = refl
no_fault_of_request dev (request.Detach domain endpoint) = refl
no_fault_of_request dev (request.Map domain first last target flags) = refl
no_fault_of_request dev (request.Unmap domain first last) = refl
no_fault_of_request dev (request.Probe endpoint) = refl

no_fault_if : (b : Bool) (x y : Answer) → is_fault x.kind ≡ false → is_fault y.kind ≡ false → is_fault (cond b x y).kind ≡ false
no_fault_if true x y h k = h
no_fault_if false x y h k = k

no_fault_of_reading : (dev : Dev) (r : Reading) → is_fault (reading_answer dev r).kind ≡ false
no_fault_of_reading dev Silent = refl
no_fault_of_reading dev (Malformed probe) = no_fault_if probe _ _ refl refl
no_fault_of_reading dev (Asks r) = no_fault_of_request dev r

pub fault_of_reply : (one : One) (c : Call) → is_fault (reply one c).kind ≡ true → IsFaultOf c (reply one c)
unfolding reply
fault_of_reply one (call.Ask r) e = absurd (false≢true (sym (no_fault_of_request one.dev r) ∙ e))
fault_of_reply one (call.Raw read write) e = absurd (false≢true (sym (no_fault_of_reading one.dev (reading read write)) ∙ e))
fault_of_reply one (call.Bypass on) e = absurd (false≢true e)
fault_of_reply one (call.Read endpoint part) e =
    record { access = tt; reason = fault_of_read one.memory part.len _ (faults_so one.dev endpoint part.iova need.Read) e }
fault_of_reply one (call.Write endpoint part bytes) e =
    record { access = tt; reason = fault_of_write _ (faults_so one.dev endpoint part.iova need.Write) e }
