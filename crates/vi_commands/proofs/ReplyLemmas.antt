-- Which replies are faults, and what is kept of the entries while calls are replied to.
use Rattle.std.proofs.Common.{◌≡◌, Option, ℕ, zero, suc, ◌+◌, ◌≤◌, Bool, true, false, not, cond, List, [], ◌∷◌, ◌++◌, length, All, Some, None, refl, sym, ap, ◌∙◌, arith, length-append}
use Rattle.std.proofs.lemmas.Bool.{false≢true}
use Rattle.vi_bytes.proofs.FaultRecordLemmas.{length-fault_record}
use Rattle.vi_bytes.specs.declared.lease.Need.{Need}
use Rattle.vi_bytes.specs.declared.lease.Need.TheVariants as need
use Rattle.vi_bytes.specs.declared.region.Membership.{Membership}
use Rattle.vi_bytes.specs.declared.region.Membership.TheVariants.{Unattached, Member}
use Rattle.vi_bytes.specs.declared.region.Region.{Region}
use Rattle.vi_bytes.specs.declared.lease.Mapping.{Mapping}
use Rattle.vi_history.specs.Device.{One, Dev, Endpoint, Domain, endpoint_of, domain_of}
use Rattle.vi_history.specs.Histories.{answer_of}
use Rattle.vi_history.specs.declared.call.Caller.{Caller}
use Rattle.vi_history.specs.Kinds.{is_fault}
use Rattle.vi_history.specs.Records.{record_of}
use Rattle.vi_history.specs.Replies.{Answer, reply, request_answer, reading_answer, read_at, write_at}
use Rattle.vi_history.specs.Requests.{reading}
use Rattle.vi_history.specs.declared.reading.Reading.{Reading}
use Rattle.vi_history.specs.declared.reading.Reading.TheVariants.{Silent, Malformed, Asks}
use Rattle.vi_history.specs.Translation.{Look, Leads, Nowhere, look, look_of, look_by, look_in_domain, look_in_mapping, found_for, permits, is_in_memory, translate}
use Rattle.vi_history.specs.Outcomes.{HasPart, HasBytes, IsEntry, NamesEntry}
use Rattle.vi_history.specs.declared.call.Call.{Call}
use Rattle.vi_history.specs.declared.call.Call.TheVariants as call
use Rattle.vi_history.specs.declared.found.Found.{Found}
use Rattle.vi_history.specs.declared.found.Found.TheVariants as found
use Rattle.vi_history.specs.declared.entry.Entry.{Entry}
use Rattle.vi_history.specs.declared.outcome.Shown.{Shown}
use Rattle.vi_history.specs.declared.request.Request.{Request}
use Rattle.vi_history.specs.declared.request.Request.TheVariants.{Attach, Detach, Map, Unmap, Probe}
use Rattle.std.specs.List.{list_any, find}
use Rattle.vi_bytes.specs.Spans.{has}
use Rattle.vi_commands.specs.Made.{AreMade}

-- the reason of a fault is one of three
abbrev pub HasReason : Found → Type 0
HasReason (found.At target) = Unit {0}
HasReason (found.Fault reason) = reason ≤ 2

abbrev IsReasonOf : Look → Type 0
IsReasonOf (Leads target flags) = Unit {0}
IsReasonOf (Nowhere reason) = reason ≤ 2

mapping_reason : (address : ℕ) (m : Option Mapping) → IsReasonOf (look_in_mapping address m)
mapping_reason address None = omega arith
mapping_reason address (Some m) = tt

domain_reason : (address : ℕ) (regions : List Region) (y : Option Domain) → IsReasonOf (look_in_domain address regions y)
domain_reason address regions None = omega arith
domain_reason address regions (Some y) = go y.bypass (list_any (λ r. has r.span address) regions)
  where
    go : (bypass reserved : Bool) → IsReasonOf (cond bypass (Leads address 3) (cond reserved (Nowhere 2) (look_in_mapping address (find (λ m. has m.span address) y.mappings))))
    go true reserved = tt
    go false true = omega arith
    go false false = mapping_reason address (find (λ m. has m.span address) y.mappings)

by_reason : (dev : Dev) (address : ℕ) (regions : List Region) (membership : Membership) → IsReasonOf (look_by dev address regions membership)
by_reason dev address regions Unattached = go dev.bypass
  where
    go : (bypass : Bool) → IsReasonOf (cond bypass (Leads address 3) (Nowhere 1))
    go true = tt
    go false = omega arith
by_reason dev address regions (Member domain) = domain_reason address regions (domain_of dev domain)

of_reason : (dev : Dev) (address : ℕ) (x : Option Endpoint) → IsReasonOf (look_of dev address x)
of_reason dev address None = omega arith
of_reason dev address (Some x) = by_reason dev address x.regions x.domain

for_reason : (pages : ℕ) (n : Need) (l : Look) → IsReasonOf l → HasReason (found_for pages n l)
for_reason pages n (Nowhere reason) is = is
for_reason pages n (Leads target flags) is = go (not (permits n flags)) (not (is_in_memory pages target))
  where
    go : (denied outside : Bool) → HasReason (cond denied (found.Fault 2) (cond outside (found.Fault 0) (found.At target)))
    go true outside = omega arith
    go false true = omega arith
    go false false = tt

translate_reason : (dev : Dev) (endpoint address : ℕ) (n : Need) → HasReason (translate dev endpoint address n)
unfolding look
translate_reason dev endpoint address n = for_reason dev.pages n (look dev endpoint address) (of_reason dev address (endpoint_of dev endpoint))

read_reason : (memory : List (List ℕ)) (len : ℕ) (f : Found) → HasReason f → is_fault (read_at memory len f).kind ≡ true → (read_at memory len f).code ≤ 2
read_reason memory len (found.At target) reason fault = absurd (false≢true fault)
read_reason memory len (found.Fault reason) is fault = is

write_reason : (f : Found) → HasReason f → is_fault (write_at f).kind ≡ true → (write_at f).code ≤ 2
write_reason (found.At target) reason fault = absurd (false≢true fault)
write_reason (found.Fault reason) is fault = is

request_kind : (dev : Dev) (r : Request) → is_fault (request_answer dev r).kind ≡ false
request_kind dev (Attach domain endpoint flags) = refl
request_kind dev (Detach domain endpoint) = refl
request_kind dev (Map domain first last target flags) = refl
request_kind dev (Unmap domain first last) = refl
request_kind dev (Probe endpoint) = refl

malformed_kind : (dev : Dev) (probe : Bool) → is_fault (reading_answer dev (Malformed probe)).kind ≡ false
malformed_kind dev true = refl
malformed_kind dev false = refl

reading_kind : (dev : Dev) (r : Reading) → is_fault (reading_answer dev r).kind ≡ false
reading_kind dev Silent = refl
reading_kind dev (Malformed probe) = malformed_kind dev probe
reading_kind dev (Asks request) = request_kind dev request

-- a fault has one of three reasons
pub fault_reason : (one : One) (c : Call) → is_fault (reply one c).kind ≡ true → (reply one c).code ≤ 2
unfolding reply
fault_reason one (call.Ask request) fault = absurd (false≢true (sym (request_kind one.dev request) ∙ fault))
fault_reason one (call.Raw read write) fault = absurd (false≢true (sym (reading_kind one.dev (reading read write)) ∙ fault))
fault_reason one (call.Bypass on) fault = absurd (false≢true fault)
fault_reason one (call.Read endpoint part) fault = read_reason one.memory part.len (translate one.dev endpoint part.iova need.Read) (translate_reason one.dev endpoint part.iova need.Read) fault
fault_reason one (call.Write endpoint part bytes) fault = write_reason (translate one.dev endpoint part.iova need.Write) (translate_reason one.dev endpoint part.iova need.Write) fault

-- no call without a record faults
pub no_record-no_fault : (one : One) (c : Call) (reason : ℕ) → record_of reason c ≡ [] → is_fault (reply one c).kind ≡ false
unfolding reply
no_record-no_fault one (call.Ask request) reason none = request_kind one.dev request
no_record-no_fault one (call.Raw read write) reason none = reading_kind one.dev (reading read write)
no_record-no_fault one (call.Bypass on) reason none = refl
no_record-no_fault one (call.Read endpoint part) reason none = absurd (omega (arith, length-fault_record reason need.Read endpoint part.iova, ap length none))
no_record-no_fault one (call.Write endpoint part bytes) reason none = absurd (omega (arith, length-fault_record reason need.Write endpoint part.iova, ap length none))

All-more : {X : Type 0} (P : X → Type 0) (xs : List X) (x : X) → All P xs → P x → All P (xs ++ x ∷ [])
All-more P [] x all one zero d below = one
All-more P [] x all one (suc k) d below = absurd (omega arith)
All-more P (y ∷ ys) x all one zero d below = all zero d (omega arith)
All-more P (y ∷ ys) x all one (suc k) d below = All-more P ys x (λ i e lt. all (suc i) e (omega arith)) one k d (omega arith)

All-weaker : {X : Type 0} (P Q : X → Type 0) → ((x : X) → P x → Q x) → (xs : List X) → All P xs → All Q xs
All-weaker P Q imp xs all k d below = imp _ (all k d below)

-- one entry more
pub AreMade-entry : (entries : List Entry) (shown : List Shown) (h : Entry) → AreMade entries shown → IsEntry h → AreMade (entries ++ h ∷ []) shown
AreMade-entry entries shown h made is =
    let longer : length (entries ++ h ∷ []) ≡ length entries + 1 = length-append entries (h ∷ []) in
    record {
      entries_each = All-more IsEntry entries h made.entries_each is;
      shown_each = All-weaker (NamesEntry (length entries)) (NamesEntry (length (entries ++ h ∷ []))) (λ x n. record { first = n.first; last = omega (arith, n.last, longer) }) shown made.shown_each;
      few = omega (arith, made.few, longer);
    }

-- and its record
pub AreMade-record : (entries : List Entry) (shown : List Shown) (h : Entry) (x : Shown) → AreMade entries shown → IsEntry h → x.entry ≡ length (entries ++ h ∷ []) → AreMade (entries ++ h ∷ []) (shown ++ x ∷ [])
AreMade-record entries shown h x made is number =
    let longer : length (entries ++ h ∷ []) ≡ length entries + 1 = length-append entries (h ∷ []) in
    let more = AreMade-entry entries shown h made is in
    record {
      entries_each = more.entries_each;
      shown_each = All-more (NamesEntry (length (entries ++ h ∷ []))) shown x more.shown_each (record { first = omega (arith, number, longer); last = omega (arith, number) });
      few = omega (arith, made.few, longer, length-append shown (x ∷ []));
    }

-- an entry of a script's call is made as declared
pub IsEntry-for : (h : Entry) (caller : Caller) (line part : ℕ) → h.mark.caller ≡ caller → h.mark.line ≡ line → h.mark.part ≡ part → HasPart caller part → 1 ≤ line → HasBytes h.mark.kind h.mark.code h.bytes → IsEntry h
IsEntry-for h caller line part is_caller is_line is_part has_part some bytes = record {
  part = rw (is_caller, is_part) has_part;
  line = rw is_line some;
  answer = bytes;
}

-- the reason in an entry that is a fault
pub entry_reason : (h : Entry) (one : One) (c : Call) → answer_of h ≡ reply one c → is_fault h.mark.kind ≡ true → h.mark.code ≤ 2
entry_reason h one c is fault =
    let k : h.mark.kind ≡ (reply one c).kind = ap (λ (a : Answer). a.kind) is in
    let r : h.mark.code ≡ (reply one c).code = ap (λ (a : Answer). a.code) is in
    omega (arith, r, fault_reason one c (rw (← k) fault))

-- an entry without a record is no fault
pub entry_without_record : {P : Type 0} (h : Entry) (one : One) (c : Call) (reason : ℕ) → answer_of h ≡ reply one c → is_fault h.mark.kind ≡ true → record_of reason c ≡ [] → P
entry_without_record h one c reason is fault none =
    let k : h.mark.kind ≡ (reply one c).kind = ap (λ (a : Answer). a.kind) is in
    let f : is_fault (reply one c).kind ≡ true = rw (← k) fault in
    absurd (false≢true (sym (no_record-no_fault one c reason none) ∙ f))
