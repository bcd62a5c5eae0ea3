-- In a legal history an access to an address that was unmapped faults, unless a MAP has brought the address back.
use Rattle.std.proofs.Common.{◌≡◌, ℕ, zero, suc, ◌+◌, ◌-◌, ◌<◌, ◌≤◌, true, List, [], ◌∷◌, length, map, take, Some, slice_get, refl, ap, ap₂, sym, subst, ◌∙◌, arith}
use Rattle.std.proofs.lemmas.Option.{slice_get_within}
use Rattle.vi_bytes.specs.declared.lease.Need.TheVariants as need
use Rattle.vi_history.specs.Device.{Dev, One, domain_of}
use Rattle.vi_history.specs.Requests.{reading}
use Rattle.vi_history.specs.declared.reading.Reading.{Reading}
use Rattle.vi_history.specs.declared.reading.Reading.TheVariants.{Silent, Malformed, Asks}
use Rattle.vi_history.specs.Statuses.{status}
use Rattle.vi_history.specs.Effects.{commit}
use Rattle.vi_history.specs.Translation.{Nowhere, found_for, look}
use Rattle.vi_history.specs.Replies.{Answer, status_answer, request_answer, reading_answer, reading_commit, read_at, write_at, reply, next}
use Rattle.vi_history.specs.Start.{start}
use Rattle.vi_history.specs.Histories.{answer_of, after, IsLegal}
use Rattle.vi_history.specs.Kinds.{is_fault}
use Rattle.vi_history.specs.declared.reason.TheConstants.{MAPPING}
use Rattle.vi_history.specs.declared.status.TheConstants.{OK}
use Rattle.vi_history.specs.declared.call.Call.{Call}
use Rattle.vi_history.specs.declared.call.Call.TheVariants as call
use Rattle.vi_history.specs.declared.entry.Entry.{Entry}
use Rattle.vi_history.specs.declared.request.Request.{Request}
use Rattle.vi_history.specs.declared.request.Request.TheVariants.{Map, Unmap}
use Rattle.vi_order.specs.Unmapped.{asked_in, Accesses, IsDone, Unmaps, Maps, IsTranslatedIn, AreAt, FaultsBehindUnmaps}
use Rattle.vi_order.specs.Laws.{UnmapsHold}
use Rattle.vi_order.proofs.Gone.{HasNone, commit-keeps, commit-unmap, look-none}

-- ---- one call

-- the answer to a MAP that took effect says so
map_done : (dev : Dev) (request : Request) (h : Entry) (domain first last target flags : ℕ) → answer_of h ≡ request_answer dev request → request ≡ Map domain first last target flags
    → status dev request ≡ OK → IsDone h
map_done dev request h domain first last target flags answers is ok =
    let says : request_answer dev request ≡ status_answer (status dev request) = subst (λ r. request_answer dev r ≡ status_answer (status dev r)) (sym is) refl in
    let answer = answers ∙ says ∙ ap status_answer ok in (ap (λ (x : Answer). x.kind) answer, ap (λ (x : Answer). x.code) answer)

-- what bytes ask for brings a mapping to the address only as a MAP that took effect
reading-keeps : (dev : Dev) (x : Reading) (h : Entry) (domain address : ℕ) → answer_of h ≡ reading_answer dev x
    → ((first last target flags : ℕ) → asked_in x ≡ Some (Map domain first last target flags) → IsDone h → first ≤ address → address ≤ last → ⊥)
    → HasNone address (domain_of dev domain) → HasNone address (domain_of (reading_commit dev x) domain)
reading-keeps dev Silent h domain address answers maps none = none
reading-keeps dev (Malformed probe) h domain address answers maps none = none
reading-keeps dev (Asks request) h domain address answers maps none =
    commit-keeps dev request domain address
    (λ ok first last target flags is from to.
    maps first last target flags (ap (λ r. Some r) is) (map_done dev request h domain first last target flags answers is ok) from to) none

call-keeps : (one : One) (c : Call) (h : Entry) (domain address : ℕ) → answer_of h ≡ reply one c → (Maps domain address c h → ⊥)
    → HasNone address (domain_of one.dev domain) → HasNone address (domain_of (next one c).dev domain)
unfolding reply next
call-keeps one (call.Ask request) h domain address answers maps none =
    reading-keeps one.dev (Asks request) h domain address answers
    (λ first last target flags asks done from to. maps (record { first = first; last = last; target = target; flags = flags; asks = asks; done = done; from = from; to = to })) none
call-keeps one (call.Raw read write) h domain address answers maps none =
    reading-keeps one.dev (reading read write) h domain address answers
    (λ first last target flags asks done from to. maps (record { first = first; last = last; target = target; flags = flags; asks = asks; done = done; from = from; to = to })) none
call-keeps one (call.Bypass on) h domain address answers maps none = none
call-keeps one (call.Read endpoint part) h domain address answers maps none = none
call-keeps one (call.Write endpoint part bytes) h domain address answers maps none = none

reading-unmaps : (dev : Dev) (x : Reading) (h : Entry) (domain first last address : ℕ) → answer_of h ≡ reading_answer dev x → asked_in x ≡ Some (Unmap domain first last) → IsDone h
    → first ≤ address → address ≤ last → HasNone address (domain_of (reading_commit dev x) domain)
reading-unmaps dev Silent h domain first last address answers asks done from to = absurd cc
reading-unmaps dev (Malformed probe) h domain first last address answers asks done from to = absurd cc
reading-unmaps dev (Asks request) h domain first last address answers asks done from to =
    let is : request ≡ Unmap domain first last = cc in
    let answer : answer_of h ≡ status_answer (status dev (Unmap domain first last)) = answers ∙ ap (request_answer dev) is in
    let ok : status dev (Unmap domain first last) ≡ OK = sym (ap (λ (x : Answer). x.code) answer) ∙ done.1 in
    subst (λ r. HasNone address (domain_of (commit dev r) domain)) (sym is) (commit-unmap dev domain first last address ok from to)

call-unmaps : (one : One) (c : Call) (h : Entry) (domain address : ℕ) → answer_of h ≡ reply one c → Unmaps domain address c h → HasNone address (domain_of (next one c).dev domain)
unfolding reply next
call-unmaps one (call.Ask request) h domain address answers u = reading-unmaps one.dev (Asks request) h domain u.first u.last address answers u.asks u.done u.from u.to
call-unmaps one (call.Raw read write) h domain address answers u = reading-unmaps one.dev (reading read write) h domain u.first u.last address answers u.asks u.done u.from u.to
call-unmaps one (call.Bypass on) h domain address answers u = let asks = u.asks in absurd cc
call-unmaps one (call.Read endpoint part) h domain address answers u = let asks = u.asks in absurd cc
call-unmaps one (call.Write endpoint part bytes) h domain address answers u = let asks = u.asks in absurd cc

access_faults : (one : One) (c : Call) (endpoint domain address : ℕ) → Accesses endpoint address c → IsTranslatedIn one.dev endpoint domain → HasNone address (domain_of one.dev domain)
    → is_fault (reply one c).kind ≡ true
unfolding reply
access_faults one (call.Ask request) endpoint domain address accesses inside none = absurd accesses
access_faults one (call.Raw read write) endpoint domain address accesses inside none = absurd accesses
access_faults one (call.Bypass on) endpoint domain address accesses inside none = absurd accesses
access_faults one (call.Read of part) endpoint domain address accesses inside none =
    let nowhere : look one.dev of part.iova ≡ Nowhere MAPPING = ap₂ (look one.dev) accesses.0 accesses.1 ∙ look-none one.dev endpoint domain address inside none in
    ap (λ l. is_fault (read_at one.memory part.len (found_for one.dev.pages need.Read l)).kind) nowhere
access_faults one (call.Write of part bytes) endpoint domain address accesses inside none =
    let nowhere : look one.dev of part.iova ≡ Nowhere MAPPING = ap₂ (look one.dev) accesses.0 accesses.1 ∙ look-none one.dev endpoint domain address inside none in
    ap (λ l. is_fault (write_at (found_for one.dev.pages need.Write l)).kind) nowhere

-- ---- histories

after_more : (one : One) (calls : List Call) (i : ℕ) (c : Call) → slice_get calls i ≡ Some c → after one (take (suc i) calls) ≡ next (after one (take i calls)) c
after_more one [] i c at = absurd cc
after_more one (d ∷ ds) zero c at = let same : d ≡ c = cc in ap (next one) same
after_more one (d ∷ ds) (suc i) c at = after_more (next one d) ds i c at

legal_at : (one : One) (calls : List Call) (entries : List Entry) (i : ℕ) (c : Call) (h : Entry) → IsLegal one calls entries → AreAt calls entries i c h
    → answer_of h ≡ reply (after one (take i calls)) c
legal_at one [] entries i c h legal at = let none = at.0 in absurd cc
legal_at one (d ∷ ds) [] i c h legal at = absurd legal
legal_at one (d ∷ ds) (g ∷ gs) zero c h legal at =
    let same_call : Some d ≡ Some c = at.0 in
    let same_answer : Some g ≡ Some h = at.1 in
    let same : d ≡ c = cc in
    let same_entry : g ≡ h = cc in ap answer_of (sym same_entry) ∙ legal.0 ∙ ap (reply one) same
legal_at one (d ∷ ds) (g ∷ gs) (suc i) c h legal at = legal_at (next one d) ds gs i c h legal.1 at

some_at : (one : One) (calls : List Call) (entries : List Entry) (i : ℕ) → IsLegal one calls entries → i < length calls → (c : Call) × (h : Entry) × AreAt calls entries i c h
some_at one [] entries i legal within = absurd (omega arith)
some_at one (d ∷ ds) [] i legal within = absurd legal
some_at one (d ∷ ds) (g ∷ gs) zero legal within = (d, g, (refl, refl))
some_at one (d ∷ ds) (g ∷ gs) (suc i) legal within = some_at (next one d) ds gs i legal.1 (omega arith)

-- the domain has no mapping at the address from the UNMAP on, as long as no MAP brings one
none_after : (one : One) (calls : List Call) (entries : List Entry) → IsLegal one calls entries → (domain address i count : ℕ) → suc i + count ≤ length calls
    → HasNone address (domain_of (after one (take (suc i) calls)).dev domain)
    → ((m : ℕ) (c : Call) (h : Entry) → i < m → m < suc i + count → AreAt calls entries m c h → Maps domain address c h → ⊥)
    → HasNone address (domain_of (after one (take (suc i + count) calls)).dev domain)
none_after one calls entries legal domain address i zero within none maps =
    let e : suc i ≡ suc i + 0 = omega arith in subst (λ n. HasNone address (domain_of (after one (take n calls)).dev domain)) e none
none_after one calls entries legal domain address i (suc count) within none maps =
    let m = suc i + count in
    let still = none_after one calls entries legal domain address i count (omega arith) none (λ n c h from to. maps n c h from (omega arith)) in
    let here = some_at one calls entries m legal (omega arith) in
    let kept = call-keeps (after one (take m calls)) here.0 here.1 domain address (legal_at one calls entries m here.0 here.1 legal here.2) (maps m here.0 here.1 (omega arith) (omega arith) here.2) still in
    let e : suc m ≡ suc i + suc count = omega arith in
    subst (λ n. HasNone address (domain_of (after one (take n calls)).dev domain)) e
    (subst (λ (o : One). HasNone address (domain_of o.dev domain)) (sym (after_more one calls m here.0 here.2.0)) kept)

-- the calls of a history are told by its entries
same_calls : (cs ds : List Call) → map (λ c. Some c) cs ≡ map (λ c. Some c) ds → cs ≡ ds
same_calls [] [] e = refl
same_calls [] (d ∷ ds) e = absurd cc
same_calls (c ∷ cs) [] e = absurd cc
same_calls (c ∷ cs) (d ∷ ds) e =
    let first : c ≡ d = cc in
    let rest : map (λ c. Some c) cs ≡ map (λ c. Some c) ds = cc in ap₂ (λ x xs. x ∷ xs) first (same_calls cs ds rest)

pub unmaps_hold : UnmapsHold
unfolding FaultsBehindUnmaps
unmaps_hold s entries history calls named i j unmap access h k domain endpoint address before at_i at_j unmaps accesses inside maps =
    let one = start s.setup in
    let legal : IsLegal one calls entries = subst (λ cs. IsLegal one cs entries) (same_calls history.calls calls (sym history.named ∙ named)) history.legal in
    let from : suc i + (j - suc i) ≡ j = omega arith in
    let gone : HasNone address (domain_of (after one (take (suc i) calls)).dev domain) =
    subst (λ (o : One). HasNone address (domain_of o.dev domain)) (sym (after_more one calls i unmap at_i.0))
    (call-unmaps (after one (take i calls)) unmap h domain address (legal_at one calls entries i unmap h legal at_i) unmaps) in
    let still : HasNone address (domain_of (after one (take j calls)).dev domain) =
    subst (λ n. HasNone address (domain_of (after one (take n calls)).dev domain)) from
    (none_after one calls entries legal domain address i (j - suc i) (omega (arith, slice_get_within calls j access at_j.0)) gone (λ m c g low high. maps m c g low (omega arith))) in
    ap (λ (x : Answer). is_fault x.kind) (legal_at one calls entries j access k legal at_j) ∙ access_faults (after one (take j calls)) access endpoint domain address accesses inside still
