-- The outcome of a sound world is made as it is declared, and its fault records are those of its history.
use Rattle.std.proofs.Common.{◌≡◌, ◌==◌, ℕ, suc, ◌+◌, ◌-◌, ◌*◌, ◌/◌, ◌%◌, ◌≤◌, ◌<◌, Bool, true, false, cond, not, ◌&&◌, List, [], ◌∷◌, ◌++◌, length, take, drop, map, get_or, Some, None, IsSome, All, refl, arith, ◌∙◌, ap, ap₂, sym, subst, inl, inr, append_assoc, length-append}
use Rattle.std.specs.Prelude.{sum_by, nat_le, is_some}
use Rattle.std.specs.List.{AllByRecursion, list_all}
use Rattle.std.proofs.lemmas.Bool.{and_parts, leb-true, ltb-true}
use Rattle.std.proofs.lemmas.List.{length-map, length-take, length-drop, length-replicate, length-set}
use Rattle.std.proofs.lemmas.List.Elements.{All-from_recursion, All-get_or, All-replicate, All-set, All-nil, All-cons, All-map, All-weaker}
use Rattle.std.proofs.lemmas.List.Sums.{sum_by-cons}
use Rattle.vi_bytes.specs.Parts.{part_count, part_start, nth_part}
use Rattle.vi_bytes.specs.declared.part.Part.{Part}
use Rattle.vi_bytes.specs.declared.lease.Need.{Need}
use Rattle.vi_bytes.specs.declared.lease.Need.TheVariants as need
use Rattle.vi_bytes.specs.declared.span.TheConstants.{PAGE}
use Rattle.vi_history.specs.Device.{Dev, One, endpoint_of}
use Rattle.vi_history.specs.Kinds.{is_fault}
use Rattle.vi_history.specs.Requests.{reading}
use Rattle.vi_history.specs.Statuses.{status}
use Rattle.vi_history.specs.Effects.{endpoint_is_in, attached, effect, commit}
use Rattle.vi_history.specs.Translation.{Look, Leads, Nowhere, look, permits, is_in_memory, found_for, translate}
use Rattle.vi_history.specs.Replies.{Answer, status_answer, probed_answer, no_properties, request_answer, reading_answer, reading_commit, page_at, written, read_at, write_at, memory_after_write, reply, next}
use Rattle.vi_history.specs.Start.{zero_page, start}
use Rattle.vi_history.specs.Histories.{IsLegal}
use Rattle.vi_history.specs.Outcomes.{HasPart, HasBytes, IsEntry, NamesEntry, IsWellMade}
use Rattle.vi_history.specs.Records.{record_of, records_from, records, IsShownWell}
use Rattle.vi_history.specs.declared.found.Found.{Found}
use Rattle.vi_history.specs.declared.found.Found.TheVariants.{At, Fault}
use Rattle.vi_history.specs.declared.reason.TheConstants.{UNKNOWN, MAPPING}
use Rattle.vi_history.specs.declared.reading.Reading.{Reading}
use Rattle.vi_history.specs.declared.reading.Reading.TheVariants.{Silent, Malformed, Asks}
use Rattle.vi_history.specs.declared.status.TheConstants.{OK, INVAL}
use Rattle.vi_history.specs.declared.request.Request.{Request}
use Rattle.vi_history.specs.declared.request.Request.TheVariants.{Attach, Detach, Map, Unmap, Probe}
use Rattle.vi_history.specs.declared.call.Call.{Call}
use Rattle.vi_history.specs.declared.call.Call.TheVariants as call
use Rattle.vi_history.specs.declared.call.Caller.{Caller}
use Rattle.vi_history.specs.declared.call.Caller.TheVariants.{Driver, Back}
use Rattle.vi_history.specs.declared.entry.Entry.{Entry}
use Rattle.vi_history.specs.declared.outcome.Shown.{Shown}
use Rattle.vi_lines.specs.declared.job.Job.{Job}
use Rattle.vi_lines.specs.declared.job.Job.TheVariants as job
use Rattle.vi_lines.specs.declared.line.Line.{Line}
use Rattle.vi_lines.specs.Value.{ScriptValue}
use Rattle.vi_lines.specs.Valid.{IsValid, is_line, is_caller_in, does}
use Rattle.vi_lines.specs.Rules.{job_runs_over}
use Rattle.vi_lines.specs.Limits.{is_job}
use Rattle.vi_lines.specs.Calls.{line_of, parts_of, part_bytes, driver_call, back_call, call_in, call_of}
use Rattle.vi_lines.specs.Legal.{AreCalls}
use Rattle.vi_lines.specs.Order.{AreDue}
use Rattle.vi_model.specs.Rooms.{is_back}
use Rattle.vi_model.specs.Rounds.{calls_in, calls_of}
use Rattle.vi_model.specs.Shown.{AreNumbered}
use Rattle.vi_model.specs.Sound.{record_bytes, SoundParts, IsSound}
use Rattle.vi_model.specs.Delivered.{record_at, delivered}
use Rattle.vi_model.specs.Whole.{IsWholeDev}
use Rattle.vi_model.specs.Playable.{IsPlayable}
use Rattle.vi_model.specs.Worlds.{World, opening}
use Rattle.vi_model.specs.declared.task.Task.TheVariants.{Reads, Sets}
use Rattle.vi_sound.proofs.Values.Aligned.{leased, found_leased}
use Rattle.vi_sound.proofs.Moves.Delivered.{records_are_shown_well}
use Rattle.vi_sound.proofs.Values.Known.{known_line, known_driver, known_part, line_is}
use Rattle.vi_sound.proofs.Moves.Opening.{opening_sound}
use Rattle.vi_sound.proofs.Moves.Wholes.{commit_whole}
use Rattle.vi_core.specs.Outcomes.{fault_numbers, named_by, outcome_of, OutcomeIsMade, OutcomeHasRecords}
use Rattle.vi_core.proofs.KnownCalls.{call_line, driver_part, back_part}
use Rattle.vi_core.proofs.HistoryRoom.{entries_few, properties_length}

-- ---- the records, by the numbers of their entries

numbers_from : (number : ℕ) (one : One) (cs : List Call) (hs : List Entry) → IsLegal one cs hs → map (λ (x : Shown). x.entry) (records_from number cs hs) ≡ fault_numbers number hs
numbers_from number one [] [] legal = refl
numbers_from number one [] (h ∷ hs) legal = absurd legal
numbers_from number one (c ∷ cs) [] legal = absurd legal
numbers_from number one (c ∷ cs) (h ∷ hs) legal = go (is_fault h.mark.kind) (numbers_from (number + 1) (next one c) cs hs legal.1)
  where
    go : (b : Bool) → map (λ (x : Shown). x.entry) (records_from (number + 1) cs hs) ≡ fault_numbers (number + 1) hs
        → map (λ (x : Shown). x.entry) ((let xs : List Shown = cond b (record { entry = number; bytes = record_of h.mark.code c } ∷ []) [] in xs) ++ records_from (number + 1) cs hs) ≡ cond b (number ∷ fault_numbers (number + 1) hs) (fault_numbers (number + 1) hs)
    go true rest = ap (λ ns. number ∷ ns) rest
    go false rest = rest

-- the element behind so many others
get_behind : {A : Type 0} (front : List A) (x : A) (rest : List A) (d : A) → get_or (front ++ x ∷ rest) (length front) d ≡ x
get_behind [] x rest d = refl
get_behind (y ∷ front) x rest d = get_behind front x rest d

map_both : (front rest : List Shown) → map (λ (x : Shown). x.entry) (front ++ rest) ≡ map (λ (x : Shown). x.entry) front ++ map (λ (x : Shown). x.entry) rest
map_both [] rest = refl
map_both (x ∷ front) rest = ap (λ ns. x.entry ∷ ns) (map_both front rest)

-- a record that stands behind so many others, whose bytes a delivered one has
one_named : (front rest : List Shown) (r x : Shown) → x ≡ record { entry = length front + 1; bytes = r.bytes } → record_at (front ++ r ∷ rest) x ≡ named_by (map (λ (x : Shown). x.entry) (front ++ r ∷ rest)) x
one_named front rest r x is =
    let number : x.entry - 1 ≡ length front = ap (λ (y : Shown). y.entry - 1) is ∙ omega arith in
    let at : get_or (front ++ r ∷ rest) (x.entry - 1) x ≡ r = ap (λ n. get_or (front ++ r ∷ rest) n x) number ∙ get_behind front r rest x in
    let size : length (map (λ (y : Shown). y.entry) front) ≡ length front = length-map front (λ (y : Shown). y.entry) in
    let own : get_or (map (λ (y : Shown). y.entry) (front ++ r ∷ rest)) (x.entry - 1) 0 ≡ r.entry =
    ap₂ (λ ns n. get_or ns n 0) (map_both front (r ∷ rest)) (number ∙ sym size) ∙ get_behind (map (λ (y : Shown). y.entry) front) r.entry (map (λ (y : Shown). y.entry) rest) 0 in
    let bytes : r.bytes ≡ x.bytes = sym (ap (λ (y : Shown). y.bytes) is) in
    at ∙ ap₂ (λ n b. let y : Shown = record { entry = n; bytes = b } in y) (sym own) bytes

further : (front : List Shown) (r : Shown) (rest xs : List Shown) → AreNumbered (suc (length front + 1)) (map (λ (x : Shown). x.bytes) rest) xs → AreNumbered (length (front ++ r ∷ []) + 1) (map (λ (x : Shown). x.bytes) rest) xs
further front r rest xs n = let l = length-append front (r ∷ []) in let e : suc (length front + 1) ≡ length (front ++ r ∷ []) + 1 = omega (arith, l) in subst (λ m. AreNumbered m (map (λ (x : Shown). x.bytes) rest) xs) e n

onward : (front : List Shown) (r : Shown) (rest xs : List Shown) → map (record_at ((front ++ r ∷ []) ++ rest)) xs ≡ map (named_by (map (λ (x : Shown). x.entry) ((front ++ r ∷ []) ++ rest))) xs
    → map (record_at (front ++ r ∷ rest)) xs ≡ map (named_by (map (λ (x : Shown). x.entry) (front ++ r ∷ rest))) xs
onward front r rest xs e = subst (λ all. map (record_at all) xs ≡ map (named_by (map (λ (x : Shown). x.entry) all)) xs) (append_assoc front (r ∷ []) rest) e

all_named : (front rest xs : List Shown) → AreNumbered (length front + 1) (map (λ (x : Shown). x.bytes) rest) xs → map (record_at (front ++ rest)) xs ≡ map (named_by (map (λ (x : Shown). x.entry) (front ++ rest))) xs
all_named front [] [] n = refl
all_named front [] (x ∷ xs) n = absurd n
all_named front (r ∷ rest) [] n = refl
all_named front (r ∷ rest) (x ∷ xs) (inl n) =
    ap₂ (λ (y : Shown) (ys : List Shown). y ∷ ys) (one_named front rest r x n.0) (onward front r rest xs (all_named (front ++ r ∷ []) rest xs (further front r rest xs n.1)))
all_named front (r ∷ rest) (x ∷ xs) (inr n) = onward front r rest (x ∷ xs) (all_named (front ++ r ∷ []) rest (x ∷ xs) (further front r rest (x ∷ xs) n))

same_calls : (cs ds : List Call) → map (λ c. Some c) cs ≡ map (λ c. Some c) ds → cs ≡ ds
same_calls [] [] e = refl
same_calls [] (d ∷ ds) e = absurd cc
same_calls (c ∷ cs) [] e = absurd cc
same_calls (c ∷ cs) (d ∷ ds) e = let head : c ≡ d = cc in let tail : map (λ c. Some c) cs ≡ map (λ c. Some c) ds = cc in ap₂ (λ (x : Call) (xs : List Call). x ∷ xs) head (same_calls cs ds tail)

-- the delivered records, by their entries
delivered_named : (s : ScriptValue) (w : World) → (ok : SoundParts s w) → delivered w ok.told.calls ≡ map (named_by (fault_numbers 1 w.history)) w.control.events.shown
unfolding records
delivered_named s w ok =
    all_named [] (records_from 1 ok.told.calls w.history) w.control.events.shown ok.told.shown.taken
    ∙ ap (λ ns. map (named_by ns) w.control.events.shown) (numbers_from 1 (start s.setup) ok.told.calls w.history ok.told.legal)

pub outcome_records : OutcomeHasRecords
unfolding IsSound
outcome_records s w play ok =
    let d = records_are_shown_well s w ok in
    let same : d.0 ≡ ok.told.calls = same_calls d.0 ok.told.calls (sym d.1 ∙ ok.told.named) in
    let shown : delivered w d.0 ≡ map (named_by (fault_numbers 1 w.history)) w.control.events.shown = ap (delivered w) same ∙ delivered_named s w ok in
    record { calls = d.0; named = d.1; well = subst (λ xs. IsShownWell s.setup.queue d.0 w.history xs w.control.events.dropped) shown d.2 }

-- ---- the calls of a valid script

-- an access is of at least 1 byte and within a page
pub record IsOfPage (part : Part) : Type 0 where
  pub some : 1 ≤ part.len
  pub within : part.iova % PAGE + part.len ≤ PAGE

abbrev AccessesWell : Call → Type 0
AccessesWell (call.Ask request) = Unit {0}
AccessesWell (call.Raw read write) = Unit {0}
AccessesWell (call.Bypass on) = Unit {0}
AccessesWell (call.Read endpoint part) = IsOfPage part
AccessesWell (call.Write endpoint part bytes) = IsOfPage part × (length bytes ≡ part.len)

part_of_page : (iova len k : ℕ) → 1 ≤ len → 1 ≤ k → k ≤ part_count iova len → IsOfPage (nth_part iova len k)
part_of_page iova len k some low high = record { some = omega arith; within = omega arith }

part_bytes_length : (iova : ℕ) (bytes : List ℕ) (k : ℕ) → 1 ≤ length bytes → 1 ≤ k → k ≤ part_count iova (length bytes) → length (part_bytes iova bytes k) ≡ (nth_part iova (length bytes) k).len
part_bytes_length iova bytes k some low high =
    let a = length-take (nth_part iova (length bytes) k).len (drop (part_start iova k) bytes) in
    let b = length-drop (part_start iova k) bytes in
    let c : (nth_part iova (length bytes) k).len ≤ length bytes - part_start iova k = omega arith in
    omega (arith, a, b, c)

some_call : (c d : Call) → Some c ≡ Some d → c ≡ d
some_call c d e = cc

driver_well : (j : Job) (c : Call) → driver_call j ≡ Some c → AccessesWell c
driver_well (job.Ask request) c e = subst AccessesWell (some_call _ c e) tt
driver_well (job.Raw read write) c e = subst AccessesWell (some_call _ c e) tt
driver_well (job.Bypass on) c e = subst AccessesWell (some_call _ c e) tt
driver_well (job.Read iova len) c e = absurd cc
driver_well (job.Write iova bytes) c e = absurd cc

back_well : (id k : ℕ) (j : Job) (c : Call) → is_job j ≡ true → 1 ≤ k → k ≤ parts_of j → back_call id j k ≡ Some c → AccessesWell c
back_well id k (job.Ask request) c ok low high e = absurd cc
back_well id k (job.Raw read write) c ok low high e = absurd cc
back_well id k (job.Bypass on) c ok low high e = absurd cc
back_well id k (job.Read iova len) c ok low high e =
    let some = leb-true 1 len (and_parts (nat_le 1 len) (nat_le len 65536) ok).0 in
    subst AccessesWell (some_call _ c e) (part_of_page iova len k some low high)
back_well id k (job.Write iova bytes) c ok low high e =
    let some = leb-true 1 (length bytes) (and_parts (nat_le 1 (length bytes)) (nat_le (length bytes) 65536) ok).0 in
    subst AccessesWell (some_call _ c e) (part_of_page iova (length bytes) k some low high, part_bytes_length iova bytes k some low high)

call_well : (s : ScriptValue) (d : Caller) (line part : ℕ) (c : Call) → IsValid s → call_of s d line part ≡ Some c → AccessesWell c
unfolding call_of
call_well s d line part c valid e = go d (known_line s d line part known) e
  where
    known : IsSome (call_of s d line part)
    known = ap is_some e

    driver : (l : Line) (b : Bool) → cond b (driver_call l.job) None ≡ Some c → AccessesWell c
    driver l true e = driver_well l.job c e
    driver l false e = absurd cc

    back : (id : ℕ) (l : Line) (b : Bool) → is_job l.job ≡ true → (1 ≤ part) × (part ≤ parts_of l.job) → cond b (back_call id l.job part) None ≡ Some c → AccessesWell c
    back id l true ok within e = back_well id part l.job c ok within.0 within.1 e
    back id l false ok within e = absurd cc

    go : (d : Caller) → (l : Line) × (line_of s d line ≡ Some l) × IsSome (call_in d part (Some l)) → call_in d part (line_of s d line) ≡ Some c → AccessesWell c
    go (Driver j) l e = driver l.0 (part == 0) (sym (ap (λ o. call_in (Driver j) part o) l.1) ∙ e)
    go (Back id) l e = back id l.0 (nat_le 1 part && nat_le part (parts_of l.0.job)) (line_is s (Back id) line l.0 valid l.1).1 (back_part id part l.0 l.2) (sym (ap (λ o. call_in (Back id) part o) l.1) ∙ e)

-- ---- the one-thread device, whose memory is whole pages

record IsPaged (one : One) : Type 0 where
  whole : IsWholeDev one.dev
  count : one.dev.pages ≡ length one.memory
  full : All (λ p. length p ≡ PAGE) one.memory

-- an address of memory lies in a page, at the offset that it has in its own page
record LeadsTo (one : One) (address target : ℕ) : Type 0 where
  offset : target % PAGE ≡ address % PAGE
  size : length (page_at one.memory (target / PAGE)) ≡ PAGE

found_inside : (pages target : ℕ) (n : Need) (l : Look) → found_for pages n l ≡ At target → is_in_memory pages target ≡ true
found_inside pages target n (Nowhere reason) e = absurd cc
found_inside pages target n (Leads t flags) e = go (permits n flags) (is_in_memory pages t) refl e
  where
    go : (a b : Bool) → is_in_memory pages t ≡ b → cond (not a) (Fault MAPPING) (cond (not b) (Fault UNKNOWN) (At t)) ≡ At target → is_in_memory pages target ≡ true
    go false b i e = absurd cc
    go true false i e = absurd cc
    go true true i e = let same : t ≡ target = cc in ap (is_in_memory pages) (sym same) ∙ i

leads_to : (one : One) (endpoint address target : ℕ) (n : Need) → IsPaged one → translate one.dev endpoint address n ≡ At target → LeadsTo one address target
leads_to one endpoint address target n ok e =
    let l = found_leased one.dev endpoint address target n ok.whole e in
    let at : At (PAGE * l.0.target + address % PAGE) ≡ At target = sym (leased one.dev endpoint address n l.0 ok.whole l.1 l.2) ∙ e in
    let is : PAGE * l.0.target + address % PAGE ≡ target = at_same _ target at in
    let page : target / PAGE ≡ l.0.target = omega (arith, is) in
    let below = ltb-true (target / PAGE) one.dev.pages (found_inside one.dev.pages target n (look one.dev endpoint address) e) in
    let count = ok.count in
    record {
      offset = omega (arith, is);
      size = All-get_or (λ p. length p ≡ PAGE) one.memory (target / PAGE) [] (omega (arith, below, count)) ok.full;
    }
  where
    at_same : (a b : ℕ) → At a ≡ At b → a ≡ b
    at_same a b e = cc

-- ---- answers are made as they are declared

abbrev IsMade : Answer → Type 0
IsMade a = HasBytes a.kind a.code a.bytes

request_made : (dev : Dev) (q : Request) → IsMade (request_answer dev q)
request_made dev (Attach domain endpoint flags) = refl
request_made dev (Detach domain endpoint) = refl
request_made dev (Map domain first last target flags) = refl
request_made dev (Unmap domain first last) = refl
request_made dev (Probe endpoint) = properties_length dev endpoint

reading_made : (dev : Dev) (r : Reading) → IsMade (reading_answer dev r)
unfolding no_properties
reading_made dev Silent = (refl, refl)
reading_made dev (Malformed probe) = go probe
  where
    go : (b : Bool) → IsMade (cond b (probed_answer INVAL no_properties) (status_answer INVAL))
    go true = length-replicate {A = ℕ} 512 0
    go false = refl
reading_made dev (Asks q) = request_made dev q

reply_made : (one : One) (c : Call) → IsPaged one → AccessesWell c → IsMade (reply one c)
unfolding reply
reply_made one (call.Ask request) ok well = request_made one.dev request
reply_made one (call.Raw read write) ok well = reading_made one.dev (reading read write)
reply_made one (call.Bypass on) ok well = (refl, refl)
reply_made one (call.Read endpoint part) ok well = go (translate one.dev endpoint part.iova need.Read) refl
  where
    go : (f : Found) → translate one.dev endpoint part.iova need.Read ≡ f → IsMade (read_at one.memory part.len f)
    go (At target) e =
        let to = leads_to one endpoint part.iova target need.Read ok e in
        let a = length-take part.len (drop (target % PAGE) (page_at one.memory (target / PAGE))) in
        let b = length-drop (target % PAGE) (page_at one.memory (target / PAGE)) in
        let offset = to.offset in let size = to.size in let some = well.some in let within = well.within in
        (refl, omega (arith, a, b, offset, size, some, within), omega (arith, a, b, offset, size, some, within))
    go (Fault reason) e = refl
reply_made one (call.Write endpoint part bytes) ok well = go (translate one.dev endpoint part.iova need.Write)
  where
    go : (f : Found) → IsMade (write_at f)
    go (At target) = (refl, refl)
    go (Fault reason) = refl

-- ---- every call leaves whole pages

effect_pages : (dev : Dev) (q : Request) → (effect dev q).pages ≡ dev.pages
effect_pages dev (Attach domain endpoint flags) = go (endpoint_is_in domain (endpoint_of dev endpoint))
  where
    go : (b : Bool) → (let d : Dev = cond b dev (attached dev domain (flags == 1) endpoint) in d.pages) ≡ dev.pages
    go true = refl
    go false = refl
effect_pages dev (Detach domain endpoint) = refl
effect_pages dev (Map domain first last target flags) = refl
effect_pages dev (Unmap domain first last) = refl
effect_pages dev (Probe endpoint) = refl

commit_pages : (dev : Dev) (q : Request) → (commit dev q).pages ≡ dev.pages
unfolding commit
commit_pages dev q = go (status dev q == OK)
  where
    go : (b : Bool) → (let d : Dev = cond b (effect dev q) dev in d.pages) ≡ dev.pages
    go true = effect_pages dev q
    go false = refl

reading_pages : (dev : Dev) (r : Reading) → (reading_commit dev r).pages ≡ dev.pages
reading_pages dev Silent = refl
reading_pages dev (Malformed probe) = refl
reading_pages dev (Asks q) = commit_pages dev q

written_length : (page bytes : List ℕ) (offset : ℕ) → offset + length bytes ≤ length page → length (written page offset bytes) ≡ length page
written_length page bytes offset within =
    let a = length-append (take offset page ++ bytes) (drop (offset + length bytes) page) in
    let b = length-append (take offset page) bytes in
    let c = length-take offset page in
    let d = length-drop (offset + length bytes) page in
    omega (arith, a, b, c, d, within)

next_paged : (one : One) (c : Call) → IsPaged one → AccessesWell c → IsPaged (next one c)
unfolding next
next_paged one (call.Ask request) ok well = record { whole = commit_whole one.dev (Reads (Asks request)) ok.whole; count = commit_pages one.dev request ∙ ok.count; full = ok.full }
next_paged one (call.Raw read write) ok well = record { whole = commit_whole one.dev (Reads (reading read write)) ok.whole; count = reading_pages one.dev (reading read write) ∙ ok.count; full = ok.full }
next_paged one (call.Bypass on) ok well = record { whole = commit_whole one.dev (Sets on) ok.whole; count = ok.count; full = ok.full }
next_paged one (call.Read endpoint part) ok well = ok
next_paged one (call.Write endpoint part bytes) ok well = go (translate one.dev endpoint part.iova need.Write) refl
  where
    go : (f : Found) → translate one.dev endpoint part.iova need.Write ≡ f → IsPaged (record one { memory = memory_after_write one.memory bytes f })
    go (Fault reason) e = ok
    go (At target) e =
        let to = leads_to one endpoint part.iova target need.Write ok e in
        let page = page_at one.memory (target / PAGE) in
        let offset = to.offset in let size = to.size in let within = well.0.within in let same = well.1 in
        let kept = written_length page bytes (target % PAGE) (omega (arith, offset, size, within, same)) in
        record {
          whole = ok.whole;
          count = ok.count ∙ sym (length-set one.memory (target / PAGE) (written page (target % PAGE) bytes));
          full = All-set (λ p. length p ≡ PAGE) one.memory (target / PAGE) (written page (target % PAGE) bytes) (kept ∙ size) ok.full;
        }

start_paged : (s : ScriptValue) → IsPlayable s → IsPaged (start s.setup)
unfolding start zero_page opening
start_paged s play = record {
  whole = (opening_sound s play).whole;
  count = sym (length-replicate s.setup.memory zero_page);
  full = All-replicate (λ p. length p ≡ PAGE) s.setup.memory zero_page (length-replicate {A = ℕ} 4096 0);
}

-- ---- entries are made as they are declared

entry_part : (s : ScriptValue) (d : Caller) (line part : ℕ) → IsValid s → IsSome (call_of s d line part) → HasPart d part
entry_part s (Driver j) line part valid known = (let lt = known_driver s j line part valid known in omega (arith, lt), driver_part s j line part known)
entry_part s (Back id) line part valid known = (known_part s id line part valid known).0

entries_made : (s : ScriptValue) (before hs : List Entry) (one : One) (cs : List Call) → IsValid s → IsPaged one → AreDue s before hs → AreCalls s hs cs → IsLegal one cs hs → AllByRecursion IsEntry hs
entries_made s before [] one cs valid ok due named legal = tt
entries_made s before (h ∷ hs) one [] valid ok due named legal = absurd legal
entries_made s before (h ∷ hs) one (c ∷ cs) valid ok due named legal =
    let heads = both named in
    let well = call_well s h.mark.caller h.mark.line h.mark.part c valid heads.0 in
    let here : IsEntry h = record {
      part = entry_part s h.mark.caller h.mark.line h.mark.part valid due.0.known;
      line = (call_line s h.mark.caller h.mark.line h.mark.part due.0.known).0;
      answer = subst IsMade (sym legal.0) (reply_made one c ok well);
    } in
    (here, entries_made s (before ++ h ∷ []) hs (next one c) cs valid (next_paged one c ok well) due.1 heads.1 legal.1)
  where
    both : (call_of s h.mark.caller h.mark.line h.mark.part ∷ map (λ g. call_of s g.mark.caller g.mark.line g.mark.part) hs) ≡ (Some c ∷ map (λ c. Some c) cs)
        → (call_of s h.mark.caller h.mark.line h.mark.part ≡ Some c) × (map (λ g. call_of s g.mark.caller g.mark.line g.mark.part) hs ≡ map (λ c. Some c) cs)
    both e = (cc, cc)

-- ---- how many there are

parts_most : (j : Job) → is_job j ≡ true → parts_of j ≤ 17
parts_most (job.Ask request) h = omega arith
parts_most (job.Raw read write) h = omega arith
parts_most (job.Bypass on) h = omega arith
parts_most (job.Read iova len) h = let most = leb-true len 65536 (and_parts (nat_le 1 len) (nat_le len 65536) h).1 in omega (arith, most)
parts_most (job.Write iova bytes) h = let most = leb-true (length bytes) 65536 (and_parts (nat_le 1 (length bytes)) (nat_le (length bytes) 65536) h).1 in omega (arith, most)

lines_few : (s : ScriptValue) (ls : List Line) → list_all (λ l. is_line s.setup.endpoints l) ls ≡ true → sum_by (λ l. calls_in l) ls ≤ 17 * length ls
lines_few s [] h = omega arith
lines_few s (l ∷ ls) h =
    let both = and_parts (is_line s.setup.endpoints l) (list_all (λ l. is_line s.setup.endpoints l) ls) h in
    let rest = lines_few s ls both.1 in
    let split = sum_by-cons (λ l. calls_in l) l ls in
    let limits = is_job l.job && (not (job_runs_over l.job) && nat_le (length l.awaits) 16) in
    let a = and_parts (is_caller_in s.setup.endpoints l.caller) (does l.caller l.add l.job && limits) both.0 in
    let b = and_parts (does l.caller l.add l.job) limits a.1 in
    let parts = parts_most l.job (and_parts (is_job l.job) (not (job_runs_over l.job) && nat_le (length l.awaits) 16) b.1).0 in
    let one = most (is_back l.caller) (parts_of l.job) parts in
    omega (arith, rest, split, one)
  where
    most : (b : Bool) (parts : ℕ) → parts ≤ 17 → cond b parts 1 ≤ 17
    most true parts few = few
    most false parts few = omega arith

calls_few : (s : ScriptValue) → IsValid s → calls_of s ≤ 170000
unfolding calls_of
calls_few s valid = let few = lines_few s s.lines valid.lines_each in let lines = valid.few in omega (arith, few, lines)

-- ---- the numbers of the records

abbrev IsBetween : ℕ → ℕ → ℕ → Type 0
IsBetween low high n = (low ≤ n) × (n < high)

faults_between : (number : ℕ) (hs : List Entry) → All (IsBetween number (number + length hs)) (fault_numbers number hs)
faults_between number [] = All-nil (IsBetween number (number + 0))
faults_between number (h ∷ hs) = go (is_fault h.mark.kind) (All-weaker (IsBetween (number + 1) (number + 1 + length hs)) (IsBetween number (number + suc (length hs))) (λ n i. (let low = i.0 in omega (arith, low), let high = i.1 in omega (arith, high))) (fault_numbers (number + 1) hs) (faults_between (number + 1) hs))
  where
    go : (b : Bool) → All (IsBetween number (number + suc (length hs))) (fault_numbers (number + 1) hs) → All (IsBetween number (number + suc (length hs))) (cond b (number ∷ fault_numbers (number + 1) hs) (fault_numbers (number + 1) hs))
    go true rest = All-cons (IsBetween number (number + suc (length hs))) number (fault_numbers (number + 1) hs) (omega arith, omega arith) rest
    go false rest = rest

faults_few : (number : ℕ) (hs : List Entry) → length (fault_numbers number hs) ≤ length hs
faults_few number [] = omega arith
faults_few number (h ∷ hs) = go (is_fault h.mark.kind) (faults_few (number + 1) hs)
  where
    go : (b : Bool) → length (fault_numbers (number + 1) hs) ≤ length hs → length (cond b (number ∷ fault_numbers (number + 1) hs) (fault_numbers (number + 1) hs)) ≤ suc (length hs)
    go true rest = omega (arith, rest)
    go false rest = omega (arith, rest)

abbrev EntersBetween : ℕ → ℕ → Shown → Type 0
EntersBetween low high x = IsBetween low high x.entry

numbered_between : (number : ℕ) (rs : List (List ℕ)) (xs : List Shown) → AreNumbered number rs xs → All (EntersBetween number (number + length rs)) xs
numbered_between number [] [] n = All-nil (EntersBetween number (number + 0))
numbered_between number [] (x ∷ xs) n = absurd n
numbered_between number (r ∷ rs) [] n = All-nil (EntersBetween number (number + suc (length rs)))
numbered_between number (r ∷ rs) (x ∷ xs) (inl n) =
    let at : x.entry ≡ number = ap (λ (y : Shown). y.entry) n.0 in
    All-cons (EntersBetween number (number + suc (length rs))) x xs (omega (arith, at), omega (arith, at))
    (All-weaker (EntersBetween (suc number) (suc number + length rs)) (EntersBetween number (number + suc (length rs))) (λ y i. (let low = i.0 in omega (arith, low), let high = i.1 in omega (arith, high))) xs (numbered_between (suc number) rs xs n.1))
numbered_between number (r ∷ rs) (x ∷ xs) (inr n) =
    All-weaker (EntersBetween (suc number) (suc number + length rs)) (EntersBetween number (number + suc (length rs))) (λ y i. (let low = i.0 in omega (arith, low), let high = i.1 in omega (arith, high))) (x ∷ xs) (numbered_between (suc number) rs (x ∷ xs) n)

-- ---- the outcome

-- there are as many records as faults
records_faults : (s : ScriptValue) (w : World) → (ok : SoundParts s w) → length (record_bytes ok.told.calls w.history) ≡ length (fault_numbers 1 w.history)
unfolding records
records_faults s w ok =
    let rs : List Shown = records_from 1 ok.told.calls w.history in
    let a = length-map rs (λ (x : Shown). x.bytes) in
    let b = length-map rs (λ (x : Shown). x.entry) in
    let c : length (map (λ (x : Shown). x.entry) rs) ≡ length (fault_numbers 1 w.history) = ap (λ (ns : List ℕ). length ns) (numbers_from 1 (start s.setup) ok.told.calls w.history ok.told.legal) in
    omega (arith, a, b, c)

shown_named : (s : ScriptValue) (w : World) → SoundParts s w → All (NamesEntry (length w.history)) (map (named_by (fault_numbers 1 w.history)) w.control.events.shown)
shown_named s w ok =
    let numbers = fault_numbers 1 w.history in
    let size = records_faults s w ok in
    let between = numbered_between 1 (record_bytes ok.told.calls w.history) w.control.events.shown ok.told.shown.taken in
    All-map (NamesEntry (length w.history)) (named_by numbers) w.control.events.shown
    (All-weaker (EntersBetween 1 (1 + length (record_bytes ok.told.calls w.history))) (λ x. NamesEntry (length w.history) (named_by numbers x)) (λ x i.
    let low = i.0 in let high = i.1 in
    let is = All-get_or (IsBetween 1 (1 + length w.history)) numbers (x.entry - 1) 0 (omega (arith, low, high, size)) (faults_between 1 w.history) in
    record { first = is.0; last = let most = is.1 in omega (arith, most) }) w.control.events.shown between)

made_parts : (s : ScriptValue) (w : World) → IsPlayable s → SoundParts s w → IsWellMade (outcome_of w)
made_parts s w play ok =
    let entries = entries_few s w.history play.valid ok.told.ordered in
    let calls = calls_few s play.valid in
    let size = length-map w.control.events.shown (named_by (fault_numbers 1 w.history)) in
    let count = ok.told.shown.count in
    let records = records_faults s w ok in
    let faults = faults_few 1 w.history in
    record {
      few = omega (arith, entries, calls);
      few_shown = omega (arith, entries, calls, size, count, records, faults);
      entries = All-from_recursion IsEntry w.history (entries_made s [] w.history (start s.setup) ok.told.calls play.valid (start_paged s play) ok.told.ordered ok.told.named ok.told.legal);
      shown = shown_named s w ok;
    }

pub outcome_made : OutcomeIsMade
unfolding IsSound
outcome_made s w play ok = made_parts s w play ok
