-- There is room for the record of each fault, and for each grant.
use Rattle.std.proofs.Common.{◌≡◌, ◌==◌, ℕ, zero, suc, ◌+◌, ◌≤◌, ◌<◌, Bool, true, false, cond, List, [], ◌∷◌, ◌++◌, length, map, filter, count_by, Option, Some, None, IsSome, is_some, refl, arith, ◌∙◌, ap, sym, subst, ◌⊎◌, inl, inr, append_assoc, append-nil}
use Rattle.std.proofs.lemmas.Bool.{cases_eq, eq-eqb, eqb-true, false≢true, or_left}
use Rattle.std.proofs.lemmas.List.Sums.{count_by-le-length, sum_by-cons}
use Rattle.vi_history.specs.Device.{One}
use Rattle.vi_history.specs.Kinds.{is_fault}
use Rattle.vi_history.specs.Replies.{reply, next}
use Rattle.vi_history.specs.Histories.{answer_of, IsLegal}
use Rattle.vi_history.specs.Records.{record_of, records_at, records_from, records}
use Rattle.vi_history.specs.declared.outcome.Shown.{Shown}
use Rattle.vi_history.specs.declared.call.Call.{Call}
use Rattle.vi_history.specs.declared.call.Call.TheVariants as call
use Rattle.vi_history.specs.declared.call.Caller.{Caller}
use Rattle.vi_history.specs.declared.call.Caller.TheVariants.{Driver, Back}
use Rattle.vi_history.specs.declared.entry.Entry.{Entry}
use Rattle.vi_lines.specs.declared.job.Job.{Job}
use Rattle.vi_lines.specs.declared.job.Job.TheVariants as job
use Rattle.vi_lines.specs.declared.line.Line.{Line}
use Rattle.vi_lines.specs.Value.{ScriptValue}
use Rattle.vi_lines.specs.Valid.{IsValid}
use Rattle.vi_lines.specs.Calls.{same_caller, lines_of, line_of, driver_call, call_in, call_of, part_count_of}
use Rattle.vi_lines.specs.Legal.{AreCalls}
use Rattle.vi_lines.specs.Order.{ends_block, Place, due_place, IsNext, IsDue, AreDue}
use Rattle.vi_lines.proofs.IndexLemmas.{same_caller-self}
use Rattle.vi_order.proofs.Lines as Lines
use Rattle.vi_model.specs.Lanes.{Miss}
use Rattle.vi_model.specs.Grants.{lease_under}
use Rattle.vi_model.specs.Control.{Link, link_of}
use Rattle.vi_model.specs.Places.{place_count, id_at, back_at}
use Rattle.vi_model.specs.Starts.{any}
use Rattle.vi_model.specs.Serves.{page_of}
use Rattle.vi_model.specs.Worlds.{World, seat_of}
use Rattle.vi_model.specs.Tasks.{task_of}
use Rattle.vi_model.specs.declared.task.Task.{Task}
use Rattle.vi_model.specs.Asking.{one_if}
use Rattle.vi_model.specs.Tracks.{stands_at}
use Rattle.vi_model.specs.Rooms.{pages_of, is_back, all_transfers}
use Rattle.vi_model.specs.Sound.{record_bytes, SoundParts}
use Rattle.vi_sound.proofs.Values.Sums.{sum_to, sum_more, sum_zero, sum_le, sum_lt, sum_same}
use Rattle.vi_sound.proofs.Values.Known.{known_back}
use Rattle.vi_sound.proofs.Values.Ids.{back_other}
use Rattle.vi_sound.proofs.Values.Histories.{due_own, fault_bytes}
use Rattle.vi_sound.proofs.Moves.Calls.{no_fault, reply_task}
use Rattle.vi_sound.proofs.Moves.Accesses.{access_is}
use Rattle.vi_sound.proofs.Space.Pages as Pages
use Rattle.vi_sound.proofs.Moves.Serves.{Takes, miss_page}
use Rattle.vi_sound.proofs.Space.Counts.{due_rises, at_ordered}

-- ---- classes of which a thing is in one at most

pub sum_once : (n : ℕ) (f : ℕ → Bool) → ((i j : ℕ) → i < n → j < n → f i ≡ true → f j ≡ true → i ≡ j) → sum_to n (λ i. one_if (f i)) ≤ 1
sum_once zero f once = omega arith
sum_once (suc n) f once = go (f n) refl (sum_once n f (λ i j l m. once i j (omega (arith, l)) (omega (arith, m))))
  where
    go : (b : Bool) → f n ≡ b → sum_to n (λ i. one_if (f i)) ≤ 1 → sum_to n (λ i. one_if (f i)) + one_if (f n) ≤ 1
    go true e rest =
        let none = sum_same n (λ i. one_if (f i)) (λ i. 0) (λ i l. zero_at i l (f i) refl) in
        let z = sum_zero n in
        let one : one_if (f n) ≡ 1 = ap one_if e in
        omega (arith, none, z, one)
      where
        zero_at : (i : ℕ) → i < n → (b : Bool) → f i ≡ b → one_if (f i) ≡ 0
        zero_at i l true h = let same = once i n (omega (arith, l)) (omega arith) h e in absurd (omega (arith, same, l))
        zero_at i l false h = ap one_if h
    go false e rest = let none : one_if (f n) ≡ 0 = ap one_if e in omega (arith, rest, none)

filter_more : {X : Type 0} (q : X → Bool) (x : X) (xs : List X) → length (filter q (x ∷ xs)) ≡ one_if (q x) + length (filter q xs)
filter_more q x xs = go (q x)
  where
    go : (b : Bool) → length (cond b (x ∷ filter q xs) (filter q xs)) ≡ one_if b + length (filter q xs)
    go true = omega arith
    go false = omega arith

-- the lines of all back ends are among those of the script
backs_sum : (s : ScriptValue) (ls : List Line) → IsValid s → sum_to (place_count s) (λ k. length (filter (λ l. same_caller l.caller (back_at s k)) ls)) ≤ count_by (λ l. is_back l.caller) ls
backs_sum s [] valid = let z = sum_zero (place_count s) in omega (arith, z)
backs_sum s (l ∷ ls) valid =
    let rest = backs_sum s ls valid in
    let each = sum_same (place_count s) (λ k. length (filter (λ l. same_caller l.caller (back_at s k)) (l ∷ ls))) (λ k. one_if (same_caller l.caller (back_at s k)) + length (filter (λ l. same_caller l.caller (back_at s k)) ls)) (λ k lt. filter_more (λ l. same_caller l.caller (back_at s k)) l ls) in
    let more = sum_more (place_count s) (λ k. one_if (same_caller l.caller (back_at s k))) (λ k. length (filter (λ l. same_caller l.caller (back_at s k)) ls)) in
    let split = sum_by-cons (λ l. one_if (is_back l.caller)) l ls in
    let own = by l.caller in
    omega (arith, rest, each, more, split, own)
  where
    by : (c : Caller) → sum_to (place_count s) (λ k. one_if (same_caller c (back_at s k))) ≤ one_if (is_back c)
    by (Driver j) = let z = sum_zero (place_count s) in omega (arith, z)
    by (Back id) = sum_once (place_count s) (λ k. same_caller (Back id) (back_at s k)) (λ i j li lj hi hj. same i j li lj hi hj (cases_eq i j))
      where
        same : (i j : ℕ) → i < place_count s → j < place_count s → same_caller (Back id) (back_at s i) ≡ true → same_caller (Back id) (back_at s j) ≡ true → (i ≡ j) ⊎ (i ≡ j → ⊥) → i ≡ j
        same i j li lj hi hj (inl e) = e
        same i j li lj hi hj (inr ne) =
            let a : id ≡ id_at s i = eqb-true id (id_at s i) hi in
            let b : id ≡ id_at s j = eqb-true id (id_at s j) hj in
            absurd (false≢true (sym (back_other s i j valid li lj ne) ∙ eq-eqb (id_at s j) (id_at s i) (sym b ∙ a)))

-- ---- faults

abbrev pub fault_count : List Entry → ℕ
fault_count hs = count_by (λ h. is_fault h.mark.kind) hs

bytes_count : (h : Entry) (c : Call) → length (fault_bytes h c) ≡ one_if (is_fault h.mark.kind)
bytes_count h c = go (is_fault h.mark.kind)
  where
    go : (b : Bool) → length (let xs : List (List ℕ) = cond b (record_of h.mark.code c ∷ []) [] in xs) ≡ one_if b
    go true = refl
    go false = refl

-- the lines that are behind back ends
abbrev Lines_at : ScriptValue → List Entry → ℕ
Lines_at s hs = sum_to (place_count s) (λ k. (due_place s (back_at s k) hs).line)

driver_no_fault : (s : ScriptValue) (j line part : ℕ) (one : One) (c : Call) → call_of s (Driver j) line part ≡ Some c → is_fault (reply one c).kind ≡ false
unfolding call_of
driver_no_fault s j line part one c h = go (line_of s (Driver j) line) h
  where
    task : (d : Call) (q : Task) → task_of d ≡ Some q → is_fault (reply one d).kind ≡ false
    task d q e = ap (λ a. is_fault a.kind) (reply_task one d q e).0 ∙ no_fault one.dev q

    some : (x y : Call) → Some x ≡ Some y → x ≡ y
    some x y e = cc

    asks : (j : Job) → driver_call j ≡ Some c → is_fault (reply one c).kind ≡ false
    asks (job.Ask request) e = subst (λ d. is_fault (reply one d).kind ≡ false) (some _ c e) (task (call.Ask request) _ refl)
    asks (job.Raw read write) e = subst (λ d. is_fault (reply one d).kind ≡ false) (some _ c e) (task (call.Raw read write) _ refl)
    asks (job.Bypass on) e = subst (λ d. is_fault (reply one d).kind ≡ false) (some _ c e) (task (call.Bypass on) _ refl)
    asks (job.Read iova len) e = absurd cc
    asks (job.Write iova bytes) e = absurd cc

    go : (o : Option Line) → call_in (Driver j) part o ≡ Some c → is_fault (reply one c).kind ≡ false
    go None e = absurd cc
    go (Some l) e = by (part == 0) e
      where
        by : (b : Bool) → cond b (driver_call l.job) None ≡ Some c → is_fault (reply one c).kind ≡ false
        by true e = asks l.job e
        by false e = absurd cc

fault_step : (s : ScriptValue) (before : List Entry) (h : Entry) (one : One) (c : Call) → IsValid s → IsDue s before h → call_of s h.mark.caller h.mark.line h.mark.part ≡ Some c → answer_of h ≡ reply one c
    → Lines_at s before + one_if (is_fault h.mark.kind) ≤ Lines_at s (before ++ h ∷ [])
fault_step s before h one c valid due is answer = go (is_fault h.mark.kind) refl
  where
    rise : (k : ℕ) → k < place_count s → (due_place s (back_at s k) before).line ≤ (due_place s (back_at s k) (before ++ h ∷ [])).line
    rise k lt = due_rises s (id_at s k) before h due

    by : (d : Caller) → h.mark.caller ≡ d → is_fault h.mark.kind ≡ true → Lines_at s before + 1 ≤ Lines_at s (before ++ h ∷ [])
    by (Driver j) e f =
        let none = driver_no_fault s j h.mark.line h.mark.part one c (ap (λ d. call_of s d h.mark.line h.mark.part) (sym e) ∙ is) in
        absurd (false≢true (sym none ∙ (ap (λ a. is_fault a.kind) (sym answer) ∙ f)))
    by (Back id) e f =
        let k = known_back s id h.mark.line h.mark.part valid (subst (λ d. IsSome (call_of s d h.mark.line h.mark.part)) e due.known) in
        let own : h.mark.caller ≡ back_at s k.0 = e ∙ ap (λ i. Back i) (sym k.2) in
        let mine : same_caller h.mark.caller (back_at s k.0) ≡ true = ap (λ d. same_caller d (back_at s k.0)) own ∙ same_caller-self (back_at s k.0) in
        let was : (due_place s (back_at s k.0) before).line ≡ h.mark.line = ap (λ (p : Place). p.line) (subst (λ d. IsNext s before d h.mark.line h.mark.part) own due.next) in
        let ends : ends_block s h ≡ true = or_left (is_fault h.mark.kind) (h.mark.part == part_count_of s h.mark.caller h.mark.line) f in
        let now : (due_place s (back_at s k.0) (before ++ h ∷ [])).line ≡ h.mark.line + 1 =
        ap (λ (p : Place). p.line) (due_own s (back_at s k.0) before h mine) ∙ ap (λ v. (let p : Place = cond v (record { line = h.mark.line + 1; part = 1 }) (record { line = h.mark.line; part = h.mark.part + 1 }) in p.line)) ends in
        sum_lt (place_count s) k.0 (λ k. (due_place s (back_at s k) before).line) (λ k. (due_place s (back_at s k) (before ++ h ∷ [])).line) rise k.1 (omega (arith, was, now))

    go : (b : Bool) → is_fault h.mark.kind ≡ b → Lines_at s before + one_if (is_fault h.mark.kind) ≤ Lines_at s (before ++ h ∷ [])
    go true f = let r = by h.mark.caller refl f in let u : one_if (is_fault h.mark.kind) ≡ 1 = ap one_if f in omega (arith, r, u)
    go false f =
        let r = sum_le (place_count s) (λ k. (due_place s (back_at s k) before).line) (λ k. (due_place s (back_at s k) (before ++ h ∷ [])).line) rise in
        let u : one_if (is_fault h.mark.kind) ≡ 0 = ap one_if f in omega (arith, r, u)

faults_from : (s : ScriptValue) (before hs : List Entry) (one : One) (cs : List Call) → IsValid s → AreDue s before hs → AreCalls s hs cs → IsLegal one cs hs → Lines_at s before + fault_count hs ≤ Lines_at s (before ++ hs)
faults_from s before [] one cs valid due named legal = let same : Lines_at s (before ++ []) ≡ Lines_at s before = ap (Lines_at s) (append-nil before) in omega (arith, same)
faults_from s before (h ∷ hs) one [] valid due named legal = absurd legal
faults_from s before (h ∷ hs) one (c ∷ cs) valid due named legal =
    let heads = both named in
    let step = fault_step s before h one c valid due.0 heads.0 legal.0 in
    let rest = faults_from s (before ++ h ∷ []) hs (next one c) cs valid due.1 heads.1 legal.1 in
    let same : Lines_at s ((before ++ h ∷ []) ++ hs) ≡ Lines_at s (before ++ h ∷ hs) = ap (Lines_at s) (append_assoc before (h ∷ []) hs) in
    let split = sum_by-cons (λ h. one_if (is_fault h.mark.kind)) h hs in
    omega (arith, step, rest, same, split)
  where
    both : (call_of s h.mark.caller h.mark.line h.mark.part ∷ map (λ g. call_of s g.mark.caller g.mark.line g.mark.part) hs) ≡ (Some c ∷ map (λ c. Some c) cs)
        → (call_of s h.mark.caller h.mark.line h.mark.part ≡ Some c) × (map (λ g. call_of s g.mark.caller g.mark.line g.mark.part) hs ≡ map (λ c. Some c) cs)
    both e = (cc, cc)

record_count : (one : One) (cs : List Call) (hs : List Entry) → IsLegal one cs hs → length (record_bytes cs hs) ≡ fault_count hs
unfolding records
record_count one cs hs legal = from 1 one cs hs legal
  where
    from : (number : ℕ) (one : One) (cs : List Call) (hs : List Entry) → IsLegal one cs hs → length (map (λ (x : Shown). x.bytes) (records_from number cs hs)) ≡ fault_count hs
    from number one [] [] l = refl
    from number one [] (h ∷ hs) l = absurd l
    from number one (c ∷ cs) [] l = absurd l
    from number one (c ∷ cs) (h ∷ hs) l =
        let rest = from (number + 1) (next one c) cs hs l.1 in
        let split = sum_by-cons (λ h. one_if (is_fault h.mark.kind)) h hs in
        let size = head (is_fault h.mark.kind) in
        let cut = length_both (records_at number h.mark.kind h.mark.code c) (records_from (number + 1) cs hs) in
        omega (arith, rest, split, size, cut)
      where
        head : (b : Bool) → length (let xs : List Shown = cond b (record { entry = number; bytes = record_of h.mark.code c } ∷ []) [] in xs) ≡ one_if b
        head true = refl
        head false = refl

        length_both : (xs ys : List Shown) → length (map (λ (x : Shown). x.bytes) (xs ++ ys)) ≡ length xs + length (map (λ (x : Shown). x.bytes) ys)
        length_both [] ys = omega arith
        length_both (x ∷ xs) ys = let r = length_both xs ys in omega (arith, r)

-- where a miss is served, fewer records than the script has transfers are delivered or dropped
pub faults_few : (s : ScriptValue) (w : World) (k : ℕ) (x : Link) (m : Miss) → IsValid s → SoundParts s w → Takes s w k x m → length w.control.events.shown + w.control.events.dropped < all_transfers s
unfolding all_transfers
faults_few s w k x m valid ok t =
    let few = faults_from s [] w.history _ ok.told.calls valid ok.told.ordered ok.told.named ok.told.legal in
    let count = ok.told.shown.count in
    let size = record_count _ ok.told.calls w.history ok.told.legal in
    let known : IsSome (call_of s (back_at s k) m.line m.part) = ap is_some (access_is s k m.line m.part t.current.access t.current.is_access) in
    let line = Lines.known_line s (back_at s k) m.line m.part known in
    let at : (due_place s (back_at s k) w.history).line ≡ m.line =
    ap (λ (p : Place). p.line) (ok.backs k t.below).track.at ∙ (ap (λ (v : List Bool). (let p : Place = stands_at (seat_of w k) (any v) in p.line)) (sym t.replies ∙ t.answered) ∙ sym t.current.line) in
    let less = sum_lt (place_count s) k (λ k. (due_place s (back_at s k) w.history).line) (λ k. length (lines_of s (back_at s k)) + 1) (λ i l. (at_ordered s (id_at s i) w.history valid ok.told.ordered).line_most) t.below (omega (arith, at, line.1)) in
    let first = sum_same (place_count s) (λ k. (due_place s (back_at s k) []).line) (λ k. 1) (λ i l. refl) in
    let more = sum_more (place_count s) (λ k. length (lines_of s (back_at s k))) (λ k. 1) in
    let all = backs_sum s s.lines valid in
    omega (arith, few, count, size, less, first, more, all)

-- a script has no more transfers than lines
pub transfers_few : (s : ScriptValue) → all_transfers s ≤ length s.lines
unfolding all_transfers
transfers_few s = count_by-le-length (λ l. is_back l.caller) s.lines

-- a fault that is served finds room for its record
pub record_room : (s : ScriptValue) (w : World) (k : ℕ) (x : Link) (m : Miss) → IsValid s → SoundParts s w → Takes s w k x m → 1 ≤ w.control.events.room
record_room s w k x m valid ok t = let few = faults_few s w k x m valid ok t in let room = ok.records in omega (arith, few, room)

-- a miss that is served finds room for a grant under a new page
pub grant_room : (s : ScriptValue) (w : World) (k : ℕ) (x : Link) (m : Miss) → SoundParts s w → Takes s w k x m → lease_under (page_of m.iova) (link_of w.control k).grants ≡ None → 1 ≤ (link_of w.control k).spare
grant_room s w k x m ok t none =
    let place = ok.backs k t.below in
    let fits = Pages.grant_fits (pages_of s k) (page_of m.iova) (record { page = 0; count = 0; target = 0; perm = 0 }) (link_of w.control k).grants place.link.distinct place.room.within none (miss_page s k (seat_of w k) m t.current) in
    let enough = place.room.enough in
    omega (arith, fits, enough)
