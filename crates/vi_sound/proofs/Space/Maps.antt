-- A domain has no more mappings than MAP requests were answered, and so there is room for the next.
use Rattle.std.proofs.Common.{◌≡◌, ◌==◌, ℕ, zero, suc, ◌+◌, ◌≤◌, ◌<◌, Bool, true, false, cond, not, ◌&&◌, List, [], ◌∷◌, ◌++◌, length, map, filter, count_by, Option, Some, None, IsSome, is_some, slice_get, refl, arith, ◌∙◌, ap, sym, subst, ◌⊎◌, inl, inr}
use Rattle.std.specs.Prelude.{nat_lt, nat_le}
use Rattle.std.proofs.lemmas.Bool.{cases_eq, eq-eqb, eqb-true, false≢true}
use Rattle.std.proofs.lemmas.Bool.Decides.{nat_tests}
use Rattle.std.proofs.lemmas.List.Sums.{sum_by-cons}
use Rattle.vi_bytes.specs.Spans.{covers}
use Rattle.vi_bytes.specs.Mappings.{with_mapping, without_span}
use Rattle.vi_bytes.specs.declared.span.Span.{Span}
use Rattle.vi_bytes.specs.declared.lease.Mapping.{Mapping}
use Rattle.vi_bytes.specs.declared.region.Membership.TheVariants.{Unattached, Member}
use Rattle.vi_history.specs.Device.{Dev, One, Endpoint, Domain, endpoint_of, domain_of}
use Rattle.vi_history.specs.declared.reading.Reading.TheVariants.{Silent, Malformed, Asks}
use Rattle.vi_history.specs.Statuses.{status}
use Rattle.vi_history.specs.Effects.{moved, is_inhabited, inhabited, with_domain, with_mappings, endpoint_is_in, attached, effect, commit}
use Rattle.vi_history.specs.Replies.{next}
use Rattle.vi_history.specs.Histories.{after, IsLegal}
use Rattle.vi_history.specs.Start.{start}
use Rattle.vi_history.specs.declared.status.TheConstants.{OK}
use Rattle.vi_history.specs.declared.request.Request.{Request}
use Rattle.vi_history.specs.declared.request.Request.TheVariants.{Attach, Detach, Map, Unmap, Probe}
use Rattle.vi_history.specs.declared.call.Call.{Call}
use Rattle.vi_history.specs.declared.call.Call.TheVariants as call
use Rattle.vi_history.specs.declared.call.Caller.{Caller}
use Rattle.vi_history.specs.declared.call.Caller.TheVariants.{Driver, Back}
use Rattle.vi_history.specs.declared.entry.Entry.{Entry}
use Rattle.vi_lines.specs.declared.job.Job.{Job}
use Rattle.vi_lines.specs.declared.job.Job.TheVariants as job
use Rattle.vi_lines.specs.declared.line.Line.{Line}
use Rattle.vi_lines.specs.Value.{ScriptValue}
use Rattle.vi_lines.specs.Valid.{IsValid}
use Rattle.vi_lines.specs.Calls.{same_caller, lines_of, line_of, awaits_of, parts_of, driver_call, back_call, call_in, call_of}
use Rattle.vi_lines.specs.Legal.{AreCalls}
use Rattle.vi_lines.specs.Order.{entries_at, batch_of, IsDue, AreDue}
use Rattle.vi_lines.proofs.IndexLemmas.{same_caller-self}
use Rattle.vi_order.proofs.Lines as Lines
use Rattle.vi_model.specs.Tasks.{task_of, task_in, task_at, task_commit}
use Rattle.vi_model.specs.declared.task.Task.{Task}
use Rattle.vi_model.specs.declared.task.Task.TheVariants.{Reads, Sets}
use Rattle.vi_model.specs.Control.{driver_count, port_of}
use Rattle.vi_model.specs.Worlds.{World, stand_of}
use Rattle.vi_model.specs.Asking.{one_if}
use Rattle.vi_model.specs.Tracks.{AreWhole}
use Rattle.vi_model.specs.Held.{count_held, is_among_first}
use Rattle.vi_model.specs.Rooms.{is_map, mappings_in, all_maps}
use Rattle.vi_sound.proofs.Values.Sums.{sum_to, sum_more, sum_zero, sum_le, sum_lt, sum_same}
use Rattle.vi_sound.proofs.Values.Known.{known_driver}
use Rattle.vi_sound.proofs.Moves.Calls.{Held, held_due, reply_task}
use Rattle.vi_sound.proofs.Space.Faults.{sum_once}

-- ---- what a request makes of the mappings

kept_maps : (d : ℕ) (xs : List Endpoint) (ys : List Domain) → mappings_in d (inhabited xs ys) ≤ mappings_in d ys
kept_maps d xs [] = omega arith
kept_maps d xs (y ∷ ys) = go (y.id == d) refl (is_inhabited xs y.id) refl (kept_maps d xs ys)
  where
    kept_none : (d : ℕ) (ys : List Domain) → is_inhabited xs d ≡ false → mappings_in d (inhabited xs ys) ≡ 0
    kept_none d [] h = refl
    kept_none d (y ∷ ys) h = grind (arith, nat_tests, kept_none d ys h)

    go : (a : Bool) → (y.id == d) ≡ a → (b : Bool) → is_inhabited xs y.id ≡ b → mappings_in d (inhabited xs ys) ≤ mappings_in d ys
        → mappings_in d (cond b (y ∷ inhabited xs ys) (inhabited xs ys)) ≤ cond a (length y.mappings) (mappings_in d ys)
    go true e true f i = rw e (omega arith)
    go true e false f i = let gone : is_inhabited xs d ≡ false = ap (is_inhabited xs) (sym (eqb-true y.id d e)) ∙ f in let z = kept_none d ys gone in omega (arith, z)
    go false e true f i = rw e i
    go false e false f i = i

made_maps : (c d : ℕ) (b : Bool) (ys : List Domain) (o : Option Domain) → mappings_in d (with_domain c b ys o) ≤ mappings_in d ys
made_maps c d b ys (Some y) = omega arith
made_maps c d b ys None = more ys
  where
    more : (ys : List Domain) → mappings_in d (ys ++ record { id = c; bypass = b; mappings = [] } ∷ []) ≤ mappings_in d ys
    more [] = grind (arith, nat_tests)
    more (y ∷ ys) = go (y.id == d) (more ys)
      where
        go : (a : Bool) → mappings_in d (ys ++ record { id = c; bypass = b; mappings = [] } ∷ []) ≤ mappings_in d ys → cond a (length y.mappings) (mappings_in d (ys ++ record { id = c; bypass = b; mappings = [] } ∷ [])) ≤ cond a (length y.mappings) (mappings_in d ys)
        go true i = omega arith
        go false i = i

inserted : (m : Mapping) (ms : List Mapping) → length (with_mapping m ms) ≡ length ms + 1
inserted m [] = refl
inserted m (x ∷ ms) = go (nat_lt m.span.first x.span.first) (inserted m ms)
  where
    go : (b : Bool) → length (with_mapping m ms) ≡ length ms + 1 → length (cond b (m ∷ (x ∷ ms)) (x ∷ with_mapping m ms)) ≡ suc (length ms) + 1
    go true r = omega arith
    go false r = omega (arith, r)

without_less : (s : Span) (ms : List Mapping) → length (without_span s ms) ≤ length ms
without_less s [] = omega arith
without_less s (m ∷ ms) = go (covers s m.span) (without_less s ms)
  where
    go : (b : Bool) → length (without_span s ms) ≤ length ms → length (cond (not b) (m ∷ without_span s ms) (without_span s ms)) ≤ suc (length ms)
    go true r = omega (arith, r)
    go false r = omega (arith, r)

-- a change that adds at most one
changed_maps : (c d n : ℕ) (change : List Mapping → List Mapping) (ys : List Domain) → ((ms : List Mapping) → length (change ms) ≤ length ms + n) → mappings_in d (with_mappings c change ys) ≤ mappings_in d ys + n
changed_maps c d n change [] most = omega arith
changed_maps c d n change (y ∷ ys) most = go (y.id == c) (changed_maps c d n change ys most)
  where
    here : (a : Bool) (m : ℕ) → m ≤ length y.mappings + n → mappings_in d (with_mappings c change ys) ≤ mappings_in d ys + n → cond a m (mappings_in d (with_mappings c change ys)) ≤ cond a (length y.mappings) (mappings_in d ys) + n
    here true m l i = l
    here false m l i = i

    go : (b : Bool) → mappings_in d (with_mappings c change ys) ≤ mappings_in d ys + n → mappings_in d (cond b (record y { mappings = change y.mappings }) y ∷ with_mappings c change ys) ≤ cond (y.id == d) (length y.mappings) (mappings_in d ys) + n
    go true i = here (y.id == d) (length (change y.mappings)) (most y.mappings) i
    go false i = here (y.id == d) (length y.mappings) (omega arith) i

effect_maps : (dev : Dev) (q : Request) (d : ℕ) → mappings_in d (effect dev q).domains ≤ mappings_in d dev.domains + one_if (is_map (Some (Reads (Asks q))))
effect_maps dev (Attach c e flags) d = go (endpoint_is_in c (endpoint_of dev e))
  where
    go : (v : Bool) → mappings_in d (cond v dev (attached dev c (flags == 1) e)).domains ≤ mappings_in d dev.domains + 0
    go true = omega arith
    go false =
        let k = kept_maps d (moved e (Member c) dev.endpoints) (with_domain c (flags == 1) dev.domains (domain_of dev c)) in
        let m = made_maps c d (flags == 1) dev.domains (domain_of dev c) in
        omega (arith, k, m)
effect_maps dev (Detach c e) d = let k = kept_maps d (moved e Unattached dev.endpoints) dev.domains in omega (arith, k)
effect_maps dev (Map c first last t flags) d =
    let m : Mapping = record { span = record { first = first; last = last }; target = t; flags = flags } in
    changed_maps c d 1 (with_mapping m) dev.domains (λ ms. let i = inserted m ms in omega (arith, i))
effect_maps dev (Unmap c first last) d =
    let s : Span = record { first = first; last = last } in
    changed_maps c d 0 (without_span s) dev.domains (λ ms. let i = without_less s ms in omega (arith, i))
effect_maps dev (Probe e) d = omega arith

commit_maps : (dev : Dev) (q : Task) (d : ℕ) → mappings_in d (task_commit dev q).domains ≤ mappings_in d dev.domains + one_if (is_map (Some q))
unfolding commit
commit_maps dev (Reads Silent) d = omega arith
commit_maps dev (Reads (Malformed probe)) d = omega arith
commit_maps dev (Reads (Asks q)) d = go (status dev q == OK)
  where
    go : (v : Bool) → mappings_in d (cond v (effect dev q) dev).domains ≤ mappings_in d dev.domains + one_if (is_map (Some (Reads (Asks q))))
    go true = effect_maps dev q d
    go false = omega arith
commit_maps dev (Sets on) d = omega arith

next_maps : (one : One) (c : Call) (d : ℕ) → mappings_in d (next one c).dev.domains ≤ mappings_in d one.dev.domains + one_if (is_map (task_of c))
unfolding next
next_maps one c d = go (task_of c) refl
  where
    access : (c : Call) → task_of c ≡ None → mappings_in d (next one c).dev.domains ≤ mappings_in d one.dev.domains + 0
    access (call.Ask request) h = absurd cc
    access (call.Raw read write) h = absurd cc
    access (call.Bypass on) h = absurd cc
    access (call.Read id part) h = omega arith
    access (call.Write id part bytes) h = omega arith

    go : (o : Option Task) → task_of c ≡ o → mappings_in d (next one c).dev.domains ≤ mappings_in d one.dev.domains + one_if (is_map o)
    go None e = access c e
    go (Some q) e = let is : mappings_in d (next one c).dev.domains ≡ mappings_in d (task_commit one.dev q).domains = ap (λ (o : One). mappings_in d o.dev.domains) (reply_task one c q e).1 in let m = commit_maps one.dev q d in omega (arith, is, m)

after_maps : (one : One) (cs : List Call) (d : ℕ) → mappings_in d (after one cs).dev.domains ≤ mappings_in d one.dev.domains + count_by (λ c. is_map (task_of c)) cs
after_maps one [] d = omega arith
after_maps one (c ∷ cs) d =
    let first = next_maps one c d in
    let rest = after_maps (next one c) cs d in
    let split = sum_by-cons (λ c. one_if (is_map (task_of c))) c cs in
    omega (arith, first, rest, split)

-- ---- the lines that ask for a MAP

abbrev maps_line : ScriptValue → ℕ → ℕ → Bool
maps_line s j line = is_map (task_at s j line)

-- the entries of such lines
abbrev done_of : ScriptValue → List Entry → ℕ → ℕ
done_of s hs j = sum_to (length (lines_of s (Driver j)) + 1) (λ line. cond (maps_line s j line) (entries_at (Driver j) line hs) 0)

abbrev maps_done : ScriptValue → List Entry → ℕ
maps_done s hs = sum_to driver_count (done_of s hs)

each_more : (b : Bool) (m n : ℕ) → m ≤ n → cond b m 0 ≤ cond b n 0
each_more true m n h = h
each_more false m n h = omega arith

entered_cons : (j line : ℕ) (h : Entry) (hs : List Entry) → entries_at (Driver j) line (h ∷ hs) ≡ one_if (same_caller h.mark.caller (Driver j) && (h.mark.line == line)) + entries_at (Driver j) line hs
entered_cons j line h hs = sum_by-cons (λ h. one_if (same_caller h.mark.caller (Driver j) && (h.mark.line == line))) h hs

line_rise : (s : ScriptValue) (h : Entry) (hs : List Entry) (j line : ℕ) → cond (maps_line s j line) (entries_at (Driver j) line hs) 0 ≤ cond (maps_line s j line) (entries_at (Driver j) line (h ∷ hs)) 0
line_rise s h hs j line = each_more (maps_line s j line) (entries_at (Driver j) line hs) (entries_at (Driver j) line (h ∷ hs)) (let m = entered_cons j line h hs in omega (arith, m))

done_rise : (s : ScriptValue) (h : Entry) (hs : List Entry) (j : ℕ) → done_of s hs j ≤ done_of s (h ∷ hs) j
done_rise s h hs j = sum_le (length (lines_of s (Driver j)) + 1) (λ line. cond (maps_line s j line) (entries_at (Driver j) line hs) 0) (λ line. cond (maps_line s j line) (entries_at (Driver j) line (h ∷ hs)) 0) (λ line k. line_rise s h hs j line)

done_next : (s : ScriptValue) (h : Entry) (hs : List Entry) (j : ℕ) → h.mark.caller ≡ Driver j → h.mark.line ≤ length (lines_of s (Driver j)) → maps_line s j h.mark.line ≡ true → done_of s hs j + 1 ≤ done_of s (h ∷ hs) j
done_next s h hs j e line is =
    sum_lt (length (lines_of s (Driver j)) + 1) h.mark.line (λ line. cond (maps_line s j line) (entries_at (Driver j) line hs) 0) (λ line. cond (maps_line s j line) (entries_at (Driver j) line (h ∷ hs)) 0)
    (λ n k. line_rise s h hs j n) (omega (arith, line))
    (let m = entered_cons j h.mark.line h hs in
    let u : one_if (same_caller h.mark.caller (Driver j) && (h.mark.line == h.mark.line)) ≡ 1 = ap (λ c. one_if (same_caller c (Driver j) && (h.mark.line == h.mark.line))) e ∙ (ap (λ b. one_if (b && (h.mark.line == h.mark.line))) (same_caller-self (Driver j)) ∙ ap one_if (eq-eqb h.mark.line h.mark.line refl)) in
    let x : cond (maps_line s j h.mark.line) (entries_at (Driver j) h.mark.line hs) 0 ≡ entries_at (Driver j) h.mark.line hs = ap (λ b. cond b (entries_at (Driver j) h.mark.line hs) 0) is in
    let y : cond (maps_line s j h.mark.line) (entries_at (Driver j) h.mark.line (h ∷ hs)) 0 ≡ entries_at (Driver j) h.mark.line (h ∷ hs) = ap (λ b. cond b (entries_at (Driver j) h.mark.line (h ∷ hs)) 0) is in
    omega (arith, m, u, x, y))

-- a back end's call asks for nothing
back_asks : (s : ScriptValue) (id line part : ℕ) (c : Call) → call_of s (Back id) line part ≡ Some c → task_of c ≡ None
unfolding call_of
back_asks s id line part c h = go (line_of s (Back id) line) h
  where
    some : (x y : Call) → Some x ≡ Some y → x ≡ y
    some x y e = cc

    asks : (j : Job) → back_call id j part ≡ Some c → task_of c ≡ None
    asks (job.Ask request) e = absurd cc
    asks (job.Raw read write) e = absurd cc
    asks (job.Bypass on) e = absurd cc
    asks (job.Read iova len) e = ap task_of (sym (some _ c e))
    asks (job.Write iova bytes) e = ap task_of (sym (some _ c e))

    go : (o : Option Line) → call_in (Back id) part o ≡ Some c → task_of c ≡ None
    go None e = absurd cc
    go (Some l) e = by (nat_le 1 part && nat_le part (parts_of l.job)) e
      where
        by : (b : Bool) → cond b (back_call id l.job part) None ≡ Some c → task_of c ≡ None
        by true e = asks l.job e
        by false e = absurd cc

maps_step : (s : ScriptValue) (before : List Entry) (h : Entry) (hs : List Entry) (c : Call) → IsValid s → IsDue s before h → call_of s h.mark.caller h.mark.line h.mark.part ≡ Some c → maps_done s hs + one_if (is_map (task_of c)) ≤ maps_done s (h ∷ hs)
maps_step s before h hs c valid due is = go (is_map (task_of c)) refl
  where
    rise : maps_done s hs ≤ maps_done s (h ∷ hs)
    rise = sum_le driver_count (done_of s hs) (done_of s (h ∷ hs)) (λ j l. done_rise s h hs j)

    by : (d : Caller) → h.mark.caller ≡ d → is_map (task_of c) ≡ true → maps_done s hs + 1 ≤ maps_done s (h ∷ hs)
    by (Back id) e m = let none = back_asks s id h.mark.line h.mark.part c (ap (λ d. call_of s d h.mark.line h.mark.part) (sym e) ∙ is) in absurd (false≢true (ap is_map (sym none) ∙ m))
    by (Driver j) e m =
        let there : call_of s (Driver j) h.mark.line h.mark.part ≡ Some c = ap (λ d. call_of s d h.mark.line h.mark.part) (sym e) ∙ is in
        let known : IsSome (call_of s (Driver j) h.mark.line h.mark.part) = ap is_some there in
        let part = Lines.driver_part s j h.mark.line h.mark.part known in
        let line = Lines.known_line s (Driver j) h.mark.line h.mark.part known in
        let lt = known_driver s j h.mark.line h.mark.part valid known in
        let maps : maps_line s j h.mark.line ≡ true = ap (λ p. is_map (task_in (call_of s (Driver j) h.mark.line p))) (sym part) ∙ (ap (λ o. is_map (task_in o)) there ∙ m) in
        sum_lt driver_count j (done_of s hs) (done_of s (h ∷ hs)) (λ i l. done_rise s h hs i) lt (done_next s h hs j e line.1 maps)

    go : (b : Bool) → is_map (task_of c) ≡ b → maps_done s hs + one_if (is_map (task_of c)) ≤ maps_done s (h ∷ hs)
    go true m = let r = by h.mark.caller refl m in let u : one_if (is_map (task_of c)) ≡ 1 = ap one_if m in omega (arith, r, u)
    go false m = let u : one_if (is_map (task_of c)) ≡ 0 = ap one_if m in let r = rise in omega (arith, r, u)

maps_from : (s : ScriptValue) (before hs : List Entry) (one : One) (cs : List Call) → IsValid s → AreDue s before hs → AreCalls s hs cs → IsLegal one cs hs → count_by (λ c. is_map (task_of c)) cs ≤ maps_done s hs
maps_from s before [] one [] valid due named legal = omega arith
maps_from s before [] one (c ∷ cs) valid due named legal = absurd legal
maps_from s before (h ∷ hs) one [] valid due named legal = absurd legal
maps_from s before (h ∷ hs) one (c ∷ cs) valid due named legal =
    let heads = both named in
    let step = maps_step s before h hs c valid due.0 heads.0 in
    let rest = maps_from s (before ++ h ∷ []) hs (next one c) cs valid due.1 heads.1 legal.1 in
    let split = sum_by-cons (λ c. one_if (is_map (task_of c))) c cs in
    omega (arith, step, rest, split)
  where
    both : (call_of s h.mark.caller h.mark.line h.mark.part ∷ map (λ g. call_of s g.mark.caller g.mark.line g.mark.part) hs) ≡ (Some c ∷ map (λ c. Some c) cs)
        → (call_of s h.mark.caller h.mark.line h.mark.part ≡ Some c) × (map (λ g. call_of s g.mark.caller g.mark.line g.mark.part) hs ≡ map (λ c. Some c) cs)
    both e = (cc, cc)

-- ---- the MAP lines of the drivers are among those of the script

sum_shift : (n : ℕ) (f : ℕ → ℕ) → sum_to (suc n) f ≡ f 0 + sum_to n (λ i. f (suc i))
sum_shift zero f = omega arith
sum_shift (suc n) f = let r = sum_shift n f in omega (arith, r)

-- what an element at a place of a list counts, and nothing where there is none
abbrev value_of : {X : Type 0} → (X → Bool) → Option X → Bool
value_of p None = false
value_of p (Some x) = p x

list_sum : {X : Type 0} (p : X → Bool) (xs : List X) → sum_to (length xs) (λ i. one_if (value_of p (slice_get xs i))) ≡ count_by p xs
list_sum p [] = refl
list_sum p (x ∷ xs) =
    let a = sum_shift (length xs) (λ i. one_if (value_of p (slice_get (x ∷ xs) i))) in
    let b = list_sum p xs in
    let c = sum_by-cons (λ x. one_if (p x)) x xs in
    omega (arith, a, b, c)

abbrev job_maps : Line → Bool
job_maps l = is_map (task_in (driver_call l.job))

line_maps : (s : ScriptValue) (j i : ℕ) → maps_line s j (suc i) ≡ value_of job_maps (slice_get (lines_of s (Driver j)) i)
unfolding call_of
line_maps s j i = go (slice_get (lines_of s (Driver j)) i)
  where
    go : (o : Option Line) → is_map (task_in (call_in (Driver j) 0 o)) ≡ value_of job_maps o
    go None = refl
    go (Some l) = refl

zero_maps : (s : ScriptValue) (j : ℕ) → maps_line s j 0 ≡ false
unfolding call_of
zero_maps s j = refl

driver_sum : (s : ScriptValue) (j : ℕ) → sum_to (length (lines_of s (Driver j)) + 1) (λ line. one_if (maps_line s j line)) ≡ count_by job_maps (lines_of s (Driver j))
driver_sum s j =
    let n = length (lines_of s (Driver j)) in
    let e : length (lines_of s (Driver j)) + 1 ≡ suc (length (lines_of s (Driver j))) = omega arith in
    let a : sum_to (length (lines_of s (Driver j)) + 1) (λ line. one_if (maps_line s j line)) ≡ sum_to (suc (length (lines_of s (Driver j)))) (λ line. one_if (maps_line s j line)) = ap (λ m. sum_to m (λ line. one_if (maps_line s j line))) e in
    let b = sum_shift (length (lines_of s (Driver j))) (λ line. one_if (maps_line s j line)) in
    let z : one_if (maps_line s j 0) ≡ 0 = ap one_if (zero_maps s j) in
    let c = sum_same (length (lines_of s (Driver j))) (λ i. one_if (maps_line s j (suc i))) (λ i. one_if (value_of job_maps (slice_get (lines_of s (Driver j)) i))) (λ i l. ap one_if (line_maps s j i)) in
    let d = list_sum job_maps (lines_of s (Driver j)) in
    omega (arith, a, b, z, c, d)

filter_count : {X : Type 0} (q p : X → Bool) (x : X) (xs : List X) → count_by p (filter q (x ∷ xs)) ≡ one_if (q x && p x) + count_by p (filter q xs)
filter_count q p x xs = go (q x)
  where
    go : (b : Bool) → count_by p (cond b (x ∷ filter q xs) (filter q xs)) ≡ one_if (b && p x) + count_by p (filter q xs)
    go true = sum_by-cons (λ y. one_if (p y)) x (filter q xs)
    go false = omega arith

drivers_sum : (ls : List Line) → sum_to driver_count (λ j. count_by job_maps (filter (λ l. same_caller l.caller (Driver j)) ls)) ≤ count_by job_maps ls
drivers_sum [] = let z = sum_zero driver_count in omega (arith, z)
drivers_sum (l ∷ ls) =
    let rest = drivers_sum ls in
    let each = sum_same driver_count (λ j. count_by job_maps (filter (λ l. same_caller l.caller (Driver j)) (l ∷ ls))) (λ j. one_if (same_caller l.caller (Driver j) && job_maps l) + count_by job_maps (filter (λ l. same_caller l.caller (Driver j)) ls)) (λ j lt. filter_count (λ l. same_caller l.caller (Driver j)) job_maps l ls) in
    let more = sum_more driver_count (λ j. one_if (same_caller l.caller (Driver j) && job_maps l)) (λ j. count_by job_maps (filter (λ l. same_caller l.caller (Driver j)) ls)) in
    let split = sum_by-cons (λ l. one_if (job_maps l)) l ls in
    let own = by (job_maps l) l.caller in
    omega (arith, rest, each, more, split, own)
  where
    off : (b : Bool) → one_if (b && false) ≡ 0
    off true = refl
    off false = refl

    on : (b : Bool) → one_if (b && true) ≡ one_if b
    on true = refl
    on false = refl

    once : (i k j : ℕ) → (i == k) ≡ true → (i == j) ≡ true → k ≡ j
    once i k j a b = sym (eqb-true i k a) ∙ eqb-true i j b

    by : (m : Bool) (c : Caller) → sum_to driver_count (λ j. one_if (same_caller c (Driver j) && m)) ≤ one_if m
    by false c = let a = sum_same driver_count (λ j. one_if (same_caller c (Driver j) && false)) (λ j. 0) (λ j l. off (same_caller c (Driver j))) in let z = sum_zero driver_count in omega (arith, a, z)
    by true (Back id) = let z = sum_zero driver_count in omega (arith, z)
    by true (Driver i) =
        let a = sum_same driver_count (λ j. one_if (same_caller (Driver i) (Driver j) && true)) (λ j. one_if (i == j)) (λ j l. on (i == j)) in
        let o = sum_once driver_count (λ j. i == j) (λ k j lk lj hk hj. once i k j hk hj) in
        omega (arith, a, o)

-- ---- room

-- an open MAP line finds room in every domain, raw requests too
pub map_room : (s : ScriptValue) (w : World) (j line : ℕ) (q : Task) (d : ℕ) → IsValid s → Held s w j line q → is_map (Some q) ≡ true → mappings_in d w.control.dev.domains + 1 ≤ w.control.mappings
unfolding all_maps start
map_room s w j line q d valid held is =
    let maps = after_maps (start s.setup) held.told.calls d in
    let same : mappings_in d (after (start s.setup) held.told.calls).dev.domains ≡ mappings_in d w.control.dev.domains = ap (λ (o : One). mappings_in d o.dev.domains) held.told.one in
    let done = maps_from s [] w.history (start s.setup) held.told.calls valid held.told.ordered held.told.named held.told.legal in
    let inner = sum_lt (length (lines_of s (Driver j)) + 1) line (λ n. cond (maps_line s j n) (entries_at (Driver j) n w.history) 0) (λ n. one_if (maps_line s j n))
    (λ n k. each_more (maps_line s j n) (entries_at (Driver j) n w.history) 1 (mine n)) (omega (arith, top))
    (let x : cond (maps_line s j line) (entries_at (Driver j) line w.history) 0 ≡ entries_at (Driver j) line w.history = ap (λ b. cond b (entries_at (Driver j) line w.history) 0) here in
    let y : one_if (maps_line s j line) ≡ 1 = ap one_if here in
    let f = fresh.0.0 in omega (arith, x, y, f)) in
    let all = sum_lt driver_count j (done_of s w.history) (λ i. sum_to (length (lines_of s (Driver i)) + 1) (λ n. one_if (maps_line s i n)))
    (λ i l. sum_le (length (lines_of s (Driver i)) + 1) (λ n. cond (maps_line s i n) (entries_at (Driver i) n w.history) 0) (λ n. one_if (maps_line s i n)) (λ n k. each_more (maps_line s i n) (entries_at (Driver i) n w.history) 1 (each i n l (cases_eq i j)))) held.call.0 inner in
    let sums = sum_same driver_count (λ i. sum_to (length (lines_of s (Driver i)) + 1) (λ n. one_if (maps_line s i n))) (λ i. count_by job_maps (lines_of s (Driver i))) (λ i l. driver_sum s i) in
    let most = drivers_sum s.lines in
    let room = held.maps in
    omega (arith, maps, same, done, all, sums, most, room)
  where
    here : maps_line s j line ≡ true
    here = ap is_map held.call.1 ∙ is

    fresh : ((entries_at (Driver j) line w.history ≡ 0) × ((n : ℕ) → 1 ≤ n → batch_of s (Driver j) n < batch_of s (Driver j) line → 0 < entries_at (Driver j) n w.history)) × AreWhole s w.history (awaits_of s (Driver j) line)
    fresh = held_due s j line (count_held w.control.queue w.control.removals (port_of w.control j).setting j) w.history (port_of w.control j).answered (port_of w.control j).posted (stand_of w j) held.mine

    top : line ≤ length (lines_of s (Driver j))
    top =
        let self : one_if (line == line) ≡ 1 = ap one_if (eq-eqb line line refl) in
        let o = held.mine.one line in
        let b = (held.mine.below line (omega (arith, self, o))).1 in
        let l = held.mine.lines in omega (arith, b, l)

    one_most : (b : Bool) → one_if b ≤ 1
    one_most true = omega arith
    one_most false = omega arith

    mine : (n : ℕ) → entries_at (Driver j) n w.history ≤ 1
    mine n = let e = held.mine.entered n in let o = held.mine.one n in let m = one_most (is_among_first n (stand_of w j).submitted) in omega (arith, e, o, m)

    each : (i n : ℕ) → i < driver_count → (i ≡ j) ⊎ (i ≡ j → ⊥) → entries_at (Driver i) n w.history ≤ 1
    each i n l (inl e) = subst (λ k. entries_at (Driver k) n w.history ≤ 1) (sym e) (mine n)
    each i n l (inr ne) = let o = held.others i l ne in let e = o.entered n in let f = o.one n in let m = one_most (is_among_first n (stand_of w i).submitted) in omega (arith, e, f, m)
