-- Where no actor's turn moves, every line is finished.
use Rattle.std.proofs.Common.{◌≡◌, ℕ, zero, suc, ◌+◌, ◌-◌, ◌≤◌, ◌<◌, Bool, true, false, cond, ◌&&◌, ◌||◌, not, List, [], ◌∷◌, ◌++◌, length, get_or, filter, slice_get, Option, Some, None, refl, arith, ◌∙◌, ap, sym, subst, ◌⊎◌, inl, inr, append_assoc, append-nil, length-append}
use Rattle.std.specs.Prelude.{nat_le}
use Rattle.std.specs.List.{list_all, list_any, range_with_len}
use Rattle.std.proofs.lemmas.Bool.{and_parts, leb-true, cases_lt, false≢true}
use Rattle.std.proofs.lemmas.Bool.Decides.{nat_tests}
use Rattle.std.proofs.lemmas.List.Elements.{filter-append}
use Rattle.vi_bytes.specs.declared.lease.Lease.{Lease}
use Rattle.vi_history.specs.Translation.{permits}
use Rattle.vi_history.specs.declared.call.Caller.{Caller}
use Rattle.vi_history.specs.declared.call.Caller.TheVariants.{Driver, Back}
use Rattle.vi_lines.specs.declared.job.Job.{Job}
use Rattle.vi_lines.specs.declared.job.Job.TheVariants as job
use Rattle.vi_lines.specs.declared.line.Line.{Line}
use Rattle.vi_lines.specs.declared.line.Await.{Await}
use Rattle.vi_lines.specs.Value.{ScriptValue}
use Rattle.vi_lines.specs.Valid.{IsValid, is_line, is_caller_in, driver_does, AwaitAbove}
use Rattle.vi_lines.specs.Rules.{awaits_well, count_lines}
use Rattle.vi_lines.specs.Calls.{same_caller, lines_of, line_of, awaits_in, awaits_of}
use Rattle.vi_lines.specs.Order.{due_place}
use Rattle.vi_lines.proofs.IndexLemmas.{same_caller-eq, same_caller-self}
use Rattle.vi_order.proofs.Awaits.{slice_get-append}
use Rattle.vi_model.specs.Control.{Answered, driver_count, port_of, link_of}
use Rattle.vi_model.specs.Places.{place_count, back_at}
use Rattle.vi_model.specs.Posted.{posted_of, is_posted, all_posted, is_awaited}
use Rattle.vi_model.specs.Starts.{any}
use Rattle.vi_model.specs.Serves.{page_of}
use Rattle.vi_model.specs.Caches.{cached_at}
use Rattle.vi_model.specs.Drivers.{Stand, finished_first, first_answer, Parcel, parcel_of, submit_parcel, is_one_batch, submit_line, collect_first, driver_turn}
use Rattle.vi_model.specs.Backs.{Seat, Access, need_of, access_at, Accesses, Asks, Receives, Rests, miss_of, part_wish, current_wish, is_empty, current_awaits, owes_posting, wish}
use Rattle.vi_model.specs.Worlds.{World, stand_of, seat_of}
use Rattle.vi_model.specs.Turns.{is_none}
use Rattle.vi_model.specs.Tracks.{stands_at}
use Rattle.vi_model.specs.Held.{count_answers, count_line}
use Rattle.vi_model.specs.Rounds.{is_driver_finished, is_back_finished, is_finished}
use Rattle.vi_sound.proofs.Values.Parcels.{driver_does_it}
use Rattle.vi_sound.proofs.Values.Known.{place_there}
use Rattle.vi_sound.proofs.Falling.Falls.{line_get}
use Rattle.vi_sound.proofs.Falling.Stills.{BackStill, place_id}
use Rattle.vi_sound.proofs.Falling.Quiet.{Quiet, back_idle, back_told, none_held, none_counted}
use Rattle.vi_sound.proofs.Values.DueParts.{current_part}

-- the caller's lines are all posted, or its next line awaits one that isn't
abbrev pub IsAtEnd : ScriptValue → World → Caller → Type 0
IsAtEnd s w c = (length (lines_of s c) ≤ posted_of s w.control c) ⊎ (all_posted s w.control (awaits_of s c (posted_of s w.control c + 1)) ≡ false)

next_line : {A : Type 0} (xs : List A) (n : ℕ) → n < length xs → (x : A) × (slice_get xs n ≡ Some x)
next_line [] n lt = absurd (omega (arith, lt))
next_line (x ∷ xs) zero lt = (x, refl)
next_line (x ∷ xs) (suc n) lt = next_line xs n (omega (arith, lt))

-- ---- back ends

back_waits : (s : ScriptValue) (w : World) (k : ℕ) → IsValid s → Quiet s w → k < place_count s
    → (length (lines_of s (back_at s k)) ≤ (seat_of w k).finished) ⊎ (all_posted s w.control (current_awaits s k (seat_of w k)) ≡ false)
unfolding wish
back_waits s w k valid q lt = go z.asking (back_idle s w k q lt) (nat_le 16 z.since || owes_posting s k z) busy (nat_le (length (lines_of s (back_at s k))) z.finished) refl (is_empty (current_awaits s k z)) z.ready b.tests refl b.way
  where
    z : Seat
    z = seat_of w k

    b : BackStill s w k
    b = q.backs k lt

    lines : ℕ
    lines = length (lines_of s (back_at s k))

    busy : (nat_le 16 z.since || owes_posting s k z) ≡ false
    busy =
        let a : nat_le 16 z.since ≡ false = ap (nat_le 16) b.still.since in
        let none : z.finished - z.told ≡ 0 = (let t = (back_told s w k q lt).0 in omega (arith, t)) in
        let p : owes_posting s k z ≡ false = ap (λ n. list_any (is_awaited s (back_at s k)) (range_with_len (z.told + 1) n)) none in
        ap (λ v. v || owes_posting s k z) a ∙ p

    parts : z.finished < lines → (a : Access) × (access_at s k (z.finished + 1) (z.done + 1) ≡ Some a)
    parts more =
        let l = next_line (lines_of s (back_at s k)) z.finished more in
        let none : any (link_of w.control k).replies ≡ false = ap any b.still.replies in
        let at : due_place s (back_at s k) w.history ≡ record { line = z.finished + 1; part = z.done + 1 } = (q.sound.backs k lt).track.at ∙ ap (stands_at z) none in
        current_part s k (z.finished + 1) (z.done + 1) w.history l.0 valid q.sound.told.ordered at (omega arith) (line_get s (back_at s k) z.finished ∙ l.1)

    picked : (a : Access) (l : Lease) (c : Bool) (t : Bool) → (cond c (Accesses l a) (Asks (miss_of z a true)) ≡ Receives t) ⊎ (cond c (Accesses l a) (Asks (miss_of z a true)) ≡ Rests) → ⊥
    picked a l true t (inl h) = absurd cc
    picked a l true t (inr h) = absurd cc
    picked a l false t (inl h) = absurd cc
    picked a l false t (inr h) = absurd cc

    leased : (a : Access) (o : Option Lease) (t : Bool) → (part_wish z a o ≡ Receives t) ⊎ (part_wish z a o ≡ Rests) → ⊥
    leased a None t (inl h) = absurd cc
    leased a None t (inr h) = absurd cc
    leased a (Some l) t h = picked a l (permits (need_of a.work) l.perm) t h

    current : (t : Bool) → (current_wish z (access_at s k (z.finished + 1) (z.done + 1)) ≡ Receives t) ⊎ (current_wish z (access_at s k (z.finished + 1) (z.done + 1)) ≡ Rests) → z.finished < lines → ⊥
    current t h more =
        let p = parts more in
        leased p.0 (cached_at (page_of p.0.part.iova) z.cache) t (subst (λ o. (current_wish z o ≡ Receives t) ⊎ (current_wish z o ≡ Rests)) p.1 h)

    unfinished : (f : Bool) → nat_le lines z.finished ≡ f → f ≡ false → z.finished < lines
    unfinished f e i = grind (arith, nat_tests)

    finished : (f : Bool) → nat_le lines z.finished ≡ f → f ≡ true → lines ≤ z.finished
    finished f e i = leb-true lines z.finished (e ∙ i)

    awaits_one : (t : Bool) → b.tests ≡ t → Receives true ≡ Receives t → all_posted s w.control (current_awaits s k z) ≡ false
    awaits_one true e h = ap (λ v. v && all_posted s w.control (current_awaits s k z)) (sym e) ∙ b.still.found
    awaits_one false e h = absurd cc

    go : (o : Bool) → o ≡ false → (r : Bool) → r ≡ false → (f : Bool) → nat_le lines z.finished ≡ f → (n y t : Bool) → b.tests ≡ t
        → (cond (o || r) (Receives false) (cond f Rests (cond (not n && not y) (Receives true) (current_wish z (access_at s k (z.finished + 1) (z.done + 1))))) ≡ Receives t)
        ⊎ (cond (o || r) (Receives false) (cond f Rests (cond (not n && not y) (Receives true) (current_wish z (access_at s k (z.finished + 1) (z.done + 1))))) ≡ Rests)
        → (lines ≤ z.finished) ⊎ (all_posted s w.control (current_awaits s k z) ≡ false)
    go true i r j f ef n y t et h = absurd cc
    go false i true j f ef n y t et h = absurd cc
    go false i false j true ef n y t et h = inl (finished true ef refl)
    go false i false j false ef true y t et h = absurd (current t h (unfinished false ef refl))
    go false i false j false ef false true t et h = absurd (current t h (unfinished false ef refl))
    go false i false j false ef false false t et (inl h) = inr (awaits_one t et h)
    go false i false j false ef false false t et (inr h) = absurd cc

back_end : (s : ScriptValue) (w : World) (k : ℕ) → IsValid s → Quiet s w → k < place_count s → IsAtEnd s w (back_at s k)
back_end s w k valid q lt = subst (λ n. (length (lines_of s (back_at s k)) ≤ n) ⊎ (all_posted s w.control (awaits_of s (back_at s k) (n + 1)) ≡ false)) (sym posted) (back_waits s w k valid q lt)
  where
    posted : posted_of s w.control (back_at s k) ≡ (seat_of w k).finished
    posted = ap (λ i. get_or w.control.posted i 0) (place_id s k valid lt) ∙ (back_told s w k q lt).1

-- ---- drivers

-- no line of a driver without lines is open
lineless : (s : ScriptValue) (w : World) (j : ℕ) → Quiet s w → j < driver_count → length (lines_of s (Driver j)) ≡ 0 → (stand_of w j).open_lines ≡ []
lineless s w j q lt none = none_counted (stand_of w j).open_lines (λ line. by line (cases_lt 0 (count_line line (stand_of w j).open_lines)))
  where
    by : (line : ℕ) → (0 < count_line line (stand_of w j).open_lines) ⊎ (count_line line (stand_of w j).open_lines ≤ 0) → count_line line (stand_of w j).open_lines ≡ 0
    by line (inr z) = omega (arith, z)
    by line (inl some) =
        let d = q.sound.drivers j lt in
        let b = d.below line some in
        let l = d.lines in
        absurd (omega (arith, b.0, b.1, l, none))

answerless : (s : ScriptValue) (w : World) (j : ℕ) → Quiet s w → j < driver_count → 0 < length (lines_of s (Driver j)) → (port_of w.control j).answered ≡ []
unfolding driver_turn
answerless s w j q lt some = go (port_of w.control j).answered refl (q.drivers j lt some)
  where
    go : (xs : List Answered) → (port_of w.control j).answered ≡ xs → collect_first s w.control j (stand_of w j) (first_answer (port_of w.control j).answered) ≡ None → (port_of w.control j).answered ≡ []
    go [] e h = e
    go (a ∷ xs) e h = let g : collect_first s w.control j (stand_of w j) (first_answer (a ∷ xs)) ≡ None = subst (λ v. collect_first s w.control j (stand_of w j) (first_answer v) ≡ None) e h in absurd cc

-- so no line of any driver is
pub none_open : (s : ScriptValue) (w : World) (j : ℕ) → Quiet s w → j < driver_count → (stand_of w j).open_lines ≡ []
none_open s w j q lt = go (cases_lt 0 (length (lines_of s (Driver j))))
  where
    go : (0 < length (lines_of s (Driver j))) ⊎ (length (lines_of s (Driver j)) ≤ 0) → (stand_of w j).open_lines ≡ []
    go (inr z) = lineless s w j q lt (omega (arith, z))
    go (inl some) = none_counted (stand_of w j).open_lines (λ line.
        let one = (q.sound.drivers j lt).one line in
        let held = none_held s w j line q lt in
        let answers : count_answers line (port_of w.control j).answered ≡ 0 = ap (count_answers line) (answerless s w j q lt some) in
        omega (arith, one, held, answers))

driver_posted : (s : ScriptValue) (w : World) (j : ℕ) → Quiet s w → j < driver_count → (port_of w.control j).posted ≡ (stand_of w j).submitted
driver_posted s w j q lt = (q.sound.drivers j lt).posted_is ∙ ap (λ xs. finished_first xs (stand_of w j).submitted) (none_open s w j q lt)

driver_parcel : (s : ScriptValue) (add : Bool) (j : Job) → driver_does add j ≡ true → parcel_of j ≡ None → ⊥
driver_parcel s add (job.Ask request) d h = absurd cc
driver_parcel s add (job.Raw read write) d h = absurd cc
driver_parcel s add (job.Bypass on) d h = absurd cc
driver_parcel s add (job.Read iova len) d h = absurd (false≢true d)
driver_parcel s add (job.Write iova bytes) d h = absurd (false≢true d)

driver_waits : (s : ScriptValue) (w : World) (j : ℕ) (l : Line) → IsValid s → Quiet s w → j < driver_count → 0 < length (lines_of s (Driver j)) → line_of s (Driver j) ((stand_of w j).submitted + 1) ≡ Some l
    → all_posted s w.control l.awaits ≡ false
unfolding driver_turn
driver_waits s w j l valid q lt some e = go (all_posted s w.control l.awaits) refl (parcel_of l.job) refl turned
  where
    d : Stand
    d = stand_of w j

    batch : is_one_batch s j d ≡ true
    batch = ap (λ v. is_one_batch s j (record { submitted = d.submitted; open_lines = v })) (none_open s w j q lt)

    turned : submit_line s w.control j d (Some l) ≡ None
    turned = ap (submit_line s w.control j d) (sym e) ∙ (sym (ap (λ v. collect_first s w.control j d (first_answer v)) (answerless s w j q lt some)) ∙ q.drivers j lt some)

    go : (b : Bool) → all_posted s w.control l.awaits ≡ b → (o : Option Parcel) → parcel_of l.job ≡ o → submit_line s w.control j d (Some l) ≡ None → all_posted s w.control l.awaits ≡ false
    go false p o eo h = p
    go true p None eo h = absurd (driver_parcel s l.add l.job (driver_does_it s j (d.submitted + 1) l valid e) eo)
    go true p (Some parcel) eo h =
        let both : (is_one_batch s j d && all_posted s w.control l.awaits) ≡ true = ap (λ v. v && all_posted s w.control l.awaits) batch ∙ p in
        let one : submit_line s w.control j d (Some l) ≡ submit_parcel w.control j d (Some parcel) = ap (λ v. cond v (submit_parcel w.control j d (parcel_of l.job)) None) both ∙ ap (submit_parcel w.control j d) eo in
        let two : submit_parcel w.control j d (Some parcel) ≡ None = sym one ∙ h in
        absurd cc

driver_end : (s : ScriptValue) (w : World) (j : ℕ) → IsValid s → Quiet s w → j < driver_count → IsAtEnd s w (Driver j)
driver_end s w j valid q lt = subst (λ n. (length (lines_of s (Driver j)) ≤ n) ⊎ (all_posted s w.control (awaits_of s (Driver j) (n + 1)) ≡ false)) (sym (driver_posted s w j q lt)) (go (cases_lt (stand_of w j).submitted (length (lines_of s (Driver j)))))
  where
    go : ((stand_of w j).submitted < length (lines_of s (Driver j))) ⊎ (length (lines_of s (Driver j)) ≤ (stand_of w j).submitted)
        → (length (lines_of s (Driver j)) ≤ (stand_of w j).submitted) ⊎ (all_posted s w.control (awaits_of s (Driver j) ((stand_of w j).submitted + 1)) ≡ false)
    go (inr done) = inl done
    go (inl more) =
        let l = next_line (lines_of s (Driver j)) (stand_of w j).submitted more in
        let e : line_of s (Driver j) ((stand_of w j).submitted + 1) ≡ Some l.0 = line_get s (Driver j) (stand_of w j).submitted ∙ l.1 in
        inr (ap (λ o. all_posted s w.control (awaits_in o)) e ∙ driver_waits s w j l.0 valid q lt (omega (arith, more)) e)

-- ---- line by line, in the script's order

caller_end : (s : ScriptValue) (w : World) (c : Caller) → IsValid s → Quiet s w → is_caller_in s.setup.endpoints c ≡ true → IsAtEnd s w c
caller_end s w (Driver j) valid q h = let n = leb-true j 7 h in driver_end s w j valid q (omega (arith, n))
caller_end s w (Back id) valid q h = let k = place_there s.setup.endpoints id h in subst (λ i. IsAtEnd s w (Back i)) k.2 (back_end s w k.0 valid q k.1)

-- of these lines each is posted
abbrev ArePosted : ScriptValue → World → List Line → Type 0
ArePosted s w above = (c : Caller) → count_lines above c ≤ posted_of s w.control c

awaits_posted : (s : ScriptValue) (w : World) (above : List Line) (c : Caller) (awaits : List Await) → ArePosted s w above → list_all (λ a. awaits_well above c a) awaits ≡ true → all_posted s w.control awaits ≡ true
awaits_posted s w above c [] done h = refl
awaits_posted s w above c (a ∷ rest) done h =
    let both = and_parts (awaits_well above c a) (list_all (λ a. awaits_well above c a) rest) h in
    let inside = and_parts (not (same_caller a.caller c)) (nat_le 1 a.line && nat_le a.line (count_lines above a.caller)) both.0 in
    let low = leb-true a.line (count_lines above a.caller) (and_parts (nat_le 1 a.line) (nat_le a.line (count_lines above a.caller)) inside.1).1 in
    let posted = done a.caller in
    let here : is_posted s w.control a ≡ true = le_true a.line (posted_of s w.control a.caller) (omega (arith, low, posted)) in
    ap (λ v. v && all_posted s w.control rest) here ∙ awaits_posted s w above c rest done both.1
  where
    le_true : (m n : ℕ) → m ≤ n → nat_le m n ≡ true
    le_true m n h = grind (arith, nat_tests)

one_line : (l : Line) (c : Caller) → (same_caller l.caller c ≡ true → count_lines (l ∷ []) c ≡ 1) × (same_caller l.caller c ≡ false → count_lines (l ∷ []) c ≡ 0)
one_line l c = (λ e. ap (λ b. length (cond b (l ∷ []) [])) e, λ e. ap (λ b. length (cond b (l ∷ []) [])) e)

line_posted : (s : ScriptValue) (w : World) (above : List Line) (l : Line) (ls : List Line) → IsValid s → Quiet s w → s.lines ≡ above ++ l ∷ ls → is_line s.setup.endpoints l ≡ true
    → list_all (λ a. awaits_well above l.caller a) l.awaits ≡ true → ArePosted s w above → ArePosted s w (above ++ l ∷ [])
line_posted s w above l ls valid q split ok well done c = go (same_caller l.caller c) refl
  where
    sizes : count_lines (above ++ l ∷ []) c ≡ count_lines above c + count_lines (l ∷ []) c
    sizes = ap length (filter-append (λ l. same_caller l.caller c) above (l ∷ [])) ∙ length-append (filter (λ l. same_caller l.caller c) above) (filter (λ l. same_caller l.caller c) (l ∷ []))

    there : is_caller_in s.setup.endpoints l.caller ≡ true
    there = (and_parts (is_caller_in s.setup.endpoints l.caller) _ ok).0

    own : l.caller ≡ c → (posted_of s w.control c ≡ count_lines above c) → all_posted s w.control (awaits_of s c (posted_of s w.control c + 1)) ≡ true
    own is same =
        let all : lines_of s c ≡ filter (λ l. same_caller l.caller c) above ++ filter (λ l. same_caller l.caller c) (l ∷ ls) = ap (filter (λ l. same_caller l.caller c)) split ∙ filter-append (λ l. same_caller l.caller c) above (l ∷ ls) in
        let mine : same_caller l.caller c ≡ true = subst (λ d. same_caller l.caller d ≡ true) is (same_caller-self l.caller) in
        let first : filter (λ l. same_caller l.caller c) (l ∷ ls) ≡ l ∷ filter (λ l. same_caller l.caller c) ls = ap (λ b. cond b (l ∷ filter (λ l. same_caller l.caller c) ls) (filter (λ l. same_caller l.caller c) ls)) mine in
        let n : ℕ = count_lines above c in
        let zero' : n + 0 ≡ n = omega arith in
        let got : slice_get (lines_of s c) n ≡ Some l =
        ap (λ ls. slice_get ls n) all ∙ (ap (slice_get (filter (λ l. same_caller l.caller c) above ++ filter (λ l. same_caller l.caller c) (l ∷ ls))) (sym zero')
        ∙ (slice_get-append (filter (λ l. same_caller l.caller c) above) (filter (λ l. same_caller l.caller c) (l ∷ ls)) 0 ∙ ap (λ xs. slice_get xs 0) first)) in
        let line : line_of s c (posted_of s w.control c + 1) ≡ Some l = ap (λ m. line_of s c (m + 1)) same ∙ (line_get s c n ∙ got) in
        ap (λ o. all_posted s w.control (awaits_in o)) line ∙ awaits_posted s w above l.caller l.awaits done well

    longer : l.caller ≡ c → count_lines above c + 1 ≤ length (lines_of s c)
    longer is =
        let all : length (lines_of s c) ≡ count_lines above c + length (filter (λ l. same_caller l.caller c) (l ∷ ls)) =
        ap length (ap (filter (λ l. same_caller l.caller c)) split ∙ filter-append (λ l. same_caller l.caller c) above (l ∷ ls)) ∙ length-append (filter (λ l. same_caller l.caller c) above) (filter (λ l. same_caller l.caller c) (l ∷ ls)) in
        let mine : same_caller l.caller c ≡ true = subst (λ d. same_caller l.caller d ≡ true) is (same_caller-self l.caller) in
        let first : length (filter (λ l. same_caller l.caller c) (l ∷ ls)) ≡ suc (length (filter (λ l. same_caller l.caller c) ls)) = ap (λ b. length (cond b (l ∷ filter (λ l. same_caller l.caller c) ls) (filter (λ l. same_caller l.caller c) ls))) mine in
        omega (arith, all, first)

    ends : l.caller ≡ c → IsAtEnd s w c → (posted_of s w.control c ≡ count_lines above c) → ⊥
    ends is (inl past) same = let n = longer is in omega (arith, past, n, same)
    ends is (inr wants) same = false≢true (sym wants ∙ own is same)

    go : (b : Bool) → same_caller l.caller c ≡ b → count_lines (above ++ l ∷ []) c ≤ posted_of s w.control c
    go false e = let z = (one_line l c).1 e in let d = done c in omega (arith, sizes, z, d)
    go true e = by (cases_lt (count_lines above c) (posted_of s w.control c))
      where
        is : l.caller ≡ c
        is = same_caller-eq l.caller c e

        by : (count_lines above c < posted_of s w.control c) ⊎ (posted_of s w.control c ≤ count_lines above c) → count_lines (above ++ l ∷ []) c ≤ posted_of s w.control c
        by (inl more) = let o = (one_line l c).0 e in omega (arith, sizes, o, more)
        by (inr few) = let d = done c in absurd (ends is (caller_end s w c valid q (subst (λ d. is_caller_in s.setup.endpoints d ≡ true) is there)) (omega (arith, few, d)))

all_lines : (s : ScriptValue) (w : World) (above ls : List Line) → IsValid s → Quiet s w → s.lines ≡ above ++ ls → list_all (λ l. is_line s.setup.endpoints l) ls ≡ true → AwaitAbove above ls → ArePosted s w above → ArePosted s w (above ++ ls)
all_lines s w above [] valid q split ok awaits done = subst (ArePosted s w) (sym (append-nil above)) done
all_lines s w above (l ∷ ls) valid q split ok awaits done =
    let both = and_parts (is_line s.setup.endpoints l) (list_all (λ l. is_line s.setup.endpoints l) ls) ok in
    subst (ArePosted s w) (append_assoc above (l ∷ []) ls)
    (all_lines s w (above ++ l ∷ []) ls valid q (split ∙ sym (append_assoc above (l ∷ []) ls)) both.1 awaits.1 (line_posted s w above l ls valid q split both.0 awaits.0 done))

pub lines_posted : (s : ScriptValue) (w : World) (c : Caller) → IsValid s → Quiet s w → length (lines_of s c) ≤ posted_of s w.control c
lines_posted s w c valid q = all_lines s w [] s.lines valid q refl valid.lines_each valid.awaits_each (λ c. omega arith) c

-- ---- the world is finished

all_range : (p : ℕ → Bool) (a n : ℕ) → ((i : ℕ) → a ≤ i → i < a + n → p i ≡ true) → list_all p (range_with_len a n) ≡ true
all_range p a zero h = refl
all_range p a (suc n) h = ap (λ v. v && list_all p (range_with_len (a + 1) n)) (h a (omega arith) (omega arith)) ∙ all_range p (a + 1) n (λ i low high. h i (omega (arith, low)) (omega (arith, high)))

le_true : (m n : ℕ) → m ≤ n → nat_le m n ≡ true
le_true m n h = grind (arith, nat_tests)

pub quiet_finished : (s : ScriptValue) (w : World) → IsValid s → Quiet s w → is_finished s w ≡ true
unfolding is_finished
quiet_finished s w valid q = ap (λ v. v && list_all (is_back_finished s w) (range_with_len 0 (place_count s))) (all_range (is_driver_finished s w) 0 driver_count drivers) ∙ all_range (is_back_finished s w) 0 (place_count s) backs
  where
    drivers : (j : ℕ) → 0 ≤ j → j < 0 + driver_count → is_driver_finished s w j ≡ true
    drivers j low high =
        let lt : j < driver_count = omega (arith, high) in
        let done = lines_posted s w (Driver j) valid q in
        let posted = driver_posted s w j q lt in
        let all : nat_le (length (lines_of s (Driver j))) (stand_of w j).submitted ≡ true = le_true (length (lines_of s (Driver j))) (stand_of w j).submitted (omega (arith, done, posted)) in
        ap (λ v. v && is_none (stand_of w j).open_lines) all ∙ ap is_none (none_open s w j q lt)

    backs : (k : ℕ) → 0 ≤ k → k < 0 + place_count s → is_back_finished s w k ≡ true
    backs k low high =
        let lt : k < place_count s = omega (arith, high) in
        let done = lines_posted s w (back_at s k) valid q in
        let told : posted_of s w.control (back_at s k) ≡ (seat_of w k).finished = ap (λ i. get_or w.control.posted i 0) (place_id s k valid lt) ∙ (back_told s w k q lt).1 in
        le_true (length (lines_of s (back_at s k))) (seat_of w k).finished (omega (arith, done, told))
