-- What is seen behind some entries, and the same with one more.
use Rattle.std.proofs.Common.{◌≡◌, ℕ, zero, suc, ◌+◌, ◌-◌, ◌<◌, ◌≤◌, ◌==◌, ◌&&◌, ◌||◌, Bool, true, false, not, nat_lt, List, [], ◌∷◌, ◌++◌, length, map, Some, get_or, set, replicate, refl, sym, ap, ◌∙◌, arith, inl, inr, length-set}
use Rattle.std.specs.Prelude.{nat_le, All}
use Rattle.std.specs.List.{find, list_all, range_with_len}
use Rattle.std.proofs.lemmas.Bool.{cases_Bool, cases_lt, cases_eq, le-leb, lt-leb, eq-eqb, ne_eqb, eqb-true, eqb-false, leb-true, or_left, or_right, false≢true}
use Rattle.std.proofs.lemmas.Bool.Decides.{nat_tests}
use Rattle.std.proofs.lemmas.List.{get_or_past, get_or-set_same, get_or-set_other, same_lists}
use Rattle.std.proofs.lemmas.List.Elements.{All-head, All-tail}
use Rattle.std.proofs.lemmas.List.FromFn.{length-map-range_with_len, get_or-map-range_with_len}
use Rattle.std.proofs.lemmas.List.Sums.{prefix_len_passes, prefix_len_stops}
use Rattle.vi_bytes.specs.declared.region.EndpointSetup.{EndpointSetup}
use Rattle.vi_history.specs.declared.call.Call.{Call}
use Rattle.vi_history.specs.declared.call.Caller.{Caller}
use Rattle.vi_history.specs.declared.call.Caller.TheVariants.{Driver, Back}
use Rattle.vi_history.specs.declared.entry.Entry.{Entry}
use Rattle.vi_lines.specs.declared.line.Await.{Await}
use Rattle.vi_lines.specs.Calls.{same_caller, lines_of, awaits_of}
use Rattle.vi_lines.specs.Order.{entries_at, batch_of, due_place, place_after, is_whole}
use Rattle.vi_lines.specs.Valid.{IsValid, has_endpoint}
use Rattle.vi_lines.specs.Value.{ScriptValue}
use Rattle.vi_check.specs.declared.progress.Next.{Next}
use Rattle.vi_check.specs.Due.{is_entered, is_past_fault, is_next, is_due, line_numbers, call_at}
use Rattle.vi_check.specs.Seen.{FitsScript, nothing_seen, has_entry, next_in, next_of, has_passed, has_finished, done_first, comes_next, may_come, next_at, moved_if, with_entry_of, with_entry, entered_lines, seen_of}
use Rattle.vi_check.proofs.BatchLemmas.{batch_of-le}
use Rattle.vi_check.proofs.EnteredLemmas.{done_first-le}
use Rattle.vi_check.proofs.CallLemmas.{IsGood, IsAwaited, caller_there, good, good_awaits}
use Rattle.vi_check.proofs.TrackedLemmas.{IsTracked, of_own, of_other, driver_more, due_place-same, due_place-other}

-- the numbers of drivers are below 8
pub driver_below : (s : ScriptValue) (number line : ℕ) → IsValid s → 1 ≤ line → line ≤ length (lines_of s (Driver number)) → number < 8
driver_below s number line v first last =
    let h = leb-true number 7 (caller_there s (Driver number) line v first last) in
    omega (arith, h)

pub endpoint_there : (s : ScriptValue) (endpoint line : ℕ) → IsValid s → 1 ≤ line → line ≤ length (lines_of s (Back endpoint)) → has_endpoint s.setup.endpoints endpoint ≡ true
endpoint_there s endpoint line v first last = caller_there s (Back endpoint) line v first last

-- what is seen of a driver and of one of its lines
pub length-entered_lines : (s : ScriptValue) (before : List Entry) (number : ℕ) → length (entered_lines s before number) ≡ length (lines_of s (Driver number))
length-entered_lines s before number = length-map-range_with_len (λ line. nat_lt 0 (entries_at (Driver number) line before)) 1 (length (lines_of s (Driver number)))

pub driver_seen : (s : ScriptValue) (before : List Entry) (number : ℕ) → number < 8 → get_or (seen_of s before).drivers number [] ≡ entered_lines s before number
unfolding seen_of
driver_seen s before number below = get_or-map-range_with_len (λ number. entered_lines s before number) 0 8 number number [] below (omega arith)

pub line_seen : (s : ScriptValue) (before : List Entry) (number line : ℕ) → 1 ≤ line → line ≤ length (lines_of s (Driver number))
    → get_or (entered_lines s before number) (line - 1) false ≡ nat_lt 0 (entries_at (Driver number) line before)
line_seen s before number line first last =
    get_or-map-range_with_len (λ line. nat_lt 0 (entries_at (Driver number) line before)) 1 (length (lines_of s (Driver number))) (line - 1) line false (omega arith) (omega arith)

pub has_entry-seen : (s : ScriptValue) (before : List Entry) (number line : ℕ) → IsValid s → 1 ≤ line → line ≤ length (lines_of s (Driver number))
    → has_entry (seen_of s before) number line ≡ nat_lt 0 (entries_at (Driver number) line before)
has_entry-seen s before number line v first last =
    ap (λ (xs : List Bool). get_or xs (line - 1) false) (driver_seen s before number (driver_below s number line v first last)) ∙ line_seen s before number line first last

-- a driver without a number has no line
no_driver_lines : (s : ScriptValue) (number : ℕ) → IsValid s → 8 ≤ number → length (lines_of s (Driver number)) ≡ 0
no_driver_lines s number v beyond =
    elim (cases_lt 0 (length (lines_of s (Driver number)))) [
      | inl some ↦ let below = driver_below s number 1 v (omega arith) (omega arith) in absurd (omega arith)
      | inr none ↦ omega arith
    ]

pub FitsScript-seen : (s : ScriptValue) (before : List Entry) → IsValid s → FitsScript s (seen_of s before)
unfolding seen_of
FitsScript-seen s before v number =
    elim (cases_lt number 8) [
      | inl below ↦ ap (λ (xs : List Bool). length xs) (driver_seen s before number below) ∙ length-entered_lines s before number
      | inr beyond ↦
          let past : get_or (seen_of s before).drivers number [] ≡ [] =
          get_or_past (seen_of s before).drivers number [] (omega (arith, length-map-range_with_len (λ number. entered_lines s before number) 0 8)) in
          ap (λ (xs : List Bool). length xs) past ∙ sym (no_driver_lines s number v beyond)
    ]

-- what is seen of a back end
back_seen : (s : ScriptValue) (before : List Entry) (es : List EndpointSetup) (endpoint : ℕ) → has_endpoint es endpoint ≡ true
    → find (λ (next : Next). next.endpoint == endpoint) (map (λ e. next_at e.id (due_place s (Back e.id) before)) es) ≡ Some (next_at endpoint (due_place s (Back endpoint) before))
back_seen s before [] endpoint h = absurd (false≢true h)
back_seen s before (e ∷ es) endpoint h =
    elim (cases_Bool (e.id == endpoint)) [
      | inl y ↦ rw y (ap (λ id. Some (next_at id (due_place s (Back id) before))) (eqb-true e.id endpoint y))
      | inr n ↦ let rest : has_endpoint es endpoint ≡ true = rw n at h in rw n (back_seen s before es endpoint rest)
    ]

pub next_of-seen : (s : ScriptValue) (before : List Entry) (endpoint : ℕ) → has_endpoint s.setup.endpoints endpoint ≡ true → next_of (seen_of s before) endpoint ≡ next_at endpoint (due_place s (Back endpoint) before)
unfolding seen_of
next_of-seen s before endpoint h = ap (λ o. next_in endpoint o) (back_seen s before s.setup.endpoints endpoint h)

-- which calls have passed, and which lines are whole
pub has_passed-seen : (s : ScriptValue) (before : List Entry) (c : Caller) (line part : ℕ) (call : Call) → IsValid s → IsTracked s before → IsGood s c line part call
    → has_passed (seen_of s before) c line part ≡ (is_entered before c line part || is_past_fault before c line part)
has_passed-seen s before (Driver number) line part call v t g = has_entry-seen s before number line v g.first g.last ∙ sym (t.passed (Driver number) line part call g)
has_passed-seen s before (Back endpoint) line part call v t g =
    let next = next_of-seen s before endpoint g.caller_in in
    rw next (sym (t.passed (Back endpoint) line part call g))

has_finished-seen : (s : ScriptValue) (before : List Entry) (c : Caller) (line : ℕ) → IsValid s → IsTracked s before → 1 ≤ line → line ≤ length (lines_of s c)
    → has_finished (seen_of s before) c line ≡ is_whole s before (record { caller = c; line = line })
has_finished-seen s before (Driver number) line v t first last = has_entry-seen s before number line v first last ∙ sym (t.whole (Driver number) line first)
has_finished-seen s before (Back endpoint) line v t first last =
    let next = next_of-seen s before endpoint (endpoint_there s endpoint line v first last) in
    rw next (sym (t.whole (Back endpoint) line first))

awaits_seen : (s : ScriptValue) (before : List Entry) (xs : List Await) → IsValid s → IsTracked s before → All (λ a. IsAwaited s.lines a) xs
    → list_all (λ a. has_finished (seen_of s before) a.caller a.line) xs ≡ list_all (λ a. is_whole s before a) xs
awaits_seen s before [] v t h = refl
awaits_seen s before (a ∷ xs) v t h =
    let one = All-head (λ a. IsAwaited s.lines a) a xs h in
    let this = has_finished-seen s before a.caller a.line v t one.0 one.1 in
    rw this (ap (λ b. is_whole s before a && b) (awaits_seen s before xs v t (All-tail (λ a. IsAwaited s.lines a) a xs h)))

-- the first batch of a driver that isn't done
zero_test : (n : ℕ) → (n == 0) ≡ not (nat_lt 0 n)
zero_test n = grind (arith, nat_tests)

-- whether a line of an earlier batch has no entry
abbrev pub lets_pass : ScriptValue → List Entry → ℕ → ℕ → ℕ → Bool
lets_pass s before number line earlier = nat_le (batch_of s (Driver number) line) (batch_of s (Driver number) earlier) || nat_lt 0 (entries_at (Driver number) earlier before)

pub list_all-range : (p : ℕ → Bool) (a n : ℕ) → ((j : ℕ) → a ≤ j → j < a + n → p j ≡ true) → list_all p (range_with_len a n) ≡ true
list_all-range p a zero each = refl
list_all-range p a (suc n) each = rw (each a (omega arith) (omega arith)) (list_all-range p (a + 1) n (λ j low high. each j (omega arith) (omega arith)))

list_all-range_no : (p : ℕ → Bool) (a n j : ℕ) → a ≤ j → j < a + n → p j ≡ false → list_all p (range_with_len a n) ≡ false
list_all-range_no p a zero j low high fails = absurd (omega arith)
list_all-range_no p a (suc n) j low high fails =
    elim (cases_eq a j) [
      | inl e ↦ let here : p a ≡ false = rw e fails in rw here refl
      | inr ne ↦ elim (cases_Bool (p a)) [
        | inl y ↦ rw y (list_all-range_no p (a + 1) n j (omega arith) (omega arith) fails)
        | inr z ↦ rw z refl
      ]
    ]

pub passes : (s : ScriptValue) (before : List Entry) (number line j d : ℕ) → batch_of s (Driver number) (d + 1) ≡ batch_of s (Driver number) line → d ≡ done_first (entered_lines s before number)
    → 1 ≤ j → j ≤ length (lines_of s (Driver number)) → lets_pass s before number line j ≡ true
passes s before number line j d e is low high =
    let xs = entered_lines s before number in
    elim (cases_lt d j) [
      | inl above ↦ or_left (nat_le (batch_of s (Driver number) line) (batch_of s (Driver number) j)) _ (le-leb _ _ (omega (arith, e, batch_of-le s (Driver number) (d + 1) j (omega arith))))
      | inr below ↦
          let done : get_or xs (j - 1) false ≡ true = prefix_len_passes (λ (e : Bool). e) xs (j - 1) false (omega (arith, is)) in
          or_right (nat_le (batch_of s (Driver number) line) (batch_of s (Driver number) j)) _ (sym (line_seen s before number j low high) ∙ done)
    ]

first_batch : (s : ScriptValue) (before : List Entry) (number line : ℕ) → 1 ≤ line → line ≤ length (lines_of s (Driver number)) → nat_lt 0 (entries_at (Driver number) line before) ≡ false
    → (batch_of s (Driver number) (done_first (entered_lines s before number) + 1) == batch_of s (Driver number) line) ≡ list_all (λ earlier. lets_pass s before number line earlier) (line_numbers s (Driver number))
first_batch s before number line first last open' =
    let xs = entered_lines s before number in
    let d = done_first xs in
    let count = length-entered_lines s before number in
    let none : get_or xs (line - 1) false ≡ false = line_seen s before number line first last ∙ open' in
    let le : d ≤ line - 1 = done_first-le xs (line - 1) none in
    let stop : get_or xs d false ≡ false = prefix_len_stops (λ (e : Bool). e) xs false (omega (arith, count)) in
    let at : get_or xs (d + 1 - 1) false ≡ nat_lt 0 (entries_at (Driver number) (d + 1) before) = line_seen s before number (d + 1) (omega arith) (omega arith) in
    let back : d + 1 - 1 ≡ d = omega arith in
    let unentered : nat_lt 0 (entries_at (Driver number) (d + 1) before) ≡ false = sym at ∙ (ap (λ k. get_or xs k false) back ∙ stop) in
    let rises = batch_of-le s (Driver number) (d + 1) line (omega arith) in
    elim (cases_eq (batch_of s (Driver number) (d + 1)) (batch_of s (Driver number) line)) [
      | inl e ↦
          rw (eq-eqb _ _ e) (sym (list_all-range (λ earlier. lets_pass s before number line earlier) 1 (length (lines_of s (Driver number))) (λ j low high. passes s before number line j d e refl low (omega arith))))
      | inr ne ↦
          let less : batch_of s (Driver number) (d + 1) < batch_of s (Driver number) line = omega (arith, rises, ne) in
          let fails : lets_pass s before number line (d + 1) ≡ false = rw (lt-leb _ _ less, unentered) refl in
          rw (ne_eqb _ _ ne) (sym (list_all-range_no (λ earlier. lets_pass s before number line earlier) 1 (length (lines_of s (Driver number))) (d + 1) (omega arith) (omega arith) fails))
    ]

pub comes_next-seen : (s : ScriptValue) (before : List Entry) (c : Caller) (line part : ℕ) (call : Call) → IsValid s → IsGood s c line part call
    → comes_next s (seen_of s before) c line part ≡ is_next s before c line part
comes_next-seen s before (Driver number) line part call v g =
    let has = has_entry-seen s before number line v g.first g.last in
    let seen = driver_seen s before number (driver_below s number line v g.first g.last) in
    let test = zero_test (entries_at (Driver number) line before) in
    elim (cases_Bool (nat_lt 0 (entries_at (Driver number) line before))) [
      | inl y ↦ rw (has, test, y) refl
      | inr n ↦ rw (has, test, n, seen) (first_batch s before number line g.first g.last n)
    ]
comes_next-seen s before (Back endpoint) line part call v g = rw (next_of-seen s before endpoint g.caller_in) refl

pub may_come-seen : (s : ScriptValue) (before : List Entry) (h : Entry) (call : Call) → IsValid s → IsTracked s before → call_at s h ≡ Some call
    → may_come s (seen_of s before) h.mark.caller h.mark.line h.mark.part ≡ is_due s before h
may_come-seen s before h call v t is =
    let g = good s h.mark.caller h.mark.line h.mark.part call v is in
    let next = comes_next-seen s before h.mark.caller h.mark.line h.mark.part call v g in
    let awaits = awaits_seen s before (awaits_of s h.mark.caller h.mark.line) v t (good_awaits s h.mark.caller h.mark.line h.mark.part call v is) in
    rw (next, awaits) refl

or_false : (b : Bool) → (b || false) ≡ b
or_false true = refl
or_false false = refl

map_same : {A B : Type 0} (f g : A → B) (xs : List A) → ((x : A) → f x ≡ g x) → map f xs ≡ map g xs
map_same f g [] same = refl
map_same f g (x ∷ xs) same = rw (same x) (ap (λ ys. g x ∷ ys) (map_same f g xs same))

-- one more entry of a driver
entered_at : (s : ScriptValue) (before : List Entry) (h : Entry) (number : ℕ) → h.mark.caller ≡ Driver number → 1 ≤ h.mark.line → h.mark.line ≤ length (lines_of s (Driver number))
    → (k : ℕ) (d : Bool) → k < length (lines_of s (Driver number))
    → get_or (set (entered_lines s before number) (h.mark.line - 1) true) k d ≡ get_or (entered_lines s (before ++ h ∷ []) number) k d
entered_at s before h number is first last k d below =
    let old = entered_lines s before number in
    let count = length-entered_lines s before number in
    let n = length (lines_of s (Driver number)) in
    let new : get_or (entered_lines s (before ++ h ∷ []) number) k d ≡ nat_lt 0 (entries_at (Driver number) (k + 1) (before ++ h ∷ [])) =
    get_or-map-range_with_len (λ line. nat_lt 0 (entries_at (Driver number) line (before ++ h ∷ []))) 1 n k (k + 1) d below (omega arith) in
    let was : get_or old k d ≡ nat_lt 0 (entries_at (Driver number) (k + 1) before) =
    get_or-map-range_with_len (λ line. nat_lt 0 (entries_at (Driver number) line before)) 1 n k (k + 1) d below (omega arith) in
    let more = driver_more s before h number (k + 1) ∙ ap (λ b. nat_lt 0 (entries_at (Driver number) (k + 1) before) || b) (of_own (Driver number) (k + 1) h is) in
    elim (cases_eq k (h.mark.line - 1)) [
      | inl e ↦
          let here : get_or (set old (h.mark.line - 1) true) k d ≡ true = rw e (get_or-set_same old (h.mark.line - 1) true d (omega (arith, count))) in
          let own : (h.mark.line == k + 1) ≡ true = eq-eqb h.mark.line (k + 1) (omega (arith, e)) in
          here ∙ sym (new ∙ (more ∙ or_right (nat_lt 0 (entries_at (Driver number) (k + 1) before)) _ own))
      | inr ne ↦
          let other : (h.mark.line == k + 1) ≡ false = ne_eqb h.mark.line (k + 1) (λ q. ne (omega (arith, q))) in
          get_or-set_other old (h.mark.line - 1) k true d ne ∙ (was ∙ sym (new ∙ (more ∙ (ap (λ b. nat_lt 0 (entries_at (Driver number) (k + 1) before) || b) other ∙ or_false (nat_lt 0 (entries_at (Driver number) (k + 1) before))))))
    ]

line_entered : (s : ScriptValue) (before : List Entry) (h : Entry) (number : ℕ) → h.mark.caller ≡ Driver number → 1 ≤ h.mark.line → h.mark.line ≤ length (lines_of s (Driver number))
    → set (entered_lines s before number) (h.mark.line - 1) true ≡ entered_lines s (before ++ h ∷ []) number
line_entered s before h number is first last =
    let old = entered_lines s before number in
    let new = entered_lines s (before ++ h ∷ []) number in
    let count = length-entered_lines s before number in
    same_lists (set old (h.mark.line - 1) true) new (omega (arith, length-set old (h.mark.line - 1) true, count, length-entered_lines s (before ++ h ∷ []) number))
    (λ k d below. entered_at s before h number is first last k d (omega (arith, below, length-set old (h.mark.line - 1) true, count)))

same_driver_lines : (s : ScriptValue) (before : List Entry) (h : Entry) (number : ℕ) → same_caller h.mark.caller (Driver number) ≡ false → entered_lines s before number ≡ entered_lines s (before ++ h ∷ []) number
same_driver_lines s before h number other =
    map_same (λ line. nat_lt 0 (entries_at (Driver number) line before)) (λ line. nat_lt 0 (entries_at (Driver number) line (before ++ h ∷ []))) (line_numbers s (Driver number))
    (λ line. sym (driver_more s before h number line ∙ (ap (λ b. nat_lt 0 (entries_at (Driver number) line before) || b) (of_other (Driver number) line h other) ∙ or_false (nat_lt 0 (entries_at (Driver number) line before)))))

same_backs : (s : ScriptValue) (before : List Entry) (h : Entry) (number : ℕ) → h.mark.caller ≡ Driver number → (es : List EndpointSetup)
    → map (λ (e : EndpointSetup). next_at e.id (due_place s (Back e.id) before)) es ≡ map (λ (e : EndpointSetup). next_at e.id (due_place s (Back e.id) (before ++ h ∷ []))) es
same_backs s before h number is es =
    map_same (λ (e : EndpointSetup). next_at e.id (due_place s (Back e.id) before)) (λ (e : EndpointSetup). next_at e.id (due_place s (Back e.id) (before ++ h ∷ []))) es
    (λ (e : EndpointSetup). ap (λ p. next_at e.id p) (sym (due_place-other s (Back e.id) before h (rw is refl))))

-- and of a back end
moved_back : (s : ScriptValue) (before : List Entry) (h : Entry) (endpoint : ℕ) → h.mark.caller ≡ Back endpoint → (e : EndpointSetup)
    → moved_if (next_at endpoint (place_after s h)) (next_at e.id (due_place s (Back e.id) before)) ≡ next_at e.id (due_place s (Back e.id) (before ++ h ∷ []))
moved_back s before h endpoint is e =
    elim (cases_Bool (e.id == endpoint)) [
      | inl y ↦
          let one : endpoint ≡ e.id = sym (eqb-true e.id endpoint y) in
          let same : same_caller h.mark.caller (Back e.id) ≡ true = rw is (eq-eqb endpoint e.id one) in
          rw (y, due_place-same s (Back e.id) before h same) (ap (λ id. next_at id (place_after s h)) one)
      | inr n ↦
          let other : same_caller h.mark.caller (Back e.id) ≡ false = rw is (ne_eqb endpoint e.id (λ q. eqb-false e.id endpoint n (sym q))) in
          rw (n, due_place-other s (Back e.id) before h other) refl
    ]

moved_backs : (s : ScriptValue) (before : List Entry) (h : Entry) (endpoint : ℕ) → h.mark.caller ≡ Back endpoint → (es : List EndpointSetup)
    → map (moved_if (next_at endpoint (place_after s h))) (map (λ (e : EndpointSetup). next_at e.id (due_place s (Back e.id) before)) es)
    ≡ map (λ (e : EndpointSetup). next_at e.id (due_place s (Back e.id) (before ++ h ∷ []))) es
moved_backs s before h endpoint is [] = refl
moved_backs s before h endpoint is (e ∷ es) =
    rw (moved_back s before h endpoint is e, moved_backs s before h endpoint is es) refl

other_number : (i j : ℕ) → (j ≡ i → ⊥) → same_caller (Driver i) (Driver j) ≡ false
other_number i j ne = ne_eqb i j (λ q. ne (sym q))

driver_at : (s : ScriptValue) (before : List Entry) (h : Entry) (number : ℕ) → h.mark.caller ≡ Driver number → (k : ℕ) (d : List Bool) → k < 8
    → get_or (set (map (λ number. entered_lines s before number) (range_with_len 0 8)) number (entered_lines s (before ++ h ∷ []) number)) k d
    ≡ get_or (map (λ number. entered_lines s (before ++ h ∷ []) number) (range_with_len 0 8)) k d
driver_at s before h number is k d below =
    let f = λ (number : ℕ). entered_lines s before number in
    let g = λ (number : ℕ). entered_lines s (before ++ h ∷ []) number in
    let new : get_or (map g (range_with_len 0 8)) k d ≡ g k = get_or-map-range_with_len g 0 8 k k d below (omega arith) in
    elim (cases_eq k number) [
      | inl e ↦
          let here : get_or (set (map f (range_with_len 0 8)) number (g number)) number d ≡ g number = get_or-set_same (map f (range_with_len 0 8)) number (g number) d (omega (arith, e, length-map-range_with_len f 0 8)) in
          ap (λ i. get_or (set (map f (range_with_len 0 8)) number (g number)) i d) e ∙ (here ∙ (ap g (sym e) ∙ sym new))
      | inr ne ↦
          get_or-set_other (map f (range_with_len 0 8)) number k (g number) d ne
          ∙ (get_or-map-range_with_len f 0 8 k k d below (omega arith) ∙ (same_driver_lines s before h k (rw is (other_number number k ne)) ∙ sym new))
    ]

drivers_entered : (s : ScriptValue) (before : List Entry) (h : Entry) (number : ℕ) → h.mark.caller ≡ Driver number → number < 8 → 1 ≤ h.mark.line → h.mark.line ≤ length (lines_of s (Driver number))
    → set (map (λ number. entered_lines s before number) (range_with_len 0 8)) number (set (get_or (map (λ number. entered_lines s before number) (range_with_len 0 8)) number []) (h.mark.line - 1) true)
    ≡ map (λ number. entered_lines s (before ++ h ∷ []) number) (range_with_len 0 8)
drivers_entered s before h number is below first last =
    let f = λ (number : ℕ). entered_lines s before number in
    let g = λ (number : ℕ). entered_lines s (before ++ h ∷ []) number in
    let old = map f (range_with_len 0 8) in
    let own : get_or old number [] ≡ f number = get_or-map-range_with_len f 0 8 number number [] below (omega arith) in
    let one : set (get_or old number []) (h.mark.line - 1) true ≡ g number = ap (λ xs. set xs (h.mark.line - 1) true) own ∙ line_entered s before h number is first last in
    let size = length-map-range_with_len f 0 8 in
    rw one (same_lists (set old number (g number)) (map g (range_with_len 0 8)) (omega (arith, length-set old number (g number), size, length-map-range_with_len g 0 8))
    (λ k d below'. driver_at s before h number is k d (omega (arith, below', length-set old number (g number), size))))

with_entry_by : (s : ScriptValue) (before : List Entry) (h : Entry) (c : Caller) → IsValid s → h.mark.caller ≡ c → 1 ≤ h.mark.line → h.mark.line ≤ length (lines_of s c)
    → with_entry_of s h (seen_of s before) c ≡ seen_of s (before ++ h ∷ [])
unfolding seen_of
with_entry_by s before h (Driver number) v is first last =
    rw (drivers_entered s before h number is (driver_below s number h.mark.line v first last) first last, same_backs s before h number is s.setup.endpoints) refl
with_entry_by s before h (Back endpoint) v is first last =
    let drivers = map_same (λ number. entered_lines s before number) (λ number. entered_lines s (before ++ h ∷ []) number) (range_with_len 0 8)
    (λ number. same_driver_lines s before h number (rw is refl)) in
    rw (drivers, moved_backs s before h endpoint is s.setup.endpoints) refl

pub with_entry-seen : (s : ScriptValue) (before : List Entry) (h : Entry) → IsValid s → 1 ≤ h.mark.line → h.mark.line ≤ length (lines_of s h.mark.caller)
    → with_entry s h (seen_of s before) ≡ seen_of s (before ++ h ∷ [])
with_entry-seen s before h v first last = with_entry_by s before h h.mark.caller v refl first last

-- before the first entry
none_entered : (n a : ℕ) → replicate n false ≡ map (λ line. false) (range_with_len a n)
none_entered zero a = refl
none_entered (suc n) a = ap (λ xs. false ∷ xs) (none_entered n (a + 1))

pub nothing_seen-is : (s : ScriptValue) → nothing_seen s ≡ seen_of s []
unfolding seen_of
nothing_seen-is s =
    let drivers = map_same (λ (number : ℕ). replicate (length (lines_of s (Driver number))) false) (λ number. entered_lines s [] number) (range_with_len 0 8)
    (λ number. none_entered (length (lines_of s (Driver number))) 1) in
    rw drivers refl
