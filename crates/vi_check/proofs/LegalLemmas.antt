-- A report is legal exactly where its entries are in order and right, and its fault records are those of the entries.
use Rattle.std.proofs.Common.{◌≡◌, ℕ, zero, suc, ◌+◌, ◌-◌, ◌<◌, ◌≤◌, ◌==◌, ◌||◌, Bool, true, false, not, cond, nat_lt, List, [], ◌∷◌, ◌++◌, length, map, Option, Some, None, get_or, refl, sym, ap, subst, ◌∙◌, arith, inl, inr}
use Rattle.std.specs.Prelude.{nat_le, All, option_map}
use Rattle.std.specs.List.{range_with_len}
use Rattle.std.specs.Option.{option_or}
use Rattle.std.proofs.lemmas.Bool.{cases_Bool, cases_lt, lt-ltb, le-ltb, le-leb, lt-leb, leb-false, ltb-true, ltb-false, eq-eqb, eqb-true, and_from, or_left, or_right, false≢true}
use Rattle.std.proofs.lemmas.List.Elements.{All-nil, All-cons, All-head, All-tail, All-append}
use Rattle.std.proofs.lemmas.List.Sums.{list_all-from_AllPass, prefix_len_passes, prefix_len_stops}
use Rattle.vi_bytes.specs.declared.region.EndpointSetup.{EndpointSetup}
use Rattle.vi_history.specs.Histories.{answer_of, after, IsLegal}
use Rattle.vi_history.specs.Records.{records, IsShownWell}
use Rattle.vi_history.specs.Replies.{Answer, reply, next}
use Rattle.vi_history.specs.Start.{start}
use Rattle.vi_history.specs.declared.call.Call.{Call}
use Rattle.vi_history.specs.declared.call.Caller.{Caller}
use Rattle.vi_history.specs.declared.call.Caller.TheVariants.{Driver, Back}
use Rattle.vi_history.specs.declared.entry.Entry.{Entry}
use Rattle.vi_history.specs.declared.outcome.Outcome.{Outcome}
use Rattle.vi_order.specs.Finished.{IsFinished}
use Rattle.vi_order.proofs.Ordered.{ordered_one_by_one}
use Rattle.vi_lines.specs.Calls.{lines_of, awaits_of}
use Rattle.vi_lines.specs.Legal.{AreCalls, IsLegalHistory, HasRecords}
use Rattle.vi_lines.specs.Order.{Place, entries_at, batch_of, due_place, is_whole, IsNext, IsDue, AreDue}
use Rattle.vi_lines.specs.Ordered.{IsOrdered}
use Rattle.vi_lines.specs.Valid.{IsValid, has_endpoint}
use Rattle.vi_lines.specs.Value.{ScriptValue}
use Rattle.vi_check.specs.declared.verdict.Verdict.{Verdict}
use Rattle.vi_check.specs.declared.verdict.Verdict.TheVariants.{Legal, Wrong, Order, Extra, Missing, Faults}
use Rattle.vi_check.specs.Answers.{same_answer, answered}
use Rattle.vi_check.specs.Due.{call_at, calls_of, is_entered, is_past_fault, is_next, is_due, first_due, callers_of}
use Rattle.vi_check.specs.Faults.{bad_faults}
use Rattle.vi_check.specs.Seen.{done_first, entered_lines}
use Rattle.vi_check.specs.Verdicts.{device_after, wrong_answer, finding_by, finding, first_finding, first_missing, records_of, or_legal, verdict}
use Rattle.vi_check.specs.Laws.{LegalExactly}
use Rattle.vi_check.proofs.AnswerLemmas.{same_answer-eq, same_answer-self}
use Rattle.vi_check.proofs.CallLemmas.{good}
use Rattle.vi_check.proofs.SeenLemmas.{driver_below, endpoint_there, length-entered_lines, line_seen, list_all-range}
use Rattle.vi_check.proofs.ShownLemmas.{AreRight, right_from_none, none_from_right}
use Rattle.vi_check.proofs.TrackedLemmas.{IsTracked, IsTracked-ordered, IsTracked-more, IsTracked-none, passed_by, is_before_place, calls_of-push}
use Rattle.vi_check.proofs.VerdictLemmas.{records_of-rising, first_due_of_driver}
use Rattle.vi_check.proofs.WalkLemmas.{IsDue-tested, after-push, finding-unknown, finding-extra, finding-order, finding-answer}

-- ---- one entry

-- an entry with which nothing is wrong: its call, that it is due, and that it is right
record IsRight (s : ScriptValue) (before : List Entry) (h : Entry) : Type 0 where
  call : Call
  is : call_at s h ≡ Some call
  due : IsDue s before h
  answer : answer_of h ≡ reply (device_after s before) call

no_wrong_answer : (number : ℕ) (h : Entry) (a : Answer) → wrong_answer number h a ≡ None → answer_of h ≡ a
no_wrong_answer number h a e =
    elim (cases_Bool (same_answer (answer_of h) a)) [
      | inl y ↦ same_answer-eq (answer_of h) a y
      | inr n ↦ absurd (let f = rw n at e in cc)
    ]

right_by : (s : ScriptValue) (before : List Entry) (h : Entry) (c : Call) → IsValid s → call_at s h ≡ Some c → finding s before h ≡ None → IsRight s before h
right_by s before h c v is e =
    elim (cases_Bool (is_entered before h.mark.caller h.mark.line h.mark.part || is_past_fault before h.mark.caller h.mark.line h.mark.part)) [
      | inl y ↦ absurd (let f = finding-extra s before h c is y ∙ e in cc)
      | inr n ↦ elim (cases_Bool (is_due s before h)) [
        | inl d ↦ record { call = c; is = is; due = IsDue-tested s before h c v is d; answer = no_wrong_answer (length before + 1) h _ (finding-answer s before h c is n d ∙ e) }
        | inr m ↦ absurd (let f = finding-order s before h c is n m ∙ e in cc)
      ]
    ]

right_of : (s : ScriptValue) (before : List Entry) (h : Entry) (o : Option Call) → IsValid s → call_at s h ≡ o → finding s before h ≡ None → IsRight s before h
right_of s before h None v is e = absurd (let f = finding-unknown s before h is ∙ e in cc)
right_of s before h (Some c) v is e = right_by s before h c v is e

-- a due call is left, and passes the test
left_by : (s : ScriptValue) (before : List Entry) (c : Caller) (line part : ℕ) → IsNext s before c line part → passed_by s before c line part ≡ false
left_by s before (Driver number) line part next' = le-ltb 0 (entries_at (Driver number) line before) (omega (arith, next'.0))
left_by s before (Back endpoint) line part next' =
    ap (λ p. is_before_place line part p) next' ∙ rw (le-ltb line line (omega arith), eq-eqb line line refl, le-ltb part part (omega arith)) refl

test_batch : (s : ScriptValue) (before : List Entry) (number line earlier : ℕ)
    → (batch_of s (Driver number) earlier < batch_of s (Driver number) line → 0 < entries_at (Driver number) earlier before)
    → (nat_le (batch_of s (Driver number) line) (batch_of s (Driver number) earlier) || nat_lt 0 (entries_at (Driver number) earlier before)) ≡ true
test_batch s before number line earlier h =
    elim (cases_lt (batch_of s (Driver number) earlier) (batch_of s (Driver number) line)) [
      | inl less ↦ or_right _ (nat_lt 0 (entries_at (Driver number) earlier before)) (lt-ltb 0 _ (h less))
      | inr other ↦ or_left (nat_le (batch_of s (Driver number) line) (batch_of s (Driver number) earlier)) _ (le-leb _ _ other)
    ]

next_test : (s : ScriptValue) (before : List Entry) (c : Caller) (line part : ℕ) → IsNext s before c line part → is_next s before c line part ≡ true
next_test s before (Driver number) line part next' =
    and_from (entries_at (Driver number) line before == 0) _ (eq-eqb _ 0 next'.0)
    (list_all-range (λ earlier. nat_le (batch_of s (Driver number) line) (batch_of s (Driver number) earlier) || nat_lt 0 (entries_at (Driver number) earlier before)) 1 (length (lines_of s (Driver number)))
    (λ earlier low high. test_batch s before number line earlier (next'.1 earlier low)))
next_test s before (Back endpoint) line part next' =
    and_from ((due_place s (Back endpoint) before).line == line) _ (eq-eqb _ line (ap (λ (p : Place). p.line) next')) (eq-eqb _ part (ap (λ (p : Place). p.part) next'))

due_test : (s : ScriptValue) (before : List Entry) (h : Entry) → IsDue s before h → is_due s before h ≡ true
due_test s before h due =
    and_from (is_next s before h.mark.caller h.mark.line h.mark.part) _ (next_test s before h.mark.caller h.mark.line h.mark.part due.next)
    (list_all-from_AllPass (λ a. is_whole s before a) (awaits_of s h.mark.caller h.mark.line) due.awaited)

nothing_wrong : (s : ScriptValue) (before : List Entry) (h : Entry) (c : Call) → IsValid s → IsTracked s before → IsDue s before h → call_at s h ≡ Some c → answer_of h ≡ reply (device_after s before) c
    → finding s before h ≡ None
nothing_wrong s before h c v t due is answer =
    let left' = t.passed h.mark.caller h.mark.line h.mark.part c (good s h.mark.caller h.mark.line h.mark.part c v is) ∙ left_by s before h.mark.caller h.mark.line h.mark.part due.next in
    let same : same_answer (answer_of h) (reply (device_after s before) c) ≡ true = subst (λ a. same_answer (answer_of h) a ≡ true) answer (same_answer-self (answer_of h)) in
    sym (finding-answer s before h c is left' (due_test s before h due)) ∙ rw same refl

-- ---- all entries

device_next : (s : ScriptValue) (before : List Entry) (h : Entry) (c : Call) → call_at s h ≡ Some c → device_after s (before ++ h ∷ []) ≡ next (device_after s before) c
device_next s before h c is = ap (λ cs. after (start s.setup) cs) (calls_of-push s before h c is) ∙ after-push (start s.setup) (calls_of s before) c

record AreRightEntries (s : ScriptValue) (before hs : List Entry) : Type 0 where
  due : AreDue s before hs
  calls : List Call
  named : AreCalls s hs calls
  legal : IsLegal (device_after s before) calls hs

none_of_two : {X : Type 0} (a b : Option X) → option_or a b ≡ None → (a ≡ None) × (b ≡ None)
none_of_two None b e = (refl, e)
none_of_two (Some x) b e = absurd (cc)

right_entries : (s : ScriptValue) (before hs : List Entry) → IsValid s → first_finding s before hs ≡ None → AreRightEntries s before hs
right_entries s before [] v e = record { due = tt; calls = []; named = refl; legal = tt }
right_entries s before (h ∷ hs) v e =
    let both = none_of_two (finding s before h) (first_finding s (before ++ h ∷ []) hs) e in
    let one = right_of s before h (call_at s h) v refl both.0 in
    let rest = right_entries s (before ++ h ∷ []) hs v both.1 in
    record {
      due = (one.due, rest.due);
      calls = one.call ∷ rest.calls;
      named = ap (λ o. o ∷ map (λ h. call_at s h) hs) one.is ∙ ap (λ xs. Some one.call ∷ xs) rest.named;
      legal = (one.answer, subst (λ d. IsLegal d rest.calls hs) (device_next s before h one.call one.is) rest.legal);
    }

cons_parts : {X : Type 0} (x y : X) (xs ys : List X) → x ∷ xs ≡ y ∷ ys → (x ≡ y) × (xs ≡ ys)
cons_parts x y xs ys e = (cc, cc)

nothing_found : (s : ScriptValue) (before hs : List Entry) (calls : List Call) → IsValid s → IsTracked s before → AreDue s before hs → AreCalls s hs calls → IsLegal (device_after s before) calls hs → first_finding s before hs ≡ None
nothing_found s before [] calls v t due named legal = refl
nothing_found s before (h ∷ hs) [] v t due named legal = absurd (cc)
nothing_found s before (h ∷ hs) (c ∷ cs) v t due named legal =
    let parts = cons_parts (call_at s h) (Some c) (map (λ h. call_at s h) hs) (map (λ c. Some c) cs) named in
    let one = nothing_wrong s before h c v t due.0 parts.0 legal.0 in
    let rest = nothing_found s (before ++ h ∷ []) hs cs v (IsTracked-more s before h v due.0 t) due.1 parts.1 (subst (λ d. IsLegal d cs hs) (sym (device_next s before h c parts.0)) legal.1) in
    rw (one, rest) refl

calls_are : (s : ScriptValue) (hs : List Entry) (calls : List Call) → AreCalls s hs calls → calls ≡ calls_of s hs
calls_are s [] [] named = refl
calls_are s [] (c ∷ cs) named = absurd (cc)
calls_are s (h ∷ hs) [] named = absurd (cc)
calls_are s (h ∷ hs) (c ∷ cs) named =
    let parts = cons_parts (call_at s h) (Some c) (map (λ h. call_at s h) hs) (map (λ c. Some c) cs) named in
    rw parts.0 (ap (λ xs. c ∷ xs) (calls_are s hs cs parts.1))

-- ---- no call is left

none_of_if : {X : Type 0} (b : Bool) (x : X) → cond b (Some x) None ≡ None → b ≡ false
none_of_if true x e = absurd (cc)
none_of_if false x e = refl

driver_done : (s : ScriptValue) (entries : List Entry) (number line : ℕ) → first_due s entries (Driver number) ≡ None → 1 ≤ line → line ≤ length (lines_of s (Driver number)) → 0 < entries_at (Driver number) line entries
driver_done s entries number line none first last =
    let xs = entered_lines s entries number in
    let all = ltb-false (done_first xs) (length (lines_of s (Driver number))) (none_of_if _ _ (sym (first_due_of_driver s entries number) ∙ none)) in
    let entered : get_or xs (line - 1) false ≡ true = prefix_len_passes (λ (e : Bool). e) xs (line - 1) false (omega (arith, all)) in
    ltb-true 0 _ (sym (line_seen s entries number line first last) ∙ entered)

driver_none : (s : ScriptValue) (entries : List Entry) (number : ℕ)
    → ((line : ℕ) → 1 ≤ line → line ≤ length (lines_of s (Driver number)) → 0 < entries_at (Driver number) line entries) → first_due s entries (Driver number) ≡ None
driver_none s entries number all =
    let xs = entered_lines s entries number in
    let d = done_first xs in
    let count = length-entered_lines s entries number in
    elim (cases_lt d (length (lines_of s (Driver number)))) [
      | inl less ↦
          let stop : get_or xs d false ≡ false = prefix_len_stops (λ (e : Bool). e) xs false (omega (arith, count)) in
          let back : d + 1 - 1 ≡ d = omega arith in
          let seen = line_seen s entries number (d + 1) (omega arith) (omega arith) in
          let open' : nat_lt 0 (entries_at (Driver number) (d + 1) entries) ≡ false = sym seen ∙ (ap (λ k. get_or xs k false) back ∙ stop) in
          absurd (omega (arith, ltb-false 0 _ open', all (d + 1) (omega arith) (omega arith)))
      | inr whole ↦ first_due_of_driver s entries number ∙ rw (le-ltb d (length (lines_of s (Driver number))) whole) refl
    ]

place_is : (p : Place) (line : ℕ) → p.line ≡ line → p.part ≡ 1 → p ≡ record { line = line; part = 1 }
place_is p line a b = ap (λ n. record { line = n; part = p.part }) a ∙ ap (λ n. record { line = line; part = n }) b

back_done : (s : ScriptValue) (entries : List Entry) (endpoint : ℕ) → IsTracked s entries → length (lines_of s (Back endpoint)) < (due_place s (Back endpoint) entries).line
    → due_place s (Back endpoint) entries ≡ record { line = length (lines_of s (Back endpoint)) + 1; part = 1 }
back_done s entries endpoint t beyond =
    let place = t.places endpoint in
    let line : (due_place s (Back endpoint) entries).line ≡ length (lines_of s (Back endpoint)) + 1 = omega (arith, place.last, beyond) in
    place_is (due_place s (Back endpoint) entries) (length (lines_of s (Back endpoint)) + 1) line (place.ends line)

no_place : (c : Caller) (o : Option Place) → option_map (λ (p : Place). Missing c p.line p.part) o ≡ None → o ≡ None
no_place c None e = refl
no_place c (Some p) e = absurd (cc)

missing_none : (s : ScriptValue) (entries : List Entry) (cs : List Caller) → first_missing s entries cs ≡ None → All (λ c. first_due s entries c ≡ None) cs
missing_none s entries [] e = All-nil (λ c. first_due s entries c ≡ None)
missing_none s entries (c ∷ cs) e =
    let both = none_of_two _ _ e in
    All-cons (λ c. first_due s entries c ≡ None) c cs (no_place c (first_due s entries c) both.0) (missing_none s entries cs both.1)

none_missing : (s : ScriptValue) (entries : List Entry) (cs : List Caller) → All (λ c. first_due s entries c ≡ None) cs → first_missing s entries cs ≡ None
none_missing s entries [] all = refl
none_missing s entries (c ∷ cs) all =
    let P = λ (c : Caller). first_due s entries c ≡ None in
    rw (All-head P c cs all, none_missing s entries cs (All-tail P c cs all)) refl

-- what holds of the callers of a script
of_drivers : (P : Caller → Type 0) (a n number : ℕ) → All P (map (λ number. Driver number) (range_with_len a n)) → a ≤ number → number < a + n → P (Driver number)
of_drivers P a zero number all low high = absurd (omega arith)
of_drivers P a (suc n) number all low high =
    elim (cases_lt a number) [
      | inl above ↦ of_drivers P (a + 1) n number (All-tail P (Driver a) (map (λ number. Driver number) (range_with_len (a + 1) n)) all) (omega arith) (omega arith)
      | inr here ↦ let e : a ≡ number = omega arith in subst (λ i. P (Driver i)) e (All-head P (Driver a) (map (λ number. Driver number) (range_with_len (a + 1) n)) all)
    ]

of_backs : (P : Caller → Type 0) (es : List EndpointSetup) (endpoint : ℕ) → All P (map (λ (e : EndpointSetup). Back e.id) es) → has_endpoint es endpoint ≡ true → P (Back endpoint)
of_backs P [] endpoint all there = absurd (false≢true there)
of_backs P (e ∷ es) endpoint all there =
    elim (cases_Bool (e.id == endpoint)) [
      | inl y ↦ subst (λ i. P (Back i)) (eqb-true e.id endpoint y) (All-head P (Back e.id) (map (λ (e : EndpointSetup). Back e.id) es) all)
      | inr n ↦ of_backs P es endpoint (All-tail P (Back e.id) (map (λ (e : EndpointSetup). Back e.id) es) all) (rw n at there)
    ]

all_drivers : (P : Caller → Type 0) (a n : ℕ) → ((number : ℕ) → P (Driver number)) → All P (map (λ number. Driver number) (range_with_len a n))
all_drivers P a zero each = All-nil P
all_drivers P a (suc n) each = All-cons P (Driver a) _ (each a) (all_drivers P (a + 1) n each)

all_backs : (P : Caller → Type 0) (es : List EndpointSetup) → ((endpoint : ℕ) → P (Back endpoint)) → All P (map (λ (e : EndpointSetup). Back e.id) es)
all_backs P [] each = All-nil P
all_backs P (e ∷ es) each = All-cons P (Back e.id) _ (each e.id) (all_backs P es each)

All-front : (P : Caller → Type 0) (xs ys : List Caller) → All P (xs ++ ys) → All P xs
All-front P [] ys all = All-nil P
All-front P (x ∷ xs) ys all = All-cons P x xs (All-head P x (xs ++ ys) all) (All-front P xs ys (All-tail P x (xs ++ ys) all))

All-back : (P : Caller → Type 0) (xs ys : List Caller) → All P (xs ++ ys) → All P ys
All-back P [] ys all = all
All-back P (x ∷ xs) ys all = All-back P xs ys (All-tail P x (xs ++ ys) all)

-- a back end without a due call is behind its last line
back_beyond : (s : ScriptValue) (entries : List Entry) (endpoint : ℕ) → IsValid s → IsTracked s entries → (has_endpoint s.setup.endpoints endpoint ≡ true → first_due s entries (Back endpoint) ≡ None)
    → length (lines_of s (Back endpoint)) < (due_place s (Back endpoint) entries).line
back_beyond s entries endpoint v t none =
    let place = t.places endpoint in
    elim (cases_lt 0 (length (lines_of s (Back endpoint)))) [
      | inl some ↦ leb-false _ _ (none_of_if _ _ (none (endpoint_there s endpoint 1 v (omega arith) (omega arith))))
      | inr empty ↦ omega (arith, place.first, empty)
    ]

back_none : (s : ScriptValue) (entries : List Entry) (endpoint : ℕ) → due_place s (Back endpoint) entries ≡ record { line = length (lines_of s (Back endpoint)) + 1; part = 1 } → first_due s entries (Back endpoint) ≡ None
back_none s entries endpoint e =
    let line = ap (λ (p : Place). p.line) e in
    rw (lt-leb (due_place s (Back endpoint) entries).line (length (lines_of s (Back endpoint))) (omega (arith, line))) refl

finished : (s : ScriptValue) (entries : List Entry) → IsValid s → IsTracked s entries → first_missing s entries (callers_of s) ≡ None → IsFinished s entries
finished s entries v t none =
    let P = λ (c : Caller). first_due s entries c ≡ None in
    let ds = map (λ number. Driver number) (range_with_len 0 8) in
    let bs = map (λ (e : EndpointSetup). Back e.id) s.setup.endpoints in
    let all = missing_none s entries (callers_of s) none in
    record {
      drivers = λ number line first last. driver_done s entries number line (of_drivers P 0 8 number (All-front P ds bs all) (omega arith) (driver_below s number line v first last)) first last;
      backs = λ endpoint. back_done s entries endpoint t (back_beyond s entries endpoint v t (λ there. of_backs P s.setup.endpoints endpoint (All-back P ds bs all) there));
    }

nothing_missing : (s : ScriptValue) (entries : List Entry) → IsFinished s entries → first_missing s entries (callers_of s) ≡ None
nothing_missing s entries end =
    let P = λ (c : Caller). first_due s entries c ≡ None in
    none_missing s entries (callers_of s) (All-append P (map (λ number. Driver number) (range_with_len 0 8)) (map (λ (e : EndpointSetup). Back e.id) s.setup.endpoints)
    (all_drivers P 0 8 (λ number. driver_none s entries number (end.drivers number)))
    (all_backs P s.setup.endpoints (λ endpoint. back_none s entries endpoint (end.backs endpoint))))

-- ---- the verdict

record FindsNothing (s : ScriptValue) (o : Outcome) : Type 0 where
  entries : first_finding s [] o.entries ≡ None
  callers : first_missing s o.entries (callers_of s) ≡ None
  faults : bad_faults s.setup.queue (records_of s o.entries) o ≡ None

-- what is found is never that the report is legal
abbrev IsNews : Option Verdict → Type 0
IsNews None = Unit {0}
IsNews (Some v) = v ≡ Legal → ⊥

news_or : (a b : Option Verdict) → IsNews a → IsNews b → IsNews (option_or a b)
news_or None b h k = k
news_or (Some v) b h k = h

no_news : (o : Option Verdict) → IsNews o → or_legal o ≡ Legal → o ≡ None
no_news None h e = refl
no_news (Some v) h e = absurd (h e)

news_of_answer : (b : Bool) (number : ℕ) (want got : Entry) → IsNews (cond b None (Some (Wrong number want got)))
news_of_answer true number want got = tt
news_of_answer false number want got = λ e. cc

news_if : (b : Bool) (v : Verdict) (o : Option Verdict) → (v ≡ Legal → ⊥) → IsNews o → IsNews (cond b (Some v) o)
news_if true v o h k = h
news_if false v o h k = k

news_of_finding : (s : ScriptValue) (before : List Entry) (h : Entry) (o : Option Call) → IsNews (finding_by s before h o)
news_of_finding s before h None = λ e. cc
news_of_finding s before h (Some c) =
    let number = length before + 1 in
    let a = reply (device_after s before) c in
    let answer = news_of_answer (same_answer (answer_of h) a) number (answered h a) h in
    let due = news_if (not (is_due s before h)) (Order number) (wrong_answer number h a) (λ e. cc) answer in
    news_if (is_entered before h.mark.caller h.mark.line h.mark.part || is_past_fault before h.mark.caller h.mark.line h.mark.part) (Extra number) _ (λ e. cc) due

finding_news : (s : ScriptValue) (before : List Entry) (h : Entry) → IsNews (finding s before h)
unfolding finding
finding_news s before h = news_of_finding s before h (call_at s h)

first_finding_news : (s : ScriptValue) (before hs : List Entry) → IsNews (first_finding s before hs)
first_finding_news s before [] = tt
first_finding_news s before (h ∷ hs) = news_or (finding s before h) (first_finding s (before ++ h ∷ []) hs) (finding_news s before h) (first_finding_news s (before ++ h ∷ []) hs)

missing_news : (c : Caller) (o : Option Place) → IsNews (option_map (λ (p : Place). Missing c p.line p.part) o)
missing_news c None = tt
missing_news c (Some p) = λ e. cc

first_missing_news : (s : ScriptValue) (entries : List Entry) (cs : List Caller) → IsNews (first_missing s entries cs)
first_missing_news s entries [] = tt
first_missing_news s entries (c ∷ cs) = news_or _ (first_missing s entries cs) (missing_news c (first_due s entries c)) (first_missing_news s entries cs)

faults_news : (o : Option ℕ) → IsNews (option_map (λ at. Faults at) o)
faults_news None = tt
faults_news (Some at) = λ e. cc

no_faults : (o : Option ℕ) → option_map (λ at. Faults at) o ≡ None → o ≡ None
no_faults None e = refl
no_faults (Some at) e = absurd (cc)

nothing_by : (s : ScriptValue) (o : Outcome) → verdict s o ≡ Legal → FindsNothing s o
unfolding verdict
nothing_by s o e =
    let a = first_finding s [] o.entries in
    let b = first_missing s o.entries (callers_of s) in
    let c = option_map (λ at. Faults at) (bad_faults s.setup.queue (records_of s o.entries) o) in
    let none = no_news (option_or a (option_or b c)) (news_or a (option_or b c) (first_finding_news s [] o.entries) (news_or b c (first_missing_news s o.entries (callers_of s)) (faults_news (bad_faults s.setup.queue (records_of s o.entries) o)))) e in
    let first = none_of_two a (option_or b c) none in
    let second = none_of_two b c first.1 in
    record { entries = first.0; callers = second.0; faults = no_faults (bad_faults s.setup.queue (records_of s o.entries) o) second.1 }

legal_by : (s : ScriptValue) (o : Outcome) → FindsNothing s o → verdict s o ≡ Legal
unfolding verdict
legal_by s o n = rw (n.entries, n.callers, n.faults) refl

-- the records of a history by any list of its calls
records_by : (s : ScriptValue) (o : Outcome) (calls : List Call) → AreCalls s o.entries calls → records calls o.entries ≡ records_of s o.entries
records_by s o calls named = ap (λ cs. records cs o.entries) (calls_are s o.entries calls named)

shown_well : (s : ScriptValue) (o : Outcome) (calls : List Call) → AreCalls s o.entries calls → AreRight s.setup.queue (records_of s o.entries) o → IsShownWell s.setup.queue calls o.entries o.shown o.dropped
shown_well s o calls named r =
    let x = subst (λ rs. AreRight s.setup.queue rs o) (sym (records_by s o calls named)) r in
    record { taken = x.taken; first = x.first; counted = x.counted }

right_records : (s : ScriptValue) (o : Outcome) (calls : List Call) → AreCalls s o.entries calls → IsShownWell s.setup.queue calls o.entries o.shown o.dropped → AreRight s.setup.queue (records_of s o.entries) o
right_records s o calls named w =
    subst (λ rs. AreRight s.setup.queue rs o) (records_by s o calls named) (record { taken = w.taken; first = w.first; counted = w.counted })

from_legal : (s : ScriptValue) (o : Outcome) → IsValid s → verdict s o ≡ Legal → IsOrdered s o.entries × IsLegalHistory s o.entries × HasRecords s o
from_legal s o v e =
    let n = nothing_by s o e in
    let r = right_entries s [] o.entries v n.entries in
    let t = IsTracked-ordered s o.entries v r.due in
    let end = finished s o.entries v t n.callers in
    let shown = right_from_none s.setup.queue (records_of s o.entries) o (records_of-rising s o.entries) n.faults in (
      (ordered_one_by_one s o.entries v).1 (r.due, end),
      record { calls = r.calls; named = r.named; legal = r.legal },
      record { calls = r.calls; named = r.named; well = shown_well s o r.calls r.named shown },
    )

to_legal : (s : ScriptValue) (o : Outcome) → IsValid s → IsOrdered s o.entries → IsLegalHistory s o.entries → HasRecords s o → verdict s o ≡ Legal
to_legal s o v ordered history has =
    let both = (ordered_one_by_one s o.entries v).0 ordered in
    legal_by s o (record {
      entries = nothing_found s [] o.entries history.calls v (IsTracked-none s) both.0 history.named history.legal;
      callers = nothing_missing s o.entries both.1;
      faults = none_from_right s.setup.queue (records_of s o.entries) o (records_of-rising s o.entries) (right_records s o has.calls has.named has.well);
    })

pub legal_exactly : LegalExactly
legal_exactly s o v well = (λ e. from_legal s o v e, λ h. to_legal s o v h.0 h.1 h.2)
