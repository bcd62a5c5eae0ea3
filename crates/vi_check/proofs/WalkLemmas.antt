-- A history gone through entry by entry.
use Rattle.std.proofs.Common.{◌≡◌, ℕ, zero, suc, ◌+◌, ◌%◌, ◌<◌, ◌≤◌, ◌==◌, ◌&&◌, ◌||◌, Bool, true, false, nat_lt, List, [], ◌∷◌, ◌++◌, length, Some, None, Result, Ok, Err, refl, sym, ap, subst, ◌∙◌, arith, inl, inr, append_assoc}
use Rattle.std.specs.Prelude.{is_some, nat_le, All, IfOk}
use Rattle.std.specs.List.{list_all, range_with_len}
use Rattle.std.proofs.lemmas.Bool.{cases_lt, or_cases, and_parts, eqb-true, ltb-true, lt-leb}
use Rattle.std.proofs.lemmas.List.{append-nil}
use Rattle.std.proofs.lemmas.List.Elements.{All-nil, All-cons, All-weaker}
use Rattle.std.proofs.lemmas.List.Sums.{AllPass-from_list_all}
use Rattle.vi_bytes.specs.declared.region.EndpointSetup.{EndpointSetup}
use Rattle.vi_bytes.specs.declared.span.TheConstants.{PAGE}
use Rattle.vi_history.specs.Device.{One}
use Rattle.vi_history.specs.Kinds.{is_fault}
use Rattle.vi_history.specs.Histories.{answer_of, after}
use Rattle.vi_history.specs.Records.{records_at, records_from, records}
use Rattle.vi_history.specs.Replies.{Answer, reply, next}
use Rattle.vi_history.specs.Start.{start}
use Rattle.vi_history.specs.declared.call.Call.{Call}
use Rattle.vi_history.specs.declared.call.Caller.{Caller}
use Rattle.vi_history.specs.declared.call.Caller.TheVariants.{Driver, Back}
use Rattle.vi_history.specs.declared.entry.Entry.{Entry}
use Rattle.vi_plain.specs.Conditions.{IsPlainSetup, HasFewRegions}
use Rattle.vi_plain.specs.Kept.{IsGranule}
use Rattle.vi_lines.specs.Calls.{lines_of, awaits_of}
use Rattle.vi_lines.specs.Limits.{is_granule}
use Rattle.vi_lines.specs.Order.{Place, entries_at, batch_of, due_place, is_whole, IsNext, IsDue, IsOrderedSoFar}
use Rattle.vi_lines.specs.Valid.{IsValid, AreEndpoints}
use Rattle.vi_lines.specs.Value.{ScriptValue}
use Rattle.vi_lines.proofs.TransferLemmas.{HasTransfers-from_valid}
use Rattle.vi_check.specs.declared.verdict.Verdict.TheVariants.{Wrong, Order, Extra}
use Rattle.vi_check.specs.Answers.{same_answer, answered}
use Rattle.vi_check.specs.Due.{call_at, calls_of, is_entered, is_past_fault, is_next, is_due, line_numbers}
use Rattle.vi_check.specs.Seen.{Seen, MayEnter, has_passed, may_come, nothing_seen, seen_of, walked_of, with_answer}
use Rattle.vi_check.specs.Verdicts.{device_after, records_of, wrong_answer, finding}
use Rattle.vi_check.proofs.AnswerLemmas.{IsFaultOf, fault_of_reply}
use Rattle.vi_check.proofs.BatchLemmas.{batch_of-le}
use Rattle.vi_check.proofs.CallLemmas.{IsAwaited, good, good_awaits}
use Rattle.vi_check.proofs.SeenLemmas.{FitsScript-seen, has_passed-seen, may_come-seen, with_entry-seen, nothing_seen-is}
use Rattle.vi_check.proofs.TrackedLemmas.{IsTracked-ordered, calls_of-push}

-- the setup of a valid script
granule_of : (n m : ℕ) → n ≡ m → 0 < m → m % PAGE ≡ 0 → IsGranule n
granule_of n m is some pages = subst (λ k. IsGranule k) (sym is) (record { some = some; pages = pages })

granule_pages : (n : ℕ) → is_granule n ≡ true → IsGranule n
granule_pages n h =
    elim (or_cases (n == 4096) ((n == 16384) || (n == 65536)) h) [
      | inl a ↦ granule_of n 4096 (eqb-true n 4096 a) (omega arith) refl
      | inr b ↦ elim (or_cases (n == 16384) (n == 65536) b) [
        | inl c ↦ granule_of n 16384 (eqb-true n 16384 c) (omega arith) refl
        | inr d ↦ granule_of n 65536 (eqb-true n 65536 d) (omega arith) refl
      ]
    ]

few_regions : (granule : ℕ) (es : List EndpointSetup) → AreEndpoints granule es → All HasFewRegions es
few_regions granule [] h = All-nil HasFewRegions
few_regions granule (e ∷ es) h = All-cons HasFewRegions e es h.0.few (few_regions granule es h.2)

pub IsPlainSetup-from_valid : (s : ScriptValue) → IsValid s → IsPlainSetup s.setup
IsPlainSetup-from_valid s v =
    record { granule = granule_pages s.setup.granule v.setup_valid.granule_fits; regions = few_regions s.setup.granule s.setup.endpoints v.setup_valid.endpoints_each }

-- before the first entry
pub walked_of-none : (s : ScriptValue) → record { seen = nothing_seen s; one = start s.setup; records = [] } ≡ walked_of s []
unfolding walked_of records
walked_of-none s = ap (λ seen. record { seen = seen; one = start s.setup; records = [] }) (nothing_seen-is s)

pub seen_in_walked : (s : ScriptValue) (before : List Entry) → (walked_of s before).seen ≡ seen_of s before
unfolding walked_of
seen_in_walked s before = refl

pub one_in_walked : (s : ScriptValue) (before : List Entry) → (walked_of s before).one ≡ device_after s before
unfolding walked_of
one_in_walked s before = refl

pub records_in_walked : (s : ScriptValue) (before : List Entry) → (walked_of s before).records ≡ records_of s before
unfolding walked_of
records_in_walked s before = refl

-- with one more entry
pub after-push : (one : One) (cs : List Call) (c : Call) → after one (cs ++ c ∷ []) ≡ next (after one cs) c
after-push one [] c = refl
after-push one (x ∷ cs) c = after-push (next one x) cs c

records_from-push : (n : ℕ) (cs : List Call) (hs : List Entry) (c : Call) (h : Entry) → length cs ≡ length hs
    → records_from n (cs ++ c ∷ []) (hs ++ h ∷ []) ≡ records_from n cs hs ++ records_at (n + length hs) h.mark.kind h.mark.code c
records_from-push n [] [] c h same = append-nil (records_at n h.mark.kind h.mark.code c) ∙ ap (λ m. records_at m h.mark.kind h.mark.code c) (let e : n ≡ n + 0 = omega arith in e)
records_from-push n [] (g ∷ hs) c h same = absurd (omega (arith, same))
records_from-push n (x ∷ cs) [] c h same = absurd (omega (arith, same))
records_from-push n (x ∷ cs) (g ∷ hs) c h same =
    let rest = records_from-push (n + 1) cs hs c h (omega (arith, same)) in
    let e : n + 1 + length hs ≡ n + suc (length hs) = omega arith in
    ap (λ rs. records_at n g.mark.kind g.mark.code x ++ rs) (rest ∙ ap (λ m. records_from (n + 1) cs hs ++ records_at m h.mark.kind h.mark.code c) e)
    ∙ sym (append_assoc (records_at n g.mark.kind g.mark.code x) (records_from (n + 1) cs hs) (records_at (n + suc (length hs)) h.mark.kind h.mark.code c))

records_of-push : (s : ScriptValue) (before : List Entry) (h : Entry) (c : Call) → call_at s h ≡ Some c → length (calls_of s before) ≡ length before
    → records_of s before ++ records_at (length before + 1) h.mark.kind h.mark.code c ≡ records_of s (before ++ h ∷ [])
unfolding records
records_of-push s before h c is same =
    let n : 1 + length before ≡ length before + 1 = omega arith in
    sym (ap (λ cs. records_from 1 cs (before ++ h ∷ [])) (calls_of-push s before h c is)
    ∙ (records_from-push 1 (calls_of s before) before c h same ∙ ap (λ m. records_from 1 (calls_of s before) before ++ records_at m h.mark.kind h.mark.code c) n))

pub walked_of-push : (s : ScriptValue) (before : List Entry) (h : Entry) (c : Call) → IsValid s → call_at s h ≡ Some c → length (calls_of s before) ≡ length before
    → with_answer s (length before + 1) h c (record { seen = (walked_of s before).seen; one = next (walked_of s before).one c; records = (walked_of s before).records }) ≡ walked_of s (before ++ h ∷ [])
unfolding walked_of
walked_of-push s before h c v is same =
    let g = good s h.mark.caller h.mark.line h.mark.part c v is in
    let device : next (device_after s before) c ≡ device_after s (before ++ h ∷ []) =
    sym (ap (λ cs. after (start s.setup) cs) (calls_of-push s before h c is) ∙ after-push (start s.setup) (calls_of s before) c) in
    rw (with_entry-seen s before h v g.first g.last, device, records_of-push s before h c is same) refl

-- an entry of a call of the script may be taken into account
pub MayEnter-known : (s : ScriptValue) (before : List Entry) (h : Entry) (c : Call) → IsValid s → call_at s h ≡ Some c → MayEnter s (walked_of s before).seen h
MayEnter-known s before h c v is =
    let g = good s h.mark.caller h.mark.line h.mark.part c v is in
    subst (λ seen. MayEnter s seen h) (sym (seen_in_walked s before)) (record {
      transfers = HasTransfers-from_valid s v;
      fits = FitsScript-seen s before v;
      first = g.first;
      last = g.last;
      few_lines = omega (arith, g.few);
      few_parts = omega (arith, g.few_parts);
    })

-- the entry that should be there
pub answered-is : (w h : Entry) (a : Answer) → answer_of w ≡ a → w.mark.caller ≡ h.mark.caller → w.mark.line ≡ h.mark.line → w.mark.part ≡ h.mark.part → answered h a ≡ w
answered-is w h a is caller line part = rw (← is, ← caller, ← line, ← part) refl

-- what is found
pub finding-unknown : (s : ScriptValue) (before : List Entry) (h : Entry) → call_at s h ≡ None → Some (Extra (length before + 1)) ≡ finding s before h
unfolding finding
finding-unknown s before h is = rw is refl

pub finding-extra : (s : ScriptValue) (before : List Entry) (h : Entry) (c : Call) → call_at s h ≡ Some c
    → (is_entered before h.mark.caller h.mark.line h.mark.part || is_past_fault before h.mark.caller h.mark.line h.mark.part) ≡ true → Some (Extra (length before + 1)) ≡ finding s before h
unfolding finding
finding-extra s before h c is passed = rw (is, passed) refl

pub finding-order : (s : ScriptValue) (before : List Entry) (h : Entry) (c : Call) → call_at s h ≡ Some c
    → (is_entered before h.mark.caller h.mark.line h.mark.part || is_past_fault before h.mark.caller h.mark.line h.mark.part) ≡ false → is_due s before h ≡ false
    → Some (Order (length before + 1)) ≡ finding s before h
unfolding finding
finding-order s before h c is left' due = rw (is, left', due) refl

pub finding-answer : (s : ScriptValue) (before : List Entry) (h : Entry) (c : Call) → call_at s h ≡ Some c
    → (is_entered before h.mark.caller h.mark.line h.mark.part || is_past_fault before h.mark.caller h.mark.line h.mark.part) ≡ false → is_due s before h ≡ true
    → wrong_answer (length before + 1) h (reply (device_after s before) c) ≡ finding s before h
unfolding finding
finding-answer s before h c is left' due = rw (is, left', due) refl

-- an entry that passes the tests is due
in_range : (p : ℕ → Bool) (a n j : ℕ) → list_all p (range_with_len a n) ≡ true → a ≤ j → j < a + n → p j ≡ true
in_range p a zero j h low high = absurd (omega arith)
in_range p a (suc n) j h low high =
    let parts = and_parts (p a) (list_all p (range_with_len (a + 1) n)) h in
    elim (cases_lt a j) [
      | inl above ↦ in_range p (a + 1) n j parts.1 (omega arith) (omega arith)
      | inr here ↦ let e : a ≡ j = omega arith in subst (λ i. p i ≡ true) e parts.0
    ]

batch_entered : (s : ScriptValue) (before : List Entry) (number line earlier : ℕ) → line ≤ length (lines_of s (Driver number))
    → list_all (λ earlier. nat_le (batch_of s (Driver number) line) (batch_of s (Driver number) earlier) || nat_lt 0 (entries_at (Driver number) earlier before)) (line_numbers s (Driver number)) ≡ true
    → 1 ≤ earlier → batch_of s (Driver number) earlier < batch_of s (Driver number) line → 0 < entries_at (Driver number) earlier before
batch_entered s before number line earlier last h first less =
    elim (cases_lt (length (lines_of s (Driver number))) earlier) [
      | inl beyond ↦ absurd (omega (arith, batch_of-le s (Driver number) line earlier (omega arith), less))
      | inr within ↦
          let test = in_range (λ earlier. nat_le (batch_of s (Driver number) line) (batch_of s (Driver number) earlier) || nat_lt 0 (entries_at (Driver number) earlier before)) 1 (length (lines_of s (Driver number))) earlier h first (omega arith) in
          let fails : nat_le (batch_of s (Driver number) line) (batch_of s (Driver number) earlier) ≡ false = lt-leb _ _ less in
          ltb-true 0 (entries_at (Driver number) earlier before) (rw fails at test)
    ]

same_place : (p : Place) (line part : ℕ) → ((p.line == line) && (p.part == part)) ≡ true → p ≡ record { line = line; part = part }
same_place p line part h =
    let parts = and_parts (p.line == line) (p.part == part) h in
    ap (λ n. record { line = n; part = p.part }) (eqb-true p.line line parts.0) ∙ ap (λ n. record { line = line; part = n }) (eqb-true p.part part parts.1)

next_by : (s : ScriptValue) (before : List Entry) (c : Caller) (line part : ℕ) → line ≤ length (lines_of s c) → is_next s before c line part ≡ true → IsNext s before c line part
next_by s before (Driver number) line part last h =
    let parts = and_parts (entries_at (Driver number) line before == 0) _ h in
    (eqb-true _ 0 parts.0, λ earlier first less. batch_entered s before number line earlier last parts.1 first less)
next_by s before (Back endpoint) line part last h = same_place (due_place s (Back endpoint) before) line part h

pub IsDue-tested : (s : ScriptValue) (before : List Entry) (h : Entry) (c : Call) → IsValid s → call_at s h ≡ Some c → is_due s before h ≡ true → IsDue s before h
IsDue-tested s before h c v is due =
    let g = good s h.mark.caller h.mark.line h.mark.part c v is in
    let parts = and_parts (is_next s before h.mark.caller h.mark.line h.mark.part) (list_all (λ a. is_whole s before a) (awaits_of s h.mark.caller h.mark.line)) due in
    record {
      known = ap is_some is;
      next = next_by s before h.mark.caller h.mark.line h.mark.part g.last parts.0;
      awaited = AllPass-from_list_all (λ a. is_whole s before a) (awaits_of s h.mark.caller h.mark.line) parts.1;
    }

-- an answer that is wrong, and one that is right
pub wrong_answer-other : (number : ℕ) (h want got : Entry) (a : Answer) → answer_of want ≡ a → want.mark.caller ≡ h.mark.caller → want.mark.line ≡ h.mark.line → want.mark.part ≡ h.mark.part
    → same_answer (answer_of h) (answer_of want) ≡ false → got ≡ h → Some (Wrong number want got) ≡ wrong_answer number h a
wrong_answer-other number h want got a is caller line part differ copy =
    let other : same_answer (answer_of h) a ≡ false = subst (λ x. same_answer (answer_of h) x ≡ false) is differ in
    rw (other, answered-is want h a is caller line part, copy) refl

pub wrong_answer-same : (number : ℕ) (h want : Entry) (a : Answer) → answer_of want ≡ a → same_answer (answer_of h) (answer_of want) ≡ true → None ≡ wrong_answer number h a
wrong_answer-same number h want a is same =
    let one : same_answer (answer_of h) a ≡ true = subst (λ x. same_answer (answer_of h) x ≡ true) is same in
    rw one refl

-- a right fault is one of an access
pub fault_known : (h : Entry) (one : One) (c : Call) → answer_of h ≡ reply one c → is_fault h.mark.kind ≡ true → IsFaultOf c (answer_of h)
fault_known h one c e fault =
    let kind : is_fault (reply one c).kind ≡ true = subst (λ (a : Answer). is_fault a.kind ≡ true) e fault in
    subst (λ a. IsFaultOf c a) (sym e) (fault_of_reply one c kind)

-- what holds of every value holds of that of an Ok
pub IfOk-each : {A E : Type 0} (r : Result A E) (P : A → Type 0) → ((v : A) → P v) → IfOk r P
IfOk-each (Ok v) P h = h v
IfOk-each (Err e) P h = tt

-- the tests of an entry, by what is seen
pub passed_test : (s : ScriptValue) (before : List Entry) (h : Entry) (c : Call) (seen : Seen) (b : Bool) → IsValid s → IsOrderedSoFar s before → call_at s h ≡ Some c → seen ≡ seen_of s before
    → b ≡ has_passed seen h.mark.caller h.mark.line h.mark.part → b ≡ (is_entered before h.mark.caller h.mark.line h.mark.part || is_past_fault before h.mark.caller h.mark.line h.mark.part)
passed_test s before h c seen b v ordered is same e =
    e ∙ (ap (λ x. has_passed x h.mark.caller h.mark.line h.mark.part) same
    ∙ has_passed-seen s before h.mark.caller h.mark.line h.mark.part c v (IsTracked-ordered s before v ordered) (good s h.mark.caller h.mark.line h.mark.part c v is))

pub due_test : (s : ScriptValue) (before : List Entry) (h : Entry) (c : Call) (seen : Seen) (b : Bool) → IsValid s → IsOrderedSoFar s before → call_at s h ≡ Some c → seen ≡ seen_of s before
    → b ≡ may_come s seen h.mark.caller h.mark.line h.mark.part → b ≡ is_due s before h
due_test s before h c seen b v ordered is same e =
    e ∙ (ap (λ x. may_come s x h.mark.caller h.mark.line h.mark.part) same ∙ may_come-seen s before h c v (IsTracked-ordered s before v ordered) is)

-- what is awaited has a number from 1 on
pub awaited_from_one : (s : ScriptValue) (h : Entry) (c : Call) → IsValid s → call_at s h ≡ Some c → All (λ a. 1 ≤ a.line) (awaits_of s h.mark.caller h.mark.line)
awaited_from_one s h c v is =
    All-weaker (λ a. IsAwaited s.lines a) (λ a. 1 ≤ a.line) (λ a w. w.0) (awaits_of s h.mark.caller h.mark.line) (good_awaits s h.mark.caller h.mark.line h.mark.part c v is)
