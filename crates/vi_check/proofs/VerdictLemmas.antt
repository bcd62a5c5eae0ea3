-- The verdict, by what is found one after the other.
use Rattle.std.proofs.Common.{◌≡◌, ℕ, zero, suc, ◌+◌, ◌-◌, ◌<◌, ◌≤◌, ◌==◌, ◌||◌, Bool, true, false, cond, nat_lt, List, [], ◌∷◌, ◌++◌, length, map, Some, None, take, drop, get_or, refl, sym, ap, subst, ◌∙◌, arith, inl, inr}
use Rattle.std.specs.Prelude.{nat_le, All, option_map}
use Rattle.std.specs.List.{find, range_with_len}
use Rattle.std.specs.Option.{option_or}
use Rattle.std.proofs.lemmas.Bool.{cases_Bool, cases_lt, lt-ltb, le-ltb, le-leb, eq-eqb, ne_eqb, or_left, or_right, ltb-true, ltb-false, leb-true}
use Rattle.std.proofs.lemmas.List.{take_more, drop_more}
use Rattle.std.proofs.lemmas.List.Elements.{All-nil, All-cons, All-head, All-tail, All-append, All-weaker}
use Rattle.std.proofs.lemmas.List.Sums.{prefix_len_passes, prefix_len_stops, prefix_len-le-length}
use Rattle.vi_bytes.specs.declared.region.EndpointSetup.{EndpointSetup}
use Rattle.vi_history.specs.Kinds.{is_fault}
use Rattle.vi_history.specs.Records.{records_from, records}
use Rattle.vi_history.specs.declared.call.Call.{Call}
use Rattle.vi_history.specs.declared.call.Caller.{Caller}
use Rattle.vi_history.specs.declared.call.Caller.TheVariants.{Driver, Back}
use Rattle.vi_history.specs.declared.entry.Entry.{Entry}
use Rattle.vi_history.specs.declared.outcome.Outcome.{Outcome}
use Rattle.vi_lines.specs.Calls.{lines_of}
use Rattle.vi_lines.specs.Order.{Place, entries_at, batch_of, due_place}
use Rattle.vi_lines.specs.Valid.{is_caller_in}
use Rattle.vi_lines.specs.Value.{ScriptValue}
use Rattle.vi_check.specs.declared.verdict.Verdict.{Verdict}
use Rattle.vi_check.specs.declared.verdict.Verdict.TheVariants.{Legal, Missing, Faults}
use Rattle.vi_check.specs.Due.{is_next, first_due, callers_of}
use Rattle.vi_check.specs.Faults.{IsRising, bad_faults}
use Rattle.vi_check.specs.Seen.{done_first, missing_in, first_missing_in, entered_lines, seen_of, Walked, walked_of}
use Rattle.vi_check.specs.Verdicts.{finding, first_finding, first_missing, records_of, verdict}
use Rattle.vi_check.proofs.WalkLemmas.{seen_in_walked, records_in_walked}
use Rattle.vi_check.proofs.SeenLemmas.{driver_seen, length-entered_lines, line_seen, next_of-seen, passes, list_all-range}

-- one entry after the other
pub front : (entries : List Entry) (at : ℕ) (h : Entry) → at < length entries → h ≡ get_or entries at h → take at entries ++ h ∷ [] ≡ take (at + 1) entries
front entries at h below is = ap (λ x. take at entries ++ x ∷ []) is ∙ sym (take_more entries at h below)

found_at : (s : ScriptValue) (entries : List Entry) (at : ℕ) (h : Entry) → at < length entries → h ≡ get_or entries at h
    → first_finding s (take at entries) (drop at entries) ≡ option_or (finding s (take at entries) h) (first_finding s (take (at + 1) entries) (drop (at + 1) entries))
found_at s entries at h below is =
    let step : drop at entries ≡ h ∷ drop (at + 1) entries = drop_more entries at h below ∙ ap (λ x. x ∷ drop (at + 1) entries) (sym is) in
    ap (λ hs. first_finding s (take at entries) hs) step
    ∙ ap (λ b. option_or (finding s (take at entries) h) (first_finding s b (drop (at + 1) entries))) (front entries at h below is)

pub first_finding-next : (s : ScriptValue) (entries : List Entry) (at : ℕ) (h : Entry) → at < length entries → h ≡ get_or entries at h → finding s (take at entries) h ≡ None
    → first_finding s (take (at + 1) entries) (drop (at + 1) entries) ≡ first_finding s (take at entries) (drop at entries)
first_finding-next s entries at h below is none =
    sym (found_at s entries at h below is ∙ ap (λ o. option_or o (first_finding s (take (at + 1) entries) (drop (at + 1) entries))) none)

pub first_finding-here : (s : ScriptValue) (entries : List Entry) (at : ℕ) (h : Entry) (f : Verdict) → at < length entries → h ≡ get_or entries at h → finding s (take at entries) h ≡ Some f
    → Some f ≡ first_finding s (take at entries) (drop at entries)
first_finding-here s entries at h f below is some =
    sym (found_at s entries at h below is ∙ ap (λ o. option_or o (first_finding s (take (at + 1) entries) (drop (at + 1) entries))) some)

-- the records of a history rise
rising_from : (n : ℕ) (cs : List Call) (hs : List Entry) (above : ℕ) → above < n → IsRising above (records_from n cs hs)
rising_from n [] hs above less = tt
rising_from n (c ∷ cs) [] above less = tt
rising_from n (c ∷ cs) (h ∷ hs) above less =
    elim (cases_Bool (is_fault h.mark.kind)) [
      | inl y ↦ rw y (less, rising_from (n + 1) cs hs n (omega arith))
      | inr z ↦ rw z (rising_from (n + 1) cs hs above (omega arith))
    ]

pub records_of-rising : (s : ScriptValue) (entries : List Entry) → IsRising 0 (records_of s entries)
unfolding records
records_of-rising s entries = rising_from 1 _ entries 0 (omega arith)

-- the first line of a driver that is due
find_in_range : (p : ℕ → Bool) (a n k : ℕ) → k < n → ((j : ℕ) → j < k → p (a + j) ≡ false) → p (a + k) ≡ true
    → find (λ (q : Place). p q.line) (map (λ line. record { line = line; part = 0 }) (range_with_len a n)) ≡ Some (record { line = a + k; part = 0 })
find_in_range p a zero k less fails good = absurd (omega arith)
find_in_range p a (suc n) zero less fails good =
    let here : a + 0 ≡ a = omega arith in
    let passes' : p a ≡ true = subst (λ i. p i ≡ true) here good in
    rw (passes', here) refl
find_in_range p a (suc n) (suc k) less fails good =
    let zero' : a + 0 ≡ a = omega arith in
    let first : p a ≡ false = subst (λ i. p i ≡ false) zero' (fails 0 (omega arith)) in
    let there : a + 1 + k ≡ a + suc k = omega arith in
    let rest = find_in_range p (a + 1) n k (omega arith) (λ j h. (let e : a + suc j ≡ a + 1 + j = omega arith in subst (λ i. p i ≡ false) e (fails (suc j) (omega arith)))) (subst (λ i. p i ≡ true) (sym there) good) in
    rw first (rest ∙ ap (λ i. Some (record { line = i; part = 0 })) there)

none_in_range : (p : ℕ → Bool) (a n : ℕ) → ((j : ℕ) → j < n → p (a + j) ≡ false)
    → find (λ (q : Place). p q.line) (map (λ line. record { line = line; part = 0 }) (range_with_len a n)) ≡ None
none_in_range p a zero fails = refl
none_in_range p a (suc n) fails =
    let zero' : a + 0 ≡ a = omega arith in
    let first : p a ≡ false = subst (λ i. p i ≡ false) zero' (fails 0 (omega arith)) in
    rw first (none_in_range p (a + 1) n (λ j h. (let e : a + suc j ≡ a + 1 + j = omega arith in subst (λ i. p i ≡ false) e (fails (suc j) (omega arith)))))

not_zero : (n : ℕ) → nat_lt 0 n ≡ true → (n == 0) ≡ false
not_zero n h = ne_eqb n 0 (λ e. absurd (omega (arith, ltb-true 0 n h, e)))

is_zero : (n : ℕ) → nat_lt 0 n ≡ false → (n == 0) ≡ true
is_zero n h = eq-eqb n 0 (omega (arith, ltb-false 0 n h))

small : (number : ℕ) → nat_le number 7 ≡ true → number < 8
small number h = omega (arith, leb-true number 7 h)

-- a line that has an entry isn't due, and the first one that has none is
entered_not_next : (s : ScriptValue) (entries : List Entry) (number j : ℕ) → j < done_first (entered_lines s entries number) → j < length (lines_of s (Driver number))
    → is_next s entries (Driver number) (1 + j) 0 ≡ false
entered_not_next s entries number j done below =
    let xs = entered_lines s entries number in
    let has : get_or xs (1 + j - 1) false ≡ true = (let e : 1 + j - 1 ≡ j = omega arith in rw e (prefix_len_passes (λ (e : Bool). e) xs j false done)) in
    let entered : nat_lt 0 (entries_at (Driver number) (1 + j) entries) ≡ true = sym (line_seen s entries number (1 + j) (omega arith) (omega arith)) ∙ has in
    rw (not_zero (entries_at (Driver number) (1 + j) entries) entered) refl

open_is_next : (s : ScriptValue) (entries : List Entry) (number : ℕ) → done_first (entered_lines s entries number) < length (lines_of s (Driver number))
    → is_next s entries (Driver number) (1 + done_first (entered_lines s entries number)) 0 ≡ true
open_is_next s entries number below =
    let xs = entered_lines s entries number in
    let d = done_first xs in
    let n = length (lines_of s (Driver number)) in
    let e : 1 + d - 1 ≡ d = omega arith in
    let f : 1 + d ≡ d + 1 = omega arith in
    let stop : get_or xs (1 + d - 1) false ≡ false = rw e (prefix_len_stops (λ (e : Bool). e) xs false (omega (arith, length-entered_lines s entries number))) in
    let none : nat_lt 0 (entries_at (Driver number) (1 + d) entries) ≡ false = sym (line_seen s entries number (1 + d) (omega arith) (omega arith)) ∙ stop in
    let all = list_all-range (λ earlier. nat_le (batch_of s (Driver number) (1 + d)) (batch_of s (Driver number) earlier) || nat_lt 0 (entries_at (Driver number) earlier entries)) 1 n
    (λ j low high. passes s entries number (1 + d) j d (ap (λ i. batch_of s (Driver number) i) (sym f)) refl low (omega arith)) in
    rw (is_zero (entries_at (Driver number) (1 + d) entries) none, all) refl

pub first_due_of_driver : (s : ScriptValue) (entries : List Entry) (number : ℕ)
    → first_due s entries (Driver number)
    ≡ cond (nat_lt (done_first (entered_lines s entries number)) (length (lines_of s (Driver number)))) (Some (record { line = done_first (entered_lines s entries number) + 1; part = 0 })) None
first_due_of_driver s entries number =
    let d = done_first (entered_lines s entries number) in
    let n = length (lines_of s (Driver number)) in
    let most : d ≤ n = omega (arith, prefix_len-le-length (λ (e : Bool). e) (entered_lines s entries number), length-entered_lines s entries number) in
    elim (cases_lt d n) [
      | inl more ↦
          let f : 1 + d ≡ d + 1 = omega arith in
          rw (lt-ltb d n more) (find_in_range (λ line. is_next s entries (Driver number) line 0) 1 n d more (λ j less. entered_not_next s entries number j less (omega arith)) (open_is_next s entries number more)
          ∙ ap (λ i. Some (record { line = i; part = 0 })) f)
      | inr all ↦ rw (le-ltb d n all) (none_in_range (λ line. is_next s entries (Driver number) line 0) 1 n (λ j less. entered_not_next s entries number j (omega arith) less))
    ]

if_missing : (c : Caller) (b : Bool) (p : Place) → cond b (Some (Missing c p.line p.part)) None ≡ option_map (λ (p : Place). Missing c p.line p.part) (cond b (Some p) None)
if_missing c true p = refl
if_missing c false p = refl

missing_in-seen : (s : ScriptValue) (entries : List Entry) (c : Caller) → is_caller_in s.setup.endpoints c ≡ true
    → missing_in s (seen_of s entries) c ≡ option_map (λ (p : Place). Missing c p.line p.part) (first_due s entries c)
missing_in-seen s entries (Driver number) there =
    let seen = driver_seen s entries number (small number there) in
    rw (seen, first_due_of_driver s entries number) (if_missing (Driver number) _ (record { line = done_first (entered_lines s entries number) + 1; part = 0 }))
missing_in-seen s entries (Back endpoint) there =
    rw (next_of-seen s entries endpoint there) (if_missing (Back endpoint) _ (due_place s (Back endpoint) entries))

pub first_missing-seen : (s : ScriptValue) (entries : List Entry) (cs : List Caller) → All (λ c. is_caller_in s.setup.endpoints c ≡ true) cs → first_missing_in s (seen_of s entries) cs ≡ first_missing s entries cs
first_missing-seen s entries [] all = refl
first_missing-seen s entries (c ∷ cs) all =
    let P = λ (c : Caller). is_caller_in s.setup.endpoints c ≡ true in
    rw (missing_in-seen s entries c (All-head P c cs all), first_missing-seen s entries cs (All-tail P c cs all)) refl

-- the callers of a script
drivers_in : (es : List EndpointSetup) (a n : ℕ) → a + n ≤ 8 → All (λ c. is_caller_in es c ≡ true) (map (λ number. Driver number) (range_with_len a n))
drivers_in es a zero few = All-nil (λ c. is_caller_in es c ≡ true)
drivers_in es a (suc n) few = All-cons (λ c. is_caller_in es c ≡ true) (Driver a) _ (le-leb a 7 (omega arith)) (drivers_in es (a + 1) n (omega arith))

more_endpoints : (es : List EndpointSetup) (e : EndpointSetup) (c : Caller) → is_caller_in es c ≡ true → is_caller_in (e ∷ es) c ≡ true
more_endpoints es e (Driver number) h = h
more_endpoints es e (Back id) h = or_right (e.id == id) _ h

backs_in : (es : List EndpointSetup) → All (λ c. is_caller_in es c ≡ true) (map (λ (e : EndpointSetup). Back e.id) es)
backs_in [] = All-nil (λ c. is_caller_in [] c ≡ true)
backs_in (e ∷ es) =
    All-cons (λ c. is_caller_in (e ∷ es) c ≡ true) (Back e.id) _ (or_left (e.id == e.id) _ (eq-eqb e.id e.id refl))
    (All-weaker (λ c. is_caller_in es c ≡ true) (λ c. is_caller_in (e ∷ es) c ≡ true) (λ c h. more_endpoints es e c h) (map (λ (e : EndpointSetup). Back e.id) es) (backs_in es))

pub callers_in : (s : ScriptValue) → All (λ c. is_caller_in s.setup.endpoints c ≡ true) (callers_of s)
callers_in s = All-append (λ c. is_caller_in s.setup.endpoints c ≡ true) (map (λ number. Driver number) (range_with_len 0 8)) (map (λ (e : EndpointSetup). Back e.id) s.setup.endpoints) (drivers_in s.setup.endpoints 0 8 (omega arith)) (backs_in s.setup.endpoints)

-- the verdict
pub verdict-finding : (s : ScriptValue) (o : Outcome) (f : Verdict) → Some f ≡ first_finding s [] o.entries → f ≡ verdict s o
unfolding verdict
verdict-finding s o f is = rw (← is) refl

pub verdict-missing : (s : ScriptValue) (o : Outcome) (m : Verdict) → None ≡ first_finding s [] o.entries → Some m ≡ first_missing s o.entries (callers_of s) → m ≡ verdict s o
unfolding verdict
verdict-missing s o m none is = rw (← none, ← is) refl

pub verdict-faults : (s : ScriptValue) (o : Outcome) (at : ℕ) → None ≡ first_finding s [] o.entries → None ≡ first_missing s o.entries (callers_of s) → Some at ≡ bad_faults s.setup.queue (records_of s o.entries) o → Faults at ≡ verdict s o
unfolding verdict
verdict-faults s o at none whole is = rw (← none, ← whole, ← is) refl

pub verdict-legal : (s : ScriptValue) (o : Outcome) → None ≡ first_finding s [] o.entries → None ≡ first_missing s o.entries (callers_of s) → None ≡ bad_faults s.setup.queue (records_of s o.entries) o → Legal ≡ verdict s o
unfolding verdict
verdict-legal s o none whole is = rw (← none, ← whole, ← is) refl

-- what is kept behind all entries
pub missing_walked : (s : ScriptValue) (entries hs : List Entry) (w : Walked) → w ≡ walked_of s hs → hs ≡ entries → first_missing_in s w.seen (callers_of s) ≡ first_missing s entries (callers_of s)
missing_walked s entries hs w walked same =
    ap (λ (w : Walked). first_missing_in s w.seen (callers_of s)) walked
    ∙ (ap (λ seen. first_missing_in s seen (callers_of s)) (seen_in_walked s hs) ∙ (first_missing-seen s hs (callers_of s) (callers_in s) ∙ ap (λ xs. first_missing s xs (callers_of s)) same))

pub records_walked : (s : ScriptValue) (entries hs : List Entry) (w : Walked) → w ≡ walked_of s hs → hs ≡ entries → w.records ≡ records_of s entries
records_walked s entries hs w walked same = ap (λ (w : Walked). w.records) walked ∙ (records_in_walked s hs ∙ ap (λ xs. records_of s xs) same)
