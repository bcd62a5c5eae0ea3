-- The calls of a valid script.
use Rattle.std.proofs.Common.{◌≡◌, ℕ, zero, suc, ◌<◌, ◌≤◌, ◌==◌, Bool, true, false, not, ◌&&◌, nat_le, cond, List, [], ◌∷◌, ◌++◌, length, Option, Some, None, refl, sym, subst, arith, append_assoc, length-take, length-drop, length-append}
use Rattle.std.specs.Prelude.{slice_get, All}
use Rattle.std.specs.List.{list_all, filter}
use Rattle.std.proofs.lemmas.Bool.{and_parts, leb-true, eqb-true}
use Rattle.std.proofs.lemmas.List.Elements.{All-nil, All-cons, All-weaker, All-filter, All-get_or, filter_passes, filter-append}
use Rattle.std.proofs.lemmas.List.Sums.{AllPass-from_list_all}
use Rattle.vi_bytes.specs.Parts.{IsTransfer, part_count, nth_part}
use Rattle.vi_history.specs.declared.call.Call.{Call}
use Rattle.vi_history.specs.declared.call.Call.TheVariants as call
use Rattle.vi_history.specs.declared.call.Caller.{Caller}
use Rattle.vi_history.specs.declared.call.Caller.TheVariants.{Driver, Back}
use Rattle.vi_plain.specs.Conditions.{IsInOnePage, IsPlainCall}
use Rattle.vi_lines.specs.declared.job.Job.{Job}
use Rattle.vi_lines.specs.declared.job.Job.TheVariants as job
use Rattle.vi_lines.specs.declared.line.Line.{Line}
use Rattle.vi_lines.specs.declared.line.Await.{Await}
use Rattle.vi_lines.specs.Calls.{same_caller, lines_of, line_of, call_of, call_in, driver_call, back_call, part_bytes, parts_of, parts_in, part_count_of, awaits_of, awaits_in, TransfersWell}
use Rattle.vi_lines.specs.Rules.{job_runs_over, awaits_well}
use Rattle.vi_lines.specs.Limits.{is_job}
use Rattle.vi_lines.specs.Valid.{IsValid, is_line, is_caller_in, does, AwaitAbove}
use Rattle.vi_lines.specs.Value.{ScriptValue}
use Rattle.vi_bytes.proofs.PartLemmas.{part_count-le}
use Rattle.vi_lines.proofs.IndexLemmas.{same_caller-eq, length-lines_of-le, line_of-caller}
use Rattle.vi_lines.proofs.TransferLemmas.{HasTransfers-from_valid}
use Rattle.vi_check.proofs.EnteredLemmas.{get_or-some}

-- an element that a filter keeps passes its test, and what holds of all holds of it
pub kept_by_filter : {X : Type 0} (P : X → Type 0) (p : X → Bool) (xs : List X) (k : ℕ) (x : X)
    → All P xs → slice_get (filter p xs) k ≡ Some x → (p x ≡ true) × P x
kept_by_filter P p xs k x all e =
    let at = get_or-some (filter p xs) k x x (sym e) in (
      subst (λ y. p y ≡ true) at.1 (All-get_or (λ y. p y ≡ true) (filter p xs) k x at.0 (filter_passes p xs)),
      subst P at.1 (All-get_or P (filter p xs) k x at.0 (All-filter p P xs all)),
    )

-- a call of a script: its line is one of the caller's, as they are valid
pub record Known (s : ScriptValue) (caller : Caller) (line part : ℕ) (c : Call) : Type 0 where
  pub l : Line
  pub found : line_of s caller line ≡ Some l
  pub caller_is : l.caller ≡ caller
  pub valid : is_line s.setup.endpoints l ≡ true
  pub call_is : call_in caller part (Some l) ≡ Some c

-- an element that there is
pub there : {X : Type 0} (xs : List X) (k : ℕ) → k < length xs → (x : X) × (slice_get xs k ≡ Some x)
there [] k below = absurd (omega arith)
there (x ∷ xs) zero below = (x, refl)
there (x ∷ xs) (suc k) below = there xs k (omega arith)

-- the caller's line of a number is the caller's, and valid
pub valid_line : (s : ScriptValue) (caller : Caller) (line : ℕ) (l : Line) → IsValid s → line_of s caller line ≡ Some l → (l.caller ≡ caller) × (is_line s.setup.endpoints l ≡ true)
valid_line s caller zero l v e = absurd (cc)
valid_line s caller (suc k) l v e =
    let all = AllPass-from_list_all (λ (l : Line). is_line s.setup.endpoints l) s.lines v.lines_each in
    let kept = kept_by_filter (λ (l : Line). is_line s.setup.endpoints l ≡ true) (λ (l : Line). same_caller l.caller caller) s.lines k l all e in
    (same_caller-eq l.caller caller kept.0, kept.1)

known_by : (s : ScriptValue) (caller : Caller) (line part : ℕ) (c : Call) (o : Option Line) → IsValid s → line_of s caller line ≡ o → call_in caller part o ≡ Some c → Known s caller line part c
known_by s caller line part c None v e is = absurd (cc)
known_by s caller line part c (Some l) v e is =
    let valid = valid_line s caller line l v e in
    record { l = l; found = e; caller_is = valid.0; valid = valid.1; call_is = is }

pub known : (s : ScriptValue) (caller : Caller) (line part : ℕ) (c : Call) → IsValid s → call_of s caller line part ≡ Some c → Known s caller line part c
unfolding call_of
known s caller line part c v is = known_by s caller line part c (line_of s caller line) v refl is

-- its number is one of the caller's lines
pub line_in : (s : ScriptValue) (caller : Caller) (line : ℕ) (l : Line) → line_of s caller line ≡ Some l → (1 ≤ line) × (line ≤ length (lines_of s caller))
line_in s caller zero l e = absurd (cc)
line_in s caller (suc k) l e = let at = get_or-some (lines_of s caller) k l l (sym e) in (omega arith, omega (arith, at.0))

pub line_few : (s : ScriptValue) (caller : Caller) (line : ℕ) → IsValid s → line ≤ length (lines_of s caller) → line ≤ 10000
line_few s caller line v h = omega (arith, length-lines_of-le s caller, v.few)

-- the parts of a valid line's test
record Fits (s : ScriptValue) (l : Line) : Type 0 where
  caller : is_caller_in s.setup.endpoints l.caller ≡ true
  job : is_job l.job ≡ true

fits : (s : ScriptValue) (l : Line) → is_line s.setup.endpoints l ≡ true → Fits s l
fits s l h =
    let few = nat_le (length l.awaits) 16 in
    let a = and_parts (is_caller_in s.setup.endpoints l.caller) (does l.caller l.add l.job && (is_job l.job && (not (job_runs_over l.job) && few))) h in
    let b = and_parts (does l.caller l.add l.job) (is_job l.job && (not (job_runs_over l.job) && few)) a.1 in
    let c = and_parts (is_job l.job) (not (job_runs_over l.job) && few) b.1 in
    record { caller = a.0; job = c.0 }

-- the caller of a line that there is, is one of the script's
pub valid_caller : (s : ScriptValue) (caller : Caller) (line : ℕ) (l : Line) → IsValid s → line_of s caller line ≡ Some l → is_caller_in s.setup.endpoints caller ≡ true
valid_caller s caller line l v e =
    let valid = valid_line s caller line l v e in
    subst (λ c. is_caller_in s.setup.endpoints c ≡ true) valid.0 (fits s l valid.1).caller

pub transfers : (s : ScriptValue) (caller : Caller) (line : ℕ) (l : Line) → IsValid s → line_of s caller line ≡ Some l → TransfersWell l.job
transfers s caller line l v e = (line_of-caller s caller line l (HasTransfers-from_valid s v) e).1

-- a part of a transfer lies in one page, and has its bytes
one_page : (iova len k : ℕ) → IsTransfer iova len → 1 ≤ k → k ≤ part_count iova len → IsInOnePage (nth_part iova len k)
one_page iova len k t first last = record { some = omega arith; ends = omega arith }

length-part_bytes : (iova : ℕ) (bytes : List ℕ) (k : ℕ) → IsTransfer iova (length bytes) → 1 ≤ k → k ≤ part_count iova (length bytes) → length (part_bytes iova bytes k) ≡ (nth_part iova (length bytes) k).len
length-part_bytes iova bytes k t first last = simp (length-take, length-drop) (omega arith)

if_some : {X : Type 0} (b : Bool) (o : Option X) (x : X) → cond b o None ≡ Some x → (b ≡ true) × (o ≡ Some x)
if_some true o x e = (refl, e)
if_some false o x e = absurd (cc)

-- what a driver's call is of
plain_of_driver : (j : Job) (c : Call) → is_job j ≡ true → driver_call j ≡ Some c → IsPlainCall c × (parts_of j ≡ 0)
plain_of_driver (job.Ask request) c h e = let is : call.Ask request ≡ c = cc in (subst IsPlainCall is tt, refl)
plain_of_driver (job.Raw read write) c h e =
    let is : call.Raw read write ≡ c = cc in
    let few = leb-true (length read) 1024 (and_parts (nat_le (length read) 1024) _ h).0 in
    (subst IsPlainCall is (omega (arith, few)), refl)
plain_of_driver (job.Bypass on) c h e = let is : call.Bypass on ≡ c = cc in (subst IsPlainCall is tt, refl)
plain_of_driver (job.Read iova len) c h e = absurd (cc)
plain_of_driver (job.Write iova bytes) c h e = absurd (cc)

plain_of_back : (endpoint : ℕ) (j : Job) (k : ℕ) (c : Call) → TransfersWell j → 1 ≤ k → k ≤ parts_of j → back_call endpoint j k ≡ Some c → IsPlainCall c
plain_of_back endpoint (job.Ask request) k c t first last e = absurd (cc)
plain_of_back endpoint (job.Raw read write) k c t first last e = absurd (cc)
plain_of_back endpoint (job.Bypass on) k c t first last e = absurd (cc)
plain_of_back endpoint (job.Read iova len) k c t first last e =
    let is : call.Read endpoint (nth_part iova len k) ≡ c = cc in
    subst IsPlainCall is (one_page iova len k t first last)
plain_of_back endpoint (job.Write iova bytes) k c t first last e =
    let is : call.Write endpoint (nth_part iova (length bytes) k) (part_bytes iova bytes k) ≡ c = cc in
    subst IsPlainCall is (one_page iova (length bytes) k t first last, length-part_bytes iova bytes k t first last)

-- a call's part, by its caller: 0 for a driver, whose line has no parts; for a back end one of its line's
abbrev pub HasOwnPart : Caller → ℕ → ℕ → Type 0
HasOwnPart (Driver number) part count = (part ≡ 0) × (count ≡ 0)
HasOwnPart (Back endpoint) part count = (1 ≤ part) × (part ≤ count)

few_parts : (j : Job) → TransfersWell j → parts_of j ≤ 17
few_parts (job.Ask request) t = omega arith
few_parts (job.Raw read write) t = omega arith
few_parts (job.Bypass on) t = omega arith
few_parts (job.Read iova len) t = part_count-le iova len t.most
few_parts (job.Write iova bytes) t = part_count-le iova (length bytes) t.most

call_of_line : (caller : Caller) (part : ℕ) (l : Line) (c : Call) → is_job l.job ≡ true → TransfersWell l.job → call_in caller part (Some l) ≡ Some c
    → IsPlainCall c × HasOwnPart caller part (parts_of l.job) × (part ≤ 17)
call_of_line (Driver number) part l c h t e =
    let parts = if_some (part == 0) (driver_call l.job) c e in
    let zero' = eqb-true part 0 parts.0 in
    let plain = plain_of_driver l.job c h parts.1 in
    (plain.0, (zero', plain.1), omega (arith, zero'))
call_of_line (Back endpoint) part l c h t e =
    let parts = if_some (nat_le 1 part && nat_le part (parts_of l.job)) (back_call endpoint l.job part) c e in
    let both = and_parts (nat_le 1 part) (nat_le part (parts_of l.job)) parts.0 in
    let first = leb-true 1 part both.0 in
    let last = leb-true part (parts_of l.job) both.1 in
    (plain_of_back endpoint l.job part c t first last parts.1, (first, last), omega (arith, last, few_parts l.job t))

-- what is known of a call of a valid script
pub record IsGood (s : ScriptValue) (caller : Caller) (line part : ℕ) (c : Call) : Type 0 where
  pub first : 1 ≤ line
  pub last : line ≤ length (lines_of s caller)
  pub few : line ≤ 10000
  pub caller_in : is_caller_in s.setup.endpoints caller ≡ true
  pub plain : IsPlainCall c
  pub own : HasOwnPart caller part (part_count_of s caller line)
  pub few_parts : part ≤ 17

pub good : (s : ScriptValue) (caller : Caller) (line part : ℕ) (c : Call) → IsValid s → call_of s caller line part ≡ Some c → IsGood s caller line part c
good s caller line part c v is =
    let k = known s caller line part c v is in
    let within = line_in s caller line k.l k.found in
    let call = call_of_line caller part k.l c (fits s k.l k.valid).job (transfers s caller line k.l v k.found) k.call_is in
    record {
      first = within.0;
      last = within.1;
      few = line_few s caller line v within.1;
      caller_in = valid_caller s caller line k.l v k.found;
      plain = call.0;
      own = subst (λ o. HasOwnPart caller part (parts_in o)) (sym k.found) call.1;
      few_parts = call.2;
    }

-- a line of this number that there is
line_there : (s : ScriptValue) (caller : Caller) (line : ℕ) → 1 ≤ line → line ≤ length (lines_of s caller) → (l : Line) × (line_of s caller line ≡ Some l)
line_there s caller zero first last = absurd (omega arith)
line_there s caller (suc k) first last = there (lines_of s caller) k (omega arith)

pub caller_there : (s : ScriptValue) (caller : Caller) (line : ℕ) → IsValid s → 1 ≤ line → line ≤ length (lines_of s caller) → is_caller_in s.setup.endpoints caller ≡ true
caller_there s caller line v first last =
    let l = line_there s caller line first last in
    valid_caller s caller line l.0 v l.1

-- the awaited lines are lines of their callers
abbrev pub IsAwaited : List Line → Await → Type 0
IsAwaited lines a = (1 ≤ a.line) × (a.line ≤ length (filter (λ l. same_caller l.caller a.caller) lines))

awaited : (lines : List Line) (c : Caller) (xs : List Await) → list_all (λ a. awaits_well lines c a) xs ≡ true → All (λ a. IsAwaited lines a) xs
awaited lines c [] h = All-nil (λ a. IsAwaited lines a)
awaited lines c (a ∷ xs) h =
    let parts = and_parts (awaits_well lines c a) (list_all (λ a. awaits_well lines c a) xs) h in
    let well = and_parts (not (same_caller a.caller c)) _ parts.0 in
    let bounds = and_parts (nat_le 1 a.line) _ well.1 in
    All-cons (λ a. IsAwaited lines a) a xs (leb-true 1 a.line bounds.0, leb-true a.line _ bounds.1) (awaited lines c xs parts.1)

more_lines : (xs ys : List Line) (a : Await) → IsAwaited xs a → IsAwaited (xs ++ ys) a
more_lines xs ys a h =
    let p = λ (l : Line). same_caller l.caller a.caller in
    (h.0, rw (filter-append p xs ys, length-append (filter p xs) (filter p ys)) (omega (arith, h.1)))

all_awaited : (above lines : List Line) → AwaitAbove above lines → All (λ l. All (λ a. IsAwaited (above ++ lines) a) l.awaits) lines
all_awaited above [] h = All-nil (λ l. All (λ a. IsAwaited (above ++ []) a) l.awaits)
all_awaited above (l ∷ ls) h =
    let whole : (above ++ l ∷ []) ++ ls ≡ above ++ l ∷ ls = append_assoc above (l ∷ []) ls in
    let first = All-weaker (λ a. IsAwaited above a) (λ a. IsAwaited (above ++ l ∷ ls) a) (λ a. more_lines above (l ∷ ls) a) l.awaits (awaited above l.caller l.awaits h.0) in
    let rest = subst (λ xs. All (λ (m : Line). All (λ a. IsAwaited xs a) m.awaits) ls) whole (all_awaited (above ++ l ∷ []) ls h.1) in
    All-cons (λ (m : Line). All (λ a. IsAwaited (above ++ l ∷ ls) a) m.awaits) l ls first rest

pub awaits_in_lines : (s : ScriptValue) (caller : Caller) (line : ℕ) (l : Line) → IsValid s → line_of s caller line ≡ Some l → All (λ a. IsAwaited s.lines a) (awaits_of s caller line)
awaits_in_lines s caller zero l v e = absurd (cc)
awaits_in_lines s caller (suc k) l v e =
    let all = all_awaited [] s.lines v.awaits_each in
    let kept = kept_by_filter (λ (l : Line). All (λ a. IsAwaited s.lines a) l.awaits) (λ (l : Line). same_caller l.caller caller) s.lines k l all e in
    subst (λ o. All (λ a. IsAwaited s.lines a) (awaits_in o)) (sym e) kept.1

pub good_awaits : (s : ScriptValue) (caller : Caller) (line part : ℕ) (c : Call) → IsValid s → call_of s caller line part ≡ Some c → All (λ a. IsAwaited s.lines a) (awaits_of s caller line)
good_awaits s caller line part c v is =
    let k = known s caller line part c v is in
    awaits_in_lines s caller line k.l v k.found
