-- Lines of a script that calls and awaits name.
use Rattle.std.proofs.Common.{◌≡◌, ◌==◌, ℕ, zero, suc, ◌+◌, ◌≤◌, Bool, true, not, ◌&&◌, inl, inr, List, [], ◌∷◌, ◌++◌, length, filter, Option, Some, None, All, IsSome, nat_le, slice_get, refl, ap, subst, ◌∙◌, length-append, append_assoc, arith}
use Rattle.std.proofs.lemmas.Bool.{cases_Bool, cases_lt, and_parts, false≢true, eqb-true, leb-true}
use Rattle.std.proofs.lemmas.List.Elements.{All-nil, All-cons, All-weaker, All-filter, All-get_or, filter-append, filter_passes}
use Rattle.std.proofs.lemmas.List.Sums.{AllPass-from_list_all}
use Rattle.std.proofs.lemmas.Option.{slice_get_past, slice_get_within, get_or_from_slice_get}
use Rattle.vi_history.specs.declared.call.Caller.{Caller}
use Rattle.vi_history.specs.declared.call.Caller.TheVariants.{Driver}
use Rattle.vi_lines.specs.declared.job.Job.{Job}
use Rattle.vi_lines.specs.declared.job.Job.TheVariants.{Ask, Raw, Bypass, Read, Write}
use Rattle.vi_lines.specs.declared.line.Line.{Line}
use Rattle.vi_lines.specs.declared.line.Await.{Await}
use Rattle.vi_lines.specs.Value.{ScriptValue}
use Rattle.vi_lines.specs.Valid.{IsValid, is_line, does, driver_does, is_caller_in, AwaitAbove}
use Rattle.vi_lines.specs.Limits.{is_job}
use Rattle.vi_lines.specs.Rules.{job_runs_over, awaits_well, count_lines}
use Rattle.vi_lines.specs.Calls.{same_caller, lines_of, line_of, parts_of, call_in, call_of, awaits_in, awaits_of, parts_in, part_count_of}
use Rattle.vi_lines.proofs.IndexLemmas.{same_caller-eq}

-- ---- known calls

none_known : (c : Caller) (part : ℕ) → IsSome (call_in c part None) → ⊥
none_known c part known = false≢true known

-- the line of a call is one of the caller's lines
pub known_line : (s : ScriptValue) (c : Caller) (line part : ℕ) → IsSome (call_of s c line part) → (1 ≤ line) × (line ≤ length (lines_of s c))
unfolding call_of
known_line s c zero part known = absurd (none_known c part known)
known_line s c (suc before) part known =
    elim (cases_lt before (length (lines_of s c))) [
      | inl within ↦ (omega arith, omega arith)
      | inr past ↦ absurd (none_known c part (subst (λ o. IsSome (call_in c part o)) (slice_get_past (lines_of s c) before past) known))
    ]

zero_part : (number part : ℕ) (o : Option Line) → IsSome (call_in (Driver number) part o) → part ≡ 0
zero_part number part None known = absurd (false≢true known)
zero_part number part (Some l) known =
    elim (cases_Bool (part == 0)) [
      | inl e ↦ eqb-true part 0 e
      | inr e ↦ let no_call = rw e at known in absurd (false≢true no_call)
    ]

-- a driver's call is its line's part 0
pub driver_part : (s : ScriptValue) (number line part : ℕ) → IsSome (call_of s (Driver number) line part) → part ≡ 0
unfolding call_of
driver_part s number line part known = zero_part number part (line_of s (Driver number) line) known

-- ---- lines of a valid script

found_in : {X : Type 0} (P : X → Type 0) (xs : List X) (i : ℕ) (x : X) → All P xs → slice_get xs i ≡ Some x → P x
found_in P xs i x all e = subst P (get_or_from_slice_get xs i x x e) (All-get_or P xs i x (slice_get_within xs i x e) all)

-- what is said of each of a caller's lines is said of the one of a number, if there is one
numbered : (P : Line → Type 0) (s : ScriptValue) (c : Caller) (line : ℕ) (l : Line) → All P (lines_of s c) → line_of s c line ≡ Some l → P l
numbered P s c zero l all e = absurd cc
numbered P s c (suc before) l all e = found_in P (lines_of s c) before l all e

no_parts : (add : Bool) (job : Job) → driver_does add job ≡ true → parts_of job ≡ 0
no_parts add (Ask request) ok = refl
no_parts add (Raw read write) ok = refl
no_parts add (Bypass on) ok = refl
no_parts add (Read iova len) ok = absurd (false≢true ok)
no_parts add (Write iova bytes) ok = absurd (false≢true ok)

no_parts-line : (s : ScriptValue) (number : ℕ) (l : Line) → is_line s.setup.endpoints l ≡ true → same_caller l.caller (Driver number) ≡ true → parts_of l.job ≡ 0
no_parts-line s number l ok own =
    let here = is_caller_in s.setup.endpoints l.caller in
    let rest = is_job l.job && (not (job_runs_over l.job) && nat_le (length l.awaits) 16) in
    let a = and_parts here (does l.caller l.add l.job && rest) ok in
    let b = and_parts (does l.caller l.add l.job) rest a.1 in
    no_parts l.add l.job (subst (λ c. does c l.add l.job ≡ true) (same_caller-eq l.caller (Driver number) own) b.0)

-- a driver's line has no parts but its part 0
pub driver_parts : (s : ScriptValue) → IsValid s → (number line : ℕ) → part_count_of s (Driver number) line ≡ 0
driver_parts s valid number line = by (line_of s (Driver number) line) refl
  where
    each : All (λ l. is_line s.setup.endpoints l ≡ true) (lines_of s (Driver number))
    each = All-filter (λ l. same_caller l.caller (Driver number)) (λ l. is_line s.setup.endpoints l ≡ true) s.lines (AllPass-from_list_all (λ l. is_line s.setup.endpoints l) s.lines valid.lines_each)

    own : All (λ l. same_caller l.caller (Driver number) ≡ true) (lines_of s (Driver number))
    own = filter_passes (λ l. same_caller l.caller (Driver number)) s.lines

    by : (o : Option Line) → line_of s (Driver number) line ≡ o → parts_in o ≡ 0
    by None e = refl
    by (Some l) e =
        no_parts-line s number l (numbered (λ l. is_line s.setup.endpoints l ≡ true) s (Driver number) line l each e)
        (numbered (λ l. same_caller l.caller (Driver number) ≡ true) s (Driver number) line l own e)

-- ---- awaited lines

-- the awaited line is one of its caller's lines
abbrev pub IsAwaitable : List Line → Await → Type 0
IsAwaitable lines a = (1 ≤ a.line) × (a.line ≤ count_lines lines a.caller)

count_lines-append : (xs ys : List Line) (c : Caller) → count_lines xs c ≤ count_lines (xs ++ ys) c
count_lines-append xs ys c =
    let split = filter-append (λ l. same_caller l.caller c) xs ys in
    let sizes : count_lines (xs ++ ys) c ≡ count_lines xs c + count_lines ys c = ap length split ∙ length-append (filter (λ l. same_caller l.caller c) xs) (filter (λ l. same_caller l.caller c) ys) in
    omega (arith, sizes)

awaitable : (above more : List Line) (c : Caller) (a : Await) → awaits_well above c a ≡ true → IsAwaitable (above ++ more) a
awaitable above more c a ok =
    let rest = nat_le 1 a.line && nat_le a.line (count_lines above a.caller) in
    let inside = and_parts (nat_le 1 a.line) (nat_le a.line (count_lines above a.caller)) (and_parts (not (same_caller a.caller c)) rest ok).1 in
    let upto = leb-true a.line (count_lines above a.caller) inside.1 in
    (leb-true 1 a.line inside.0, omega (arith, upto, count_lines-append above more a.caller))

all_awaitable : (above lines : List Line) → AwaitAbove above lines → All (λ l. All (IsAwaitable (above ++ lines)) l.awaits) lines
all_awaitable above [] each = All-nil (λ l. All (IsAwaitable (above ++ [])) l.awaits)
all_awaitable above (l ∷ ls) each =
    let whole = above ++ l ∷ ls in
    let here : All (IsAwaitable whole) l.awaits =
    All-weaker (λ a. awaits_well above l.caller a ≡ true) (IsAwaitable whole) (λ a ok. awaitable above (l ∷ ls) l.caller a ok) l.awaits (AllPass-from_list_all (λ a. awaits_well above l.caller a) l.awaits each.0) in
    let later : All (λ l. All (IsAwaitable whole) l.awaits) ls =
    subst (λ xs. All (λ l. All (IsAwaitable xs) l.awaits) ls) (append_assoc above (l ∷ []) ls) (all_awaitable (above ++ l ∷ []) ls each.1) in
    All-cons (λ l. All (IsAwaitable whole) l.awaits) l ls here later

pub awaited_lines : (s : ScriptValue) → IsValid s → (c : Caller) (line : ℕ) → All (IsAwaitable s.lines) (awaits_of s c line)
awaited_lines s valid c line = by (line_of s c line) refl
  where
    each : All (λ l. All (IsAwaitable s.lines) l.awaits) (lines_of s c)
    each = All-filter (λ l. same_caller l.caller c) (λ l. All (IsAwaitable s.lines) l.awaits) s.lines (all_awaitable [] s.lines valid.awaits_each)

    by : (o : Option Line) → line_of s c line ≡ o → All (IsAwaitable s.lines) (awaits_in o)
    by None e = All-nil (IsAwaitable s.lines)
    by (Some l) e = numbered (λ l. All (IsAwaitable s.lines) l.awaits) s c line l each e
