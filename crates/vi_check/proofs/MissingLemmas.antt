-- The first due call of the first caller that has one left, by what is seen.
use Rattle.std.proofs.Common.{◌≡◌, ℕ, suc, ◌+◌, ◌-◌, ◌<◌, ◌≤◌, true, false, List, [], ◌∷◌, ◌++◌, length, map, Option, Some, None, get_or, drop, refl, sym, ap, ◌∙◌, arith}
use Rattle.std.specs.Prelude.{slice_get, nat_lt}
use Rattle.std.specs.List.{range_with_len}
use Rattle.std.specs.Option.{option_or}
use Rattle.std.proofs.lemmas.Bool.{le-ltb, lt-ltb}
use Rattle.std.proofs.lemmas.List.{at_drop_more}
use Rattle.vi_bytes.specs.declared.region.EndpointSetup.{EndpointSetup}
use Rattle.vi_history.specs.declared.call.Caller.{Caller}
use Rattle.vi_history.specs.declared.call.Caller.TheVariants.{Driver, Back}
use Rattle.vi_lines.specs.Calls.{lines_of}
use Rattle.vi_lines.specs.Value.{ScriptValue}
use Rattle.vi_check.specs.declared.verdict.Verdict.TheVariants.{Missing}
use Rattle.vi_check.specs.Seen.{Seen, FitsScript, done_first, missing_in, first_missing_in}
use Rattle.vi_check.proofs.EnteredLemmas.{get_or-none}

-- a driver of which nothing is seen has no line
pub no_lines : (s : ScriptValue) (seen : Seen) (number : ℕ) → FitsScript s seen → None ≡ slice_get seen.drivers number → length (lines_of s (Driver number)) ≡ 0
no_lines s seen number fits none = sym (fits number) ∙ ap length (get_or-none seen.drivers number [] none)

pub missing_in-absent : (s : ScriptValue) (seen : Seen) (number : ℕ) → FitsScript s seen → None ≡ slice_get seen.drivers number → None ≡ missing_in s seen (Driver number)
missing_in-absent s seen number fits none =
    let done : nat_lt (done_first (get_or seen.drivers number [])) (length (lines_of s (Driver number))) ≡ false =
    le-ltb _ _ (omega (arith, no_lines s seen number fits none)) in
    rw done refl

pub missing_in-done : (s : ScriptValue) (seen : Seen) (number done : ℕ) → done ≡ done_first (get_or seen.drivers number []) → length (lines_of s (Driver number)) ≤ done → None ≡ missing_in s seen (Driver number)
missing_in-done s seen number done is all =
    let e : nat_lt (done_first (get_or seen.drivers number [])) (length (lines_of s (Driver number))) ≡ false = le-ltb _ _ (omega (arith, is)) in
    rw e refl

pub missing_in-open : (s : ScriptValue) (seen : Seen) (number done : ℕ) → done ≡ done_first (get_or seen.drivers number []) → done < length (lines_of s (Driver number))
    → Some (Missing (Driver number) (done + 1) 0) ≡ missing_in s seen (Driver number)
missing_in-open s seen number done is more =
    let e : nat_lt (done_first (get_or seen.drivers number [])) (length (lines_of s (Driver number))) ≡ true = lt-ltb _ _ (omega (arith, is)) in
    rw e (ap (λ d. Some (Missing (Driver number) (d + 1) 0)) is)

-- one more of the callers
range_next : (n : ℕ) → n < 8 → range_with_len n (8 - n) ≡ n ∷ range_with_len (n + 1) (8 - (n + 1))
range_next n below = let e : 8 - n ≡ suc (8 - (n + 1)) = omega arith in rw e refl

pub drivers_next : (s : ScriptValue) (seen : Seen) (n : ℕ) → n < 8
    → first_missing_in s seen (map (λ number. Driver number) (range_with_len n (8 - n)))
    ≡ option_or (missing_in s seen (Driver n)) (first_missing_in s seen (map (λ number. Driver number) (range_with_len (n + 1) (8 - (n + 1)))))
drivers_next s seen n below = rw (range_next n below) refl

pub drivers_done : (s : ScriptValue) (seen : Seen) (n : ℕ) → 8 ≤ n → None ≡ first_missing_in s seen (map (λ number. Driver number) (range_with_len n (8 - n)))
drivers_done s seen n all = let e : 8 - n ≡ 0 = omega arith in rw e refl

or_assoc : {X : Type 0} (a b c : Option X) → option_or a (option_or b c) ≡ option_or (option_or a b) c
or_assoc None b c = refl
or_assoc (Some x) b c = refl

pub first_missing_in-append : (s : ScriptValue) (seen : Seen) (xs ys : List Caller) → first_missing_in s seen (xs ++ ys) ≡ option_or (first_missing_in s seen xs) (first_missing_in s seen ys)
first_missing_in-append s seen [] ys = refl
first_missing_in-append s seen (x ∷ xs) ys =
    ap (λ o. option_or (missing_in s seen x) o) (first_missing_in-append s seen xs ys) ∙ or_assoc (missing_in s seen x) (first_missing_in s seen xs) (first_missing_in s seen ys)

pub backs_next : (s : ScriptValue) (seen : Seen) (es : List EndpointSetup) (i : ℕ) (e : EndpointSetup) → i < length es → e ≡ get_or es i e
    → first_missing_in s seen (map (λ e. Back e.id) (drop i es)) ≡ option_or (missing_in s seen (Back e.id)) (first_missing_in s seen (map (λ e. Back e.id) (drop (i + 1) es)))
backs_next s seen es i e below is =
    at_drop_more (λ (xs : List EndpointSetup). first_missing_in s seen (map (λ e. Back e.id) xs)) es i e below
    ∙ ap (λ (x : EndpointSetup). option_or (missing_in s seen (Back x.id)) (first_missing_in s seen (map (λ e. Back e.id) (drop (i + 1) es)))) (sym is)
