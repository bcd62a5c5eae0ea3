-- Names and awaited words that were written are read again.
use Rattle.std.proofs.Common.{◌≡◌, ◌==◌, ℕ, suc, ◌+◌, ◌^◌, ◌<◌, Bool, true, false, not, List, [], ◌∷◌, ◌++◌, length, take, drop, Some, decimal, codes, refl, ap, ◌∙◌, arith}
use Rattle.std.specs.Prelude.{nat_eq}
use Rattle.std.specs.List.{list_all, position_or_len, before_first, after_first}
use Rattle.std.proofs.lemmas.Bool.{and_parts}
use Rattle.std.proofs.lemmas.Bool.Decides.{nat_tests}
use Rattle.std.proofs.lemmas.List.{take_at}
use Rattle.std.proofs.lemmas.List.Folds.{list_all-append}
use Rattle.vi_history.specs.declared.call.Caller.{Caller}
use Rattle.vi_history.specs.declared.call.Caller.TheVariants.{Driver, Back}
use Rattle.vi_words.specs.Numbers.{name_number_of}
use Rattle.vi_words.specs.Words.{is_word}
use Rattle.vi_lines.specs.declared.line.Await.{Await}
use Rattle.vi_script.specs.Forms.{caller_of, await_of}
use Rattle.vi_script.proofs.ReadLemmas.{await_read}
use Rattle.vi_make.proofs.WordLemmas.{is_plain, are_plain}
use Rattle.vi_make.proofs.NumberLemmas.{is_digit, are_all_digits, decimal-spells, are_plain-decimal, name_number_of-decimal}

-- a line of a caller
abbrev pub awaits : Caller → ℕ → Await
awaits caller line = record { caller = caller; line = line }

-- ---- callers

pub caller_of-driver : (driver : ℕ) → driver < 2 ^ 32 → caller_of (100 ∷ decimal driver) ≡ Some (Driver driver)
caller_of-driver driver small = rw (name_number_of-decimal driver small) refl

pub caller_of-back : (endpoint : ℕ) → endpoint < 2 ^ 32 → caller_of (98 ∷ decimal endpoint) ≡ Some (Back endpoint)
caller_of-back endpoint small = rw (name_number_of-decimal endpoint small) refl

digit_not_y : (b : ℕ) → is_digit b ≡ true → nat_eq b 121 ≡ false
digit_not_y b h = grind (arith, nat_tests)

not_bypass : (digits : List ℕ) → are_all_digits digits ≡ true → is_word (98 ∷ digits) (codes "bypass") ≡ false
not_bypass [] all = refl
not_bypass (d ∷ ds) all =
    let parts = and_parts (is_digit d) (are_all_digits ds) all in
    rw (digit_not_y d parts.0) refl

pub is_word-back : (endpoint : ℕ) → endpoint < 2 ^ 32 → is_word (98 ∷ decimal endpoint) (codes "bypass") ≡ false
is_word-back endpoint small =
    let fits : endpoint < 2 ^ 64 = omega arith in
    let spells = decimal-spells endpoint fits in
    not_bypass (decimal endpoint) spells.all

-- ---- awaited words

abbrev has_no_dot : List ℕ → Bool
has_no_dot bytes = list_all (λ b. not (b == 46)) bytes

digit_no_dot : (b : ℕ) → is_digit b ≡ true → not (b == 46) ≡ true
digit_no_dot b h = grind (arith, nat_tests)

digits_no_dot : (ds : List ℕ) → are_all_digits ds ≡ true → has_no_dot ds ≡ true
digits_no_dot [] all = refl
digits_no_dot (d ∷ ds) all =
    let parts = and_parts (is_digit d) (are_all_digits ds) all in
    rw (digit_no_dot d parts.0) (digits_no_dot ds parts.1)

first_dot : (name rest : List ℕ) → has_no_dot name ≡ true → position_or_len (λ b. b == 46) (name ++ 46 ∷ rest) ≡ length name
first_dot [] rest none = refl
first_dot (b ∷ bs) rest none =
    let parts = and_parts (not (b == 46)) (has_no_dot bs) none in
    let more = first_dot bs rest parts.1 in
    rw (parts.0, more) (omega arith)

before_dot : (name rest : List ℕ) → has_no_dot name ≡ true → before_first (λ b. b == 46) (name ++ 46 ∷ rest) ≡ name
before_dot name rest none = ap (λ n. take n (name ++ 46 ∷ rest)) (first_dot name rest none) ∙ take_at name (46 ∷ rest) (length name) refl

drop_next : (name rest : List ℕ) → drop (length name + 1) (name ++ 46 ∷ rest) ≡ rest
drop_next [] rest = refl
drop_next (b ∷ bs) rest = let e : length (b ∷ bs) + 1 ≡ suc (length bs + 1) = omega arith in rw e (drop_next bs rest)

after_dot : (name rest : List ℕ) → has_no_dot name ≡ true → after_first (λ b. b == 46) (name ++ 46 ∷ rest) ≡ rest
after_dot name rest none = ap (λ n. drop (n + 1) (name ++ 46 ∷ rest)) (first_dot name rest none) ∙ drop_next name rest

await_of-name : (name : List ℕ) (caller : Caller) (line : ℕ) → has_no_dot name ≡ true → caller_of name ≡ Some caller → line < 2 ^ 32
    → await_of (name ++ 46 ∷ decimal line) ≡ Some (awaits caller line)
unfolding await_of
await_of-name name caller line none is small =
    await_read (caller_of (before_first (λ b. b == 46) (name ++ 46 ∷ decimal line))) (name_number_of (after_first (λ b. b == 46) (name ++ 46 ∷ decimal line))) caller line
    (ap caller_of (before_dot name (decimal line) none) ∙ is)
    (ap name_number_of (after_dot name (decimal line) none) ∙ name_number_of-decimal line small)

decimal_no_dot : (n : ℕ) → n < 2 ^ 32 → has_no_dot (decimal n) ≡ true
decimal_no_dot n small =
    let fits : n < 2 ^ 64 = omega arith in
    let spells = decimal-spells n fits in
    digits_no_dot (decimal n) spells.all

pub await_of-driver : (driver line : ℕ) → driver < 2 ^ 32 → line < 2 ^ 32 → await_of (100 ∷ (decimal driver ++ 46 ∷ decimal line)) ≡ Some (awaits (Driver driver) line)
await_of-driver driver line small fits = await_of-name (100 ∷ decimal driver) (Driver driver) line (decimal_no_dot driver small) (caller_of-driver driver small) fits

pub await_of-back : (endpoint line : ℕ) → endpoint < 2 ^ 32 → line < 2 ^ 32 → await_of (98 ∷ (decimal endpoint ++ 46 ∷ decimal line)) ≡ Some (awaits (Back endpoint) line)
await_of-back endpoint line small fits = await_of-name (98 ∷ decimal endpoint) (Back endpoint) line (decimal_no_dot endpoint small) (caller_of-back endpoint small) fits

-- ---- both are plain words

pub are_plain-await : (n line : ℕ) → n < 2 ^ 32 → line < 2 ^ 32 → are_plain (decimal n ++ 46 ∷ decimal line) ≡ true
are_plain-await n line small fits =
    let first : are_plain (decimal n) ≡ true = are_plain-decimal n (omega arith) in
    let second : are_plain (decimal line) ≡ true = are_plain-decimal line (omega arith) in
    list_all-append is_plain (decimal n) (46 ∷ decimal line) ∙ rw (first, second) refl
