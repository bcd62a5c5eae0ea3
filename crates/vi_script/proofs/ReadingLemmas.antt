-- A text line by line: each line is judged, and the rest is read behind it.
use Rattle.std.proofs.Common.{◌≡◌, ℕ, ◌+◌, ◌≤◌, true, List, [], ◌∷◌, length, Ok, Err, refl, arith, length-append, Bool, cond, not, inl, inr}
use Rattle.std.specs.Prelude.{nat_lt}
use Rattle.std.proofs.lemmas.Bool.{cases_Bool, ltb-false, not-false, or_parts}
use Rattle.vi_words.specs.Words.{lines_of_text}
use Rattle.vi_lines.specs.declared.line.Line.{Line}
use Rattle.vi_script.specs.declared.fault.Refusal.{Refusal}
use Rattle.vi_script.specs.declared.fault.Refusal.TheVariants as refusal
use Rattle.vi_script.specs.Faults.{Reads}
use Rattle.vi_lines.specs.Value.{ScriptValue}
use Rattle.vi_script.specs.Statements.{Statement, Memory, Queue, Cache, Granule, Input, Bypass, Events, Endpoint, Reserve, Turns, Actor}
use Rattle.vi_script.specs.Said.{Said, says, nothing_said, script_of}
use Rattle.vi_script.specs.declared.fault.BadKind.TheVariants as bad
use Rattle.vi_script.specs.Judging.{is_again, is_undeclared, has_bad_span, is_beyond, is_within, awaits_badly, taken}
use Rattle.vi_script.specs.Texts.{judge, said_from, script}
use Rattle.vi_script.specs.Parsing.{fault_at, Faults}

-- a statement adds one line at most
pub says_lines : (above : Said) (s : Statement) → length (says above s).lines ≤ length above.lines + 1
says_lines above (Memory pages) = omega arith
says_lines above (Queue size) = omega arith
says_lines above (Cache entries) = omega arith
says_lines above (Granule granule) = omega arith
says_lines above (Input span) = omega arith
says_lines above (Bypass on) = omega arith
says_lines above (Events on) = omega arith
says_lines above (Endpoint id) = omega arith
says_lines above (Reserve id region) = omega arith
says_lines above (Turns turns) = omega arith
says_lines above (Actor l) = omega (arith, length-append {A = Line})

-- what is taken is within its limits
within : (above : Said) (n : ℕ) (s t : Statement) (badly : Bool) → cond (is_beyond above n s) (Err bad.Limit) (cond badly (Err bad.After) (Ok s)) ≡ Ok t
    → (is_within above s ≡ true) × (n ≤ 10000)
within above n s t badly h =
    elim (cases_Bool (is_beyond above n s)) [
      | inl y ↦ let e = rw y at h in absurd (cc)
      | inr clear ↦
          let parts = or_parts (nat_lt 10000 n) (not (is_within above s)) clear in
          (not-false (is_within above s) parts.1, ltb-false 10000 n parts.0)
    ]

unspanned : (above : Said) (n : ℕ) (s t : Statement) (badly : Bool) → cond (has_bad_span above s) (Err bad.Span) (cond (is_beyond above n s) (Err bad.Limit) (cond badly (Err bad.After) (Ok s))) ≡ Ok t
    → (is_within above s ≡ true) × (n ≤ 10000)
unspanned above n s t badly h =
    elim (cases_Bool (has_bad_span above s)) [
      | inl y ↦ let e = rw y at h in absurd (cc)
      | inr clear ↦ within above n s t badly (rw clear at h)
    ]

declared : (above : Said) (n : ℕ) (s t : Statement) (badly : Bool)
    → cond (is_undeclared above s) (Err bad.Endpoint) (cond (has_bad_span above s) (Err bad.Span) (cond (is_beyond above n s) (Err bad.Limit) (cond badly (Err bad.After) (Ok s)))) ≡ Ok t
    → (is_within above s ≡ true) × (n ≤ 10000)
declared above n s t badly h =
    elim (cases_Bool (is_undeclared above s)) [
      | inl y ↦ let e = rw y at h in absurd (cc)
      | inr clear ↦ unspanned above n s t badly (rw clear at h)
    ]

pub taken-within : (above : Said) (n : ℕ) (s t : Statement) → taken above n s ≡ Ok t → (is_within above s ≡ true) × (n ≤ 10000)
taken-within above n s t h =
    elim (cases_Bool (is_again above s)) [
      | inl y ↦ let e = rw y at h in absurd (cc)
      | inr clear ↦ declared above n s t (awaits_badly above s) (rw clear at h)
    ]

-- the next line of a text is read, or is its first bad line
pub said_from-more : (n : ℕ) (above more : Said) (line : List ℕ) (lines : List (List ℕ)) → judge above n line ≡ Ok more
    → said_from n above (line ∷ lines) ≡ said_from (n + 1) more lines
said_from-more n above more line lines h = rw h refl

pub script-refused : (bytes : List ℕ) (n : ℕ) (above : Said) (line : List ℕ) (lines : List (List ℕ)) (r : Refusal)
    → said_from 1 nothing_said (lines_of_text bytes) ≡ said_from n above (line ∷ lines)
    → Reads {T = Said} (λ said. said) (Err r) (judge above n line) → Faults (fault_at n r) (script bytes)
unfolding script
script-refused bytes n above line lines (refusal.Bad kind) read h = rw (read, h) refl
script-refused bytes n above line lines refusal.OutOfMemory read h = tt

pub script-read : (bytes : List ℕ) (n : ℕ) (said : Said) (s : ScriptValue) → said_from 1 nothing_said (lines_of_text bytes) ≡ said_from n said []
    → s ≡ script_of said → script bytes ≡ Ok s
unfolding script
script-read bytes n said s read is = rw (read, is) refl
