-- A line of a caller is taken: what has to hold of it, and of the lines above.
use Rattle.std.proofs.Common.{◌≡◌, ℕ, ◌+◌, ◌≤◌, Bool, true, false, not, List, [], ◌∷◌, ◌++◌, length, Some, Ok, refl, ◌∙◌, arith, inl, inr, length-append}
use Rattle.std.specs.Prelude.{nat_le}
use Rattle.std.specs.List.{list_all, filter}
use Rattle.std.proofs.lemmas.Bool.{cases_Bool, and_parts, le-leb, le-ltb, not-true}
use Rattle.std.proofs.lemmas.List.Elements.{filter-append}
use Rattle.std.proofs.lemmas.List.Folds.{list_all-append}
use Rattle.vi_history.specs.declared.call.Caller.{Caller}
use Rattle.vi_history.specs.declared.call.Caller.TheVariants.{Driver}
use Rattle.vi_words.specs.Words.{says_nothing}
use Rattle.vi_lines.specs.declared.line.Line.{Line}
use Rattle.vi_lines.specs.Calls.{same_caller}
use Rattle.vi_script.specs.Forms.{Act, Acts, form_of}
use Rattle.vi_lines.specs.Rules.{job_runs_over, count_lines, awaits_well}
use Rattle.vi_script.specs.Judging.{is_declared, line_fits, taken}
use Rattle.vi_lines.specs.Limits.{is_job, is_driver, transferred, bytes_in, longest_batch_from, longest_batch, open_calls}
use Rattle.vi_script.specs.Said.{Said, says}
use Rattle.vi_script.specs.Statements.{Actor, line_with}
use Rattle.vi_script.specs.Texts.{judge}
use Rattle.vi_lines.proofs.IndexLemmas.{same_caller-self}
use Rattle.vi_make.proofs.WordLemmas.{are_plain_words, joined, words_of-joined, has_bad_byte-joined}

-- what was said, and one more line
abbrev pub with_line : Said → Line → Said
with_line said l = says said (Actor l)

-- ---- batches

-- the driver waits for each of these lines
abbrev pub all_wait : List Line → Bool
all_wait lines = list_all (λ l. not l.add) lines

all_wait-filter : (p : Line → Bool) (lines : List Line) → all_wait lines ≡ true → all_wait (filter p lines) ≡ true
all_wait-filter p [] wait = refl
all_wait-filter p (l ∷ ls) wait =
    let parts = and_parts (not l.add) (all_wait ls) wait in
    let rest = all_wait-filter p ls parts.1 in
    elim (cases_Bool (p l)) [ inl y ↦ rw (y, parts.0) rest | inr n ↦ rw n rest ]

longest_batch-wait : (lines : List Line) → all_wait lines ≡ true → longest_batch_from 0 lines ≤ 1
longest_batch-wait [] wait = omega arith
longest_batch-wait (l ∷ ls) wait =
    let parts = and_parts (not l.add) (all_wait ls) wait in
    let waits : l.add ≡ false = not-true l.add parts.0 in
    let rest = longest_batch-wait ls parts.1 in
    rw waits (omega arith)

one_batch : (lines : List Line) (number : ℕ) → all_wait lines ≡ true → longest_batch lines (Driver number) ≤ 1
one_batch lines number wait =
    longest_batch-wait (filter (λ (l : Line). same_caller l.caller (Driver number)) lines) (all_wait-filter (λ (l : Line). same_caller l.caller (Driver number)) lines wait)

-- so eight drivers have eight open calls at the most
open_calls-wait : (lines : List Line) → all_wait lines ≡ true → open_calls lines ≤ 8
open_calls-wait lines wait =
    omega (arith, one_batch lines 0 wait, one_batch lines 1 wait, one_batch lines 2 wait, one_batch lines 3 wait, one_batch lines 4 wait, one_batch lines 5 wait, one_batch lines 6 wait, one_batch lines 7 wait)

-- ---- lines of a caller

pub count_lines-le : (lines : List Line) (l : Line) (c : Caller) → count_lines lines c ≤ count_lines (lines ++ l ∷ []) c
count_lines-le lines l c =
    let p = λ (l : Line). same_caller l.caller c in
    let cut : filter p (lines ++ l ∷ []) ≡ filter p lines ++ filter p (l ∷ []) = filter-append p lines (l ∷ []) in
    rw cut (omega (arith, length-append (filter p lines) (filter p (l ∷ []))))

pub count_lines-more : (lines : List Line) (l : Line) → count_lines (lines ++ l ∷ []) l.caller ≡ count_lines lines l.caller + 1
count_lines-more lines l =
    let p = λ (m : Line). same_caller m.caller l.caller in
    let one : filter p (l ∷ []) ≡ l ∷ [] = rw (same_caller-self l.caller) refl in
    let cut : filter p (lines ++ l ∷ []) ≡ filter p lines ++ filter p (l ∷ []) = filter-append p lines (l ∷ []) in
    rw (cut, one) (omega (arith, length-append (filter p lines) (l ∷ [])))

-- ---- one more line

-- the line by itself is within its limits, and its caller waits for it
pub record IsModest (l : Line) : Type 0 where
  pub driver : is_driver l.caller ≡ true
  pub awaits_drivers : list_all (λ a. is_driver a.caller) l.awaits ≡ true
  pub job : is_job l.job ≡ true
  pub few_awaits : nat_le (length l.awaits) 16 ≡ true
  pub waits : l.add ≡ false
  pub span : job_runs_over l.job ≡ false

-- the lines above leave room for it, and have what it awaits
pub record HasRoom (said : Said) (number : ℕ) (l : Line) : Type 0 where
  pub wait : all_wait said.lines ≡ true
  pub bytes : bytes_in said.lines + transferred l.job ≤ 16777216
  pub few : number ≤ 10000
  pub declared : is_declared said l.caller ≡ true
  pub awaits : list_all (λ a. awaits_well said.lines l.caller a) l.awaits ≡ true

pub all_wait-more : (lines : List Line) (l : Line) → all_wait lines ≡ true → l.add ≡ false → all_wait (lines ++ l ∷ []) ≡ true
all_wait-more lines l wait last = list_all-append (λ (l : Line). not l.add) lines (l ∷ []) ∙ rw (wait, last) refl

line_fits-room : (said : Said) (number : ℕ) (l : Line) → IsModest l → HasRoom said number l → line_fits said.lines l ≡ true
line_fits-room said number l modest room =
    let calls = open_calls-wait (said.lines ++ l ∷ []) (all_wait-more said.lines l room.wait modest.waits) in
    rw (modest.driver, modest.awaits_drivers, modest.job, le-leb (bytes_in said.lines + transferred l.job) 16777216 room.bytes, modest.few_awaits, le-leb (open_calls (said.lines ++ l ∷ [])) 8 calls) refl

taken-room : (said : Said) (number : ℕ) (l : Line) → IsModest l → HasRoom said number l → taken said number (Actor l) ≡ Ok (Actor l)
taken-room said number l modest room =
    rw (room.declared, modest.span, le-ltb 10000 number room.few, line_fits-room said number l modest room, room.awaits) refl

-- words that are a line of a caller
pub record AreLine (words : List (List ℕ)) (caller : Caller) (act : Act) (l : Line) : Type 0 where
  pub plain : are_plain_words words ≡ true
  pub speak : says_nothing words ≡ false
  pub form : form_of words ≡ Some (Acts caller act)
  pub line : line_with caller act ≡ Ok l

pub judge-line : (said : Said) (number : ℕ) (words : List (List ℕ)) (caller : Caller) (act : Act) (l : Line) → AreLine words caller act l → IsModest l → HasRoom said number l
    → judge said number (joined words) ≡ Ok (with_line said l)
unfolding judge
judge-line said number words caller act l are modest room =
    rw (has_bad_byte-joined words are.plain, words_of-joined words are.plain, are.speak, are.form, are.line, taken-room said number l modest room) refl
