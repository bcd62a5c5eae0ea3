-- Which texts are scripts: each line is judged by what the lines above it say.
use Rattle.std.specs.Prelude.{ℕ, ◌+◌, nat_lt, if◌then◌else◌, List, [], ◌∷◌, Option, Some, None, Result, Ok, Err}
use Rattle.vi_script.specs.declared.fault.BadKind.{BadKind}
use Rattle.vi_script.specs.declared.fault.BadKind.TheVariants as bad
use Rattle.vi_words.specs.Words.{lines_of_text, words_of, says_nothing, has_bad_byte}
use Rattle.vi_lines.specs.Value.{ScriptValue}
use Rattle.vi_script.specs.Forms.{Form, form_of}
use Rattle.vi_script.specs.Statements.{statement_of, ◌>>=◌}
use Rattle.vi_script.specs.Said.{Said, nothing_said, says, script_of}
use Rattle.vi_script.specs.Judging.{is_late, taken}

-- a form is read and taken, if its line isn't late
abbrev pub judge_form : Said → ℕ → Form → Result Said BadKind
judge_form above number form =
    if is_late above form then Err bad.Late else
    (statement_of form >>= (λ s. taken above number s) >>= (λ s. Ok (says above s)))

-- words that have no form are no statement
abbrev pub judge_words : Said → ℕ → Option Form → Result Said BadKind
judge_words above number None = Err bad.Word
judge_words above number (Some form) = judge_form above number form

-- What is said behind the line of this number, below what is said above it, or the first kind of refusal that
-- applies to the line. Lines that say nothing count among the 10,000 too.
unfoldable pub judge : Said → ℕ → List ℕ → Result Said BadKind
judge above number line =
    if has_bad_byte line then Err bad.Byte else (
    if says_nothing (words_of line) then (if nat_lt 10000 number then Err bad.Limit else Ok above) else
    judge_words above number (form_of (words_of line)))

-- the first bad line of a text, counted from 1, and what is wrong with it
pub record Bad : Type 0 where
  pub line : ℕ
  pub kind : BadKind

-- go on behind a line that was judged so
abbrev pub judged : ℕ → Result Said BadKind → (Said → Result Said Bad) → Result Said Bad
judged number (Ok said) go_on = go_on said
judged number (Err kind) go_on = Err (record { line = number; kind = kind })

-- what lines from this number on say, below what is said
abbrev pub said_from : ℕ → Said → List (List ℕ) → Result Said Bad
said_from number above [] = Ok above
said_from number above (line ∷ lines) = judged number (judge above number line) (λ more. said_from (number + 1) more lines)

-- the script of what was said, if the lines were read
abbrev pub script_from : Result Said Bad → Result ScriptValue Bad
script_from (Ok said) = Ok (script_of said)
script_from (Err bad) = Err bad

-- the script that a text is, or its first bad line
unfoldable pub script : List ℕ → Result ScriptValue Bad
script bytes = script_from (said_from 1 nothing_said (lines_of_text bytes))
