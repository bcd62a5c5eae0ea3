-- A text line by line: what each line says goes in front of what the rest says.
use Rattle.std.proofs.Common.{◌≡◌, ◌≤◌, ◌+◌, ℕ, List, [], ◌∷◌, length, Result, Ok, Err, refl, ap, sym, ◌∙◌, arith, inl, inr, append_assoc, append-nil}
use Rattle.vi_words.specs.Words.{in_front, lines_of_text}
use Rattle.std.specs.Prelude.{◌==◌}
use Rattle.std.proofs.lemmas.Bool.{cases_Bool}
use Rattle.vi_trace.specs.declared.reading.TraceFault.{TraceFault}
use Rattle.vi_trace.specs.declared.reading.TraceFault.TheVariants.{Bad, OutOfMemory}
use Rattle.vi_trace.specs.declared.trace.TraceLine.{TraceLine}
use Rattle.vi_trace.specs.Parsing.{Faults}
use Rattle.vi_trace.specs.Traces.{line_at, followed, trace_from, trace}

-- a text has no more lines than bytes
in_front-le : (b n : ℕ) (lines : List (List ℕ)) → length lines ≤ n → length (in_front b lines) ≤ n + 1
in_front-le b n [] few = omega arith
in_front-le b n (first ∷ others) few = omega arith

pub few_lines : (bytes : List ℕ) → length (lines_of_text bytes) ≤ length bytes
unfolding lines_of_text
few_lines [] = omega arith
few_lines (b ∷ bs) =
    let rest = few_lines bs in
    elim (cases_Bool (b == 10)) [
      | inl ends ↦ rw ends (omega arith)
      | inr goes_on ↦ let more = in_front-le b (length bs) (lines_of_text bs) rest in rw goes_on (omega arith)
    ]

followed_assoc : (a b c : Result (List TraceLine) ℕ) → followed a (followed b c) ≡ followed (followed a b) c
followed_assoc (Err bad) b c = refl
followed_assoc (Ok above) (Err bad) c = refl
followed_assoc (Ok above) (Ok mid) (Err bad) = refl
followed_assoc (Ok above) (Ok mid) (Ok below) = ap (λ x. Ok x) (sym (append_assoc above mid below))

followed_none : (a : Result (List TraceLine) ℕ) → followed (Ok []) a ≡ a
followed_none (Err bad) = refl
followed_none (Ok below) = refl

-- what a bad line below good ones makes of the text
pub trace_refused : (bytes : List ℕ) (number : ℕ) (said : List TraceLine) (line : List ℕ) (lines : List (List ℕ)) (fault : TraceFault)
    → trace_from 1 (lines_of_text bytes) ≡ followed (Ok said) (trace_from number (line ∷ lines)) → Faults fault (line_at number line) → Faults fault (trace bytes)
unfolding trace
trace_refused bytes number said line lines (Bad bad) read refused = rw (read, refused) refl
trace_refused bytes number said line lines OutOfMemory read refused = tt

pub trace_begins : (bytes : List ℕ) → trace_from 1 (lines_of_text bytes) ≡ followed (Ok []) (trace_from 1 (lines_of_text bytes))
trace_begins bytes = sym (followed_none (trace_from 1 (lines_of_text bytes)))

pub trace_goes_on : (bytes : List ℕ) (number : ℕ) (said more : List TraceLine) (line : List ℕ) (lines : List (List ℕ))
    → trace_from 1 (lines_of_text bytes) ≡ followed (Ok said) (trace_from number (line ∷ lines)) → followed (Ok said) (line_at number line) ≡ Ok more
    → trace_from 1 (lines_of_text bytes) ≡ followed (Ok more) (trace_from (number + 1) lines)
trace_goes_on bytes number said more line lines read says =
    read ∙ followed_assoc (Ok said) (line_at number line) (trace_from (number + 1) lines) ∙ ap (λ a. followed a (trace_from (number + 1) lines)) says

pub trace_ends : (bytes : List ℕ) (number : ℕ) (said : List TraceLine) → trace_from 1 (lines_of_text bytes) ≡ followed (Ok said) (trace_from number []) → trace bytes ≡ Ok said
unfolding trace
trace_ends bytes number said read = read ∙ ap (λ x. Ok x) (append-nil said)
