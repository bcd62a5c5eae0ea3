-- What the lines of a text record: `down HEX`, `up HEX`, `use A r` and `use A w`.
use Rattle.std.specs.Prelude.{ℕ, ◌+◌, if◌then◌else◌, List, [], ◌∷◌, ◌++◌, Option, Some, None, Result, Ok, Err, codes}
use Rattle.std.specs.Option.{option_map}
use Rattle.vi_bytes.specs.declared.lease.Need.{Need}
use Rattle.vi_bytes.specs.declared.lease.Need.TheVariants.{Read, Write}
use Rattle.vi_words.specs.Words.{lines_of_text, words_of, is_word, says_nothing}
use Rattle.vi_words.specs.Numbers.{number_of, hex_of}
use Rattle.vi_trace.specs.declared.trace.Event.{Event}
use Rattle.vi_trace.specs.declared.trace.Event.TheVariants.{Down, Up, Access}
use Rattle.vi_trace.specs.declared.trace.TraceLine.{TraceLine}

-- the bytes of one word, where the words are that one
abbrev pub bytes_in : List (List ℕ) → Option (List ℕ)
bytes_in [] = None
bytes_in (word ∷ []) = hex_of word
bytes_in (word ∷ next ∷ others) = None

-- what a use does: `r` reads and `w` writes
abbrev pub need_of : List ℕ → Option Need
need_of word = if is_word word (codes "r") then Some Read else (if is_word word (codes "w") then Some Write else None)

-- a use of the address, where both are there
abbrev pub access_of : Option ℕ → Option Need → Option Event
access_of None need = None
access_of (Some address) None = None
access_of (Some address) (Some need) = Some (Access address need)

-- a use, by its two words
abbrev pub access_in : List (List ℕ) → Option Event
access_in [] = None
access_in (address ∷ []) = None
access_in (address ∷ need ∷ []) = access_of (number_of address) (need_of need)
access_in (address ∷ need ∷ next ∷ others) = None

-- what the words of a line record, if they have one of the four forms
unfoldable pub event_of : List (List ℕ) → Option Event
event_of [] = None
event_of (first ∷ others) =
    if is_word first (codes "down") then option_map Down (bytes_in others) else (
    if is_word first (codes "up") then option_map Up (bytes_in others) else (
    if is_word first (codes "use") then access_in others else None))

-- the line of this number with its event, or the number of a line that has no form
abbrev pub numbered : ℕ → Option Event → Result (List TraceLine) ℕ
numbered number None = Err number
numbered number (Some event) = Ok (record { number = number; event = event } ∷ [])

-- what the line of this number records: nothing, where it says nothing, whatever its bytes are
unfoldable pub line_at : ℕ → List ℕ → Result (List TraceLine) ℕ
line_at number line = if says_nothing (words_of line) then Ok [] else numbered number (event_of (words_of line))

-- lines and those that follow them, or the first bad line
abbrev pub followed : Result (List TraceLine) ℕ → Result (List TraceLine) ℕ → Result (List TraceLine) ℕ
followed (Err bad) below = Err bad
followed (Ok above) (Err bad) = Err bad
followed (Ok above) (Ok below) = Ok (above ++ below)

-- the lines from this number on
abbrev pub trace_from : ℕ → List (List ℕ) → Result (List TraceLine) ℕ
trace_from number [] = Ok []
trace_from number (line ∷ lines) = followed (line_at number line) (trace_from (number + 1) lines)

-- The lines of a text that say something, in order, each with its number, or the number of the first that has no
-- form. Lines count from 1.
unfoldable pub trace : List ℕ → Result (List TraceLine) ℕ
trace bytes = trace_from 1 (lines_of_text bytes)
