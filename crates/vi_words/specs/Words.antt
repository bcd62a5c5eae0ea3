-- A text as lines, and a line as words.
use Rattle.std.specs.Prelude.{◌==◌, ℕ, Bool, true, false, not, ◌&&◌, nat_le, if◌then◌else◌, List, [], ◌∷◌, nat_eq}
use Rattle.std.specs.Cmp.Lexicographic.{pointwise}
use Rattle.std.specs.List.{list_any}

-- a byte before the first of these lists, or alone where there is none
abbrev pub in_front : ℕ → List (List ℕ) → List (List ℕ)
in_front b [] = (b ∷ []) ∷ []
in_front b (first ∷ others) = (b ∷ first) ∷ others

-- The lines of a text: each ends with LF, but the last may lack it. Nothing behind the last LF is no line.
unfoldable pub lines_of_text : List ℕ → List (List ℕ)
lines_of_text [] = []
lines_of_text (b ∷ bs) = if b == 10 then [] ∷ lines_of_text bs else in_front b (lines_of_text bs)

-- the byte continues a word that begins before it: it is the rest's first byte, and no space
abbrev pub continues : List ℕ → Bool
continues [] = false
continues (b ∷ bs) = not (b == 32)

-- the words of a line: the runs of bytes other than space
unfoldable pub words_of : List ℕ → List (List ℕ)
words_of [] = []
words_of (b ∷ bs) =
    if b == 32 then words_of bs else (
    if continues bs then in_front b (words_of bs) else (b ∷ []) ∷ words_of bs)

-- the word begins with #
abbrev pub is_comment : List ℕ → Bool
is_comment [] = false
is_comment (b ∷ bs) = b == 35

-- a line without words, or whose first word begins with #, says nothing
abbrev pub says_nothing : List (List ℕ) → Bool
says_nothing [] = true
says_nothing (first ∷ others) = is_comment first

-- a byte isn't one of 32 to 126
abbrev pub has_bad_byte : List ℕ → Bool
has_bad_byte line = list_any (λ b. not (nat_le 32 b && nat_le b 126)) line

-- the word is this one
abbrev pub is_word : List ℕ → List ℕ → Bool
is_word word text = pointwise nat_eq word text
