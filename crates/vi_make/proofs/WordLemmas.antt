-- A line made of plain words with one space between is those words, and no byte of it is bad.
use Rattle.std.proofs.Common.{◌≡◌, ◌==◌, ℕ, Bool, true, false, not, cond, ◌&&◌, List, [], ◌∷◌, ◌++◌, refl, ap, ◌∙◌, arith}
use Rattle.std.specs.Prelude.{nat_le}
use Rattle.std.specs.List.{list_all}
use Rattle.std.proofs.lemmas.Bool.{and_parts, or_parts}
use Rattle.std.proofs.lemmas.Bool.Decides.{nat_tests}
use Rattle.std.proofs.lemmas.List.Folds.{list_any-append}
use Rattle.vi_words.specs.Words.{in_front, lines_of_text, continues, words_of, has_bad_byte}

-- a byte that can stand in a word
abbrev pub is_plain : ℕ → Bool
is_plain b = nat_le 33 b && nat_le b 126

abbrev pub are_plain : List ℕ → Bool
are_plain bytes = list_all is_plain bytes

-- a word: some such bytes
abbrev pub is_plain_word : List ℕ → Bool
is_plain_word [] = false
is_plain_word (b ∷ bs) = is_plain b && are_plain bs

abbrev pub are_plain_words : List (List ℕ) → Bool
are_plain_words words = list_all is_plain_word words

-- words with a space between
abbrev pub joined : List (List ℕ) → List ℕ
joined [] = []
joined (w ∷ []) = w
joined (w ∷ v ∷ ws) = w ++ 32 ∷ joined (v ∷ ws)

-- ---- words

plain_other : (b : ℕ) → is_plain b ≡ true → (b == 32) ≡ false
plain_other b h = grind (arith, nat_tests)

-- a byte of a word
words_of-byte : (b : ℕ) (bs : List ℕ) → (b == 32) ≡ false → words_of (b ∷ bs) ≡ cond (continues bs) (in_front b (words_of bs)) ((b ∷ []) ∷ words_of bs)
unfolding words_of
words_of-byte b bs other = rw other refl

-- a byte that another one of its word follows
words_of-more : (b c : ℕ) (cs : List ℕ) → (b == 32) ≡ false → (c == 32) ≡ false → words_of (b ∷ c ∷ cs) ≡ in_front b (words_of (c ∷ cs))
words_of-more b c cs other next = words_of-byte b (c ∷ cs) other ∙ rw next refl

words_of-nil : words_of [] ≡ []
unfolding words_of
words_of-nil = refl

words_of-space : (bs : List ℕ) → words_of (32 ∷ bs) ≡ words_of bs
unfolding words_of
words_of-space bs = refl

words_of-last : (b : ℕ) (bs : List ℕ) → is_plain b ≡ true → are_plain bs ≡ true → words_of (b ∷ bs) ≡ (b ∷ bs) ∷ []
words_of-last b [] first plain = words_of-byte b [] (plain_other b first) ∙ ap (λ ws. (b ∷ []) ∷ ws) words_of-nil
words_of-last b (c ∷ cs) first plain =
    let parts = and_parts (is_plain c) (are_plain cs) plain in
    words_of-more b c cs (plain_other b first) (plain_other c parts.0) ∙ ap (λ ws. in_front b ws) (words_of-last c cs parts.0 parts.1)

words_of-first : (b : ℕ) (bs rest : List ℕ) → is_plain b ≡ true → are_plain bs ≡ true → words_of ((b ∷ bs) ++ 32 ∷ rest) ≡ (b ∷ bs) ∷ words_of rest
words_of-first b [] rest first plain =
    words_of-byte b (32 ∷ rest) (plain_other b first) ∙ ap (λ ws. (b ∷ []) ∷ ws) (words_of-space rest)
words_of-first b (c ∷ cs) rest first plain =
    let parts = and_parts (is_plain c) (are_plain cs) plain in
    words_of-more b c (cs ++ 32 ∷ rest) (plain_other b first) (plain_other c parts.0) ∙ ap (λ ws. in_front b ws) (words_of-first c cs rest parts.0 parts.1)

pub words_of-joined : (words : List (List ℕ)) → are_plain_words words ≡ true → words_of (joined words) ≡ words
unfolding words_of
words_of-joined [] plain = refl
words_of-joined ([] ∷ ws) plain = absurd (cc)
words_of-joined ((b ∷ bs) ∷ []) plain =
    let word = and_parts (is_plain_word (b ∷ bs)) true plain in
    let parts = and_parts (is_plain b) (are_plain bs) word.0 in
    words_of-last b bs parts.0 parts.1
words_of-joined ((b ∷ bs) ∷ v ∷ ws) plain =
    let words = and_parts (is_plain_word (b ∷ bs)) (are_plain_words (v ∷ ws)) plain in
    let parts = and_parts (is_plain b) (are_plain bs) words.0 in
    words_of-first b bs (joined (v ∷ ws)) parts.0 parts.1 ∙ ap (λ xs. (b ∷ bs) ∷ xs) (words_of-joined (v ∷ ws) words.1)

-- ---- bytes

plain_good : (b : ℕ) → is_plain b ≡ true → not (nat_le 32 b && nat_le b 126) ≡ false
plain_good b h = grind (arith, nat_tests)

has_bad_byte-plain : (bytes : List ℕ) → are_plain bytes ≡ true → has_bad_byte bytes ≡ false
has_bad_byte-plain [] plain = refl
has_bad_byte-plain (b ∷ bs) plain =
    let parts = and_parts (is_plain b) (are_plain bs) plain in
    rw (plain_good b parts.0) (has_bad_byte-plain bs parts.1)

has_bad_byte-word : (word : List ℕ) → is_plain_word word ≡ true → has_bad_byte word ≡ false
has_bad_byte-word [] plain = absurd (cc)
has_bad_byte-word (b ∷ bs) plain = has_bad_byte-plain (b ∷ bs) plain

pub has_bad_byte-joined : (words : List (List ℕ)) → are_plain_words words ≡ true → has_bad_byte (joined words) ≡ false
has_bad_byte-joined [] plain = refl
has_bad_byte-joined (w ∷ []) plain =
    let word = and_parts (is_plain_word w) true plain in
    has_bad_byte-word w word.0
has_bad_byte-joined (w ∷ v ∷ ws) plain =
    let parts = and_parts (is_plain_word w) (are_plain_words (v ∷ ws)) plain in
    list_any-append (λ b. not (nat_le 32 b && nat_le b 126)) w (32 ∷ joined (v ∷ ws))
    ∙ rw (has_bad_byte-word w parts.0) (has_bad_byte-joined (v ∷ ws) parts.1)

-- ---- lines

good_other : (b : ℕ) → not (nat_le 32 b && nat_le b 126) ≡ false → (b == 10) ≡ false
good_other b h = grind (arith, nat_tests)

-- a line without bad bytes ends at its LF
pub lines_of_text-line : (line rest : List ℕ) → has_bad_byte line ≡ false → lines_of_text (line ++ 10 ∷ rest) ≡ line ∷ lines_of_text rest
unfolding lines_of_text
lines_of_text-line [] rest good = refl
lines_of_text-line (b ∷ bs) rest good =
    let parts = or_parts (not (nat_le 32 b && nat_le b 126)) (has_bad_byte bs) good in
    rw (good_other b parts.0) (ap (λ ls. in_front b ls) (lines_of_text-line bs rest parts.1))
