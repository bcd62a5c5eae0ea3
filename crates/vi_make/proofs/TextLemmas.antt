-- The lines of the load script as words with one space between.
use Rattle.std.proofs.Common.{◌≡◌, ◌==◌, ℕ, ◌+◌, ◌*◌, ◌≤◌, false, List, [], ◌∷◌, ◌++◌, decimal, codes, refl, ap, sym, ◌∙◌, append_assoc, arith}
use Rattle.std.proofs.lemmas.Bool.Decides.{nat_tests}
use Rattle.hex.specs.Hex.{encode_lower}
use Rattle.vi_make.specs.LoadScript.{endpoint_of, first_of, last_of, target_of, written_in, attach_line, range_words, map_ending, map_line, write_line, read_line, unmap_line, fault_line}
use Rattle.vi_make.proofs.WordLemmas.{joined}
use Rattle.vi_make.proofs.LineLemmas.{attach_words, first_map_words, map_words, write_words, read_words, unmap_words, fault_words}

-- pieces put together from the left, and from the right
abbrev glued : List ℕ → List (List ℕ) → List ℕ
glued a [] = a
glued a (b ∷ bs) = glued (a ++ b) bs

abbrev flat : List (List ℕ) → List ℕ
flat [] = []
flat (b ∷ []) = b
flat (b ∷ c ∷ cs) = b ++ flat (c ∷ cs)

glued-flat : (a b : List ℕ) (bs : List (List ℕ)) → glued a (b ∷ bs) ≡ a ++ flat (b ∷ bs)
glued-flat a b [] = refl
glued-flat a b (c ∷ cs) = glued-flat (a ++ b) c cs ∙ append_assoc a b (flat (c ∷ cs))

-- words with LF behind the last
abbrev pub ended : List (List ℕ) → List ℕ
ended [] = 10 ∷ []
ended (w ∷ []) = w ++ 10 ∷ []
ended (w ∷ v ∷ ws) = w ++ 32 ∷ ended (v ∷ ws)

pub ended-joined : (words : List (List ℕ)) → ended words ≡ joined words ++ 10 ∷ []
ended-joined [] = refl
ended-joined (w ∷ []) = refl
ended-joined (w ∷ v ∷ ws) = ap (λ xs. w ++ 32 ∷ xs) (ended-joined (v ∷ ws)) ∙ sym (append_assoc w (32 ∷ joined (v ∷ ws)) (10 ∷ []))

pub attach_line-ended : (driver : ℕ) → attach_line driver ≡ ended (attach_words driver (endpoint_of driver))
unfolding attach_line
attach_line-ended driver =
    glued-flat (codes "d") (decimal driver) (codes " attach " ∷ decimal (endpoint_of driver) ∷ codes " " ∷ decimal (endpoint_of driver) ∷ codes "\n" ∷ [])

-- the words of a range before others
range_words-before : (round driver : ℕ) (rest : List ℕ)
    → range_words round driver ++ rest ≡ decimal (endpoint_of driver) ++ 32 ∷ (decimal (first_of round) ++ 32 ∷ (decimal (last_of round) ++ rest))
unfolding range_words
range_words-before round driver rest =
    glued-flat (decimal (endpoint_of driver)) (codes " ") (decimal (first_of round) ∷ codes " " ∷ decimal (last_of round) ∷ rest ∷ [])

-- a map without its end
map_start : (round driver : ℕ) (ending : List ℕ) → map_ending round driver ≡ ending
    → map_line round driver ≡ codes "d" ++ flat (decimal driver ∷ codes " map " ∷ decimal (endpoint_of driver) ∷ codes " " ∷ decimal (first_of round) ∷ codes " " ∷ decimal (last_of round) ∷ codes " " ∷ decimal (target_of round driver) ∷ codes " rw" ∷ ending ∷ [])
unfolding map_line
map_start round driver ending is =
    glued-flat (codes "d") (decimal driver) (codes " map " ∷ range_words round driver ∷ codes " " ∷ decimal (target_of round driver) ∷ codes " rw" ∷ map_ending round driver ∷ [])
    ∙ rw (is, range_words-before round driver (32 ∷ (decimal (target_of round driver) ++ (codes " rw" ++ ending)))) refl

pub map_line-first : (driver : ℕ) → map_line 0 driver ≡ ended (first_map_words driver (endpoint_of driver) (first_of 0) (last_of 0) (target_of 0 driver))
map_line-first driver = map_start 0 driver (10 ∷ []) refl

later_ending : (round driver : ℕ) → 1 ≤ round → map_ending round driver ≡ codes " after b" ++ (decimal (endpoint_of driver) ++ 46 ∷ decimal (3 * round)) ++ 10 ∷ []
later_ending round driver later =
    let other : (round == 0) ≡ false = grind (arith, nat_tests) in
    rw other (glued-flat (codes " after b") (decimal (endpoint_of driver)) (codes "." ∷ decimal (3 * round) ∷ codes "\n" ∷ [])
    ∙ ap (λ xs. codes " after b" ++ xs) (sym (append_assoc (decimal (endpoint_of driver)) (46 ∷ decimal (3 * round)) (10 ∷ []))))

pub map_line-later : (round driver : ℕ) → 1 ≤ round
    → map_line round driver ≡ ended (map_words driver (endpoint_of driver) (first_of round) (last_of round) (target_of round driver) (3 * round))
map_line-later round driver later = map_start round driver _ (later_ending round driver later)

pub write_line-ended : (round driver : ℕ) → write_line round driver ≡ ended (write_words driver (endpoint_of driver) (first_of round) (written_in round driver) (2 * round + 2))
unfolding write_line
write_line-ended round driver =
    glued-flat (codes "b") (decimal (endpoint_of driver)) (codes " write " ∷ decimal (first_of round) ∷ codes " " ∷ encode_lower (written_in round driver) ∷ codes " after d" ∷ decimal driver ∷ codes "." ∷ decimal (2 * round + 2) ∷ codes "\n" ∷ [])
    ∙ rw (append_assoc (decimal driver) (46 ∷ decimal (2 * round + 2)) (10 ∷ [])) refl

pub read_line-ended : (round driver : ℕ) → read_line round driver ≡ ended (read_words (endpoint_of driver) (first_of round))
unfolding read_line
read_line-ended round driver =
    glued-flat (codes "b") (decimal (endpoint_of driver)) (codes " read " ∷ decimal (first_of round) ∷ codes " 4\n" ∷ [])

pub unmap_line-ended : (round driver : ℕ) → unmap_line round driver ≡ ended (unmap_words driver (endpoint_of driver) (first_of round) (last_of round) (3 * round + 2))
unfolding unmap_line
unmap_line-ended round driver =
    glued-flat (codes "d") (decimal driver) (codes " unmap " ∷ range_words round driver ∷ codes " after b" ∷ decimal (endpoint_of driver) ∷ codes "." ∷ decimal (3 * round + 2) ∷ codes "\n" ∷ [])
    ∙ rw (range_words-before round driver (codes " after b" ++ (decimal (endpoint_of driver) ++ 46 ∷ (decimal (3 * round + 2) ++ 10 ∷ []))), append_assoc (decimal (endpoint_of driver)) (46 ∷ decimal (3 * round + 2)) (10 ∷ [])) refl

pub fault_line-ended : (round driver : ℕ) → fault_line round driver ≡ ended (fault_words driver (endpoint_of driver) (first_of round) (2 * round + 3))
unfolding fault_line
fault_line-ended round driver =
    glued-flat (codes "b") (decimal (endpoint_of driver)) (codes " read " ∷ decimal (first_of round) ∷ codes " 4 after d" ∷ decimal driver ∷ codes "." ∷ decimal (2 * round + 3) ∷ codes "\n" ∷ [])
    ∙ rw (append_assoc (decimal driver) (46 ∷ decimal (2 * round + 3)) (10 ∷ [])) refl
