-- Lines and words at the front of a text.
use Rattle.std.proofs.Common.{◌≡◌, ◌==◌, ℕ, suc, ◌+◌, ◌<◌, ◌≤◌, Bool, true, false, not, cond, List, [], ◌∷◌, length, Some, None, take, drop, refl, ap, sym, subst, ◌∙◌, arith, inl, inr}
use Rattle.std.specs.Prelude.{nat_lt}
use Rattle.std.specs.List.{position, position_or_len}
use Rattle.std.proofs.lemmas.Bool.{cases_Bool, not-true, eqb-true, ltb-false}
use Rattle.std.proofs.lemmas.List.{take_all, drop_all}
use Rattle.std.proofs.Math.Seq.{drop-cons}
use Rattle.std.proofs.lemmas.List.Quantifiers.{position-Some}
use Rattle.std.proofs.lemmas.List.Sums.{prefix_len-le-length}
use Rattle.vi_words.specs.Words.{in_front, lines_of_text, continues, words_of}

-- where the first element that passes stands, or how many there are
pub position_or_len-found : {X : Type 0} (p : X → Bool) (xs : List X) (i : ℕ) → position p xs ≡ Some i → i ≡ position_or_len p xs
position_or_len-found p xs i h =
    elim (cases_Bool (nat_lt (position_or_len p xs) (length xs))) [
      | inl y ↦ let e = rw y at h in cc
      | inr n ↦ let e = rw n at h in absurd (cc)
    ]

pub position_or_len-none : {X : Type 0} (p : X → Bool) (xs : List X) → position p xs ≡ None → length xs ≡ position_or_len p xs
position_or_len-none p xs h =
    elim (cases_Bool (nat_lt (position_or_len p xs) (length xs))) [
      | inl y ↦ let e = rw y at h in absurd (cc)
      | inr n ↦
          let least = prefix_len-le-length (λ x. not (p x)) xs in
          let most = ltb-false (position_or_len p xs) (length xs) n in
          omega arith
    ]

pub position_or_len-le : {X : Type 0} (p : X → Bool) (xs : List X) → position_or_len p xs ≤ length xs
position_or_len-le p xs = prefix_len-le-length (λ x. not (p x)) xs

-- one more element before the rest
take-next : {X : Type 0} (n : ℕ) (x : X) (xs : List X) → take (1 + n) (x ∷ xs) ≡ x ∷ take n xs
take-next n x xs = let e : 1 + n ≡ suc n = omega arith in rw e refl

drop-next : {X : Type 0} (n : ℕ) (x : X) (xs : List X) → drop (1 + n) (x ∷ xs) ≡ drop n xs
drop-next n x xs = let e : 1 + n ≡ suc n = omega arith in rw e refl

drop-after : {X : Type 0} (n : ℕ) (x : X) (xs : List X) → drop (1 + n + 1) (x ∷ xs) ≡ drop (n + 1) xs
drop-after n x xs = let e : 1 + n + 1 ≡ suc (n + 1) = omega arith in rw e refl

pub lines_of_text-nil : lines_of_text [] ≡ []
unfolding lines_of_text
lines_of_text-nil = refl

-- the first line ends at the first LF
line_with_more : (b : ℕ) (bs : List ℕ) (n : ℕ) (lines : List (List ℕ)) → lines ≡ take n bs ∷ lines_of_text (drop (n + 1) bs)
    → in_front b lines ≡ take (1 + n) (b ∷ bs) ∷ lines_of_text (drop (1 + n + 1) (b ∷ bs))
line_with_more b bs n lines e = rw (e, take-next n b bs, drop-after n b bs) refl

pub lines_of_text-next : (b : ℕ) (bs : List ℕ) → lines_of_text (b ∷ bs) ≡ take (position_or_len (λ b. b == 10) (b ∷ bs)) (b ∷ bs) ∷ lines_of_text (drop (position_or_len (λ b. b == 10) (b ∷ bs) + 1) (b ∷ bs))
unfolding lines_of_text
lines_of_text-next b [] =
    elim (cases_Bool (b == 10)) [ inl y ↦ rw y refl | inr n ↦ rw n refl ]
lines_of_text-next b (c ∷ cs) =
    elim (cases_Bool (b == 10)) [
      | inl y ↦ rw y refl
      | inr n ↦ rw n (line_with_more b (c ∷ cs) (position_or_len (λ b. b == 10) (c ∷ cs)) (lines_of_text (c ∷ cs)) (lines_of_text-next c cs))
    ]

-- a line with its LF, and the last line without one
pub lines_of_text-found : (bs : List ℕ) (n : ℕ) → position (λ b. b == 10) bs ≡ Some n → lines_of_text bs ≡ take n bs ∷ lines_of_text (drop (n + 1) bs)
lines_of_text-found [] n h = absurd (cc)
lines_of_text-found (b ∷ bs) n h = let e = position_or_len-found (λ b. b == 10) (b ∷ bs) n h in rw e (lines_of_text-next b bs)

pub lines_of_text-last : (bs : List ℕ) → (bs ≡ [] → ⊥) → position (λ b. b == 10) bs ≡ None → lines_of_text bs ≡ bs ∷ []
lines_of_text-last [] some h = absurd (some refl)
lines_of_text-last (b ∷ bs) some h =
    let n : position_or_len (λ b. b == 10) (b ∷ bs) ≡ length (b ∷ bs) = sym (position_or_len-none (λ b. b == 10) (b ∷ bs) h) in
    let next = subst (λ k. lines_of_text (b ∷ bs) ≡ take k (b ∷ bs) ∷ lines_of_text (drop (k + 1) (b ∷ bs))) n (lines_of_text-next b bs) in
    let all : take (length (b ∷ bs)) (b ∷ bs) ≡ b ∷ bs = take_all (length (b ∷ bs)) (b ∷ bs) (omega arith) in
    let none : drop (length (b ∷ bs) + 1) (b ∷ bs) ≡ [] = drop_all (length (b ∷ bs) + 1) (b ∷ bs) (omega arith) in
    next ∙ (ap (λ x. x ∷ lines_of_text (drop (length (b ∷ bs) + 1) (b ∷ bs))) all ∙ ap (λ x. (b ∷ bs) ∷ lines_of_text x) none ∙ ap (λ x. (b ∷ bs) ∷ x) lines_of_text-nil)

-- a space before a word means nothing
words_of-space : (b : ℕ) (bs : List ℕ) → (b == 32) ≡ true → words_of (b ∷ bs) ≡ words_of bs
unfolding words_of
words_of-space b bs e = rw e refl

-- a byte of a word
words_of-byte : (b : ℕ) (bs : List ℕ) → (b == 32) ≡ false → words_of (b ∷ bs) ≡ cond (continues bs) (in_front b (words_of bs)) ((b ∷ []) ∷ words_of bs)
unfolding words_of
words_of-byte b bs e = rw e refl

pub words_of-nil : words_of [] ≡ []
unfolding words_of
words_of-nil = refl

-- spaces before a word mean nothing
words_of-spaces : (bs : List ℕ) → words_of bs ≡ words_of (drop (position_or_len (λ b. not (b == 32)) bs) bs)
words_of-spaces [] = refl
words_of-spaces (b ∷ bs) =
    elim (cases_Bool (b == 32)) [
      | inl y ↦ words_of-space b bs y ∙ rw (y, drop-next (position_or_len (λ b. not (b == 32)) bs) b bs) (words_of-spaces bs)
      | inr n ↦ rw n refl
    ]

-- a byte in front of a word that goes on
word_with_more : (b : ℕ) (bs : List ℕ) (n : ℕ) (words : List (List ℕ)) → words ≡ take n bs ∷ words_of (drop n bs)
    → in_front b words ≡ take (1 + n) (b ∷ bs) ∷ words_of (drop (1 + n) (b ∷ bs))
word_with_more b bs n words e = rw (e, take-next n b bs, drop-next n b bs) refl

-- a word goes on up to the next space
word_to_space : (b : ℕ) (bs : List ℕ) → (b == 32) ≡ false
    → words_of (b ∷ bs) ≡ take (1 + position_or_len (λ b. b == 32) bs) (b ∷ bs) ∷ words_of (drop (1 + position_or_len (λ b. b == 32) bs) (b ∷ bs))
word_to_space b [] plain = words_of-byte b [] plain
word_to_space b (c ∷ cs) plain =
    elim (cases_Bool (c == 32)) [
      | inl y ↦ words_of-byte b (c ∷ cs) plain ∙ rw y refl
      | inr n ↦
          let go_on : words_of (b ∷ c ∷ cs) ≡ in_front b (words_of (c ∷ cs)) = words_of-byte b (c ∷ cs) plain ∙ rw n refl in
          let len : position_or_len (λ b. b == 32) (c ∷ cs) ≡ 1 + position_or_len (λ b. b == 32) cs = rw n refl in
          go_on ∙ rw len (word_with_more b (c ∷ cs) (1 + position_or_len (λ b. b == 32) cs) (words_of (c ∷ cs)) (word_to_space c cs n))
    ]

words_of-word : (bs : List ℕ) → continues bs ≡ true
    → words_of bs ≡ take (position_or_len (λ b. b == 32) bs) bs ∷ words_of (drop (position_or_len (λ b. b == 32) bs) bs)
words_of-word [] h = absurd (cc)
words_of-word (b ∷ bs) h =
    let plain : (b == 32) ≡ false = not-true (b == 32) h in
    let len : position_or_len (λ b. b == 32) (b ∷ bs) ≡ 1 + position_or_len (λ b. b == 32) bs = rw plain refl in
    rw len (word_to_space b bs plain)

-- no word is left where there are spaces alone
pub words_of-none : (bs : List ℕ) → position (λ b. not (b == 32)) bs ≡ None → words_of bs ≡ []
words_of-none bs h =
    let n : position_or_len (λ b. not (b == 32)) bs ≡ length bs = sym (position_or_len-none (λ b. not (b == 32)) bs h) in
    let none : drop (position_or_len (λ b. not (b == 32)) bs) bs ≡ [] = rw n (drop_all (length bs) bs (omega arith)) in
    words_of-spaces bs ∙ (ap words_of none ∙ words_of-nil)

-- behind the spaces a word begins
begins : (bs : List ℕ) (n : ℕ) → position (λ b. not (b == 32)) bs ≡ Some n → continues (drop n bs) ≡ true
begins bs n h =
    let at = position-Some (λ b. not (b == 32)) bs n 0 h in
    let below : n < length bs = at.0 in
    rw (drop-cons bs n 0 below) at.1

-- a word up to the next space, and one that ends the line
pub words_of-found : (bs : List ℕ) (n m : ℕ) → position (λ b. not (b == 32)) bs ≡ Some n → position (λ b. b == 32) (drop n bs) ≡ Some m
    → words_of bs ≡ take m (drop n bs) ∷ words_of (drop m (drop n bs))
words_of-found bs n m h k =
    let first = position_or_len-found (λ b. not (b == 32)) bs n h in
    let len = position_or_len-found (λ b. b == 32) (drop n bs) m k in
    words_of-spaces bs ∙ (ap (λ i. words_of (drop i bs)) (sym first) ∙ rw len (words_of-word (drop n bs) (begins bs n h)))

pub words_of-last : (bs : List ℕ) (n : ℕ) → position (λ b. not (b == 32)) bs ≡ Some n → position (λ b. b == 32) (drop n bs) ≡ None
    → words_of bs ≡ drop n bs ∷ words_of []
words_of-last bs n h k =
    let first = position_or_len-found (λ b. not (b == 32)) bs n h in
    let len : position_or_len (λ b. b == 32) (drop n bs) ≡ length (drop n bs) = sym (position_or_len-none (λ b. b == 32) (drop n bs) k) in
    let word = words_of-word (drop n bs) (begins bs n h) in
    let cut = subst (λ i. words_of (drop n bs) ≡ take i (drop n bs) ∷ words_of (drop i (drop n bs))) len word in
    words_of-spaces bs ∙ (ap (λ i. words_of (drop i bs)) (sym first)
    ∙ (cut ∙ (ap (λ x. x ∷ words_of (drop (length (drop n bs)) (drop n bs))) (take_all (length (drop n bs)) (drop n bs) (omega arith))
    ∙ ap (λ x. drop n bs ∷ words_of x) (drop_all (length (drop n bs)) (drop n bs) (omega arith)))))

-- a text of no bytes is empty
pub lines_of_text-empty : (bs : List ℕ) → true ≡ (length bs == 0) → lines_of_text bs ≡ []
lines_of_text-empty [] h = lines_of_text-nil
lines_of_text-empty (b ∷ bs) h = let e = eqb-true (length (b ∷ bs)) 0 (sym h) in absurd (omega arith)

pub some_bytes : (bs : List ℕ) → false ≡ (length bs == 0) → bs ≡ [] → ⊥
some_bytes [] h e = absurd (cc)
some_bytes (b ∷ bs) h e = absurd (cc)
