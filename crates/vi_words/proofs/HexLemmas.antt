-- Bytes as pairs of hexadecimal digits, as the library reads them.
use Rattle.std.proofs.Common.{◌≡◌, ◌≢◌, ◌==◌, ℕ, ◌+◌, ◌*◌, ◌%◌, ◌<◌, Bool, true, false, ◌&&◌, List, [], ◌∷◌, length, Option, Some, None, Result, Ok, Err, refl, ap, sym, ◌∙◌, arith, inl, inr, ◌⊎◌}
use Rattle.std.specs.Prelude.{nat_lt, MatchOption, MatchResult, IfOk, OnOk}
use Rattle.std.specs.List.{list_all}
use Rattle.std.proofs.lemmas.Bool.{cases_Bool, lt-ltb, le-ltb, eqb-true, and_right}
use Rattle.std.proofs.lemmas.Bool.Decides.{nat_tests}
use Rattle.hex.specs.Hex.{hex_digit_value, digit_or_error, decode_pairs, decode_of, ◌>>=◌}
use Rattle.hex.specs.declared.error.FromHexError.{FromHexError}
use Rattle.hex.specs.declared.error.FromHexError.TheVariants as hex
use Rattle.vi_words.specs.Numbers.{digit_of, are_digits, are_pairs, pairs_of, hex_of}

-- a digit's value is the same in both
digit_of-hex : (c : ℕ) → MatchOption (hex_digit_value c) (digit_of c ≡ 16) (λ v. (digit_of c ≡ v) × (v < 16))
digit_of-hex c = grind (arith, nat_tests)

-- an even number of digits
are_pairs-even : (word : List ℕ) → are_pairs word ≡ true → length word % 2 ≡ 0
are_pairs-even [] h = refl
are_pairs-even (b ∷ []) h = absurd (cc)
are_pairs-even (b ∷ c ∷ bs) h = let e = are_pairs-even bs h in omega arith

-- two digits before the rest
next_pair : (high low : Option ℕ) (b c i : ℕ) (r : Result (List ℕ) FromHexError) (digits pairs : Bool) (rest : List ℕ)
    → MatchOption high (digit_of b ≡ 16) (λ v. (digit_of b ≡ v) × (v < 16))
    → MatchOption low (digit_of c ≡ 16) (λ v. (digit_of c ≡ v) × (v < 16))
    → MatchResult r (λ bytes. ((digits && pairs) ≡ true) × (rest ≡ bytes)) (λ _. (digits && pairs) ≡ false)
    → MatchResult (digit_or_error b i high >>= (λ h. digit_or_error c (i + 1) low >>= (λ l. Ok (h * 16 + l))) >>= (λ byte. r >>= (λ bytes. Ok (byte ∷ bytes))))
    (λ bytes. ((nat_lt (digit_of b) 16 && (nat_lt (digit_of c) 16 && digits) && pairs) ≡ true) × (((16 * digit_of b + digit_of c) ∷ rest) ≡ bytes))
    (λ _. (nat_lt (digit_of b) 16 && (nat_lt (digit_of c) 16 && digits) && pairs) ≡ false)
next_pair None low b c i r digits pairs rest first second more = rw (le-ltb (digit_of b) 16 (omega arith)) refl
next_pair (Some h) None b c i r digits pairs rest first second more =
    rw (lt-ltb (digit_of b) 16 (omega arith), le-ltb (digit_of c) 16 (omega arith)) refl
next_pair (Some h) (Some l) b c i (Ok bytes) digits pairs rest first second more =
    let byte : 16 * digit_of b + digit_of c ≡ h * 16 + l = omega arith in
    let ok : (nat_lt (digit_of b) 16 && (nat_lt (digit_of c) 16 && digits) && pairs) ≡ true =
    rw (lt-ltb (digit_of b) 16 (omega arith), lt-ltb (digit_of c) 16 (omega arith)) more.0 in
    (ok, ap (λ x. x ∷ rest) byte ∙ ap (λ x. (h * 16 + l) ∷ x) more.1)
next_pair (Some h) (Some l) b c i (Err e) digits pairs rest first second more =
    rw (lt-ltb (digit_of b) 16 (omega arith), lt-ltb (digit_of c) 16 (omega arith)) more

decode_pairs-hex : (i : ℕ) (word : List ℕ) → MatchResult (decode_pairs i word) (λ bytes. ((list_all (λ c. nat_lt (digit_of c) 16) word && are_pairs word) ≡ true) × (pairs_of word ≡ bytes)) (λ _. (list_all (λ c. nat_lt (digit_of c) 16) word && are_pairs word) ≡ false)
unfolding decode_pairs
decode_pairs-hex i [] = (refl, refl)
decode_pairs-hex i (b ∷ []) = and_right (nat_lt (digit_of b) 16 && true) false refl
decode_pairs-hex i (b ∷ c ∷ bs) =
    next_pair (hex_digit_value b) (hex_digit_value c) b c i (decode_pairs (i + 2) bs) (list_all (λ c. nat_lt (digit_of c) 16) bs) (are_pairs bs) (pairs_of bs)
    (digit_of-hex b) (digit_of-hex c) (decode_pairs-hex (i + 2) bs)

-- what the library decodes is HEX, but for no digits at all
hex_at : (r : Result (List ℕ) FromHexError) (b : ℕ) (bs : List ℕ) → decode_pairs 0 (b ∷ bs) ≡ r
    → MatchResult r (λ bytes. hex_of (b ∷ bs) ≡ Some bytes) (λ _. hex_of (b ∷ bs) ≡ None)
unfolding hex_of
hex_at (Ok bytes) b bs e =
    let h = decode_pairs-hex 0 (b ∷ bs) in
    let k = rw e at h in
    rw k.0 (ap (λ x. Some x) k.1)
hex_at (Err fault) b bs e =
    let h = decode_pairs-hex 0 (b ∷ bs) in
    let k = rw e at h in
    rw k refl

hex_of-odd : (b : ℕ) (bs : List ℕ) → length (b ∷ bs) % 2 ≡ 1 → hex_of (b ∷ bs) ≡ None
unfolding hex_of
hex_of-odd b bs odd =
    elim (cases_Bool (are_pairs (b ∷ bs))) [
      | inl y ↦ let e = are_pairs-even (b ∷ bs) y in absurd (omega arith)
      | inr n ↦ rw (and_right (are_digits 16 (b ∷ bs)) (are_pairs (b ∷ bs)) n) refl
    ]

decode_of-hex : (b : ℕ) (bs : List ℕ) → MatchResult (decode_of (b ∷ bs)) (λ bytes. hex_of (b ∷ bs) ≡ Some bytes) (λ _. hex_of (b ∷ bs) ≡ None)
decode_of-hex b bs =
    elim (cases_Bool (length (b ∷ bs) % 2 == 1)) [
      | inl y ↦ rw y (hex_of-odd b bs (eqb-true (length (b ∷ bs) % 2) 1 y))
      | inr n ↦ rw n (hex_at (decode_pairs 0 (b ∷ bs)) b bs refl)
    ]

pub hex_of-decoded : (word bytes : List ℕ) → false ≡ (length word == 0) → decode_of word ≡ Ok bytes → hex_of word ≡ Some bytes
hex_of-decoded [] bytes some e = absurd (cc)
hex_of-decoded (b ∷ bs) bytes some e = rw e at (decode_of-hex b bs)

hex_of-refused : (word : List ℕ) (fault : FromHexError) → false ≡ (length word == 0) → decode_of word ≡ Err fault → hex_of word ≡ None
hex_of-refused [] fault some e = absurd (cc)
hex_of-refused (b ∷ bs) fault some e = rw e at (decode_of-hex b bs)

pub hex_of-nil : (word : List ℕ) → true ≡ (length word == 0) → hex_of word ≡ None
unfolding hex_of
hex_of-nil [] h = refl
hex_of-nil (b ∷ bs) h = let e = eqb-true (length (b ∷ bs)) 0 (sym h) in absurd (omega arith)

-- what isn't refused because memory is out is no HEX
pub hex_of-none : (word : List ℕ) (fault : FromHexError) → false ≡ (length word == 0) → fault ≢ hex.OutOfMemory → (fault ≡ hex.OutOfMemory) ⊎ (decode_of word ≡ Err fault) → hex_of word ≡ None
hex_of-none word fault some other (inl memory) = absurd (other memory)
hex_of-none word fault some other (inr refused) = hex_of-refused word fault some refused

-- an answer that is None wherever the wanted one is
pub none_as_wanted : {B E : Type 0} {P : Type 0} (r : Result (Option B) E) (wanted : Option B) → IfOk r (λ b. b ≡ None) → OnOk r P → (P → wanted ≡ None) → IfOk r (λ b. b ≡ wanted)
none_as_wanted (Ok b) wanted none p same = none ∙ sym (same p)
none_as_wanted (Err e) wanted none p same = tt
