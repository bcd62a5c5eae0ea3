-- Lower-case digits that are decoded are those that the bytes are written in.
use Rattle.std.proofs.Common.{◌≡◌, ℕ, ◌+◌, ◌*◌, ◌/◌, ◌%◌, ◌<◌, leb, ltb, eqb, Bool, true, List, [], ◌∷◌, slice_index, Option, Some, None, Result, Ok, Err, unwrap_or, refl, sym, ap, ◌∙◌, inl, inr, arith}
use Rattle.std.specs.Prelude.{not, ◌&&◌, ◌||◌}
use Rattle.std.specs.List.{list_all}
use Rattle.std.specs.Char.{is_ascii_digit}
use Rattle.std.proofs.lemmas.Bool.{and_parts, leb-true, ltb-true, eqb-true, agree_below_at, or_cases}
use Rattle.hex.specs.declared.error.FromHexError.{FromHexError}
use Rattle.hex.specs.Hex.{◌>>=◌, decode_of, decode_pairs, digit_or_error, hex_digit_value, pair_value, value_at, encode_lower, encode_with, lower_digits}
use Rattle.hex.proofs.HexLemmas.{decode_of-even, decode_of-ok}
use Rattle.vi_report.specs.Lines.{is_lower_digit}

-- the step before the last that gave something
gave_first : {A B : Type 0} (r : Result A FromHexError) (f : A → Result B FromHexError) (y : B) → (r >>= f) ≡ Ok y → (x : A) × (r ≡ Ok x) × (f x ≡ Ok y)
gave_first (Ok x) f y h = (x, refl, h)
gave_first (Err e) f y h = absurd (cc)

given : {A : Type 0} → A → Result A FromHexError
given x = Ok x

same_Ok : {A : Type 0} (x y : A) → ◌≡◌ {A = Result A FromHexError} (Ok x) (Ok y) → x ≡ y
same_Ok x y h = cc

valued : (c i h : ℕ) (o : Option ℕ) → digit_or_error c i o ≡ Ok h → o ≡ Some h
valued c i h (Some v) e = ap (λ x. Some x) (same_Ok v h e)
valued c i h None e = absurd (cc)

-- a lower-case digit, by its table, is the one that its value is written as
abbrev is_written_back : ℕ → Bool
is_written_back c =
    not (is_lower_digit c) || (eqb (slice_index lower_digits (unwrap_or (hex_digit_value c) 99)) c && ltb (unwrap_or (hex_digit_value c) 99) 16)

lower_digit-small : (c : ℕ) → is_lower_digit c ≡ true → c < 103
lower_digit-small c lower =
    elim (or_cases (is_ascii_digit c) (leb 97 c && leb c 102) lower) [
      | inl decimal ↦ let top = leb-true c 57 (and_parts (leb 48 c) (leb c 57) decimal).1 in omega arith
      | inr letter ↦ let top = leb-true c 102 (and_parts (leb 97 c) (leb c 102) letter).1 in omega arith
    ]

written_back : (c h : ℕ) → is_lower_digit c ≡ true → hex_digit_value c ≡ Some h → (slice_index lower_digits h ≡ c) × (h < 16)
written_back c h lower value =
    let all : is_written_back c ≡ true = agree_below_at is_written_back (λ c. true) 103 c refl (lower_digit-small c lower) in
    let parts = and_parts (eqb (slice_index lower_digits h) c) (ltb h 16) (rw (lower, value) at all) in
    (eqb-true (slice_index lower_digits h) c parts.0, ltb-true h 16 parts.1)

-- a byte as its two digits
pair_back : (a b i byte : ℕ) → is_lower_digit a ≡ true → is_lower_digit b ≡ true → pair_value a b i ≡ Ok byte
    → (slice_index lower_digits (byte / 16) ≡ a) × (slice_index lower_digits (byte % 16) ≡ b)
pair_back a b i byte lower_a lower_b h =
    let high = gave_first (value_at a i) _ byte h in
    let low = gave_first (value_at b (i + 1)) _ byte high.2 in
    let first = written_back a high.0 lower_a (valued a i high.0 (hex_digit_value a) high.1) in
    let second = written_back b low.0 lower_b (valued b (i + 1) low.0 (hex_digit_value b) low.1) in
    let is : high.0 * 16 + low.0 ≡ byte = same_Ok (high.0 * 16 + low.0) byte low.2 in
    let quotient : byte / 16 ≡ high.0 = omega (arith, first.1, second.1) in
    let remainder : byte % 16 ≡ low.0 = omega (arith, first.1, second.1) in
    (rw quotient first.0, rw remainder second.0)

pairs_back : (i : ℕ) (digits bytes : List ℕ) → list_all is_lower_digit digits ≡ true → decode_pairs i digits ≡ Ok bytes → encode_lower bytes ≡ digits
unfolding decode_pairs encode_with
pairs_back i [] bytes lower h = let none = same_Ok [] bytes h in rw (sym none) refl
pairs_back i (a ∷ []) bytes lower h = absurd (cc)
pairs_back i (a ∷ b ∷ rest) bytes lower h =
    let first = and_parts (is_lower_digit a) (is_lower_digit b && list_all is_lower_digit rest) lower in
    let second = and_parts (is_lower_digit b) (list_all is_lower_digit rest) first.1 in
    let byte = gave_first (pair_value a b i) _ bytes h in
    let others = gave_first (decode_pairs (i + 2) rest) _ bytes byte.2 in
    let is : byte.0 ∷ others.0 ≡ bytes = same_Ok (byte.0 ∷ others.0) bytes others.2 in
    let pair = pair_back a b i byte.0 first.0 second.0 byte.1 in
    rw (sym is) (rw (pair.0, pair.1, pairs_back (i + 2) rest others.0 second.1 others.1) refl)

pub digits_back : (digits bytes : List ℕ) → list_all is_lower_digit digits ≡ true → decode_of digits ≡ Ok bytes → encode_lower bytes ≡ digits
digits_back digits bytes lower h =
    let even = (decode_of-ok digits bytes h).0 in
    pairs_back 0 digits bytes lower (sym (decode_of-even digits even) ∙ h)
