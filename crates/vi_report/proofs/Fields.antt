-- A field that was written is read again, whatever follows it.
use Rattle.std.proofs.Common.{◌≡◌, ℕ, zero, suc, ◌/◌, ◌%◌, ◌^◌, ◌<◌, ◌≤◌, true, List, [], ◌∷◌, ◌++◌, length, get_or, slice_index, Some, decimal, refl, inl, inr, arith}
use Rattle.std.specs.List.{prefix_len}
use Rattle.std.specs.Char.{is_ascii_digit}
use Rattle.std.specs.Str.{all_ascii_digits}
use Rattle.std.specs.Str.Parse.{digits_value}
use Rattle.std.proofs.lemmas.Bool.{and_parts, lt-ltb, eq-eqb, ne_eqb, cases_lt, agree_below_at}
use Rattle.std.proofs.lemmas.Fmt.{decimal_nonempty, first_decimal, decimal_digit, digits_decimal, digits_value-decimal}
use Rattle.std.proofs.lemmas.List.{take_at, drop_at, get_or_past}
use Rattle.std.proofs.lemmas.Str.Parse.{IsNumeralModel, numerals_by_value, tells_all_ascii_digits}
use Rattle.hex.specs.Hex.{IsBytes, encode_lower, encode_with, lower_digits}
use Rattle.hex.proofs.HexLemmas.{decode_of-encode_lower}
use Rattle.vi_report.specs.Types.{AreBytes}
use Rattle.vi_report.specs.Lines.{is_plain, number_at, count_at, is_lower_digit, bytes_at, sized_at}

-- ---- numbers

pub own : IsNumeralModel (λ ds. all_ascii_digits ds ≡ true) (digits_value 10)
own = numerals_by_value _ tells_all_ascii_digits

-- a run of digits ends where something else begins
prefix_len-digits : (digits rest : List ℕ) → all_ascii_digits digits ≡ true → prefix_len is_ascii_digit rest ≡ 0 → prefix_len is_ascii_digit (digits ++ rest) ≡ length digits
prefix_len-digits [] rest all ends = ends
prefix_len-digits (d ∷ ds) rest all ends =
    let parts = and_parts (is_ascii_digit d) (all_ascii_digits ds) all in
    rw parts.0 (rw (prefix_len-digits ds rest parts.1 ends) (omega arith))

is_plain-from : (digits : List ℕ) → 0 < length digits → (get_or digits 0 0 ≡ 48 → length digits ≡ 1) → is_plain digits ≡ true
is_plain-from [] some lead = absurd (omega arith)
is_plain-from (c ∷ []) some lead = refl
is_plain-from (c ∷ d ∷ ds) some lead = rw (ne_eqb c 48 (λ e. omega (arith, lead e))) refl

is_plain-decimal : (n : ℕ) → n < 2 ^ 64 → is_plain (decimal n) ≡ true
is_plain-decimal zero small = rw (decimal_digit 0 (omega arith)) refl
is_plain-decimal (suc n) small =
    is_plain-from (decimal (suc n)) (decimal_nonempty (suc n) small)
    (λ e. absurd (omega (arith, first_decimal (suc n) (omega arith) small)))

-- a number is read again where no digit follows it
pub number_at-decimal : (limit n : ℕ) (rest : List ℕ) → n < limit → n < 2 ^ 64 → prefix_len is_ascii_digit rest ≡ 0 → number_at limit (decimal n ++ rest) ≡ Some (n, rest)
unfolding number_at
number_at-decimal limit n rest below small ends =
    let digits = prefix_len-digits (decimal n) rest (digits_decimal own n small) ends in
    let value = digits_value-decimal own n small in
    rw (digits, take_at (decimal n) rest (length (decimal n)) refl, drop_at (decimal n) rest (length (decimal n)) refl, value, is_plain-decimal n small, lt-ltb n limit below) refl

pub count_at-decimal : (limit n : ℕ) (rest : List ℕ) → 1 ≤ n → n < limit → n < 2 ^ 64 → prefix_len is_ascii_digit rest ≡ 0 → count_at limit (decimal n ++ rest) ≡ Some (n, rest)
unfolding count_at
count_at-decimal limit n rest some below small ends = rw (number_at-decimal limit n rest below small ends, lt-ltb 0 n some) refl

-- ---- bytes

-- each digit that is written is one of the lower-case ones
is_lower_digit-glyph : (d : ℕ) → d < 16 → is_lower_digit (slice_index lower_digits d) ≡ true
is_lower_digit-glyph d below = agree_below_at (λ d. is_lower_digit (slice_index lower_digits d)) (λ d. true) 16 d refl below

IsBytes-from_AreBytes : (bytes : List ℕ) → AreBytes bytes → IsBytes bytes
IsBytes-from_AreBytes bytes all i =
    elim (cases_lt i (length bytes)) [
      | inl within ↦ all i 0 within
      | inr past ↦ rw (get_or_past bytes i 0 past) (omega arith)
    ]

prefix_len-encode : (bytes rest : List ℕ) → IsBytes bytes → prefix_len is_lower_digit rest ≡ 0 → prefix_len is_lower_digit (encode_lower bytes ++ rest) ≡ length (encode_lower bytes)
unfolding encode_with
prefix_len-encode [] rest fits ends = ends
prefix_len-encode (b ∷ bytes) rest fits ends =
    let small : b < 256 = fits 0 in
    rw (is_lower_digit-glyph (b / 16) (omega arith), is_lower_digit-glyph (b % 16) (omega arith), prefix_len-encode bytes rest (λ i. fits (suc i)) ends) (omega arith)

-- bytes are read again where no lower-case digit follows them
pub bytes_at-encode : (bytes rest : List ℕ) → AreBytes bytes → prefix_len is_lower_digit rest ≡ 0 → bytes_at (encode_lower bytes ++ rest) ≡ Some (bytes, rest)
unfolding bytes_at
bytes_at-encode bytes rest fits ends =
    let digits = encode_lower bytes in
    rw (prefix_len-encode bytes rest (IsBytes-from_AreBytes bytes fits) ends, take_at digits rest (length digits) refl, drop_at digits rest (length digits) refl, decode_of-encode_lower bytes (IsBytes-from_AreBytes bytes fits)) refl

pub sized_at-encode : (size : ℕ) (bytes rest : List ℕ) → length bytes ≡ size → AreBytes bytes → prefix_len is_lower_digit rest ≡ 0 → sized_at size (encode_lower bytes ++ rest) ≡ Some (bytes, rest)
unfolding sized_at
sized_at-encode size bytes rest same fits ends = rw (bytes_at-encode bytes rest fits ends, eq-eqb (length bytes) size same) refl
