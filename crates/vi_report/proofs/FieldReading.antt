-- What the readers of fields compute is what stands there.
use Rattle.std.proofs.Common.{◌≡◌, ℕ, suc, ◌+◌, ◌-◌, ◌*◌, ◌<◌, ◌≤◌, ◌^◌, leb, min, true, false, eqb, List, [], ◌∷◌, length, get_or, take, drop, Option, Some, None, Result, Ok, Err, refl, sym, ap, ◌∙◌, add-one, drop-cons, inl, inr, arith}
use Rattle.std.specs.Prelude.{◌⊎◌, MatchOption, take_while}
use Rattle.std.specs.Cmp.Lexicographic.{pointwise}
use Rattle.std.specs.List.{AllPass, prefix_len}
use Rattle.std.specs.Char.{is_ascii_digit, digit_value}
use Rattle.std.specs.Result.{result_ok}
use Rattle.std.specs.Str.Parse.{digits_value, digits_value_after}
use Rattle.std.proofs.lemmas.Bool.{and_parts, leb-true, cases_Bool, cases_eq, cases_lt, lt-ltb, le-ltb, eq-eqb, ne_eqb}
use Rattle.std.proofs.lemmas.Str.{digit_value_digit}
use Rattle.std.proofs.lemmas.List.{get_or-take, drop_all}
use Rattle.std.proofs.lemmas.List.Elements.{All-from_get_or}
use Rattle.std.proofs.lemmas.List.Sums.{prefix_len_passes}
use Rattle.std.proofs.lemmas.List.Folds.{length-prefix_len}
use Rattle.hex.specs.declared.error.FromHexError.{FromHexError}
use Rattle.hex.specs.declared.error.FromHexError.TheVariants as hex
use Rattle.hex.specs.Hex.{decode_of, decode_sized}
use Rattle.hex.proofs.HexLemmas.{decode_of-ok, decode_sized-ok, decode_sized-twice}
use Rattle.vi_report.specs.Lines.{after, bytes_at, is_lower_digit, is_plain, number_at, sized_at}
use Rattle.vi_report.specs.declared.fault.Refusal.TheVariants as refusal
use Rattle.vi_report.specs.Parsing.{Finds, refusal_of}

-- ---- texts

after-front : (text bytes : List ℕ) → pointwise eqb (take (length text) bytes) text ≡ true → after text bytes ≡ Some (drop (length text) bytes)
unfolding after
after-front [] bytes same = refl
after-front (c ∷ cs) [] same = absurd (cc)
after-front (c ∷ cs) (b ∷ bytes) same =
    elim (cases_Bool (eqb b c)) [
      | inl y ↦ rw y (after-front cs bytes (rw y at same))
      | inr n ↦ let e = rw n at same in absurd (cc)
    ]

after-other : (text bytes : List ℕ) → pointwise eqb (take (length text) bytes) text ≡ false → after text bytes ≡ None
unfolding after
after-other [] bytes other = absurd (cc)
after-other (c ∷ cs) [] other = refl
after-other (c ∷ cs) (b ∷ bytes) other =
    elim (cases_Bool (eqb b c)) [
      | inl y ↦ rw y (after-other cs bytes (rw y at other))
      | inr n ↦ rw n refl
    ]

-- a text that is stripped from the front stands there
pub finds-stripped : {B : Type 0} (now : B → List ℕ) (r : Option B) (text bytes : List ℕ)
    → MatchOption r (pointwise eqb (take (length text) bytes) text ≡ false) (λ rest. (pointwise eqb (take (length text) bytes) text ≡ true) × (now rest ≡ drop (length text) bytes) × (length (now rest) + length text ≡ length bytes))
    → Finds now r (after text bytes)
finds-stripped now (Some rest) text bytes h = after-front text bytes h.0 ∙ ap (λ x. Some x) (sym h.1)
finds-stripped now None text bytes h = after-other text bytes h

-- ---- numbers

-- the digits at the front are digits
pub digits-pass : (bytes : List ℕ) → AllPass is_ascii_digit (take (prefix_len is_ascii_digit bytes) bytes)
digits-pass bytes =
    let count = prefix_len is_ascii_digit bytes in
    All-from_get_or (λ c. is_ascii_digit c ≡ true) (take count bytes) 0 (λ i within.
    let below : i < count = omega (arith, within, length-prefix_len is_ascii_digit bytes) in
    rw (get_or-take count bytes i 0 below) (prefix_len_passes is_ascii_digit bytes i 0 below))

digit_value-ascii : (c : ℕ) → is_ascii_digit c ≡ true → digit_value c ≡ c - 48
digit_value-ascii c digit =
    let parts = and_parts (leb 48 c) (leb c 57) digit in
    omega (arith, digit_value_digit c (leb-true 48 c parts.0, leb-true c 57 parts.1))

-- the number that digits after a number spell, or the largest one of 64 bits
abbrev pub capped_after : ℕ → List ℕ → ℕ
capped_after n digits = min (digits_value_after 10 n digits) 18446744073709551615

digits_value_after-least : (n : ℕ) (digits : List ℕ) → n ≤ digits_value_after 10 n digits
digits_value_after-least n [] = omega arith
digits_value_after-least n (c ∷ cs) = omega (arith, digits_value_after-least (n * 10 + digit_value c) cs)

capped_after-large : (n : ℕ) (digits : List ℕ) → 18446744073709551615 ≤ n → capped_after n digits ≡ 18446744073709551615
capped_after-large n digits large = omega (arith, digits_value_after-least n digits)

-- one more digit
pub capped_after-more : (n more : ℕ) (c : ℕ) (digits : List ℕ) → more ≡ min (min (n * 10) 18446744073709551615 + digit_value c) 18446744073709551615
    → capped_after n (c ∷ digits) ≡ capped_after more digits
capped_after-more n more c digits is =
    elim (cases_lt (n * 10 + digit_value c) 18446744073709551615) [
      | inl small ↦ let e : more ≡ n * 10 + digit_value c = omega arith in rw e refl
      | inr large ↦
          let e : more ≡ 18446744073709551615 = omega arith in
          rw e (capped_after-large (n * 10 + digit_value c) digits large ∙ sym (capped_after-large 18446744073709551615 digits (omega arith)))
    ]

-- the digit at a place
pub capped_after-digit : (n more i : ℕ) (digits : List ℕ) → i < length digits → AllPass is_ascii_digit digits
    → more ≡ min (min (n * 10) 18446744073709551615 + (get_or digits i 0 - 48)) 18446744073709551615
    → capped_after n (drop i digits) ≡ capped_after more (drop (i + 1) digits)
capped_after-digit n more i digits within pass is =
    let digit : is_ascii_digit (get_or digits i 0) ≡ true = pass i 0 within in
    let value : digit_value (get_or digits i 0) ≡ get_or digits i 0 - 48 = digit_value-ascii (get_or digits i 0) digit in
    rw (add-one, drop-cons digits i 0) (capped_after-more n more (get_or digits i 0) (drop (suc i) digits) (rw value is))

-- all digits
pub capped_after-end : (n i : ℕ) (digits : List ℕ) → length digits ≤ i → n < 2 ^ 64 → capped_after n (drop i digits) ≡ capped_after 0 digits → n ≡ capped_after 0 digits
capped_after-end n i digits past small h =
    let least : capped_after n (drop i digits) ≡ n = rw (drop_all i digits past) (omega arith) in
    sym least ∙ h

-- a number below a limit
pub number_at-below : (limit number : ℕ) (bytes digits rest : List ℕ) → digits ≡ take_while is_ascii_digit bytes → rest ≡ drop (prefix_len is_ascii_digit bytes) bytes
    → limit < 2 ^ 64 → is_plain digits ≡ true → number ≡ capped_after 0 digits → number < limit → number_at limit bytes ≡ Some (number, rest)
unfolding number_at
number_at-below limit number bytes digits rest front behind wide plain is below =
    let value : digits_value 10 digits ≡ number = omega arith in
    rw (sym front, plain, value, lt-ltb number limit below, sym behind) refl

pub number_at-beyond : (limit number : ℕ) (bytes digits : List ℕ) → digits ≡ take_while is_ascii_digit bytes
    → is_plain digits ≡ true → number ≡ capped_after 0 digits → limit ≤ number → number_at limit bytes ≡ None
unfolding number_at
number_at-beyond limit number bytes digits front plain is beyond =
    let value : limit ≤ digits_value 10 digits = omega arith in
    rw (sym front, plain, le-ltb (digits_value 10 digits) limit value) refl

pub number_at-other : (limit : ℕ) (bytes digits : List ℕ) → digits ≡ take_while is_ascii_digit bytes → is_plain digits ≡ false → number_at limit bytes ≡ None
unfolding number_at
number_at-other limit bytes digits front other = rw (sym front, other) refl

-- ---- bytes

pub bytes_at-read : (bytes digits read rest : List ℕ) → digits ≡ take_while is_lower_digit bytes → rest ≡ drop (prefix_len is_lower_digit bytes) bytes
    → decode_of digits ≡ Ok read → bytes_at bytes ≡ Some (read, rest)
unfolding bytes_at
bytes_at-read bytes digits read rest front behind h = rw (sym front, h, sym behind) refl

pub bytes_at-refused : (bytes digits : List ℕ) (fault : FromHexError) → digits ≡ take_while is_lower_digit bytes → decode_of digits ≡ Err fault → bytes_at bytes ≡ None
unfolding bytes_at
bytes_at-refused bytes digits fault front h = rw (sym front, h) refl

-- digits that are refused are no bytes, unless memory is out
pub refused : (fault : FromHexError) (bytes digits : List ℕ) → digits ≡ take_while is_lower_digit bytes → (fault ≡ hex.OutOfMemory) ⊎ (decode_of digits ≡ Err fault)
    → (refusal_of fault ≡ refusal.OutOfMemory) ⊎ ((refusal_of fault ≡ refusal.Unfit) × (bytes_at bytes ≡ None))
refused fault bytes digits front (inl memory) = inl (ap refusal_of memory)
refused (hex.InvalidHexCharacter c i) bytes digits front (inr e) = inr (refl, bytes_at-refused bytes digits _ front e)
refused hex.OddLength bytes digits front (inr e) = inr (refl, bytes_at-refused bytes digits _ front e)
refused hex.InvalidStringLength bytes digits front (inr e) = inr (refl, bytes_at-refused bytes digits _ front e)
refused hex.OutOfMemory bytes digits front (inr e) = inl refl

pub decoded-from_ok : (decoded : Result (List ℕ) FromHexError) (read : List ℕ) → result_ok decoded ≡ Some read → decoded ≡ Ok read
decoded-from_ok (Ok bytes) read h = cc
decoded-from_ok (Err fault) read h = absurd (cc)

-- so many bytes, and what isn't so many
pub sized_at-read : (size : ℕ) (bytes digits read rest : List ℕ) → digits ≡ take_while is_lower_digit bytes → rest ≡ drop (prefix_len is_lower_digit bytes) bytes
    → decode_sized digits size ≡ Ok read → sized_at size bytes ≡ Some (read, rest)
unfolding sized_at
sized_at-read size bytes digits read rest front behind h =
    let twice = decode_sized-ok digits size read h in
    let decoded : decode_of digits ≡ Ok read = sym (decode_sized-twice digits size twice) ∙ h in
    let same : length read ≡ size = omega (arith, twice, (decode_of-ok digits read decoded).2) in
    rw (bytes_at-read bytes digits read rest front behind decoded, eq-eqb (length read) size same) refl

unsized : (size : ℕ) (bytes digits : List ℕ) (decoded : Result (List ℕ) FromHexError) → decode_of digits ≡ decoded → digits ≡ take_while is_lower_digit bytes
    → result_ok (decode_sized digits size) ≡ None → sized_at size bytes ≡ None
unfolding sized_at
unsized size bytes digits (Ok read) is front h =
    elim (cases_eq (length read) size) [
      | inl same ↦
          let twice : length digits ≡ 2 * size = omega (arith, (decode_of-ok digits read is).2) in
          let none = rw (decode_sized-twice digits size twice, is) at h in
          absurd (cc)
      | inr other ↦ rw (bytes_at-read bytes digits read (drop (prefix_len is_lower_digit bytes) bytes) front refl is, ne_eqb (length read) size other) refl
    ]
unsized size bytes digits (Err fault) is front h = rw (bytes_at-refused bytes digits fault front is) refl

pub sized_at-refused : (size : ℕ) (bytes digits : List ℕ) → digits ≡ take_while is_lower_digit bytes → result_ok (decode_sized digits size) ≡ None → sized_at size bytes ≡ None
sized_at-refused size bytes digits front h = unsized size bytes digits (decode_of digits) refl front h
