-- Numbers that were written are read again.
use Rattle.std.proofs.Common.{◌≡◌, ◌==◌, ℕ, zero, suc, ◌+◌, ◌*◌, ◌/◌, ◌%◌, ◌^◌, ◌<◌, ◌≤◌, Bool, true, false, ◌&&◌, List, [], ◌∷◌, ◌++◌, length, get_or, slice_index, Some, decimal, codes, refl, ap, ◌∙◌, arith, zero-add}
use Rattle.std.specs.Prelude.{nat_eq, nat_le, nat_lt}
use Rattle.std.specs.List.{list_all, starts_with}
use Rattle.std.proofs.lemmas.Bool.{and_parts, lt-ltb, ne_eqb, agree_below_at}
use Rattle.std.proofs.lemmas.Bool.Decides.{nat_tests}
use Rattle.std.proofs.lemmas.Fmt.{decimal_by_steps, decimal_digit, first_decimal, decimal_nonempty}
use Rattle.std.proofs.lemmas.List.Folds.{list_all-append}
use Rattle.hex.specs.Hex.{IsBytes, encode_lower, encode_with, lower_digits}
use Rattle.hex.proofs.HexLemmas.{decode_of-encode_lower}
use Rattle.vi_words.specs.Numbers.{digit_of, worth_from, digits_in, number_of, has_leading_zero, capped, name_number_of, hex_of}
use Rattle.vi_words.proofs.HexLemmas.{hex_of-decoded}
use Rattle.vi_make.proofs.WordLemmas.{is_plain, are_plain, is_plain_word}

-- a byte that is a decimal digit
abbrev pub is_digit : ℕ → Bool
is_digit b = nat_le 48 b && nat_le b 57

abbrev pub are_all_digits : List ℕ → Bool
are_all_digits bytes = list_all is_digit bytes

-- what is known of the digits of a number
pub record Spells (n : ℕ) (digits : List ℕ) : Type 0 where
  pub all : are_all_digits digits ≡ true
  pub worth : worth_from 10 0 digits ≡ n

worth_from-append : (before : ℕ) (ds : List ℕ) (d : ℕ) → worth_from 10 before (ds ++ d ∷ []) ≡ worth_from 10 before ds * 10 + digit_of d
worth_from-append before [] d = refl
worth_from-append before (x ∷ ds) d = worth_from-append (before * 10 + digit_of x) ds d

digit_of-digit : (d : ℕ) → d < 10 → digit_of (48 + d) ≡ d
digit_of-digit d small = grind (arith, nat_tests)

is_digit-digit : (d : ℕ) → d < 10 → is_digit (48 + d) ≡ true
is_digit-digit d small = grind (arith, nat_tests)

spells_one : (n : ℕ) → n < 10 → Spells n ((48 + n) ∷ [])
spells_one n small = record { all = rw (is_digit-digit n small) refl; worth = zero-add (digit_of (48 + n)) ∙ digit_of-digit n small }

spells_more : (n : ℕ) (ds : List ℕ) → 10 ≤ n → Spells (n / 10) ds → Spells n (ds ++ ((48 + n % 10) ∷ []))
spells_more n ds large front =
    let below : n % 10 < 10 = omega arith in
    let whole : n / 10 * 10 + n % 10 ≡ n = omega arith in
    record {
      all = list_all-append is_digit ds ((48 + n % 10) ∷ []) ∙ rw (front.all, is_digit-digit (n % 10) below) refl;
      worth = worth_from-append 0 ds (48 + n % 10) ∙ rw (front.worth, digit_of-digit (n % 10) below) whole;
    }

pub decimal-spells : (n : ℕ) → n < 2 ^ 64 → Spells n (decimal n)
decimal-spells n small = decimal_by_steps Spells spells_one spells_more n small

-- ---- digits

digit_below : (b : ℕ) → is_digit b ≡ true → nat_lt (digit_of b) 10 ≡ true
digit_below b h = grind (arith, nat_tests)

digits_below : (ds : List ℕ) → are_all_digits ds ≡ true → list_all (λ c. nat_lt (digit_of c) 10) ds ≡ true
digits_below [] all = refl
digits_below (d ∷ ds) all =
    let parts = and_parts (is_digit d) (are_all_digits ds) all in
    rw (digit_below d parts.0) (digits_below ds parts.1)

digits_in-digits : (n : ℕ) (ds : List ℕ) → 0 < length ds → Spells n ds → digits_in 10 ds ≡ Some n
unfolding digits_in
digits_in-digits n [] some spells = absurd (omega arith)
digits_in-digits n (d ∷ ds) some spells = rw (digits_below (d ∷ ds) spells.all, spells.worth) refl

digits_in-decimal : (n : ℕ) → n < 2 ^ 64 → digits_in 10 (decimal n) ≡ Some n
digits_in-decimal n small = digits_in-digits n (decimal n) (decimal_nonempty n small) (decimal-spells n small)

digit_plain : (b : ℕ) → is_digit b ≡ true → is_plain b ≡ true
digit_plain b h = grind (arith, nat_tests)

digits_plain : (ds : List ℕ) → are_all_digits ds ≡ true → are_plain ds ≡ true
digits_plain [] all = refl
digits_plain (d ∷ ds) all =
    let parts = and_parts (is_digit d) (are_all_digits ds) all in
    rw (digit_plain d parts.0) (digits_plain ds parts.1)

pub are_plain-decimal : (n : ℕ) → n < 2 ^ 64 → are_plain (decimal n) ≡ true
are_plain-decimal n small = let spells = decimal-spells n small in digits_plain (decimal n) spells.all

plain_word : (bytes : List ℕ) → 0 < length bytes → are_plain bytes ≡ true → is_plain_word bytes ≡ true
plain_word [] some plain = absurd (omega arith)
plain_word (b ∷ bs) some plain = plain

pub is_plain_word-decimal : (n : ℕ) → n < 2 ^ 64 → is_plain_word (decimal n) ≡ true
is_plain_word-decimal n small = plain_word (decimal n) (decimal_nonempty n small) (are_plain-decimal n small)

-- ---- numbers

and_false : (b : Bool) → (b && false) ≡ false
and_false b = grind (arith, nat_tests)

digit_not_x : (b : ℕ) → is_digit b ≡ true → nat_eq 120 b ≡ false
digit_not_x b h = grind (arith, nat_tests)

not_hex : (ds : List ℕ) → are_all_digits ds ≡ true → starts_with nat_eq ds (codes "0x") ≡ false
not_hex [] all = refl
not_hex (d ∷ []) all = and_false (nat_eq 48 d)
not_hex (d ∷ c ∷ cs) all =
    let first = and_parts (is_digit d) (are_all_digits (c ∷ cs)) all in
    let second = and_parts (is_digit c) (are_all_digits cs) first.1 in
    rw (digit_not_x c second.0) (and_false (nat_eq 48 d))

pub number_of-decimal : (n : ℕ) → n < 2 ^ 64 → number_of (decimal n) ≡ Some n
unfolding number_of
number_of-decimal n small =
    let spells = decimal-spells n small in
    rw (not_hex (decimal n) spells.all, digits_in-decimal n small, lt-ltb n (2 ^ 64) small) refl

no_leading_zero : (ds : List ℕ) → 48 < get_or ds 0 0 → has_leading_zero ds ≡ false
no_leading_zero [] first = refl
no_leading_zero (d ∷ []) first = refl
no_leading_zero (d ∷ c ∷ cs) first = ne_eqb d 48 (λ e. omega arith)

has_leading_zero-decimal : (n : ℕ) → n < 2 ^ 64 → has_leading_zero (decimal n) ≡ false
has_leading_zero-decimal zero small = rw (decimal_digit 0 (omega arith)) refl
has_leading_zero-decimal (suc n) small = no_leading_zero (decimal (suc n)) (first_decimal (suc n) (omega arith) small)

pub name_number_of-decimal : (n : ℕ) → n < 2 ^ 32 → name_number_of (decimal n) ≡ Some n
unfolding name_number_of
name_number_of-decimal n small =
    let fits : n < 2 ^ 64 = omega arith in
    let within : capped n ≡ n = omega arith in
    rw (has_leading_zero-decimal n fits, digits_in-decimal n fits) (ap (λ k. Some k) within)

-- ---- bytes

is_plain-glyph : (d : ℕ) → d < 16 → is_plain (slice_index lower_digits d) ≡ true
is_plain-glyph d below = agree_below_at (λ d. is_plain (slice_index lower_digits d)) (λ d. true) 16 d refl below

pub are_plain-encode : (bytes : List ℕ) → IsBytes bytes → are_plain (encode_lower bytes) ≡ true
unfolding encode_with
are_plain-encode [] fits = refl
are_plain-encode (b ∷ bs) fits =
    let small : b < 256 = fits 0 in
    rw (is_plain-glyph (b / 16) (omega arith), is_plain-glyph (b % 16) (omega arith)) (are_plain-encode bs (λ i. fits (suc i)))

encode-some : (b : ℕ) (bs : List ℕ) → 0 < length (encode_lower (b ∷ bs))
unfolding encode_with
encode-some b bs = omega arith

pub is_plain_word-encode : (b : ℕ) (bs : List ℕ) → IsBytes (b ∷ bs) → is_plain_word (encode_lower (b ∷ bs)) ≡ true
is_plain_word-encode b bs fits = plain_word (encode_lower (b ∷ bs)) (encode-some b bs) (are_plain-encode (b ∷ bs) fits)

some_length : (n : ℕ) → 0 < n → false ≡ (n == 0)
some_length n some = grind (arith, nat_tests)

pub hex_of-encode : (b : ℕ) (bs : List ℕ) → IsBytes (b ∷ bs) → hex_of (encode_lower (b ∷ bs)) ≡ Some (b ∷ bs)
hex_of-encode b bs fits =
    hex_of-decoded (encode_lower (b ∷ bs)) (b ∷ bs) (some_length (length (encode_lower (b ∷ bs))) (encode-some b bs)) (decode_of-encode_lower (b ∷ bs) fits)
