-- Numbers and bytes as words.
use Rattle.std.specs.Option.{option_map}
use Rattle.std.specs.Prelude.{◌==◌, ℕ, min, ◌+◌, ◌-◌, ◌*◌, ◌^◌, Bool, true, false, ◌&&◌, nat_lt, nat_le, if◌then◌else◌, List, [], ◌∷◌, Option, Some, None, codes, drop}
use Rattle.std.specs.List.{list_all, starts_with}
use Rattle.std.specs.Prelude.{nat_eq}

-- the digit of a base up to 16 that a byte spells, letters in either case, or 16 for no digit
abbrev pub digit_of : ℕ → ℕ
digit_of b =
    if nat_le 48 b && nat_le b 57 then b - 48 else (
    if nat_le 97 b && nat_le b 102 then b - 87 else (
    if nat_le 65 b && nat_le b 70 then b - 55 else 16))

-- the bytes are digits of the base, and there is one
abbrev pub are_digits : ℕ → List ℕ → Bool
are_digits base [] = false
are_digits base (b ∷ bs) = list_all (λ c. nat_lt (digit_of c) base) (b ∷ bs)

-- what digits are worth after a number before them
abbrev pub worth_from : ℕ → ℕ → List ℕ → ℕ
worth_from base before [] = before
worth_from base before (b ∷ bs) = worth_from base (before * base + digit_of b) bs

-- the number that digits of the base spell
unfoldable pub digits_in : ℕ → List ℕ → Option ℕ
digits_in base word = if are_digits base word then Some (worth_from base 0 word) else None

-- the number, if it is below 2^64
abbrev pub bounded : Option ℕ → Option ℕ
bounded None = None
bounded (Some n) = if nat_lt n (2 ^ 64) then Some n else None

-- A number: decimal digits, or 0x and hexadecimal digits in either case; at least one digit, below 2^64.
unfoldable pub number_of : List ℕ → Option ℕ
number_of word = if starts_with nat_eq word (codes "0x") then bounded (digits_in 16 (drop 2 word)) else bounded (digits_in 10 word)

-- the word begins with 0 and goes on
abbrev pub has_leading_zero : List ℕ → Bool
has_leading_zero [] = false
has_leading_zero (b ∷ []) = false
has_leading_zero (b ∷ c ∷ bs) = b == 48

-- numbers of 2^32 and more are alike: nothing has such a number
abbrev pub capped : ℕ → ℕ
capped n = min n 4294967296

-- A number in a name: decimal digits without a leading zero, except 0 itself. It may have any size; from 2^32 on
-- it counts as 2^32.
unfoldable pub name_number_of : List ℕ → Option ℕ
name_number_of word = if has_leading_zero word then None else option_map capped (digits_in 10 word)

-- the bytes that pairs of hexadecimal digits spell
abbrev pub pairs_of : List ℕ → List ℕ
pairs_of [] = []
pairs_of (b ∷ []) = []
pairs_of (b ∷ c ∷ bs) = (16 * digit_of b + digit_of c) ∷ pairs_of bs

-- an even number of digits
abbrev pub are_pairs : List ℕ → Bool
are_pairs [] = true
are_pairs (b ∷ []) = false
are_pairs (b ∷ c ∷ bs) = are_pairs bs

-- HEX: an even number of hexadecimal digits in either case, at least two
unfoldable pub hex_of : List ℕ → Option (List ℕ)
hex_of word = if are_digits 16 word && are_pairs word then Some (pairs_of word) else None
