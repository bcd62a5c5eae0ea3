-- A field that is read stands there as it is written.
use Rattle.std.proofs.Common.{◌≡◌, ℕ, suc, ◌+◌, ◌^◌, ◌<◌, ◌≤◌, ltb, eqb, Bool, true, List, [], ◌∷◌, ◌++◌, length, get_or, Option, Some, None, decimal, refl, sym, ap, ◌∙◌, append_assoc, inl, inr, arith}
use Rattle.std.specs.Prelude.{◌&&◌, take_while}
use Rattle.std.specs.List.{list_all, prefix_len}
use Rattle.std.specs.Char.{is_ascii_digit}
use Rattle.std.specs.Result.{result_ok}
use Rattle.std.specs.Str.{all_ascii_digits}
use Rattle.std.specs.Str.Parse.{digits_value}
use Rattle.std.proofs.lemmas.Bool.{and_parts, and_from, cases_Bool, ltb-true, eqb-true, eqb-false, not-true}
use Rattle.std.proofs.lemmas.Fmt.{decimal-digits_value}
use Rattle.std.proofs.lemmas.List.{take-append-drop}
use Rattle.std.proofs.lemmas.List.Elements.{All-from_get_or}
use Rattle.std.proofs.lemmas.Option.{same_Some, cond_some}
use Rattle.hex.specs.Hex.{decode_of, encode_lower}
use Rattle.hex.proofs.HexLemmas.{decode_of-ok}
use Rattle.vi_report.specs.Types.{AreBytes}
use Rattle.vi_report.specs.Lines.{after, ◌>>=◌, is_plain, number_at, count_at, is_lower_digit, bytes_at, sized_at}
use Rattle.vi_report.proofs.Fields.{own}
use Rattle.vi_report.proofs.FieldReading.{decoded-from_ok}
use Rattle.vi_report.proofs.DigitsTaking.{digits_back}

-- the first step found something, and so did those behind it
pub found_first : {A B : Type 0} (o : Option A) (f : A → Option B) (y : B) → (o >>= f) ≡ Some y → (x : A) × (o ≡ Some x) × (f x ≡ Some y)
found_first (Some x) f y h = (x, refl, h)
found_first None f y h = absurd (cc)

-- this text was taken from the front of the bytes
pub record Takes (bytes text rest : List ℕ) : Type 0 where
  pub parts : bytes ≡ text ++ rest

-- one text behind another
pub joins : {a x b y c : List ℕ} → Takes a x b → Takes b y c → Takes a (x ++ y) c
joins {a} {x} {b} {y} {c} p q = record { parts = p.parts ∙ ap (λ t. x ++ t) q.parts ∙ sym (append_assoc x y c) }

-- ---- texts

after-parts : (text bytes rest : List ℕ) → after text bytes ≡ Some rest → bytes ≡ text ++ rest
unfolding after
after-parts [] bytes rest h = same_Some bytes rest h
after-parts (c ∷ cs) [] rest h = absurd (cc)
after-parts (c ∷ cs) (b ∷ bytes) rest h =
    elim (cases_Bool (eqb b c)) [
      | inl y ↦ rw (eqb-true b c y, after-parts cs bytes rest (rw y at h)) refl
      | inr n ↦ let e = rw n at h in absurd (cc)
    ]

pub after-takes : (text bytes rest : List ℕ) → after text bytes ≡ Some rest → Takes bytes text rest
after-takes text bytes rest h = record { parts = after-parts text bytes rest h }

-- ---- what passes a test, at the front

front-passes : (p : ℕ → Bool) (xs : List ℕ) → list_all p (take_while p xs) ≡ true
front-passes p [] = refl
front-passes p (x ∷ xs) =
    elim (cases_Bool (p x)) [
      | inl y ↦
          let one : 1 + prefix_len p xs ≡ suc (prefix_len p xs) = omega arith in
          rw (y, one) (and_from (p x) (list_all p (take_while p xs)) y (front-passes p xs))
      | inr n ↦ rw n refl
    ]

all_ascii_digits-list_all : (digits : List ℕ) → list_all is_ascii_digit digits ≡ true → all_ascii_digits digits ≡ true
all_ascii_digits-list_all [] all = refl
all_ascii_digits-list_all (c ∷ cs) all =
    let parts = and_parts (is_ascii_digit c) (list_all is_ascii_digit cs) all in
    and_from (is_ascii_digit c) (all_ascii_digits cs) parts.0 (all_ascii_digits-list_all cs parts.1)

-- ---- numbers

is_plain-some : (digits : List ℕ) → is_plain digits ≡ true → 0 < length digits
is_plain-some [] plain = absurd (cc)
is_plain-some (c ∷ cs) plain = omega arith

is_plain-lead : (digits : List ℕ) → is_plain digits ≡ true → get_or digits 0 0 ≡ 48 → length digits ≡ 1
is_plain-lead [] plain lead = absurd (cc)
is_plain-lead (c ∷ []) plain lead = refl
is_plain-lead (c ∷ d ∷ ds) plain lead = absurd (eqb-false c 48 (not-true (eqb c 48) plain) lead)

-- a number that was read: it is written there, and below the limit
pub record TakesNumber (limit : ℕ) (bytes : List ℕ) (x : ℕ × List ℕ) : Type 0 where
  pub text : Takes bytes (decimal x.0) x.1
  pub below : x.0 < limit

pub number_at-takes : (limit : ℕ) (bytes : List ℕ) (x : ℕ × List ℕ) → limit ≤ 2 ^ 64 → number_at limit bytes ≡ Some x → TakesNumber limit bytes x
unfolding number_at
number_at-takes limit bytes x wide h =
    let digits = take_while is_ascii_digit bytes in
    let found = cond_some (is_plain digits && ltb (digits_value 10 digits) limit) _ x h in
    let parts = and_parts (is_plain digits) (ltb (digits_value 10 digits) limit) found.0 in
    let below : digits_value 10 digits < limit = ltb-true (digits_value 10 digits) limit parts.1 in
    let back : decimal (digits_value 10 digits) ≡ digits =
    decimal-digits_value own digits (all_ascii_digits-list_all digits (front-passes is_ascii_digit bytes)) (is_plain-some digits parts.0) (is_plain-lead digits parts.0) (omega arith) in
    rw (sym found.1) (record { text = record { parts = rw back (sym (take-append-drop (prefix_len is_ascii_digit bytes) bytes)) }; below = below })

-- a number from 1
pub record TakesCount (limit : ℕ) (bytes : List ℕ) (x : ℕ × List ℕ) : Type 0 where
  pub text : Takes bytes (decimal x.0) x.1
  pub least : 1 ≤ x.0
  pub below : x.0 < limit

pub count_at-takes : (limit : ℕ) (bytes : List ℕ) (x : ℕ × List ℕ) → limit ≤ 2 ^ 64 → count_at limit bytes ≡ Some x → TakesCount limit bytes x
unfolding count_at
count_at-takes limit bytes x wide h =
    let number = found_first (number_at limit bytes) _ x h in
    let found = cond_some (ltb 0 number.0.0) number.0 x number.2 in
    let takes = number_at-takes limit bytes number.0 wide number.1 in
    rw (sym found.1) (record { text = takes.text; least = ltb-true 0 number.0.0 found.0; below = takes.below })

-- ---- bytes

-- bytes that were read: they are written there, and are bytes
pub record TakesBytes (bytes : List ℕ) (x : List ℕ × List ℕ) : Type 0 where
  pub text : Takes bytes (encode_lower x.0) x.1
  pub are : AreBytes x.0

pub bytes_at-takes : (bytes : List ℕ) (x : List ℕ × List ℕ) → bytes_at bytes ≡ Some x → TakesBytes bytes x
unfolding bytes_at
bytes_at-takes bytes x h =
    let digits = take_while is_lower_digit bytes in
    let read = found_first (result_ok (decode_of digits)) _ x h in
    let decoded = decoded-from_ok (decode_of digits) read.0 read.1 in
    let is = same_Some _ x read.2 in
    let back : encode_lower read.0 ≡ digits = digits_back digits read.0 (front-passes is_lower_digit bytes) decoded in
    let small = (decode_of-ok digits read.0 decoded).3 in
    rw (sym is) (record {
      text = record { parts = rw back (sym (take-append-drop (prefix_len is_lower_digit bytes) bytes)) };
      are = All-from_get_or (λ b. b < 2 ^ 8) read.0 0 (λ i within. omega (arith, small i));
    })

pub sized_at-takes : (size : ℕ) (bytes : List ℕ) (x : List ℕ × List ℕ) → sized_at size bytes ≡ Some x → TakesBytes bytes x × (length x.0 ≡ size)
unfolding sized_at
sized_at-takes size bytes x h =
    let read = found_first (bytes_at bytes) _ x h in
    let found = cond_some (eqb (length read.0.0) size) read.0 x read.2 in
    rw (sym found.1) (bytes_at-takes bytes read.0 read.1, eqb-true (length read.0.0) size found.0)
