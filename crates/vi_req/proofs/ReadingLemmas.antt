-- What a device answers to bytes with a writable part that has room, by what the bytes read as.
use Rattle.std.proofs.Common.{◌≡◌, ◌≤◌, ◌<◌, ◌⊎◌, ◌↔◌, ℕ, Bool, true, false, not, nat_eq, nat_lt, cond, Result, Ok, Err, MatchResult, List, length, refl, sym, ap, subst, inl, inr, ◌∙◌, arith}
use Rattle.std.specs.List.{All, list_all}
use Rattle.std.proofs.lemmas.Bool.{lt-ltb, le-ltb, eq-eqb, ne_eqb, eqb-true}
use Rattle.std.proofs.lemmas.Bool.Decides.{nat_tests}
use Rattle.vi_bytes.specs.Fields.{byte_at}
use Rattle.vi_history.specs.Requests.{is_known, readable_size, writable_size, reserved_bytes, request_in, request_bytes, reading}
use Rattle.vi_history.specs.declared.reading.Reading.{Reading}
use Rattle.vi_history.specs.declared.reading.Reading.TheVariants.{Silent, Malformed, Asks}
use Rattle.vi_history.specs.declared.request.Request.{Request}
use Rattle.vi_req.specs.declared.refusal.ReqFault.{ReqFault}
use Rattle.vi_req.specs.declared.refusal.ReqFault.TheVariants.{NoHead, UnknownType, Size, Reserved}
use Rattle.vi_history.specs.Fields.{FieldsFit}
use Rattle.vi_req.specs.Requests.{type_of, IsRequest}
use Rattle.vi_req.specs.Refusals.{RefusedAs, refused_reading, reading_as}
use Rattle.vi_req.proofs.Zeros.{IsZero, is_zero, list_all-true, list_all-false, All-from_list_all}
use Rattle.vi_req.proofs.RequestLemmas.{IsRequest-request_bytes, type_of-low, type_of-high, type_of-request_in, ShowsFields-request_in, request_in-IsRequest, readable_size-above}

-- the tests of a reading, in order
abbrev cascade : Bool → Bool → Bool → Bool → Bool → Reading → Reading → Reading
cascade short known full sized zero bad good =
    cond short Silent (cond (not known) Silent (cond full Silent (cond (not sized) bad (cond (not zero) bad good))))

-- all of them passed
record Passes (short known full sized zero : Bool) : Type 0 where
  long : short ≡ false
  of_type : known ≡ true
  room : full ≡ false
  size : sized ≡ true
  zeros : zero ≡ true

cascade-good : (a b c d e : Bool) (bad good : Reading) → Passes a b c d e → cascade a b c d e bad good ≡ good
cascade-good a b c d e bad good p = rw (p.long, p.of_type, p.room, p.size, p.zeros) refl

cascade-Asks : (a b c d e probe : Bool) (q r : Request) → cascade a b c d e (Malformed probe) (Asks q) ≡ Asks r → Passes a b c d e × (q ≡ r)
cascade-Asks true b c d e probe q r h = absurd (cc)
cascade-Asks false false c d e probe q r h = absurd (cc)
cascade-Asks false true true d e probe q r h = absurd (cc)
cascade-Asks false true false false e probe q r h = absurd (cc)
cascade-Asks false true false true false probe q r h = absurd (cc)
cascade-Asks false true false true true probe q r h = (record { long = refl; of_type = refl; room = refl; size = refl; zeros = refl }, cc)

cascade-short : (a b c d e : Bool) (bad good : Reading) → a ≡ true → cascade a b c d e bad good ≡ Silent
cascade-short a b c d e bad good p = rw p refl

cascade-unknown : (a b c d e : Bool) (bad good : Reading) → a ≡ false → b ≡ false → cascade a b c d e bad good ≡ Silent
cascade-unknown a b c d e bad good p q = rw (p, q) refl

cascade-bad : (a b c d e : Bool) (bad good : Reading) → a ≡ false → b ≡ true → c ≡ false → (d ≡ false) ⊎ (e ≡ false) → cascade a b c d e bad good ≡ bad
cascade-bad a b c true false bad good p q r f = rw (p, q, r) refl
cascade-bad a b c false e bad good p q r f = rw (p, q, r) refl
cascade-bad a b c true true bad good p q r f = absurd (grind arith)

-- the types that are known
is_known-true : (kind : ℕ) → 1 ≤ kind → kind ≤ 5 → is_known kind ≡ true
is_known-true kind low high = grind (arith, nat_tests)

is_known-false : (kind : ℕ) → (kind < 1) ⊎ (5 < kind) → is_known kind ≡ false
is_known-false kind other = grind (arith, nat_tests)

low-is_known : (kind : ℕ) → is_known kind ≡ true → 1 ≤ kind
low-is_known kind e = grind (arith, nat_tests)

high-is_known : (kind : ℕ) → is_known kind ≡ true → kind ≤ 5
high-is_known kind e = grind (arith, nat_tests)

module _ (bytes : List ℕ) (write : ℕ) where
  abbrev kind : ℕ
  kind = byte_at 0 bytes

  abbrev is_short : Bool
  is_short = nat_lt (length bytes) 4

  abbrev is_full : Bool
  is_full = nat_lt write (writable_size kind)

  abbrev is_sized : Bool
  is_sized = nat_eq (length bytes) (readable_size kind)

  abbrev has_zeros : Bool
  has_zeros = list_all is_zero (reserved_bytes kind bytes)

  reading-cascade : reading bytes write ≡ cascade is_short (is_known kind) is_full is_sized has_zeros (Malformed (nat_eq kind 5)) (Asks (request_in kind bytes))
  unfolding reading
  reading-cascade = refl

  -- there is room for the reply
  is_full-false : writable_size kind ≤ write → is_full ≡ false
  is_full-false room = le-ltb write (writable_size kind) room

  Passes-IsRequest : (request : Request) → writable_size kind ≤ write → IsRequest request bytes → Passes is_short (is_known kind) is_full is_sized has_zeros
  Passes-IsRequest request room is =
      let at : kind ≡ type_of request = is.type_at_0 in
      let size : length bytes ≡ readable_size kind = is.size ∙ sym (ap readable_size at) in
      let enough : 4 ≤ length bytes = omega (arith, is.size, readable_size-above request) in
      let same : reserved_bytes kind bytes ≡ reserved_bytes (type_of request) bytes = ap (λ (k : ℕ). reserved_bytes k bytes) at in
      record {
        long = le-ltb (length bytes) 4 enough;
        of_type = ap is_known at ∙ is_known-true (type_of request) (type_of-low request) (type_of-high request);
        room = is_full-false room;
        size = eq-eqb (length bytes) (readable_size kind) size;
        zeros = ap (list_all is_zero) same ∙ list_all-true (reserved_bytes (type_of request) bytes) is.reserved;
      }

  reading-IsRequest : (request : Request) → writable_size kind ≤ write → IsRequest request bytes → reading bytes write ≡ Asks request
  reading-IsRequest request room is =
      reading-cascade
      ∙ cascade-good is_short (is_known kind) is_full is_sized has_zeros (Malformed (nat_eq kind 5)) (Asks (request_in kind bytes)) (Passes-IsRequest request room is)
      ∙ ap Asks (request_in-IsRequest request bytes is)

  IsRequest-passed : Passes is_short (is_known kind) is_full is_sized has_zeros → IsRequest (request_in kind bytes) bytes
  IsRequest-passed p =
      let low = low-is_known kind p.of_type in
      let high = high-is_known kind p.of_type in
      let of_type : type_of (request_in kind bytes) ≡ kind = type_of-request_in kind bytes low high in
      record {
        type_at_0 = sym of_type;
        size = eqb-true (length bytes) (readable_size kind) p.size ∙ sym (ap readable_size of_type);
        fields = ShowsFields-request_in kind bytes low high;
        reserved = subst (λ (k : ℕ). All IsZero (reserved_bytes k bytes)) (sym of_type) (All-from_list_all (reserved_bytes kind bytes) p.zeros);
      }

  IsRequest-reading : (request : Request) → reading bytes write ≡ Asks request → IsRequest request bytes
  IsRequest-reading request asks =
      let passed = cascade-Asks is_short (is_known kind) is_full is_sized has_zeros (nat_eq kind 5) (request_in kind bytes) request (sym reading-cascade ∙ asks) in
      subst (λ (q : Request). IsRequest q bytes) passed.1 (IsRequest-passed passed.0)

  pub reading-Asks : (request : Request) → writable_size kind ≤ write → (reading bytes write ≡ Asks request) ↔ IsRequest request bytes
  reading-Asks request room = (IsRequest-reading request, reading-IsRequest request room)

  pub reading-RefusedAs : (fault : ReqFault) → writable_size kind ≤ write → RefusedAs bytes fault → reading bytes write ≡ refused_reading kind fault
  reading-RefusedAs NoHead room short = reading-cascade ∙ cascade-short is_short (is_known kind) is_full is_sized has_zeros _ _ (lt-ltb (length bytes) 4 short)
  reading-RefusedAs (UnknownType k) room other =
      let long : is_short ≡ false = le-ltb (length bytes) 4 other.begins.head in
      let unknown : is_known kind ≡ false = ap is_known other.begins.type_at_0 ∙ is_known-false k other.other in
      reading-cascade ∙ cascade-unknown is_short (is_known kind) is_full is_sized has_zeros _ _ long unknown
  reading-RefusedAs (Size want got) room other =
      let long : is_short ≡ false = le-ltb (length bytes) 4 other.head.head in
      let known : is_known kind ≡ true = is_known-true kind other.head.first other.head.last in
      let sized : is_sized ≡ false = ne_eqb (length bytes) (readable_size kind) (λ e. other.other (sym other.size ∙ e ∙ other.of_type)) in
      reading-cascade ∙ cascade-bad is_short (is_known kind) is_full is_sized has_zeros _ _ long known (is_full-false room) (inl sized)
  reading-RefusedAs Reserved room has =
      let long : is_short ≡ false = le-ltb (length bytes) 4 has.size.head.head in
      let known : is_known kind ≡ true = is_known-true kind has.size.head.first has.size.head.last in
      let sized : is_sized ≡ true = eq-eqb (length bytes) (readable_size kind) has.size.size in
      let zeros : has_zeros ≡ false = list_all-false (reserved_bytes kind bytes) has.some in
      reading-cascade ∙ cascade-bad is_short (is_known kind) is_full is_sized has_zeros _ _ long known (is_full-false room) (inr zeros)

  -- the same for a result
  pub reading-as : (r : Result Request ReqFault) → MatchResult r (λ request. IsRequest request bytes) (RefusedAs bytes) → writable_size kind ≤ write → reading bytes write ≡ reading_as kind r
  reading-as (Ok request) is room = reading-IsRequest request room is
  reading-as (Err fault) is room = reading-RefusedAs fault room is

silent : (a b short : Bool) (rest : Reading) → short ≡ true → cond a Silent (cond b Silent (cond short Silent rest)) ≡ Silent
silent true b short rest e = refl
silent false true short rest e = refl
silent false false true rest e = refl
silent false false false rest e = cc

-- bytes with too little room for the answer get none
pub reading-short : (read : List ℕ) (write : ℕ) → write < writable_size (byte_at 0 read) → reading read write ≡ Silent
unfolding reading
reading-short read write short =
    silent _ _ (nat_lt write (writable_size (byte_at 0 read))) _ (lt-ltb write (writable_size (byte_at 0 read)) short)

-- what was written for a request asks for it
pub reading-request_bytes : (request : Request) → FieldsFit request → reading (request_bytes request) (writable_size (type_of request)) ≡ Asks request
reading-request_bytes request fit =
    let is : IsRequest request (request_bytes request) = IsRequest-request_bytes request fit in
    let room : writable_size (byte_at 0 (request_bytes request)) ≤ writable_size (type_of request) = omega (arith, ap writable_size is.type_at_0) in
    reading-IsRequest (request_bytes request) (writable_size (type_of request)) request room is
