-- A reply fits in the writable part of its chain, and what the answered chain leaves.
use Rattle.std.proofs.Common.{◌≡◌, ℕ, ◌+◌, ◌≤◌, Bool, true, false, not, cond, eqb, nat_lt, nat_le, List, length, Option, Some, None, IfSome, refl, ap, ◌∙◌, arith}
use Rattle.std.specs.Option.{option_map}
use Rattle.std.specs.List.{list_all}
use Rattle.std.proofs.lemmas.List.{length-append, length-replicate}
use Rattle.std.proofs.lemmas.Bool.{and_parts}
use Rattle.std.proofs.lemmas.Bool.Decides.{nat_tests}
use Rattle.vi_bytes.specs.Fields.{byte_at, field}
use Rattle.vi_bytes.specs.Properties.{property_bytes}
use Rattle.vi_bytes.specs.declared.region.Region.{Region}
use Rattle.vi_history.specs.Device.{Dev, Endpoint, endpoint_of}
use Rattle.vi_history.specs.Replies.{Answer, request_answer, reading_answer, properties, properties_of, no_properties}
use Rattle.vi_history.specs.Requests.{is_known, readable_size, writable_size, reserved_bytes, request_in, reading_of, reading}
use Rattle.vi_history.specs.declared.reading.Reading.TheVariants.{Silent, Malformed}
use Rattle.vi_history.specs.declared.request.Request.TheVariants.{Probe}
use Rattle.vi_model.specs.Tasks.{task_answer}
use Rattle.vi_calls.specs.Replies.{answer_bytes, tail_bytes}
use Rattle.vi_calls.specs.Value.{Taken, CallsValue, taken_with}
use Rattle.vi_calls.specs.Moves.{answered_taken, answered_chain, answered, without_taken}
use Rattle.vi_control.specs.Ties.{Waiting, waiting_taken}

-- how many bytes an answer has
abbrev pub size_of : Answer → ℕ
size_of a = length (answer_bytes a)

-- there are 512 bytes of properties
abbrev pub AreOf512 : Type 0
AreOf512 = (regions : List Region) → length (property_bytes regions) ≡ 512

module _ (sizes : AreOf512) (dev : Dev) where
  length-properties_of : (o : Option Endpoint) → length (properties_of o) ≡ 512
  unfolding no_properties
  length-properties_of None = length-replicate {A = ℕ} 512 0
  length-properties_of (Some x) = sizes x.regions

  length-properties : (endpoint : ℕ) → length (properties dev endpoint) ≡ 512
  unfolding properties
  length-properties endpoint = length-properties_of (endpoint_of dev endpoint)

  size-probed : (endpoint : ℕ) → size_of (request_answer dev (Probe endpoint)) ≡ 516
  size-probed endpoint = length-append (properties dev endpoint) (tail_bytes _) ∙ ap (λ n. n + 4) (length-properties endpoint)

  -- every type needs room for a tail
  tail-fits : (b : Bool) (write : ℕ) → cond b 516 4 ≤ write → 4 ≤ write
  tail-fits true write fits = omega (arith, fits)
  tail-fits false write fits = fits

  probe-fits : (b : Bool) (write : ℕ) → b ≡ true → cond b 516 4 ≤ write → 516 ≤ write
  probe-fits true write e fits = fits
  probe-fits false write e fits = absurd (cc)

  module _ (bytes : List ℕ) (write : ℕ) where
    request-fits : (kind : ℕ) (a d m u : Bool) → eqb kind 1 ≡ a → eqb kind 2 ≡ d → eqb kind 3 ≡ m → eqb kind 4 ≡ u → is_known kind ≡ true → writable_size kind ≤ write
        → size_of (request_answer dev (request_in kind bytes)) ≤ write
    request-fits kind true d m u ea ed em eu known fits = rw ea (tail-fits (eqb kind 5) write fits)
    request-fits kind false true m u ea ed em eu known fits = rw (ea, ed) (tail-fits (eqb kind 5) write fits)
    request-fits kind false false true u ea ed em eu known fits = rw (ea, ed, em) (tail-fits (eqb kind 5) write fits)
    request-fits kind false false false true ea ed em eu known fits = rw (ea, ed, em, eu) (tail-fits (eqb kind 5) write fits)
    request-fits kind false false false false ea ed em eu known fits =
        let parts = and_parts (nat_le 1 kind) (nat_le kind 5) known in
        let is_probe : eqb kind 5 ≡ true = grind (arith, nat_tests) in
        rw (ea, ed, em, eu) (omega (arith, size-probed (field 4 4 bytes), probe-fits (eqb kind 5) write is_probe fits))

    malformed-fits : (b : Bool) → cond b 516 4 ≤ write → size_of (reading_answer dev (Malformed b)) ≤ write
    unfolding no_properties
    malformed-fits true fits = omega (arith, fits, length-append no_properties (tail_bytes 4), length-replicate {A = ℕ} 512 0)
    malformed-fits false fits = fits

    kind-fits : (kind : ℕ) (few wrong dirty : Bool) → nat_lt write (writable_size kind) ≡ few → not (eqb (length bytes) (readable_size kind)) ≡ wrong → not (list_all (λ b. eqb b 0) (reserved_bytes kind bytes)) ≡ dirty
        → is_known kind ≡ true → size_of (reading_answer dev (reading_of kind bytes write)) ≤ write
    kind-fits kind true wrong dirty ef ew ed known = rw ef (omega arith)
    kind-fits kind false true dirty ef ew ed known = let fits : writable_size kind ≤ write = grind (arith, nat_tests) in rw (ef, ew) (malformed-fits (eqb kind 5) fits)
    kind-fits kind false false true ef ew ed known = let fits : writable_size kind ≤ write = grind (arith, nat_tests) in rw (ef, ew, ed) (malformed-fits (eqb kind 5) fits)
    kind-fits kind false false false ef ew ed known =
        let fits : writable_size kind ≤ write = grind (arith, nat_tests) in
        rw (ef, ew, ed) (request-fits kind (eqb kind 1) (eqb kind 2) (eqb kind 3) (eqb kind 4) refl refl refl refl known fits)

    reading-fits : size_of (reading_answer dev (reading bytes write)) ≤ write
    unfolding reading
    reading-fits = short (nat_lt (length bytes) 4) refl
      where
        known : (b : Bool) → is_known (byte_at 0 bytes) ≡ b → size_of (reading_answer dev (cond (not b) Silent (reading_of (byte_at 0 bytes) bytes write))) ≤ write
        known true e = kind-fits (byte_at 0 bytes) _ _ _ refl refl refl e
        known false e = omega arith

        short : (b : Bool) → nat_lt (length bytes) 4 ≡ b → size_of (reading_answer dev (cond b Silent (cond (not (is_known (byte_at 0 bytes))) Silent (reading_of (byte_at 0 bytes) bytes write)))) ≤ write
        short true e = omega arith
        short false e = known (is_known (byte_at 0 bytes)) refl

  -- the reply to a chain that was taken fits in it
  pub reply-fits : (o : Option Taken) (w : Waiting) (a : Answer) → option_map waiting_taken o ≡ Some w → a ≡ task_answer dev w.task → IfSome o (λ t. size_of a ≤ t.call.write)
  reply-fits None w a e is = absurd (cc)
  reply-fits (Some t) w a e is =
      let same : waiting_taken t ≡ w = cc in
      rw (is, ← same) (reading-fits t.call.read t.call.write)

-- the answered chain
settled-taken : (o : Option Taken) (v : CallsValue) (w : Waiting) (a : Answer) → option_map waiting_taken o ≡ Some w → answered_taken o a v ≡ answered w.driver w.line a (without_taken w.head v)
settled-taken None v w a e = absurd (cc)
settled-taken (Some t) v w a e =
    let same : waiting_taken t ≡ w = cc in
    rw (← same) refl

pub settled-chain : (v : CallsValue) (head : ℕ) (w : Waiting) (a : Answer) → option_map waiting_taken (taken_with head v) ≡ Some w → answered_chain head a v ≡ answered w.driver w.line a (without_taken w.head v)
unfolding answered_chain
settled-chain v head w a e = settled-taken (taken_with head v) v w a e
