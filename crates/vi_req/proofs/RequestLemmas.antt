-- Requests and their bytes: what is written for a request reads as it, and bytes read as one request or are
-- refused in one way.
use Rattle.std.proofs.Common.{Result, Ok, Err, IfOk, ◌≡◌, ℕ, zero, suc, ◌≤◌, List, [], ◌++◌, length, replicate, refl, sym, ap, subst, ◌∙◌, arith}
use Rattle.std.specs.List.{Any}
use Rattle.std.proofs.lemmas.List.Elements.{All-nil, All-replicate}
use Rattle.byteorder.specs.Endian.{little_bytes}
use Rattle.byteorder.specs.Numbers.{little_number-reads_back}
use Rattle.vi_bytes.specs.Fields.{byte_at}
use Rattle.vi_history.specs.Requests.{request_bytes, readable_size, reserved_bytes, request_in}
use Rattle.vi_history.specs.declared.request.Request.{Request}
use Rattle.vi_history.specs.declared.request.Request.TheVariants.{Attach, Detach, Map, Unmap, Probe}
use Rattle.vi_req.specs.declared.refusal.ReqFault.{ReqFault}
use Rattle.vi_req.specs.declared.refusal.ReqFault.TheVariants.{NoHead, UnknownType, Size, Reserved}
use Rattle.vi_history.specs.Fields.{FieldsFit}
use Rattle.vi_req.specs.Requests.{type_of, ShowsFields, IsRequest}
use Rattle.vi_req.specs.Refusals.{RefusedAs}
use Rattle.vi_req.proofs.Zeros.{IsZero, IsNotZero, not-All-Any}

pub IsRequest-request_bytes : (request : Request) → FieldsFit request → IsRequest request (request_bytes request)
unfolding request_bytes
IsRequest-request_bytes (Attach domain endpoint flags) fit = record {
  type_at_0 = refl;
  size = refl;
  fields = record {
    domain_at_4 = little_number-reads_back 4 domain (little_bytes 4 endpoint ++ little_bytes 4 flags ++ replicate 4 0) fit.0;
    endpoint_at_8 = little_number-reads_back 4 endpoint (little_bytes 4 flags ++ replicate 4 0) fit.1;
    flags_at_12 = little_number-reads_back 4 flags (replicate 4 0) fit.2;
  };
  reserved = All-replicate IsZero 4 0 refl;
}
IsRequest-request_bytes (Detach domain endpoint) fit = record {
  type_at_0 = refl;
  size = refl;
  fields = record {
    domain_at_4 = little_number-reads_back 4 domain (little_bytes 4 endpoint ++ replicate 8 0) fit.0;
    endpoint_at_8 = little_number-reads_back 4 endpoint (replicate 8 0) fit.1;
  };
  reserved = All-replicate IsZero 8 0 refl;
}
IsRequest-request_bytes (Map domain first last target flags) fit = record {
  type_at_0 = refl;
  size = refl;
  fields = record {
    domain_at_4 = little_number-reads_back 4 domain (little_bytes 8 first ++ little_bytes 8 last ++ little_bytes 8 target ++ little_bytes 4 flags) fit.0;
    first_at_8 = little_number-reads_back 8 first (little_bytes 8 last ++ little_bytes 8 target ++ little_bytes 4 flags) fit.1;
    last_at_16 = little_number-reads_back 8 last (little_bytes 8 target ++ little_bytes 4 flags) fit.2;
    target_at_24 = little_number-reads_back 8 target (little_bytes 4 flags) fit.3;
    flags_at_32 = little_number-reads_back 4 flags [] fit.4;
  };
  reserved = All-nil IsZero;
}
IsRequest-request_bytes (Unmap domain first last) fit = record {
  type_at_0 = refl;
  size = refl;
  fields = record {
    domain_at_4 = little_number-reads_back 4 domain (little_bytes 8 first ++ little_bytes 8 last ++ replicate 4 0) fit.0;
    first_at_8 = little_number-reads_back 8 first (little_bytes 8 last ++ replicate 4 0) fit.1;
    last_at_16 = little_number-reads_back 8 last (replicate 4 0) fit.2;
  };
  reserved = All-replicate IsZero 4 0 refl;
}
IsRequest-request_bytes (Probe endpoint) fit = record {
  type_at_0 = refl;
  size = refl;
  fields = record { endpoint_at_4 = little_number-reads_back 4 endpoint (replicate 64 0) fit };
  reserved = All-replicate IsZero 64 0 refl;
}

-- a copy of the bytes that were written for a request
pub IsRequest-written : {E : Type 0} (request shown : Request) (bytes : List ℕ) (copy : Result (List ℕ) E) → request ≡ shown → bytes ≡ request_bytes shown → FieldsFit shown → IfOk copy (λ b. b ≡ bytes) → IfOk copy (IsRequest request)
IsRequest-written request shown bytes (Ok b) is written fit copied =
    subst (λ (q : Request). IsRequest q b) (sym is) (subst (IsRequest shown) (sym (copied ∙ written)) (IsRequest-request_bytes shown fit))
IsRequest-written request shown bytes (Err e) is written fit copied = tt

-- a request has one of the five types
pub type_of-low : (request : Request) → 1 ≤ type_of request
type_of-low (Attach d e f) = omega arith
type_of-low (Detach d e) = omega arith
type_of-low (Map d a b t f) = omega arith
type_of-low (Unmap d a b) = omega arith
type_of-low (Probe e) = omega arith

pub type_of-high : (request : Request) → type_of request ≤ 5
type_of-high (Attach d e f) = omega arith
type_of-high (Detach d e) = omega arith
type_of-high (Map d a b t f) = omega arith
type_of-high (Unmap d a b) = omega arith
type_of-high (Probe e) = omega arith

-- the fields of bytes of a type make a request of this type
pub type_of-request_in : (kind : ℕ) (bytes : List ℕ) → 1 ≤ kind → kind ≤ 5 → type_of (request_in kind bytes) ≡ kind
type_of-request_in zero bytes low high = absurd (omega arith)
type_of-request_in (suc zero) bytes low high = refl
type_of-request_in (suc (suc zero)) bytes low high = refl
type_of-request_in (suc (suc (suc zero))) bytes low high = refl
type_of-request_in (suc (suc (suc (suc zero)))) bytes low high = refl
type_of-request_in (suc (suc (suc (suc (suc zero))))) bytes low high = refl
type_of-request_in (suc (suc (suc (suc (suc (suc n)))))) bytes low high = absurd (omega arith)

pub ShowsFields-request_in : (kind : ℕ) (bytes : List ℕ) → 1 ≤ kind → kind ≤ 5 → ShowsFields (request_in kind bytes) bytes
ShowsFields-request_in zero bytes low high = absurd (omega arith)
ShowsFields-request_in (suc zero) bytes low high = record { domain_at_4 = refl; endpoint_at_8 = refl; flags_at_12 = refl }
ShowsFields-request_in (suc (suc zero)) bytes low high = record { domain_at_4 = refl; endpoint_at_8 = refl }
ShowsFields-request_in (suc (suc (suc zero))) bytes low high = record { domain_at_4 = refl; first_at_8 = refl; last_at_16 = refl; target_at_24 = refl; flags_at_32 = refl }
ShowsFields-request_in (suc (suc (suc (suc zero)))) bytes low high = record { domain_at_4 = refl; first_at_8 = refl; last_at_16 = refl }
ShowsFields-request_in (suc (suc (suc (suc (suc zero))))) bytes low high = record { endpoint_at_4 = refl }
ShowsFields-request_in (suc (suc (suc (suc (suc (suc n)))))) bytes low high = absurd (omega arith)

-- and of no other fields
request_in-type_of : (request : Request) (bytes : List ℕ) → ShowsFields request bytes → request_in (type_of request) bytes ≡ request
request_in-type_of (Attach d e f) bytes fields = cc
request_in-type_of (Detach d e) bytes fields = cc
request_in-type_of (Map d a b t f) bytes fields = cc
request_in-type_of (Unmap d a b) bytes fields = cc
request_in-type_of (Probe e) bytes fields = cc

pub request_in-IsRequest : (request : Request) (bytes : List ℕ) → IsRequest request bytes → request_in (byte_at 0 bytes) bytes ≡ request
request_in-IsRequest request bytes is = ap (λ (kind : ℕ). request_in kind bytes) is.type_at_0 ∙ request_in-type_of request bytes is.fields

pub one_request : (bytes : List ℕ) (q r : Request) → IsRequest q bytes → IsRequest r bytes → q ≡ r
one_request bytes q r one two = sym (request_in-IsRequest q bytes one) ∙ request_in-IsRequest r bytes two

pub one_fault : (bytes : List ℕ) (d e : ReqFault) → RefusedAs bytes d → RefusedAs bytes e → d ≡ e
one_fault bytes NoHead NoHead p q = refl
one_fault bytes (UnknownType k) (UnknownType l) p q = ap UnknownType (sym p.begins.type_at_0 ∙ q.begins.type_at_0)
one_fault bytes (Size w g) (Size x h) p q =
    let wants : w ≡ x = sym p.of_type ∙ q.of_type in
    let gots : g ≡ h = sym p.size ∙ q.size in
    cc
one_fault bytes Reserved Reserved p q = refl
one_fault bytes d e p q = absurd (grind arith)

pub readable_size-above : (request : Request) → 4 ≤ readable_size (type_of request)
readable_size-above (Attach d e f) = omega arith
readable_size-above (Detach d e) = omega arith
readable_size-above (Map d a b t f) = omega arith
readable_size-above (Unmap d a b) = omega arith
readable_size-above (Probe e) = omega arith

pub apart : (bytes : List ℕ) (q : Request) (e : ReqFault) → IsRequest q bytes → RefusedAs bytes e → ⊥
apart bytes q NoHead is not =
    let size : length bytes ≡ readable_size (type_of q) = is.size in
    omega (arith, readable_size-above q)
apart bytes q (UnknownType k) is not = grind (arith, type_of-low q, type_of-high q)
apart bytes q (Size w g) is not =
    let want : readable_size (byte_at 0 bytes) ≡ readable_size (type_of q) = ap readable_size is.type_at_0 in
    not.other (sym not.size ∙ is.size ∙ sym want ∙ not.of_type)
apart bytes q Reserved is not =
    let here : reserved_bytes (byte_at 0 bytes) bytes ≡ reserved_bytes (type_of q) bytes = ap (λ (kind : ℕ). reserved_bytes kind bytes) is.type_at_0 in
    not-All-Any (reserved_bytes (type_of q) bytes) is.reserved (subst (λ (b : List ℕ). Any IsNotZero b) here not.some)
