-- What is wrong with bytes that are no request (Virtio 1.2, 5.13.6): the first of four things, in this order.
use Rattle.std.specs.Prelude.{◌≡◌, ◌≢◌, ◌==◌, ◌≤◌, ◌<◌, ◌⊎◌, ℕ, List, length, Any, Result, Ok, Err}
use Rattle.vi_bytes.specs.Fields.{byte_at}
use Rattle.vi_history.specs.Requests.{readable_size, reserved_bytes}
use Rattle.vi_history.specs.declared.reading.Reading.{Reading}
use Rattle.vi_history.specs.declared.reading.Reading.TheVariants.{Silent, Malformed, Asks}
use Rattle.vi_history.specs.declared.request.TheConstants.{ATTACH, PROBE}
use Rattle.vi_history.specs.declared.request.Request.{Request}
use Rattle.vi_req.specs.declared.refusal.ReqFault.{ReqFault}
use Rattle.vi_req.specs.declared.refusal.ReqFault.TheVariants.{NoHead, UnknownType, Size, Reserved}

-- there is a head of 4 bytes, with this type
pub record BeginsWith (kind : ℕ) (bytes : List ℕ) : Type 0 where
  pub head : 4 ≤ length bytes
  pub type_at_0 : byte_at 0 bytes ≡ kind

-- there is a head of 4 bytes, with one of the five types
pub record HasHead (bytes : List ℕ) : Type 0 where
  pub head : 4 ≤ length bytes
  pub first : ATTACH ≤ byte_at 0 bytes
  pub last : byte_at 0 bytes ≤ PROBE

-- and the size, head included, is that of its type
pub record HasSize (bytes : List ℕ) : Type 0 where
  pub head : HasHead bytes
  pub size : length bytes ≡ readable_size (byte_at 0 bytes)

-- there is a head, with a type that is none of the five
pub record HasOtherType (kind : ℕ) (bytes : List ℕ) : Type 0 where
  pub begins : BeginsWith kind bytes
  pub other : (kind < ATTACH) ⊎ (PROBE < kind)

-- the size isn't that of the type
pub record HasOtherSize (want got : ℕ) (bytes : List ℕ) : Type 0 where
  pub head : HasHead bytes
  pub of_type : readable_size (byte_at 0 bytes) ≡ want
  pub size : length bytes ≡ got
  pub other : got ≢ want

-- a reserved byte of the body isn't 0
pub record HasReserved (bytes : List ℕ) : Type 0 where
  pub size : HasSize bytes
  pub some : Any (λ b. b ≢ 0) (reserved_bytes (byte_at 0 bytes) bytes)

-- the bytes are refused so
abbrev pub RefusedAs : List ℕ → ReqFault → Type 0
RefusedAs bytes NoHead = length bytes < 4
RefusedAs bytes (UnknownType kind) = HasOtherType kind bytes
RefusedAs bytes (Size want got) = HasOtherSize want got bytes
RefusedAs bytes Reserved = HasReserved bytes

-- What a device answers to refused bytes of this type, if the writable part has room: nothing without a
-- known type, and else that they are malformed.
abbrev pub refused_reading : ℕ → ReqFault → Reading
refused_reading kind NoHead = Silent
refused_reading kind (UnknownType other) = Silent
refused_reading kind (Size want got) = Malformed (kind == PROBE)
refused_reading kind Reserved = Malformed (kind == PROBE)

-- and to bytes of this type that were read with this result
abbrev pub reading_as : ℕ → Result Request ReqFault → Reading
reading_as kind (Ok request) = Asks request
reading_as kind (Err fault) = refused_reading kind fault
