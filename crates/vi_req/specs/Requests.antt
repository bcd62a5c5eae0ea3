-- What the device-readable part of a request reads as (Virtio 1.2, 5.13.6).
use Rattle.std.specs.Prelude.{◌≡◌, ℕ, List, length, All}
use Rattle.vi_bytes.specs.Fields.{field, byte_at}
use Rattle.vi_history.specs.Requests.{readable_size, reserved_bytes}
use Rattle.vi_history.specs.declared.request.TheConstants.{ATTACH, DETACH, MAP, UNMAP, PROBE}
use Rattle.vi_history.specs.declared.request.Request.{Request}
use Rattle.vi_history.specs.declared.request.Request.TheVariants.{Attach, Detach, Map, Unmap, Probe}

-- the type of a request, which its first byte shows
abbrev pub type_of : Request → ℕ
type_of (Attach domain endpoint flags) = ATTACH
type_of (Detach domain endpoint) = DETACH
type_of (Map domain first last target flags) = MAP
type_of (Unmap domain first last) = UNMAP
type_of (Probe endpoint) = PROBE

-- the fields of ATTACH (5.13.6.3)
pub record ShowsAttach (domain endpoint flags : ℕ) (bytes : List ℕ) : Type 0 where
  pub domain_at_4 : field 4 4 bytes ≡ domain
  pub endpoint_at_8 : field 8 4 bytes ≡ endpoint
  pub flags_at_12 : field 12 4 bytes ≡ flags

-- the fields of DETACH (5.13.6.4)
pub record ShowsDetach (domain endpoint : ℕ) (bytes : List ℕ) : Type 0 where
  pub domain_at_4 : field 4 4 bytes ≡ domain
  pub endpoint_at_8 : field 8 4 bytes ≡ endpoint

-- the fields of MAP (5.13.6.5): domain, virt_start, virt_end, phys_start and flags
pub record ShowsMap (domain first last target flags : ℕ) (bytes : List ℕ) : Type 0 where
  pub domain_at_4 : field 4 4 bytes ≡ domain
  pub first_at_8 : field 8 8 bytes ≡ first
  pub last_at_16 : field 16 8 bytes ≡ last
  pub target_at_24 : field 24 8 bytes ≡ target
  pub flags_at_32 : field 32 4 bytes ≡ flags

-- the fields of UNMAP (5.13.6.6): domain, virt_start and virt_end
pub record ShowsUnmap (domain first last : ℕ) (bytes : List ℕ) : Type 0 where
  pub domain_at_4 : field 4 4 bytes ≡ domain
  pub first_at_8 : field 8 8 bytes ≡ first
  pub last_at_16 : field 16 8 bytes ≡ last

-- the field of PROBE (5.13.6.7)
pub record ShowsProbe (endpoint : ℕ) (bytes : List ℕ) : Type 0 where
  pub endpoint_at_4 : field 4 4 bytes ≡ endpoint

-- the fields of a request, each by what its bytes read as
abbrev pub ShowsFields : Request → List ℕ → Type 0
ShowsFields (Attach domain endpoint flags) bytes = ShowsAttach domain endpoint flags bytes
ShowsFields (Detach domain endpoint) bytes = ShowsDetach domain endpoint bytes
ShowsFields (Map domain first last target flags) bytes = ShowsMap domain first last target flags bytes
ShowsFields (Unmap domain first last) bytes = ShowsUnmap domain first last bytes
ShowsFields (Probe endpoint) bytes = ShowsProbe endpoint bytes

-- The bytes read as this request: its type, its size with the head, its fields, and reserved bytes of the
-- body that are 0. The 3 reserved bytes of the head are ignored.
pub record IsRequest (request : Request) (bytes : List ℕ) : Type 0 where
  pub type_at_0 : byte_at 0 bytes ≡ type_of request
  pub size : length bytes ≡ readable_size (type_of request)
  pub fields : ShowsFields request bytes
  pub reserved : All (λ b. b ≡ 0) (reserved_bytes (type_of request) bytes)
