-- The device-readable part of a request as bytes (Virtio 1.2, 5.13.6), and what such bytes ask for.
use Rattle.std.specs.Prelude.{◌==◌, ℕ, Bool, not, ◌&&◌, nat_lt, nat_le, if◌then◌else◌, List, [], ◌∷◌, ◌++◌, length, drop, replicate}
use Rattle.std.specs.List.{list_all}
use Rattle.byteorder.specs.Endian.{little_bytes}
use Rattle.vi_bytes.specs.Fields.{field, byte_at}
use Rattle.vi_history.specs.declared.reading.Reading.{Reading}
use Rattle.vi_history.specs.declared.reading.Reading.TheVariants.{Silent, Malformed, Asks}
use Rattle.vi_history.specs.declared.request.TheConstants.{ATTACH, DETACH, MAP, UNMAP, PROBE}
use Rattle.vi_history.specs.declared.request.Request.{Request}
use Rattle.vi_history.specs.declared.request.Request.TheVariants.{Attach, Detach, Map, Unmap, Probe}

-- a head: the type, and 3 reserved bytes, written 0 and ignored when read
abbrev pub head : ℕ → List ℕ
head kind = kind ∷ 0 ∷ 0 ∷ 0 ∷ []

-- the device-readable part of a request, its reserved bytes 0
unfoldable pub request_bytes : Request → List ℕ
request_bytes (Attach domain endpoint flags) =
    head ATTACH ++ little_bytes 4 domain ++ little_bytes 4 endpoint ++ little_bytes 4 flags ++ replicate 4 0
request_bytes (Detach domain endpoint) = head DETACH ++ little_bytes 4 domain ++ little_bytes 4 endpoint ++ replicate 8 0
request_bytes (Map domain first last target flags) =
    head MAP ++ little_bytes 4 domain ++ little_bytes 8 first ++ little_bytes 8 last ++ little_bytes 8 target ++ little_bytes 4 flags
request_bytes (Unmap domain first last) =
    head UNMAP ++ little_bytes 4 domain ++ little_bytes 8 first ++ little_bytes 8 last ++ replicate 4 0
request_bytes (Probe endpoint) = head PROBE ++ little_bytes 4 endpoint ++ replicate 64 0

-- the type is one of the five
abbrev pub is_known : ℕ → Bool
is_known kind = nat_le ATTACH kind && nat_le kind PROBE

-- the size of the readable part by its type, head included
abbrev pub readable_size : ℕ → ℕ
readable_size kind =
    if kind == MAP then 36 else (
    if kind == UNMAP then 28 else (
    if kind == PROBE then 72 else 20))

-- the size of the writable part that the type needs: a tail of 4 bytes, and before it 512 of properties for a PROBE
abbrev pub writable_size : ℕ → ℕ
writable_size kind = if kind == PROBE then 516 else 4

-- the reserved bytes of the body, which stand at its end
abbrev pub reserved_bytes : ℕ → List ℕ → List ℕ
reserved_bytes kind bytes =
    if kind == ATTACH then drop 16 bytes else (
    if kind == DETACH then drop 12 bytes else (
    if kind == UNMAP then drop 24 bytes else (
    if kind == PROBE then drop 8 bytes else [])))

-- the request that a readable part of this type and its size spells
abbrev pub request_in : ℕ → List ℕ → Request
request_in kind bytes =
    if kind == ATTACH then Attach (field 4 4 bytes) (field 8 4 bytes) (field 12 4 bytes) else (
    if kind == DETACH then Detach (field 4 4 bytes) (field 8 4 bytes) else (
    if kind == MAP then Map (field 4 4 bytes) (field 8 8 bytes) (field 16 8 bytes) (field 24 8 bytes) (field 32 4 bytes) else (
    if kind == UNMAP then Unmap (field 4 4 bytes) (field 8 8 bytes) (field 16 8 bytes) else
    Probe (field 4 4 bytes))))

-- What readable bytes with so many writable ones come to. The rules are tried in order: the writable part is too short, the size isn't the type's, a reserved
-- byte of the body isn't 0.
abbrev pub reading_of : ℕ → List ℕ → ℕ → Reading
reading_of kind read write =
    if nat_lt write (writable_size kind) then Silent else (
    if not (length read == readable_size kind) then Malformed (kind == PROBE) else (
    if not (list_all (λ b. b == 0) (reserved_bytes kind read)) then Malformed (kind == PROBE) else
    Asks (request_in kind read)))

-- before them: there are fewer than 4 readable bytes, or the type is unknown
unfoldable pub reading : List ℕ → ℕ → Reading
reading read write =
    if nat_lt (length read) 4 then Silent else (
    if not (is_known (byte_at 0 read)) then Silent else
    reading_of (byte_at 0 read) read write)
