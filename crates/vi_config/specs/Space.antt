-- The device configuration space as bytes (Virtio 1.2, 5.13.4): the bytes of a configuration, and what is
-- wrong with others.
use Rattle.std.specs.Prelude.{◌≡◌, ◌≢◌, ◌≤◌, ◌<◌, ◌-◌, ◌^◌, ◌⊎◌, ◌↔◌, ℕ, Bool, true, false, IsTrue, List, [], ◌∷◌, ◌++◌, length}
use Rattle.byteorder.specs.Endian.{little_bytes}
use Rattle.vi_bytes.specs.Fields.{field, byte_at}
use Rattle.vi_bytes.specs.Spans.{IsProper}
use Rattle.vi_config.specs.declared.config.Config.{Config}
use Rattle.vi_config.specs.declared.refusal.ConfigFault.{ConfigFault}
use Rattle.vi_config.specs.declared.refusal.ConfigFault.TheVariants.{Short, Mask, Order}

-- the granules, in bytes, that the device is made with
abbrev pub IsGranule : ℕ → Type 0
IsGranule n = (n ≡ 4096) ⊎ (n ≡ 16384) ⊎ (n ≡ 65536)

-- page_size_mask: the granule's bit and all bits above it
abbrev pub mask_of : ℕ → ℕ
mask_of granule = 2 ^ 64 - granule

-- the bypass field: 1 where endpoints that are attached to no domain pass untranslated
abbrev pub bypass_byte : Bool → ℕ
bypass_byte true = 1
bypass_byte false = 0

-- page_size_mask, the input range, the domain range (all of them), probe_size, bypass, and 3 reserved bytes
unfoldable pub config_bytes : Config → List ℕ
config_bytes c =
    little_bytes 8 (mask_of c.granule) ++ little_bytes 8 c.input.first ++ little_bytes 8 c.input.last
    ++ little_bytes 4 0 ++ little_bytes 4 0xffffffff ++ little_bytes 4 512 ++ (bypass_byte c.bypass ∷ 0 ∷ 0 ∷ 0 ∷ [])

-- the bytes read as this configuration; the other fields, and bytes past the 40, are ignored
pub record ReadAs (bytes : List ℕ) (c : Config) : Type 0 where
  pub size : 40 ≤ length bytes
  pub mask_at_0 : field 0 8 bytes ≡ mask_of c.granule
  pub input_start_at_8 : field 8 8 bytes ≡ c.input.first
  pub input_end_at_16 : field 16 8 bytes ≡ c.input.last
  pub bypass_at_36 : IsTrue c.bypass ↔ (byte_at 36 bytes ≢ 0)
  pub granule : IsGranule c.granule
  pub proper : IsProper c.input

-- the mask is that of a granule
abbrev pub IsMask : ℕ → Type 0
IsMask mask = (granule : ℕ) × IsGranule granule × (mask ≡ mask_of granule)

-- The bytes are refused so: first for being fewer than 40, then for a mask that is no granule's, and then
-- for an input range whose end is below its start.
abbrev pub RefusedAs : List ℕ → ConfigFault → Type 0
RefusedAs bytes Short = length bytes < 40
RefusedAs bytes (Mask mask) = (40 ≤ length bytes) × (field 0 8 bytes ≡ mask) × (¬ IsMask mask)
RefusedAs bytes Order = (40 ≤ length bytes) × IsMask (field 0 8 bytes) × (field 16 8 bytes < field 8 8 bytes)
