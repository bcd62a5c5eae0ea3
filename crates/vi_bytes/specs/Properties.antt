-- The properties of an endpoint as bytes (Virtio 1.2, 5.13.6.8): each has a type, the length of its
-- value, and the value. Type 1 is RESV_MEM (5.13.6.8.1), a region; type 0 ends the list.
use Rattle.std.specs.Prelude.{◌≡◌, ◌≢◌, ◌≤◌, ◌<◌, ℕ, ◌+◌, ◌⊎◌, List, [], ◌∷◌, ◌++◌, length, take, replicate}
use Rattle.std.specs.List.{flat_map}
use Rattle.byteorder.specs.Endian.{little_bytes}
use Rattle.vi_bytes.specs.Fields.{field, byte_at}
use Rattle.vi_bytes.specs.declared.region.Region.{Region}
use Rattle.vi_bytes.specs.declared.region.RegionKind.{RegionKind}
use Rattle.vi_bytes.specs.declared.region.RegionKind.TheVariants.{Reserved, Msi}

-- the subtype of a region
abbrev pub kind_byte : RegionKind → ℕ
kind_byte Reserved = 0
kind_byte Msi = 1

-- a region as a RESV_MEM property: type 1, length 20, subtype, 3 reserved bytes, start and end
unfoldable pub property : Region → List ℕ
property region =
    little_bytes 2 1 ++ little_bytes 2 20 ++ (kind_byte region.kind ∷ 0 ∷ 0 ∷ 0 ∷ []) ++ little_bytes 8 region.span.first ++ little_bytes 8 region.span.last

-- the properties of these regions in order, filled with zeros to 512 bytes
unfoldable pub property_bytes : List Region → List ℕ
property_bytes regions = take 512 (flat_map property regions ++ replicate 512 0)

-- the type and the length that stand at this offset, and where the value ends
abbrev pub type_at : ℕ → List ℕ → ℕ
type_at at bytes = field at 2 bytes

abbrev pub length_at : ℕ → List ℕ → ℕ
length_at at bytes = field (at + 2) 2 bytes

abbrev pub end_at : ℕ → List ℕ → ℕ
end_at at bytes = at + 4 + length_at at bytes

-- nothing more is read here: fewer than 4 bytes are left, or the type is 0
abbrev pub Ends : ℕ → List ℕ → Type 0
Ends at bytes = (length bytes < at + 4) ⊎ (type_at at bytes ≡ 0)

-- a property with another type than 0 stands here
pub record Begins (at : ℕ) (bytes : List ℕ) : Type 0 where
  pub room : at + 4 ≤ length bytes
  pub type : type_at at bytes ≢ 0

-- the property here has its whole value
pub record IsWhole (at : ℕ) (bytes : List ℕ) : Type 0 where
  pub begins : Begins at bytes
  pub fits : end_at at bytes ≤ length bytes

-- the subtype is read so: 1 is MSI, all others are RESERVED
abbrev pub ReadsKind : ℕ → RegionKind → Type 0
ReadsKind n Msi = n ≡ 1
ReadsKind n Reserved = n ≢ 1

-- the property here is this region; bytes of its value past the first 20 are ignored
pub record IsRegionAt (at : ℕ) (bytes : List ℕ) (region : Region) : Type 0 where
  pub whole : IsWhole at bytes
  pub type : type_at at bytes ≡ 1
  pub length : 20 ≤ length_at at bytes
  pub kind : ReadsKind (byte_at (at + 4) bytes) region.kind
  pub first : region.span.first ≡ field (at + 8) 8 bytes
  pub last : region.span.last ≡ field (at + 16) 8 bytes
  pub proper : region.span.first ≤ region.span.last

-- the property here is a RESV_MEM that is no region: too short, or its end is below its start
pub record IsMisfitAt (at : ℕ) (bytes : List ℕ) : Type 0 where
  pub whole : IsWhole at bytes
  pub type : type_at at bytes ≡ 1
  pub misfit : (length_at at bytes < 20) ⊎ (field (at + 16) 8 bytes < field (at + 8) 8 bytes)

-- what reading properties comes to: the regions, or what is wrong with the property at an offset
pub data Properties : Type 0 where
  Regions : (regions : List Region) → Properties
  CutAt : (at : ℕ) → Properties
  KindAt : (at : ℕ) → Properties

-- one region more in front, where there is no fault
abbrev pub with_region : Region → Properties → Properties
with_region region (Regions regions) = Regions (region ∷ regions)
with_region region (CutAt at) = CutAt at
with_region region (KindAt at) = KindAt at

-- The properties from this offset on read so.
pub data ReadsFrom (bytes : List ℕ) : ℕ → Properties → Type 0 where
  finished : {at : ℕ} → Ends at bytes → ReadsFrom bytes at (Regions [])
  cut : {at : ℕ} → Begins at bytes → length bytes < end_at at bytes → ReadsFrom bytes at (CutAt at)
  misfit : {at : ℕ} → IsMisfitAt at bytes → ReadsFrom bytes at (KindAt at)
  skipped : {at : ℕ} {read : Properties} → IsWhole at bytes → type_at at bytes ≢ 1 → ReadsFrom bytes (end_at at bytes) read → ReadsFrom bytes at read
  region : {at : ℕ} {r : Region} {read : Properties} → IsRegionAt at bytes r → ReadsFrom bytes (end_at at bytes) read → ReadsFrom bytes at (with_region r read)
