-- The mappings of one domain (Virtio 1.2, 5.13.6.5 and 5.13.6.6): a list by rising address, no two of which
-- have a common address.
use Rattle.std.specs.Prelude.{ℕ, ◌<◌, Bool, not, ◌&&◌, nat_lt, if◌then◌else◌, List, [], ◌∷◌, Option, filter, find}
use Rattle.vi_bytes.specs.Spans.{IsProper, has, meets, covers}
use Rattle.vi_bytes.specs.declared.span.Span.{Span}
use Rattle.vi_bytes.specs.declared.lease.Mapping.{Mapping}

-- each mapping of the list begins behind the address
abbrev pub AreBehind : ℕ → List Mapping → Type 0
AreBehind address [] = Unit {0}
AreBehind address (m ∷ ms) = (address < m.span.first) × AreBehind address ms

-- the mappings have an address each, and each ends before the later ones begin
abbrev pub AreApart : List Mapping → Type 0
AreApart [] = Unit {0}
AreApart (m ∷ ms) = IsProper m.span × AreBehind m.span.last ms × AreApart ms

-- the mapping that has the address
abbrev pub mapping_at : ℕ → List Mapping → Option Mapping
mapping_at address mappings = find (λ m. has m.span address) mappings

-- the lowest mapping that shares an address with the span
abbrev pub mapping_meeting : Span → List Mapping → Option Mapping
mapping_meeting span mappings = find (λ m. meets m.span span) mappings

-- the mapping shares an address with the span and doesn't lie wholly in it
abbrev pub is_cut : Span → Mapping → Bool
is_cut span m = meets m.span span && not (covers span m.span)

-- the lowest such mapping
abbrev pub mapping_cut : Span → List Mapping → Option Mapping
mapping_cut span mappings = find (is_cut span) mappings

-- the mappings with one more, by rising address
abbrev pub with_mapping : Mapping → List Mapping → List Mapping
with_mapping m [] = m ∷ []
with_mapping m (x ∷ xs) = if nat_lt m.span.first x.span.first then m ∷ x ∷ xs else x ∷ with_mapping m xs

-- the mappings that lie in the span, and those that don't
abbrev pub within_span : Span → List Mapping → List Mapping
within_span span mappings = filter (λ m. covers span m.span) mappings

abbrev pub without_span : Span → List Mapping → List Mapping
without_span span mappings = filter (λ m. not (covers span m.span)) mappings

-- what a domain's mappings are kept as: the list, and for how many more there is room
pub record MappingSet : Type 0 where
  pub mappings : List Mapping
  pub spare : ℕ
