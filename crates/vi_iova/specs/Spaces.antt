-- The I/O addresses of an endpoint: which spans are free, and which are live.
use Rattle.std.specs.Prelude.{◌≡◌, ℕ, ◌+◌, ◌-◌, ◌≤◌, ◌<◌, Bool, false, not, ◌&&◌, ◌==◌, nat_lt, if◌then◌else◌, List, [], ◌∷◌, filter}
use Rattle.std.specs.List.{list_any}
use Rattle.vi_bytes.specs.Spans.{meets, IsMultiple}
use Rattle.vi_bytes.specs.declared.span.Span.{Span}
use Rattle.vi_bytes.specs.declared.region.Region.{Region}

-- What a space is seen as: the device's input range (Virtio 1.2, 5.13.4), the granule in bytes, the
-- regions of the endpoint (5.13.6.8.1), and the live spans by rising address.
pub record SpaceValue : Type 0 where
  pub input : Span
  pub granule : ℕ
  pub regions : List Region
  pub live : List Span

-- this many bytes from the address on
abbrev pub span_of : ℕ → ℕ → Span
span_of first len = record { first = first; last = first + (len - 1) }

-- this many bytes from the address on are free: they begin at a multiple of the granule, at one granule or above, they
-- are in the input range, and they have no common address with a live span or a region
pub record IsFree (s : SpaceValue) (len first : ℕ) : Type 0 where
  pub whole : IsMultiple s.granule first
  pub from : s.granule ≤ first
  pub begins : s.input.first ≤ first
  pub ends : first + (len - 1) ≤ s.input.last
  pub apart : list_any (λ t. meets t (span_of first len)) s.live ≡ false
  pub kept_off : list_any (λ r. meets r.span (span_of first len)) s.regions ≡ false

-- the span has this many bytes and is free, and none below it is
pub record IsLowestFree (s : SpaceValue) (len : ℕ) (span : Span) : Type 0 where
  pub is : span ≡ span_of span.first len
  pub free : IsFree s len span.first
  pub lowest : (first : ℕ) → first < span.first → ¬ IsFree s len first

-- the spans with one more, by rising address
abbrev pub among : Span → List Span → List Span
among span [] = span ∷ []
among span (t ∷ ts) = if nat_lt span.first t.first then span ∷ t ∷ ts else t ∷ among span ts

-- they are one span
abbrev pub is_same : Span → Span → Bool
is_same s t = (s.first == t.first) && (s.last == t.last)

-- the space with one more live span, and without one
abbrev pub with_live : Span → SpaceValue → SpaceValue
with_live span s = record s { live = among span s.live }

abbrev pub without_live : Span → SpaceValue → SpaceValue
without_live span s = record s { live = filter (λ t. not (is_same t span)) s.live }
