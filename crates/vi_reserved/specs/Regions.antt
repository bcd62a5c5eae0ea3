-- The regions that endpoints keep to themselves (Virtio 1.2, 5.13.6.8.1), a list an endpoint.
use Rattle.std.specs.Prelude.{ℕ, List, [], All, Option, find, get_or, map}
use Rattle.vi_bytes.specs.Spans.{IsProper, has, meets}
use Rattle.vi_bytes.specs.declared.span.Span.{Span}
use Rattle.vi_bytes.specs.declared.region.Region.{Region}
use Rattle.vi_bytes.specs.declared.region.EndpointSetup.{EndpointSetup}

-- each of the regions has an address
abbrev pub AreProper : List Region → Type 0
AreProper regions = All (λ r. IsProper r.span) regions

-- the regions of each endpoint, as they were declared
abbrev pub regions_of : List EndpointSetup → List (List Region)
regions_of endpoints = map (λ e. e.regions) endpoints

-- the regions of the endpoint at this place
abbrev pub regions_at : List (List Region) → ℕ → List Region
regions_at reserved place = get_or reserved place []

-- the first region that shares an address with the span
abbrev pub region_meeting : Span → List Region → Option Region
region_meeting span regions = find (λ r. meets r.span span) regions

-- the first region that has the address
abbrev pub region_with : ℕ → List Region → Option Region
region_with address regions = find (λ r. has r.span address) regions
