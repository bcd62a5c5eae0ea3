-- Lists of regions as properties (Virtio 1.2, 5.13.6.8): which lists are written, and what an answer says.
use Rattle.std.specs.Prelude.{List, Option, Some, None, Result, Ok, Err}
use Rattle.vi_bytes.specs.Spans.{IsProper}
use Rattle.vi_bytes.specs.Properties.{Properties, Regions, CutAt, KindAt}
use Rattle.vi_bytes.specs.declared.region.Region.{Region}
use Rattle.vi_prop.specs.declared.refusal.PropFault.{PropFault}
use Rattle.vi_prop.specs.declared.refusal.PropFault.TheVariants.{Cut, Kind, OutOfMemory}

-- the last address of a region isn't below its first
abbrev pub IsProperRegion : Region → Type 0
IsProperRegion region = IsProper region.span

-- What an answer says that the properties are; out of memory says nothing of them. `regions` sees the list
-- in a vector.
abbrev pub answered : {X : Type 0} → (X → List Region) → Result X PropFault → Option Properties
answered regions (Ok found) = Some (Regions (regions found))
answered regions (Err (Cut at)) = Some (CutAt at)
answered regions (Err (Kind at)) = Some (KindAt at)
answered regions (Err OutOfMemory) = None
