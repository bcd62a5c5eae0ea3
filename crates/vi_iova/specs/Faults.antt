-- Properties that are at fault (Virtio 1.2, 5.13.6.8), and which error says so.
use Rattle.std.specs.Prelude.{ℕ, List}
use Rattle.vi_bytes.specs.Properties.{ReadsFrom, CutAt, KindAt}
use Rattle.vi_prop.specs.declared.refusal.PropFault.{PropFault}
use Rattle.vi_prop.specs.declared.refusal.PropFault.TheVariants as prop
use Rattle.vi_iova.specs.declared.fault.SpaceFault.{SpaceFault}
use Rattle.vi_iova.specs.declared.fault.SpaceFault.TheVariants as space

-- the error of a space that says this of its properties
abbrev pub space_fault : PropFault → SpaceFault
space_fault (prop.Cut at) = space.Properties (prop.Cut at)
space_fault (prop.Kind at) = space.Properties (prop.Kind at)
space_fault prop.OutOfMemory = space.OutOfMemory

-- the properties read as this fault; out of memory is none of theirs
abbrev pub ReadsFaultily : List ℕ → PropFault → Type 0
ReadsFaultily properties (prop.Cut at) = ReadsFrom properties 0 (CutAt at)
ReadsFaultily properties (prop.Kind at) = ReadsFrom properties 0 (KindAt at)
ReadsFaultily properties prop.OutOfMemory = ⊥
