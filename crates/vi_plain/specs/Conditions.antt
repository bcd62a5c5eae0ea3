-- What a plain device needs of its setup and of a call.
use Rattle.std.specs.Prelude.{◌≡◌, ◌+◌, ◌-◌, ◌%◌, ◌^◌, ◌<◌, ◌≤◌, length, All}
use Rattle.vi_bytes.specs.declared.part.Part.{Part}
use Rattle.vi_bytes.specs.declared.region.EndpointSetup.{EndpointSetup}
use Rattle.vi_bytes.specs.declared.span.TheConstants.{PAGE}
use Rattle.vi_history.specs.declared.call.Call.{Call}
use Rattle.vi_history.specs.declared.call.Call.TheVariants.{Ask, Raw, Bypass, Read, Write}
use Rattle.vi_history.specs.declared.setup.Setup.{Setup}
use Rattle.vi_plain.specs.Kept.{IsGranule}

-- the regions of an endpoint have room in 512 bytes of properties
abbrev pub HasFewRegions : EndpointSetup → Type 0
HasFewRegions e = length e.regions ≤ 16

-- the granule is whole pages, and no endpoint has more regions than its properties can show
pub record IsPlainSetup (s : Setup) : Type 0 where
  pub granule : IsGranule s.granule
  pub regions : All HasFewRegions s.endpoints

-- the part has a byte, and ends in the page that it begins in
pub record IsInOnePage (part : Part) : Type 0 where
  pub some : 1 ≤ part.len
  pub ends : part.iova % PAGE + part.len ≤ PAGE

-- An access stays within one page, and a write has as many bytes as its part. A request may be of any bytes
-- that a virtqueue can carry.
abbrev pub IsPlainCall : Call → Type 0
IsPlainCall (Ask request) = Unit {0}
IsPlainCall (Raw read write) = length read < 2 ^ 32 - 1
IsPlainCall (Bypass on) = Unit {0}
IsPlainCall (Read endpoint part) = IsInOnePage part
IsPlainCall (Write endpoint part bytes) = IsInOnePage part × (length bytes ≡ part.len)
