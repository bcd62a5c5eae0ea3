-- That the numbers of a request fit its fields (Virtio 1.2, 5.13.6).
use Rattle.std.specs.Prelude.{◌<◌, ◌^◌}
use Rattle.vi_history.specs.declared.request.Request.{Request}
use Rattle.vi_history.specs.declared.request.Request.TheVariants.{Attach, Detach, Map, Unmap, Probe}

-- a domain, an endpoint and flags have 4 bytes, and an address has 8
abbrev pub FieldsFit : Request → Type 0
FieldsFit (Attach domain endpoint flags) = (domain < 2 ^ 32) × (endpoint < 2 ^ 32) × (flags < 2 ^ 32)
FieldsFit (Detach domain endpoint) = (domain < 2 ^ 32) × (endpoint < 2 ^ 32)
FieldsFit (Map domain first last target flags) = (domain < 2 ^ 32) × (first < 2 ^ 64) × (last < 2 ^ 64) × (target < 2 ^ 64) × (flags < 2 ^ 32)
FieldsFit (Unmap domain first last) = (domain < 2 ^ 32) × (first < 2 ^ 64) × (last < 2 ^ 64)
FieldsFit (Probe endpoint) = endpoint < 2 ^ 32
