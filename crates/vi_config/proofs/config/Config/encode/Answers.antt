use Rattle.std.proofs.Common.{refl}
use Rattle.vi_config.specs.Space.{config_bytes}
use Rattle.vi_config.proofs.config.Config.encode.Goals as goal

pub returns-clause-bytes : goal.returns-clause-bytes
unfolding config_bytes
returns-clause-bytes c =
    rw (c.write_u32-2.ensures, c.write_u32.ensures, c.write_u64-3.ensures, c.write_u64-2.ensures, c.write_u64.ensures, c.mask.ensures, c.from.ensures) refl
