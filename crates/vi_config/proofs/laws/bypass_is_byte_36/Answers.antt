use Rattle.std.proofs.Common.{refl}
use Rattle.vi_config.specs.Space.{config_bytes}
use Rattle.vi_config.proofs.laws.bypass_is_byte_36.Goals as goal

pub returns : goal.returns
unfolding config_bytes
returns c = λ config bypass. refl
