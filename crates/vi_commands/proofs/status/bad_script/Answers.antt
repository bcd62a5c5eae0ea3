use Rattle.std.proofs.Common.{append_assoc}
use Rattle.vi_commands.proofs.status.bad_script.Goals as goal

pub returns : goal.returns
returns c = rw (c.from_vec.ensures, c.into_bytes.ensures.value) (simp append_assoc c.in_ok-text.ensures.ok)
