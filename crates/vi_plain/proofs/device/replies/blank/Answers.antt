use Rattle.std.proofs.Common.{◌∙◌}
use Rattle.vi_history.specs.Replies.{no_properties}
use Rattle.vi_plain.proofs.device.replies.blank.Goals as goal

pub returns-clause-bytes : goal.returns-clause-bytes
unfolding no_properties
returns-clause-bytes c = c.from_vec.ensures ∙ c.in_ok-bytes.ensures
