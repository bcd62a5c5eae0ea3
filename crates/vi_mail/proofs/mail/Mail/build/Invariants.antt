use Rattle.std.proofs.Common.{◌≡◌, replicate, vec_capacity}
use Rattle.vi_mail.specs.Lanes.{no_lanes}
use Rattle.vi_mail.proofs.mail.Mail.build.Given as goal

abbrev pub invariant-loop-place : goal.invariant-loop-place
invariant-loop-place l = (l.rows.items ≡ replicate l.place (record { lanes = no_lanes; slots = l.slots })) × (vec_capacity l.rows ≡ l.backs)
