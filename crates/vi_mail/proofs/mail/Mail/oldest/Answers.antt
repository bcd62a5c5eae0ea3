use Rattle.std.proofs.Common.{◌<◌, length, map}
use Rattle.vi_mail.specs.Lanes.{lane_of}
use Rattle.vi_mail.specs.Inside.{lanes_in}
use Rattle.vi_mail.proofs.Kept.{oldest_bytes-empty}
use Rattle.vi_mail.proofs.Rows.{row_at}
use Rattle.vi_mail.proofs.mail.Mail.oldest.Goals as goal

pub returns-clause-empty : goal.returns-clause-empty
returns-clause-empty c =
    let below : c.args.place < length (map lanes_in c.self.inside.rows.items) = rw (← c.self.view_is) at c.requires in
    let row = row_at c.self.inside c.args.place c.index-row.result.now c.self.invariant below c.index-row.ensures in
    rw (c.oldest.ensures.bytes, ← c.self.view_is, row.0) (oldest_bytes-empty (lane_of c.args.lane c.index-row.result.now.lanes))
