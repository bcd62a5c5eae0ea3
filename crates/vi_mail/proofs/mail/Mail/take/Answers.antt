use Rattle.std.proofs.Common.{◌<◌, length, map, ap, ◌∙◌, refl}
use Rattle.vi_mail.specs.Lanes.{SlottedLanes, taken_from}
use Rattle.vi_mail.specs.Inside.{lanes_in}
use Rattle.vi_mail.proofs.Rows.{row_at, row_changed, AllHaveSlots-set}
use Rattle.vi_mail.proofs.mail.Mail.take.Goals as goal

pub invariant_of-self : goal.invariant_of-self
invariant_of-self c =
    let below : c.args.place < length (map lanes_in c.self.inside.rows.items) = rw (← c.self.view_is) at c.requires in
    let row = row_at c.self.inside c.args.place c.index_mut-row.result.now c.self.invariant below c.index_mut-row.ensures.value in
    AllHaveSlots-set c.self.inside.slots c.self.inside.rows.items c.args.place c.pop.new.self c.self.invariant (ap (λ (r : SlottedLanes). r.slots) c.pop.ensures.rest ∙ row.1)

pub returns-clause-rest : goal.returns-clause-rest
returns-clause-rest c =
    let below : c.args.place < length (map lanes_in c.self.inside.rows.items) = rw (← c.self.view_is) at c.requires in
    rw (← c.self.view_is, row_changed (taken_from c.args.lane) c.self.inside.rows.items c.args.place c.index_mut-row.result.now c.pop.new.self below c.index_mut-row.ensures.value c.pop.ensures.rest) refl
