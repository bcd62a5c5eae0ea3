use Rattle.std.proofs.Common.{◌<◌, length, map, ap, ◌∙◌, refl}
use Rattle.vi_mail.specs.Lanes.{SlottedLanes, sent_in}
use Rattle.vi_mail.specs.Inside.{lanes_in}
use Rattle.vi_mail.proofs.Rows.{row_at, row_changed, AllHaveSlots-set}
use Rattle.vi_mail.proofs.mail.Mail.send.Goals as goal

pub returns-then-is_full-clause-full : goal.returns-then-is_full-clause-full
returns-then-is_full-clause-full c =
    let below : c.args.place < length (map lanes_in c.self.inside.rows.items) = rw (← c.self.view_is) at c.requires.place in
    let row = row_at c.self.inside c.args.place c.index_mut-row.result.now c.self.invariant below c.index_mut-row.ensures.value in
    rw (← c.self.view_is, row.0, ← row.1) (λ full. c.is_full.ensures.full.0 c.if-is_full.true, λ full. refl)

pub returns-then-is_full-clause-bounded : goal.returns-then-is_full-clause-bounded
returns-then-is_full-clause-bounded c =
    let below : c.args.place < length (map lanes_in c.self.inside.rows.items) = rw (← c.self.view_is) at c.requires.place in
    let row = row_at c.self.inside c.args.place c.index_mut-row.result.now c.self.invariant below c.index_mut-row.ensures.value in
    rw (← c.self.view_is, row.0, ← row.1) c.is_full.ensures.bounded

pub invariant_of-self-2 : goal.invariant_of-self-2
invariant_of-self-2 c =
    let below : c.args.place < length (map lanes_in c.self.inside.rows.items) = rw (← c.self.view_is) at c.requires.place in
    let row = row_at c.self.inside c.args.place c.index_mut-row.result.now c.self.invariant below c.index_mut-row.ensures.value in
    AllHaveSlots-set c.self.inside.slots c.self.inside.rows.items c.args.place c.push.new.self c.self.invariant (ap (λ (r : SlottedLanes). r.slots) c.push.ensures ∙ row.1)

pub returns-clause-full : goal.returns-clause-full
returns-clause-full c =
    let below : c.args.place < length (map lanes_in c.self.inside.rows.items) = rw (← c.self.view_is) at c.requires.place in
    let row = row_at c.self.inside c.args.place c.index_mut-row.result.now c.self.invariant below c.index_mut-row.ensures.value in
    rw (← c.self.view_is, row.0, ← row.1) (λ full. absurd (cc), λ full. absurd (cc (c.is_full.ensures.full.1 full, c.if-is_full.false)))

pub returns-clause-bounded : goal.returns-clause-bounded
returns-clause-bounded c =
    let below : c.args.place < length (map lanes_in c.self.inside.rows.items) = rw (← c.self.view_is) at c.requires.place in
    let row = row_at c.self.inside c.args.place c.index_mut-row.result.now c.self.invariant below c.index_mut-row.ensures.value in
    rw (← c.self.view_is, row.0, ← row.1) c.is_full.ensures.bounded

pub returns-clause-sent : goal.returns-clause-sent
returns-clause-sent c =
    let below : c.args.place < length (map lanes_in c.self.inside.rows.items) = rw (← c.self.view_is) at c.requires.place in
    rw (← c.self.view_is, row_changed (sent_in c.args.lane c.args.frame.now) c.self.inside.rows.items c.args.place c.index_mut-row.result.now c.push.new.self below c.index_mut-row.ensures.value c.push.ensures) refl
