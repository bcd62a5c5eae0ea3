use Rattle.std.proofs.Common.{◌<◌, ◌^◌, length, ap, refl, ◌∙◌, arith}
use Rattle.vi_vring.specs.Device.{used_index}
use Rattle.vi_vring.specs.Inner.{seen_as}
use Rattle.vi_vring.specs.Reads.{read_from, index_gap, copied_into}
use Rattle.vi_vring.proofs.CollectSound.{read_whole, collect_sound, collect_seen, inside_known, none_same, holds_from, len_known, bytes_known}
use Rattle.vi_vring.proofs.Sounds.{shows_popped}
use Rattle.vi_vring.proofs.ring.Ring.collect.Goals as goal

pub collect-note-requires : goal.collect-note-requires
collect-note-requires c =
    let small : c.self.inside.seen < 2 ^ 16 = omega arith in
    let notes = c.read_used.ensures.notes ∙ ap (λ a. read_from c.self.inside.size a (index_gap c.self.inside.seen (used_index c.self.inside.size a)) c.self.inside.seen c.self.inside.notes) c.deref.ensures.value in
    rw notes (read_whole c.self.inside.size c.self.inside.reading c.self.inside.writing c.self.inside.room c.self.inside.area.items c.self.inside.taken c.self.inside.seen c.self.inside.lent c.self.inside.notes c.self.invariant small)

pub copy_collected-requires-clause-inside : goal.copy_collected-requires-clause-inside
copy_collected-requires-clause-inside c =
    let small : c.self.inside.seen < 2 ^ 16 = omega arith in
    let notes = c.read_used.ensures.notes ∙ ap (λ a. read_from c.self.inside.size a (index_gap c.self.inside.seen (used_index c.self.inside.size a)) c.self.inside.seen c.self.inside.notes) c.deref.ensures.value in
    rw (c.collect-note.ensures.note, notes, c.deref-2.ensures.value) (inside_known c.self.inside.size c.self.inside.reading c.self.inside.writing c.self.inside.room c.self.inside.area.items c.self.inside.taken c.self.inside.seen c.self.inside.lent c.self.inside.notes c.self.invariant small c.args.head.0)

pub invariant_of-self : goal.invariant_of-self
invariant_of-self c =
    let small : c.self.inside.seen < 2 ^ 16 = omega arith in
    let notes = c.read_used.ensures.notes ∙ ap (λ a. read_from c.self.inside.size a (index_gap c.self.inside.seen (used_index c.self.inside.size a)) c.self.inside.seen c.self.inside.notes) c.deref.ensures.value in
    let seen = c.read_used.ensures.seen ∙ ap (used_index c.self.inside.size) c.deref.ensures.value in
    rw (seen, c.collect-note.ensures.collected, notes) (collect_sound c.self.inside.size c.self.inside.reading c.self.inside.writing c.self.inside.room c.self.inside.area.items c.self.inside.taken c.self.inside.seen c.self.inside.lent c.self.inside.notes c.self.invariant small c.args.head.0)

pub returns-clause-len : goal.returns-clause-len
returns-clause-len c =
    let small : c.self.inside.seen < 2 ^ 16 = omega arith in
    let notes = c.read_used.ensures.notes ∙ ap (λ a. read_from c.self.inside.size a (index_gap c.self.inside.seen (used_index c.self.inside.size a)) c.self.inside.seen c.self.inside.notes) c.deref.ensures.value in
    rw (← c.self.view_is, c.copy_collected.ensures.count, c.collect-note.ensures.note, notes)
    (len_known c.self.inside.size c.self.inside.reading c.self.inside.writing c.self.inside.room c.self.inside.area.items c.self.inside.taken c.self.inside.seen c.self.inside.lent c.self.inside.notes c.self.invariant small c.args.head.0
    c.args.out.now (holds_from c.self.inside.size c.self.inside.reading c.self.inside.writing c.self.inside.room c.self.inside.area.items c.self.inside.taken c.self.inside.seen c.self.inside.lent c.self.inside.notes c.self.invariant small c.args.head.0
    (length c.args.out.now) (rw (← c.self.view_is) at c.requires)))

pub returns-clause-bytes : goal.returns-clause-bytes
returns-clause-bytes c =
    let small : c.self.inside.seen < 2 ^ 16 = omega arith in
    let notes = c.read_used.ensures.notes ∙ ap (λ a. read_from c.self.inside.size a (index_gap c.self.inside.seen (used_index c.self.inside.size a)) c.self.inside.seen c.self.inside.notes) c.deref.ensures.value in
    let bytes = c.copy_collected.ensures.bytes ∙ ap (λ a. copied_into c.self.inside.size c.self.inside.room a c.collect-note.result c.args.out.now) c.deref-2.ensures.value in
    rw (← c.self.view_is, bytes, c.collect-note.ensures.note, notes)
    (bytes_known c.self.inside.size c.self.inside.reading c.self.inside.writing c.self.inside.room c.self.inside.area.items c.self.inside.taken c.self.inside.seen c.self.inside.lent c.self.inside.notes c.self.invariant small c.args.head.0
    c.args.out.now (holds_from c.self.inside.size c.self.inside.reading c.self.inside.writing c.self.inside.room c.self.inside.area.items c.self.inside.taken c.self.inside.seen c.self.inside.lent c.self.inside.notes c.self.invariant small c.args.head.0
    (length c.args.out.now) (rw (← c.self.view_is) at c.requires)))

pub returns-clause-ring : goal.returns-clause-ring
returns-clause-ring c =
    let small : c.self.inside.seen < 2 ^ 16 = omega arith in
    let notes = c.read_used.ensures.notes ∙ ap (λ a. read_from c.self.inside.size a (index_gap c.self.inside.seen (used_index c.self.inside.size a)) c.self.inside.seen c.self.inside.notes) c.deref.ensures.value in
    let lists = collect_seen c.self.inside.size c.self.inside.reading c.self.inside.writing c.self.inside.room c.self.inside.area.items c.self.inside.taken c.self.inside.seen c.self.inside.lent c.self.inside.notes c.self.invariant small c.args.head.0 in
    rw (← c.self.view_is, c.collect-note.ensures.collected, notes, lists) refl

pub returns-clause-shows : goal.returns-clause-shows
returns-clause-shows c =
    let small : c.self.inside.seen < 2 ^ 16 = omega arith in
    let notes = c.read_used.ensures.notes ∙ ap (λ a. read_from c.self.inside.size a (index_gap c.self.inside.seen (used_index c.self.inside.size a)) c.self.inside.seen c.self.inside.notes) c.deref.ensures.value in
    rw (c.collect-note.ensures.collected, notes)
    (shows_popped c.self.inside.size c.self.inside.reading c.self.inside.writing c.self.inside.room c.self.inside.area.items c.self.inside.taken (used_index c.self.inside.size c.self.inside.area.items) c.self.inside.lent _
    (collect_sound c.self.inside.size c.self.inside.reading c.self.inside.writing c.self.inside.room c.self.inside.area.items c.self.inside.taken c.self.inside.seen c.self.inside.lent c.self.inside.notes c.self.invariant small c.args.head.0))

pub returns-clause-none : goal.returns-clause-none
returns-clause-none c =
    let small : c.self.inside.seen < 2 ^ 16 = omega arith in
    let notes = c.read_used.ensures.notes ∙ ap (λ a. read_from c.self.inside.size a (index_gap c.self.inside.seen (used_index c.self.inside.size a)) c.self.inside.seen c.self.inside.notes) c.deref.ensures.value in
    rw (← c.self.view_is, c.copy_collected.ensures.count, c.collect-note.ensures.note, c.collect-note.ensures.collected, notes)
    (none_same c.self.inside.size c.self.inside.reading c.self.inside.writing c.self.inside.room c.self.inside.area.items c.self.inside.taken c.self.inside.seen c.self.inside.lent c.self.inside.notes c.self.invariant small c.args.head.0
    (λ l. record (seen_as c.self.inside) { lists = l }) (length c.args.out.now))
