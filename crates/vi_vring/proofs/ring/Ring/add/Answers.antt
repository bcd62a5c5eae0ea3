use Rattle.std.proofs.Common.{◌≡◌, ◌≤◌, List, ℕ, length, ap, ◌∙◌, refl, arith}
use Rattle.std.proofs.lemmas.List.{with_items_is}
use Rattle.vi_vring.specs.Driver.{placed}
use Rattle.vi_vring.specs.Notes.{needs_of, note_for}
use Rattle.vi_vring.specs.Moves.{chain_needs}
use Rattle.vi_vring.proofs.Counts.{needs_is, full_known}
use Rattle.vi_vring.proofs.AddSound.{taken_below, taken_placeable, taken_fresh, taken_length, taken_sound, taken_seen}
use Rattle.vi_vring.proofs.Sounds.{shows_popped}
use Rattle.vi_vring.proofs.ring.Ring.add.Goals as goal

pub overflow_cast-len : goal.overflow_cast-len
overflow_cast-len c =
    let r = rw (← c.self.view_is) at c.requires.read in
    omega (arith, r, c.self.invariant.readable, c.self.invariant.small)

pub returns-then-free-descriptors_for-clause-full : goal.returns-then-free-descriptors_for-clause-full
returns-then-free-descriptors_for-clause-full c =
    let needed = needs_is (length c.args.read.now) c.args.write (omega (arith, c.requires.some)) in
    rw (← c.self.view_is)
    (full_known c.self.inside.size c.self.inside.reading c.self.inside.writing c.self.inside.room c.self.inside.area.items c.self.inside.taken c.self.inside.seen c.self.inside.lent c.self.inside.notes c.self.invariant
    (chain_needs (length c.args.read.now) c.args.write) _
    (λ free e q. omega (arith, e, needed, c.free-free.ensures, c.descriptors_for.ensures, c.if-free-descriptors_for.true)) (λ free e q. refl))

pub returns-then-free-descriptors_for-clause-shows : goal.returns-then-free-descriptors_for-clause-shows
returns-then-free-descriptors_for-clause-shows c =
    rw (← c.self.view_is) (shows_popped c.self.inside.size c.self.inside.reading c.self.inside.writing c.self.inside.room c.self.inside.area.items c.self.inside.taken c.self.inside.seen c.self.inside.lent c.self.inside.notes c.self.invariant)

pub place-requires-clause-note : goal.place-requires-clause-note
place-requires-clause-note c =
    let rd = rw (← c.self.view_is) at c.requires.read in
    let wr = rw (← c.self.view_is) at c.requires.write in
    let le : needs_of (length c.args.read.now) c.args.write ≤ length c.self.inside.notes.free = omega (arith, c.free-free.ensures, c.descriptors_for.ensures, c.if-free-descriptors_for.false) in
    rw (c.add-note.ensures.note, c.deref_mut.ensures.value)
    (taken_placeable c.self.inside.size c.self.inside.reading c.self.inside.writing c.self.inside.room c.self.inside.area.items c.self.inside.taken c.self.inside.seen c.self.inside.lent c.self.inside.notes c.self.invariant
    (length c.args.read.now) c.args.write rd wr (omega (arith, c.requires.some)) le (length c.args.read.now) refl)

pub invariant_of-self : goal.invariant_of-self
invariant_of-self c =
    let rd = rw (← c.self.view_is) at c.requires.read in
    let wr = rw (← c.self.view_is) at c.requires.write in
    let le : needs_of (length c.args.read.now) c.args.write ≤ length c.self.inside.notes.free = omega (arith, c.free-free.ensures, c.descriptors_for.ensures, c.if-free-descriptors_for.false) in
    let area : c.place.new.area ≡ placed c.self.inside.size c.self.inside.room (note_for (length c.args.read.now) c.args.write c.self.inside.notes) c.args.read.now c.self.inside.area.items =
    c.place.ensures ∙ ap (placed c.self.inside.size c.self.inside.room c.add-note.result c.args.read.now) c.deref_mut.ensures.value ∙ ap (λ x. placed c.self.inside.size c.self.inside.room x c.args.read.now c.self.inside.area.items) c.add-note.ensures.note in
    let value = ap (λ (xs : List ℕ). length xs) c.deref_mut.ensures.value in
    let same = with_items_is c.self.inside.area c.place.new.area (omega (arith, c.place.auto.area, value, c.self.inside.area.ok.0)) in
    rw (same, area, c.add-note.ensures.added, c.add-note.ensures.note)
    (taken_sound c.self.inside.size c.self.inside.reading c.self.inside.writing c.self.inside.room c.self.inside.area.items c.self.inside.taken c.self.inside.seen c.self.inside.lent c.self.inside.notes c.self.invariant
    (length c.args.read.now) c.args.write rd wr (omega (arith, c.requires.some)) le c.args.read.now refl)

pub returns-clause-added : goal.returns-clause-added
returns-clause-added c =
    let rd = rw (← c.self.view_is) at c.requires.read in
    let wr = rw (← c.self.view_is) at c.requires.write in
    let le : needs_of (length c.args.read.now) c.args.write ≤ length c.self.inside.notes.free = omega (arith, c.free-free.ensures, c.descriptors_for.ensures, c.if-free-descriptors_for.false) in
    let area : c.place.new.area ≡ placed c.self.inside.size c.self.inside.room (note_for (length c.args.read.now) c.args.write c.self.inside.notes) c.args.read.now c.self.inside.area.items =
    c.place.ensures ∙ ap (placed c.self.inside.size c.self.inside.room c.add-note.result c.args.read.now) c.deref_mut.ensures.value ∙ ap (λ x. placed c.self.inside.size c.self.inside.room x c.args.read.now c.self.inside.area.items) c.add-note.ensures.note in
    let value = ap (λ (xs : List ℕ). length xs) c.deref_mut.ensures.value in
    let same = with_items_is c.self.inside.area c.place.new.area (omega (arith, c.place.auto.area, value, c.self.inside.area.ok.0)) in
    let lists = taken_seen c.self.inside.size c.self.inside.reading c.self.inside.writing c.self.inside.room c.self.inside.area.items c.self.inside.taken c.self.inside.seen c.self.inside.lent c.self.inside.notes c.self.invariant
    (length c.args.read.now) c.args.write rd wr (omega (arith, c.requires.some)) le c.args.read.now refl in
    let len = taken_length c.self.inside.size c.self.inside.reading c.self.inside.writing c.self.inside.room c.self.inside.area.items c.self.inside.taken c.self.inside.seen c.self.inside.lent c.self.inside.notes c.self.invariant
    (length c.args.read.now) c.args.write rd wr (omega (arith, c.requires.some)) le c.args.read.now refl in
    rw (← c.self.view_is, same, area, c.add-note.ensures.added, c.add-note.ensures.note)
    (record { lists = lists; size = refl; reading = refl; writing = refl; bytes_stay = len; taken = refl })

pub returns-clause-full : goal.returns-clause-full
returns-clause-full c =
    let needed = needs_is (length c.args.read.now) c.args.write (omega (arith, c.requires.some)) in
    rw (← c.self.view_is)
    (full_known c.self.inside.size c.self.inside.reading c.self.inside.writing c.self.inside.room c.self.inside.area.items c.self.inside.taken c.self.inside.seen c.self.inside.lent c.self.inside.notes c.self.invariant
    (chain_needs (length c.args.read.now) c.args.write) _
    (λ free e q. absurd cc) (λ free e q. absurd (omega (arith, e, q, needed, c.free-free.ensures, c.descriptors_for.ensures, c.if-free-descriptors_for.false))))

pub returns-clause-fresh : goal.returns-clause-fresh
returns-clause-fresh c =
    let rd = rw (← c.self.view_is) at c.requires.read in
    let wr = rw (← c.self.view_is) at c.requires.write in
    let le : needs_of (length c.args.read.now) c.args.write ≤ length c.self.inside.notes.free = omega (arith, c.free-free.ensures, c.descriptors_for.ensures, c.if-free-descriptors_for.false) in
    rw (← c.self.view_is, c.add-note.ensures.note) (
      taken_below c.self.inside.size c.self.inside.reading c.self.inside.writing c.self.inside.room c.self.inside.area.items c.self.inside.taken c.self.inside.seen c.self.inside.lent c.self.inside.notes c.self.invariant
          (length c.args.read.now) c.args.write rd wr (omega (arith, c.requires.some)) le,
      taken_fresh c.self.inside.size c.self.inside.reading c.self.inside.writing c.self.inside.room c.self.inside.area.items c.self.inside.taken c.self.inside.seen c.self.inside.lent c.self.inside.notes c.self.invariant
          (length c.args.read.now) c.args.write rd wr (omega (arith, c.requires.some)) le,
    )

pub returns-clause-shows : goal.returns-clause-shows
returns-clause-shows c =
    let rd = rw (← c.self.view_is) at c.requires.read in
    let wr = rw (← c.self.view_is) at c.requires.write in
    let le : needs_of (length c.args.read.now) c.args.write ≤ length c.self.inside.notes.free = omega (arith, c.free-free.ensures, c.descriptors_for.ensures, c.if-free-descriptors_for.false) in
    let area : c.place.new.area ≡ placed c.self.inside.size c.self.inside.room (note_for (length c.args.read.now) c.args.write c.self.inside.notes) c.args.read.now c.self.inside.area.items =
    c.place.ensures ∙ ap (placed c.self.inside.size c.self.inside.room c.add-note.result c.args.read.now) c.deref_mut.ensures.value ∙ ap (λ x. placed c.self.inside.size c.self.inside.room x c.args.read.now c.self.inside.area.items) c.add-note.ensures.note in
    let value = ap (λ (xs : List ℕ). length xs) c.deref_mut.ensures.value in
    let same = with_items_is c.self.inside.area c.place.new.area (omega (arith, c.place.auto.area, value, c.self.inside.area.ok.0)) in
    rw (same, area, c.add-note.ensures.added, c.add-note.ensures.note)
    (shows_popped c.self.inside.size c.self.inside.reading c.self.inside.writing c.self.inside.room _ c.self.inside.taken c.self.inside.seen c.self.inside.lent _
    (taken_sound c.self.inside.size c.self.inside.reading c.self.inside.writing c.self.inside.room c.self.inside.area.items c.self.inside.taken c.self.inside.seen c.self.inside.lent c.self.inside.notes c.self.invariant
    (length c.args.read.now) c.args.write rd wr (omega (arith, c.requires.some)) le c.args.read.now refl))
