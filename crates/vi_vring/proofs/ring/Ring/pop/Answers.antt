use Rattle.std.proofs.Common.{◌≡◌, ◌<◌, ◌^◌, List, ℕ, length, ap, sym, ◌∙◌, refl, arith}
use Rattle.std.proofs.lemmas.List.{with_items_is}
use Rattle.vi_vring.specs.Device.{area_after_pop, taken_after_pop, popped_of}
use Rattle.vi_vring.specs.Notes.{noted_popped}
use Rattle.vi_vring.proofs.PopSound.{pop_sound, pop_seen, pop_known, pop_fresh_known, pop_shown, pop_out_known}
use Rattle.vi_vring.proofs.Sounds.{shows_popped}
use Rattle.vi_vring.proofs.ring.Ring.pop.Goals as goal
use Rattle.vi_vring.proofs.ring.Ring.pop.Goals.{After-note_popped}

small : (c : goal.After-note_popped) → c.self.inside.taken < 2 ^ 16
small c = omega arith

area_is : (c : goal.After-note_popped) → c.take_next-popped.new.area ≡ area_after_pop c.self.inside.size c.self.inside.taken c.self.inside.area.items
area_is c = c.take_next-popped.ensures.area ∙ ap (area_after_pop c.self.inside.size c.self.inside.taken) c.deref_mut.ensures.value

kept : (c : goal.After-note_popped) → length c.take_next-popped.new.area ≡ length c.self.inside.area.items
kept c = let h = ap (λ (xs : List ℕ). length xs) c.deref_mut.ensures.value in omega (arith, c.take_next-popped.auto.area, h)

whole : (c : goal.After-note_popped) → length c.take_next-popped.new.area ≡ c.self.inside.area.len
whole c = omega (arith, kept c, c.self.inside.area.ok.0)

popped_is : (c : goal.After-note_popped) → c.take_next-popped.result ≡ popped_of c.self.inside.size c.self.inside.area.items c.self.inside.taken
popped_is c = c.take_next-popped.ensures.popped ∙ ap (λ a. popped_of c.self.inside.size a c.self.inside.taken) c.deref_mut.ensures.value

taken_is : (c : goal.After-note_popped) → c.take_next-popped.new.taken ≡ taken_after_pop c.self.inside.size c.self.inside.area.items c.self.inside.taken
taken_is c = c.take_next-popped.ensures.taken ∙ ap (λ a. taken_after_pop c.self.inside.size a c.self.inside.taken) c.deref_mut.ensures.value

notes_are : (c : goal.After-note_popped) → c.note_popped.new.self ≡ noted_popped (popped_of c.self.inside.size c.self.inside.area.items c.self.inside.taken) c.self.inside.notes
notes_are c = c.note_popped.ensures ∙ ap (λ p. noted_popped p c.self.inside.notes) (popped_is c)

pub invariant_of-self : goal.invariant_of-self
invariant_of-self c =
    let same = with_items_is c.self.inside.area c.take_next-popped.new.area (whole c) in
    let len = ap (λ (xs : List ℕ). length xs) (sym (area_is c)) ∙ kept c in
    rw (same, area_is c, taken_is c, notes_are c)
    (pop_sound c.self.inside.size c.self.inside.reading c.self.inside.writing c.self.inside.room c.self.inside.area.items c.self.inside.taken c.self.inside.seen c.self.inside.lent c.self.inside.notes c.self.invariant (small c) len)

pub returns-clause-ring : goal.returns-clause-ring
returns-clause-ring c =
    let same = with_items_is c.self.inside.area c.take_next-popped.new.area (whole c) in
    let lists = pop_seen c.self.inside.size c.self.inside.reading c.self.inside.writing c.self.inside.room c.self.inside.area.items c.self.inside.taken c.self.inside.seen c.self.inside.lent c.self.inside.notes c.self.invariant (small c) in
    rw (← c.self.view_is, same, area_is c, taken_is c, notes_are c, lists) refl

pub returns-clause-first : goal.returns-clause-first
returns-clause-first c =
    rw (← c.self.view_is, popped_is c)
    (pop_known c.self.inside.size c.self.inside.reading c.self.inside.writing c.self.inside.room c.self.inside.area.items c.self.inside.taken c.self.inside.seen c.self.inside.lent c.self.inside.notes c.self.invariant (small c))

pub returns-clause-shows : goal.returns-clause-shows
returns-clause-shows c =
    let same = with_items_is c.self.inside.area c.take_next-popped.new.area (whole c) in
    let len = ap (λ (xs : List ℕ). length xs) (sym (area_is c)) ∙ kept c in
    rw (same, area_is c, notes_are c)
    (shows_popped c.self.inside.size c.self.inside.reading c.self.inside.writing c.self.inside.room _ _ c.self.inside.seen c.self.inside.lent _
    (pop_sound c.self.inside.size c.self.inside.reading c.self.inside.writing c.self.inside.room c.self.inside.area.items c.self.inside.taken c.self.inside.seen c.self.inside.lent c.self.inside.notes c.self.invariant (small c) len))

pub returns-clause-fresh : goal.returns-clause-fresh
returns-clause-fresh c =
    rw (← c.self.view_is)
    (pop_fresh_known c.self.inside.size c.self.inside.reading c.self.inside.writing c.self.inside.room c.self.inside.area.items c.self.inside.taken c.self.inside.seen c.self.inside.lent c.self.inside.notes c.self.invariant (small c))

pub returns-clause-shown : goal.returns-clause-shown
returns-clause-shown c =
    let same = with_items_is c.self.inside.area c.take_next-popped.new.area (whole c) in
    rw (same, area_is c, popped_is c) (pop_shown c.self.inside.size c.self.inside.area.items c.self.inside.taken)

pub returns-clause-out : goal.returns-clause-out
returns-clause-out c =
    let same = with_items_is c.self.inside.area c.take_next-popped.new.area (whole c) in
    rw (same, area_is c, notes_are c, popped_is c)
    (pop_out_known c.self.inside.size c.self.inside.reading c.self.inside.writing c.self.inside.room c.self.inside.area.items c.self.inside.taken c.self.inside.seen c.self.inside.lent c.self.inside.notes c.self.invariant (small c))
