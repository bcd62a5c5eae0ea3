use Rattle.std.proofs.Common.{◌≡◌, List, ℕ, length, ap, sym, ◌∙◌, refl, arith}
use Rattle.std.proofs.lemmas.List.{with_items_is}
use Rattle.vi_vring.specs.Moves.{area_after_push}
use Rattle.vi_vring.proofs.PushSound.{push_sound, push_seen, once_known}
use Rattle.vi_vring.proofs.Sounds.{shows_popped}
use Rattle.vi_vring.proofs.ring.Ring.push.Goals as goal

area_is : (c : goal.After-push) → c.write_back.new.area ≡ area_after_push c.self.inside.size c.args.chain.head c.args.bytes.now c.self.inside.area.items
area_is c = c.write_back.ensures ∙ ap (area_after_push c.self.inside.size c.args.chain.head c.args.bytes.now) c.deref_mut.ensures.value

kept : (c : goal.After-push) → length c.write_back.new.area ≡ length c.self.inside.area.items
kept c = let h = ap (λ (xs : List ℕ). length xs) c.deref_mut.ensures.value in omega (arith, c.write_back.auto.area, h)

whole : (c : goal.After-push) → length c.write_back.new.area ≡ c.self.inside.area.len
whole c = omega (arith, kept c, c.self.inside.area.ok.0)

pub invariant_of-self : goal.invariant_of-self
invariant_of-self c =
    let same = with_items_is c.self.inside.area c.write_back.new.area (whole c) in
    let len = ap (λ (xs : List ℕ). length xs) (sym (area_is c)) ∙ kept c in
    let shows = rw (← c.self.view_is) at c.requires.shown in
    let out = rw (← c.self.view_is) at c.requires.out in
    rw (same, area_is c, c.push.ensures)
    (push_sound c.self.inside.size c.self.inside.reading c.self.inside.writing c.self.inside.room c.self.inside.area.items c.self.inside.taken c.self.inside.seen c.self.inside.lent c.self.inside.notes c.self.invariant
    c.args.chain shows out c.args.bytes.now c.requires.fits len)

pub returns-clause-ring : goal.returns-clause-ring
returns-clause-ring c =
    let same = with_items_is c.self.inside.area c.write_back.new.area (whole c) in
    let shows = rw (← c.self.view_is) at c.requires.shown in
    let out = rw (← c.self.view_is) at c.requires.out in
    let lists = push_seen c.self.inside.size c.self.inside.reading c.self.inside.writing c.self.inside.room c.self.inside.area.items c.self.inside.taken c.self.inside.seen c.self.inside.lent c.self.inside.notes c.self.invariant
    c.args.chain shows out c.args.bytes.now c.requires.fits in
    rw (← c.self.view_is, same, area_is c, c.push.ensures, lists) refl

pub returns-clause-shows : goal.returns-clause-shows
returns-clause-shows c =
    let same = with_items_is c.self.inside.area c.write_back.new.area (whole c) in
    let len = ap (λ (xs : List ℕ). length xs) (sym (area_is c)) ∙ kept c in
    let shows = rw (← c.self.view_is) at c.requires.shown in
    let out = rw (← c.self.view_is) at c.requires.out in
    rw (same, area_is c, c.push.ensures)
    (shows_popped c.self.inside.size c.self.inside.reading c.self.inside.writing c.self.inside.room _ c.self.inside.taken c.self.inside.seen c.self.inside.lent _
    (push_sound c.self.inside.size c.self.inside.reading c.self.inside.writing c.self.inside.room c.self.inside.area.items c.self.inside.taken c.self.inside.seen c.self.inside.lent c.self.inside.notes c.self.invariant
    c.args.chain shows out c.args.bytes.now c.requires.fits len))

pub returns-clause-once : goal.returns-clause-once
returns-clause-once c =
    let shows = rw (← c.self.view_is) at c.requires.shown in
    let out = rw (← c.self.view_is) at c.requires.out in
    rw (← c.self.view_is)
    (once_known c.self.inside.size c.self.inside.reading c.self.inside.writing c.self.inside.room c.self.inside.area.items c.self.inside.taken c.self.inside.seen c.self.inside.lent c.self.inside.notes c.self.invariant c.args.chain shows out)
