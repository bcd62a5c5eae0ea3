use Rattle.std.proofs.Common.{◌≡◌, ◌<◌, length, Some, ap, sym, ◌∙◌, arith}
use Rattle.vi_model.specs.Control.{link_of, with_link}
use Rattle.vi_model.specs.Serves.{granted_link}
use Rattle.vi_grants.specs.Rows.{row_at}
use Rattle.vi_control.specs.Inner.{seen}
use Rattle.vi_control.specs.Serving.{lease_for}
use Rattle.vi_control.specs.Value.{with_state}
use Rattle.vi_control.proofs.Linking.{none_under, grants_at, spare_at, state_granted, kept_granted}
use Rattle.vi_control.proofs.control.Control.grant.Goals as goal

pub add-requires-clause-room : goal.add-requires-clause-room
add-requires-clause-room c =
    let p = c.self.inside in
    let room = rw (← c.self.view_is) at c.requires.room in
    λ none. rw (← spare_at p.grants c.args.place) (room.grant (rw (grants_at p.grants c.args.place) (none_under c.args.page (row_at p.grants c.args.place).grants none)))

pub invariant_of-self-in-Some : goal.invariant_of-self-in-Some
invariant_of-self-in-Some c =
    let place = rw (← c.self.view_is) at c.requires.place in
    rw (c.add.ensures.granted, c.reply-in-Some.ensures, c.grant.ensures) (kept_granted c.self.inside c.args.place c.args.page c.in-Some.lease c.self.invariant place c.in-Some.ensures.grant.ends)

pub returns-in-Some : goal.returns-in-Some
returns-in-Some c =
    let p = c.self.inside in
    let place = rw (← c.self.view_is) at c.requires.place in
    let mail = c.self.invariant.mail in
    let below : c.args.place < length p.lanes.mail = omega (arith, place, mail) in
    let here : lease_for (seen p) c.args.place c.args.page ≡ Some c.in-Some.lease = sym c.in-Some.ensures.run in
    rw (c.add.ensures.granted, c.reply-in-Some.ensures, c.grant.ensures, ← c.self.view_is)
    (ap (λ s. with_state s (seen p)) (sym (ap (λ o. with_link (seen p).state c.args.place (granted_link (link_of (seen p).state c.args.place) c.args.page o)) here ∙ state_granted p c.args.place c.args.page c.in-Some.lease below)))
