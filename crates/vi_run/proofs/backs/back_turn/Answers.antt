use Rattle.std.proofs.Common.{◌≡◌, ℕ, ◌<◌, inl, inr, sym, ◌∙◌, arith}
use Rattle.vi_backend.specs.Wishes.{own_wish, shown}
use Rattle.vi_backend.specs.declared.wish.Wish.TheVariants as shows
use Rattle.vi_run.proofs.Reaching.{page_inside, memory_few, told_access, told_other}
use Rattle.vi_run.proofs.backs.back_turn.Goals as goal

pub overflow_cast-page : goal.overflow_cast-page
overflow_cast-page g c =
    let wish = told_access c.args.pass.now c.args.place c.in-Access.page c.args.back.now c.requires.idle c.requires.plays (sym c.next.ensures ∙ c.in-Access.is) in
    let inside = page_inside c.args.pass.now c.args.place c.in-Access.page c.args.back.now c.requires.idle c.requires.plays wish in
    let few = memory_few c.args.pass.now.view.script c.requires.idle.placed.placed.playable in
    let low : c.in-Access.page < 16384 = omega (arith, inside, few) in
    omega (arith, low)

pub access_turn-requires-clause-wish : goal.access_turn-requires-clause-wish
access_turn-requires-clause-wish g c = told_access c.args.pass.now c.args.place c.in-Access.page c.args.back.now c.requires.idle c.requires.plays (sym c.next.ensures ∙ c.in-Access.is)

pub converse_turn-requires : goal.converse_turn-requires
converse_turn-requires g c =
    let other : (page : ℕ) → shown (own_wish c.args.back.now) ≡ shows.Access page → ⊥ = λ page e.
    let same : c.next.result ≡ shows.Access page = c.next.ensures ∙ e in
    elim c.in-Ask.is as (λ _. ⊥) [
      | inl x ↦ (let both : shows.Ask x.0 ≡ shows.Access page = sym x.1 ∙ same in absurd (cc))
      | inr y ↦ elim y as (λ _. ⊥) [
        | inl receives ↦ (let both : shows.Receive ≡ shows.Access page = sym receives ∙ same in absurd (cc))
        | inr rests ↦ (let both : shows.Rest ≡ shows.Access page = sym rests ∙ same in absurd (cc))
      ]
    ] in
    record { own = c.requires.own; idle = c.requires.idle; plays = c.requires.plays; wish = told_other c.args.pass.now c.args.place c.args.back.now c.requires.idle c.requires.plays other }
