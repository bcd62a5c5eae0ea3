use Rattle.std.proofs.Common.{◌∷◌, [], ◌++◌, ◌∙◌, sym, ap}
use Rattle.vi_dirty.specs.Marks.{PageSetValue}
use Rattle.vi_dirty.proofs.Sets.{set_again}
use Rattle.vi_state.proofs.Staying.{next_ids}
use Rattle.vi_state.specs.Followed.{StateValue}
use Rattle.vi_dirty.proofs.tracker.Tracker.feed.Goals as goal

pub invariant_of-self : goal.invariant_of-self
invariant_of-self c =
    let same = ap (λ (s : StateValue). s.one.dev.pages) c.follow.ensures.next ∙ (next_ids c.self.inside.state.one c.args.call.now).1 in
    let set = c.self.inside.written in
    (ap (λ (s : PageSetValue). s.room) c.insert.ensures ∙ c.self.invariant.0 ∙ sym same, rw (c.insert.ensures) (set_again set.room (set.pages ++ c.in-Some.page ∷ [])))

pub invariant_of-self-in_default : goal.invariant_of-self-in_default
invariant_of-self-in_default c =
    let same = ap (λ (s : StateValue). s.one.dev.pages) c.follow.ensures.next ∙ (next_ids c.self.inside.state.one c.args.call.now).1 in
    (c.self.invariant.0 ∙ sym same, c.self.invariant.1)
