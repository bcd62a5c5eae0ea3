use Rattle.std.proofs.Common.{◌<◌, All, ℕ, subst}
use Rattle.vi_dirty.proofs.Copies.{set_below}
use Rattle.vi_dirty.proofs.Sets.{still_set}
use Rattle.vi_dirty.proofs.tracker.Tracker.take.Goals as goal

pub invariant_of-self : goal.invariant_of-self
invariant_of-self c = still_set c.take.result c.self.inside.state.one.dev.pages c.self.inside.written c.take.new.self c.take.ensures.ok c.take.ensures.err c.self.invariant

pub returns-clause-below : goal.returns-clause-below
returns-clause-below c =
    let set = c.self.inside.written in
    let below = subst (λ (n : ℕ). All (λ p. p < n) set.pages) c.self.invariant.0 (set_below set.room set.pages c.self.invariant.1) in
    rw (← c.self.view_is) below
