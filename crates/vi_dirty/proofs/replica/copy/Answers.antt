use Rattle.std.proofs.Common.{List, ℕ, subst}
use Rattle.std.proofs.lemmas.List.{drop_all}
use Rattle.vi_dirty.specs.Tracked.{AreEqualBut}
use Rattle.vi_dirty.proofs.Copies.{all_equal}
use Rattle.vi_dirty.proofs.replica.copy.Goals as goal

pub returns : goal.returns
returns c =
    let none = drop_all c.loop-page.page-index c.args.pages.now c.loop-page-test.false in
    all_equal c.loop-page.replica.items c.args.tracker.now.one.memory c.loop-page.invariant.length (subst (λ (l : List ℕ). AreEqualBut l c.loop-page.replica.items c.args.tracker.now.one.memory) none c.loop-page.invariant.but)
