use Rattle.std.proofs.Common.{refl}
use Rattle.vi_history.specs.Start.{start}
use Rattle.vi_dirty.proofs.Sets.{set_none}
use Rattle.vi_dirty.proofs.tracker.Tracker.new.Goals as goal

pub invariant_of-result : goal.invariant_of-result
unfolding start
invariant_of-result c = rw (c.in_ok-written.ensures, c.in_ok-state.ensures) (refl, set_none c.args.setup.now.memory)
