use Rattle.vi_run.proofs.running.turns_in_a_row.Goals as goal
use Rattle.vi_run.proofs.Keeping.{same_first, same_more}

pub loop-turns-init : goal.loop-turns-init
loop-turns-init g c = same_first _ _ c.requires.own

pub loop-turns-preserved : goal.loop-turns-preserved
loop-turns-preserved g c = let e = c.turn.ensures in same_more _ _ _ _ c.loop-turns.invariant (record { own = e.own; who = e.who; number = e.number })

pub turn-requires : goal.turn-requires
turn-requires g c = record { own = c.loop-turns.invariant.own }
