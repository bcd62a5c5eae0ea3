use Rattle.vi_core.proofs.BackTurnsReach.{reaches}
use Rattle.vi_core.proofs.conversing.reach.Goals as goal

pub returns-clause-turn : goal.returns-clause-turn
returns-clause-turn c =
    reaches c.args.back.now _ c.args.page.now _ _ c.requires.own c.wishes_agree.ensures c.accesses_agree.ensures c.requires.wish c.access.ensures.page c.access.ensures.seat c.access.ensures.mark c.access.ensures.bytes
