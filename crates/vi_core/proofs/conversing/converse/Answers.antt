use Rattle.std.proofs.Common.{sym, ◌∙◌}
use Rattle.vi_core.proofs.BackTurnsTurns.{accesses_wait, asks_move, receives_turn, rests_turn}
use Rattle.vi_core.proofs.conversing.converse.Goals as goal

pub returns-in-Access-clause-turn : goal.returns-in-Access-clause-turn
returns-in-Access-clause-turn g c =
    accesses_wait c.args.control.now c.args.place _ c.args.back.now c.requires.room.own c.wishes_agree.ensures (sym c.next.ensures ∙ c.in-Access.is)

pub returns-in-Ask-clause-turn : goal.returns-in-Ask-clause-turn
returns-in-Ask-clause-turn g c =
    asks_move c.args.control.now _ c.args.place c.args.back.now _ _ c.requires.room.own c.wishes_agree.ensures (sym c.next.ensures ∙ c.in-Ask.is) c.ask.ensures.exchange

pub returns-in-Receive-clause-turn : goal.returns-in-Receive-clause-turn
returns-in-Receive-clause-turn g c =
    rw c.turned.ensures (receives_turn c.args.control.now _ c.args.place c.args.back.now _ _ c.requires.room c.wishes_agree.ensures (sym c.next.ensures ∙ c.in-Receive.is) c.receive.ensures.exchange)

pub returns-in-Rest-clause-turn : goal.returns-in-Rest-clause-turn
returns-in-Rest-clause-turn g c =
    rw c.turned-in-Rest.ensures (rests_turn c.args.control.now _ c.args.place c.args.back.now _ _ c.requires.room c.wishes_agree.ensures (sym c.next.ensures ∙ c.in-Rest.is) c.receive-in-Rest.ensures.exchange)
