use Rattle.vi_calls.specs.Value.{taken_with}
use Rattle.vi_control.proofs.Answering.{reply-fits, settled-chain}
use Rattle.vi_control.proofs.answers.reply.Goals as goal

pub answer-requires-clause-fits : goal.answer-requires-clause-fits
answer-requires-clause-fits c =
    let token = rw c.in-Chain.is at c.requires.token in
    reply-fits c.properties_read_back.ensures.size c.args.device.now.dev (taken_with c.in-Chain.head c.args.calls.now) _ _ token c.reply_to_task-reply.ensures

pub returns-in-Chain-clause-calls : goal.returns-in-Chain-clause-calls
returns-in-Chain-clause-calls c =
    let token = rw c.in-Chain.is at c.requires.token in
    rw (c.in-Chain.is, c.answer.ensures, ← c.reply_to_task-reply.ensures) (settled-chain c.args.calls.now c.in-Chain.head _ _ token)
