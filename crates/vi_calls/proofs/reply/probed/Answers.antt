use Rattle.vi_calls.proofs.Replying.{answer_of-probed, AreAnswer-probed, status-put}
use Rattle.vi_calls.proofs.reply.probed.Goals as goal

pub returns-clause-answer : goal.returns-clause-answer
returns-clause-answer c =
    rw (c.copy_from_slice.ensures.after, status-put c.args.properties.now c.args.status c.told-properties) (answer_of-probed c.args.properties.now c.args.status c.told-properties)

pub returns-clause-whole : goal.returns-clause-whole
returns-clause-whole c =
    rw (c.copy_from_slice.ensures.after, status-put c.args.properties.now c.args.status c.told-properties) (AreAnswer-probed c.args.properties.now c.args.status c.told-properties)
