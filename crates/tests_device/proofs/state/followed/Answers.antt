use Rattle.tests_device.proofs.state.followed.Goals as goal

pub both-requires-4-clause-followed : goal.both-requires-4-clause-followed
both-requires-4-clause-followed c = c.requires.bytes c.both-3.new.plain
