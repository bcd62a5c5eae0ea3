use Rattle.std.proofs.Common.{◌≤◌, ◌<◌, ◌+◌, length, arith}
use Rattle.vi_script.specs.Said.{says}
use Rattle.vi_script.specs.Stated.{stated}
use Rattle.vi_script.proofs.FieldLemmas.{LinesFit-says}
use Rattle.vi_script.proofs.ReadingLemmas.{taken-within, says_lines}
use Rattle.vi_script.proofs.reading.said.Goals as goal

pub with-requires-clause-within : goal.with-requires-clause-within
with-requires-clause-within c = (taken-within c.args.draft c.args.number (stated c.in_ok-statement.statement) _ c.in_ok-judge.ensures).0

pub with-requires-clause-room : goal.with-requires-clause-room
with-requires-clause-room c =
    let few = (taken-within c.args.draft c.args.number (stated c.in_ok-statement.statement) _ c.in_ok-judge.ensures).1 in
    let below : length c.args.draft.lines < c.args.number = c.requires.lines in
    omega arith

pub returns-clause-few : goal.returns-clause-few
returns-clause-few c = (taken-within c.args.draft c.args.number (stated c.in_ok-statement.statement) _ c.in_ok-judge.ensures).1

pub returns-clause-lines : goal.returns-clause-lines
returns-clause-lines c =
    let below : length c.args.draft.lines < c.args.number = c.requires.lines in
    let one : length (says c.args.draft (stated c.in_ok-statement.statement)).lines ≤ length c.args.draft.lines + 1 = says_lines c.args.draft (stated c.in_ok-statement.statement) in
    rw c.in_ok-with.ensures (omega arith)

pub returns-clause-fields : goal.returns-clause-fields
returns-clause-fields c = rw c.in_ok-with.ensures (LinesFit-says c.args.draft (stated c.in_ok-statement.statement) c.requires.fields c.in_ok-statement.ensures.fields)
