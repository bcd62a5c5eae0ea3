use Rattle.vi_make.proofs.ScriptLemmas.{accepted, text_lines, caller_lines}
use Rattle.vi_make.proofs.laws.load_script_is_accepted.Goals as goal

pub returns-clause-accepted : goal.returns-clause-accepted
returns-clause-accepted c = accepted

pub returns-clause-text_lines : goal.returns-clause-text_lines
returns-clause-text_lines c = text_lines

pub returns-clause-caller_lines : goal.returns-clause-caller_lines
returns-clause-caller_lines c = caller_lines
