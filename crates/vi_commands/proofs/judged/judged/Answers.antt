use Rattle.std.proofs.Common.{◌≡◌, subst, MatchResult, Result, Ok}
use Rattle.vi_script.specs.Parsing.{Faults}
use Rattle.vi_script.specs.Texts.{Bad}
use Rattle.vi_lines.specs.Value.{ScriptValue}
use Rattle.vi_commands.proofs.JudgedLemmas.{script_cut, script_uncut}
use Rattle.vi_commands.proofs.judged.judged.Goals as goal

pub returns-in-Some-clause-read : goal.returns-in-Some-clause-read
returns-in-Some-clause-read c =
    subst (λ (r : Result ScriptValue Bad). MatchResult c.parse.result (λ s. r ≡ Ok s) (λ e. Faults e r)) (script_cut c.args.input.now c.in-Some.parts.script.now c.in-Some.parts.report.now c.in-Some.ensures) c.parse.ensures.read

pub returns-in-None-clause-read : goal.returns-in-None-clause-read
returns-in-None-clause-read c =
    subst (λ (r : Result ScriptValue Bad). MatchResult c.unreported.result (λ s. r ≡ Ok s) (λ e. Faults e r)) (script_uncut c.args.input.now c.in-None.ensures) c.unreported.ensures.read
