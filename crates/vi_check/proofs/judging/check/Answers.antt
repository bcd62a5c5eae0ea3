use Rattle.std.proofs.Common.{[], sym, ap, subst, ◌∙◌}
use Rattle.vi_lines.specs.Value.{ScriptValue}
use Rattle.vi_check.specs.Faults.{bad_faults}
use Rattle.vi_check.specs.Seen.{Seen, FitsScript, Walked}
use Rattle.vi_check.specs.Verdicts.{first_finding}
use Rattle.vi_check.proofs.SeenLemmas.{FitsScript-seen}
use Rattle.vi_check.proofs.WalkLemmas.{seen_in_walked}
use Rattle.vi_check.proofs.VerdictLemmas.{records_of-rising, missing_walked, records_walked, verdict-finding, verdict-missing, verdict-faults, verdict-legal}
use Rattle.vi_check.proofs.judging.check.Goals as goal

pub returns-in-Some : goal.returns-in-Some
returns-in-Some c =
    let s = c.args.script.now in
    let found = sym c.in-Some.is ∙ (c.in_ok-found.ensures.found ∙ ap (λ hs. first_finding s [] hs) c.as_slice.ensures) in
    record { verdict = verdict-finding s c.args.report.now c.in-Some.found found }

pub first_missing-requires : goal.first_missing-requires
first_missing-requires c =
    let s = c.args.script.now in
    let walked = c.in_ok-found.ensures.walked c.in_default.is in
    let seen = ap (λ (w : Walked). w.seen) walked ∙ seen_in_walked s c.as_slice.result.now in
    subst (λ (x : Seen). FitsScript s x) (sym seen) (FitsScript-seen s c.as_slice.result.now c.requires.valid)

pub returns-in-Some-first_missing : goal.returns-in-Some-first_missing
returns-in-Some-first_missing c =
    let s = c.args.script.now in
    let found = sym c.in_default.is ∙ (c.in_ok-found.ensures.found ∙ ap (λ hs. first_finding s [] hs) c.as_slice.ensures) in
    let missing = missing_walked s c.args.report.now.entries c.as_slice.result.now c.first_finding.new.self (c.in_ok-found.ensures.walked c.in_default.is) c.as_slice.ensures in
    record { verdict = verdict-missing s c.args.report.now c.in-Some-first_missing.missing found (c.in-Some-first_missing.ensures ∙ missing) }

pub bad_faults-requires-clause-rising : goal.bad_faults-requires-clause-rising
bad_faults-requires-clause-rising c =
    let s = c.args.script.now in
    let entries = c.args.report.now.entries in
    let records = c.records.ensures ∙ records_walked s entries c.as_slice.result.now c.first_finding.new.self (c.in_ok-found.ensures.walked c.in_default.is) c.as_slice.ensures in
    rw records (records_of-rising s entries)

pub returns-in-Some-bad_faults : goal.returns-in-Some-bad_faults
returns-in-Some-bad_faults c =
    let s = c.args.script.now in
    let o = c.args.report.now in
    let found = sym c.in_default.is ∙ (c.in_ok-found.ensures.found ∙ ap (λ hs. first_finding s [] hs) c.as_slice.ensures) in
    let missing = missing_walked s o.entries c.as_slice.result.now c.first_finding.new.self (c.in_ok-found.ensures.walked c.in_default.is) c.as_slice.ensures in
    let records = c.records.ensures ∙ records_walked s o.entries c.as_slice.result.now c.first_finding.new.self (c.in_ok-found.ensures.walked c.in_default.is) c.as_slice.ensures in
    let faults = ap (λ (v : ScriptValue). bad_faults v.setup.queue c.records.result.now o) c.script.view_is ∙ ap (λ rs. bad_faults s.setup.queue rs o) records in
    record { verdict = verdict-faults s o c.in-Some-bad_faults.at found (c.in_default-first_missing.ensures ∙ missing) (c.in-Some-bad_faults.ensures ∙ faults) }

pub returns : goal.returns
returns c =
    let s = c.args.script.now in
    let o = c.args.report.now in
    let found = sym c.in_default.is ∙ (c.in_ok-found.ensures.found ∙ ap (λ hs. first_finding s [] hs) c.as_slice.ensures) in
    let missing = missing_walked s o.entries c.as_slice.result.now c.first_finding.new.self (c.in_ok-found.ensures.walked c.in_default.is) c.as_slice.ensures in
    let records = c.records.ensures ∙ records_walked s o.entries c.as_slice.result.now c.first_finding.new.self (c.in_ok-found.ensures.walked c.in_default.is) c.as_slice.ensures in
    let faults = ap (λ (v : ScriptValue). bad_faults v.setup.queue c.records.result.now o) c.script.view_is ∙ ap (λ rs. bad_faults s.setup.queue rs o) records in
    record { verdict = verdict-legal s o found (c.in_default-first_missing.ensures ∙ missing) (c.in-None.ensures ∙ faults) }
