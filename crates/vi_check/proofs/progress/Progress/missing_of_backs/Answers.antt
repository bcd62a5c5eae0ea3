use Rattle.std.proofs.Common.{◌+◌, List, map, drop, sym, ap, ◌∙◌, arith}
use Rattle.std.proofs.lemmas.List.{at_drop_all}
use Rattle.std.specs.Option.{option_or}
use Rattle.vi_bytes.specs.declared.region.EndpointSetup.{EndpointSetup}
use Rattle.vi_history.specs.declared.call.Caller.TheVariants.{Back}
use Rattle.vi_lines.specs.Value.{ScriptValue}
use Rattle.vi_check.specs.Seen.{first_missing_in}
use Rattle.vi_check.proofs.MissingLemmas.{backs_next}
use Rattle.vi_check.proofs.progress.Progress.missing_of_backs.Goals as goal

pub returns-in-Some : goal.returns-in-Some
returns-in-Some c =
    let s = c.args.script.now in
    let i = c.loop-endpoint.endpoint-index in
    let es = c.as_slice-endpoint-items.result.now in
    let rest = first_missing_in s c.args.self.now (map (λ e. Back e.id) (drop (i + 1) es)) in
    ap (λ o. option_or o rest) c.in-Some.ensures ∙ (sym (backs_next s c.args.self.now es i c.endpoint-item.result c.loop-endpoint-test.true c.endpoint-item.is)
    ∙ (c.loop-endpoint.invariant ∙ ap (λ (xs : List EndpointSetup). first_missing_in s c.args.self.now (map (λ e. Back e.id) xs)) (c.as_slice-endpoint-items.ensures ∙ ap (λ (v : ScriptValue). v.setup.endpoints) c.script.view_is)))

pub loop-endpoint-preserved : goal.loop-endpoint-preserved
loop-endpoint-preserved c =
    let s = c.args.script.now in
    let i = c.loop-endpoint.endpoint-index in
    let es = c.as_slice-endpoint-items.result.now in
    let rest = first_missing_in s c.args.self.now (map (λ e. Back e.id) (drop (i + 1) es)) in
    ap (λ o. option_or o rest) c.in_default.ensures ∙ (sym (backs_next s c.args.self.now es i c.endpoint-item.result c.loop-endpoint-test.true c.endpoint-item.is)
    ∙ c.loop-endpoint.invariant)

pub returns : goal.returns
returns c =
    let s = c.args.script.now in
    let es = c.as_slice-endpoint-items.result.now in
    sym (at_drop_all (λ (xs : List EndpointSetup). first_missing_in s c.args.self.now (map (λ e. Back e.id) xs)) es c.loop-endpoint.endpoint-index (omega arith))
    ∙ (c.loop-endpoint.invariant ∙ ap (λ (xs : List EndpointSetup). first_missing_in s c.args.self.now (map (λ e. Back e.id) xs)) (c.as_slice-endpoint-items.ensures ∙ ap (λ (v : ScriptValue). v.setup.endpoints) c.script.view_is))
