use Rattle.std.proofs.Common.{◌≡◌, ◌≤◌, ℕ, false, length, replicate, refl, ap, ◌∙◌, arith, take_all}
use Rattle.std.proofs.lemmas.List.FromFn.{map-range_with_len_more}
use Rattle.vi_history.specs.declared.call.Caller.TheVariants.{Driver}
use Rattle.vi_lines.specs.Calls.{lines_of}
use Rattle.vi_lines.specs.Value.{ScriptValue}
use Rattle.vi_check.proofs.progress.Progress.new.Goals as goal

pub loop-number-preserved : goal.loop-number-preserved
loop-number-preserved c =
    let n = c.loop-number.number in
    let more = map-range_with_len_more (λ (number : ℕ). replicate (length (lines_of c.args.script.now (Driver number))) false) 0 n n (omega arith) in
    rw (more, c.in_ok-push.ensures.items, c.loop-number.invariant, c.in_ok-none.ensures, c.count-count.ensures) refl

pub returns : goal.returns
returns c =
    let all : c.loop-number.number ≡ 8 = omega arith in
    let whole : length c.as_slice-endpoint-items.result.now ≤ c.loop-endpoint.endpoint-index = omega arith in
    let endpoints : c.as_slice-endpoint-items.result.now ≡ c.args.script.now.setup.endpoints =
    c.as_slice-endpoint-items.ensures ∙ ap (λ (v : ScriptValue). v.setup.endpoints) c.script.view_is in
    rw (c.loop-number.invariant, all, c.loop-endpoint.invariant, take_all, endpoints) refl
