use Rattle.std.proofs.Common.{◌≡◌, map, drop}
use Rattle.vi_history.specs.declared.call.Caller.TheVariants.{Back}
use Rattle.vi_check.specs.Seen.{first_missing_in}
use Rattle.vi_check.proofs.progress.Progress.missing_of_backs.Given as goal

abbrev pub invariant-loop-endpoint : goal.invariant-loop-endpoint
invariant-loop-endpoint l =
    first_missing_in l.script l.self (map (λ e. Back e.id) (drop l.endpoint-index l.endpoint-items))
    ≡ first_missing_in l.script l.self (map (λ e. Back e.id) l.endpoint-items)
