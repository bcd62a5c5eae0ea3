use Rattle.std.proofs.Common.{◌≡◌, ◌-◌, map}
use Rattle.std.specs.List.{range_with_len}
use Rattle.vi_history.specs.declared.call.Caller.TheVariants.{Driver}
use Rattle.vi_check.specs.Seen.{first_missing_in}
use Rattle.vi_check.proofs.progress.Progress.missing_of_drivers.Given as goal

abbrev pub invariant-loop-number : goal.invariant-loop-number
invariant-loop-number l =
    first_missing_in l.script l.self (map (λ number. Driver number) (range_with_len l.number (8 - l.number)))
    ≡ first_missing_in l.script l.self (map (λ number. Driver number) (range_with_len 0 8))
