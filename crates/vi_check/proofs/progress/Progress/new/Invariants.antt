use Rattle.std.proofs.Common.{◌≡◌, false, length, map, replicate, take}
use Rattle.std.specs.List.{range_with_len}
use Rattle.vi_history.specs.declared.call.Caller.TheVariants.{Driver}
use Rattle.vi_lines.specs.Calls.{lines_of}
use Rattle.vi_check.proofs.progress.Progress.new.Given as goal

abbrev pub invariant-loop-number : goal.invariant-loop-number
invariant-loop-number l = l.drivers.items ≡ map (λ number. replicate (length (lines_of l.script (Driver number))) false) (range_with_len 0 l.number)

abbrev pub invariant-loop-endpoint : goal.invariant-loop-endpoint
invariant-loop-endpoint l = l.backs.items ≡ map (λ e. record { endpoint = e.id; line = 1; part = 1 }) (take l.endpoint-index l.endpoint-items)
