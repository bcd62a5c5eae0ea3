use Rattle.std.proofs.Common.{◌≡◌, ◌++◌}
use Rattle.std.specs.List.{flat_map, range_with_len}
use Rattle.std.specs.String.{string_bytes}
use Rattle.vi_make.specs.LoadScript.{round_lines}
use Rattle.vi_make.proofs.load.make.Given as goal

abbrev pub invariant-loop-round : goal.invariant-loop-round
invariant-loop-round l = string_bytes l.out ≡ string_bytes l.initial.out ++ flat_map (λ round. round_lines round) (range_with_len 0 l.round)
