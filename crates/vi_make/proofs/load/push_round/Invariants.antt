use Rattle.std.proofs.Common.{◌≡◌, ◌++◌}
use Rattle.std.specs.List.{flat_map, range_with_len}
use Rattle.std.specs.String.{string_bytes}
use Rattle.vi_make.specs.LoadScript.{turn_lines}
use Rattle.vi_make.proofs.load.push_round.Given as goal

abbrev pub invariant-loop-driver : goal.invariant-loop-driver
invariant-loop-driver l = string_bytes l.out ≡ string_bytes l.initial.out ++ flat_map (λ driver. turn_lines l.round driver) (range_with_len 0 l.driver)
