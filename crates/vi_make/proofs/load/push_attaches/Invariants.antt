use Rattle.std.proofs.Common.{◌≡◌, ◌++◌}
use Rattle.std.specs.List.{flat_map, range_with_len}
use Rattle.std.specs.String.{string_bytes}
use Rattle.vi_make.specs.LoadScript.{attach_line}
use Rattle.vi_make.proofs.load.push_attaches.Given as goal

abbrev pub invariant-loop-driver : goal.invariant-loop-driver
invariant-loop-driver l = string_bytes l.out ≡ string_bytes l.initial.out ++ flat_map (λ driver. attach_line driver) (range_with_len 0 l.driver)
