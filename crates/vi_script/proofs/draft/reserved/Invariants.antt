use Rattle.std.proofs.Common.{◌≡◌}
use Rattle.std.specs.Prelude.{map}
use Rattle.vi_script.specs.Said.{reserved_if}
use Rattle.vi_script.proofs.draft.reserved.Given as goal

abbrev pub invariant-loop-endpoint : goal.invariant-loop-endpoint
invariant-loop-endpoint l = l.more.items ≡ map (λ e. reserved_if l.id l.region e) l.yielded
