use Rattle.std.proofs.Common.{◌≡◌, replicate}
use Rattle.vi_history.specs.Start.{zero_page}
use Rattle.vi_plain.proofs.plain.Plain.new.Given as goal

abbrev pub invariant-loop-page : goal.invariant-loop-page
invariant-loop-page l = l.memory.items ≡ replicate l._page zero_page
