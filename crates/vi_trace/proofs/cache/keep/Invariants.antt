use Rattle.std.proofs.Common.{List, ◌++◌}
use Rattle.vi_trace.specs.Rules.{Kept, pages_kept}
use Rattle.vi_trace.specs.Steps.{IsCache}
use Rattle.vi_trace.proofs.cache.keep.Given as goal

abbrev pub invariant-loop-i : goal.invariant-loop-i
invariant-loop-i l = (kept : List Kept) → IsCache l.initial.cache kept → IsCache l.cache (pages_kept l.page l.i l.perm ++ kept)
