use Rattle.std.proofs.Common.{◌≡◌, replicate}
use Rattle.vi_memory.proofs.pages.zero_pages.Given as goal

abbrev pub invariant-loop-page : goal.invariant-loop-page
invariant-loop-page l = l.pages.items ≡ replicate l._page (replicate 4096 0)
