use Rattle.std.proofs.Common.{◌≡◌, ◌++◌, length, take, codes, decimal}
use Rattle.std.specs.List.{flat_map}
use Rattle.std.specs.String.{string_bytes}
use Rattle.vi_dirty.proofs.rounds.push_pages.Given as goal

abbrev pub invariant-loop-page : goal.invariant-loop-page
invariant-loop-page l = string_bytes l.out ≡ string_bytes l.fn.out ++ decimal (length l.pages) ++ flat_map (λ page. codes " " ++ decimal page) (take l.page-index l.pages)
