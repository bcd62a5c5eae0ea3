use Rattle.std.proofs.Common.{◌≡◌, ◌∷◌, get_or}
use Rattle.vi_cache.proofs.Lists.{shifted}
use Rattle.vi_cache.proofs.entries.shift_to_front.Given as goal

abbrev pub invariant-loop-place : goal.invariant-loop-place
invariant-loop-place l = record {
  entries : l.entries ≡ shifted l.found l.fn.entries l.place;
  carried : l.carried ≡ get_or (l.found ∷ l.fn.entries) l.place l.found;
}
