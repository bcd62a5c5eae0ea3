use Rattle.std.proofs.Common.{◌≡◌, drop}
use Rattle.vi_cache.specs.Caches.{cached_at}
use Rattle.vi_cache.proofs.entries.place_of.Given as goal

abbrev pub invariant-loop-at : goal.invariant-loop-at
invariant-loop-at l = cached_at l.page (drop l.at l.entries) ≡ cached_at l.page l.entries
