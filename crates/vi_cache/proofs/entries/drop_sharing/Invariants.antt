use Rattle.std.proofs.Common.{◌≡◌, ◌≤◌, ◌++◌, length, take, drop}
use Rattle.vi_cache.specs.Caches.{apart}
use Rattle.vi_cache.proofs.entries.drop_sharing.Given as goal

abbrev pub invariant-loop-at : goal.invariant-loop-at
invariant-loop-at l = (l.at ≤ length l.fn.entries.items) × (l.entries.items ≡ take l.at l.fn.entries.items ++ apart l.lease (drop l.at l.fn.entries.items))
