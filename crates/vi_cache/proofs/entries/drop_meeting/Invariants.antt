use Rattle.std.proofs.Common.{◌≡◌, ◌≤◌, ◌++◌, length, take, drop}
use Rattle.vi_cache.specs.Caches.{untouched}
use Rattle.vi_cache.proofs.entries.drop_meeting.Given as goal

abbrev pub invariant-loop-at : goal.invariant-loop-at
invariant-loop-at l = (l.at ≤ length l.fn.entries.items) × (l.entries.items ≡ take l.at l.fn.entries.items ++ untouched l.span (drop l.at l.fn.entries.items))
