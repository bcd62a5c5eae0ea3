use Rattle.std.proofs.Common.{◌≡◌, fold, take}
use Rattle.vi_backend.specs.Own.{marked_by}
use Rattle.vi_backend.proofs.lines.mark_awaited.Given as goal

abbrev pub invariant-loop-a : goal.invariant-loop-a
invariant-loop-a l = l.awaited.items ≡ fold (marked_by l.caller) l.fn.awaited.items (take l.a-index l.awaits)
