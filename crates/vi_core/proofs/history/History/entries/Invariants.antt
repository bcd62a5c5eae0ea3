use Rattle.std.proofs.Common.{◌≡◌, take, map}
use Rattle.vi_core.specs.Histories.{entry_in}
use Rattle.vi_core.proofs.history.History.entries.Given as goal

abbrev pub invariant-loop-kept : goal.invariant-loop-kept
invariant-loop-kept l = l.entries.items ≡ map (entry_in l.self-inside.bytes.items) (take l.kept-index l.self-inside.kept.items)
