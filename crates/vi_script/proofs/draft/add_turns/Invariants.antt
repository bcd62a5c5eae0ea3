use Rattle.std.proofs.Common.{◌≡◌, ◌++◌, take}
use Rattle.std.specs.Prelude.{map}
use Rattle.vi_script.specs.Names.{turn_kept}
use Rattle.vi_script.proofs.draft.add_turns.Given as goal

abbrev pub invariant-loop-name : goal.invariant-loop-name
invariant-loop-name l = l.turns.items ≡ l.initial.turns.items ++ map turn_kept (take l.name-index l.names)
