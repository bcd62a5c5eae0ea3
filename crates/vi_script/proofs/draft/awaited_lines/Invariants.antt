use Rattle.std.proofs.Common.{◌≡◌, take}
use Rattle.std.specs.Prelude.{map}
use Rattle.vi_script.specs.Names.{await_kept}
use Rattle.vi_script.proofs.draft.awaited_lines.Given as goal

abbrev pub invariant-loop-name : goal.invariant-loop-name
invariant-loop-name l = l.awaits.items ≡ map await_kept (take l.name-index l.names)
