-- What is known of every legal history, and of every one in order.
use Rattle.std.specs.Prelude.{◌↔◌, List}
use Rattle.vi_history.specs.declared.entry.Entry.{Entry}
use Rattle.vi_lines.specs.Value.{ScriptValue}
use Rattle.vi_lines.specs.Valid.{IsValid}
use Rattle.vi_lines.specs.Legal.{IsLegalHistory}
use Rattle.vi_lines.specs.Order.{IsOrderedSoFar}
use Rattle.vi_lines.specs.Ordered.{IsOrdered}
use Rattle.vi_order.specs.Finished.{IsFinished}
use Rattle.vi_order.specs.Unmapped.{FaultsBehindUnmaps}

-- a history is in order, block by block and batch by batch, exactly where each of its entries was due in its place and
-- no call is left
abbrev pub IsOrderedOneByOne : Type 0
IsOrderedOneByOne = (s : ScriptValue) (entries : List Entry) → IsValid s → IsOrdered s entries ↔ (IsOrderedSoFar s entries × IsFinished s entries)

-- in a legal history no access goes through what an UNMAP removed
abbrev pub UnmapsHold : Type 0
UnmapsHold = (s : ScriptValue) (entries : List Entry) → IsLegalHistory s entries → FaultsBehindUnmaps s entries
