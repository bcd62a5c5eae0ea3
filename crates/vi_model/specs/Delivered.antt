-- The delivered records of a sound world, by the entries that they are of.
use Rattle.std.specs.Prelude.{◌-◌, List, get_or, map}
use Rattle.vi_history.specs.Records.{records, IsShownWell}
use Rattle.vi_history.specs.declared.call.Call.{Call}
use Rattle.vi_history.specs.declared.outcome.Shown.{Shown}
use Rattle.vi_lines.specs.Value.{ScriptValue}
use Rattle.vi_lines.specs.Legal.{AreCalls}
use Rattle.vi_model.specs.Worlds.{World}
use Rattle.vi_model.specs.Sound.{IsSound}

-- a record that is known by the number of its fault, as the record of the history that has this place
abbrev pub record_at : List Shown → Shown → Shown
record_at all x = get_or all (x.entry - 1) x

-- the delivered records, each with the number of its entry
abbrev pub delivered : World → List Call → List Shown
delivered w calls = map (record_at (records calls w.history)) w.control.events.shown

-- the delivered records of a sound world are shown well for its history
abbrev pub RecordsAreShownWell : Type 0
RecordsAreShownWell = (s : ScriptValue) (w : World) → IsSound s w
    → (calls : List Call) × AreCalls s w.history calls × IsShownWell s.setup.queue calls w.history (delivered w calls) w.control.events.dropped
