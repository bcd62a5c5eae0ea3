-- A copy of the memory that follows a history has the memory of the one-thread device.
use Rattle.std.specs.Prelude.{◌≡◌, List, length}
use Rattle.vi_history.specs.Histories.{after, IsLegal}
use Rattle.vi_history.specs.declared.call.Call.{Call}
use Rattle.vi_history.specs.declared.entry.Entry.{Entry}
use Rattle.vi_dirty.specs.Tracked.{TrackerValue, fed_all, AreEqualBut}

-- Where a tracker was led through calls with their entries, it has the state of the one-thread device after these calls, and its
-- pages are all those in which the memory differs from that before them, which has as many pages. So a replica that was equal and
-- copies these pages is equal again, wherever the history is stopped.
abbrev pub ReplicasFollow : Type 0
ReplicasFollow = (t : TrackerValue) (calls : List Call) (entries : List Entry) → IsLegal t.one calls entries
    → ((fed_all t calls entries).one ≡ after t.one calls)
    × AreEqualBut (fed_all t calls entries).set t.one.memory (after t.one calls).memory
    × (length (after t.one calls).memory ≡ length t.one.memory)
