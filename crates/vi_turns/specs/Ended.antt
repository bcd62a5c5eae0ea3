-- What is known once the table was closed.
use Rattle.std.specs.Prelude.{◌≡◌, ℕ, List, ◌∷◌, map}
use Rattle.vi_history.specs.declared.entry.Entry.{Entry}
use Rattle.vi_log.specs.Logs.{Ticketed, LogValue, IsMerged}
use Rattle.vi_lines.specs.Value.{ScriptValue}
use Rattle.vi_lines.specs.Legal.{IsLegalHistory}
use Rattle.vi_lines.specs.Order.{IsOrderedSoFar}
use Rattle.vi_model.specs.Worlds.{World}
use Rattle.vi_model.specs.Playable.{IsPlayable}
use Rattle.vi_model.specs.Sound.{IsSound}
use Rattle.vi_control.specs.Plan.{plan_of}
use Rattle.vi_control.specs.Value.{ControlValue}
use Rattle.vi_turns.specs.Holding.{Taken, Last}
use Rattle.vi_turns.specs.Order.{Each, IsTaken}
use Rattle.vi_turns.specs.declared.slot.Slot.{Slot}
use Rattle.vi_turns.specs.declared.slot.Slot.TheVariants.{Control, Page}

-- a log of these entries
abbrev pub of_entries : List Ticketed → LogValue
of_entries entries = record { entries = entries; spare_entries = 0; spare_bytes = 0 }

-- the logs of a view: its own, and those of the passes that it took in
abbrev pub logs_of : Last → List LogValue
logs_of l = of_entries l.log ∷ map (λ (t : Taken). of_entries t.log) l.taken

-- the history has the entries of these logs at their tickets, and no others
abbrev pub IsHistory : Last → List Entry → Type 0
IsHistory l h = IsMerged (logs_of l) h

-- The tickets of all logs are 0, 1, 2 and so on, each once, and the entries are legal and in order so far.
pub record IsWhole (l : Last) : Type 0 where
  pub history : List Entry
  pub merged : IsHistory l history
  pub legal : IsLegalHistory l.script history
  pub ordered : IsOrderedSoFar l.script history

-- The control and the pages are those of a sound world of the script, whose history is that of the logs, and in which the
-- actor of each pass that ended has no leases and its progress.
pub record IsClosed (s : ScriptValue) (l : Last) (control : ControlValue) (pages : List (List ℕ)) : Type 0 where
  pub world : World
  pub playable : IsPlayable s
  pub sound : IsSound s world
  pub state : control.state ≡ world.control
  pub plan : control.plan ≡ plan_of s
  pub pages_are : pages ≡ world.pages
  pub history : IsHistory l world.history
  pub taken : Each (IsTaken s world) l.taken
  pub script : l.script ≡ s

-- the slots of some pages, and those of a control and of pages
abbrev pub page_slots : List (List ℕ) → List Slot
page_slots pages = map Page pages

abbrev pub shelf : ControlValue → List (List ℕ) → List Slot
shelf c pages = Control c ∷ page_slots pages

-- the slots are those of a control and of pages
pub record IsShelf (slots : List Slot) : Type 0 where
  pub control : ControlValue
  pub pages : List (List ℕ)
  pub slots_are : slots ≡ shelf control pages
