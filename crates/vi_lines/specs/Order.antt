-- Which call may come next: each caller's calls in its order, and every call after those that it awaits.
use Rattle.std.specs.Prelude.{◌≡◌, ◌==◌, ℕ, ◌+◌, ◌-◌, ◌<◌, ◌≤◌, Bool, not, ◌&&◌, ◌||◌, if◌then◌else◌, List, [], ◌∷◌, ◌++◌, take, filter, count_by, All, IsTrue, IsSome}
use Rattle.std.specs.List.{list_any}
use Rattle.vi_history.specs.declared.call.Caller.{Caller}
use Rattle.vi_history.specs.declared.call.Caller.TheVariants.{Driver, Back}
use Rattle.vi_history.specs.declared.entry.Entry.{Entry}
use Rattle.vi_history.specs.Kinds.{is_fault}
use Rattle.vi_lines.specs.declared.line.Await.{Await}
use Rattle.vi_lines.specs.Value.{ScriptValue}
use Rattle.vi_lines.specs.Calls.{same_caller, lines_of, call_of, awaits_of, part_count_of}

-- the entries of a caller, in the history's order
abbrev pub entries_of : Caller → List Entry → List Entry
entries_of caller entries = filter (λ h. same_caller h.mark.caller caller) entries

-- the entry ends its line's block: it is a fault, or of the line's last part
abbrev pub ends_block : ScriptValue → Entry → Bool
ends_block s h = is_fault h.mark.kind || (h.mark.part == part_count_of s h.mark.caller h.mark.line)

-- the block of this line is whole: an entry that ends it is there
abbrev pub is_whole : ScriptValue → List Entry → Await → Bool
is_whole s entries a = list_any (λ h. same_caller h.mark.caller a.caller && (h.mark.line == a.line) && ends_block s h) entries

-- how many entries the caller's line has
abbrev pub entries_at : Caller → ℕ → List Entry → ℕ
entries_at caller line entries = count_by (λ h. same_caller h.mark.caller caller && (h.mark.line == line)) entries

-- The lines of a driver fall into batches: a line that isn't an `add` line, with the `add` lines directly
-- before it. A line's batch, counted from 0, is the number of lines before it that end one.
abbrev pub batch_of : ScriptValue → Caller → ℕ → ℕ
batch_of s caller line = count_by (λ l. not l.add) (take (line - 1) (lines_of s caller))

-- a line and a part
pub record Place : Type 0 where
  pub line : ℕ
  pub part : ℕ

-- a back end's next call after an entry: the next part, or the next line's first behind an entry that ends a block
abbrev pub place_after : ScriptValue → Entry → Place
place_after s h = if ends_block s h then record { line = h.mark.line + 1; part = 1 } else record { line = h.mark.line; part = h.mark.part + 1 }

-- a back end's next call after these entries of its own, from a place on
abbrev pub due_from : ScriptValue → Place → List Entry → Place
due_from s place [] = place
due_from s place (h ∷ hs) = due_from s (place_after s h) hs

-- a back end's next call in a history: at first its first line's first part
abbrev pub due_place : ScriptValue → Caller → List Entry → Place
due_place s caller entries = due_from s (record { line = 1; part = 1 }) (entries_of caller entries)

-- The call of this caller, line and part is due: a driver's where its line has no entry and every line of
-- its earlier batches has one; a back end's where it is the next one.
abbrev pub IsNext : ScriptValue → List Entry → Caller → ℕ → ℕ → Type 0
IsNext s before (Driver number) line part =
    (entries_at (Driver number) line before ≡ 0)
    × ((earlier : ℕ) → 1 ≤ earlier → batch_of s (Driver number) earlier < batch_of s (Driver number) line → 0 < entries_at (Driver number) earlier before)
IsNext s before (Back endpoint) line part = due_place s (Back endpoint) before ≡ record { line = line; part = part }

-- the entry may come after those before it: it answers a call of the script, which is due and whose
-- awaited lines' blocks are whole
pub record IsDue (s : ScriptValue) (before : List Entry) (h : Entry) : Type 0 where
  pub known : IsSome (call_of s h.mark.caller h.mark.line h.mark.part)
  pub next : IsNext s before h.mark.caller h.mark.line h.mark.part
  pub awaited : All (λ a. IsTrue (is_whole s before a)) (awaits_of s h.mark.caller h.mark.line)

-- each of the further entries may come after those before it
abbrev pub AreDue : ScriptValue → List Entry → List Entry → Type 0
AreDue s before [] = Unit {0}
AreDue s before (h ∷ hs) = IsDue s before h × AreDue s (before ++ h ∷ []) hs

-- the history is in order so far
abbrev pub IsOrderedSoFar : ScriptValue → List Entry → Type 0
IsOrderedSoFar s entries = AreDue s [] entries
