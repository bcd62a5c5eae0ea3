-- A run's history as it grows, with room for more.
use Rattle.std.specs.Prelude.{ℕ, ◌+◌, ◌-◌, ◌≤◌, List, [], ◌∷◌, ◌++◌, length, take, drop}
use Rattle.vi_history.specs.declared.entry.Entry.{Entry}
use Rattle.vi_core.specs.declared.history.Kept.{Kept}

-- the entries in order, and for how many more entries and how many more bytes of theirs there is room
pub record HistoryValue : Type 0 where
  pub entries : List Entry
  pub spare_entries : ℕ
  pub spare_bytes : ℕ

-- no entry, and room for so many entries with so many bytes
abbrev pub no_entries : ℕ → ℕ → HistoryValue
no_entries entries bytes = record { entries = []; spare_entries = entries; spare_bytes = bytes }

-- one more entry behind the others, which takes its part of the room
abbrev pub pushed : Entry → HistoryValue → HistoryValue
pushed e h = record h { entries = h.entries ++ e ∷ []; spare_entries = h.spare_entries - 1; spare_bytes = h.spare_bytes - length e.bytes }

-- an entry whose bytes are kept among these
abbrev pub entry_in : List ℕ → Kept → Entry
entry_in bytes k = record { mark = k.mark; bytes = take k.len (drop k.from bytes) }

-- the bytes of an entry end among so many
abbrev pub EndsWithin : ℕ → Kept → Type 0
EndsWithin count k = k.from + k.len ≤ count
