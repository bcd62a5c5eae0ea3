-- Logs of entries that drew tickets, and the history that they come to.
use Rattle.std.specs.Prelude.{◌≡◌, ◌==◌, ℕ, ◌+◌, ◌-◌, ◌≤◌, nat_lt, if◌then◌else◌, List, [], ◌∷◌, ◌++◌, Some, length, take, drop, set, replicate, slice_get, All, sum_by, count_by}
use Rattle.vi_history.specs.declared.call.Caller.TheVariants.{Driver}
use Rattle.vi_history.specs.declared.entry.Entry.{Entry}
use Rattle.vi_history.specs.declared.entry.Kind.TheVariants.{Nothing}
use Rattle.vi_log.specs.declared.log.Logged.{Logged}

-- an entry, and the place of the history that it was given
pub record Ticketed : Type 0 where
  pub ticket : ℕ
  pub entry : Entry

-- what contracts see of a log: its entries in the order in which they were pushed, and for how many more entries
-- and how many more bytes of theirs there is room
pub record LogValue : Type 0 where
  pub entries : List Ticketed
  pub spare_entries : ℕ
  pub spare_bytes : ℕ

-- no entry, and room for so many entries with so many bytes
abbrev pub no_entries : ℕ → ℕ → LogValue
no_entries entries bytes = record { entries = []; spare_entries = entries; spare_bytes = bytes }

-- one more entry behind the others, which takes its part of the room
abbrev pub pushed : Ticketed → LogValue → LogValue
pushed x log = record log { entries = log.entries ++ x ∷ []; spare_entries = log.spare_entries - 1; spare_bytes = log.spare_bytes - length x.entry.bytes }

-- the entry stands in the history at its ticket
abbrev pub Stands : List Entry → Ticketed → Type 0
Stands history x = slice_get history x.ticket ≡ Some x.entry

-- how many entries of some logs have this ticket
abbrev pub ticket_count : ℕ → List LogValue → ℕ
ticket_count ticket logs = sum_by (λ log. count_by (λ x. x.ticket == ticket) log.entries) logs

-- 1 below the number, else 0
abbrev pub once_below : ℕ → ℕ → ℕ
once_below ticket n = if nat_lt ticket n then 1 else 0

-- the tickets of the logs are 0 up to n, n excluded, each once
abbrev pub AreTicketed : ℕ → List LogValue → Type 0
AreTicketed n logs = (ticket : ℕ) → ticket_count ticket logs ≡ once_below ticket n

-- the history of these logs: each entry stands at its ticket, and the tickets are its places, each once
pub record IsMerged (logs : List LogValue) (history : List Entry) : Type 0 where
  pub stands : All (λ log. All (Stands history) log.entries) logs
  pub tickets : AreTicketed (length history) logs

-- logs have one history
abbrev pub MergedOnce : Type 0
MergedOnce = (logs : List LogValue) (h g : List Entry) → IsMerged logs h → IsMerged logs g → h ≡ g

-- an entry whose bytes are kept among these
abbrev pub entry_in : List ℕ → Logged → Ticketed
entry_in bytes x = record { ticket = x.ticket; entry = record { mark = x.mark; bytes = take x.len (drop x.from bytes) } }

-- the bytes of an entry end among so many
abbrev pub EndsWithin : ℕ → Logged → Type 0
EndsWithin count x = x.from + x.len ≤ count

-- what stands at a place until its entry comes
abbrev pub blank : Entry
blank = record { mark = record { caller = Driver 0; line = 0; part = 0; kind = Nothing; code = 0 }; bytes = [] }

-- the history with blanks behind it up to the place
abbrev pub filled : List Entry → ℕ → List Entry
filled history place = history ++ replicate (place - length history) blank

-- the history with the entry at its ticket: in the place of what stands there, or behind blanks up to there
abbrev pub placed : List Entry → Ticketed → List Entry
placed history x = if nat_lt x.ticket (length history) then set history x.ticket x.entry else filled history x.ticket ++ x.entry ∷ []
