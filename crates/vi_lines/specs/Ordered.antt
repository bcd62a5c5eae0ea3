-- Whole histories in order: every caller's lines, each once, block by block and batch by batch.
use Rattle.std.specs.Prelude.{◌≡◌, ℕ, zero, suc, ◌+◌, ◌<◌, true, false, List, [], ◌∷◌, ◌++◌, length, map, IsSome, slice_get, Some, Contains, IsPermutation}
use Rattle.std.specs.List.{range_with_len}
use Rattle.std.specs.List.Sorted.{IsNonDecreasing}
use Rattle.vi_history.specs.declared.call.Caller.TheVariants.{Driver, Back}
use Rattle.vi_history.specs.declared.entry.Entry.{Entry}
use Rattle.vi_lines.specs.Value.{ScriptValue}
use Rattle.vi_lines.specs.Calls.{lines_of, call_of, awaits_of}
use Rattle.vi_lines.specs.Order.{entries_of, ends_block, batch_of}

-- a back end's line's entries from this part on: the parts in order, ending after the last part or after the
-- first fault
abbrev pub IsBlockFrom : ScriptValue → ℕ → ℕ → List Entry → Type 0
IsBlockFrom s line part [] = ⊥
IsBlockFrom s line part (h ∷ []) = (h.mark.line ≡ line) × (h.mark.part ≡ part) × (ends_block s h ≡ true)
IsBlockFrom s line part (h ∷ i ∷ hs) = (h.mark.line ≡ line) × (h.mark.part ≡ part) × (ends_block s h ≡ false) × IsBlockFrom s line (part + 1) (i ∷ hs)

-- the blocks of so many lines from this one on, with nothing between or after
abbrev pub AreBlocks : ScriptValue → ℕ → ℕ → List Entry → Type 0
AreBlocks s line zero entries = entries ≡ []
AreBlocks s line (suc more) entries =
    (block : List Entry) × (rest : List Entry) × (entries ≡ block ++ rest) × IsBlockFrom s line 1 block × AreBlocks s (line + 1) more rest

-- the lines that a driver's entries are of, in the history's order
abbrev pub entered_lines : ℕ → List Entry → List ℕ
entered_lines number entries = map (λ h. h.mark.line) (entries_of (Driver number) entries)

-- each line of the driver has one entry, and they stand batch after batch
pub record AreBatches (s : ScriptValue) (number : ℕ) (entries : List Entry) : Type 0 where
  pub once : IsPermutation (entered_lines number entries) (range_with_len 1 (length (lines_of s (Driver number))))
  pub batches : IsNonDecreasing (map (λ line. batch_of s (Driver number) line) (entered_lines number entries))

-- The history is in order: each entry answers a call of the script; the entries of each back end are the
-- blocks of all its lines in order; those of each driver are its lines, batch after batch, each once; and
-- where a line awaits another, each entry of the awaited line stands before each entry of the awaiting one.
pub record IsOrdered (s : ScriptValue) (entries : List Entry) : Type 0 where
  pub known : (i : ℕ) (h : Entry) → slice_get entries i ≡ Some h → IsSome (call_of s h.mark.caller h.mark.line h.mark.part)
  pub backs : (endpoint : ℕ) → AreBlocks s 1 (length (lines_of s (Back endpoint))) (entries_of (Back endpoint) entries)
  pub drivers : (number : ℕ) → AreBatches s number entries
  pub awaits : (i j : ℕ) (awaited awaiting : Entry) → slice_get entries i ≡ Some awaited → slice_get entries j ≡ Some awaiting
      → Contains (awaits_of s awaiting.mark.caller awaiting.mark.line) (record { caller = awaited.mark.caller; line = awaited.mark.line }) → i < j
