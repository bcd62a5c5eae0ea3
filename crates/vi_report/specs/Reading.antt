-- Reading a whole report, line by line.
use Rattle.std.specs.Prelude.{ℕ, zero, suc, ◌+◌, ◌==◌, if◌then◌else◌, List, [], ◌∷◌, length, codes, Result, Ok, Err, ok_or}
use Rattle.vi_history.specs.declared.entry.Entry.{Entry}
use Rattle.vi_history.specs.declared.outcome.Outcome.{Outcome}
use Rattle.vi_history.specs.declared.outcome.Shown.{Shown}
use Rattle.vi_report.specs.Lines.{after, head_at, entry_at, faults_at, record_at}

-- the next step, with what the step before it read; else the number of the first line that doesn't fit
infixl 10 ◌>>=◌
abbrev pub ◌>>=◌ : {A B : Type 0} → Result A ℕ → (A → Result B ℕ) → Result B ℕ
(Ok x) >>= f = f x
(Err line) >>= f = Err line

-- the lines of this many entries, the first of which has this number; entry n stands in line n + 1
unfoldable pub entries_at : ℕ → ℕ → List ℕ → Result (List Entry × List ℕ) ℕ
entries_at zero number bytes = Ok ([], bytes)
entries_at (suc left) number bytes = do
  first ← ok_or (entry_at number bytes) (number + 1)
  others ← entries_at left (number + 1) first.1
  Ok (first.0 ∷ others.0, others.1)

-- the lines of this many delivered records, from this line on, in a report of `count` entries
unfoldable pub records_at : ℕ → ℕ → ℕ → List ℕ → Result (List Shown × List ℕ) ℕ
records_at zero count line bytes = Ok ([], bytes)
records_at (suc left) count line bytes = do
  first ← ok_or (record_at count bytes) line
  others ← records_at left count (line + 1) first.1
  Ok (first.0 ∷ others.0, others.1)

-- the outcome whose report these bytes are, or the number of the first line that doesn't fit
unfoldable pub read_report : List ℕ → Result Outcome ℕ
read_report bytes = do
  count ← ok_or (head_at bytes) 1
  entries ← entries_at count.0 1 count.1
  faults ← ok_or (faults_at entries.1) (count.0 + 2)
  shown ← records_at faults.0.shown count.0 (count.0 + 3) faults.1
  rest ← ok_or (after (codes "end\n") shown.1) (count.0 + faults.0.shown + 3)
  if length rest == 0 then Ok (record { entries = entries.0; shown = shown.0; dropped = faults.0.dropped }) else Err (count.0 + faults.0.shown + 4)
