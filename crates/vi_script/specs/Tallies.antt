-- What lines so far count.
use Rattle.std.specs.Prelude.{◌≡◌, ℕ, ◌+◌, max, ◌≤◌, nat_le, nat_lt, Bool, true, if◌then◌else◌, List, [], ◌∷◌, length, filter, map, get_or, set}
use Rattle.std.specs.List.{list_all, range_with_len}
use Rattle.vi_history.specs.declared.call.Caller.{Caller}
use Rattle.vi_history.specs.declared.call.Caller.TheVariants.{Driver, Back}
use Rattle.vi_lines.specs.declared.line.Line.{Line}
use Rattle.vi_script.specs.declared.tally.Batch.{Batch}
use Rattle.vi_script.specs.declared.tally.Tally.TheInside.{Inside}
use Rattle.vi_lines.specs.Calls.{same_caller}
use Rattle.vi_lines.specs.Index.{AreRows}
use Rattle.vi_lines.specs.Limits.{bytes_in, longest_batch}

-- how many lines the open batch has behind so many and these
abbrev pub open_batch_from : ℕ → List Line → ℕ
open_batch_from before [] = before
open_batch_from before (l ∷ ls) = open_batch_from (if l.add then before + 1 else 0) ls

-- the batches of a caller
abbrev pub batch_of : List Line → Caller → Batch
batch_of lines caller = record { current = open_batch_from 0 (filter (λ l. same_caller l.caller caller) lines); longest = longest_batch lines caller }

-- the batches of the eight drivers
abbrev pub table : List Line → List Batch
table lines = map (λ number. batch_of lines (Driver number)) (range_with_len 0 8)

-- batches with one more line behind them
abbrev pub grown : Bool → Batch → Batch
grown add b = record { current = if add then b.current + 1 else 0; longest = max b.longest (b.current + 1) }

abbrev pub no_batch : Batch
no_batch = record { current = 0; longest = 0 }

-- the batches of all drivers with one more line of a caller
abbrev pub grown_table : Caller → Bool → List Batch → List Batch
grown_table (Driver number) add batches = set batches number (grown add (get_or batches number no_batch))
grown_table (Back id) add batches = batches

-- a caller that there can be: a driver from 0 to 7, or a back end with an id of 32 bits
abbrev pub is_caller : Caller → Bool
is_caller (Driver number) = nat_le number 7
is_caller (Back id) = nat_lt id 4294967296

abbrev pub have_callers : List Line → Bool
have_callers lines = list_all (λ l. is_caller l.caller) lines

-- the counts are those of the lines
pub record IsTally (t : Inside) : Type 0 where
  pub rows : AreRows t.lines.items t.rows.items
  pub bytes : t.transferred ≡ bytes_in t.lines.items
  pub batches : t.batches ≡ table t.lines.items
  pub callers : have_callers t.lines.items ≡ true
  pub few : length t.lines.items ≤ 10000
  pub within : t.transferred ≤ 16777216
