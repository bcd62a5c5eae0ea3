-- The fault records of a report against those of its history.
use Rattle.std.specs.Prelude.{◌==◌, ℕ, ◌+◌, ◌<◌, Bool, false, ◌&&◌, nat_lt, if◌then◌else◌, List, [], ◌∷◌, length, take, Option, Some, None}
use Rattle.std.specs.List.{list_any, list_all}
use Rattle.std.specs.Option.{option_or}
use Rattle.std.specs.Str.{bytes_eq}
use Rattle.vi_history.specs.declared.outcome.Outcome.{Outcome}
use Rattle.vi_history.specs.declared.outcome.Shown.{Shown}

-- two records are of one entry, with the same bytes
abbrev pub same_shown : Shown → Shown → Bool
same_shown x y = (x.entry == y.entry) && bytes_eq x.bytes y.bytes

-- the record that may be there is this one
abbrev pub is_one : Shown → Option Shown → Bool
is_one x None = false
is_one x (Some r) = same_shown r x

-- the record is one of these
abbrev pub is_among : List Shown → Shown → Bool
is_among records x = list_any (λ r. same_shown r x) records

-- The first of the shown records, counted from this number, that isn't one of the history's, or whose entry number
-- doesn't rise above that of the record before it.
abbrev pub bad_record : List Shown → ℕ → ℕ → List Shown → Option ℕ
bad_record records at above [] = None
bad_record records at above (x ∷ xs) =
    if nat_lt above x.entry && is_among records x then bad_record records (at + 1) x.entry xs else Some at

-- the first n of the history's records are all shown, and those that aren't shown were counted as dropped
abbrev pub are_complete : ℕ → List Shown → Outcome → Bool
are_complete n records o =
    list_all (λ r. is_among o.shown r) (take n records) && (length o.shown + o.dropped == length records)

-- where the fault records go wrong: at a record line, or behind them
abbrev pub bad_faults : ℕ → List Shown → Outcome → Option ℕ
bad_faults n records o =
    option_or (bad_record records 1 0 o.shown) (if are_complete n records o then None else Some (length o.shown + 1))

-- the records are of entries with rising numbers, all above this one
abbrev pub IsRising : ℕ → List Shown → Type 0
IsRising above [] = Unit {0}
IsRising above (x ∷ xs) = (above < x.entry) × IsRising x.entry xs
