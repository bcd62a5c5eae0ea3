-- Which back ends a removal waits for: a flag for each place, true where the back end is waited for.
use Rattle.std.specs.Prelude.{ℕ, Bool, true, false, not, replicate, slice_index_or, slice_set}
use Rattle.std.specs.List.{list_all}
use Rattle.vi_shoot.specs.declared.waiting.Waiting.{Waiting}

-- no back end is waited for
abbrev pub nobody : Waiting
nobody = record { 0 = replicate 16 false }

abbrev pub is_nobody : Waiting → Bool
is_nobody waiting = list_all not waiting.0

-- the back end of this place is waited for
abbrev pub is_awaited : ℕ → Waiting → Bool
is_awaited place waiting = slice_index_or waiting.0 place false

-- this back end is waited for, too, or is no more
abbrev pub awaiting : ℕ → Waiting → Waiting
awaiting place waiting = record { 0 = slice_set waiting.0 place true }

abbrev pub not_awaiting : ℕ → Waiting → Waiting
not_awaiting place waiting = record { 0 = slice_set waiting.0 place false }
