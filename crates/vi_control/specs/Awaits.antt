-- Whom a call that starts waits for, and what these back ends are told.
use Rattle.std.specs.Prelude.{◌≡◌, ℕ, Bool, true, false, not, ◌&&◌, List, length, map, get_or, take, drop, Option}
use Rattle.std.specs.List.{list_all, range_with_len}
use Rattle.vi_bytes.specs.declared.span.Span.{Span}
use Rattle.vi_history.specs.Device.{Dev}
use Rattle.vi_grants.specs.Rows.{GrantRow, row_at}
use Rattle.vi_model.specs.declared.task.Task.{Task}
use Rattle.vi_model.specs.Tasks.{removes}
use Rattle.vi_model.specs.Lanes.{Lanes}
use Rattle.vi_model.specs.Control.{no_lanes}
use Rattle.vi_model.specs.Removals.{must_wait}
use Rattle.vi_model.specs.Starts.{told, any}
use Rattle.vi_shoot.specs.declared.waiting.Waiting.{Waiting}

-- the back end at a place has to be waited for
abbrev pub stands_in_way : Dev → List ℕ → List GrantRow → Task → ℕ → Bool
stands_in_way dev ids grants task place = must_wait dev task (get_or ids place 0) (row_at grants place).grants

-- who has to be, by place
abbrev pub awaited_in : Dev → List ℕ → List GrantRow → Task → List Bool
awaited_in dev ids grants task = map (stands_in_way dev ids grants task) (range_with_len 0 (length ids))

-- a removal begins: the task takes translations away, and somebody has to be waited for
abbrev pub must_begin : Dev → List ℕ → List GrantRow → Task → Bool
must_begin dev ids grants task = removes dev task && any (awaited_in dev ids grants task)

-- of 16 flags the first ones are these, and no other is up
pub record HasFlags (waits : Waiting) (flags : List Bool) : Type 0 where
  pub first : take (length flags) waits.0 ≡ flags
  pub others : list_all not (drop (length flags) waits.0) ≡ true

-- the lanes of a back end, with an Invalidate if its flag is up
abbrev pub told_at : List Bool → Option Span → List Lanes → ℕ → Lanes
told_at flags reach mail place = let x : Lanes = get_or mail place no_lanes in record x { down = told (get_or flags place false) reach x.down }

-- and of all
abbrev pub told_all : List Bool → Option Span → List Lanes → List Lanes
told_all flags reach mail = map (told_at flags reach mail) (range_with_len 0 (length mail))
