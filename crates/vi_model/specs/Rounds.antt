-- Rounds: one turn of each actor, over and over, until every line is finished.
use Rattle.std.specs.Prelude.{◌≡◌, ℕ, zero, suc, ◌+◌, ◌*◌, Bool, true, ◌&&◌, nat_le, nat_lt, if◌then◌else◌, List, [], ◌∷◌, ◌++◌, length, map, filter, sum_by}
use Rattle.std.specs.List.{list_all, range_with_len}
use Rattle.vi_history.specs.declared.call.Caller.TheVariants.{Driver}
use Rattle.vi_lines.specs.declared.line.Line.{Line}
use Rattle.vi_lines.specs.declared.line.Who.{Who}
use Rattle.vi_lines.specs.declared.line.Who.TheVariants as who
use Rattle.vi_lines.specs.Value.{ScriptValue}
use Rattle.vi_lines.specs.Calls.{lines_of, parts_of}
use Rattle.vi_model.specs.Control.{driver_count}
use Rattle.vi_model.specs.Places.{ids_of, place_count, back_at}
use Rattle.vi_model.specs.Worlds.{World, stand_of, seat_of, opening}
use Rattle.vi_model.specs.Turns.{is_none, run}
use Rattle.vi_model.specs.Rooms.{is_back}
use Rattle.vi_model.specs.Playable.{IsPlayable}
use Rattle.vi_model.specs.Laws.{HasFinished}

-- the driver has submitted all its lines, and collected them
abbrev pub is_driver_finished : ScriptValue → World → ℕ → Bool
is_driver_finished s w driver = nat_le (length (lines_of s (Driver driver))) (stand_of w driver).submitted && is_none (stand_of w driver).open_lines

-- the back end has finished all its lines
abbrev pub is_back_finished : ScriptValue → World → ℕ → Bool
is_back_finished s w place = nat_le (length (lines_of s (back_at s place))) (seat_of w place).finished

-- every caller's lines are finished
unfoldable pub is_finished : ScriptValue → World → Bool
is_finished s w = list_all (is_driver_finished s w) (range_with_len 0 driver_count) && list_all (is_back_finished s w) (range_with_len 0 (place_count s))

abbrev pub has_lines : ScriptValue → ℕ → Bool
has_lines s driver = nat_lt 0 (length (lines_of s (Driver driver)))

-- the drivers that have lines, by number, and the back ends in declared order
abbrev pub drivers_of : ScriptValue → List Who
drivers_of s = map (λ number. who.Driver number) (filter (has_lines s) (range_with_len 0 driver_count))

abbrev pub backs_of : ScriptValue → List Who
backs_of s = map (λ id. who.Back id) (ids_of s)

-- whose turns a round has: the drivers', the back ends', the device's and, if there are event buffers, the reader's
unfoldable pub actors : ScriptValue → List Who
actors s = drivers_of s ++ (backs_of s ++ who.Device ∷ (if s.setup.events then who.Events ∷ [] else []))

-- the world after at most so many rounds: before each of them the run ends if every line is finished
abbrev pub rounds : ScriptValue → World → ℕ → World
rounds s w zero = w
rounds s w (suc n) = if is_finished s w then w else rounds s (run s w (actors s)) n

-- a driver's line is one call, and a back end's is a call for each part of its transfer
abbrev pub calls_in : Line → ℕ
calls_in l = if is_back l.caller then parts_of l.job else 1

-- how many calls the script has
unfoldable pub calls_of : ScriptValue → ℕ
calls_of s = sum_by (λ l. calls_in l) s.lines

-- Whatever turns are taken first, by whomever, so many rounds then finish every line.
abbrev pub RoundsFinish : Type 0
RoundsFinish = (s : ScriptValue) (turns : List Who) → IsPlayable s
    → is_finished s (rounds s (run s (opening s) turns) (24 * (calls_of s + 1) * (place_count s + 1))) ≡ true

-- The test says that every line of every caller is finished.
abbrev pub FinishedHasFinished : Type 0
FinishedHasFinished = (s : ScriptValue) (w : World) → is_finished s w ≡ true → HasFinished s w
