-- What a simulated run comes to.
use Rattle.std.specs.Prelude.{ℕ, List}
use Rattle.vi_history.specs.declared.entry.Entry.{Entry}
use Rattle.vi_history.specs.declared.outcome.Outcome.{Outcome}
use Rattle.vi_lines.specs.Value.{ScriptValue}
use Rattle.vi_model.specs.Worlds.{World, opening}
use Rattle.vi_model.specs.Turns.{run}
use Rattle.vi_model.specs.Rounds.{rounds}
use Rattle.vi_model.specs.Bound.{measure}
use Rattle.vi_core.specs.Running.{Running}
use Rattle.vi_core.specs.Outcomes.{outcome_of}
use Rattle.vi_sim.specs.Schedule.{draws, round_bound}

-- the world of a script after its own turns and the drawn ones
abbrev pub drawn_world : ScriptValue → ℕ → ℕ → World
drawn_world s generator_seed moves = run s (run s (opening s) s.turns) (draws s generator_seed moves)

-- the world of a script after its own turns, the drawn ones and rounds until all is finished
unfoldable pub simulated_world : ScriptValue → ℕ → ℕ → World
simulated_world s generator_seed moves = rounds s (drawn_world s generator_seed moves) (round_bound s)

-- what a simulated run comes to
unfoldable pub simulated : ScriptValue → ℕ → ℕ → Outcome
simulated s generator_seed moves = outcome_of (simulated_world s generator_seed moves)

-- its history
abbrev pub simulated_history : ScriptValue → ℕ → ℕ → List Entry
simulated_history s generator_seed moves = let o : Outcome = simulated s generator_seed moves in o.entries

-- a run, so many drawn turns later
abbrev pub after_draws : Running → ℕ → ℕ → Running
after_draws r draw moves = record r { world = run r.script r.world (draws r.script draw moves) }

-- a run, after rounds until all is finished: each lowers the bound on the moves that are left
abbrev pub after_rounds : Running → Running
after_rounds r = record r { world = rounds r.script r.world (measure r.script r.world) }
