-- Back ends by their places, those of their endpoints in the setup.
use Rattle.std.specs.Prelude.{◌==◌, ℕ, suc, if◌then◌else◌, List, [], ◌∷◌, length, get_or, map}
use Rattle.vi_history.specs.declared.call.Caller.{Caller}
use Rattle.vi_history.specs.declared.call.Caller.TheVariants.{Back}
use Rattle.vi_lines.specs.Value.{ScriptValue}

-- the endpoints' ids in declared order
abbrev pub ids_of : ScriptValue → List ℕ
ids_of s = map (λ e. e.id) s.setup.endpoints

abbrev pub place_count : ScriptValue → ℕ
place_count s = length (ids_of s)

-- the id of the endpoint at a place
abbrev pub id_at : ScriptValue → ℕ → ℕ
id_at s place = get_or (ids_of s) place 0

-- the first place that has the id, or the number of places where none has it
abbrev pub place_in : List ℕ → ℕ → ℕ
place_in [] id = 0
place_in (i ∷ ids) id = if i == id then 0 else suc (place_in ids id)

abbrev pub place_of : ScriptValue → ℕ → ℕ
place_of s id = place_in (ids_of s) id

-- the back end at a place, as a caller
abbrev pub back_at : ScriptValue → ℕ → Caller
back_at s place = Back (id_at s place)
