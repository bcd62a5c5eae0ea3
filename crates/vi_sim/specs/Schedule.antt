-- The schedule of a simulated run: whom the generator draws, and how many rounds may follow.
use Rattle.std.specs.Prelude.{ℕ, zero, suc, ◌+◌, ◌*◌, ◌/◌, ◌%◌, ◌^◌, List, [], ◌∷◌, length, get_or}
use Rattle.vi_lines.specs.declared.line.Who.{Who}
use Rattle.vi_lines.specs.declared.line.Who.TheVariants as who
use Rattle.vi_lines.specs.Value.{ScriptValue}
use Rattle.vi_model.specs.Places.{place_count}
use Rattle.vi_model.specs.Rounds.{actors, calls_of}

-- the generator: the draw after this one
abbrev pub next_draw : ℕ → ℕ
next_draw x = (x * 6364136223846793005 + 1442695040888963407) % 2 ^ 64

-- the one of these actors that a draw names, by its bits from the 33rd on modulo how many they are
abbrev pub picked : List Who → ℕ → Who
picked actors x = get_or actors (x / 2 ^ 33 % length actors) who.Device

-- the actor of a round that a draw names
abbrev pub drawn : ScriptValue → ℕ → Who
drawn s x = picked (actors s) x

-- the actors of so many draws, after this one
abbrev pub draws : ScriptValue → ℕ → ℕ → List Who
draws s x zero = []
draws s x (suc more) = drawn s (next_draw x) ∷ draws s (next_draw x) more

-- at most so many rounds are made
unfoldable pub round_bound : ScriptValue → ℕ
round_bound s = 24 * (calls_of s + 1) * (place_count s + 1)
