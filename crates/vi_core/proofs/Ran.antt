-- Turns in order.
use Rattle.std.proofs.Common.{◌≡◌, ◌<◌, ℕ, ◌+◌, List, [], ◌∷◌, ◌++◌, length, get_or, take, refl, ap, ◌∙◌}
use Rattle.std.proofs.lemmas.List.{take_more}
use Rattle.vi_lines.specs.declared.line.Who.{Who}
use Rattle.vi_lines.specs.Value.{ScriptValue}
use Rattle.vi_model.specs.Worlds.{World}
use Rattle.vi_model.specs.Turns.{turn, run}

-- one turn more
pub run_more : (s : ScriptValue) (w : World) (whos : List Who) (who : Who) → run s w (whos ++ who ∷ []) ≡ (turn s (run s w whos) who).world
run_more s w [] who = refl
run_more s w (x ∷ xs) who = run_more s (turn s w x).world xs who

-- and so the turns that a list begins with, one by one
pub run_next : (s : ScriptValue) (w : World) (whos : List Who) (k : ℕ) (who : Who) → k < length whos → run s w (take (k + 1) whos) ≡ (turn s (run s w (take k whos)) (get_or whos k who)).world
run_next s w whos k who lt = ap (run s w) (take_more whos k who lt) ∙ run_more s w (take k whos) (get_or whos k who)
