-- Draws, and the turns of the actors that they name.
use Rattle.std.proofs.Common.{◌≡◌, ℕ, suc, ◌<◌, cond, List, [], ◌∷◌, ◌++◌, length, arith, sym, ap, subst, ◌∙◌}
use Rattle.vi_lines.specs.declared.line.Who.{Who}
use Rattle.vi_lines.specs.declared.line.Who.TheVariants as who
use Rattle.vi_lines.specs.Value.{ScriptValue}
use Rattle.vi_model.specs.Turns.{turn}
use Rattle.vi_model.specs.Rounds.{drivers_of, backs_of, actors}
use Rattle.vi_core.specs.Running.{Running}
use Rattle.vi_sim.specs.Schedule.{next_draw, picked}
use Rattle.vi_sim.specs.Simulated.{after_draws}
use Rattle.vi_sim.proofs.Runs.{run_is}

behind_some : (xs ys : List Who) (a : Who) → 0 < length (xs ++ a ∷ ys)
behind_some [] ys a = omega arith
behind_some (x ∷ xs) ys a = omega arith

-- the device is among the actors, so there are some
pub some_actors : (s : ScriptValue) → 0 < length (actors s)
unfolding actors
some_actors s = go (drivers_of s) (backs_of s)
  where
    go : (ds bs : List Who) → 0 < length (ds ++ (bs ++ who.Device ∷ cond s.setup.events (who.Events ∷ []) []))
    go [] bs = behind_some bs (cond s.setup.events (who.Events ∷ []) []) who.Device
    go (d ∷ ds) bs = omega arith

-- a run that is a drawn turn further, of which so many are left
pub record IsTurnMore (old new : Running) (round : List Who) (draw left more : ℕ) : Type 0 where
  pub round_of : round ≡ actors new.script
  pub same : after_draws new (next_draw draw) left ≡ after_draws old draw more

-- one drawn turn, and then the others
pub turn_more : (r q : Running) (round : List Who) (x left more : ℕ) → round ≡ actors r.script → more ≡ suc left → q.script ≡ r.script → q.world ≡ (turn r.script r.world (picked round (next_draw x))).world
    → IsTurnMore r q round x left more
turn_more r q round x left more is e same made =
    let v : Running = record r { world = (turn r.script r.world (picked (actors r.script) (next_draw x))).world } in
    let f : q ≡ v = run_is q r.script v.world same (made ∙ ap (λ turns. (turn r.script r.world (picked turns (next_draw x))).world) is) in
    let then : after_draws v (next_draw x) left ≡ after_draws r x more = ap (λ n. after_draws r x n) (sym e) in
    subst (λ u. IsTurnMore r u round x left more) (sym f) (record { round_of = is; same = then })
