-- Rounds until all is finished: any number of rounds that is enough comes to the same world.
use Rattle.std.proofs.Common.{◌≡◌, ℕ, zero, suc, ◌<◌, ◌≤◌, Bool, true, false, cond, List, refl, arith, sym, ap, subst, ◌∙◌}
use Rattle.vi_lines.specs.declared.line.Who.{Who}
use Rattle.vi_lines.specs.Value.{ScriptValue}
use Rattle.vi_model.specs.Worlds.{World}
use Rattle.vi_model.specs.Turns.{run}
use Rattle.vi_model.specs.Playable.{IsPlayable}
use Rattle.vi_model.specs.Sound.{SoundParts, IsSound}
use Rattle.vi_model.specs.Rounds.{is_finished, actors, rounds}
use Rattle.vi_model.specs.Bound.{measure}
use Rattle.vi_sound.proofs.Moves.Turns.{run_sound}
use Rattle.vi_sound.proofs.Falling.Rounds.{round_falls}
use Rattle.vi_core.specs.Running.{Running}
use Rattle.vi_sim.specs.Simulated.{after_rounds}
use Rattle.vi_sim.proofs.Runs.{run_is}

-- where all is finished no round is made
pub rounds_stop : (s : ScriptValue) (w : World) (n : ℕ) → is_finished s w ≡ true → rounds s w n ≡ w
rounds_stop s w zero h = refl
rounds_stop s w (suc n) h = ap (λ b. cond b w (rounds s (run s w (actors s)) n)) h

-- else there is one, and then the others
rounds_more : (s : ScriptValue) (w : World) (n : ℕ) → is_finished s w ≡ false → rounds s w (suc n) ≡ rounds s (run s w (actors s)) n
rounds_more s w n h = ap (λ b. cond b w (rounds s (run s w (actors s)) n)) h

-- what no round is left to is finished
none_left : (s : ScriptValue) (w : World) → IsPlayable s → SoundParts s w → measure s w ≤ 0 → is_finished s w ≡ true
none_left s w play ok low = go (is_finished s w) refl
  where
    go : (b : Bool) → is_finished s w ≡ b → is_finished s w ≡ true
    go true e = e
    go false e = let f = round_falls s w play ok e in absurd (omega (arith, f, low))

pub rounds_enough : (s : ScriptValue) (w : World) (n m : ℕ) → IsPlayable s → SoundParts s w → measure s w ≤ n → measure s w ≤ m → rounds s w n ≡ rounds s w m
rounds_enough s w zero m play ok low enough = sym (rounds_stop s w m (none_left s w play ok low))
rounds_enough s w (suc n) zero play ok enough low = rounds_stop s w (suc n) (none_left s w play ok low)
rounds_enough s w (suc n) (suc m) play ok low enough = go (is_finished s w) refl (λ a b. rounds_enough s (run s w (actors s)) n m play (run_sound s w (actors s) play ok) a b)
  where
    go : (b : Bool) → is_finished s w ≡ b → (measure s (run s w (actors s)) ≤ n → measure s (run s w (actors s)) ≤ m → rounds s (run s w (actors s)) n ≡ rounds s (run s w (actors s)) m)
        → rounds s w (suc n) ≡ rounds s w (suc m)
    go true e rest = rounds_stop s w (suc n) e ∙ sym (rounds_stop s w (suc m) e)
    go false e rest = let f = round_falls s w play ok e in rounds_more s w n e ∙ (rest (omega (arith, f, low)) (omega (arith, f, enough)) ∙ sym (rounds_more s w m e))

-- a round of a world that isn't finished, and then the others
round_first : (s : ScriptValue) (w : World) (n : ℕ) → IsPlayable s → SoundParts s w → is_finished s w ≡ false → measure s w ≡ n → rounds s (run s w (actors s)) (measure s (run s w (actors s))) ≡ rounds s w n
round_first s w zero play ok h is = let f = round_falls s w play ok h in absurd (omega (arith, f, is))
round_first s w (suc n) play ok h is =
    let f = round_falls s w play ok h in
    rounds_enough s (run s w (actors s)) (measure s (run s w (actors s))) n play (run_sound s w (actors s) play ok) (omega arith) (omega (arith, f, is)) ∙ sym (rounds_more s w n h)

-- a run that is made a round more
pub record IsRoundMore (old new : Running) (round : List Who) : Type 0 where
  pub round_of : round ≡ actors new.script
  pub same : after_rounds new ≡ after_rounds old
  pub less : measure new.script new.world < measure old.script old.world

pub round_more : (r q : Running) (round : List Who) → IsPlayable r.script → IsSound r.script r.world → is_finished r.script r.world ≡ false → round ≡ actors r.script → q.script ≡ r.script
    → q.world ≡ run r.script r.world round → IsRoundMore r q round
unfolding IsSound
round_more r q round play ok h is kept made =
    let v : Running = record r { world = run r.script r.world (actors r.script) } in
    let e : q ≡ v = run_is q r.script v.world kept (made ∙ ap (λ turns. run r.script r.world turns) is) in
    let f = round_falls r.script r.world play ok h in
    let same : after_rounds v ≡ after_rounds r = ap (λ w. record r { world = w }) (round_first r.script r.world (measure r.script r.world) play ok h refl) in
    subst (λ u. IsRoundMore r u round) (sym e) (record { round_of = is; same = same; less = omega (arith, f) })

pub rounds_over : (r : Running) → is_finished r.script r.world ≡ true → r ≡ after_rounds r
rounds_over r h = ap (λ w. record r { world = w }) (sym (rounds_stop r.script r.world (measure r.script r.world) h))
