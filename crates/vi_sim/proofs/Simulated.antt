-- What is known of each simulated run.
use Rattle.std.proofs.Common.{◌≡◌, ℕ, zero, suc, ◌+◌, ◌*◌, ◌≤◌, Bool, true, false, cond, List, arith, ap, ◌∙◌}
use Rattle.std.proofs.Math.Nat.{mul-le-mul_right}
use Rattle.vi_lines.specs.declared.line.Who.{Who}
use Rattle.vi_lines.specs.Value.{ScriptValue}
use Rattle.vi_lines.specs.Legal.{HasRecords, IsLegalHistory}
use Rattle.vi_lines.specs.Ordered.{IsOrdered}
use Rattle.vi_model.specs.Places.{place_count}
use Rattle.vi_model.specs.Worlds.{World, opening}
use Rattle.vi_model.specs.Turns.{run}
use Rattle.vi_model.specs.Playable.{IsPlayable}
use Rattle.vi_model.specs.Sound.{SoundParts, IsSound}
use Rattle.vi_model.specs.Rounds.{is_finished, actors, calls_of, rounds}
use Rattle.vi_model.specs.Bound.{measure}
use Rattle.vi_sound.proofs.Moves.Opening.{opening_sound}
use Rattle.vi_sound.proofs.Moves.Turns.{run_sound}
use Rattle.vi_sound.proofs.Falling.Rounds.{run_low, rounds_finish}
use Rattle.vi_sound.proofs.Falling.Finishes.{opening_low}
use Rattle.vi_sound.proofs.Falling.Ended.{finished_is_ordered}
use Rattle.vi_sound.proofs.Falling.Tested.{finished_has_finished}
use Rattle.vi_sound.proofs.Laws.{sound_is_legal}
use Rattle.vi_core.proofs.OutcomeLaws.{outcome_records}
use Rattle.vi_core.specs.Running.{Running, opened}
use Rattle.vi_core.specs.Outcomes.{outcome_of}
use Rattle.vi_sim.specs.Schedule.{draws, round_bound}
use Rattle.vi_sim.specs.Simulated.{after_draws, after_rounds, drawn_world, simulated_world, simulated, simulated_history}
use Rattle.vi_sim.proofs.Finished.{rounds_enough}
use Rattle.vi_sim.proofs.Runs.{run_is}

drawn_sound : (s : ScriptValue) (generator_seed moves : ℕ) → IsPlayable s → SoundParts s (drawn_world s generator_seed moves)
drawn_sound s generator_seed moves play = run_sound s (run s (opening s) s.turns) (draws s generator_seed moves) play (run_sound s (opening s) s.turns play (opening_sound s play))

-- the rounds are enough
drawn_low : (s : ScriptValue) (generator_seed moves : ℕ) → IsPlayable s → measure s (drawn_world s generator_seed moves) ≤ round_bound s
unfolding round_bound
drawn_low s generator_seed moves play =
    let sound = opening_sound s play in
    let own = run_low s (opening s) s.turns play sound in
    let low = run_low s (run s (opening s) s.turns) (draws s generator_seed moves) play (run_sound s (opening s) s.turns play sound) in
    let first = opening_low s play.valid in
    let least : 9 ≤ 24 = omega arith in
    let more : 9 * (calls_of s + 1) * (place_count s + 1) ≤ 24 * (calls_of s + 1) * (place_count s + 1) = mul-le-mul_right (place_count s + 1) (mul-le-mul_right (calls_of s + 1) least) in
    omega (arith, own, low, first, more)

-- as many rounds as are needed come to the simulated world
simulated_settles : (s : ScriptValue) (generator_seed moves : ℕ) → IsPlayable s → rounds s (drawn_world s generator_seed moves) (measure s (drawn_world s generator_seed moves)) ≡ simulated_world s generator_seed moves
unfolding simulated_world
simulated_settles s generator_seed moves play =
    rounds_enough s (drawn_world s generator_seed moves) (measure s (drawn_world s generator_seed moves)) (round_bound s) play (drawn_sound s generator_seed moves play) (omega arith) (drawn_low s generator_seed moves play)

pub simulated_finished : (s : ScriptValue) (generator_seed moves : ℕ) → IsPlayable s → is_finished s (simulated_world s generator_seed moves) ≡ true
unfolding simulated_world
simulated_finished s generator_seed moves play = rounds_finish s (drawn_world s generator_seed moves) (round_bound s) play (drawn_sound s generator_seed moves play) (drawn_low s generator_seed moves play)

rounds_sound : (s : ScriptValue) (w : World) (n : ℕ) → IsPlayable s → SoundParts s w → SoundParts s (rounds s w n)
rounds_sound s w zero play ok = ok
rounds_sound s w (suc n) play ok = go (is_finished s w) (rounds_sound s (run s w (actors s)) n play (run_sound s w (actors s) play ok))
  where
    go : (b : Bool) → SoundParts s (rounds s (run s w (actors s)) n) → SoundParts s (cond b w (rounds s (run s w (actors s)) n))
    go true rest = ok
    go false rest = rest

simulated_sound : (s : ScriptValue) (generator_seed moves : ℕ) → IsPlayable s → IsSound s (simulated_world s generator_seed moves)
unfolding simulated_world IsSound
simulated_sound s generator_seed moves play = rounds_sound s (drawn_world s generator_seed moves) (round_bound s) play (drawn_sound s generator_seed moves play)

pub simulated_ordered : (s : ScriptValue) (generator_seed moves : ℕ) → IsPlayable s → IsOrdered s (simulated_history s generator_seed moves)
unfolding simulated
simulated_ordered s generator_seed moves play =
    finished_is_ordered s (simulated_world s generator_seed moves) play (simulated_sound s generator_seed moves play) (finished_has_finished s (simulated_world s generator_seed moves) (simulated_finished s generator_seed moves play))

pub simulated_legal : (s : ScriptValue) (generator_seed moves : ℕ) → IsPlayable s → IsLegalHistory s (simulated_history s generator_seed moves)
unfolding simulated
simulated_legal s generator_seed moves play = (sound_is_legal s (simulated_world s generator_seed moves) (simulated_sound s generator_seed moves play)).0

pub simulated_records : (s : ScriptValue) (generator_seed moves : ℕ) → IsPlayable s → HasRecords s (simulated s generator_seed moves)
unfolding simulated
simulated_records s generator_seed moves play = outcome_records s (simulated_world s generator_seed moves) play (simulated_sound s generator_seed moves play)

-- the run of the code: the script's own turns, the drawn ones, and rounds
pub simulated_is : (s : ScriptValue) (generator_seed moves : ℕ) (turns : List Who) (first own drawn over : Running) → IsPlayable s → turns ≡ s.turns → first ≡ opened s → own.script ≡ first.script
    → own.world ≡ run first.script first.world turns → drawn ≡ after_draws own generator_seed moves → over ≡ after_rounds drawn → outcome_of over.world ≡ simulated s generator_seed moves
unfolding simulated
simulated_is s generator_seed moves turns first own drawn over play are began kept ran f g =
    let w : Running = record { script = s; world = run s (opening s) s.turns } in
    let world : own.world ≡ w.world = ran ∙ (ap (λ (r : Running). run r.script r.world turns) began ∙ ap (λ ts. run s (opening s) ts) are) in
    let h : own ≡ w = run_is own s w.world (kept ∙ ap (λ (r : Running). r.script) began) world in
    let i : over ≡ after_rounds (after_draws w generator_seed moves) = g ∙ (ap after_rounds f ∙ ap (λ r. after_rounds (after_draws r generator_seed moves)) h) in
    ap (λ r. outcome_of r.world) i ∙ ap outcome_of (simulated_settles s generator_seed moves play)
