-- Rounds finish the world: a round without a move is that of a finished world.
use Rattle.std.proofs.Common.{◌≡◌, ◌≢◌, ℕ, zero, suc, ◌+◌, ◌≤◌, ◌<◌, Bool, true, false, cond, List, [], ◌∷◌, ◌++◌, length, map, filter, get_or, refl, arith, ◌∙◌, ap, sym, subst, ◌⊎◌, inl, inr}
use Rattle.std.specs.Prelude.{nat_lt}
use Rattle.std.specs.List.{range_with_len}
use Rattle.std.proofs.lemmas.Bool.{cases_eq, false≢true}
use Rattle.std.proofs.lemmas.Bool.Decides.{nat_tests}
use Rattle.vi_history.specs.declared.call.Caller.TheVariants.{Driver}
use Rattle.vi_lines.specs.declared.line.Who.{Who}
use Rattle.vi_lines.specs.declared.line.Who.TheVariants as who
use Rattle.vi_lines.specs.Value.{ScriptValue}
use Rattle.vi_lines.specs.Valid.{IsValid}
use Rattle.vi_lines.specs.Calls.{lines_of}
use Rattle.vi_model.specs.Control.{driver_count}
use Rattle.vi_model.specs.Places.{ids_of}
use Rattle.vi_model.specs.Worlds.{World}
use Rattle.vi_model.specs.Turns.{Turned, Moved, Waiting, Rest, turn, run}
use Rattle.vi_model.specs.Playable.{IsPlayable}
use Rattle.vi_model.specs.Sound.{SoundParts}
use Rattle.vi_model.specs.Rounds.{is_finished, has_lines, drivers_of, backs_of, actors, rounds}
use Rattle.vi_model.specs.Bound.{measure}
use Rattle.vi_sound.proofs.Moves.Turns.{turn_sound, run_sound}
use Rattle.vi_sound.proofs.Falling.Ended.{only_moved_changes}
use Rattle.vi_sound.proofs.Falling.Lowers.{turn_lowers}
use Rattle.vi_sound.proofs.Falling.Stills.{device_still, driver_still, back_still}
use Rattle.vi_sound.proofs.Falling.Quiet.{Quiet}
use Rattle.vi_sound.proofs.Falling.Progress.{quiet_finished}

-- none of these actors moves
abbrev pub AreIdle : ScriptValue → World → List Who → Type 0
AreIdle s w [] = Unit {0}
AreIdle s w (a ∷ rest) = ((turn s w a).turned ≢ Moved) × AreIdle s w rest

moved_or : (t : Turned) → (t ≡ Moved) ⊎ (t ≢ Moved)
moved_or Moved = inl refl
moved_or Waiting = inr (λ h. absurd cc)
moved_or Rest = inr (λ h. absurd cc)

-- turns lower the bound, or none of them moves and the world stays
pub settle : (s : ScriptValue) (w : World) (turns : List Who) → IsPlayable s → SoundParts s w → (measure s (run s w turns) + 1 ≤ measure s w) ⊎ ((run s w turns ≡ w) × AreIdle s w turns)
settle s w [] play ok = inr (refl, tt)
settle s w (a ∷ rest) play ok = go (moved_or (turn s w a).turned) (settle s (turn s w a).world rest play (turn_sound s w a play ok))
  where
    v : World
    v = (turn s w a).world

    go : ((turn s w a).turned ≡ Moved) ⊎ ((turn s w a).turned ≢ Moved) → (measure s (run s v rest) + 1 ≤ measure s v) ⊎ ((run s v rest ≡ v) × AreIdle s v rest)
        → (measure s (run s v rest) + 1 ≤ measure s w) ⊎ ((run s v rest ≡ w) × (((turn s w a).turned ≢ Moved) × AreIdle s w rest))
    go (inl e) (inl h) = let f = turn_lowers s w a play.valid ok e in inl (omega (arith, f, h))
    go (inl e) (inr h) = let f = turn_lowers s w a play.valid ok e in let g : measure s (run s v rest) ≡ measure s v = ap (measure s) h.0 in inl (omega (arith, f, g))
    go (inr ne) (inl h) = let g : measure s v ≡ measure s w = ap (measure s) (only_moved_changes s w a ne) in inl (omega (arith, g, h))
    go (inr ne) (inr h) = let same = only_moved_changes s w a ne in inr (h.0 ∙ same, (ne, subst (λ u. AreIdle s u rest) same h.1))

-- turns never raise the bound
pub run_low : (s : ScriptValue) (w : World) (turns : List Who) → IsPlayable s → SoundParts s w → measure s (run s w turns) ≤ measure s w
run_low s w turns play ok = go (settle s w turns play ok)
  where
    go : (measure s (run s w turns) + 1 ≤ measure s w) ⊎ ((run s w turns ≡ w) × AreIdle s w turns) → measure s (run s w turns) ≤ measure s w
    go (inl h) = omega (arith, h)
    go (inr h) = let e : measure s (run s w turns) ≡ measure s w = ap (measure s) h.0 in omega (arith, e)

-- ---- whose turns a round has

idle_split : (s : ScriptValue) (w : World) (xs ys : List Who) → AreIdle s w (xs ++ ys) → AreIdle s w xs × AreIdle s w ys
idle_split s w [] ys h = (tt, h)
idle_split s w (x ∷ xs) ys h = let r = idle_split s w xs ys h.1 in ((h.0, r.0), r.1)

idle_ids : (s : ScriptValue) (w : World) (ids : List ℕ) (k : ℕ) → AreIdle s w (map (λ id. who.Back id) ids) → k < length ids → (turn s w (who.Back (get_or ids k 0))).turned ≢ Moved
idle_ids s w [] k h lt = absurd (omega (arith, lt))
idle_ids s w (i ∷ ids) zero h lt = h.0
idle_ids s w (i ∷ ids) (suc k) h lt = idle_ids s w ids k h.1 (omega (arith, lt))

idle_drivers : (s : ScriptValue) (w : World) (a n j : ℕ) → AreIdle s w (map (λ number. who.Driver number) (filter (has_lines s) (range_with_len a n))) → a ≤ j → j < a + n → has_lines s j ≡ true → (turn s w (who.Driver j)).turned ≢ Moved
idle_drivers s w a zero j h low high some = absurd (omega (arith, low, high))
idle_drivers s w a (suc n) j h low high some = go (has_lines s a) refl h (cases_eq j a) (λ i l. idle_drivers s w (a + 1) n j i l (omega (arith, high)) some)
  where
    go : (b : Bool) → has_lines s a ≡ b → AreIdle s w (map (λ number. who.Driver number) (cond b (a ∷ filter (has_lines s) (range_with_len (a + 1) n)) (filter (has_lines s) (range_with_len (a + 1) n)))) → (j ≡ a) ⊎ (j ≡ a → ⊥)
        → (AreIdle s w (map (λ number. who.Driver number) (filter (has_lines s) (range_with_len (a + 1) n))) → a + 1 ≤ j → (turn s w (who.Driver j)).turned ≢ Moved) → (turn s w (who.Driver j)).turned ≢ Moved
    go true e h (inl q) later = subst (λ i. (turn s w (who.Driver i)).turned ≢ Moved) (sym q) h.0
    go true e h (inr ne) later = later h.1 (omega (arith, low, ne))
    go false e h (inl q) later = absurd (false≢true (sym e ∙ (ap (has_lines s) (sym q) ∙ some)))
    go false e h (inr ne) later = later h (omega (arith, low, ne))

idle_quiet : (s : ScriptValue) (w : World) → IsValid s → SoundParts s w → AreIdle s w (actors s) → Quiet s w
unfolding actors
idle_quiet s w valid ok h =
    let a = idle_split s w (drivers_of s) (backs_of s ++ who.Device ∷ cond s.setup.events (who.Events ∷ []) []) h in
    let b = idle_split s w (backs_of s) (who.Device ∷ cond s.setup.events (who.Events ∷ []) []) a.1 in
    record {
      sound = ok;
      device = device_still s w b.1.0;
      backs = λ k lt. back_still s w k valid lt (idle_ids s w (ids_of s) k b.0 lt);
      drivers = λ j lt some. driver_still s w j lt (idle_drivers s w 0 driver_count j a.0 (omega arith) (omega (arith, lt)) (more (length (lines_of s (Driver j))) some));
    }
  where
    more : (n : ℕ) → 0 < n → nat_lt 0 n ≡ true
    more n h = grind (arith, nat_tests)

-- ---- rounds

-- a round of a world that isn't finished lowers the bound
pub round_falls : (s : ScriptValue) (w : World) → IsPlayable s → SoundParts s w → is_finished s w ≡ false → measure s (run s w (actors s)) + 1 ≤ measure s w
round_falls s w play ok h = go (settle s w (actors s) play ok)
  where
    go : (measure s (run s w (actors s)) + 1 ≤ measure s w) ⊎ ((run s w (actors s) ≡ w) × AreIdle s w (actors s)) → measure s (run s w (actors s)) + 1 ≤ measure s w
    go (inl f) = f
    go (inr i) = absurd (false≢true (sym h ∙ quiet_finished s w play.valid (idle_quiet s w play.valid ok i.1)))

pub rounds_finish : (s : ScriptValue) (w : World) (n : ℕ) → IsPlayable s → SoundParts s w → measure s w ≤ n → is_finished s (rounds s w n) ≡ true
rounds_finish s w zero play ok low = go (is_finished s w) refl
  where
    go : (b : Bool) → is_finished s w ≡ b → is_finished s w ≡ true
    go true e = e
    go false e = let f = round_falls s w play ok e in absurd (omega (arith, f, low))
rounds_finish s w (suc n) play ok low = go (is_finished s w) refl (λ l. rounds_finish s (run s w (actors s)) n play (run_sound s w (actors s) play ok) l)
  where
    go : (b : Bool) → is_finished s w ≡ b → (measure s (run s w (actors s)) ≤ n → is_finished s (rounds s (run s w (actors s)) n) ≡ true)
        → is_finished s (cond b w (rounds s (run s w (actors s)) n)) ≡ true
    go true e rest = e
    go false e rest = let f = round_falls s w play ok e in rest (omega (arith, f, low))
