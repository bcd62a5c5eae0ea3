-- A turn that moves lowers the bound.
use Rattle.std.proofs.Common.{◌≡◌, ℕ, ◌+◌, ◌≤◌, ◌<◌, []}
use Rattle.std.specs.Prelude.{get_or, nat_le, Option, Some, None}
use Rattle.std.proofs.Common.{refl, arith}
use Rattle.std.proofs.lemmas.Bool.{and_parts, leb-true}
use Rattle.vi_lines.specs.declared.line.Who.{Who}
use Rattle.vi_lines.specs.declared.line.Who.TheVariants as who
use Rattle.vi_lines.specs.Value.{ScriptValue}
use Rattle.vi_lines.specs.Valid.{IsValid}
use Rattle.vi_model.specs.Worlds.{World, actor_of}
use Rattle.vi_model.specs.Turns.{Moved, control_turn, accessed_page, access_turn, left_by_access, turn_at, turn}
use Rattle.vi_model.specs.Sound.{SoundParts, IsSound}
use Rattle.vi_model.specs.Bound.{measure, MovesLower}
use Rattle.vi_sound.proofs.Falling.BackMoves.{Lowers, back_lowers, page_lowers, reader_lowers}
use Rattle.vi_sound.proofs.Falling.DriverMoves.{driver_lowers}
use Rattle.vi_sound.proofs.Falling.DeviceMoves.{device_lowers}

pub some_cache : (s : ScriptValue) → IsValid s → 0 < s.setup.cache
some_cache s valid = let n = leb-true 1 s.setup.cache (and_parts (nat_le 1 s.setup.cache) (nat_le s.setup.cache 64) valid.setup_valid.cache_fits).0 in omega (arith, n)

control_lowers : (s : ScriptValue) (w : World) (a : Who) → IsValid s → SoundParts s w → Lowers s w a (control_turn s a w.control (actor_of s w a))
control_lowers s w (who.Driver j) valid ok = driver_lowers s w j ok
control_lowers s w (who.Back id) valid ok = back_lowers s w id ok (some_cache s valid)
control_lowers s w who.Device valid ok = device_lowers s w ok
control_lowers s w who.Events valid ok = reader_lowers s w

access_lowers : (s : ScriptValue) (w : World) (a : Who) (page : ℕ) → SoundParts s w → accessed_page s a (actor_of s w a) ≡ Some page
    → measure s (left_by_access s w a page (access_turn s a (actor_of s w a) (get_or w.pages page []))) + 1 ≤ measure s w
unfolding accessed_page
access_lowers s w (who.Driver j) page ok h = absurd cc
access_lowers s w (who.Back id) page ok h = page_lowers s w id page ok h
access_lowers s w who.Device page ok h = absurd cc
access_lowers s w who.Events page ok h = absurd cc

pub turn_lowers : (s : ScriptValue) (w : World) (a : Who) → IsValid s → SoundParts s w → (turn s w a).turned ≡ Moved → measure s (turn s w a).world + 1 ≤ measure s w
unfolding turn
turn_lowers s w a valid ok = go (accessed_page s a (actor_of s w a)) refl
  where
    go : (o : Option ℕ) → accessed_page s a (actor_of s w a) ≡ o → (turn_at s w a o).turned ≡ Moved → measure s (turn_at s w a o).world + 1 ≤ measure s w
    go None e h = control_lowers s w a valid ok h
    go (Some page) e h = access_lowers s w a page ok e

pub moves_lower : MovesLower
unfolding IsSound
moves_lower s w a play ok h = let f = turn_lowers s w a play.valid ok h in omega (arith, f)
