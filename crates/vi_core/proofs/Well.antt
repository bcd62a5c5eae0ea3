-- What is so of every world.
use Rattle.std.proofs.Common.{◌≡◌, cond, ap, true, None}
use Rattle.vi_lines.specs.Ordered.{IsOrdered}
use Rattle.vi_model.specs.Control.{Control, Made}
use Rattle.vi_model.specs.Starts.{awaited_by, start, answered, begun, removal_of}
use Rattle.vi_model.specs.Rounds.{is_finished}
use Rattle.vi_model.specs.Worlds.{World}
use Rattle.vi_sound.proofs.Laws.{sound_is_legal}
use Rattle.vi_sound.proofs.Falling.Ended.{finished_is_ordered}
use Rattle.vi_sound.proofs.Falling.Tested.{finished_has_finished}
use Rattle.vi_sound.proofs.Moves.Taken.{finished_is_taken, started_is_taken}
use Rattle.vi_core.specs.Parts.{Parts, world_of, running, IsKept}
use Rattle.vi_core.specs.Well.{IsWell, IsAnsweredAtOnce}

pub kept_well : (p : Parts) → IsKept p → IsWell (running p)
kept_well p kept =
    let legal = sound_is_legal p.script (world_of p) kept.sound in
    record {
      sound = kept.sound;
      legal = legal.0;
      ordered = legal.1;
      finished = λ x e. finished_is_taken p.script (world_of p) x kept.sound e;
      started = λ task e. started_is_taken p.script (world_of p) task kept.sound e;
    }

pub answered_at_once : (p : Parts) → IsAnsweredAtOnce (running p)
unfolding start
answered_at_once p call e =
    let c : Control = (let w : World = world_of p in w.control) in
    ap (λ b. let m : Made = cond b (record { control = begun c (removal_of call (awaited_by p.script c call.task)); entry = None }) (answered c call.driver call.line call.task) in m) e

-- where every line is finished, the history is in order
pub finished_ordered : (p : Parts) → IsKept p → is_finished p.script (world_of p) ≡ true → IsOrdered p.script (let w : World = world_of p in w.history)
finished_ordered p kept e = finished_is_ordered p.script (world_of p) kept.playable kept.sound (finished_has_finished p.script (world_of p) e)
