-- What is so of every world, whatever turns led to it.
use Rattle.std.specs.Prelude.{◌≡◌, false, ◌&&◌, Some}
use Rattle.vi_lines.specs.Legal.{IsLegalHistory}
use Rattle.vi_lines.specs.Order.{IsOrderedSoFar}
use Rattle.vi_model.specs.Tasks.{removes}
use Rattle.vi_model.specs.declared.task.Task.{Task}
use Rattle.vi_model.specs.Removals.{Removal, first_ready}
use Rattle.vi_model.specs.Control.{Started}
use Rattle.vi_model.specs.Starts.{any, awaited_by, start, answered}
use Rattle.vi_model.specs.Worlds.{World}
use Rattle.vi_model.specs.Sound.{IsSound}
use Rattle.vi_model.specs.Taken.{IsTaken}
use Rattle.vi_core.specs.Running.{Running, history_of}

-- The world is sound. So each answer in its history is that of the one-thread device at that place, and each call came
-- after those that it awaits. And where the device finishes a removal next, or starts one that has nobody to wait for,
-- no back end caches a page that it closes, and none is on its way.
pub record IsWell (r : Running) : Type 0 where
  pub sound : IsSound r.script r.world
  pub legal : IsLegalHistory r.script (history_of r)
  pub ordered : IsOrderedSoFar r.script (history_of r)
  pub finished : (x : Removal) → first_ready (let w : World = r.world in w.control.removals) ≡ Some x → IsTaken r.script r.world x.task
  pub started : (task : Task) → any (awaited_by r.script (let w : World = r.world in w.control) task) ≡ false → IsTaken r.script r.world task

-- a call that takes nothing away for which a back end has to be waited is answered when it is started
abbrev pub IsAnsweredAtOnce : Running → Type 0
IsAnsweredAtOnce r =
    (call : Started) → (removes (let w : World = r.world in w.control.dev) call.task && any (awaited_by r.script (let w : World = r.world in w.control) call.task)) ≡ false
    → start r.script (let w : World = r.world in w.control) call ≡ answered (let w : World = r.world in w.control) call.driver call.line call.task
