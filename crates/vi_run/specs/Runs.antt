-- A run before its first turn, and what it comes to.
use Rattle.std.specs.Prelude.{◌≡◌, ℕ, ◌+◌, true, List, [], length, map, slice_get, Some, None}
use Rattle.vi_log.specs.Logs.{LogValue, IsMerged}
use Rattle.vi_history.specs.declared.outcome.Outcome.{Outcome}
use Rattle.vi_model.specs.Worlds.{World}
use Rattle.vi_model.specs.Rounds.{actors, is_finished}
use Rattle.vi_model.specs.Playable.{IsPlayable}
use Rattle.vi_model.specs.Sound.{IsSound}
use Rattle.vi_control.specs.Value.{ControlValue}
use Rattle.vi_core.specs.Outcomes.{outcome_of}
use Rattle.vi_turns.specs.Holding.{Taken, Last}
use Rattle.vi_turns.specs.Passes.{PassValue, Board}
use Rattle.vi_turns.specs.Ended.{IsHistory}
use Rattle.vi_turns.specs.declared.view.View.{View}
use Rattle.vi_run.specs.Actors.{ActorValue, view_of, IsPassOf}

-- the shared object, pass 0, and the actors
pub record OpenedValue : Type 0 where
  pub board : Board
  pub pass : PassValue
  pub actors : List ActorValue

-- the actor with the i-th pass that was split, counted from 0
pub record IsActorAt (b : Board) (i : ℕ) (a : ActorValue) : Type 0 where
  pub own : IsPassOf b a.pass
  pub number : (view_of a).number ≡ i + 1

-- each actor has the pass of its place
abbrev pub AreActors : Board → List ActorValue → Type 0
AreActors b all = (i : ℕ) (a : ActorValue) → slice_get all i ≡ Some a → IsActorAt b i a

-- the same actor with the same pass, some turns later
pub record IsSame (b : Board) (old new : ActorValue) : Type 0 where
  pub own : IsPassOf b new.pass
  pub who : new.who ≡ old.who
  pub number : (view_of new).number ≡ (view_of old).number

-- and so of each of them
pub record AreSame (b : Board) (old new : List ActorValue) : Type 0 where
  pub count : length new ≡ length old
  pub each : (i : ℕ) (x y : ActorValue) → slice_get old i ≡ Some x → slice_get new i ≡ Some y → IsSame b x y

-- Pass 0 holds nothing and has logged nothing, and the actors of the script in order have a pass each.
pub record IsOpened (b : Board) (p : PassValue) (all : List ActorValue) : Type 0 where
  pub playable : IsPlayable b.script
  pub own : IsPassOf b p
  pub number : (let v : View = p.view in v.number) ≡ 0
  pub empty : (let v : View = p.view in v.held) ≡ None
  pub log : (let v : View = p.view in v.log) ≡ []
  pub taken : (let v : View = p.view in v.taken) ≡ []
  pub made : (let v : View = p.view in v.made) ≡ length all
  pub count : length all ≡ length (actors b.script)
  pub each : AreActors b all

-- What is left of a run: pass 0's last view, the logs of the other passes, and the control.
pub record FinishedValue : Type 0 where
  pub last : Last
  pub logs : List LogValue
  pub control : ControlValue

-- Every pass that was split off was joined, and the kept logs are theirs, each actor's own: pass i + 1, which is that of actor i,
-- was joined as the i-th, and its log is the i-th. Pass 0 itself logged nothing.
pub record AreKept (logs : List LogValue) (last : Last) : Type 0 where
  pub joined : length last.taken ≡ last.made
  pub own : (i : ℕ) (t : Taken) → slice_get last.taken i ≡ Some t → t.number ≡ i + 1
  pub logs_are : map (λ (l : LogValue). l.entries) logs ≡ map (λ (t : Taken). t.log) last.taken
  pub nothing : last.log ≡ []

-- In a sound world of the script every line is finished, its history is the merge of the logs in the last view, which are those
-- that were kept, and the control is the world's.
pub record IsRunTo (f : FinishedValue) (w : World) : Type 0 where
  pub playable : IsPlayable f.last.script
  pub sound : IsSound f.last.script w
  pub finished : is_finished f.last.script w ≡ true
  pub history : IsHistory f.last w.history
  pub kept : AreKept f.logs f.last
  pub merged : IsMerged f.logs w.history
  pub control : f.control.state ≡ w.control

pub record IsRun (f : FinishedValue) : Type 0 where
  pub world : World
  pub run : IsRunTo f world

-- the outcome is that of such a world
pub record CameTo (f : FinishedValue) (o : Outcome) : Type 0 where
  pub world : World
  pub run : IsRunTo f world
  pub outcome : o ≡ outcome_of world
