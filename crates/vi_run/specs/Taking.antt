-- What an actor's turn does to its pass.
use Rattle.std.specs.Prelude.{◌≡◌, ◌≢◌, ℕ, ◌+◌, ◌≤◌, List, Option, Some, None}
use Rattle.vi_history.specs.declared.entry.Entry.{Entry}
use Rattle.vi_lines.specs.declared.line.Who.{Who}
use Rattle.vi_lines.specs.declared.line.Who.TheVariants as who
use Rattle.vi_lines.specs.Value.{ScriptValue}
use Rattle.vi_model.specs.Control.{Control}
use Rattle.vi_model.specs.Actors.{Actor, stand_in}
use Rattle.vi_model.specs.Turns as model
use Rattle.vi_model.specs.Turns.{accessed_page, driver_idle}
use Rattle.vi_core.specs.declared.turned.Turned.{Turned}
use Rattle.vi_core.specs.declared.turned.Turned.TheVariants.{Moved, Rest}
use Rattle.vi_core.specs.Turning.{turned_of}
use Rattle.vi_turns.specs.Views.{acts_for, turn_of, access_of, won_control, won_page, gave_back, lost}
use Rattle.vi_turns.specs.Views as view
use Rattle.vi_turns.specs.declared.view.View.{View}
use Rattle.vi_turns.specs.declared.shared.Busy.{Busy}
use Rattle.vi_run.specs.declared.ran.Ran.{Ran}
use Rattle.vi_run.specs.declared.ran.Ran.TheVariants as ran

-- the page that the pass's actor wishes to access, if its turn is an access
abbrev pub wished_by : ScriptValue → Option Who → Actor → Option ℕ
wished_by s None a = None
wished_by s (Some who) a = accessed_page s who a

abbrev pub wished_of : View → Option ℕ
wished_of v = wished_by v.script (acts_for v) v.actor

-- the lock word that its turn needs: the page's, or else the control's
abbrev pub word_for : Option ℕ → ℕ
word_for None = 1
word_for (Some page) = page + 2

-- the pass acts for a driver that has submitted and collected all its lines
pub record IsDriverDone (v : View) : Type 0 where
  pub number : ℕ
  pub driver : acts_for v ≡ Some (who.Driver number)
  pub rests : driver_idle v.script number (stand_in v.actor.progress) ≡ model.Rest

-- From the view v to the view w is a turn of its actor. The first two are turns under the control c, which w then records as won
-- last: without an entry, or with one that was stamped. The third is an access of a page that was won. A driver that is done
-- rests without either.
pub data Took (v w : View) (turned : Turned) : Type 0 where
  quietly : (c : Control) → wished_of v ≡ None → turned_of turned ≡ (turn_of v c).turned → (turn_of v c).entry ≡ None → w ≡ gave_back (won_control v c) → Took v w turned
  with_entry : (c : Control) (e : Entry) (ticket : ℕ) → wished_of v ≡ None → turned_of turned ≡ (turn_of v c).turned → (turn_of v c).entry ≡ Some e → v.seen ≤ ticket
      → w ≡ gave_back (view.stamped (won_control v c) ticket) → Took v w turned
  by_access : (page : ℕ) (bytes : List ℕ) (e : Entry) (ticket : ℕ) → wished_of v ≡ Some page → turned ≡ Moved → (access_of v bytes).entry ≡ Some e → v.seen ≤ ticket
      → w ≡ gave_back (view.stamped (won_page v page bytes) ticket) → Took v w turned
  without : IsDriverDone v → turned ≡ Rest → w ≡ v → Took v w turned

-- the exchange on the word that the turn needs was lost, and all else is as it was
pub record WasBusy (v w : View) (b : Busy) : Type 0 where
  pub word : b.word ≡ word_for (wished_of v)
  pub found : b.found ≢ 0
  pub view_is : w ≡ lost v b.word b.found

-- what a turn answers
abbrev pub HasRun : View → View → Ran → Type 0
HasRun v w (ran.Turned turned) = Took v w turned
HasRun v w (ran.Busy b) = WasBusy v w b
