-- What ties an actor's progress to the history.
use Rattle.std.specs.Prelude.{◌≡◌, ◌⊎◌, ℕ, ◌+◌, Bool, true, if◌then◌else◌, List, [], ◌∷◌, All, IsTrue}
use Rattle.vi_history.specs.Replies.{fault_answer}
use Rattle.vi_history.specs.declared.entry.Entry.{Entry}
use Rattle.vi_lines.specs.declared.line.Await.{Await}
use Rattle.vi_lines.specs.Value.{ScriptValue}
use Rattle.vi_lines.specs.Order.{Place, due_place, is_whole}
use Rattle.vi_model.specs.Control.{Link}
use Rattle.vi_model.specs.Places.{back_at}
use Rattle.vi_model.specs.Starts.{any, entry_of}
use Rattle.vi_model.specs.Backs.{Seat, current_awaits}

-- the blocks of these lines are whole
abbrev pub AreWhole : ScriptValue → List Entry → List Await → Type 0
AreWhole s entries awaits = All (λ a. IsTrue (is_whole s entries a)) awaits

-- the entry is in the history
abbrev pub StandsIn : Entry → List Entry → Type 0
StandsIn h [] = ⊥
StandsIn h (x ∷ xs) = (x ≡ h) ⊎ StandsIn h xs

-- where a back end stands: at its current part, or behind that line if a reply with fault is under way
abbrev pub stands_at : Seat → Bool → Place
stands_at z fault = if fault then record { line = z.finished + 2; part = 1 } else record { line = z.finished + 1; part = z.done + 1 }

-- The back end's entries end there, what its current line awaits is whole where it found that posted or asks, and a
-- reply with fault under way has its entry.
pub record IsTracked (s : ScriptValue) (entries : List Entry) (place : ℕ) (x : Link) (z : Seat) : Type 0 where
  pub at : due_place s (back_at s place) entries ≡ stands_at z (any x.replies)
  pub ready : z.ready ≡ true → AreWhole s entries (current_awaits s place z)
  pub opened : z.asking ≡ true → AreWhole s entries (current_awaits s place z)
  pub faulted : any x.replies ≡ true → (reason : ℕ) × StandsIn (entry_of (back_at s place) (z.finished + 1) (z.done + 1) (fault_answer reason)) entries
