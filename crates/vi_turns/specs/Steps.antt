-- What each step on the table tells: of the step, the seat before, the number found and the seat after.
use Rattle.std.specs.Prelude.{◌≡◌, ◌≢◌, ℕ, ◌+◌, ◌-◌, ◌≤◌, ◌∷◌, List}
use Rattle.atomic_table.specs.Table.{Me, Step, rest}
use Rattle.vi_control.specs.Plan.{plan_of}
use Rattle.vi_control.specs.Value.{ControlValue}
use Rattle.vi_turns.specs.Holding.{TheControl, ThePage}
use Rattle.vi_turns.specs.Order.{IsSoundAt, IsPlaced, Told}
use Rattle.vi_turns.specs.Views.{lost, fronted, won_control, won_page, stamped, gave_back}
use Rattle.vi_turns.specs.declared.slot.Slot.{Slot}
use Rattle.vi_turns.specs.declared.slot.Slot.TheVariants.{Control, Page}
use Rattle.vi_turns.specs.declared.view.View.{View}

-- a seat: its view, and the slots that it has taken
abbrev pub Sat : Type 0
Sat = Me Slot View

-- the control was won: the seat has it, it is the script's, and the seat's actor is one of a sound world that has it
pub record WinsControl (before after : Sat) : Type 0 where
  pub control : ControlValue
  pub after_is : after ≡ (won_control before.0 control.state, (0, Control control) ∷ before.1)
  pub plan : control.plan ≡ plan_of before.0.script
  pub sound : IsSoundAt before.0 (TheControl control.state)

-- the exchange finds 0, and the control is won, or it finds another number, and is lost
abbrev pub TriesControl : Step Slot → Sat → ℕ → Sat → Type 0
TriesControl st before found after = (found ≡ 0 → WinsControl before after) × (found ≢ 0 → after ≡ (lost before.0 1 found, before.1))

-- the page of a lock word: the first two words are the ticket and the control's
abbrev pub page_of : ℕ → ℕ
page_of word = word - 2

-- this page was won, and the seat's actor is one of a sound world that has it
pub record WinsPage (page : ℕ) (before after : Sat) : Type 0 where
  pub bytes : List ℕ
  pub after_is : after ≡ (won_page before.0 page bytes, (page + 1, Page bytes) ∷ before.1)
  pub sound : IsSoundAt before.0 (ThePage page bytes)

abbrev pub TriesPage : Step Slot → Sat → ℕ → Sat → Type 0
TriesPage st before found after = (found ≡ 0 → WinsPage (page_of st.word) before after) × (found ≢ 0 → after ≡ (lost before.0 st.word found, before.1))

-- what was held is given back
pub record GivesBack (before after : Sat) : Type 0 where
  pub after_is : after ≡ (gave_back before.0, rest before.1)
  pub placed : IsPlaced after.0

abbrev pub Gives : Step Slot → Sat → ℕ → Sat → Type 0
Gives st before found after = GivesBack before after

-- the ticket that was found is stamped on the entry of the turn
pub record DrawsTicket (before : Sat) (ticket : ℕ) (after : Sat) : Type 0 where
  pub seen : before.0.seen ≤ ticket
  pub after_is : after ≡ (stamped before.0 ticket, before.1)
  pub told : Told before.0.script ticket after.0

abbrev pub Stamps : Step Slot → Sat → ℕ → Sat → Type 0
Stamps st before ticket after = DrawsTicket before ticket after

-- it sees how many tickets were drawn
abbrev pub Fronts : Step Slot → Sat → ℕ → Sat → Type 0
Fronts st before found after = (before.0.seen ≤ found) × (after ≡ (fronted before.0 found, before.1))
