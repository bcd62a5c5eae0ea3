-- The rule of the table: what is so of its words, its values at home and all views between any two steps.
use Rattle.std.specs.Prelude.{◌≡◌, ◌≢◌, ℕ, suc, ◌+◌, ◌<◌, ◌≤◌, true, false, List, [], length, slice_index, slice_get, Some, None}
use Rattle.std.specs.List.{AllByRecursion}
use mathlib.Core.Option.{some}
use mathlib.Core.Option as maybe
use lib.ListN.{get_elem?}
use Rattle.atomic_table.specs.Table.{State}
use Rattle.vi_history.specs.declared.entry.Entry.{Entry}
use Rattle.vi_log.specs.Logs.{Stands, once_below}
use Rattle.vi_lines.specs.declared.line.Who.{Who}
use Rattle.vi_lines.specs.Value.{ScriptValue}
use Rattle.vi_lines.specs.Legal.{IsLegalHistory}
use Rattle.vi_lines.specs.Order.{IsOrderedSoFar}
use Rattle.vi_model.specs.Actors.{Actor}
use Rattle.vi_model.specs.Worlds.{World, actor_of}
use Rattle.vi_model.specs.Playable.{IsPlayable}
use Rattle.vi_model.specs.Sound.{IsSound}
use Rattle.vi_control.specs.Plan.{plan_of}
use Rattle.vi_turns.specs.Holding.{Held, TheControl, ThePage, Taken}
use Rattle.vi_turns.specs.Views.{who_of, first_actor, total, number_count, stamp_count, ticket_count, weight}
use Rattle.vi_turns.specs.declared.slot.Slot.{Slot}
use Rattle.vi_turns.specs.declared.slot.Slot.TheVariants as slot
use Rattle.vi_turns.specs.declared.view.View.{View}

-- ---- values and their places

-- the slot of a value: the first is the control's, and the pages' follow in order
abbrev pub slot_of : Held → ℕ
slot_of (TheControl c) = 0
slot_of (ThePage page bytes) = suc page

-- the lock word of a value: the one after its slot, since the first word is the ticket
abbrev pub word_of : Held → ℕ
word_of x = slot_of x + 1

-- the world has this value
abbrev pub Has : World → Held → Type 0
Has w (TheControl c) = w.control ≡ c
Has w (ThePage page bytes) = slice_get w.pages page ≡ Some bytes

-- what a slot has while this value is at home: the script's control in that state, or the page
abbrev pub Keeps : ScriptValue → Held → Slot → Type 0
Keeps s (TheControl c) (slot.Control v) = (v.state ≡ c) × (v.plan ≡ plan_of s)
Keeps s (TheControl c) (slot.Page b) = ⊥
Keeps s (TheControl c) slot.Out = ⊥
Keeps s (ThePage page bytes) (slot.Control v) = ⊥
Keeps s (ThePage page bytes) (slot.Page b) = b ≡ bytes
Keeps s (ThePage page bytes) slot.Out = ⊥

-- ---- who holds a value

-- the pass holds nothing of this slot
abbrev pub HoldsNot : ℕ → View → Type 0
HoldsNot k v = (y : Held) → v.held ≡ Some y → slot_of y ≢ k

-- the pass holds this value, and its lock word has the pass's number plus 1
pub record Holds (word : ℕ) (x : Held) (v : View) : Type 0 where
  pub live : v.live ≡ true
  pub held : v.held ≡ Some x
  pub word_is : word ≡ v.number + 1

-- A value is at home and its lock word is 0, or one pass records it as held, and the word is its number plus 1.
pub data Lock (s : ScriptValue) (views : List View) (word : ℕ) (home : maybe.Option (maybe.Option Slot)) (x : Held) : Type 0 where
  free : word ≡ 0 → (y : Slot) → home ≡ some (some y) → Keeps s x y → ((j : ℕ) (u : View) → get_elem? views j ≡ some u → HoldsNot (slot_of x) u) → Lock s views word home x
  held : (id : ℕ) (v : View) → get_elem? views id ≡ some v → Holds word x v → ((j : ℕ) (u : View) → j ≢ id → get_elem? views j ≡ some u → HoldsNot (slot_of x) u) → Lock s views word home x

-- ---- what a pass knows

-- the actor that the pass with this number acts for, if any, has this for itself
abbrev pub HasActor : ScriptValue → World → ℕ → Actor → Type 0
HasActor s w number a = (who : Who) → who_of s number ≡ Some who → actor_of s w who ≡ a

abbrev pub Each : {A : Type 0} → (A → Type 0) → List A → Type 0
Each P xs = AllByRecursion P xs

-- The entries of a pass that ended stand in the history, and its actor has no leases and this progress.
pub record IsTaken (s : ScriptValue) (w : World) (t : Taken) : Type 0 where
  pub log : Each (Stands w.history) t.log
  pub actor : HasActor s w t.number (record { leases = []; progress = t.progress })

-- What is so of each seat's view.
pub record Knows (s : ScriptValue) (w : World) (v : View) : Type 0 where
  pub script : v.live ≡ true → v.script ≡ s
  pub log : Each (Stands w.history) v.log
  pub taken : Each (IsTaken s w) v.taken
  pub actor : v.live ≡ true → HasActor s w v.number v.actor
  pub seen : v.seen ≤ length w.history
  pub above : Each (λ e. e.ticket < v.seen) v.log
  pub spent : v.live ≡ false → (v.log ≡ []) × (v.taken ≡ []) × (v.held ≡ None)

-- the first seat is the pass with the number 0
pub record IsFirst (views : List View) (v : View) : Type 0 where
  pub at : get_elem? views 0 ≡ some v
  pub live : v.live ≡ true
  pub number : v.number ≡ 0

-- ---- the rule

-- There is a sound world of the script, in which each pass's actor has what its view says, each value is at home or held
-- by one pass, and the history has each entry of all logs at its ticket, each ticket once.
pub record IsInOrder (s : ScriptValue) (st : State Slot View) : Type 0 where
  pub world : World
  pub zeroth : View
  pub playable : IsPlayable s
  pub sound : IsSound s world
  pub words : length st.words ≡ length world.pages + 2
  pub homes : length st.homes ≡ length world.pages + 1
  pub ticket : slice_index st.words 0 ≡ length world.history
  pub first : IsFirst st.views zeroth
  -- each number up to the last that was made is that of one pass, live or taken in
  pub numbers : (x : ℕ) → total (number_count x) st.views ≡ once_below x (zeroth.made + 1)
  pub weights : total weight st.views ≡ zeroth.made + 1
  pub tickets : (x : ℕ) → total (ticket_count x) st.views ≡ once_below x (length world.history)
  pub knows : (j : ℕ) (v : View) → get_elem? st.views j ≡ some v → Knows s world v
  -- the actors of passes that weren't split yet have done nothing
  pub unborn : (number : ℕ) → zeroth.made < number → HasActor s world number (first_actor s (who_of s number))
  pub locks : (x : Held) → Has world x → Lock s st.views (slice_index st.words (word_of x)) (get_elem? st.homes (slot_of x)) x

-- ---- what a step can tell of the world

-- The pass's actor is one of a sound world, and the pass's entries stand in its history, their tickets each once.
pub record IsPlacedIn (world : World) (v : View) : Type 0 where
  pub playable : IsPlayable v.script
  pub sound : IsSound v.script world
  pub actor : HasActor v.script world v.number v.actor
  pub log : Each (Stands world.history) v.log
  pub once : (x : ℕ) → stamp_count x v.log ≤ 1

-- There is such a world,
pub record IsPlaced (v : View) : Type 0 where
  pub world : World
  pub placed : IsPlacedIn world v

-- and it has this value.
pub record IsSoundAt (v : View) (x : Held) : Type 0 where
  pub world : World
  pub placed : IsPlacedIn world v
  pub has : Has world x

-- Once a ticket was drawn, the history ends with it, is legal and in order so far, and the pass's entries stand in it.
pub record Told (s : ScriptValue) (ticket : ℕ) (v : View) : Type 0 where
  pub history : List Entry
  pub legal : IsLegalHistory s history
  pub ordered : IsOrderedSoFar s history
  pub long : length history ≡ ticket + 1
  pub own : Each (Stands history) v.log
