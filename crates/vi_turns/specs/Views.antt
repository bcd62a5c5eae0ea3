-- What a pass knows, and what each step makes of it.
use Rattle.std.specs.Prelude.{◌==◌, ℕ, zero, suc, ◌+◌, Bool, true, false, if◌then◌else◌, List, [], ◌∷◌, ◌++◌, length, slice_get, Option, Some, None}
use Rattle.vi_history.specs.declared.entry.Entry.{Entry}
use Rattle.vi_log.specs.Logs.{Ticketed}
use Rattle.vi_lines.specs.declared.line.Who.{Who}
use Rattle.vi_lines.specs.Value.{ScriptValue}
use Rattle.vi_model.specs.Control.{Control}
use Rattle.vi_model.specs.Actors.{Actor, other_actor}
use Rattle.vi_model.specs.Worlds.{actor_of, opening}
use Rattle.vi_model.specs.Turns.{Waiting, ControlTurn, stays, control_turn, accesses, AccessTurn, no_access, access_turn}
use Rattle.vi_model.specs.Rounds.{actors}
use Rattle.vi_turns.specs.Holding.{Held, TheControl, ThePage, Taken, Last, no_script, no_last}
use Rattle.vi_turns.specs.declared.view.View.{View}

-- ---- which actor a pass acts for

-- the pass with number 0 acts for none, and the others for the actors of the script in order
abbrev pub who_of : ScriptValue → ℕ → Option Who
who_of s zero = None
who_of s (suc i) = slice_get (actors s) i

-- what an actor has before its first turn
abbrev pub first_actor : ScriptValue → Option Who → Actor
first_actor s None = other_actor
first_actor s (Some who) = actor_of s (opening s) who

-- its turn under this control; where there is no actor, all stays
abbrev pub turn_by : ScriptValue → Option Who → Control → Actor → ControlTurn
turn_by s None c a = stays Waiting c a
turn_by s (Some who) c a = control_turn s who c a

-- its turn is an access of this page
abbrev pub accesses_by : ScriptValue → Option Who → ℕ → Actor → Bool
accesses_by s None page a = false
accesses_by s (Some who) page a = accesses s who page a

-- its access of a page with these bytes
abbrev pub access_by : ScriptValue → Option Who → Actor → List ℕ → AccessTurn
access_by s None a bytes = no_access a bytes
access_by s (Some who) a bytes = access_turn s who a bytes

-- so of the actor that a pass acts for
abbrev pub acts_for : View → Option Who
acts_for v = who_of v.script v.number

abbrev pub turn_of : View → Control → ControlTurn
turn_of v c = turn_by v.script (acts_for v) c v.actor

abbrev pub accesses_of : View → ℕ → Bool
accesses_of v page = accesses_by v.script (acts_for v) page v.actor

abbrev pub access_of : View → List ℕ → AccessTurn
access_of v bytes = access_by v.script (acts_for v) v.actor bytes

-- ---- counts over views

abbrev pub total : {A : Type 0} → (A → ℕ) → List A → ℕ
total f [] = 0
total f (x ∷ xs) = f x + total f xs

abbrev pub same : ℕ → ℕ → ℕ
same x y = if y == x then 1 else 0

-- how often x is the number of this pass, or of one that it took in
abbrev pub number_count : ℕ → View → ℕ
number_count x v = (if v.live then same x v.number else 0) + total (λ (t : Taken). same x t.number) v.taken

-- how often x is a ticket of these entries
abbrev pub stamp_count : ℕ → List Ticketed → ℕ
stamp_count x es = total (λ (e : Ticketed). same x e.ticket) es

-- how often x is a ticket of this pass, or of one that it took in
abbrev pub ticket_count : ℕ → View → ℕ
ticket_count x v = stamp_count x v.log + total (λ (t : Taken). stamp_count x t.log) v.taken

-- how many passes it stands for
abbrev pub weight : View → ℕ
weight v = (if v.live then 1 else 0) + length v.taken

-- ---- the first pass, and what the steps make of a pass

abbrev pub first : ScriptValue → View
first s = record {
  script = s;
  live = true;
  number = 0;
  made = 0;
  log = [];
  taken = [];
  actor = other_actor;
  held = None;
  stamped = false;
  seen = 0;
  control_turns = 0;
  lost = None;
  won = None;
  remembers = None;
}

-- a pass that has ended
abbrev pub spent : View
spent = record {
  script = no_script;
  live = false;
  number = 0;
  made = 0;
  log = [];
  taken = [];
  actor = other_actor;
  held = None;
  stamped = false;
  seen = 0;
  control_turns = 0;
  lost = None;
  won = None;
  remembers = None;
}

-- it lost an exchange on this word, where this number was found
abbrev pub lost : View → ℕ → ℕ → View
lost v word found = record v { lost = Some (record { word = word; found = found }) }

-- it looked at the ticket word
abbrev pub fronted : View → ℕ → View
fronted v found = record v { seen = found }

-- it won the control
abbrev pub won_control : View → Control → View
won_control v c = record v { held = Some (TheControl c); stamped = false; control_turns = v.control_turns + 1; won = Some c }

-- it won a page
abbrev pub won_page : View → ℕ → List ℕ → View
won_page v page bytes = record v { held = Some (ThePage page bytes); stamped = false }

-- the entries that were made by the turn with this ticket
abbrev pub logged : ℕ → Option Entry → List Ticketed
logged ticket None = []
logged ticket (Some e) = record { ticket = ticket; entry = e } ∷ []

-- it stamped what this turn under control made, and records what the turn leaves
abbrev pub stamped_turn : View → ℕ → ControlTurn → View
stamped_turn v ticket t = record v { log = v.log ++ logged ticket t.entry; actor = t.actor; held = Some (TheControl t.control); stamped = true; seen = ticket + 1 }

-- it stamped what this access of a page made
abbrev pub stamped_access : View → ℕ → ℕ → AccessTurn → View
stamped_access v ticket page t = record v { log = v.log ++ logged ticket t.entry; actor = t.actor; held = Some (ThePage page t.page); stamped = true; seen = ticket + 1 }

abbrev pub stamped_by : View → ℕ → Option Held → View
stamped_by v ticket None = v
stamped_by v ticket (Some (TheControl c)) = stamped_turn v ticket (turn_of v c)
stamped_by v ticket (Some (ThePage page bytes)) = stamped_access v ticket page (access_of v bytes)

-- it drew this ticket for the entry of its turn on what it holds
abbrev pub stamped : View → ℕ → View
stamped v ticket = stamped_by v ticket v.held

-- The control that the pass has to give back, and what its actor has afterwards. Where it has stamped since it won the
-- control, both stay as it records them; where it hasn't, the whole turn happens now.
abbrev pub due_control : View → Control → Control
due_control v c = if v.stamped then c else (turn_of v c).control

abbrev pub due_actor : View → Control → Actor
due_actor v c = if v.stamped then v.actor else (turn_of v c).actor

-- it gave back what it held
abbrev pub gave : View → Actor → View
gave v a = record v { held = None; stamped = false; actor = a }

abbrev pub gave_by : View → Option Held → View
gave_by v None = v
gave_by v (Some (TheControl c)) = gave v (due_actor v c)
gave_by v (Some (ThePage page bytes)) = gave v v.actor

abbrev pub gave_back : View → View
gave_back v = gave_by v v.held

-- a pass was split from it, and that pass: it has seen what this one has
abbrev pub split_left : View → View
split_left v = record v { made = v.made + 1 }

abbrev pub split_right : View → View
split_right v = record v {
  number = v.made + 1;
  made = 0;
  log = [];
  taken = [];
  actor = first_actor v.script (who_of v.script (v.made + 1));
  held = None;
  stamped = false;
  control_turns = 0;
  lost = None;
  won = None;
  remembers = None;
}

-- it took in a pass that ended
abbrev pub taken_of : View → Taken
taken_of w = record { number = w.number; log = w.log; progress = w.actor.progress }

abbrev pub joined : View → View → View
joined v w = record v { taken = v.taken ++ taken_of w ∷ w.taken }

-- ---- what outlives the table

abbrev pub last_of : View → Last
last_of v = record {
  script = v.script;
  number = v.number;
  made = v.made;
  log = v.log;
  taken = v.taken;
  actor = v.actor;
  held = v.held;
  stamped = v.stamped;
  seen = v.seen;
  control_turns = v.control_turns;
  lost = v.lost;
  won = v.won;
}

-- no pass, but what remembers a view
abbrev pub keepsake : View → View
keepsake v = record spent { remembers = Some (last_of v) }

abbrev pub itself : View → View
itself v = v

abbrev pub remembered : Option Last → Last
remembered None = no_last
remembered (Some l) = l
