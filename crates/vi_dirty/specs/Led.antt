-- A tracker that is led through entries of a script's history.
use Rattle.std.specs.Prelude.{◌≡◌, ℕ, ◌-◌, ◌≤◌, List, [], ◌∷◌, Option, Some, None, sum_by}
use Rattle.vi_history.specs.Device.{One}
use Rattle.vi_history.specs.Histories.{answer_of}
use Rattle.vi_history.specs.Replies.{reply, next}
use Rattle.vi_history.specs.declared.call.Call.{Call}
use Rattle.vi_history.specs.declared.entry.Entry.{Entry}
use Rattle.vi_lines.specs.Calls.{call_of}
use Rattle.vi_lines.specs.Value.{ScriptValue}
use Rattle.vi_state.specs.Followed.{IsFollowed, maps_made}
use Rattle.vi_state.specs.Written.{page_set}
use Rattle.vi_dirty.specs.Marks.{PageSetValue}
use Rattle.vi_dirty.specs.Tracked.{TrackerValue, fed}

-- the call of the script that an entry answers
abbrev pub called : ScriptValue → Entry → Option Call
called s h = call_of s h.mark.caller h.mark.line h.mark.part

-- the tracker after an entry that answers this call, if it is one
abbrev pub fed_if : TrackerValue → Entry → Option Call → TrackerValue
fed_if t h None = t
fed_if t h (Some c) = fed t c h

-- the tracker after the entries
abbrev pub led : ScriptValue → TrackerValue → List Entry → TrackerValue
led s t [] = t
led s t (h ∷ hs) = led s (fed_if t h (called s h)) hs

-- how many mappings a call made that was answered so, if it is one
abbrev pub maps_by : Entry → Option Call → ℕ
maps_by h None = 0
maps_by h (Some c) = maps_made c h

-- how many mappings the calls of the entries made
abbrev pub maps_in : ScriptValue → List Entry → ℕ
maps_in s hs = sum_by (λ h. maps_by h (called s h)) hs

-- each entry answers a call of the script that can be followed, as the one-thread device does in this state, and there is room
-- for the mappings
abbrev pub IsReady : ScriptValue → One → ℕ → List Entry → Type 0
IsReady s one spare [] = Unit {0}
IsReady s one spare (h ∷ hs) =
    (c : Call) × (called s h ≡ Some c) × IsFollowed one c × (answer_of h ≡ reply one c) × (maps_made c h ≤ spare) × IsReady s (next one c) (spare - maps_made c h) hs

-- the entries can be followed, nothing was written since pages were last taken, and there is a set for the pages of all rounds
pub record CanGo (s : ScriptValue) (t : TrackerValue) (all : PageSetValue) (hs : List Entry) : Type 0 where
  pub ready : IsReady s t.one t.spare hs
  pub fresh : t.set ≡ []
  pub room : all.room ≡ t.one.dev.pages
  pub set : page_set all.room all.pages ≡ all.pages
