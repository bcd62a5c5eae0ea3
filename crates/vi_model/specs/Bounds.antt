-- How much there is at most, and that there is room for what a turn adds.
use Rattle.std.specs.Prelude.{◌≡◌, ◌⊎◌, ◌^◌, ◌+◌, ◌<◌, ◌≤◌, ℕ, true, List, [], ◌∷◌, length, sum_by, Option, Some, None}
use Rattle.vi_bytes.specs.declared.span.Span.{Span}
use Rattle.vi_history.specs.declared.call.Caller.TheVariants.{Driver}
use Rattle.vi_lines.specs.declared.line.Line.{Line}
use Rattle.vi_lines.specs.Value.{ScriptValue}
use Rattle.vi_lines.specs.Calls.{line_of}
use Rattle.std.specs.List.{list_any}
use Rattle.vi_model.specs.Removals.{waits_for}
use Rattle.vi_model.specs.Lanes.{Down, Invalidate, Miss}
use Rattle.vi_model.specs.Grants.{lease_under}
use Rattle.vi_model.specs.Control.{Queued, Setting, Port, Link, Control, Started, driver_count, port_of, link_of}
use Rattle.vi_model.specs.Places.{place_count}
use Rattle.vi_model.specs.Starts.{queued_call, setting_call}
use Rattle.vi_model.specs.Serves.{page_of}
use Rattle.vi_model.specs.Drivers.{Stand, is_one_batch}
use Rattle.vi_model.specs.Backs.{Asks, wish}
use Rattle.vi_model.specs.Asking.{count_option}
use Rattle.vi_model.specs.Held.{count_answers}
use Rattle.vi_model.specs.Worlds.{World, stand_of, seat_of}
use Rattle.vi_model.specs.Rooms.{is_map, mappings_in}
use Rattle.vi_model.specs.Playable.{IsPlayable}
use Rattle.vi_model.specs.Sound.{IsSound}
use Rattle.vi_model.specs.Whole.{IsWholeDev}

-- a sound world's history has fewer entries than a ticket of 64 bits can count
abbrev pub HistoryFits : Type 0
HistoryFits = (s : ScriptValue) (w : World) → IsPlayable s → IsSound s w → length w.history < 2 ^ 64

-- the queued requests and the open removals are at most 8 together
abbrev pub CallsFit : Type 0
CallsFit = (s : ScriptValue) (w : World) → IsPlayable s → IsSound s w → length w.control.queue + length w.control.removals ≤ 8

-- how many calls of drivers are open: queued, waiting in a removal, left as a setting, and answered
abbrev pub open_calls : Control → ℕ
open_calls c = length c.queue + length c.removals + sum_by (λ p. count_option p.setting + length p.answered) c.ports

abbrev pub OpenCallsFit : Type 0
OpenCallsFit = (s : ScriptValue) (w : World) → IsPlayable s → IsSound s w → open_calls w.control ≤ 8

-- There is room for a driver's next line: for a call more, and for its setting.
pub record HasSubmitRoom (c : Control) (driver : ℕ) : Type 0 where
  pub call : open_calls c < 8
  pub setting : (let p : Port = port_of c driver in p.setting) ≡ None

-- a driver whose open lines are all of its next line's batch finds it
abbrev pub SubmitsFit : Type 0
SubmitsFit = (s : ScriptValue) (w : World) (driver : ℕ) (l : Line) → IsPlayable s → IsSound s w → driver < driver_count
    → line_of s (Driver driver) ((let d : Stand = stand_of w driver in d.submitted) + 1) ≡ Some l → is_one_batch s driver (stand_of w driver) ≡ true
    → HasSubmitRoom w.control driver

-- no line of a driver is answered twice
abbrev pub AnswersOnce : Type 0
AnswersOnce = (s : ScriptValue) (w : World) (driver line : ℕ) → IsSound s w → driver < driver_count → count_answers line (let p : Port = port_of w.control driver in p.answered) ≤ 1

-- a back end's lanes have at most 9 frames down and 8 acknowledgements up, and one miss and one reply
pub record HasFewFrames (x : Link) : Type 0 where
  pub down : length x.down ≤ 9
  pub acks : x.acks ≤ 8
  pub up : length x.up ≤ 1
  pub replies : length x.replies ≤ 1

abbrev pub LanesFit : Type 0
LanesFit = (s : ScriptValue) (w : World) (place : ℕ) → IsPlayable s → IsSound s w → place < place_count s → HasFewFrames (link_of w.control place)

-- There is room for a call that starts, with so many back ends: for its removal and the Invalidates of it, and for its
-- mapping.
pub record HasStartRoom (places : ℕ) (c : Control) (call : Started) : Type 0 where
  pub removal : length c.removals < 8
  pub lanes : (place : ℕ) → place < places → (let x : Link = link_of c place in length x.down) ≤ 8
  pub mapping : is_map (Some call.task) ≡ true → (domain : ℕ) → mappings_in domain c.dev.domains + 1 ≤ c.mappings

abbrev pub RequestsFit : Type 0
RequestsFit = (s : ScriptValue) (w : World) (q : Queued) (rest : List Queued) → IsPlayable s → IsSound s w → w.control.queue ≡ q ∷ rest → HasStartRoom (place_count s) w.control (queued_call q)

abbrev pub SettingsFit : Type 0
SettingsFit = (s : ScriptValue) (w : World) (driver : ℕ) (x : Setting) → IsPlayable s → IsSound s w → driver < driver_count → (let p : Port = port_of w.control driver in p.setting) ≡ Some x
    → HasStartRoom (place_count s) w.control (setting_call driver x)

-- a miss is on its way up, or parked
abbrev pub IsThere : Link → Miss → Type 0
IsThere x m = ((rest : List Miss) × (x.up ≡ m ∷ rest)) ⊎ (x.parked ≡ Some m)

-- There is room to serve a miss: for a grant under its page, for the Update and the Reply, and for a record.
pub record HasMissRoom (c : Control) (x : Link) (m : Miss) : Type 0 where
  pub grant : lease_under (page_of m.iova) x.grants ≡ None → 1 ≤ x.spare
  pub update : length x.down ≤ 8
  pub reply : x.replies ≡ []
  pub shown : 1 ≤ c.events.room
  pub faults : length c.events.shown + c.events.dropped < 10000
  pub alone : length x.up + count_option x.parked ≤ 1

abbrev pub MissesFit : Type 0
MissesFit = (s : ScriptValue) (w : World) (place : ℕ) (m : Miss) → IsPlayable s → IsSound s w → place < place_count s → IsThere (link_of w.control place) m
    → HasMissRoom w.control (link_of w.control place) m

-- a back end that asks has no other miss on its way up, and none parked
abbrev pub AsksFit : Type 0
AsksFit = (s : ScriptValue) (w : World) (place : ℕ) (m : Miss) → IsSound s w → place < place_count s → wish s place (seat_of w place) ≡ Asks m
    → ((let x : Link = link_of w.control place in x.up) ≡ []) × ((let x : Link = link_of w.control place in x.parked) ≡ None)

-- a back end that takes an Invalidate finds room for the acknowledgement
abbrev pub AcksFit : Type 0
AcksFit = (s : ScriptValue) (w : World) (place : ℕ) (reach : Option Span) (rest : List Down) → IsPlayable s → IsSound s w → place < place_count s
    → (let x : Link = link_of w.control place in x.down) ≡ Invalidate reach ∷ rest → (let x : Link = link_of w.control place in x.acks) < 8

-- where an acknowledgement is under way, a removal waits for its back end
abbrev pub AcksAreAwaited : Type 0
AcksAreAwaited = (s : ScriptValue) (w : World) (place : ℕ) → IsSound s w → place < place_count s → 0 < (let x : Link = link_of w.control place in x.acks)
    → list_any (waits_for place) w.control.removals ≡ true

-- a sound world's mappings are whole pages
abbrev pub MappingsAreWhole : Type 0
MappingsAreWhole = (s : ScriptValue) (w : World) → IsSound s w → IsWholeDev w.control.dev
