-- The parts of a world, and what ties them to its script.
use Rattle.std.specs.Prelude.{◌≡◌, ◌<◌, ◌+◌, ℕ, List, [], length, get_or, map, sum_by}
use Rattle.vi_history.specs.declared.call.Caller.TheVariants.{Driver}
use Rattle.vi_history.specs.declared.entry.Entry.{Entry}
use Rattle.vi_lines.specs.Value.{ScriptValue}
use Rattle.vi_lines.specs.Calls.{lines_of}
use Rattle.vi_model.specs.Control.{driver_count}
use Rattle.vi_model.specs.Places.{place_count}
use Rattle.vi_model.specs.Drivers.{no_stand}
use Rattle.vi_model.specs.Backs.{no_seat}
use Rattle.vi_model.specs.Worlds.{World}
use Rattle.vi_model.specs.Rounds.{calls_of}
use Rattle.vi_model.specs.Playable.{IsPlayable}
use Rattle.vi_model.specs.Sound.{IsSound}
use Rattle.vi_driver.specs.Drivers.{OwnDriver}
use Rattle.vi_backend.specs.Own.{Own, IsOwn, IsBackOf}
use Rattle.vi_control.specs.Plan.{plan_of}
use Rattle.vi_control.specs.Value.{ControlValue}
use Rattle.vi_core.specs.Histories.{HistoryValue}
use Rattle.vi_core.specs.HistoryRoom.{bytes_of}
use Rattle.vi_core.specs.Running.{Running}

-- the script, the control, the drivers by number, the back ends by place, the memory's pages and the history
pub record Parts : Type 0 where
  pub script : ScriptValue
  pub control : ControlValue
  pub drivers : List OwnDriver
  pub backs : List Own
  pub pages : List (List ℕ)
  pub history : HistoryValue

-- the model's world of these parts
abbrev pub world_of : Parts → World
world_of p = record {
  control = let c : ControlValue = p.control in c.state;
  stands = map (λ d. d.stand) p.drivers;
  seats = map (λ b. b.seat) p.backs;
  pages = p.pages;
  history = let h : HistoryValue = p.history in h.entries;
}

abbrev pub running : Parts → Running
running p = record { script = p.script; world = world_of p }

-- where there is none
abbrev pub no_driver : OwnDriver
no_driver = record { number = 0; lines = []; stand = no_stand }

abbrev pub no_back : Own
no_back = record { id = 0; lines = []; awaited = []; capacity = 0; seat = no_seat }

-- it is the script's driver of this number
pub record IsDriverOf (s : ScriptValue) (number : ℕ) (d : OwnDriver) : Type 0 where
  pub number_is : d.number ≡ number
  pub lines_are : d.lines ≡ lines_of s (Driver number)

-- it is the script's back end at this place
pub record IsBackAt (s : ScriptValue) (place : ℕ) (b : Own) : Type 0 where
  pub back : IsBackOf s place b
  pub own : IsOwn b

-- with what is left, there is room for an entry of each call of the script, and for all bytes that they can have
pub record HasHistoryRoom (s : ScriptValue) (h : HistoryValue) : Type 0 where
  pub entries : length h.entries + h.spare_entries ≡ calls_of s
  pub bytes : sum_by (λ (e : Entry). length e.bytes) h.entries + h.spare_bytes ≡ bytes_of s

-- What is so of a world's parts: all are of one script that can be played, they are a sound world, and there is room
-- for what is left of the history.
pub record IsKept (p : Parts) : Type 0 where
  pub playable : IsPlayable p.script
  pub plan : (let c : ControlValue = p.control in c.plan) ≡ plan_of p.script
  pub drivers : (number : ℕ) → number < driver_count → IsDriverOf p.script number (get_or p.drivers number no_driver)
  pub backs : (place : ℕ) → place < place_count p.script → IsBackAt p.script place (get_or p.backs place no_back)
  pub sound : IsSound p.script (world_of p)
  pub room : HasHistoryRoom p.script p.history
