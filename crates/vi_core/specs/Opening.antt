-- The back ends, and a whole world, before their first turns.
use Rattle.std.specs.Prelude.{◌≡◌, ◌<◌, ℕ, List, [], length, get_or, map}
use Rattle.std.specs.List.{range_with_len}
use Rattle.vi_history.specs.Start.{start}
use Rattle.vi_lines.specs.Value.{ScriptValue}
use Rattle.vi_model.specs.Backs.{no_seat}
use Rattle.vi_model.specs.Drivers.{no_stand}
use Rattle.vi_model.specs.Places.{place_count}
use Rattle.vi_model.specs.Rounds.{calls_of}
use Rattle.vi_model.specs.Worlds.{opening_control}
use Rattle.vi_driver.specs.Drivers.{own_driver}
use Rattle.vi_backend.specs.Own.{Own, IsOwn, IsBackOf}
use Rattle.vi_control.specs.Plan.{plan_of}
use Rattle.vi_control.specs.Value.{ControlValue}
use Rattle.vi_core.specs.HistoryRoom.{bytes_of}
use Rattle.vi_core.specs.Parts.{Parts, no_back}

-- it is the back end at this place, and has done nothing
pub record IsNew (s : ScriptValue) (place : ℕ) (b : Own) : Type 0 where
  pub back : IsBackOf s place b
  pub own : IsOwn b
  pub seat_is : b.seat ≡ no_seat

-- one for each of so many places
pub record AreNew (s : ScriptValue) (places : ℕ) (backs : List Own) : Type 0 where
  pub count : length backs ≡ places
  pub each : (place : ℕ) → place < places → IsNew s place (get_or backs place no_back)

-- the parts of a world that is built
pub record IsBuilt (p : Parts) : Type 0 where
  pub plan : (let c : ControlValue = p.control in c.plan) ≡ plan_of p.script
  pub state : (let c : ControlValue = p.control in c.state) ≡ opening_control p.script
  pub drivers : p.drivers ≡ map (λ number. own_driver p.script number no_stand) (range_with_len 0 8)
  pub backs : AreNew p.script (place_count p.script) p.backs
  pub pages : p.pages ≡ (start p.script.setup).memory
  pub history : p.history ≡ record { entries = []; spare_entries = calls_of p.script; spare_bytes = bytes_of p.script }
