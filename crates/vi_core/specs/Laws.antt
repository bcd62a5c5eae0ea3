-- What is known of every sound world's turns: an actor's turn finds the room that it needs.
use Rattle.std.specs.Prelude.{◌≡◌, ◌<◌, ℕ, length}
use Rattle.vi_bytes.specs.declared.lease.Lease.{Lease}
use Rattle.vi_lines.specs.Value.{ScriptValue}
use Rattle.vi_model.specs.Backs.{Access, Accesses, wish, target_of}
use Rattle.vi_model.specs.Control.{driver_count}
use Rattle.vi_model.specs.Places.{place_count}
use Rattle.vi_model.specs.Playable.{IsPlayable}
use Rattle.vi_model.specs.Sound.{IsSound}
use Rattle.vi_model.specs.Worlds.{World, stand_of, seat_of}
use Rattle.vi_driver.specs.Drivers.{own_driver}
use Rattle.vi_backend.specs.Own.{Own, IsOwn, IsBackOf}
use Rattle.vi_control.specs.Plan.{plan_of}
use Rattle.vi_core.specs.DriverTurns.{HasDriveRoom}
use Rattle.vi_core.specs.BackTurns.{HasConverseRoom}

-- a driver's turn finds its room
abbrev pub DrivesFit : Type 0
DrivesFit = (s : ScriptValue) (w : World) (n : ℕ) → IsPlayable s → IsSound s w → n < driver_count → HasDriveRoom (plan_of s) w.control (own_driver s n (stand_of w n))

-- a back end's turn under control finds its room
abbrev pub ConversesFit : Type 0
ConversesFit = (s : ScriptValue) (w : World) (place : ℕ) (b : Own) → IsPlayable s → IsSound s w → place < place_count s → IsBackOf s place b → IsOwn b → b.seat ≡ seat_of w place
    → HasConverseRoom (plan_of s) w.control place b

-- the page of the memory that a back end's wish accesses is there
abbrev pub PagesAreThere : Type 0
PagesAreThere = (s : ScriptValue) (w : World) (place : ℕ) (l : Lease) (a : Access) → IsPlayable s → IsSound s w → place < place_count s
    → wish s place (seat_of w place) ≡ Accesses l a → target_of l a < length w.pages
