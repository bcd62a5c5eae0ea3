-- Actors: what each has for itself, beside what is shared.
use Rattle.std.specs.Prelude.{ℕ, Bool, List, []}
use Rattle.vi_bytes.specs.declared.lease.Lease.{Lease}
use Rattle.vi_model.specs.Drivers.{Stand, no_stand}
use Rattle.vi_model.specs.Backs.{Seat, no_seat}

-- how far a back end is: its seat without the cache
pub record Steps : Type 0 where
  pub finished : ℕ
  pub done : ℕ
  pub ready : Bool
  pub asking : Bool
  pub since : ℕ
  pub told : ℕ

-- how far an actor is; the device and the event reader keep nothing
pub data Progress : Type 0 where
  Drives : (stand : Stand) → Progress
  Backs : (steps : Steps) → Progress
  Alone : Progress

-- the leases that an actor caches, and its progress
pub record Actor : Type 0 where
  pub leases : List Lease
  pub progress : Progress

abbrev pub steps_of : Seat → Steps
steps_of z = record { finished = z.finished; done = z.done; ready = z.ready; asking = z.asking; since = z.since; told = z.told }

abbrev pub seat_from : List Lease → Steps → Seat
seat_from leases x = record { finished = x.finished; done = x.done; ready = x.ready; asking = x.asking; since = x.since; told = x.told; cache = leases }

abbrev pub no_steps : Steps
no_steps = steps_of no_seat

-- a driver's progress
abbrev pub stand_in : Progress → Stand
stand_in (Drives stand) = stand
stand_in (Backs steps) = no_stand
stand_in Alone = no_stand

-- a back end's progress
abbrev pub steps_in : Progress → Steps
steps_in (Drives stand) = no_steps
steps_in (Backs steps) = steps
steps_in Alone = no_steps

-- the seat of a back end, and the back end of a seat
abbrev pub seat_in : Actor → Seat
seat_in a = seat_from a.leases (steps_in a.progress)

abbrev pub back_actor : Seat → Actor
back_actor z = record { leases = z.cache; progress = Backs (steps_of z) }

abbrev pub driver_actor : Stand → Actor
driver_actor d = record { leases = []; progress = Drives d }

abbrev pub other_actor : Actor
other_actor = record { leases = []; progress = Alone }
