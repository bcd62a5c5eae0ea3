-- The world of a script: what is shared, what each actor has, the memory, and the history.
use Rattle.std.specs.Prelude.{ℕ, List, [], get_or, set, replicate, None}
use Rattle.vi_history.specs.Start.{start_dev, start}
use Rattle.vi_history.specs.declared.entry.Entry.{Entry}
use Rattle.vi_lines.specs.declared.line.Who.{Who}
use Rattle.vi_lines.specs.declared.line.Who.TheVariants as who
use Rattle.vi_lines.specs.Value.{ScriptValue}
use Rattle.vi_model.specs.Control.{Control, no_port, no_lanes, driver_count}
use Rattle.vi_model.specs.Places.{place_count, place_of}
use Rattle.vi_model.specs.Drivers.{Stand, no_stand}
use Rattle.vi_model.specs.Backs.{Seat, no_seat}
use Rattle.vi_model.specs.Actors.{Actor, seat_in, stand_in, back_actor, driver_actor, other_actor}
use Rattle.vi_model.specs.Rooms.{all_maps, all_parts, all_transfers}

-- stands by the drivers' numbers, seats by the back ends' places, and the bytes of each memory page
pub record World : Type 0 where
  pub control : Control
  pub stands : List Stand
  pub seats : List Seat
  pub pages : List (List ℕ)
  pub history : List Entry

abbrev pub stand_of : World → ℕ → Stand
stand_of w driver = get_or w.stands driver no_stand

abbrev pub seat_of : World → ℕ → Seat
seat_of w place = get_or w.seats place no_seat

-- what an actor has
abbrev pub actor_of : ScriptValue → World → Who → Actor
actor_of s w (who.Driver number) = driver_actor (stand_of w number)
actor_of s w (who.Back id) = back_actor (seat_of w (place_of s id))
actor_of s w who.Device = other_actor
actor_of s w who.Events = other_actor

-- the world with this for the actor
abbrev pub with_actor : ScriptValue → Who → Actor → World → World
with_actor s (who.Driver number) a w = record w { stands = set w.stands number (stand_in a.progress) }
with_actor s (who.Back id) a w = record w { seats = set w.seats (place_of s id) (seat_in a) }
with_actor s who.Device a w = w
with_actor s who.Events a w = w

-- at first nothing is queued, granted, cached or finished, and there is room for all mappings, grants and records that
-- the script can make
abbrev pub opening_control : ScriptValue → Control
opening_control s = record {
  dev = start_dev s.setup;
  mappings = all_maps s;
  queue = [];
  ports = replicate driver_count no_port;
  removals = [];
  grants = replicate (place_count s) [];
  spares = replicate (place_count s) (all_parts s);
  mail = replicate (place_count s) no_lanes;
  parked = replicate (place_count s) None;
  posted = replicate (place_count s) 0;
  events = record { shown = []; waiting = []; dropped = 0; room = all_transfers s };
}

unfoldable pub opening : ScriptValue → World
opening s = record {
  control = opening_control s;
  stands = replicate driver_count no_stand;
  seats = replicate (place_count s) no_seat;
  pages = (start s.setup).memory;
  history = [];
}
