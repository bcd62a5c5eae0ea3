-- What the device, the drivers and the back ends share: the device's state, the request queue, and a row for each
-- driver and for each back end.
use Rattle.std.specs.Prelude.{ℕ, Bool, List, [], Option, None, get_or, set}
use Rattle.vi_history.specs.Device.{Dev}
use Rattle.vi_history.specs.Replies.{Answer}
use Rattle.vi_history.specs.declared.outcome.Shown.{Shown}
use Rattle.vi_history.specs.declared.entry.Entry.{Entry}
use Rattle.vi_model.specs.declared.task.Task.{Task}
use Rattle.vi_model.specs.Lanes.{Down, Miss, Lanes}
use Rattle.vi_grants.specs.declared.row.Grant.{Grant}
use Rattle.vi_model.specs.Removals.{Removal}

-- there are 8 drivers, some without lines
abbrev pub driver_count : ℕ
driver_count = 8

-- a driver's line in the request queue: the device-readable bytes, and the size of the writable part
pub record Queued : Type 0 where
  pub driver : ℕ
  pub line : ℕ
  pub read : List ℕ
  pub write : ℕ

-- a driver's line that sets the bypass field
pub record Setting : Type 0 where
  pub line : ℕ
  pub on : Bool

-- a driver's line that the device has answered and the driver has not collected
pub record Answered : Type 0 where
  pub line : ℕ
  pub answer : Answer

-- a driver's row: the setting that it left, what is answered, and how many of its first lines are all finished
pub record Port : Type 0 where
  pub setting : Option Setting
  pub answered : List Answered
  pub posted : ℕ

-- a back end's row: its grants and for how many more there is room, its four lanes, its parked miss, and how many
-- of its lines are finished, as it last posted it
pub record Link : Type 0 where
  pub grants : List Grant
  pub spare : ℕ
  pub down : List Down
  pub acks : ℕ
  pub up : List Miss
  pub replies : List Bool
  pub parked : Option Miss
  pub posted : ℕ

-- the fault records that were delivered, those of them that nobody has read, how many were dropped, and for how many
-- more there is room; a record's entry is the number of its fault, from 1
pub record Events : Type 0 where
  pub shown : List Shown
  pub waiting : List Shown
  pub dropped : ℕ
  pub room : ℕ

-- The rows of drivers by number, in one table, and those of back ends by place, in five. Each domain has room for so
-- many mappings, its own included.
pub record Control : Type 0 where
  pub dev : Dev
  pub mappings : ℕ
  pub queue : List Queued
  pub ports : List Port
  pub removals : List Removal
  pub grants : List (List Grant)
  pub spares : List ℕ
  pub mail : List Lanes
  pub parked : List (Option Miss)
  pub posted : List ℕ
  pub events : Events

abbrev pub no_port : Port
no_port = record { setting = None; answered = []; posted = 0 }

abbrev pub no_lanes : Lanes
no_lanes = record { down = []; acks = 0; up = []; replies = [] }

-- the row of a driver
abbrev pub port_of : Control → ℕ → Port
port_of c driver = get_or c.ports driver no_port

-- the row of a back end of these tables' entries
abbrev pub joined : List Grant → ℕ → Lanes → Option Miss → ℕ → Link
joined grants spare lanes parked posted =
    record { grants = grants; spare = spare; down = lanes.down; acks = lanes.acks; up = lanes.up; replies = lanes.replies; parked = parked; posted = posted }

-- the row of the back end at a place
abbrev pub link_of : Control → ℕ → Link
link_of c place = joined (get_or c.grants place []) (get_or c.spares place 0) (get_or c.mail place no_lanes) (get_or c.parked place None) (get_or c.posted place 0)

-- the four lanes of a row
abbrev pub lanes_of : Link → Lanes
lanes_of x = record { down = x.down; acks = x.acks; up = x.up; replies = x.replies }

-- the control with this row for the back end at the place
abbrev pub with_link : Control → ℕ → Link → Control
with_link c place x = record c {
  grants = set c.grants place x.grants;
  spares = set c.spares place x.spare;
  mail = set c.mail place (lanes_of x);
  parked = set c.parked place x.parked;
  posted = set c.posted place x.posted;
}

-- the control with this row for the driver
abbrev pub with_port : Control → ℕ → Port → Control
with_port c driver p = record c { ports = set c.ports driver p }

-- a line of a driver that the device starts
pub record Started : Type 0 where
  pub driver : ℕ
  pub line : ℕ
  pub task : Task

-- a turn under control, and the entry that it makes
pub record Made : Type 0 where
  pub control : Control
  pub entry : Option Entry
