-- How the control's parts are seen.
use Rattle.std.specs.Prelude.{◌≡◌, ℕ, ◌+◌, ◌^◌, ◌≤◌, if◌then◌else◌, List, [], length, map, All}
use Rattle.vi_config.specs.Space.{config_bytes}
use Rattle.vi_config.specs.declared.config.Config.{Config}
use Rattle.vi_device.specs.Values.{AreDistinct}
use Rattle.vi_history.specs.Device.{Dev}
use Rattle.vi_grants.specs.Rows.{GrantRow}
use Rattle.vi_grants.specs.declared.row.Grant.{Grant}
use Rattle.vi_model.specs.Control.{driver_count}
use Rattle.vi_removals.specs.Value.{removals_of}
use Rattle.vi_control.specs.declared.control.Control.TheInside.{Inside}
use Rattle.vi_control.specs.Value.{ControlValue}
use Rattle.vi_control.specs.Ties.{AreTied}

abbrev pub grants_in : GrantRow → List Grant
grants_in row = row.grants

abbrev pub spare_in : GrantRow → ℕ
spare_in row = row.spare

-- the control, of its parts
abbrev pub seen : Inside → ControlValue
seen c = record {
  plan = record { ids = c.removals.ids; transfers = map (λ t. t.items) c.transfers.items; buffers = c.events.buffers };
  state = record {
    dev = c.device.dev;
    mappings = c.device.maps;
    queue = c.calls.queue;
    ports = c.calls.ports;
    removals = removals_of c.removals;
    grants = map grants_in c.grants;
    spares = map spare_in c.grants;
    mail = c.lanes.mail;
    parked = c.lanes.parked;
    posted = c.posted.items;
    events = c.events.events;
  };
  answered = if c.probed then c.properties else [];
}

-- the configuration of a device
abbrev pub config_of : Dev → Config
config_of dev = record { granule = dev.granule; input = dev.input; bypass = dev.bypass }

-- the granted pages are those of addresses below 2^64
abbrev pub HasPages : GrantRow → Type 0
HasPages row = All (λ g. g.lease.page + g.lease.count ≤ 2 ^ 52) row.grants

-- What is so of its parts: one row a place, the device's endpoints are those of the places, the memory is within its
-- bound, the configuration space is the device's, and the chains that wait are those of the open removals.
pub record IsKept (c : Inside) : Type 0 where
  pub endpoints : map (λ x. x.id) c.device.dev.endpoints ≡ c.removals.ids
  pub distinct : AreDistinct c.removals.ids
  pub few : length c.removals.ids ≤ 16
  pub memory : c.device.dev.pages ≤ 16384
  pub ports : length c.calls.ports ≡ driver_count
  pub grants : length c.grants ≡ length c.removals.ids
  pub mail : length c.lanes.mail ≡ length c.removals.ids
  pub parked : length c.lanes.parked ≡ length c.removals.ids
  pub posted : length c.posted.items ≡ length c.removals.ids
  pub transfers : length c.transfers.items ≡ length c.removals.ids
  pub pages : All HasPages c.grants
  pub config : c.config ≡ config_bytes (config_of c.device.dev)
  pub tied : AreTied c.calls.taken c.removals.opened
