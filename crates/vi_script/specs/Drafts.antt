-- Settings as the reader of a text keeps them.
use Rattle.std.specs.Prelude.{ℕ, Bool, true, false, is_some, List, Some, unwrap_or}
use Rattle.vi_bytes.specs.declared.region.EndpointSetup.{EndpointSetup}
use Rattle.vi_history.specs.declared.setup.Setup.{Setup}
use Rattle.vi_script.specs.declared.form.Setting.{Setting}
use Rattle.vi_script.specs.declared.form.Setting.TheVariants as setting
use Rattle.vi_script.specs.declared.form.Switch.{Switch}
use Rattle.vi_script.specs.declared.form.Switch.TheVariants as switch
use Rattle.vi_script.specs.declared.settings.Settings.{Settings}
use Rattle.vi_lines.specs.Limits.{is_memory, is_queue, is_cache, is_granule}

-- a setting was given
abbrev pub is_set : Setting → Settings → Bool
is_set setting.Memory s = is_some s.memory
is_set setting.Queue s = is_some s.queue
is_set setting.Cache s = is_some s.cache
is_set setting.Granule s = is_some s.granule

abbrev pub is_switched : Switch → Settings → Bool
is_switched switch.Bypass s = is_some s.bypass
is_switched switch.Events s = is_some s.events

-- a number is within its limits
abbrev pub setting_fits : Setting → ℕ → Bool
setting_fits setting.Memory n = is_memory n
setting_fits setting.Queue n = is_queue n
setting_fits setting.Cache n = is_cache n
setting_fits setting.Granule n = is_granule n

-- one more setting
abbrev pub with_number : Setting → ℕ → Settings → Settings
with_number setting.Memory n s = record s { memory = Some n }
with_number setting.Queue n s = record s { queue = Some n }
with_number setting.Cache n s = record s { cache = Some n }
with_number setting.Granule n s = record s { granule = Some n }

abbrev pub with_switch : Switch → Bool → Settings → Settings
with_switch switch.Bypass on s = record s { bypass = Some on }
with_switch switch.Events on s = record s { events = Some on }

-- the setup of settings and endpoints
abbrev pub setup_with : Settings → List EndpointSetup → Setup
setup_with s endpoints = record {
  memory = unwrap_or s.memory 16;
  queue = unwrap_or s.queue 16;
  cache = unwrap_or s.cache 8;
  granule = unwrap_or s.granule 4096;
  input = unwrap_or s.input (record { first = 0; last = 18446744073709551615 });
  bypass = unwrap_or s.bypass false;
  events = unwrap_or s.events true;
  endpoints = endpoints;
}
