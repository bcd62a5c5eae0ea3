-- What the statements of a text have said so far, and the script that they make.
use Rattle.std.specs.Prelude.{◌==◌, ℕ, true, false, if◌then◌else◌, List, [], ◌∷◌, ◌++◌, Some, None, map, unwrap_or}
use Rattle.vi_bytes.specs.declared.region.Region.{Region}
use Rattle.vi_bytes.specs.declared.region.EndpointSetup.{EndpointSetup}
use Rattle.vi_history.specs.declared.setup.Setup.{Setup}
use Rattle.vi_lines.specs.declared.line.Line.{Line}
use Rattle.vi_lines.specs.declared.line.Who.{Who}
use Rattle.vi_script.specs.declared.settings.Settings.{Settings}
use Rattle.vi_lines.specs.Value.{ScriptValue}
use Rattle.vi_script.specs.Statements.{Statement, Memory, Queue, Cache, Granule, Input, Bypass, Events, Endpoint, Reserve, Turns, Actor}

-- the settings, the endpoints with their regions, the turns and the lines, each in the order of the text
pub record Said : Type 0 where
  pub settings : Settings
  pub endpoints : List EndpointSetup
  pub turns : List Who
  pub lines : List Line

-- nothing yet
abbrev pub nothing_said : Said
nothing_said = record {
  settings = record { memory = None; queue = None; cache = None; granule = None; input = None; bypass = None; events = None };
  endpoints = [];
  turns = [];
  lines = [];
}

-- an endpoint without regions
abbrev pub declared_endpoint : ℕ → EndpointSetup
declared_endpoint id = record { id = id; regions = [] }

-- an endpoint, with one more region if it has this id
abbrev pub reserved_if : ℕ → Region → EndpointSetup → EndpointSetup
reserved_if id region e = if e.id == id then record e { regions = e.regions ++ region ∷ [] } else e

-- one more statement
abbrev pub says : Said → Statement → Said
says said (Memory pages) = record said { settings = record said.settings { memory = Some pages } }
says said (Queue size) = record said { settings = record said.settings { queue = Some size } }
says said (Cache entries) = record said { settings = record said.settings { cache = Some entries } }
says said (Granule granule) = record said { settings = record said.settings { granule = Some granule } }
says said (Input span) = record said { settings = record said.settings { input = Some span } }
says said (Bypass on) = record said { settings = record said.settings { bypass = Some on } }
says said (Events on) = record said { settings = record said.settings { events = Some on } }
says said (Endpoint id) = record said { endpoints = said.endpoints ++ declared_endpoint id ∷ [] }
says said (Reserve id region) = record said { endpoints = map (λ e. reserved_if id region e) said.endpoints }
says said (Turns turns) = record said { turns = said.turns ++ turns }
says said (Actor l) = record said { lines = said.lines ++ l ∷ [] }

-- the granule that was asked for
abbrev pub granule_of : Said → ℕ
granule_of said = unwrap_or said.settings.granule 4096

-- the setup that was asked for; what was left out has its default
unfoldable pub setup_of : Said → Setup
setup_of said = record {
  memory = unwrap_or said.settings.memory 16;
  queue = unwrap_or said.settings.queue 16;
  cache = unwrap_or said.settings.cache 8;
  granule = granule_of said;
  input = unwrap_or said.settings.input (record { first = 0; last = 18446744073709551615 });
  bypass = unwrap_or said.settings.bypass false;
  events = unwrap_or said.settings.events true;
  endpoints = said.endpoints;
}

-- the script of what was said
unfoldable pub script_of : Said → ScriptValue
script_of said = record { setup = setup_of said; turns = said.turns; lines = said.lines }
