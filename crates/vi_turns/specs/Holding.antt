-- What a pass holds, and what is left of a pass that has ended.
use Rattle.std.specs.Prelude.{ℕ, Bool, false, List, [], Option, None}
use Rattle.vi_history.specs.declared.setup.Setup.{Setup}
use Rattle.vi_log.specs.Logs.{Ticketed}
use Rattle.vi_lines.specs.Value.{ScriptValue}
use Rattle.vi_model.specs.Control.{Control}
use Rattle.vi_model.specs.Actors.{Progress, Actor, other_actor}

-- a value that a pass holds, as it records it: the control, or a page of the memory with its bytes
pub data Held : Type 0 where
  TheControl : (control : Control) → Held
  ThePage : (page : ℕ) (bytes : List ℕ) → Held

-- an exchange that was lost: on which word, and the number that was found there
pub record Loss : Type 0 where
  pub word : ℕ
  pub found : ℕ

-- a pass that has ended: its number, what it logged, and how far its actor was
pub record Taken : Type 0 where
  pub number : ℕ
  pub log : List Ticketed
  pub progress : Progress

-- a view that outlives its table
pub record Last : Type 0 where
  pub script : ScriptValue
  pub number : ℕ
  pub made : ℕ
  pub log : List Ticketed
  pub taken : List Taken
  pub actor : Actor
  pub held : Option Held
  pub stamped : Bool
  pub seen : ℕ
  pub control_turns : ℕ
  pub lost : Option Loss
  pub won : Option Control

-- where there is none
abbrev pub no_setup : Setup
no_setup = record { memory = 0; queue = 0; cache = 0; granule = 0; input = record { first = 0; last = 0 }; bypass = false; events = false; endpoints = [] }

abbrev pub no_script : ScriptValue
no_script = record { setup = no_setup; turns = []; lines = [] }

abbrev pub no_last : Last
no_last = record {
  script = no_script;
  number = 0;
  made = 0;
  log = [];
  taken = [];
  actor = other_actor;
  held = None;
  stamped = false;
  seen = 0;
  control_turns = 0;
  lost = None;
  won = None;
}
