-- What a control needs for its next turn: a sound world gives it.
use Rattle.std.specs.Prelude.{◌≡◌, ◌<◌, ◌≤◌, ℕ, true, List, ◌∷◌, length, Some}
use Rattle.std.specs.List.{list_any}
use Rattle.vi_model.specs.Removals.{waits_for}
use Rattle.vi_model.specs.Lanes.{Miss}
use Rattle.vi_model.specs.Control.{Queued, Setting, Port, Link, Control, driver_count, port_of, link_of}
use Rattle.vi_model.specs.Starts.{queued_call, setting_call}
use Rattle.vi_model.specs.Whole.{IsWholeDev}
use Rattle.vi_model.specs.Bounds.{open_calls, HasStartRoom, IsThere, HasMissRoom}
use Rattle.vi_control.specs.Value.{ControlValue}

-- With so many back ends: mappings are whole pages, at most 8 calls are open, and there is room for whatever the device
-- may start or serve next; a removal waits for each back end with an acknowledgement under way.
pub record HasTurnRoom (places : ℕ) (c : Control) : Type 0 where
  pub whole : IsWholeDev c.dev
  pub calls : open_calls c ≤ 8
  pub request : (q : Queued) (rest : List Queued) → c.queue ≡ q ∷ rest → HasStartRoom places c (queued_call q)
  pub setting : (driver : ℕ) (x : Setting) → driver < driver_count → (let p : Port = port_of c driver in p.setting) ≡ Some x → HasStartRoom places c (setting_call driver x)
  pub miss : (place : ℕ) (m : Miss) → place < places → IsThere (link_of c place) m → HasMissRoom c (link_of c place) m
  pub acks : (place : ℕ) → place < places → 0 < (let x : Link = link_of c place in x.acks) → list_any (waits_for place) c.removals ≡ true

-- so it is of a control with its own back ends
abbrev pub HasRoom : ControlValue → Type 0
HasRoom v = HasTurnRoom (length v.plan.ids) v.state
