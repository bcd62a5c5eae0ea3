-- The control's parts after a call was started or finished.
use Rattle.std.proofs.Common.{◌≡◌, ℕ, Bool, List, [], ◌∷◌, ◌++◌, length, ap, ◌∙◌, length-set}
use Rattle.std.proofs.lemmas.List.FromFn.{length-map-range_with_len}
use Rattle.vi_config.specs.Space.{config_bytes}
use Rattle.vi_device.specs.Values.{DeviceValue}
use Rattle.vi_history.specs.Replies.{Answer}
use Rattle.vi_model.specs.Tasks.{task_commit}
use Rattle.vi_model.specs.Starts.{tell, told_lanes}
use Rattle.vi_shoot.specs.declared.ops.Token.{Token}
use Rattle.vi_shoot.specs.declared.ops.Token.TheVariants as token
use Rattle.vi_calls.specs.Value.{CallsValue}
use Rattle.vi_lanes.specs.Value.{LanesValue}
use Rattle.vi_removals.specs.declared.removals.Ready.{Ready}
use Rattle.vi_removals.specs.Value.{RemovalsValue}
use Rattle.vi_control.specs.declared.control.Control.TheInside.{Inside}
use Rattle.vi_control.specs.Inner.{config_of, IsKept}
use Rattle.vi_control.specs.Ties.{AreTied}
use Rattle.vi_control.specs.Tokens.{without_token, settled}
use Rattle.vi_control.specs.Started.{started_of, opened_for, IsNextBy, IsNext}
use Rattle.vi_control.proofs.Effects.{task-keeps}
use Rattle.vi_control.proofs.Ties.{tied-begun, ports-token}

length-settled : (call : Ready) (a : Answer) (v : CallsValue) → length (settled call a v).ports ≡ length v.ports
length-settled call a v = length-set (without_token call.token v).ports call.driver _ ∙ ap length (ports-token call.token v)

-- a setting or a request more has as many rows
pub length-next : (old new : CallsValue) (call : Ready) → IsNext old new call → length new.ports ≡ length old.ports
length-next old new call next = go call.token next
  where
    go : (t : Token) → IsNextBy old new (started_of call) t → length new.ports ≡ length old.ports
    go (token.Chain head) next = ap (λ v. length v.ports) next.2.left_calls
    go (token.Setting driver line) next = rw next.1.1.left_calls (length-set old.ports driver _)

-- a call is answered
pub kept-answered : (p : Inside) (call : Ready) (device : DeviceValue) (calls next : CallsValue) (left : RemovalsValue) (config properties : List ℕ) (probed : Bool) (a : Answer) → IsKept p
    → device ≡ record p.device { dev = task_commit p.device.dev call.task }
    → calls ≡ settled call a next → length next.ports ≡ length p.calls.ports
    → left.ids ≡ p.removals.ids
    → config ≡ config_bytes (config_of (task_commit p.device.dev call.task))
    → AreTied (without_token call.token next).taken left.opened
    → IsKept (record p { device = device; calls = calls; removals = left; config = config; properties = properties; probed = probed })
kept-answered p call device calls next left config properties probed a kept dev settles ports ids bytes tied =
    let setup = task-keeps p.device.dev call.task in
    record {
      endpoints = rw (dev, ids) (setup.ids ∙ kept.endpoints);
      distinct = rw ids kept.distinct;
      few = rw ids kept.few;
      memory = rw (dev, setup.pages) kept.memory;
      ports = rw settles (length-settled call a next ∙ ports ∙ kept.ports);
      grants = rw ids kept.grants;
      mail = rw ids kept.mail;
      parked = rw ids kept.parked;
      posted = rw ids kept.posted;
      transfers = rw ids kept.transfers;
      pages = kept.pages;
      config = rw dev bytes;
      tied = rw settles tied;
    }

-- a removal begins
pub kept-begun : (p : Inside) (call : Ready) (next : CallsValue) (left : RemovalsValue) (lanes : LanesValue) (waits : List Bool) → IsKept p
    → IsNext p.calls next call
    → left ≡ record p.removals { opened = p.removals.opened ++ opened_for call waits ∷ [] }
    → lanes ≡ record p.lanes { mail = tell (opened_for call waits).removal p.lanes.mail }
    → IsKept (record p { calls = next; removals = left; lanes = lanes })
kept-begun p call next left lanes waits kept is begins told = record {
  endpoints = rw begins kept.endpoints;
  distinct = rw begins kept.distinct;
  few = rw begins kept.few;
  memory = kept.memory;
  ports = length-next p.calls next call is ∙ kept.ports;
  grants = rw begins kept.grants;
  mail = rw (begins, told) (length-map-range_with_len (told_lanes (opened_for call waits).removal p.lanes.mail) 0 (length p.lanes.mail) ∙ kept.mail);
  parked = rw (begins, told) kept.parked;
  posted = rw begins kept.posted;
  transfers = rw begins kept.transfers;
  pages = kept.pages;
  config = kept.config;
  tied = rw begins (tied-begun p.calls next p.removals.opened call waits kept.tied is);
}
