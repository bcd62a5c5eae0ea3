-- A call that is started: where it was, and what is left.
use Rattle.std.specs.Prelude.{◌≡◌, ◌<◌, ℕ, Bool, List, [], ◌∷◌, ◌++◌, count_by, Some, None}
use Rattle.vi_model.specs.Control.{Queued, Setting, Started, driver_count}
use Rattle.vi_model.specs.Starts.{queued_call, setting_call, removal_of}
use Rattle.vi_shoot.specs.declared.ops.Token.{Token}
use Rattle.vi_shoot.specs.declared.ops.Token.TheVariants as token
use Rattle.vi_calls.specs.Value.{CallsValue, port_at, has_head}
use Rattle.vi_calls.specs.Moves.{left, first_setting}
use Rattle.vi_removals.specs.declared.removals.Ready.{Ready}
use Rattle.vi_removals.specs.Value.{Opened}

-- the driver's line and what it asks for
abbrev pub started_of : Ready → Started
started_of call = record { driver = call.driver; line = call.line; task = call.task }

-- the removal that begins with it, which waits for these
abbrev pub opened_for : Ready → List Bool → Opened
opened_for call waits = record { removal = removal_of (started_of call) waits; token = call.token }

-- the first request of the queue, whose chain is taken with this head
pub record IsNextRequest (old new : CallsValue) (call : Started) (head : ℕ) (q : Queued) (rest : List Queued) : Type 0 where
  pub queue : old.queue ≡ q ∷ rest
  pub is : call ≡ queued_call q
  pub fresh : count_by (has_head head) old.taken ≡ 0
  pub left_calls : new ≡ record old { queue = rest; taken = old.taken ++ record { head = head; call = q } ∷ [] }

-- the setting of the lowest driver that left one, where the queue is empty
pub record IsNextSetting (old new : CallsValue) (call : Started) (driver : ℕ) (x : Setting) : Type 0 where
  pub queue : old.queue ≡ []
  pub lowest : first_setting old ≡ Some driver
  pub setting : (port_at old driver).setting ≡ Some x
  pub is : call ≡ setting_call driver x
  pub below : driver < driver_count
  pub left_calls : new ≡ left driver None old

-- the call is the next one
abbrev pub IsNextBy : CallsValue → CallsValue → Started → Token → Type 0
IsNextBy old new call (token.Chain head) = (q : Queued) × (rest : List Queued) × IsNextRequest old new call head q rest
IsNextBy old new call (token.Setting driver line) = (line ≡ call.line) × ((x : Setting) × IsNextSetting old new call driver x)

abbrev pub IsNext : CallsValue → CallsValue → Ready → Type 0
IsNext old new call = IsNextBy old new (started_of call) call.token

-- there is none
pub record HasNone (old new : CallsValue) : Type 0 where
  pub queue : old.queue ≡ []
  pub none : first_setting old ≡ None
  pub stays : new ≡ old
