-- A call that is answered: what it needs, and what it leaves.
use Rattle.std.specs.Prelude.{◌≡◌, ℕ, Some}
use Rattle.std.specs.Option.{option_map}
use Rattle.vi_history.specs.Replies.{Answer}
use Rattle.vi_history.specs.declared.reading.Reading.{Reading}
use Rattle.vi_history.specs.declared.reading.Reading.TheVariants.{Silent, Malformed, Asks}
use Rattle.vi_device.specs.Values.{DeviceValue, HasRoom}
use Rattle.vi_model.specs.declared.task.Task.{Task}
use Rattle.vi_model.specs.declared.task.Task.TheVariants.{Reads, Sets}
use Rattle.vi_shoot.specs.declared.ops.Token.{Token}
use Rattle.vi_shoot.specs.declared.ops.Token.TheVariants.{Chain, Setting}
use Rattle.vi_calls.specs.Value.{CallsValue, taken_with}
use Rattle.vi_calls.specs.Moves.{answered, without_taken}
use Rattle.vi_removals.specs.declared.removals.Ready.{Ready}
use Rattle.vi_control.specs.Ties.{waiting_taken, IsSetting, HasDriver}

-- the device has room for what the bytes ask for
abbrev pub HasReadingRoom : DeviceValue → Reading → Type 0
HasReadingRoom v Silent = Unit {0}
HasReadingRoom v (Malformed probe) = Unit {0}
HasReadingRoom v (Asks request) = HasRoom v request

-- and for the task: only a MAP needs any
abbrev pub HasTaskRoom : DeviceValue → Task → Type 0
HasTaskRoom v (Reads r) = HasReadingRoom v r
HasTaskRoom v (Sets on) = Unit {0}

-- the task is what a request's bytes come to
abbrev pub IsRequest : Task → Type 0
IsRequest (Reads r) = Unit {0}
IsRequest (Sets on) = ⊥

-- the token is of the driver's line: a chain that was taken with what it asks for, or the line of a setting
abbrev pub IsTokenOf : CallsValue → ℕ → ℕ → Task → Token → Type 0
IsTokenOf v driver line task (Chain head) = option_map waiting_taken (taken_with head v) ≡ Some (record { head = head; driver = driver; line = line; task = task })
IsTokenOf v driver line task (Setting of_driver of_line) = (of_driver ≡ driver) × (of_line ≡ line) × IsSetting task × HasDriver (Setting of_driver of_line)

abbrev pub HasToken : CallsValue → Ready → Type 0
HasToken v call = IsTokenOf v call.driver call.line call.task call.token

-- the open calls without the chain that the token names
abbrev pub without_token : Token → CallsValue → CallsValue
without_token (Chain head) v = without_taken head v
without_token (Setting driver line) v = v

-- the call has this answer, and its chain is no more among those that wait
abbrev pub settled : Ready → Answer → CallsValue → CallsValue
settled call a v = answered call.driver call.line a (without_token call.token v)
