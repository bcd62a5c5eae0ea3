-- What each call does to the drivers' open calls.
use Rattle.std.specs.Prelude.{◌≡◌, ℕ, ◌<◌, not, Bool, List, [], ◌∷◌, ◌++◌, set, replicate, filter, count_by, find, is_some, Option, Some, None}
use Rattle.std.specs.List.{range_with_len}
use Rattle.vi_history.specs.Replies.{Answer}
use Rattle.vi_model.specs.Control.{Queued, Setting, Port, Started, driver_count, no_port}
use Rattle.vi_model.specs.Starts.{answer_port}
use Rattle.vi_model.specs.declared.task.Task.TheVariants.{Reads}
use Rattle.vi_calls.specs.declared.calls.Request.{Request}
use Rattle.vi_calls.specs.declared.row.Setting.{Setting as Left}
use Rattle.vi_calls.specs.Value.{Taken, CallsValue, port_at, has_head, taken_with}

-- no call is open
abbrev pub no_calls : CallsValue
no_calls = record { queue = []; taken = []; ports = replicate driver_count no_port }

-- a request goes to the end of the queue
abbrev pub with_queued : Queued → CallsValue → CallsValue
with_queued q v = record v { queue = v.queue ++ q ∷ [] }

-- a driver's row is another
abbrev pub with_row : ℕ → Port → CallsValue → CallsValue
with_row driver p v = record v { ports = set v.ports driver p }

-- a setting stands in the driver's row, or none
abbrev pub with_setting : Option Setting → Port → Port
with_setting x p = record p { setting = x }

abbrev pub left : ℕ → Option Setting → CallsValue → CallsValue
left driver x v = with_row driver (with_setting x (port_at v driver)) v

-- a setting, as code hands it out
abbrev pub handed_out : Setting → Left
handed_out x = record { line = x.line; on = x.on }

-- a driver left a setting, and the lowest that did
abbrev pub has_setting : CallsValue → ℕ → Bool
has_setting v driver = is_some (port_at v driver).setting

abbrev pub first_setting : CallsValue → Option ℕ
first_setting v = find (has_setting v) (range_with_len 0 driver_count)

-- the first request of the queue is taken, by the head of its chain
abbrev pub taken_first : ℕ → List Queued → CallsValue → CallsValue
taken_first head [] v = v
taken_first head (q ∷ rest) v = record v { queue = rest; taken = v.taken ++ record { head = head; call = q } ∷ [] }

abbrev pub taken_once : Option Request → CallsValue → CallsValue
taken_once None v = v
taken_once (Some r) v = taken_first r.head v.queue v

-- what a request that was taken asks of the device
abbrev pub request_call : Request → Started
request_call r = record { driver = r.driver; line = r.line; task = Reads r.reading }

-- the head is of no chain that was taken before
abbrev pub IsFresh : CallsValue → Request → Type 0
IsFresh v r = (r.head < 256) × (count_by (has_head r.head) v.taken ≡ 0)

-- the driver's line has this answer
abbrev pub answered : ℕ → ℕ → Answer → CallsValue → CallsValue
answered driver line a v = record v { ports = answer_port v.ports driver line a }

-- the taken chains with other heads
abbrev pub without_taken : ℕ → CallsValue → CallsValue
without_taken head v = record v { taken = filter (λ t. not (has_head head t)) v.taken }

-- the request of the taken chain with this head has this answer, and the chain is used
abbrev pub answered_taken : Option Taken → Answer → CallsValue → CallsValue
answered_taken None a v = v
answered_taken (Some t) a v = answered t.call.driver t.call.line a (without_taken t.head v)

unfoldable pub answered_chain : ℕ → Answer → CallsValue → CallsValue
answered_chain head a v = answered_taken (taken_with head v) a v

-- so many of the driver's first lines are all finished
abbrev pub with_posted : ℕ → ℕ → CallsValue → CallsValue
with_posted driver lines v = let p : Port = port_at v driver in with_row driver (record p { posted = lines }) v
