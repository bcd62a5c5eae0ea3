-- What contracts see of the drivers' open calls.
use Rattle.std.specs.Prelude.{ℕ, ◌+◌, ◌==◌, Bool, List, length, get_or, Option, find, sum_by}
use Rattle.vi_model.specs.Control.{Queued, Port, no_port}

-- a chain that the device took from the request queue and has not answered, by its head
pub record Taken : Type 0 where
  pub head : ℕ
  pub call : Queued

-- The requests in the queue, oldest first, those that are taken, in the order of the takes, and a row for each of the
-- 8 drivers.
pub record CallsValue : Type 0 where
  pub queue : List Queued
  pub taken : List Taken
  pub ports : List Port

-- the row of a driver
abbrev pub port_at : CallsValue → ℕ → Port
port_at v driver = get_or v.ports driver no_port

-- the taken chain with this head
abbrev pub has_head : ℕ → Taken → Bool
has_head head t = t.head == head

abbrev pub taken_with : ℕ → CallsValue → Option Taken
taken_with head v = find (has_head head) v.taken

-- how many lines are answered and not collected
abbrev pub answered_count : Port → ℕ
answered_count p = length p.answered

-- how many calls are open, without the settings that are left
abbrev pub open_count : CallsValue → ℕ
open_count v = length v.queue + length v.taken + sum_by answered_count v.ports
