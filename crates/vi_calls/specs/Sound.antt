-- What holds of the open calls at any time.
use Rattle.std.specs.Prelude.{◌≡◌, ◌≤◌, ◌<◌, ℕ, length, count_by}
use Rattle.std.specs.List.{AllByRecursion}
use Rattle.vi_model.specs.Control.{Queued}
use Rattle.vi_calls.specs.Value.{Taken, CallsValue, has_head}

-- the request is of a driver
abbrev pub IsOfDriver : Queued → Type 0
IsOfDriver q = q.driver < 8

-- and is in a chain
pub record IsInChain (t : Taken) : Type 0 where
  pub head : t.head < 256
  pub driver : IsOfDriver t.call

-- there is a row for each driver, and each head is of one taken chain at most
pub record AreSound (v : CallsValue) : Type 0 where
  pub rows : length v.ports ≡ 8
  pub once : (head : ℕ) → count_by (has_head head) v.taken ≤ 1
  pub queued : AllByRecursion IsOfDriver v.queue
  pub taken : AllByRecursion IsInChain v.taken
