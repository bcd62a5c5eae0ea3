-- What ties the requests that the device took and has not answered to the open removals.
use Rattle.std.specs.Prelude.{◌≡◌, ℕ, ◌≤◌, ◌<◌, List, [], ◌∷◌, ◌++◌, map, count_by, All}
use Rattle.vi_history.specs.Requests.{reading}
use Rattle.vi_model.specs.declared.task.Task.{Task}
use Rattle.vi_model.specs.declared.task.Task.TheVariants.{Reads, Sets}
use Rattle.vi_model.specs.Control.{driver_count}
use Rattle.vi_model.specs.Removals.{Removal}
use Rattle.vi_shoot.specs.declared.ops.Token.{Token}
use Rattle.vi_shoot.specs.declared.ops.Token.TheVariants.{Chain, Setting}
use Rattle.vi_calls.specs.Value.{Taken, has_head}
use Rattle.vi_removals.specs.Value.{Opened}

-- a driver's line whose chain waits for its answer
pub record Waiting : Type 0 where
  pub head : ℕ
  pub driver : ℕ
  pub line : ℕ
  pub task : Task

-- as the request queue has it
abbrev pub waiting_taken : Taken → Waiting
waiting_taken t = record { head = t.head; driver = t.call.driver; line = t.call.line; task = Reads (reading t.call.read t.call.write) }

-- as the open removals have it: a removal of a bypass setting has no chain
abbrev pub waiting_by : Removal → Token → List Waiting
waiting_by r (Chain head) = record { head = head; driver = r.driver; line = r.line; task = r.task } ∷ []
waiting_by r (Setting driver line) = []

abbrev pub waiting_opened : List Opened → List Waiting
waiting_opened [] = []
waiting_opened (o ∷ os) = waiting_by o.removal o.token ++ waiting_opened os

-- the task sets the bypass field
abbrev pub IsSetting : Task → Type 0
IsSetting (Reads r) = ⊥
IsSetting (Sets on) = Unit {0}

-- the token of a removal of a bypass setting names its line
abbrev pub NamesLine : Removal → Token → Type 0
NamesLine r (Chain head) = Unit {0}
NamesLine r (Setting driver line) = (driver ≡ r.driver) × (line ≡ r.line) × IsSetting r.task

-- and its driver is one of 8
abbrev pub HasDriver : Token → Type 0
HasDriver (Chain head) = Unit {0}
HasDriver (Setting driver line) = driver < driver_count

-- the chains that wait are those of the open removals, in their order, each once
pub record AreTied (taken : List Taken) (opened : List Opened) : Type 0 where
  pub same : map waiting_taken taken ≡ waiting_opened opened
  pub once : (head : ℕ) → count_by (has_head head) taken ≤ 1
  pub named : All (λ o. NamesLine o.removal o.token) opened
  pub drivers : All (λ o. HasDriver o.token) opened
