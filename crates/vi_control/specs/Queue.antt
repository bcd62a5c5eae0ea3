-- What the request queue shows of the state.
use Rattle.std.specs.Prelude.{◌≡◌, ◌⊎◌, List, [], ◌∷◌, map}
use Rattle.vi_history.specs.Requests.{reading}
use Rattle.vi_vring.specs.Values as ring
use Rattle.vi_model.specs.declared.task.Task.{Task}
use Rattle.vi_model.specs.declared.task.Task.TheVariants.{Reads}
use Rattle.vi_model.specs.Removals.{Removal}
use Rattle.vi_model.specs.Control.{Control}
use Rattle.vi_calls.specs.Shown.{call_parts, chain_parts, AreReplies}

-- what the request in a chain asks for
abbrev pub asked_by : ring.Queued → Task
asked_by q = Reads (reading q.readable q.writable)

-- these tasks are those of some of the removals, in their order and each of its own
abbrev pub AreOf : List Task → List Removal → Type 0
AreOf [] rs = Unit {0}
AreOf (t ∷ ts) [] = ⊥
AreOf (t ∷ ts) (r ∷ rs) = ((t ≡ r.task) × AreOf ts rs) ⊎ AreOf (t ∷ ts) rs

-- The available chains are the requests of the queue, the popped ones those that open removals are of, and the used ones the
-- answered requests, each once.
pub record ShowsState (c : Control) (l : ring.Lists) : Type 0 where
  pub available : map chain_parts l.available ≡ map call_parts c.queue
  pub popped : AreOf (map asked_by l.popped) c.removals
  pub used : AreReplies l.used c.ports
