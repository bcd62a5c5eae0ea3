-- What the calls do to a taken chain, one after another.
use Rattle.std.specs.Prelude.{◌≡◌, ◌≢◌, ℕ, List, ◌∷◌, Some, count_by}
use Rattle.vi_history.specs.Replies.{Answer}
use Rattle.vi_model.specs.Control.{Queued}
use Rattle.vi_model.specs.Starts.{answer_port}
use Rattle.vi_calls.specs.Value.{CallsValue, has_head, taken_with}
use Rattle.vi_calls.specs.Moves.{taken_first, answered_chain}

-- the first request of the queue, and a head of no taken chain
pub record IsFirst (v : CallsValue) (q : Queued) (rest : List Queued) (head : ℕ) : Type 0 where
  pub first : v.queue ≡ q ∷ rest
  pub fresh : count_by (has_head head) v.taken ≡ 0

-- a request that is taken is found by its head
abbrev pub TakenIsFound : Type 0
TakenIsFound = (v : CallsValue) (q : Queued) (rest : List Queued) (head : ℕ) → IsFirst v q rest head
    → taken_with head (taken_first head v.queue v) ≡ Some (record { head = head; call = q })

-- one that is answered at once has left the queue, and its driver has the answer
abbrev pub AnsweredAtOnce : Type 0
AnsweredAtOnce = (v : CallsValue) (q : Queued) (rest : List Queued) (head : ℕ) (a : Answer) → IsFirst v q rest head
    → answered_chain head a (taken_first head v.queue v) ≡ record v { queue = rest; ports = answer_port v.ports q.driver q.line a }

-- the chains with other heads stay
abbrev pub OthersStay : Type 0
OthersStay = (v : CallsValue) (head other : ℕ) (a : Answer) → other ≢ head
    → (taken_with other (taken_first head v.queue v) ≡ taken_with other v) × (taken_with other (answered_chain head a v) ≡ taken_with other v)
