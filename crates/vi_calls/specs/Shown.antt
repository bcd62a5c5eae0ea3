-- What the request queue shows of the open calls.
use Rattle.std.specs.Prelude.{◌≡◌, ℕ, not, List, map, filter, Bool, IsPermutation}
use Rattle.std.specs.List.{flat_map}
use Rattle.vi_vring.specs.Values as ring
use Rattle.vi_model.specs.Control.{Queued, Answered, Port}
use Rattle.vi_calls.specs.Replies.{answer_bytes, is_set}
use Rattle.vi_calls.specs.Value.{Taken, CallsValue}

-- the two parts of a request
pub record Parts : Type 0 where
  pub read : List ℕ
  pub write : ℕ

abbrev pub call_parts : Queued → Parts
call_parts q = record { read = q.read; write = q.write }

abbrev pub chain_parts : ring.Queued → Parts
chain_parts q = record { read = q.readable; write = q.writable }

-- a chain that was taken, with the two parts of its request
pub record TakenParts : Type 0 where
  pub head : ℕ
  pub parts : Parts

abbrev pub taken_parts : Taken → TakenParts
taken_parts t = record { head = t.head; parts = call_parts t.call }

abbrev pub popped_parts : ring.Queued → TakenParts
popped_parts q = record { head = q.head; parts = chain_parts q }

-- the line is of a request
abbrev pub is_of_request : Answered → Bool
is_of_request a = not (is_set a.answer)

-- what was answered to the requests of a driver, as bytes
abbrev pub reply_bytes : Answered → List ℕ
reply_bytes a = answer_bytes a.answer

abbrev pub request_replies : Port → List (List ℕ)
request_replies p = map reply_bytes (filter is_of_request p.answered)

-- the used chains are the answered requests, each once
abbrev pub AreReplies : List ring.Used → List Port → Type 0
AreReplies used ports = IsPermutation (map (λ (u : ring.Used). u.bytes) used) (flat_map request_replies ports)

-- The available chains are the requests of the queue, the popped ones those that are taken, and the used ones the answered
-- requests.
pub record ShowsCalls (v : CallsValue) (l : ring.Lists) : Type 0 where
  pub available : map chain_parts l.available ≡ map call_parts v.queue
  pub popped : map popped_parts l.popped ≡ map taken_parts v.taken
  pub used : AreReplies l.used v.ports
