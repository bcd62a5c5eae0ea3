-- The fields that keep the open calls, as contracts see them.
use Rattle.std.specs.Prelude.{◌≡◌, ◌≤◌, ◌<◌, ◌==◌, ℕ, List, [], length, map, get_or, find, Option, Some, None, count_by, sum_by}
use Rattle.std.specs.List.{AllByRecursion}
use Rattle.vi_history.specs.Replies.{Answer, set_answer}
use Rattle.vi_vring.specs.Values as ring
use Rattle.vi_vring.specs.Moves.{no_lists, head_count, ShowsPopped}
use Rattle.vi_model.specs.Control.{Queued, Answered, Port}
use Rattle.vi_calls.specs.declared.row.Token.{Token}
use Rattle.vi_calls.specs.declared.calls.Submitted.{Submitted}
use Rattle.vi_calls.specs.declared.calls.Calls.TheInside.{Inside}
use Rattle.vi_calls.specs.Replies.{answer_of, AreAnswer}
use Rattle.vi_calls.specs.Value.{Taken, CallsValue}
use Rattle.vi_calls.specs.Rows.{RowValue, is_in, is_in_chain}

-- the ring's lists, which are known
abbrev pub lists_or : Option ring.Lists → ring.Lists
lists_or None = no_lists
lists_or (Some l) = l

-- the line that was submitted with this head
abbrev pub no_line : Submitted
no_line = record { driver = 0; line = 0; read = 0; write = 0 }

abbrev pub line_at : List Submitted → ℕ → Submitted
line_at table head = get_or table head no_line

abbrev pub queued_by : List Submitted → ring.Queued → Queued
queued_by table q = record { driver = (line_at table q.head).driver; line = (line_at table q.head).line; read = q.readable; write = q.writable }

abbrev pub taken_by : List Submitted → ring.Queued → Taken
taken_by table q = record { head = q.head; call = queued_by table q }

-- the answer that a used chain has
abbrev pub bytes_or : Option ring.Used → List ℕ
bytes_or None = []
bytes_or (Some u) = u.bytes

abbrev pub bytes_of : List ring.Used → ℕ → List ℕ
bytes_of used head = bytes_or (find (λ u. u.head == head) used)

abbrev pub answer_in : List ring.Used → Option ℕ → Answer
answer_in used None = set_answer
answer_in used (Some head) = answer_of (bytes_of used head)

abbrev pub answered_by : List ring.Used → Token → Answered
answered_by used t = record { line = t.line; answer = answer_in used t.head }

abbrev pub port_by : List ring.Used → RowValue → Port
port_by used r = record { setting = r.setting; answered = map (answered_by used) r.answered; posted = r.posted }

-- of the table of lines, the rows and the ring's lists
abbrev pub shown : List Submitted → List RowValue → ring.Lists → CallsValue
shown table rows l = record {
  queue = map (queued_by table) l.available;
  taken = map (taken_by table) l.popped;
  ports = map (port_by l.used) rows;
}

abbrev pub seen : Inside → CallsValue
seen c = shown c.submitted c.rows.items (lists_or c.ring.lists)

-- how many answered lines of a row have the chain with this head, and how many have one
abbrev pub tokens_with : ℕ → RowValue → ℕ
tokens_with head r = count_by (is_in head) r.answered

abbrev pub chains_in : RowValue → ℕ
chains_in r = count_by is_in_chain r.answered

-- the table has a chain's driver and its two lengths
pub record Fits (table : List Submitted) (q : ring.Queued) : Type 0 where
  pub driver : (line_at table q.head).driver < 8
  pub read : (line_at table q.head).read ≡ length q.readable
  pub write : (line_at table q.head).write ≡ q.writable
  pub small : length q.readable ≤ 1024

abbrev pub HasAnswer : ring.Used → Type 0
HasAnswer u = AreAnswer u.bytes

-- Each head is of one chain, and each used chain of one answered line.
pub record AreTied (table : List Submitted) (rows : List RowValue) (l : ring.Lists) : Type 0 where
  pub once : (head : ℕ) → head_count head l ≤ 1
  pub below : (head : ℕ) → 1 ≤ head_count head l → head < 256
  pub owned : (head : ℕ) → sum_by (tokens_with head) rows ≡ count_by (λ u. u.head == head) l.used
  pub chains : sum_by chains_in rows ≡ length l.used
  pub available : AllByRecursion (Fits table) l.available
  pub popped : AllByRecursion (Fits table) l.popped
  pub replies : AllByRecursion HasAnswer l.used

-- a ring of 16 to 256 descriptors with buffers of 1024 bytes, whose lists are known
pub record IsWhole (r : ring.RingValue) : Type 0 where
  pub some : 16 ≤ r.size
  pub most : r.size ≤ 256
  pub reading : r.reading ≡ 1024
  pub writing : r.writing ≡ 1024
  pub known : r.lists ≡ Some (lists_or r.lists)
  pub shows : ShowsPopped r

pub record IsKept (c : Inside) : Type 0 where
  pub ring_whole : IsWhole c.ring
  pub count : c.queued ≡ length (lists_or c.ring.lists).available
  pub table : length c.submitted ≡ 256
  pub drivers : length c.rows.items ≡ 8
  pub tied : AreTied c.submitted c.rows.items (lists_or c.ring.lists)
