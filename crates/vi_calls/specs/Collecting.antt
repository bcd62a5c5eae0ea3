-- A driver collects the answered line of the lowest number.
use Rattle.std.specs.Prelude.{ℕ, ◌≤◌, if◌then◌else◌, List, ◌++◌, length, drop, Option, Some, None}
use Rattle.vi_model.specs.Control.{Answered, Port}
use Rattle.vi_model.specs.Drivers.{first_answer, other_answers}
use Rattle.vi_model.specs.Held.{count_answers}
use Rattle.vi_calls.specs.declared.calls.Collected.{Collected}
use Rattle.vi_calls.specs.declared.calls.Collected.TheVariants.{NotYet, Used, Set}
use Rattle.vi_calls.specs.Replies.{answer_bytes, is_set}
use Rattle.vi_calls.specs.Value.{CallsValue, port_at}
use Rattle.vi_calls.specs.Moves.{with_row}

-- each line is answered once
abbrev pub AreAnsweredOnce : List Answered → Type 0
AreAnsweredOnce answers = (line : ℕ) → count_answers line answers ≤ 1

-- the answered line of the lowest number of a driver
abbrev pub first_of : ℕ → CallsValue → Option Answered
first_of driver v = first_answer (port_at v driver).answered

-- a setting has no bytes; of a request the device wrote so many
abbrev pub collected_as : Option Answered → Collected
collected_as None = NotYet
collected_as (Some a) = if is_set a.answer then Set a.line else Used a.line (length (answer_bytes a.answer))

-- the bytes that it wrote stand in front
abbrev pub collected_into : Option Answered → List ℕ → List ℕ
collected_into None out = out
collected_into (Some a) out = answer_bytes a.answer ++ drop (length (answer_bytes a.answer)) out

-- the line is no more among the answered ones
abbrev pub without_answer : Option Answered → Port → Port
without_answer None p = p
without_answer (Some a) p = record p { answered = other_answers a.line p.answered }

abbrev pub after_collect : ℕ → CallsValue → CallsValue
after_collect driver v = with_row driver (without_answer (first_of driver v) (port_at v driver)) v
