-- What the device writes to a request's writable part, and what a driver reads there.
use Rattle.std.specs.Prelude.{◌≡◌, ℕ, Bool, true, false, ◌==◌, if◌then◌else◌, List, [], ◌∷◌, ◌++◌, length, take}
use Rattle.vi_bytes.specs.Fields.{byte_at}
use Rattle.vi_history.specs.Replies.{Answer, nothing_answer, status_answer, probed_answer}
use Rattle.vi_history.specs.declared.entry.Kind.{Kind}
use Rattle.vi_history.specs.declared.entry.Kind.TheVariants as kind
use Rattle.vi_calls.specs.declared.reply.Reply.{Reply}
use Rattle.vi_calls.specs.declared.reply.Reply.TheVariants.{Nothing, Status, Probed}

-- the tail (Virtio 1.2, 5.13.6): a status, and 3 reserved bytes
abbrev pub tail_bytes : ℕ → List ℕ
tail_bytes code = code ∷ 0 ∷ 0 ∷ 0 ∷ []

-- what is written for an answer of this kind: a tail, and before it the properties of a PROBE (5.13.6.7)
abbrev pub written_for : Kind → ℕ → List ℕ → List ℕ
written_for kind.Status code bytes = tail_bytes code
written_for kind.Probed code bytes = bytes ++ tail_bytes code
written_for kind.Nothing code bytes = []
written_for kind.Set code bytes = []
written_for kind.Read code bytes = []
written_for kind.Wrote code bytes = []
written_for kind.Fault code bytes = []

abbrev pub answer_bytes : Answer → List ℕ
answer_bytes a = written_for a.kind a.code a.bytes

-- the answer that a used chain's bytes say, by their length
abbrev pub answer_of : List ℕ → Answer
answer_of bytes =
    if length bytes == 0 then nothing_answer
    else (if length bytes == 4 then status_answer (byte_at 0 bytes) else probed_answer (byte_at 512 bytes) (take 512 bytes))

-- the bytes are those of an answer
abbrev pub AreAnswer : List ℕ → Type 0
AreAnswer bytes = answer_bytes (answer_of bytes) ≡ bytes

-- the answer that a reply gives
abbrev pub reply_answer : Reply → Answer
reply_answer Nothing = nothing_answer
reply_answer (Status code) = status_answer code
reply_answer (Probed code properties) = probed_answer code properties

-- the answer is to a setting of the bypass field
abbrev pub is_set_kind : Kind → Bool
is_set_kind kind.Status = false
is_set_kind kind.Probed = false
is_set_kind kind.Nothing = false
is_set_kind kind.Set = true
is_set_kind kind.Read = false
is_set_kind kind.Wrote = false
is_set_kind kind.Fault = false

abbrev pub is_set : Answer → Bool
is_set a = is_set_kind a.kind
