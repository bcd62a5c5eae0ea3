-- What a sink over a list of bytes has room for, and how its calls count.
use Rattle.std.specs.Prelude.{◌≡◌, ℕ, ◌+◌, ◌-◌, ◌^◌, min}
use Rattle.vi_commands.specs.declared.list_sink.ListSink.{ListSink}

-- how many bytes it takes in all
abbrev pub room_of : ListSink → ℕ
room_of sink = sink.room

-- the number of the next call, from 1; it stands still at 2^64 - 1
abbrev pub next_write : ListSink → ℕ
next_write sink = min (sink.calls + 1) (2 ^ 64 - 1)

-- how often a write failed; the count stands still at 2^64 - 1
abbrev pub write_faults : ListSink → ℕ
write_faults sink = sink.faults

-- one call later, with the same limits
pub record IsOneWriteLater (old new : ListSink) : Type 0 where
  pub room : new.room ≡ old.room
  pub most : new.most ≡ old.most
  pub fails : new.fails ≡ old.fails
  pub calls : new.calls ≡ next_write old
