-- What a source over a list of bytes has left, and how its calls count.
use Rattle.std.specs.Prelude.{◌≡◌, ℕ, ◌+◌, ◌-◌, ◌^◌, min, List, drop}
use Rattle.vi_commands.specs.declared.list_source.ListSource.{ListSource}

-- the bytes from the place on
abbrev pub bytes_left : ListSource → List ℕ
bytes_left source = drop source.place source.bytes

-- the number of the next call, from 1; it stands still at 2^64 - 1
abbrev pub next_read : ListSource → ℕ
next_read source = min (source.calls + 1) (2 ^ 64 - 1)

-- how often a read failed; the count stands still at 2^64 - 1
abbrev pub read_faults : ListSource → ℕ
read_faults source = source.faults

-- one call later, with the same bytes and limits
pub record IsOneReadLater (old new : ListSource) : Type 0 where
  pub bytes : new.bytes ≡ old.bytes
  pub most : new.most ≡ old.most
  pub fails : new.fails ≡ old.fails
  pub calls : new.calls ≡ next_read old
