-- What the adapters over a reader and a writer hold.
use Rattle.std.specs.Prelude.{ℕ}
use Rattle.vi_commands.specs.declared.standard.Reading.{Reading}
use Rattle.vi_commands.specs.declared.standard.Writing.{Writing}

-- the reader, and how often it failed
abbrev pub reader_of : {R : Type 0} → Reading R → R
reader_of source = source.inner

abbrev pub reader_faults : {R : Type 0} → Reading R → ℕ
reader_faults source = source.faults

-- the writer, and how often it failed
abbrev pub writer_of : {W : Type 0} → Writing W → W
writer_of sink = sink.inner

abbrev pub writer_faults : {W : Type 0} → Writing W → ℕ
writer_faults sink = sink.faults
