-- What contracts see of the event queue.
use Rattle.std.specs.Prelude.{ℕ, [], drop}
use Rattle.vi_model.specs.Control.{Events}

-- so many buffers, and the fault records
pub record EventQueue : Type 0 where
  pub buffers : ℕ
  pub events : Events

-- no record was delivered or dropped, and there is room for so many
abbrev pub no_events : ℕ → Events
no_events room = record { shown = []; waiting = []; dropped = 0; room = room }

-- the oldest record that waits is read
abbrev pub without_oldest : Events → Events
without_oldest e = record e { waiting = drop 1 e.waiting }
