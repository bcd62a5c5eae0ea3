-- Outcomes whose numbers and bytes are of their types, as those that a program has in hand are.
use Rattle.std.specs.Prelude.{◌≡◌, ℕ, ◌^◌, ◌<◌, List, length, All}
use Rattle.vi_history.specs.declared.call.Caller.{Caller}
use Rattle.vi_history.specs.declared.call.Caller.TheVariants.{Driver, Back}
use Rattle.vi_history.specs.declared.entry.Entry.{Entry}
use Rattle.vi_history.specs.declared.entry.Mark.{Mark}
use Rattle.vi_history.specs.declared.outcome.Outcome.{Outcome}
use Rattle.vi_history.specs.declared.outcome.Shown.{Shown}

-- each of these numbers is a byte
abbrev pub AreBytes : List ℕ → Type 0
AreBytes bytes = All (λ b. b < 2 ^ 8) bytes

-- the number of a driver or the id of an endpoint is of its type
abbrev pub IsTypedCaller : Caller → Type 0
IsTypedCaller (Driver number) = number < 2 ^ 8
IsTypedCaller (Back endpoint) = endpoint < 2 ^ 32

-- the numbers of a mark are of their types
pub record IsTypedMark (m : Mark) : Type 0 where
  pub caller : IsTypedCaller m.caller
  pub line : m.line < 2 ^ 32
  pub part : m.part < 2 ^ 32
  pub code : m.code < 2 ^ 8

-- and those of an entry, and its bytes
pub record IsTypedEntry (h : Entry) : Type 0 where
  pub mark : IsTypedMark h.mark
  pub bytes : AreBytes h.bytes

-- a delivered record has 24 bytes
pub record IsTypedShown (x : Shown) : Type 0 where
  pub entry : x.entry < 2 ^ 32
  pub size : length x.bytes ≡ 24
  pub bytes : AreBytes x.bytes

-- all that an outcome holds is of its type
pub record IsTyped (o : Outcome) : Type 0 where
  pub entries : All IsTypedEntry o.entries
  pub shown : All IsTypedShown o.shown
  pub dropped : o.dropped < 2 ^ 32
