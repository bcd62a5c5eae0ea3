-- Outcomes that have a text: their entries and records are made as they are declared.
use Rattle.std.specs.Prelude.{◌≡◌, ℕ, ◌-◌, ◌^◌, ◌<◌, ◌≤◌, List, [], length, All}
use Rattle.vi_history.specs.declared.call.Caller.{Caller}
use Rattle.vi_history.specs.declared.call.Caller.TheVariants.{Driver, Back}
use Rattle.vi_history.specs.declared.entry.Entry.{Entry}
use Rattle.vi_history.specs.declared.entry.Kind.{Kind}
use Rattle.vi_history.specs.declared.entry.Kind.TheVariants.{Status, Probed, Nothing, Set, Read, Wrote, Fault}
use Rattle.vi_history.specs.declared.outcome.Outcome.{Outcome}
use Rattle.vi_history.specs.declared.outcome.Shown.{Shown}

-- drivers are 0 to 7 and their part is 0; the parts of a back end count from 1
abbrev pub HasPart : Caller → ℕ → Type 0
HasPart (Driver number) part = (number ≤ 7) × (part ≡ 0)
HasPart (Back endpoint) part = 1 ≤ part

-- what goes with a kind: a code or 0, 512 property bytes, 1 to 4096 bytes that were read, or no bytes
abbrev pub HasBytes : Kind → ℕ → List ℕ → Type 0
HasBytes Status code bytes = bytes ≡ []
HasBytes Probed code bytes = length bytes ≡ 512
HasBytes Nothing code bytes = (code ≡ 0) × (bytes ≡ [])
HasBytes Set code bytes = (code ≡ 0) × (bytes ≡ [])
HasBytes Read code bytes = (code ≡ 0) × (1 ≤ length bytes) × (length bytes ≤ 4096)
HasBytes Wrote code bytes = (code ≡ 0) × (bytes ≡ [])
HasBytes Fault code bytes = bytes ≡ []

-- an entry is made as declared; lines count from 1
pub record IsEntry (h : Entry) : Type 0 where
  pub part : HasPart h.mark.caller h.mark.part
  pub line : 1 ≤ h.mark.line
  pub answer : HasBytes h.mark.kind h.mark.code h.bytes

-- a shown record names an entry
pub record NamesEntry (count : ℕ) (x : Shown) : Type 0 where
  pub first : 1 ≤ x.entry
  pub last : x.entry ≤ count

-- the outcome has fewer than 2^32 entries and fewer than 2^32 - 1 shown records, all made as declared
pub record IsWellMade (o : Outcome) : Type 0 where
  pub few : length o.entries < 2 ^ 32
  pub few_shown : length o.shown < 2 ^ 32 - 1
  pub entries : All IsEntry o.entries
  pub shown : All (NamesEntry (length o.entries)) o.shown
