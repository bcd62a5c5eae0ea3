-- The table of one domain's mappings.
use Rattle.std.specs.Prelude.{ℕ, ◌+◌, ◌-◌, ◌^◌, ◌<◌, ◌≤◌, List, [], length, All}
use Rattle.vi_bytes.specs.Mappings.{MappingSet}
use Rattle.vi_bytes.specs.declared.lease.Mapping.{Mapping}

-- what a table is seen as: its mappings by rising address, and how many it has room for in all
pub record TableValue : Type 0 where
  pub mappings : List Mapping
  pub maps : ℕ

-- a table without mappings
abbrev pub empty_table : ℕ → TableValue
empty_table maps = record { mappings = []; maps = maps }

-- no flag but READ and WRITE, and both the addresses and their targets end at 2^64 - 1 or below
pub record IsInRange (m : Mapping) : Type 0 where
  pub flags : m.flags < 4
  pub last : m.span.last < 2 ^ 64
  pub target : m.target + (m.span.last - m.span.first) < 2 ^ 64

-- the tree has room for what is left of so many mappings
pub record Fits (maps : ℕ) (set : MappingSet) : Type 0 where
  pub most : length set.mappings ≤ maps
  pub room : maps ≤ length set.mappings + set.spare
  pub ranges : All IsInRange set.mappings
