-- What the checker keeps, against what is known.
use Rattle.std.specs.Prelude.{◌≡◌, ℕ, List, Option, Some, None}
use Rattle.std.specs.BTreeMap.{BTreeMap, get}
use Rattle.std.specs.Ordering.{nat_cmp}
use Rattle.std.specs.Option.{unwrap_or}
use Rattle.vi_trace.specs.declared.finding.Rule.{Rule}
use Rattle.vi_trace.specs.declared.state.State.{State}
use Rattle.vi_trace.specs.declared.trace.Event.{Event}
use Rattle.vi_trace.specs.Rules.{Known, Breaks, Goes, Kept, perm_of}

-- the map has each page of the cache with its permission
abbrev pub IsCache : BTreeMap ℕ ℕ → List Kept → Type 0
IsCache map cache = (page : ℕ) → unwrap_or (get nat_cmp map page) 0 ≡ perm_of page cache

-- the state is what is known
pub record Holds (state : State) (known : Known) : Type 0 where
  pub waiting : state.waiting.items ≡ known.waiting
  pub cache : IsCache state.cache known.cache

-- an event is taken, and the state behind it is what is known then, or it breaks the rule
abbrev pub Steps : Known → Event → State → Option Rule → Type 0
Steps known event state None = (more : Known) × Goes known event more × Holds state more
Steps known event state (Some broken) = Breaks known event broken
