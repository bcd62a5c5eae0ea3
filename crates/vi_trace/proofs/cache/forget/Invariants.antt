use Rattle.std.proofs.Common.{◌≡◌, ◌≤◌, ℕ, None}
use Rattle.std.specs.Prelude.{◌⊎◌}
use Rattle.std.specs.BTreeMap.{get, btree_map_len}
use Rattle.std.specs.Ordering.{nat_cmp}
use Rattle.vi_trace.proofs.cache.forget.Given as goal

-- each page is as it was, or within the span's pages and gone
abbrev pub invariant-loop-page : goal.invariant-loop-page
invariant-loop-page l = record {
  inside : (q : ℕ) → (get nat_cmp l.cache q ≡ get nat_cmp l.initial.cache q) ⊎ ((get nat_cmp l.cache q ≡ None) × (l.first ≤ q) × (q ≤ l.last));
}

abbrev pub decreases-loop-page : goal.decreases-loop-page
decreases-loop-page l = btree_map_len l.cache
