use Rattle.std.proofs.Common.{rules}
use Rattle.std.proofs.lemmas.List.Sorted.{IsNonDecreasingBy-from_sort_by_key}
use Rattle.vi_iova.proofs.Rising.{AreRising-sorted}
use Rattle.vi_iova.proofs.space.sort.Goals as goal

pub returns-clause-rising : goal.returns-clause-rising
returns-clause-rising c = AreRising-sorted _ (IsNonDecreasingBy-from_sort_by_key (λ t. t.first) _ c.sort_unstable_by_key.ensures.sorted (λ a r q k. search rules))
