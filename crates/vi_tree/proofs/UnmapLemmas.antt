-- Taking the mappings that lie in a span out, one after another.
use Rattle.std.proofs.Common.{◌≡◌, ℕ, ◌+◌, ◌-◌, ◌*◌, ◌^◌, ◌≤◌, ◌<◌, List, length, Some, None, refl, sym, ap, ◌∙◌, arith}
use Rattle.std.proofs.Math.Nat.{add-mul, one-mul, mul-le-mul_left}
use Rattle.std.proofs.lemmas.Nat.{mul-le}
use Rattle.vi_bytes.specs.declared.span.Span.{Span}
use Rattle.vi_bytes.specs.declared.lease.Mapping.{Mapping}
use Rattle.vi_bytes.specs.Spans.{IsProper}
use Rattle.vi_bytes.specs.Mappings.{AreApart, MappingSet, mapping_meeting, mapping_cut, within_span, without_span}
use Rattle.vi_tree.specs.Trees.{others_than}
use Rattle.vi_tree.proofs.ListLemmas.{takes_one, none_within}

-- so many of the mappings that lie in the span were taken out
pub record TakenOut (span : Span) (before now : MappingSet) (removed : ℕ) : Type 0 where
  pub apart : AreApart now.mappings
  pub few : length now.mappings + now.spare < 2 ^ 32
  pub uncut : mapping_cut span now.mappings ≡ None
  pub kept : without_span span now.mappings ≡ without_span span before.mappings
  pub taken : removed + length (within_span span now.mappings) ≡ length (within_span span before.mappings)
  pub spare : now.spare ≡ before.spare + removed
  pub size : removed + length now.mappings ≡ length before.mappings

pub TakenOut-more : (span : Span) (before now next : MappingSet) (removed : ℕ) (met : Mapping) → IsProper span → TakenOut span before now removed → mapping_meeting span now.mappings ≡ Some met → next ≡ record { mappings = others_than met.span.first now.mappings; spare = now.spare + 1 } → AreApart next.mappings → length next.mappings + next.spare < 2 ^ 32 → TakenOut span before next (removed + 1)
TakenOut-more span before now next removed met proper so_far found is apart few =
    let takes = takes_one span now.mappings met so_far.apart proper found so_far.uncut in
    let mappings : next.mappings ≡ others_than met.span.first now.mappings = ap (λ n. n.mappings) is in
    let spare : next.spare ≡ now.spare + 1 = ap (λ n. n.spare) is in
    let inside : length (within_span span next.mappings) ≡ length (within_span span (others_than met.span.first now.mappings)) = ap (λ ms. length (within_span span ms)) mappings in
    let before_taken = so_far.taken in
    let before_size = so_far.size in
    let before_spare = so_far.spare in
    record {
      apart = apart;
      few = few;
      uncut = ap (λ ms. mapping_cut span ms) mappings ∙ takes.uncut;
      kept = ap (λ ms. without_span span ms) mappings ∙ takes.kept ∙ so_far.kept;
      taken = omega (arith, takes.within);
      spare = omega arith;
      size = omega (arith, takes.one, ap length mappings);
    }

pub set_of : (s : MappingSet) (ms : List Mapping) (n : ℕ) → s.mappings ≡ ms → s.spare ≡ n → s ≡ record { mappings = ms; spare = n }
set_of s ms n mappings spare = rw (← mappings, ← spare) refl

pub TakenOut-all : (span : Span) (before now : MappingSet) (removed : ℕ) → IsProper span → TakenOut span before now removed → mapping_meeting span now.mappings ≡ None → now ≡ record { mappings = without_span span before.mappings; spare = before.spare + removed }
TakenOut-all span before now removed proper so_far none =
    let nothing = none_within span now.mappings so_far.apart proper none in
    set_of now (without_span span before.mappings) (before.spare + removed) (sym nothing.0 ∙ so_far.kept) so_far.spare

pub TakenOut-number : (span : Span) (before now : MappingSet) (removed : ℕ) → IsProper span → TakenOut span before now removed → mapping_meeting span now.mappings ≡ None → removed ≡ length (within_span span before.mappings)
TakenOut-number span before now removed proper so_far none =
    let nothing = none_within span now.mappings so_far.apart proper none in
    let size : length (within_span span now.mappings) ≡ 0 = ap length nothing.1 in
    let taken = so_far.taken in
    omega arith

pub TakenOut-first : (span : Span) (before : MappingSet) → AreApart before.mappings → length before.mappings + before.spare < 2 ^ 32 → mapping_cut span before.mappings ≡ None → TakenOut span before before 0
TakenOut-first span before apart few uncut = record { apart = apart; few = few; uncut = uncut; kept = refl; taken = omega arith; spare = omega arith; size = omega arith }

-- what a removal and the search before it add to the steps
pub steps_more : (start now found next removed low high : ℕ) → low ≤ high → now ≤ start + removed * (7 * high + 1) → found ≤ now + low → next ≤ found + (6 * low + 1) → next ≤ start + (removed + 1) * (7 * high + 1)
steps_more start now found next removed low high le a b c = omega (arith, add-mul removed 1 (7 * high + 1), one-mul (7 * high + 1))

-- the steps stay below 2^64
pub steps_fit : (start now removed high : ℕ) → start ≤ 2 ^ 63 + 128 → removed < 2 ^ 32 → high ≤ 64 → now ≤ start + removed * (7 * high + 1) → now + 1024 < 2 ^ 64
steps_fit start now removed high a b c d =
    let most : removed * (7 * high + 1) ≤ 4294967296 * 449 = mul-le removed (7 * high + 1) 4294967296 449 (omega arith) (omega arith) in
    omega arith

-- all steps of an unmap
pub steps_all : (start cut end k high : ℕ) → cut ≤ start + 2 * high → end ≤ cut + (k * (7 * high + 1) + high) → end - start ≤ (k + 1) * (8 * high + 1)
steps_all start cut end k high a b =
    let more : k * (7 * high + 1) ≤ k * (8 * high + 1) = mul-le-mul_left k (omega arith) in
    omega (arith, add-mul k 1 (8 * high + 1), one-mul (8 * high + 1))
