use Rattle.std.proofs.Common.{◌≡◌, ◌*◌, ℕ, Bool, true, false, refl, ap, arith}
use Rattle.vi_bytes.specs.declared.span.Span.{Span}
use Rattle.vi_iova.specs.Spaces.{SpaceValue, without_live}
use Rattle.tests_lists.proofs.space.again.Goals as goal

-- what is freed leaves the granule
freed_same : (b : Bool) (old new : SpaceValue) (span : Span) → (b ≡ true → new ≡ without_live span old) → (b ≡ false → new ≡ old) → new.granule ≡ old.granule
freed_same true old new span freed kept = ap (λ (s : SpaceValue). s.granule) (freed refl)
freed_same false old new span freed kept = ap (λ (s : SpaceValue). s.granule) (kept refl)

pub alloc-requires-2-clause-whole : goal.alloc-requires-2-clause-whole
alloc-requires-2-clause-whole c = (2, omega (arith, ap (λ (s : SpaceValue). s.granule) c.in_ok-low.ensures.live, c.requires))

pub alloc-requires-3-clause-whole : goal.alloc-requires-3-clause-whole
alloc-requires-3-clause-whole c = (
  1,
  omega (arith, freed_same _ _ _ _ c.free.ensures.freed c.free.ensures.kept, ap (λ (s : SpaceValue). s.granule) c.in_ok-pair.ensures.live, ap (λ (s : SpaceValue). s.granule) c.in_ok-low.ensures.live, c.requires),
)
