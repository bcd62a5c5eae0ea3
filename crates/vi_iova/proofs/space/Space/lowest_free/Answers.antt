use Rattle.std.proofs.Common.{ℕ, IfSome, IfNone, subst}
use Rattle.vi_iova.specs.Spaces.{IsFree, IsLowestFree}
use Rattle.vi_iova.proofs.Finding.{searched, nothing_above}
use Rattle.vi_iova.proofs.space.Space.lowest_free.Goals as goal

pub returns-in_err-from-clause-none : goal.returns-in_err-from-clause-none
returns-in_err-from-clause-none c =
    subst (λ s. IfNone c.from_residual.result ((first : ℕ) → ¬ IsFree s c.args.len first)) c.self.view_is
    (nothing_above _ c.args.len c.from-granule.result c.max.result c.new-wanted.result c.from_residual.result c.new-wanted.ensures.wanted c.from-granule.ensures c.max.ensures c.self.invariant.some c.new-wanted.ensures.fits c.in_err-from.ensures.none c.from_residual.ensures)

pub returns-clause-lowest : goal.returns-clause-lowest
returns-clause-lowest c =
    subst (λ s. IfSome c.lowest_clear.result (IsLowestFree s c.args.len)) c.self.view_is
    (searched _ c.args.len c.from-granule.result c.max.result c.in_ok-from.from c.new-wanted.result c.self.inside.kept_off.items c.deref.result.now c.deref-2.result.now c.lowest_clear.result
    c.new-wanted.ensures.wanted c.from-granule.ensures c.max.ensures c.self.invariant c.in_ok-from.ensures.next c.deref.ensures.value c.deref-2.ensures.value c.lowest_clear.ensures).0

pub returns-clause-none : goal.returns-clause-none
returns-clause-none c =
    subst (λ s. IfNone c.lowest_clear.result ((first : ℕ) → ¬ IsFree s c.args.len first)) c.self.view_is
    (searched _ c.args.len c.from-granule.result c.max.result c.in_ok-from.from c.new-wanted.result c.self.inside.kept_off.items c.deref.result.now c.deref-2.result.now c.lowest_clear.result
    c.new-wanted.ensures.wanted c.from-granule.ensures c.max.ensures c.self.invariant c.in_ok-from.ensures.next c.deref.ensures.value c.deref-2.ensures.value c.lowest_clear.ensures).1
