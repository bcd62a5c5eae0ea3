-- What a space keeps in order stays so.
use Rattle.std.proofs.Common.{◌≡◌, ◌≢◌, ℕ, ◌↔◌, Bool, List, Result, Ok, Err, OnOk, OnErr, sym, subst}
use Rattle.std.specs.List.{filter}
use Rattle.vi_bytes.specs.declared.span.Span.{Span}
use Rattle.vi_bytes.specs.declared.region.Region.{Region}
use Rattle.vi_iova.specs.declared.fault.AllocFault.{AllocFault}
use Rattle.vi_iova.specs.declared.fault.AllocFault.TheVariants.{Full}
use Rattle.vi_iova.specs.Spaces.{SpaceValue, IsFree, IsLowestFree, among}
use Rattle.vi_iova.specs.Order.{AreRising, IsInOrder}
use Rattle.vi_iova.proofs.Rising.{AreRising-among, AreRising-filter}

pub kept_same : (granule : ℕ) (regions : List Region) (kept live new : List Span) → IsInOrder granule regions kept live → new ≡ live → IsInOrder granule regions kept new
kept_same granule regions kept live new order is = subst (IsInOrder granule regions kept) (sym is) order

pub kept_with : (granule : ℕ) (regions : List Region) (kept live new : List Span) (span : Span) → IsInOrder granule regions kept live → new ≡ among span live → IsInOrder granule regions kept new
kept_with granule regions kept live new span order is =
    record { some = order.some; live_rise = subst AreRising (sym is) (AreRising-among span live order.live_rise); kept_rise = order.kept_rise; same = order.same }

pub kept_put : {E : Type 0} (granule : ℕ) (regions : List Region) (kept live new : List Span) (span : Span) (r : Result (Unit {0}) E) → IsInOrder granule regions kept live
    → OnOk r (new ≡ among span live) → OnErr r (new ≡ live) → IsInOrder granule regions kept new
kept_put granule regions kept live new span (Ok done) order put same = kept_with granule regions kept live new span order put
kept_put granule regions kept live new span (Err e) order put same = kept_same granule regions kept live new order same

pub kept_without : (granule : ℕ) (regions : List Region) (kept live new : List Span) (p : Span → Bool) → IsInOrder granule regions kept live → new ≡ filter p live → IsInOrder granule regions kept new
kept_without granule regions kept live new p order is =
    record { some = order.some; live_rise = subst AreRising (sym is) (AreRising-filter p live order.live_rise); kept_rise = order.kept_rise; same = order.same }

-- with a free span the answer isn't Full
pub not_full : (s : SpaceValue) (len : ℕ) (span : Span) (r : Result Span AllocFault) → IsLowestFree s len span → r ≢ Err Full → (r ≡ Err Full) ↔ ((first : ℕ) → ¬ IsFree s len first)
not_full s len span r lowest other = (λ e. absurd (other e), λ none. absurd (none span.first lowest.free))

pub ruleset steps = (kept_same, kept_with, kept_without, not_full)
