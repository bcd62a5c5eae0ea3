-- Regions that were read, in front of what is read after them.
use Rattle.std.proofs.Common.{◌≡◌, ◌≢◌, ◌<◌, ℕ, List, [], ◌∷◌, ◌++◌, length, Option, Some, None, IfSome, refl, sym, ap, subst}
use Rattle.vi_bytes.specs.Properties.{Properties, Regions, CutAt, KindAt, with_region, ReadsFrom, finished, cut, misfit, skipped, region, Ends, Begins, IsWhole, IsRegionAt, IsMisfitAt, type_at, end_at}
use Rattle.vi_bytes.specs.declared.region.Region.{Region}
use Rattle.vi_bytes.proofs.PropertyLemmas.{same-from_ReadsFrom}

with_regions : List Region → Properties → Properties
with_regions [] read = read
with_regions (r ∷ rs) read = with_region r (with_regions rs read)

with_regions-push : (rs : List Region) (r : Region) (read : Properties) → with_regions (rs ++ r ∷ []) read ≡ with_regions rs (with_region r read)
unfolding with_regions
with_regions-push [] r read = refl
with_regions-push (s ∷ rs) r read = ap (with_region s) (with_regions-push rs r read)

with_regions-Regions : (rs : List Region) → with_regions rs (Regions []) ≡ Regions rs
unfolding with_regions
with_regions-Regions [] = refl
with_regions-Regions (s ∷ rs) = ap (with_region s) (with_regions-Regions rs)

with_regions-CutAt : (rs : List Region) (at : ℕ) → with_regions rs (CutAt at) ≡ CutAt at
unfolding with_regions
with_regions-CutAt [] at = refl
with_regions-CutAt (s ∷ rs) at = ap (with_region s) (with_regions-CutAt rs at)

with_regions-KindAt : (rs : List Region) (at : ℕ) → with_regions rs (KindAt at) ≡ KindAt at
unfolding with_regions
with_regions-KindAt [] at = refl
with_regions-KindAt (s ∷ rs) at = ap (with_region s) (with_regions-KindAt rs at)

-- what is read from this offset on, with these regions in front, is what is read from the start
pub record ReadSoFar (bytes : List ℕ) (at : ℕ) (regions : List Region) : Type 0 where
  reads : (read : Properties) → ReadsFrom bytes at read → ReadsFrom bytes 0 (with_regions regions read)

pub so_far-start : (bytes : List ℕ) → ReadSoFar bytes 0 []
unfolding with_regions
so_far-start bytes = record { reads = λ read r. r }

pub so_far-skipped : {bytes : List ℕ} {at end : ℕ} {rs : List Region} → ReadSoFar bytes at rs → IsWhole at bytes → type_at at bytes ≢ 1 → end ≡ end_at at bytes → ReadSoFar bytes end rs
so_far-skipped {bytes} so_far whole other e = record { reads = λ read r. so_far.reads read (skipped whole other (subst (λ n. ReadsFrom bytes n read) e r)) }

pub so_far-region : {bytes : List ℕ} {at end : ℕ} {rs : List Region} {r : Region} → ReadSoFar bytes at rs → IsRegionAt at bytes r → end ≡ end_at at bytes → ReadSoFar bytes end (rs ++ r ∷ [])
so_far-region {bytes} {rs = rs} {r} so_far is e = record {
  reads = λ read after. subst (ReadsFrom bytes 0) (sym (with_regions-push rs r read)) (so_far.reads (with_region r read) (region is (subst (λ n. ReadsFrom bytes n read) e after)));
}

pub so_far-end : {bytes : List ℕ} {at : ℕ} {rs : List Region} → ReadSoFar bytes at rs → Ends at bytes → ReadsFrom bytes 0 (Regions rs)
so_far-end {bytes} {rs = rs} so_far ends = subst (ReadsFrom bytes 0) (with_regions-Regions rs) (so_far.reads (Regions []) (finished ends))

pub so_far-cut : {bytes : List ℕ} {at : ℕ} {rs : List Region} → ReadSoFar bytes at rs → Begins at bytes → length bytes < end_at at bytes → ReadsFrom bytes 0 (CutAt at)
so_far-cut {bytes} {at} {rs} so_far begins passes = subst (ReadsFrom bytes 0) (with_regions-CutAt rs at) (so_far.reads (CutAt at) (cut begins passes))

pub so_far-misfit : {bytes : List ℕ} {at : ℕ} {rs : List Region} → ReadSoFar bytes at rs → IsMisfitAt at bytes → ReadsFrom bytes 0 (KindAt at)
so_far-misfit {bytes} {at} {rs} so_far is = subst (ReadsFrom bytes 0) (with_regions-KindAt rs at) (so_far.reads (KindAt at) (misfit is))

pub ruleset steps = (so_far-start, so_far-skipped, so_far-region, so_far-end, so_far-cut, so_far-misfit)

-- what properties read as is one thing, so an answer that they read as is the one that they read as
pub only_answer : (bytes : List ℕ) (answer : Option Properties) → IfSome answer (ReadsFrom bytes 0) → (read : Properties) → ReadsFrom bytes 0 read → IfSome answer (λ said. said ≡ read)
only_answer bytes (Some said) found read reads = same-from_ReadsFrom found reads
only_answer bytes None found read reads = tt
