-- When a put makes a lease leave for want of room.
use Rattle.std.proofs.Common.{◌≡◌, suc, ◌-◌, ◌≤◌, ◌<◌, ◌↔◌, Bool, true, false, cond, not, ◌||◌, List, [], ◌∷◌, IsSome, length, refl, ap, arith}
use Rattle.std.specs.List.{filter, list_any, slice_get}
use Rattle.vi_bytes.specs.declared.lease.Lease.{Lease}
use Rattle.vi_bytes.specs.Leases.{share_page}
use Rattle.vi_cache.specs.Caches.{CachedLeases, IsCache, apart}
use Rattle.vi_cache.proofs.Lists.{length-filter-le, IsSome-slice_get}

-- the elements that fail a test are all where none passes it, and only there
pub filter-none : {X : Type 0} (p : X → Bool) (xs : List X) → list_any p xs ≡ false → filter (λ x. not (p x)) xs ≡ xs
filter-none p [] h = refl
filter-none {X} p (x ∷ xs) h = go (p x) h (filter-none p xs) where
  go : (b : Bool) → (b || list_any p xs) ≡ false → (list_any p xs ≡ false → filter (λ y. not (p y)) xs ≡ xs) → cond (not b) (x ∷ filter (λ y. not (p y)) xs) (filter (λ y. not (p y)) xs) ≡ x ∷ xs
  go true none rest = cc
  go false none rest = ap (λ (ys : List X). x ∷ ys) (rest none)

pub list_any-from_length : {X : Type 0} (p : X → Bool) (xs : List X) → length (filter (λ x. not (p x)) xs) ≡ length xs → list_any p xs ≡ false
list_any-from_length p [] h = refl
list_any-from_length {X} p (x ∷ xs) h = go (p x) h (list_any-from_length p xs) where
  go : (b : Bool) → length (cond (not b) (x ∷ filter (λ y. not (p y)) xs) (filter (λ y. not (p y)) xs)) ≡ suc (length xs) → (length (filter (λ y. not (p y)) xs) ≡ length xs → list_any p xs ≡ false) → (b || list_any p xs) ≡ false
  go true n rest = absurd (omega (arith, length-filter-le (λ y. not (p y)) xs))
  go false n rest = rest (omega arith)

-- the last lease leaves where the cache is full and no lease shares a page with the new one
pub evicts-iff : (c : CachedLeases) (l : Lease) → IsCache c → IsSome (slice_get (apart l c.leases) (c.capacity - 1)) ↔ ((length c.leases ≡ c.capacity) × (list_any (share_page l) c.leases ≡ false))
evicts-iff c l cache =
    let some : 1 ≤ c.capacity = cache.some in
    let within : length c.leases ≤ c.capacity = cache.within_capacity in
    let fewer : length (apart l c.leases) ≤ length c.leases = length-filter-le (λ k. not (share_page l k)) c.leases in
    let reached = IsSome-slice_get (apart l c.leases) (c.capacity - 1) in (
      (λ last. let below : c.capacity - 1 < length (apart l c.leases) = reached.0 last in
          let all : length (apart l c.leases) ≡ length c.leases = omega arith in
          (omega arith, list_any-from_length (share_page l) c.leases all)),
      (λ (full : (length c.leases ≡ c.capacity) × (list_any (share_page l) c.leases ≡ false)).
          let all : length (apart l c.leases) ≡ length c.leases = ap (λ (ls : List Lease). length ls) (filter-none (share_page l) c.leases full.1) in
          let at : length c.leases ≡ c.capacity = full.0 in
          reached.1 (omega arith)),
    )
