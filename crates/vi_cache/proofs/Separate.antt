-- Leases without a common page.
use Rattle.std.proofs.Common.{◌≡◌, ℕ, zero, suc, ◌+◌, ◌-◌, ◌≤◌, ◌<◌, Bool, true, false, cond, not, nat_lt, List, [], ◌∷◌, Some, length, take, drop, refl, ap, ◌∙◌, subst, arith, length-take}
use Rattle.std.specs.List.{filter, remove, slice_get}
use Rattle.std.proofs.Math.Bool.{and_comm}
use Rattle.std.proofs.lemmas.Bool.Decides.{nat_tests}
use Rattle.std.proofs.lemmas.List.Elements.{All-filter, All-cons, All-append, All-take, All-drop}
use Rattle.std.proofs.lemmas.List.Edits.{length-remove}
use Rattle.std.proofs.lemmas.Option.{get_or_from_slice_get}
use Rattle.vi_bytes.specs.declared.lease.Lease.{Lease}
use Rattle.vi_bytes.specs.Leases.{IsLease, has_page, share_page}
use Rattle.vi_cache.specs.Caches.{CachedLeases, IsCache, IsSeparate, AreSeparate, cached_at, without_page, looked, apart}
use Rattle.vi_cache.proofs.Lists.{find_passes, length-filter-le}

pub share_page-comm : (l k : Lease) → share_page l k ≡ share_page k l
share_page-comm l k = and_comm (nat_lt l.page (k.page + k.count)) (nat_lt k.page (l.page + l.count))

-- two leases that have a page share it
pub has_page-from_apart : (l k : Lease) (page : ℕ) → share_page l k ≡ false → has_page k page ≡ true → has_page l page ≡ false
has_page-from_apart l k page apart has = grind (arith, nat_tests)

pub IsSeparate-filter : (p : Lease → Bool) (l : Lease) (ks : List Lease) → IsSeparate l ks → IsSeparate l (filter p ks)
IsSeparate-filter p l [] h = h
IsSeparate-filter p l (k ∷ ks) h =
    let rest = IsSeparate-filter p l ks h.1 in
    elim (p k) as (λ b. IsSeparate l (cond b (k ∷ filter p ks) (filter p ks))) [ true ↦ (h.0, rest) | false ↦ rest ]

pub AreSeparate-filter : (p : Lease → Bool) (ls : List Lease) → AreSeparate ls → AreSeparate (filter p ls)
AreSeparate-filter p [] h = h
AreSeparate-filter p (l ∷ ls) h =
    let rest = AreSeparate-filter p ls h.1 in
    elim (p l) as (λ b. AreSeparate (cond b (l ∷ filter p ls) (filter p ls))) [ true ↦ (IsSeparate-filter p l ls h.0, rest) | false ↦ rest ]

pub IsSeparate-take : (n : ℕ) (l : Lease) (ks : List Lease) → IsSeparate l ks → IsSeparate l (take n ks)
IsSeparate-take zero l ks h = tt
IsSeparate-take (suc n) l [] h = tt
IsSeparate-take (suc n) l (k ∷ ks) h = (h.0, IsSeparate-take n l ks h.1)

pub AreSeparate-take : (n : ℕ) (ls : List Lease) → AreSeparate ls → AreSeparate (take n ls)
AreSeparate-take zero ls h = tt
AreSeparate-take (suc n) [] h = tt
AreSeparate-take (suc n) (l ∷ ls) h = (IsSeparate-take n l ls h.0, AreSeparate-take n ls h.1)

-- the lease has no page in common with those that are apart from it
pub IsSeparate-apart : (l : Lease) (ks : List Lease) → IsSeparate l (apart l ks)
IsSeparate-apart l [] = tt
IsSeparate-apart l (k ∷ ks) = go (share_page l k) refl (IsSeparate-apart l ks) where
  go : (b : Bool) → share_page l k ≡ b → IsSeparate l (apart l ks) → IsSeparate l (cond (not b) (k ∷ apart l ks) (apart l ks))
  go true e rest = rest
  go false e rest = (e, rest)

pub share_page-at : (l k : Lease) (ks : List Lease) (n : ℕ) → IsSeparate l ks → slice_get ks n ≡ Some k → share_page l k ≡ false
share_page-at l k [] n h e = cc
share_page-at l k (x ∷ xs) zero h e = cc
share_page-at l k (x ∷ xs) (suc n) h e = share_page-at l k xs n h.1 e

-- an element is apart from the others
pub IsSeparate-remove : (ls : List Lease) (n : ℕ) (l : Lease) → AreSeparate ls → slice_get ls n ≡ Some l → IsSeparate l (remove ls n)
IsSeparate-remove [] n l h e = cc
IsSeparate-remove (x ∷ xs) zero l h e = let same : x ≡ l = (cc) in rw (← same) h.0
IsSeparate-remove (x ∷ xs) (suc n) l h e = (share_page-comm l x ∙ share_page-at x l xs n h.0 e, IsSeparate-remove xs n l h.1 e)

pub IsSeparate-others : (x : Lease) (xs : List Lease) (n : ℕ) → IsSeparate x xs → IsSeparate x (remove xs n)
IsSeparate-others x [] zero h = tt
IsSeparate-others x [] (suc n) h = tt
IsSeparate-others x (k ∷ ks) zero h = h.1
IsSeparate-others x (k ∷ ks) (suc n) h = (h.0, IsSeparate-others x ks n h.1)

pub AreSeparate-remove : (ls : List Lease) (n : ℕ) → AreSeparate ls → AreSeparate (remove ls n)
AreSeparate-remove [] zero h = tt
AreSeparate-remove [] (suc n) h = tt
AreSeparate-remove (x ∷ xs) zero h = h.1
AreSeparate-remove (x ∷ xs) (suc n) h = (IsSeparate-others x xs n h.0, AreSeparate-remove xs n h.1)

-- those apart from a lease that has the page don't have it
pub without_page-separate : (l : Lease) (ks : List Lease) (page : ℕ) → IsSeparate l ks → has_page l page ≡ true → without_page page ks ≡ ks
without_page-separate l [] page h has = refl
without_page-separate l (k ∷ ks) page h has =
    let not_k = has_page-from_apart k l page (share_page-comm k l ∙ h.0) has in
    rw not_k (ap (λ (xs : List Lease). k ∷ xs) (without_page-separate l ks page h.1 has))

-- one lease has the page, so the others are those without it
pub remove-without_page : (ls : List Lease) (n : ℕ) (l : Lease) (page : ℕ) → AreSeparate ls → slice_get ls n ≡ Some l → has_page l page ≡ true → remove ls n ≡ without_page page ls
remove-without_page [] n l page h e has = cc
remove-without_page (x ∷ xs) zero l page h e has =
    let same : x ≡ l = (cc) in
    let x_has : has_page x page ≡ true = (rw same has) in
    rw (x_has, without_page-separate x xs page h.0 x_has) refl
remove-without_page (x ∷ xs) (suc n) l page h e has =
    let not_x = has_page-from_apart x l page (share_page-at x l xs n h.0 e) has in
    rw not_x (ap (λ (ks : List Lease). x ∷ ks) (remove-without_page xs n l page h.1 e has))

-- leases from which some leave
module _ (c : CachedLeases) (cache : IsCache c) where
  pub IsCache-filter : (p : Lease → Bool) → IsCache (record c { leases = filter p c.leases })
  IsCache-filter p =
      let fewer : length (filter p c.leases) ≤ length c.leases = length-filter-le p c.leases in
      record {
        leases_each = All-filter p IsLease c.leases cache.leases_each;
        separate = AreSeparate-filter p c.leases cache.separate;
        within_capacity = omega (arith, cache.within_capacity);
        some = cache.some;
        most = cache.most;
      }

  -- one of them comes to the front
  pub IsCache-moved : (n : ℕ) (l : Lease) → slice_get c.leases n ≡ Some l → n < length c.leases → IsCache (record c { leases = l ∷ remove c.leases n })
  IsCache-moved n l at below =
      let as_many : length (remove c.leases n) + 1 ≡ length c.leases = length-remove c.leases n below in
      let l_lease : IsLease l = subst IsLease (get_or_from_slice_get c.leases n l l at) (cache.leases_each n l below) in
      record {
        leases_each = All-cons IsLease l (remove c.leases n) l_lease (All-append IsLease (take n c.leases) (drop (suc n) c.leases) (All-take IsLease n c.leases cache.leases_each) (All-drop IsLease (suc n) c.leases cache.leases_each));
        separate = (IsSeparate-remove c.leases n l cache.separate at, AreSeparate-remove c.leases n cache.separate);
        within_capacity = omega (arith, cache.within_capacity);
        some = cache.some;
        most = cache.most;
      }

  pub looked-moved : (n : ℕ) (l : Lease) (page : ℕ) → slice_get c.leases n ≡ Some l → cached_at page c.leases ≡ slice_get c.leases n → looked page c.leases ≡ l ∷ remove c.leases n
  looked-moved n l page at found =
      let has = find_passes (λ k. has_page k page) c.leases l (found ∙ at) in
      rw (found, at, remove-without_page c.leases n l page cache.separate at has) refl

  -- a lease is put in front of those apart from it
  pub IsCache-put : (l : Lease) → IsLease l → IsCache (record c { leases = l ∷ take (c.capacity - 1) (apart l c.leases) })
  IsCache-put l lease =
      let some : 1 ≤ c.capacity = cache.some in
      record {
        leases_each = All-cons IsLease l (take (c.capacity - 1) (apart l c.leases)) lease (All-take IsLease (c.capacity - 1) (apart l c.leases) (All-filter (λ k. not (share_page l k)) IsLease c.leases cache.leases_each));
        separate = (IsSeparate-take (c.capacity - 1) l (apart l c.leases) (IsSeparate-apart l c.leases), AreSeparate-take (c.capacity - 1) (apart l c.leases) (AreSeparate-filter (λ k. not (share_page l k)) c.leases cache.separate));
        within_capacity = omega (arith, length-take (c.capacity - 1) (apart l c.leases));
        some = cache.some;
        most = cache.most;
      }
