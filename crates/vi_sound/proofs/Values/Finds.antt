-- What is found in lists of endpoints, domains and mappings that were changed.
use Rattle.std.proofs.Common.{◌≡◌, ◌≢◌, ◌==◌, ℕ, ◌*◌, Bool, true, false, cond, nat_lt, List, [], ◌∷◌, ◌++◌, Option, Some, None, refl, arith}
use Rattle.std.specs.List.{find}
use Rattle.std.proofs.lemmas.Bool.Decides.{nat_tests}
use Rattle.vi_bytes.specs.Spans.{has, meets, page_span}
use Rattle.vi_bytes.specs.Mappings.{mapping_at, with_mapping, without_span}
use Rattle.vi_bytes.specs.declared.span.Span.{Span}
use Rattle.vi_bytes.specs.declared.span.TheConstants.{PAGE}
use Rattle.vi_bytes.specs.declared.lease.Mapping.{Mapping}
use Rattle.vi_bytes.specs.declared.region.Membership.{Membership}
use Rattle.vi_history.specs.Device.{Endpoint, Domain, is_in}
use Rattle.vi_history.specs.Statuses.{any_mapping_meets}
use Rattle.vi_history.specs.Effects.{moved, is_inhabited, inhabited, with_domain, with_mappings}

-- the endpoint, the domain of this id
abbrev pub find_endpoint : ℕ → List Endpoint → Option Endpoint
find_endpoint id xs = find (λ x. x.id == id) xs

abbrev pub find_domain : ℕ → List Domain → Option Domain
find_domain id ys = find (λ y. y.id == id) ys

pub find_moved_other : (e f : ℕ) (to : Membership) (xs : List Endpoint) → f ≢ e → find_endpoint f (moved e to xs) ≡ find_endpoint f xs
find_moved_other e f to [] ne = refl
find_moved_other e f to (x ∷ xs) ne = grind (arith, nat_tests, find_moved_other e f to xs ne)

pub find_inhabited : (e d : ℕ) (x : Endpoint) (xs : List Endpoint) → find_endpoint e xs ≡ Some x → is_in d x.domain ≡ true → is_inhabited xs d ≡ true
find_inhabited e d x [] h k = absurd cc
find_inhabited e d x (y ∷ xs) h k = grind (arith, nat_tests, find_inhabited e d x xs)

pub find_kept : (d : ℕ) (xs : List Endpoint) (ys : List Domain) → is_inhabited xs d ≡ true → find_domain d (inhabited xs ys) ≡ find_domain d ys
find_kept d xs [] h = refl
find_kept d xs (y ∷ ys) h = grind (arith, nat_tests, find_kept d xs ys h)

pub find_domain_more : (d : ℕ) (y : Domain) (ys zs : List Domain) → find_domain d ys ≡ Some y → find_domain d (ys ++ zs) ≡ Some y
find_domain_more d y [] zs h = absurd cc
find_domain_more d y (x ∷ ys) zs h = grind (arith, nat_tests, find_domain_more d y ys zs)

pub find_made : (c d : ℕ) (b : Bool) (y : Domain) (ys : List Domain) (o : Option Domain) → find_domain d ys ≡ Some y → find_domain d (with_domain c b ys o) ≡ Some y
find_made c d b y ys None h = find_domain_more d y ys _ h
find_made c d b y ys (Some x) h = h

pub find_changed_other : (c d : ℕ) (change : List Mapping → List Mapping) (ys : List Domain) → d ≢ c → find_domain d (with_mappings c change ys) ≡ find_domain d ys
find_changed_other c d change [] ne = refl
find_changed_other c d change (y ∷ ys) ne = grind (arith, nat_tests, find_changed_other c d change ys ne)

pub find_changed : (d : ℕ) (change : List Mapping → List Mapping) (y : Domain) (ys : List Domain) → find_domain d ys ≡ Some y
    → find_domain d (with_mappings d change ys) ≡ Some (record y { mappings = change y.mappings })
find_changed d change y [] h = absurd cc
find_changed d change y (x ∷ ys) h = grind (arith, nat_tests, find_changed d change y ys)

found_apart : (a : ℕ) (n : Mapping) (s : Span) (ms : List Mapping) → mapping_at a ms ≡ Some n → any_mapping_meets s ms ≡ false → has s a ≡ false
found_apart a n s [] h far = absurd cc
found_apart a n s (x ∷ ms) h far = grind (arith, nat_tests, found_apart a n s ms)

-- a new mapping that meets none hides none
pub find_insert : (a : ℕ) (m n : Mapping) (ms : List Mapping) → mapping_at a ms ≡ Some n → any_mapping_meets m.span ms ≡ false → mapping_at a (with_mapping m ms) ≡ Some n
find_insert a m n [] h far = absurd cc
find_insert a m n (x ∷ ms) h far = go (nat_lt m.span.first x.span.first) (found_apart a n m.span (x ∷ ms) h far) (has x.span a) refl h (λ k. find_insert a m n ms k (grind (arith, nat_tests)))
  where
    go : (b : Bool) → has m.span a ≡ false → (c : Bool) → has x.span a ≡ c → cond c (Some x) (mapping_at a ms) ≡ Some n → (mapping_at a ms ≡ Some n → mapping_at a (with_mapping m ms) ≡ Some n)
        → mapping_at a (cond b (m ∷ (x ∷ ms)) (x ∷ with_mapping m ms)) ≡ Some n
    go true na c e h ih = rw na (rw e h)
    go false na true e h ih = rw e h
    go false na false e h ih = rw e (ih h)

-- what was removed lies within the span, and so held no address of a page that the span doesn't meet
pub find_without : (p : ℕ) (s : Span) (m : Mapping) (ms : List Mapping) → meets s (page_span p) ≡ false → mapping_at (PAGE * p) ms ≡ Some m → mapping_at (PAGE * p) (without_span s ms) ≡ Some m
find_without p s m [] far h = absurd cc
find_without p s m (x ∷ ms) far h = grind (arith, nat_tests, find_without p s m ms far)
