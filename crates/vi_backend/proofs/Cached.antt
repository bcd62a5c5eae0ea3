-- The leases that a back end caches.
use Rattle.std.proofs.Common.{◌≡◌, ℕ, zero, suc, ◌+◌, ◌-◌, ◌*◌, ◌^◌, ◌≤◌, ◌<◌, Bool, true, false, cond, not, ◌&&◌, ◌||◌, nat_le, List, [], ◌∷◌, Option, Some, None, All, IfSome, refl, sym, ap, ◌∙◌, subst, arith}
use Rattle.std.specs.List.{list_any, range_with_len}
use Rattle.std.proofs.lemmas.Bool.Decides.{nat_tests}
use Rattle.std.proofs.lemmas.List.Elements.{All-filter, All-cons, All-head, All-tail, All-take}
use Rattle.vi_bytes.specs.declared.span.Span.{Span}
use Rattle.vi_bytes.specs.declared.lease.Lease.{Lease}
use Rattle.vi_bytes.specs.Spans.{meets, page_span}
use Rattle.vi_bytes.specs.Leases.{has_page, share_page, reaches_into}
use Rattle.vi_cache.specs.Caches.{looked, fronted, without_page}
use Rattle.vi_cache.specs.Caches as caches
use Rattle.vi_model.specs.Caches.{cached_at, put, apart, untouched}
use Rattle.vi_model.specs.Grants.{touches}
use Rattle.vi_backend.specs.Own.{IsGrantedLease}
use Rattle.vi_backend.specs.Frames.{all_addresses}

pub granted_untouched : (s : Option Span) (ls : List Lease) → All IsGrantedLease ls → All IsGrantedLease (untouched s ls)
granted_untouched s ls g = All-filter (λ l. not (touches s l)) IsGrantedLease ls g

pub granted_put : (n : ℕ) (l : Lease) (ls : List Lease) → IsGrantedLease l → All IsGrantedLease ls → All IsGrantedLease (put n l ls)
granted_put n l ls x g = All-take IsGrantedLease n (l ∷ apart l ls) (All-cons IsGrantedLease l (apart l ls) x (All-filter (λ k. not (share_page l k)) IsGrantedLease ls g))

pub granted_found : (page : ℕ) (ls : List Lease) (l : Lease) → All IsGrantedLease ls → cached_at page ls ≡ Some l → IsGrantedLease l × (has_page l page ≡ true)
granted_found page [] l g e = cc
granted_found page (x ∷ xs) l g e = go (has_page x page) refl e (granted_found page xs l (All-tail IsGrantedLease x xs g)) where
  go : (b : Bool) → has_page x page ≡ b → cond b (Some x) (cached_at page xs) ≡ Some l → (cached_at page xs ≡ Some l → IsGrantedLease l × (has_page l page ≡ true)) → IsGrantedLease l × (has_page l page ≡ true)
  go true h e rest = let same : x ≡ l = cc in subst (λ (k : Lease). IsGrantedLease k × (has_page k page ≡ true)) same (All-head IsGrantedLease x xs g, h)
  go false h e rest = rest e

pub granted_looked : (page : ℕ) (ls : List Lease) → All IsGrantedLease ls → All IsGrantedLease (looked page ls)
granted_looked page ls g = go (cached_at page ls) refl where
  go : (o : Option Lease) → cached_at page ls ≡ o → All IsGrantedLease (fronted o page ls)
  go None e = g
  go (Some l) e = All-cons IsGrantedLease l (without_page page ls) (granted_found page ls l g e).0 (All-filter (λ k. not (has_page k page)) IsGrantedLease ls g)

-- the pages from p on, one more than n of them, have an address of the span where its ends say so
span_pages : (s : Span) (n p : ℕ) → s.first ≤ s.last → list_any (λ q. meets s (page_span q)) (range_with_len p (suc n)) ≡ (nat_le (4096 * p) s.last && nat_le s.first (4096 * (p + n) + 4095))
span_pages s zero p proper = grind (arith, nat_tests)
span_pages s (suc n) p proper =
    let rest = span_pages s n (p + 1) proper in
    ap (λ b. meets s (page_span p) || b) rest ∙ joined
  where
    joined : (meets s (page_span p) || (nat_le (4096 * (p + 1)) s.last && nat_le s.first (4096 * (p + 1 + n) + 4095))) ≡ (nat_le (4096 * p) s.last && nat_le s.first (4096 * (p + suc n) + 4095))
    joined = grind (arith, nat_tests)

pub touches-reaches_into : (s : Span) (l : Lease) → s.first ≤ s.last → 1 ≤ l.count → touches (Some s) l ≡ reaches_into l s
touches-reaches_into s l proper some =
    let on : l.count ≡ suc (l.count - 1) = omega arith in
    let last : l.page + (l.count - 1) ≡ l.page + l.count - 1 = omega arith in
    ap (λ n. list_any (λ q. meets s (page_span q)) (range_with_len l.page n)) on ∙ (span_pages s (l.count - 1) l.page proper ∙ ap (λ q. nat_le (4096 * l.page) s.last && nat_le s.first (4096 * q + 4095)) last)

pub untouched_by_span : (s : Span) (ls : List Lease) → s.first ≤ s.last → All IsGrantedLease ls → caches.untouched s ls ≡ untouched (Some s) ls
untouched_by_span s [] proper g = refl
untouched_by_span s (l ∷ ls) proper g =
    let head : IsGrantedLease l = All-head IsGrantedLease l ls g in
    rw (touches-reaches_into s l proper head.some, untouched_by_span s ls proper (All-tail IsGrantedLease l ls g)) refl

-- a lease with a page has one that None reaches
touches-None : (n p : ℕ) → list_any (λ q. true) (range_with_len p (suc n)) ≡ true
touches-None n p = refl

all_touch : (l : Lease) → IsGrantedLease l → touches None l ≡ touches (Some all_addresses) l
all_touch l g =
    let some : 1 ≤ l.count = g.some in
    let ends : l.page < 2 ^ 52 = g.ends in
    let on : l.count ≡ suc (l.count - 1) = omega arith in
    let all : reaches_into l all_addresses ≡ true = grind (arith, nat_tests) in
    ap (λ n. list_any (λ q. true) (range_with_len l.page n)) on ∙ (touches-None (l.count - 1) l.page ∙ (sym all ∙ sym (touches-reaches_into all_addresses l (omega arith) some)))

pub all_is_all : (ls : List Lease) → All IsGrantedLease ls → untouched None ls ≡ untouched (Some all_addresses) ls
all_is_all [] g = refl
all_is_all (l ∷ ls) g = rw (all_touch l (All-head IsGrantedLease l ls g), all_is_all ls (All-tail IsGrantedLease l ls g)) refl

-- what is found in the cache is granted, and has the page
pub granted_cached : (page : ℕ) (ls : List Lease) → All IsGrantedLease ls → IfSome (cached_at page ls) (λ l. IsGrantedLease l × (has_page l page ≡ true))
granted_cached page ls g = go (cached_at page ls) refl where
  go : (o : Option Lease) → cached_at page ls ≡ o → IfSome o (λ l. IsGrantedLease l × (has_page l page ≡ true))
  go None e = tt
  go (Some l) e = granted_found page ls l g e
