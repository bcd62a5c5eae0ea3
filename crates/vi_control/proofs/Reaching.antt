-- The leases that a reach touches, by the span of its addresses.
use Rattle.std.proofs.Common.{◌≡◌, ℕ, zero, suc, ◌+◌, ◌-◌, ◌*◌, ◌^◌, ◌≤◌, ◌<◌, Bool, true, false, cond, ◌&&◌, ◌||◌, nat_le, eqb, List, [], ◌∷◌, Option, Some, None, All, refl, sym, ap, ◌∙◌, arith}
use Rattle.std.specs.List.{list_any, range_with_len}
use Rattle.std.proofs.lemmas.Bool.Decides.{nat_tests}
use Rattle.std.proofs.lemmas.List.Elements.{All-head, All-tail}
use Rattle.vi_bytes.specs.declared.span.Span.{Span}
use Rattle.vi_bytes.specs.declared.lease.Lease.{Lease}
use Rattle.vi_bytes.specs.Spans.{IsProper, meets, page_span}
use Rattle.vi_bytes.specs.Leases.{reaches_into}
use Rattle.vi_history.specs.Device.{Dev}
use Rattle.vi_history.specs.declared.reading.Reading.TheVariants.{Silent, Malformed, Asks}
use Rattle.vi_history.specs.declared.request.Request.TheVariants.{Attach, Detach, Map, Unmap, Probe}
use Rattle.vi_grants.specs.declared.row.Grant.{Grant}
use Rattle.vi_grants.specs.Rows.{IsGrant, is_met}
use Rattle.vi_model.specs.Grants.{some_page, touches}
use Rattle.vi_model.specs.Tasks.{closes, reach_of, reach_between, reaches}
use Rattle.vi_model.specs.Removals.{must_wait}
use Rattle.vi_model.specs.declared.task.Task.{Task}
use Rattle.vi_model.specs.declared.task.Task.TheVariants.{Reads, Sets}
use Rattle.vi_removals.specs.Value.{addresses_of}

-- the pages from p on, one more than n of them, have an address of the span where its ends say so
span_pages : (s : Span) (n p : ℕ) → s.first ≤ s.last → list_any (λ q. meets s (page_span q)) (range_with_len p (suc n)) ≡ (nat_le (4096 * p) s.last && nat_le s.first (4096 * (p + n) + 4095))
span_pages s zero p proper = grind (arith, nat_tests)
span_pages s (suc n) p proper =
    let rest = span_pages s n (p + 1) proper in
    ap (λ b. meets s (page_span p) || b) rest ∙ joined
  where
    joined : (meets s (page_span p) || (nat_le (4096 * (p + 1)) s.last && nat_le s.first (4096 * (p + 1 + n) + 4095))) ≡ (nat_le (4096 * p) s.last && nat_le s.first (4096 * (p + suc n) + 4095))
    joined = grind (arith, nat_tests)

touches-span : (s : Span) (l : Lease) → s.first ≤ s.last → 1 ≤ l.count → touches (Some s) l ≡ reaches_into l s
touches-span s l proper some =
    let on : l.count ≡ suc (l.count - 1) = omega arith in
    let last : l.page + (l.count - 1) ≡ l.page + l.count - 1 = omega arith in
    ap (λ n. list_any (λ q. meets s (page_span q)) (range_with_len l.page n)) on ∙ (span_pages s (l.count - 1) l.page proper ∙ ap (λ q. nat_le (4096 * l.page) s.last && nat_le s.first (4096 * q + 4095)) last)

touches-all : (l : Lease) → 1 ≤ l.count → l.page + l.count ≤ 2 ^ 52 → touches None l ≡ reaches_into l (addresses_of None)
touches-all l some below =
    let on : l.count ≡ suc (l.count - 1) = omega arith in
    let all : reaches_into l (addresses_of None) ≡ true = grind (arith, nat_tests) in
    ap (λ n. list_any (λ q. true) (range_with_len l.page n)) on ∙ sym all

-- a granted lease is touched where a page of it has an address of the reach
pub touches-reach : (reach : Option Span) (l : Lease) → IsProper (addresses_of reach) → 1 ≤ l.count → l.page + l.count ≤ 2 ^ 52 → touches reach l ≡ reaches_into l (addresses_of reach)
touches-reach None l proper some below = touches-all l some below
touches-reach (Some s) l proper some below = touches-span s l proper some

-- a task's reach is that of its addresses
reach-between : (first last : ℕ) → (let s : Span = addresses_of (reach_between first last) in reach_between s.first s.last) ≡ reach_between first last
reach-between first last = go (eqb first 0 && eqb last (2 ^ 64 - 1)) refl
  where
    go : (b : Bool) → (eqb first 0 && eqb last (2 ^ 64 - 1)) ≡ b
        → (let s : Span = addresses_of (cond b None (Some (record { first = first; last = last }))) in reach_between s.first s.last) ≡ cond b None (Some (record { first = first; last = last }))
    go true e = refl
    go false e = rw e refl

pub reach-addresses : (task : Task) → (let s : Span = addresses_of (reach_of task) in reach_between s.first s.last) ≡ reach_of task
reach-addresses (Reads Silent) = refl
reach-addresses (Reads (Malformed probe)) = refl
reach-addresses (Reads (Asks (Attach domain endpoint flags))) = refl
reach-addresses (Reads (Asks (Detach domain endpoint))) = refl
reach-addresses (Reads (Asks (Map domain first last target flags))) = refl
reach-addresses (Reads (Asks (Unmap domain first last))) = reach-between first last
reach-addresses (Reads (Asks (Probe endpoint))) = refl
reach-addresses (Sets on) = refl

-- pages on which two tests agree
any-same : (f g : ℕ → Bool) (p n : ℕ) → ((q : ℕ) → q < p + n → f q ≡ g q) → list_any f (range_with_len p n) ≡ list_any g (range_with_len p n)
any-same f g p zero same = refl
any-same f g p (suc n) same = rw (same p (omega arith), any-same f g (p + 1) n (λ q lt. same q (omega (arith, lt)))) refl

any-and : (b : Bool) (f : ℕ → Bool) (xs : List ℕ) → list_any (λ q. b && f q) xs ≡ (b && list_any f xs)
any-and true f xs = refl
any-and false f [] = refl
any-and false f (x ∷ xs) = any-and false f xs

grants-and : (b : Bool) (f : Grant → Bool) (gs : List Grant) → list_any (λ g. b && f g) gs ≡ (b && list_any f gs)
grants-and true f gs = refl
grants-and false f [] = refl
grants-and false f (g ∷ gs) = grants-and false f gs

-- a task has to wait for the back end whose endpoint it takes addresses from, where these meet a grant
module _ (dev : Dev) (task : Task) (endpoint : ℕ) (takes : Bool) (proper : IsProper (addresses_of (reach_of task)))
    (closing : (page : ℕ) → page < 2 ^ 52 → closes dev task endpoint page ≡ (takes && reaches (reach_of task) page)) where
  waits-lease : (g : Grant) → IsGrant g → g.lease.page + g.lease.count ≤ 2 ^ 52 → some_page (closes dev task endpoint) g.lease ≡ (takes && is_met (addresses_of (reach_of task)) g)
  waits-lease g granted below =
      any-same (closes dev task endpoint) (λ q. takes && reaches (reach_of task) q) g.lease.page g.lease.count (λ q lt. closing q (omega (arith, lt, below)))
      ∙ any-and takes (reaches (reach_of task)) (range_with_len g.lease.page g.lease.count)
      ∙ ap (λ b. takes && b) (touches-reach (reach_of task) g.lease proper granted.lease.some below)

  waits-each : (gs : List Grant) → All IsGrant gs → All (λ g. g.lease.page + g.lease.count ≤ 2 ^ 52) gs → must_wait dev task endpoint gs ≡ list_any (λ g. takes && is_met (addresses_of (reach_of task)) g) gs
  waits-each [] granted below = refl
  waits-each (g ∷ gs) granted below =
      rw (
        waits-lease g (All-head IsGrant g gs granted) (All-head (λ g. g.lease.page + g.lease.count ≤ 2 ^ 52) g gs below),
        waits-each gs (All-tail IsGrant g gs granted) (All-tail (λ g. g.lease.page + g.lease.count ≤ 2 ^ 52) g gs below),
      ) refl

  pub must_wait-met : (gs : List Grant) → All IsGrant gs → All (λ g. g.lease.page + g.lease.count ≤ 2 ^ 52) gs
      → must_wait dev task endpoint gs ≡ (takes && list_any (is_met (addresses_of (reach_of task))) gs)
  must_wait-met gs granted below = waits-each gs granted below ∙ grants-and takes (is_met (addresses_of (reach_of task))) gs
