-- Look-ups in grants and caches that were changed.
use Rattle.std.proofs.Common.{not, ◌==◌, ◌≡◌, ◌≢◌, ℕ, zero, suc, ◌+◌, ◌≤◌, ◌<◌, Bool, true, false, cond, List, [], ◌∷◌, ◌++◌, take, Option, Some, None, refl, arith, ◌∙◌, ap, sym, ◌⊎◌, inl, inr}
use Rattle.std.specs.List.{list_any, range_with_len}
use Rattle.std.proofs.lemmas.Bool.Decides.{nat_tests}
use Rattle.std.proofs.lemmas.Bool.{cases_eq, or_parts, eqb-true, eq-eqb}
use Rattle.vi_bytes.specs.Leases.{has_page, share_page}
use Rattle.vi_bytes.specs.declared.span.Span.{Span}
use Rattle.vi_bytes.specs.declared.lease.Lease.{Lease}
use Rattle.vi_model.specs.Lanes.{Down, Update, Invalidate}
use Rattle.vi_model.specs.Grants.{some_page, touches, lease_under, spared, others, granted}
use Rattle.vi_grants.specs.declared.row.Grant.{Grant}
use Rattle.vi_model.specs.Caches.{apart, untouched, without_page}
use Rattle.vi_model.specs.Links.{AreDistinct, IsGranted, AreGranted, UpdatesAreGranted, AreClear, UpdatesAreClear}

-- a page of the pages
any_none : (f : ℕ → Bool) (p n q : ℕ) → list_any f (range_with_len p n) ≡ false → p ≤ q → q < p + n → f q ≡ false
any_none f p zero q h lo hi = absurd (omega (arith, lo, hi))
any_none f p (suc n) q h lo hi = go (cases_eq q p) (or_parts (f p) (list_any f (range_with_len (p + 1) n)) h) (λ b lo hi. any_none f (p + 1) n q b lo hi)
  where
    go : (q ≡ p) ⊎ (q ≡ p → ⊥) → (f p ≡ false) × (list_any f (range_with_len (p + 1) n) ≡ false) → (list_any f (range_with_len (p + 1) n) ≡ false → p + 1 ≤ q → q < p + 1 + n → f q ≡ false) → f q ≡ false
    go (inl e) b ih = ap f e ∙ b.0
    go (inr ne) b ih = ih b.1 (omega (arith, lo, ne)) (omega (arith, hi))

any_false : (f : ℕ → Bool) (p n : ℕ) → ((q : ℕ) → p ≤ q → q < p + n → f q ≡ false) → list_any f (range_with_len p n) ≡ false
any_false f p zero h = refl
any_false f p (suc n) h = rw (h p (omega arith) (omega arith)) (any_false f (p + 1) n (λ q lo hi. h q (omega (arith, lo)) (omega (arith, hi))))

-- no page of the lease is such
pub page_none : (f : ℕ → Bool) (l : Lease) (q : ℕ) → some_page f l ≡ false → has_page l q ≡ true → f q ≡ false
page_none f l q h in' = any_none f l.page l.count q h (grind (arith, nat_tests)) (grind (arith, nat_tests))

pub none_page : (f : ℕ → Bool) (l : Lease) → ((q : ℕ) → has_page l q ≡ true → f q ≡ false) → some_page f l ≡ false
none_page f l h = any_false f l.page l.count (λ q lo hi. h q (grind (arith, nat_tests)))

pub page_some : (f : ℕ → Bool) (l : Lease) (q : ℕ) → has_page l q ≡ true → f q ≡ true → some_page f l ≡ true
page_some f l q in' h = go (some_page f l) refl
  where
    go : (b : Bool) → some_page f l ≡ b → some_page f l ≡ true
    go true e = e
    go false e = let n = page_none f l q e in' in absurd cc

pub lookup_spared : (s : Option Span) (p : ℕ) (l : Lease) (g : List Grant) → lease_under p g ≡ Some l → touches s l ≡ false → lease_under p (spared s g) ≡ Some l
lookup_spared s p l [] h far = absurd cc
lookup_spared s p l (x ∷ g) h far = go (x.asked == p) refl h (lookup_spared s p l g)
  where
    go : (v : Bool) → x.asked == p ≡ v → cond v (Some x.lease) (lease_under p g) ≡ Some l → (lease_under p g ≡ Some l → touches s l ≡ false → lease_under p (spared s g) ≡ Some l) → lease_under p (cond (not (touches s x.lease)) (x ∷ spared s g) (spared s g)) ≡ Some l
    go true e h ih =
        let same : x.lease ≡ l = cc in
        let kept : touches s x.lease ≡ false = ap (touches s) same ∙ far in
        rw kept (rw e h)
    go false e h ih = stay (touches s x.lease)
      where
        stay : (b : Bool) → lease_under p (cond (not b) (x ∷ spared s g) (spared s g)) ≡ Some l
        stay true = ih h far
        stay false = rw e (ih h far)

pub spared_lookup : (s : Option Span) (p : ℕ) (l : Lease) (g : List Grant) → AreDistinct g → lease_under p (spared s g) ≡ Some l → (lease_under p g ≡ Some l) × (touches s l ≡ false)
spared_lookup s p l [] d h = absurd cc
spared_lookup s p l (x ∷ g) d h = go (touches s x.lease) refl (x.asked == p) refl h (spared_lookup s p l g d.1)
  where
    go : (b : Bool) → touches s x.lease ≡ b → (v : Bool) → x.asked == p ≡ v → lease_under p (cond (not b) (x ∷ spared s g) (spared s g)) ≡ Some l
        → (lease_under p (spared s g) ≡ Some l → (lease_under p g ≡ Some l) × (touches s l ≡ false)) → (cond v (Some x.lease) (lease_under p g) ≡ Some l) × (touches s l ≡ false)
    go true b true e h r =
        let same : x.asked ≡ p = eqb-true x.asked p e in
        let none : lease_under p g ≡ None = ap (λ n. lease_under n g) (sym same) ∙ d.0 in
        let some = (r h).0 in
        absurd cc
    go true b false e h r = r h
    go false b true e h r =
        let same : x.lease ≡ l = cc (rw e at h) in
        (ap Some same, ap (touches s) (sym same) ∙ b)
    go false b false e h r = r (rw e at h)

pub spared_none : (s : Option Span) (p : ℕ) (g : List Grant) → lease_under p g ≡ None → lease_under p (spared s g) ≡ None
spared_none s p [] h = refl
spared_none s p (x ∷ g) h = go (x.asked == p) refl h (touches s x.lease) (spared_none s p g)
  where
    go : (v : Bool) → x.asked == p ≡ v → cond v (Some x.lease) (lease_under p g) ≡ None → (b : Bool) → (lease_under p g ≡ None → lease_under p (spared s g) ≡ None) → lease_under p (cond (not b) (x ∷ spared s g) (spared s g)) ≡ None
    go true e h b ih = absurd cc
    go false e h true ih = ih h
    go false e h false ih = rw e (ih h)

pub others_none : (q p : ℕ) (g : List Grant) → lease_under p g ≡ None → lease_under p (others q g) ≡ None
others_none q p [] h = refl
others_none q p (x ∷ g) h = go (x.asked == p) refl h (x.asked == q) (others_none q p g)
  where
    go : (v : Bool) → x.asked == p ≡ v → cond v (Some x.lease) (lease_under p g) ≡ None → (b : Bool) → (lease_under p g ≡ None → lease_under p (others q g) ≡ None) → lease_under p (cond (not b) (x ∷ others q g) (others q g)) ≡ None
    go true e h b ih = absurd cc
    go false e h true ih = ih h
    go false e h false ih = rw e (ih h)

pub others_self : (q : ℕ) (g : List Grant) → lease_under q (others q g) ≡ None
others_self q [] = refl
others_self q (x ∷ g) = grind (arith, nat_tests, others_self q g)

pub spared_distinct : (s : Option Span) (g : List Grant) → AreDistinct g → AreDistinct (spared s g)
spared_distinct s [] d = tt
spared_distinct s (x ∷ g) d = go (touches s x.lease) (spared_distinct s g d.1)
  where
    go : (b : Bool) → AreDistinct (spared s g) → AreDistinct (cond (not b) (x ∷ spared s g) (spared s g))
    go true r = r
    go false r = (spared_none s x.asked g d.0, r)

pub others_distinct : (q : ℕ) (g : List Grant) → AreDistinct g → AreDistinct (others q g)
others_distinct q [] d = tt
others_distinct q (x ∷ g) d = go (x.asked == q) (others_distinct q g d.1)
  where
    go : (b : Bool) → AreDistinct (others q g) → AreDistinct (cond (not b) (x ∷ others q g) (others q g))
    go true r = r
    go false r = (others_none q x.asked g d.0, r)

lookup_others : (p q : ℕ) (g : List Grant) → p ≢ q → lease_under p (others q g) ≡ lease_under p g
lookup_others p q [] ne = refl
lookup_others p q (x ∷ g) ne = grind (arith, nat_tests, lookup_others p q g ne)

-- with one more grant at the end
under_push : (p q : ℕ) (m : Lease) (g : List Grant) → p ≢ q → lease_under p (g ++ (record { asked = q; lease = m }) ∷ []) ≡ lease_under p g
under_push p q m [] ne = grind (arith, nat_tests)
under_push p q m (x ∷ g) ne = ap (cond (x.asked == p) (Some x.lease)) (under_push p q m g ne)

under_push_self : (q : ℕ) (m : Lease) (g : List Grant) → lease_under q g ≡ None → lease_under q (g ++ (record { asked = q; lease = m }) ∷ []) ≡ Some m
under_push_self q m [] none = grind (arith, nat_tests)
under_push_self q m (x ∷ g) none = go (x.asked == q) none (under_push_self q m g)
  where
    go : (v : Bool) → cond v (Some x.lease) (lease_under q g) ≡ None → (lease_under q g ≡ None → lease_under q (g ++ (record { asked = q; lease = m }) ∷ []) ≡ Some m)
        → cond v (Some x.lease) (lease_under q (g ++ (record { asked = q; lease = m }) ∷ [])) ≡ Some m
    go true e rest = absurd cc
    go false e rest = rest e

distinct_push : (q : ℕ) (m : Lease) (g : List Grant) → AreDistinct g → lease_under q g ≡ None → AreDistinct (g ++ (record { asked = q; lease = m }) ∷ [])
distinct_push q m [] d none = (refl, tt)
distinct_push q m (x ∷ g) d none = go (x.asked == q) refl none (distinct_push q m g d.1)
  where
    go : (v : Bool) → (x.asked == q) ≡ v → cond v (Some x.lease) (lease_under q g) ≡ None → (lease_under q g ≡ None → AreDistinct (g ++ (record { asked = q; lease = m }) ∷ [])) → AreDistinct (x ∷ (g ++ (record { asked = q; lease = m }) ∷ []))
    go true e h rest = absurd cc
    go false e h rest = (under_push x.asked q m g (λ same. absurd (cc (eq-eqb x.asked q same, e))) ∙ d.0, rest h)

pub granted_distinct : (q : ℕ) (m : Lease) (g : List Grant) → AreDistinct g → AreDistinct (granted q m g)
granted_distinct q m g d = distinct_push q m (others q g) (others_distinct q g d) (others_self q g)

-- what is granted is the new lease, or was granted under another page
pub lookup_granted : (p q : ℕ) (l m : Lease) (g : List Grant) → lease_under p (granted q m g) ≡ Some l → ((p ≡ q) × (l ≡ m)) ⊎ (lease_under p g ≡ Some l)
lookup_granted p q l m g h = go (cases_eq p q)
  where
    go : (p ≡ q) ⊎ (p ≡ q → ⊥) → ((p ≡ q) × (l ≡ m)) ⊎ (lease_under p g ≡ Some l)
    go (inl e) = let now : lease_under p (granted q m g) ≡ Some m = ap (λ n. lease_under n (granted q m g)) e ∙ under_push_self q m (others q g) (others_self q g) in inl (e, cc)
    go (inr ne) = inr (sym (under_push p q m (others q g) ne ∙ lookup_others p q g ne) ∙ h)

pub granted_lookup : (p q : ℕ) (l m : Lease) (g : List Grant) → p ≢ q → lease_under p g ≡ Some l → lease_under p (granted q m g) ≡ Some l
granted_lookup p q l m g ne h = under_push p q m (others q g) ne ∙ lookup_others p q g ne ∙ h

pub granted_self : (p : ℕ) (l : Lease) (g : List Grant) → lease_under p (granted p l g) ≡ Some l
granted_self p l g = under_push_self p l (others p g) (others_self p g)

-- leases that stay granted
pub granted_spared : (s : Option Span) (g : List Grant) (l : Lease) → IsGranted g l → touches s l ≡ false → IsGranted (spared s g) l
granted_spared s g l is far = (is.0, lookup_spared s is.0 l g is.1 far)

pub among_spared : (s : Option Span) (g : List Grant) (ls : List Lease) → AreClear s ls → AreGranted g ls → AreGranted (spared s g) ls
among_spared s g [] c h = tt
among_spared s g (l ∷ ls) c h = (granted_spared s g l h.0 c.0, among_spared s g ls c.1 h.1)

pub updates_spared : (s : Option Span) (g : List Grant) (fs : List Down) → UpdatesAreClear s fs → UpdatesAreGranted g fs → UpdatesAreGranted (spared s g) fs
updates_spared s g [] c h = tt
updates_spared s g (Update l ∷ fs) c h = (granted_spared s g l h.0 c.0, updates_spared s g fs c.1 h.1)
updates_spared s g (Invalidate t ∷ fs) c h = updates_spared s g fs c h

-- what the cache keeps
pub untouched_among : (s : Option Span) (g : List Grant) (ls : List Lease) → AreGranted g ls → AreGranted g (untouched s ls)
untouched_among s g [] h = tt
untouched_among s g (l ∷ ls) h = go (touches s l) (untouched_among s g ls h.1)
  where
    go : (b : Bool) → AreGranted g (untouched s ls) → AreGranted g (cond (not b) (l ∷ untouched s ls) (untouched s ls))
    go true r = r
    go false r = (h.0, r)

pub apart_among : (m : Lease) (g : List Grant) (ls : List Lease) → AreGranted g ls → AreGranted g (apart m ls)
apart_among m g [] h = tt
apart_among m g (l ∷ ls) h = go (share_page m l) (apart_among m g ls h.1)
  where
    go : (b : Bool) → AreGranted g (apart m ls) → AreGranted g (cond (not b) (l ∷ apart m ls) (apart m ls))
    go true r = r
    go false r = (h.0, r)

pub without_among : (page : ℕ) (g : List Grant) (ls : List Lease) → AreGranted g ls → AreGranted g (without_page page ls)
without_among page g [] h = tt
without_among page g (l ∷ ls) h = go (has_page l page) (without_among page g ls h.1)
  where
    go : (b : Bool) → AreGranted g (without_page page ls) → AreGranted g (cond (not b) (l ∷ without_page page ls) (without_page page ls))
    go true r = r
    go false r = (h.0, r)

pub clear_without : (s : Option Span) (page : ℕ) (ls : List Lease) → AreClear s ls → AreClear s (without_page page ls)
clear_without s page [] c = tt
clear_without s page (l ∷ ls) c = go (has_page l page) (clear_without s page ls c.1)
  where
    go : (b : Bool) → AreClear s (without_page page ls) → AreClear s (cond (not b) (l ∷ without_page page ls) (without_page page ls))
    go true r = r
    go false r = (c.0, r)

pub take_among : (n : ℕ) (g : List Grant) (ls : List Lease) → AreGranted g ls → AreGranted g (take n ls)
take_among zero g ls h = tt
take_among (suc n) g [] h = tt
take_among (suc n) g (l ∷ ls) h = (h.0, take_among n g ls h.1)

pub untouched_clear : (s : Option Span) (ls : List Lease) → AreClear s (untouched s ls)
untouched_clear s [] = tt
untouched_clear s (l ∷ ls) = go (touches s l) refl (untouched_clear s ls)
  where
    go : (b : Bool) → touches s l ≡ b → AreClear s (untouched s ls) → AreClear s (cond (not b) (l ∷ untouched s ls) (untouched s ls))
    go true e r = r
    go false e r = (e, r)

pub clear_untouched : (s t : Option Span) (ls : List Lease) → AreClear s ls → AreClear s (untouched t ls)
clear_untouched s t [] c = tt
clear_untouched s t (l ∷ ls) c = go (touches t l) (clear_untouched s t ls c.1)
  where
    go : (b : Bool) → AreClear s (untouched t ls) → AreClear s (cond (not b) (l ∷ untouched t ls) (untouched t ls))
    go true r = r
    go false r = (c.0, r)

pub clear_apart : (s : Option Span) (m : Lease) (ls : List Lease) → AreClear s ls → AreClear s (apart m ls)
clear_apart s m [] c = tt
clear_apart s m (l ∷ ls) c = go (share_page m l) (clear_apart s m ls c.1)
  where
    go : (b : Bool) → AreClear s (apart m ls) → AreClear s (cond (not b) (l ∷ apart m ls) (apart m ls))
    go true r = r
    go false r = (c.0, r)

pub clear_take : (s : Option Span) (n : ℕ) (ls : List Lease) → AreClear s ls → AreClear s (take n ls)
clear_take s zero ls c = tt
clear_take s (suc n) [] c = tt
clear_take s (suc n) (l ∷ ls) c = (c.0, clear_take s n ls c.1)

-- no cached lease has_page the page
abbrev pub Without : ℕ → List Lease → Type 0
Without p [] = Unit {0}
Without p (l ∷ ls) = (has_page l p ≡ false) × Without p ls

-- under a page that no cached lease has_page, a grant may be replaced
pub among_granted : (p : ℕ) (m : Lease) (g : List Grant) (ls : List Lease) → ((q : ℕ) (l : Lease) → lease_under q g ≡ Some l → has_page l q ≡ true) → Without p ls → AreGranted g ls → AreGranted (granted p m g) ls
among_granted p m g [] asked no' h = tt
among_granted p m g (l ∷ ls) asked no' h = (go (cases_eq h.0.0 p), among_granted p m g ls asked no'.1 h.1)
  where
    go : (h.0.0 ≡ p) ⊎ (h.0.0 ≡ p → ⊥) → IsGranted (granted p m g) l
    go (inl e) = let a = asked h.0.0 l h.0.1 in let b : has_page l p ≡ true = ap (has_page l) (sym e) ∙ a in absurd (cc (b, no'.0))
    go (inr ne) = (h.0.0, granted_lookup h.0.0 p l m g ne h.0.1)
