-- Runs of pages: each page of a run has its own lease, and of a run that was cut no page is shut.
use Rattle.std.proofs.Common.{◌≡◌, ◌==◌, ℕ, zero, suc, ◌+◌, ◌-◌, ◌*◌, ◌/◌, ◌%◌, ◌≤◌, ◌<◌, min, max, Bool, true, false, cond, not, ◌&&◌, List, [], ◌∷◌, length, Option, Some, None, is_some, refl, arith, ◌∙◌, ap, sym, subst, ◌⊎◌, inl, inr}
use Rattle.std.specs.List.{AllByRecursion, filter, list_all, list_any, range_with_len}
use Rattle.std.proofs.lemmas.Bool.Decides.{nat_tests}
use Rattle.std.proofs.lemmas.Bool.{cases_lt, cases_eq, and_parts, eqb-true}
use Rattle.vi_bytes.specs.Leases.{has_page}
use Rattle.vi_bytes.specs.Spans.{has}
use Rattle.vi_bytes.specs.Mappings.{mapping_at, AreBehind, AreApart}
use Rattle.vi_bytes.specs.declared.span.TheConstants.{PAGE}
use Rattle.vi_bytes.specs.declared.lease.Lease.{Lease}
use Rattle.vi_bytes.specs.declared.lease.Mapping.{Mapping}
use Rattle.vi_bytes.specs.declared.region.Region.{Region}
use Rattle.vi_bytes.specs.declared.region.Membership.{Membership}
use Rattle.vi_bytes.specs.declared.region.Membership.TheVariants.{Unattached, Member}
use Rattle.vi_history.specs.Device.{Dev, Endpoint, Domain, endpoint_of, domain_of}
use Rattle.vi_history.specs.Translation.{Look, Leads, Nowhere, bypassed, look, look_of, look_by, look_in_domain, look_in_mapping, lease, lease_for, is_in_memory}
use Rattle.vi_history.specs.Runs.{mapping_in, mapping_by, mapping_of, mapping_through, same_mapping, goes_alike, pages_between, reached, lease_over, run_of, run}
use Rattle.vi_model.specs.Grants.{piece}
use Rattle.vi_model.specs.Cuts.{cut}
use Rattle.vi_model.specs.Whole.{IsWholeMapping, IsWholeDomain, IsWholeDev}
use Rattle.vi_sound.proofs.Values.Aligned.{found_whole, domain_whole}

-- ---- pages that are reached from one by pages that pass a test

-- each page from p to q passes
abbrev Between : (ℕ → Bool) → ℕ → ℕ → Type 0
Between test p q = (r : ℕ) → min p q ≤ r → r ≤ max p q → test r ≡ true

all_in : (test : ℕ → Bool) (a n q : ℕ) → list_all test (range_with_len a n) ≡ true → a ≤ q → q < a + n → test q ≡ true
all_in test a zero q all low high = absurd (omega arith)
all_in test a (suc n) q all low high = go (cases_eq q a) (and_parts (test a) (list_all test (range_with_len (a + 1) n)) all) (λ b l h. all_in test (a + 1) n q b l h)
  where
    go : (q ≡ a) ⊎ (q ≡ a → ⊥) → (test a ≡ true) × (list_all test (range_with_len (a + 1) n) ≡ true) → (list_all test (range_with_len (a + 1) n) ≡ true → a + 1 ≤ q → q < a + 1 + n → test q ≡ true) → test q ≡ true
    go (inl e) b rest = ap test e ∙ b.0
    go (inr ne) b rest = rest b.1 (omega (arith, ne)) (omega arith)

in_all : (test : ℕ → Bool) (a n : ℕ) → ((q : ℕ) → a ≤ q → q < a + n → test q ≡ true) → list_all test (range_with_len a n) ≡ true
in_all test a zero passes = refl
in_all test a (suc n) passes =
    let here : test a ≡ true = passes a (omega arith) (omega arith) in
    rw here (in_all test (a + 1) n (λ q low high. passes q (omega arith) (omega arith)))

-- the pages that are reached from p
abbrev Reach : (ℕ → Bool) → ℕ → ℕ → Bool
Reach test p q = list_all test (pages_between p q)

between : (test : ℕ → Bool) (p q : ℕ) → Reach test p q ≡ true → Between test p q
between test p q all r low high = all_in test (min p q) (max p q - min p q + 1) r all low (omega arith)

between_all : (test : ℕ → Bool) (p q : ℕ) → Between test p q → Reach test p q ≡ true
between_all test p q passes = in_all test (min p q) (max p q - min p q + 1) (λ r low high. passes r low (omega arith))

-- what lies between two pages that are reached is reached
abbrev Convex : (ℕ → Bool) → Type 0
Convex keep = (q x r : ℕ) → keep q ≡ true → keep r ≡ true → q ≤ x → x ≤ r → keep x ≡ true

reach_convex : (test : ℕ → Bool) (p : ℕ) → Convex (Reach test p)
reach_convex test p q x r kq kr low high = between_all test p x (λ y from to. go (cases_lt x p) y from to)
  where
    go : (x < p) ⊎ (p ≤ x) → (y : ℕ) → min p x ≤ y → y ≤ max p x → test y ≡ true
    go (inl lt) y from to = between test p q kq y (omega arith) (omega arith)
    go (inr ge) y from to = between test p r kr y (omega arith) (omega arith)

-- ---- a stretch of pages

-- of the n pages from a on, those that are kept are m from `low` on
pub record IsStretch (keep : ℕ → Bool) (a n : ℕ) (pages : List ℕ) (low m : ℕ) : Type 0 where
  pub is : pages ≡ range_with_len low m
  pub from : a ≤ low
  pub to : low + m ≤ a + n
  pub kept : (q : ℕ) → low ≤ q → q < low + m → keep q ≡ true
  pub all : (q : ℕ) → a ≤ q → q < a + n → keep q ≡ true → (low ≤ q) × (q < low + m)

stretch : (keep : ℕ → Bool) (a n : ℕ) → Convex keep → (low : ℕ) × (m : ℕ) × IsStretch keep a n (filter keep (range_with_len a n)) low m
stretch keep a zero convex = (a, 0, record { is = refl; from = omega arith; to = omega arith; kept = λ q l h. absurd (omega arith); all = λ q l h k. absurd (omega arith) })
stretch keep a (suc n) convex = go (keep a) refl (stretch keep (a + 1) n convex)
  where
    go : (b : Bool) → keep a ≡ b → (low : ℕ) × (m : ℕ) × IsStretch keep (a + 1) n (filter keep (range_with_len (a + 1) n)) low m
        → (low : ℕ) × (m : ℕ) × IsStretch keep a (suc n) (cond b (a ∷ filter keep (range_with_len (a + 1) n)) (filter keep (range_with_len (a + 1) n))) low m
    go false e (low, m, r) = (
      low,
      m,
      record {
        is = r.is;
        from = let f = r.from in omega (arith, f);
        to = let t = r.to in omega (arith, t);
        kept = r.kept;
        all = λ q l h k. other q l h k (cases_eq q a);
      },
    )
      where
        other : (q : ℕ) → a ≤ q → q < a + suc n → keep q ≡ true → (q ≡ a) ⊎ (q ≡ a → ⊥) → (low ≤ q) × (q < low + m)
        other q l h k (inl same) = absurd (cc (ap keep same, k, e))
        other q l h k (inr ne) = r.all q (omega (arith, l, ne)) (omega (arith, h)) k
    go true e (low, zero, r) = (
      a,
      1,
      record {
        is = ap (λ qs. a ∷ qs) r.is;
        from = omega arith;
        to = omega arith;
        kept = λ q l h. let same : q ≡ a = omega (arith, l, h) in ap keep same ∙ e;
        all = λ q l h k. one q l h k (cases_eq q a);
      },
    )
      where
        one : (q : ℕ) → a ≤ q → q < a + suc n → keep q ≡ true → (q ≡ a) ⊎ (q ≡ a → ⊥) → (a ≤ q) × (q < a + 1)
        one q l h k (inl same) = (l, omega (arith, same))
        one q l h k (inr ne) = let at = r.all q (omega (arith, l, ne)) (omega (arith, h)) k in absurd (omega (arith, at.0, at.1))
    go true e (low, suc m, r) =
        let begins : keep low ≡ true = r.kept low (omega arith) (omega arith) in
        let f = r.from in let t = r.to in
        let next : keep (a + 1) ≡ true = convex a (a + 1) low e begins (omega arith) f in
        let at = r.all (a + 1) (omega arith) (omega (arith, f, t)) next in
        let same : low ≡ a + 1 = omega (arith, at.0, f) in (
          a,
          suc (suc m),
          record {
            is = ap (λ qs. a ∷ qs) (r.is ∙ ap (λ k. range_with_len k (suc m)) same);
            from = omega arith;
            to = omega (arith, t, same);
            kept = λ q l h. inner q l h same (cases_eq q a);
            all = λ q l h k. more q l h k same (cases_eq q a);
          },
        )
      where
        inner : (q : ℕ) → a ≤ q → q < a + suc (suc m) → low ≡ a + 1 → (q ≡ a) ⊎ (q ≡ a → ⊥) → keep q ≡ true
        inner q l h same (inl is) = ap keep is ∙ e
        inner q l h same (inr ne) = r.kept q (omega (arith, l, ne, same)) (omega (arith, h, same))

        more : (q : ℕ) → a ≤ q → q < a + suc n → keep q ≡ true → low ≡ a + 1 → (q ≡ a) ⊎ (q ≡ a → ⊥) → (a ≤ q) × (q < a + suc (suc m))
        more q l h k same (inl is) = (l, omega (arith, is))
        more q l h k same (inr ne) = let at = r.all q (omega (arith, l, ne)) (omega (arith, h)) k in (l, omega (arith, at.1, same))

length_range : (a n : ℕ) → length (range_with_len a n) ≡ n
length_range a zero = refl
length_range a (suc n) = ap suc (length_range (a + 1) n)

-- the lease of a stretch that has p
pub record IsLeaseOver (keep : ℕ → Bool) (p a n : ℕ) (l k : Lease) : Type 0 where
  pub from : a ≤ k.page
  pub to : k.page + k.count ≤ a + n
  pub has_p : has_page k p ≡ true
  pub target : k.target ≡ l.target - (p - k.page)
  pub perm : k.perm ≡ l.perm
  pub kept : (q : ℕ) → has_page k q ≡ true → keep q ≡ true
  pub all : (q : ℕ) → a ≤ q → q < a + n → keep q ≡ true → has_page k q ≡ true

over : (keep : ℕ → Bool) (p a n : ℕ) (l : Lease) → Convex keep → keep p ≡ true → a ≤ p → p < a + n
    → (k : Lease) × (lease_over p (filter keep (range_with_len a n)) l ≡ Some k) × IsLeaseOver keep p a n l k
over keep p a n l convex here low high = go (stretch keep a n convex)
  where
    go : (low : ℕ) × (m : ℕ) × IsStretch keep a n (filter keep (range_with_len a n)) low m → (k : Lease) × (lease_over p (filter keep (range_with_len a n)) l ≡ Some k) × IsLeaseOver keep p a n l k
    go (b, zero, r) = let at = r.all p low high here in absurd (omega (arith, at.0, at.1))
    go (b, suc m, r) =
        let at = r.all p low high here in
        let count : suc (length (range_with_len (b + 1) m)) ≡ suc m = ap suc (length_range (b + 1) m) in (
          record { page = b; count = suc m; target = l.target - (p - b); perm = l.perm },
          ap (λ qs. lease_over p qs l) r.is ∙ ap (λ c. Some (let k : Lease = record { page = b; count = c; target = l.target - (p - b); perm = l.perm } in k)) count,
          record {
            from = r.from;
            to = r.to;
            has_p = grind (arith, nat_tests, at.0, at.1);
            target = refl;
            perm = refl;
            kept = λ q h. r.kept q (grind (arith, nat_tests)) (grind (arith, nat_tests));
            all = λ q l h k. let i = r.all q l h k in grind (arith, nat_tests, i.0, i.1);
          },
        )

-- ---- where a lead comes from

-- how a lead comes from a mapping, or from bypass
abbrev From : Option Mapping → ℕ → ℕ → ℕ → Type 0
From None a t f = (t ≡ a) × (f ≡ 3)
From (Some m) a t f = (t ≡ m.target + (a - m.span.first)) × (f ≡ m.flags) × (has m.span a ≡ true) × IsWholeMapping m

from_map : (ms : List Mapping) (a t f : ℕ) → AllByRecursion IsWholeMapping ms → look_in_mapping a (mapping_at a ms) ≡ Leads t f → From (mapping_at a ms) a t f
from_map ms a t f ok h = go (mapping_at a ms) refl h
  where
    go : (o : Option Mapping) → mapping_at a ms ≡ o → look_in_mapping a o ≡ Leads t f → From o a t f
    go None e h = absurd cc
    go (Some m) e h = let good = found_whole ms a m ok e in (cc, cc, good.1, good.0)

from_domain : (a t f : ℕ) (rs : List Region) (o : Option Domain) → ((y : Domain) → o ≡ Some y → IsWholeDomain y) → look_in_domain a rs o ≡ Leads t f → From (mapping_in a o) a t f
from_domain a t f rs None ok h = absurd cc
from_domain a t f rs (Some y) ok h = go y.bypass (list_any (λ r. has r.span a) rs) h
  where
    go : (b c : Bool) → cond b (bypassed a) (cond c (Nowhere 2) (look_in_mapping a (mapping_at a y.mappings))) ≡ Leads t f → From (cond b None (mapping_at a y.mappings)) a t f
    go true c h = (cc, cc)
    go false true h = absurd cc
    go false false h = from_map y.mappings a t f (ok y refl).0 h

from_by : (dev : Dev) (a t f : ℕ) (rs : List Region) (o : Membership) → AllByRecursion IsWholeDomain dev.domains → look_by dev a rs o ≡ Leads t f → From (mapping_by dev a o) a t f
from_by dev a t f rs Unattached ok h = go dev.bypass h
  where
    go : (b : Bool) → cond b (bypassed a) (Nowhere 1) ≡ Leads t f → (t ≡ a) × (f ≡ 3)
    go true h = (cc, cc)
    go false h = absurd cc
from_by dev a t f rs (Member d) ok h = from_domain a t f rs (domain_of dev d) (λ y e. domain_whole dev.domains d y ok e) h

look_from : (dev : Dev) (e a t f : ℕ) → IsWholeDev dev → look dev e a ≡ Leads t f → From (mapping_of dev a (endpoint_of dev e)) a t f
unfolding look
look_from dev e a t f ok h = go (endpoint_of dev e) h
  where
    go : (o : Option Endpoint) → look_of dev a o ≡ Leads t f → From (mapping_of dev a o) a t f
    go None h = absurd cc
    go (Some x) h = from_by dev a t f x.regions x.domain ok.domains h

lease_leads : (dev : Dev) (e p : ℕ) (l : Lease) → lease dev e p ≡ Some l → (t : ℕ) × (f : ℕ) × (look dev e (PAGE * p) ≡ Leads t f) × (l ≡ record { page = p; count = 1; target = t / PAGE; perm = f })
lease_leads dev e p l h = go (look dev e (PAGE * p)) refl h
  where
    go : (o : Look) → look dev e (PAGE * p) ≡ o → lease_for dev.pages p o ≡ Some l → (t : ℕ) × (f : ℕ) × (look dev e (PAGE * p) ≡ Leads t f) × (l ≡ record { page = p; count = 1; target = t / PAGE; perm = f })
    go (Nowhere reason) k h = absurd cc
    go (Leads t f) k h = some (is_in_memory dev.pages t && not (f % 4 == 0)) h
      where
        some : (v : Bool) → cond v (Some (record { page = p; count = 1; target = t / PAGE; perm = f })) None ≡ Some l → (t : ℕ) × (f : ℕ) × (look dev e (PAGE * p) ≡ Leads t f) × (l ≡ record { page = p; count = 1; target = t / PAGE; perm = f })
        some true h = (t, f, k, cc)
        some false h = absurd cc

-- ---- a mapping is known by its first address

behind_found : (k b : ℕ) (n : Mapping) (ms : List Mapping) → AreBehind k ms → mapping_at b ms ≡ Some n → k < n.span.first
behind_found k b n [] ok h = absurd cc
behind_found k b n (x ∷ ms) ok h = go (has x.span b) h (behind_found k b n ms ok.1)
  where
    go : (v : Bool) → cond v (Some x) (mapping_at b ms) ≡ Some n → (mapping_at b ms ≡ Some n → k < n.span.first) → k < n.span.first
    go true h rest = let is : x ≡ n = cc in let same : x.span.first ≡ n.span.first = ap (λ (m : Mapping). m.span.first) is in omega (arith, same, ok.0)
    go false h rest = rest h

first_same : (a b : ℕ) (m n : Mapping) (ms : List Mapping) → AreApart ms → mapping_at a ms ≡ Some m → mapping_at b ms ≡ Some n → m.span.first ≡ n.span.first → m ≡ n
first_same a b m n [] ok ha hb e = absurd cc
first_same a b m n (x ∷ ms) ok ha hb e = go (has x.span a) (has x.span b) ha hb (λ i j. first_same a b m n ms ok.2 i j e)
  where
    go : (v w : Bool) → cond v (Some x) (mapping_at a ms) ≡ Some m → cond w (Some x) (mapping_at b ms) ≡ Some n → (mapping_at a ms ≡ Some m → mapping_at b ms ≡ Some n → m ≡ n) → m ≡ n
    go true true i j rest = cc
    go true false i j rest =
        let is : x ≡ m = cc in let same : x.span.first ≡ m.span.first = ap (λ (z : Mapping). z.span.first) is in
        let late = behind_found x.span.last b n ms ok.1 j in absurd (omega (arith, same, late, e, ok.0))
    go false true i j rest =
        let is : x ≡ n = cc in let same : x.span.first ≡ n.span.first = ap (λ (z : Mapping). z.span.first) is in
        let late = behind_found x.span.last a m ms ok.1 i in absurd (omega (arith, same, late, e, ok.0))
    go false false i j rest = rest i j

mapping_same : (dev : Dev) (e a b : ℕ) (m n : Mapping) → IsWholeDev dev → mapping_of dev a (endpoint_of dev e) ≡ Some m → mapping_of dev b (endpoint_of dev e) ≡ Some n → m.span.first ≡ n.span.first → m ≡ n
mapping_same dev e a b m n ok ha hb same = go (endpoint_of dev e) ha hb
  where
    inside : (d : ℕ) (o : Option Domain) → domain_of dev d ≡ o → mapping_in a o ≡ Some m → mapping_in b o ≡ Some n → m ≡ n
    inside d None k i j = absurd cc
    inside d (Some y) k i j = by y.bypass i j
      where
        by : (v : Bool) → cond v None (mapping_at a y.mappings) ≡ Some m → cond v None (mapping_at b y.mappings) ≡ Some n → m ≡ n
        by true i j = absurd cc
        by false i j = first_same a b m n y.mappings (domain_whole dev.domains d y ok.domains k).1 i j same

    at : (d : Membership) → mapping_by dev a d ≡ Some m → mapping_by dev b d ≡ Some n → m ≡ n
    at Unattached i j = absurd cc
    at (Member d) i j = inside d (domain_of dev d) refl i j

    go : (o : Option Endpoint) → mapping_of dev a o ≡ Some m → mapping_of dev b o ≡ Some n → m ≡ n
    go None i j = absurd cc
    go (Some x) i j = at x.domain i j

-- a page that goes as another does has the lease that goes with it
joined : (dev : Dev) (e p q : ℕ) (l : Lease) → IsWholeDev dev → lease dev e p ≡ Some l → goes_alike dev e p q ≡ true
    → (t : ℕ) × (lease dev e q ≡ Some (record { page = q; count = 1; target = t; perm = l.perm })) × (t + p ≡ l.target + q)
joined dev e p q l ok lp j = some (lease dev e q) refl (parts j).0
  where
    parts : goes_alike dev e p q ≡ true → (is_some (lease dev e q) ≡ true) × (same_mapping (mapping_through dev e p) (mapping_through dev e q) ≡ true)
    parts j = and_parts (is_some (lease dev e q)) (same_mapping (mapping_through dev e p) (mapping_through dev e q)) j

    some : (o : Option Lease) → lease dev e q ≡ o → is_some o ≡ true → (t : ℕ) × (lease dev e q ≡ Some (record { page = q; count = 1; target = t; perm = l.perm })) × (t + p ≡ l.target + q)
    some None k h = absurd cc
    some (Some m) k h =
        let a = lease_leads dev e p l lp in
        let b = lease_leads dev e q m k in
        go (mapping_through dev e p) (mapping_through dev e q) refl refl (parts j).1 a.0 b.0 a.1 b.1 (look_from dev e (PAGE * p) a.0 a.1 ok a.2) (look_from dev e (PAGE * q) b.0 b.1 ok b.2) a.3 (k ∙ ap Some b.3)
      where
        go : (x y : Option Mapping) → mapping_through dev e p ≡ x → mapping_through dev e q ≡ y → same_mapping x y ≡ true → (t u f g : ℕ) → From (mapping_through dev e p) (PAGE * p) t f → From (mapping_through dev e q) (PAGE * q) u g
            → l ≡ record { page = p; count = 1; target = t / PAGE; perm = f }
            → lease dev e q ≡ Some (record { page = q; count = 1; target = u / PAGE; perm = g })
            → (t : ℕ) × (lease dev e q ≡ Some (record { page = q; count = 1; target = t; perm = l.perm })) × (t + p ≡ l.target + q)
        go None None ex ey s t u f g fa fb el em =
            let one : From None (PAGE * p) t f = subst (λ o. From o (PAGE * p) t f) ex fa in
            let two : From None (PAGE * q) u g = subst (λ o. From o (PAGE * q) u g) ey fb in
            let lf : l.perm ≡ f = ap (λ (n : Lease). n.perm) el in
            let lt : l.target ≡ t / PAGE = ap (λ (n : Lease). n.target) el in
            (u / PAGE, em ∙ ap (λ n. Some (let k : Lease = record { page = q; count = 1; target = u / PAGE; perm = n } in k)) (two.1 ∙ sym one.1 ∙ sym lf), omega (arith, lt, one.0, two.0))
        go None (Some n) ex ey s t u f g fa fb el em = absurd cc
        go (Some m) None ex ey s t u f g fa fb el em = absurd cc
        go (Some m) (Some n) ex ey s t u f g fa fb el em =
            let same : m ≡ n = mapping_same dev e (PAGE * p) (PAGE * q) m n ok ex ey (eqb-true m.span.first n.span.first s) in
            let one : From (Some m) (PAGE * p) t f = subst (λ o. From o (PAGE * p) t f) ex fa in
            let two : From (Some m) (PAGE * q) u g = subst (λ (o : Mapping). From (Some o) (PAGE * q) u g) (sym same) (subst (λ o. From o (PAGE * q) u g) ey fb) in
            let lf : l.perm ≡ f = ap (λ (n : Lease). n.perm) el in
            let lt : l.target ≡ t / PAGE = ap (λ (n : Lease). n.target) el in
            let at : u / PAGE + p ≡ t / PAGE + q = grind (arith, nat_tests, one.0, one.2, one.3, two.0, two.2) in
            (u / PAGE, em ∙ ap (λ n. Some (let k : Lease = record { page = q; count = 1; target = u / PAGE; perm = n } in k)) (two.1 ∙ sym one.1 ∙ sym lf), omega (arith, lt, at))

-- ---- runs

-- what a run is, and what is left of one when it is cut
pub record IsRun (dev : Dev) (e p : ℕ) (l : Lease) : Type 0 where
  pub asked : has_page l p ≡ true
  pub each : (q : ℕ) → has_page l q ≡ true → lease dev e q ≡ Some (piece l q)
  pub block : (q : ℕ) → has_page l q ≡ true → q / 16 ≡ p / 16

same_itself : (o : Option Mapping) → same_mapping o o ≡ true
same_itself None = refl
same_itself (Some m) = grind (arith, nat_tests)

reaches_itself : (test : ℕ → Bool) (p : ℕ) → test p ≡ true → Reach test p p ≡ true
reaches_itself test p here = between_all test p p (λ r low high. let same : r ≡ p = omega (arith, low, high) in ap test same ∙ here)

run_over : (dev : Dev) (e p : ℕ) (l : Lease) → lease dev e p ≡ Some l
    → (k : Lease) × (run dev e p ≡ Some k) × IsLeaseOver (Reach (goes_alike dev e p) p) p (p / 16 * 16) 16 l k
unfolding run
run_over dev e p l h =
    let here : goes_alike dev e p p ≡ true = rw (h, same_itself (mapping_through dev e p)) refl in
    let o = over (Reach (goes_alike dev e p) p) p (p / 16 * 16) 16 l (reach_convex (goes_alike dev e p) p) (reaches_itself (goes_alike dev e p) p here) (omega arith) (omega arith) in
    (o.0, ap (run_of p (reached (goes_alike dev e p) p)) h ∙ o.1, o.2)

-- a page with a lease has a run
pub run_some : (dev : Dev) (e p : ℕ) (l : Lease) → lease dev e p ≡ Some l → (m : Lease) × (run dev e p ≡ Some m)
run_some dev e p l h = let r = run_over dev e p l h in (r.0, r.1)

is_run : (dev : Dev) (e p : ℕ) (l k : Lease) → IsWholeDev dev → lease dev e p ≡ Some l → IsLeaseOver (Reach (goes_alike dev e p) p) p (p / 16 * 16) 16 l k → IsRun dev e p k
is_run dev e p l k ok lp o = record { asked = o.has_p; each = each; block = block }
  where
    inside : (q : ℕ) → has_page k q ≡ true → (k.page ≤ q) × (q < k.page + k.count)
    inside q h = (grind (arith, nat_tests), grind (arith, nat_tests))

    block : (q : ℕ) → has_page k q ≡ true → q / 16 ≡ p / 16
    block q h = let i = inside q h in let f = o.from in let t = o.to in omega (arith, i.0, i.1, f, t)

    goes : (q : ℕ) → has_page k q ≡ true → goes_alike dev e p q ≡ true
    goes q h = between (goes_alike dev e p) p q (o.kept q h) q (omega arith) (omega arith)

    page : (q : ℕ) → has_page k q ≡ true → (t : ℕ) × (lease dev e q ≡ Some (record { page = q; count = 1; target = t; perm = l.perm })) × (t + p ≡ l.target + q)
    page q h = joined dev e p q l ok lp (goes q h)

    first : has_page k k.page ≡ true
    first = let i = inside p o.has_p in grind (arith, nat_tests, i.0, i.1)

    each : (q : ℕ) → has_page k q ≡ true → lease dev e q ≡ Some (piece k q)
    each q h =
        let m = page q h in
        let b = page k.page first in
        let i = inside q h in
        let ip = inside p o.has_p in
        let goal = o.target in
        let t : m.0 ≡ k.target + (q - k.page) = omega (arith, m.2, b.2, i.0, ip.0, goal) in
        m.1 ∙ ap (λ n. Some (let x : Lease = record { page = q; count = 1; target = n; perm = l.perm } in x)) t ∙ ap (λ n. Some (let x : Lease = record { page = q; count = 1; target = k.target + (q - k.page); perm = n } in x)) (sym o.perm)

run_none : (dev : Dev) (e p : ℕ) → lease dev e p ≡ None → run dev e p ≡ None
unfolding run
run_none dev e p none = rw none refl

pub run_is : (dev : Dev) (e p : ℕ) (l : Lease) → IsWholeDev dev → run dev e p ≡ Some l → IsRun dev e p l
run_is dev e p l ok h = go (lease dev e p) refl
  where
    go : (o : Option Lease) → lease dev e p ≡ o → IsRun dev e p l
    go None k = absurd (cc (run_none dev e p k, h))
    go (Some m) k = let r = run_over dev e p m k in let same : r.0 ≡ l = cc (r.1, h) in is_run dev e p m l ok k (subst (IsLeaseOver (Reach (goes_alike dev e p) p) p (p / 16 * 16) 16 m) same r.2)

-- of a run that is cut no page is shut
pub cut_is : (dev : Dev) (e p : ℕ) (shut : ℕ → Bool) (l : Lease) → IsRun dev e p l → shut p ≡ false
    → (k : Lease) × (cut shut p l ≡ Some k) × IsRun dev e p k × ((q : ℕ) → has_page k q ≡ true → shut q ≡ false)
unfolding cut
cut_is dev e p shut l ok open_here = (o.0, o.1, is, free)
  where
    test : ℕ → Bool
    test q = not (shut q)

    at : (l.page ≤ p) × (p < l.page + l.count)
    at = let a = ok.asked in (grind (arith, nat_tests, a), grind (arith, nat_tests, a))

    o : (k : Lease) × (lease_over p (filter (Reach (λ q. not (shut q)) p) (range_with_len l.page l.count)) (piece l p) ≡ Some k) × IsLeaseOver (Reach (λ q. not (shut q)) p) p l.page l.count (piece l p) k
    o = over (Reach (λ q. not (shut q)) p) p l.page l.count (piece l p) (reach_convex (λ q. not (shut q)) p) (reaches_itself (λ q. not (shut q)) p (rw open_here refl)) at.0 at.1

    within : (q : ℕ) → has_page o.0 q ≡ true → has_page l q ≡ true
    within q h = let f = o.2.from in let t = o.2.to in grind (arith, nat_tests, f, t, h)

    not_false : (v : Bool) → not v ≡ true → v ≡ false
    not_false true h = absurd cc
    not_false false h = refl

    free : (q : ℕ) → has_page o.0 q ≡ true → shut q ≡ false
    free q h = not_false (shut q) (between (λ q. not (shut q)) p q (o.2.kept q h) q (omega arith) (omega arith))

    goal : (q : ℕ) → has_page o.0 q ≡ true → l.target + (q - l.page) ≡ o.0.target + (q - o.0.page)
    goal q h =
        let t = o.2.target in let f = o.2.from in let a = o.2.has_p in
        let low : o.0.page ≤ p = grind (arith, nat_tests, a) in
        let lq : o.0.page ≤ q = grind (arith, nat_tests, h) in
        let lp = at.0 in omega (arith, t, f, low, lq, lp)

    is : IsRun dev e p o.0
    is = record {
      asked = o.2.has_p;
      each = λ q h. ok.each q (within q h) ∙ ap (λ n. Some (let x : Lease = record { page = q; count = 1; target = n; perm = l.perm } in x)) (goal q h) ∙ ap (λ n. Some (let x : Lease = record { page = q; count = 1; target = o.0.target + (q - o.0.page); perm = n } in x)) (sym o.2.perm);
      block = λ q h. ok.block q (within q h);
    }
