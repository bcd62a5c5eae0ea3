-- An address is translated as its page is.
use Rattle.std.proofs.Common.{◌≡◌, ◌==◌, ℕ, ◌+◌, ◌-◌, ◌*◌, ◌/◌, ◌%◌, Bool, true, false, cond, not, ◌&&◌, nat_lt, List, [], ◌∷◌, Option, Some, None, refl, arith, ◌∙◌, ap, sym, subst}
use Rattle.std.specs.List.{AllByRecursion, list_any}
use Rattle.std.proofs.lemmas.Bool.Decides.{nat_tests}
use Rattle.std.proofs.lemmas.Bool.{and_parts}
use Rattle.vi_bytes.specs.Spans.{has}
use Rattle.vi_bytes.specs.Mappings.{mapping_at}
use Rattle.vi_bytes.specs.declared.span.Span.{Span}
use Rattle.vi_bytes.specs.declared.span.TheConstants.{PAGE}
use Rattle.vi_bytes.specs.declared.lease.Lease.{Lease}
use Rattle.vi_bytes.specs.declared.lease.Mapping.{Mapping}
use Rattle.vi_bytes.specs.declared.lease.Need.{Need}
use Rattle.vi_bytes.specs.declared.lease.Need.TheVariants.{Read, Write}
use Rattle.vi_bytes.specs.declared.region.Region.{Region}
use Rattle.vi_bytes.specs.declared.region.Membership.{Membership}
use Rattle.vi_bytes.specs.declared.region.Membership.TheVariants.{Unattached, Member}
use Rattle.vi_history.specs.Device.{Dev, Endpoint, Domain, endpoint_of, domain_of}
use Rattle.vi_history.specs.Statuses.{are_multiples}
use Rattle.vi_history.specs.Translation.{permits, Look, Leads, Nowhere, bypassed, look, look_of, look_by, look_in_domain, look_in_mapping, is_in_memory, found_for, translate, lease, lease_for}
use Rattle.vi_history.specs.declared.reason.TheConstants.{MAPPING, DOMAIN}
use Rattle.vi_history.specs.declared.found.Found.TheVariants.{At, Fault}
use Rattle.vi_model.specs.Whole.{IsWholeRegion, IsWholeMapping, IsWholeEndpoint, IsWholeDomain, IsWholeDev}
use Rattle.vi_sound.proofs.Values.Finds.{find_endpoint, find_domain}

-- a span of whole pages holds an address exactly where it holds the page's first
holds_page : (s : Span) (t a : ℕ) → are_multiples PAGE s.first (s.last + 1) t ≡ true → has s a ≡ has s (PAGE * (a / PAGE))
holds_page s t a ok = grind (arith, nat_tests)

any_page : (ss : List Region) (a : ℕ) → AllByRecursion IsWholeRegion ss → list_any (λ r. has r.span a) ss ≡ list_any (λ r. has r.span (PAGE * (a / PAGE))) ss
any_page [] a ok = refl
any_page (s ∷ ss) a ok =
    let one = holds_page s.span 0 a ok.0 in
    let rest = any_page ss a ok.1 in cc

map_page : (ms : List Mapping) (a : ℕ) → AllByRecursion IsWholeMapping ms → mapping_at a ms ≡ mapping_at (PAGE * (a / PAGE)) ms
map_page [] a ok = refl
map_page (m ∷ ms) a ok =
    let one = holds_page m.span m.target a ok.0 in
    let rest = map_page ms a ok.1 in cc

pub found_whole : (ms : List Mapping) (a : ℕ) (m : Mapping) → AllByRecursion IsWholeMapping ms → mapping_at a ms ≡ Some m → IsWholeMapping m × (has m.span a ≡ true)
found_whole [] a m ok h = absurd cc
found_whole (x ∷ ms) a m ok h = go (has x.span a) refl h (found_whole ms a m ok.1)
  where
    go : (v : Bool) → has x.span a ≡ v → cond v (Some x) (mapping_at a ms) ≡ Some m → (mapping_at a ms ≡ Some m → IsWholeMapping m × (has m.span a ≡ true)) → IsWholeMapping m × (has m.span a ≡ true)
    go true e h rest = let same : x ≡ m = cc in subst (λ (z : Mapping). IsWholeMapping z × (has z.span a ≡ true)) same (ok.0, e)
    go false e h rest = rest h

pub domain_whole : (ys : List Domain) (d : ℕ) (y : Domain) → AllByRecursion IsWholeDomain ys → find_domain d ys ≡ Some y → IsWholeDomain y
domain_whole [] d y ok h = absurd cc
domain_whole (x ∷ ys) d y ok h = go (x.id == d) h (domain_whole ys d y ok.1)
  where
    go : (v : Bool) → cond v (Some x) (find_domain d ys) ≡ Some y → (find_domain d ys ≡ Some y → IsWholeDomain y) → IsWholeDomain y
    go true e rest = let same : x ≡ y = cc in subst IsWholeDomain same ok.0
    go false e rest = rest e

endpoint_whole : (xs : List Endpoint) (e : ℕ) (x : Endpoint) → AllByRecursion IsWholeEndpoint xs → find_endpoint e xs ≡ Some x → IsWholeEndpoint x
endpoint_whole [] e x ok h = absurd cc
endpoint_whole (y ∷ xs) e x ok h = go (y.id == e) h (endpoint_whole xs e x ok.1)
  where
    go : (v : Bool) → cond v (Some y) (find_endpoint e xs) ≡ Some x → (find_endpoint e xs ≡ Some x → IsWholeEndpoint x) → IsWholeEndpoint x
    go true k rest = let same : y ≡ x = cc in subst IsWholeEndpoint same ok.0
    go false k rest = rest k

-- from the page's first address on to another of the page
abbrev Onward : ℕ → Look → Look → Type 0
Onward a (Leads t f) o = (o ≡ Leads (t + a % PAGE) f) × (t % PAGE ≡ 0)
Onward a (Nowhere reason) o = o ≡ Nowhere reason

onward_map : (ms : List Mapping) (a : ℕ) → AllByRecursion IsWholeMapping ms
    → Onward a (look_in_mapping (PAGE * (a / PAGE)) (mapping_at (PAGE * (a / PAGE)) ms)) (look_in_mapping a (mapping_at a ms))
onward_map ms a ok = rw (map_page ms a ok) (go (mapping_at (PAGE * (a / PAGE)) ms) refl)
  where
    go : (o : Option Mapping) → mapping_at (PAGE * (a / PAGE)) ms ≡ o → Onward a (look_in_mapping (PAGE * (a / PAGE)) o) (look_in_mapping a o)
    go None e = refl
    go (Some m) e =
        let good = found_whole ms (PAGE * (a / PAGE)) m ok e in
        let n : m.target + (a - m.span.first) ≡ m.target + (PAGE * (a / PAGE) - m.span.first) + a % PAGE = grind (arith, nat_tests, good.0, good.1) in
        (ap (λ k. Leads k m.flags) n, grind (arith, nat_tests, good.0, good.1))

onward_domain : (a : ℕ) (rs : List Region) (o : Option Domain) → AllByRecursion IsWholeRegion rs → ((y : Domain) → o ≡ Some y → IsWholeDomain y) → Onward a (look_in_domain (PAGE * (a / PAGE)) rs o) (look_in_domain a rs o)
onward_domain a rs None ok maps = refl
onward_domain a rs (Some y) ok maps = rw (any_page rs a ok) (go y.bypass (list_any (λ r. has r.span (PAGE * (a / PAGE))) rs) (onward_map y.mappings a (maps y refl).0))
  where
    go : (b h : Bool) → Onward a (look_in_mapping (PAGE * (a / PAGE)) (mapping_at (PAGE * (a / PAGE)) y.mappings)) (look_in_mapping a (mapping_at a y.mappings))
        → Onward a (cond b (bypassed (PAGE * (a / PAGE))) (cond h (Nowhere MAPPING) (look_in_mapping (PAGE * (a / PAGE)) (mapping_at (PAGE * (a / PAGE)) y.mappings))))
        (cond b (bypassed a) (cond h (Nowhere MAPPING) (look_in_mapping a (mapping_at a y.mappings))))
    go true h m = (let n : a ≡ PAGE * (a / PAGE) + a % PAGE = omega arith in ap (λ k. Leads k 3) n, omega arith)
    go false true m = refl
    go false false m = m

onward_by : (dev : Dev) (a : ℕ) (rs : List Region) (o : Membership) → AllByRecursion IsWholeRegion rs → AllByRecursion IsWholeDomain dev.domains → Onward a (look_by dev (PAGE * (a / PAGE)) rs o) (look_by dev a rs o)
onward_by dev a rs Unattached ok maps = go dev.bypass
  where
    go : (b : Bool) → Onward a (cond b (bypassed (PAGE * (a / PAGE))) (Nowhere DOMAIN)) (cond b (bypassed a) (Nowhere DOMAIN))
    go true = (let n : a ≡ PAGE * (a / PAGE) + a % PAGE = omega arith in ap (λ k. Leads k 3) n, omega arith)
    go false = refl
onward_by dev a rs (Member d) ok maps = onward_domain a rs (domain_of dev d) ok (λ y e. domain_whole dev.domains d y maps e)

onward : (dev : Dev) (e a : ℕ) → IsWholeDev dev → Onward a (look dev e (PAGE * (a / PAGE))) (look dev e a)
unfolding look
onward dev e a ok = go (endpoint_of dev e) refl
  where
    go : (o : Option Endpoint) → endpoint_of dev e ≡ o → Onward a (look_of dev (PAGE * (a / PAGE)) o) (look_of dev a o)
    go None k = refl
    go (Some x) k = onward_by dev a x.regions x.domain (endpoint_whole dev.endpoints e x ok.endpoints k) ok.domains

-- what permits a need isn't nothing
permits_some : (need : Need) (f : ℕ) → permits need f ≡ true → (f % 4 == 0) ≡ false
permits_some Read f h = grind (arith, nat_tests)
permits_some Write f h = grind (arith, nat_tests)

-- a lease that permits the need says where the access leads
pub leased : (dev : Dev) (e a : ℕ) (need : Need) (l : Lease) → IsWholeDev dev → lease dev e (a / PAGE) ≡ Some l → permits need l.perm ≡ true
    → translate dev e a need ≡ At (PAGE * l.target + a % PAGE)
leased dev e a need l ok h may = go (look dev e (PAGE * (a / PAGE))) (look dev e a) (onward dev e a ok) h
  where
    go : (o n : Look) → Onward a o n → lease_for dev.pages (a / PAGE) o ≡ Some l → found_for dev.pages need n ≡ At (PAGE * l.target + a % PAGE)
    go (Nowhere reason) n on k = absurd cc
    go (Leads t f) n on k = some (is_in_memory dev.pages t && not (f % 4 == 0)) refl k
      where
        some : (v : Bool) → (is_in_memory dev.pages t && not (f % 4 == 0)) ≡ v → cond v (Some (record { page = a / PAGE; count = 1; target = t / PAGE; perm = f })) None ≡ Some l → found_for dev.pages need n ≡ At (PAGE * l.target + a % PAGE)
        some false v k = absurd cc
        some true v k =
            let same : record { page = a / PAGE; count = 1; target = t / PAGE; perm = f } ≡ l = cc in
            let flags : f ≡ l.perm = ap (λ (x : Lease). x.perm) same in
            let goal : t / PAGE ≡ l.target = ap (λ (x : Lease). x.target) same in
            let inside : is_in_memory dev.pages t ≡ true = (and_parts (is_in_memory dev.pages t) (not (f % 4 == 0)) v).0 in
            let at : t + a % PAGE ≡ PAGE * l.target + a % PAGE = omega (arith, on.1, goal) in
            let here : (t + a % PAGE) / PAGE ≡ t / PAGE = omega (arith, on.1) in
            let near : is_in_memory dev.pages (t + a % PAGE) ≡ true = ap (λ q. nat_lt q dev.pages) here ∙ inside in
            let can : permits need f ≡ true = ap (permits need) flags ∙ may in
            ap (found_for dev.pages need) on.0 ∙ (rw (can, near) (ap At at))

-- where an access leads somewhere, its page has a lease that permits it
pub found_leased : (dev : Dev) (e a t : ℕ) (need : Need) → IsWholeDev dev → translate dev e a need ≡ At t → (l : Lease) × (lease dev e (a / PAGE) ≡ Some l) × (permits need l.perm ≡ true)
found_leased dev e a t need ok h = go (look dev e (PAGE * (a / PAGE))) refl (look dev e a) (onward dev e a ok) h
  where
    go : (o : Look) → look dev e (PAGE * (a / PAGE)) ≡ o → (n : Look) → Onward a (look dev e (PAGE * (a / PAGE))) n → found_for dev.pages need n ≡ At t → (l : Lease) × (lease_for dev.pages (a / PAGE) (look dev e (PAGE * (a / PAGE))) ≡ Some l) × (permits need l.perm ≡ true)
    go (Nowhere reason) q n on k = absurd (bad (rw q at on))
      where
        bad : n ≡ Nowhere reason → ⊥
        bad same = let f : found_for dev.pages need n ≡ Fault reason = ap (found_for dev.pages need) same in cc
    go (Leads u f) q n on k = good (rw q at on)
      where
        split : (b c : Bool) → permits need f ≡ b → is_in_memory dev.pages (u + a % PAGE) ≡ c → found_for dev.pages need (Leads (u + a % PAGE) f) ≡ At t → (b ≡ true) × (c ≡ true)
        split false c p i g = absurd (cc (rw p at g))
        split true false p i g = absurd (cc (rw (p, i) at g))
        split true true p i g = (refl, refl)

        good : (n ≡ Leads (u + a % PAGE) f) × (u % PAGE ≡ 0) → (l : Lease) × (lease_for dev.pages (a / PAGE) (look dev e (PAGE * (a / PAGE))) ≡ Some l) × (permits need l.perm ≡ true)
        good both =
            let g : found_for dev.pages need (Leads (u + a % PAGE) f) ≡ At t = ap (found_for dev.pages need) (sym both.0) ∙ k in
            let tests = split (permits need f) (is_in_memory dev.pages (u + a % PAGE)) refl refl g in
            let some : (f % 4 == 0) ≡ false = permits_some need f tests.0 in
            let at : (u + a % PAGE) / PAGE ≡ u / PAGE = omega (arith, both.1) in
            let inside : is_in_memory dev.pages u ≡ true = ap (λ q. nat_lt q dev.pages) (sym at) ∙ tests.1 in
            (record { page = a / PAGE; count = 1; target = u / PAGE; perm = f }, ap (lease_for dev.pages (a / PAGE)) q ∙ (rw (inside, some) refl), tests.0)
