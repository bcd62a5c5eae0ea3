-- What a request with status OK was found to be, and what it makes of the domains.
use Rattle.std.proofs.Common.{◌≡◌, ℕ, ◌+◌, ◌-◌, ◌^◌, ◌≤◌, ◌<◌, ◌==◌, ◌||◌, Bool, true, false, not, nat_lt, nat_le, List, [], ◌∷◌, ◌++◌, length, map, Option, Some, None, is_some, refl, sym, ap, ◌∙◌, cond, subst, arith}
use Rattle.std.specs.List.{find, list_any}
use Rattle.std.proofs.lemmas.Bool.Decides.{nat_tests}
use Rattle.std.proofs.lemmas.List.{map-append, length-append}
use Rattle.std.proofs.lemmas.List.Elements.{filter-append}
use Rattle.vi_bytes.specs.declared.span.Span.{Span}
use Rattle.vi_bytes.specs.Spans.{IsProper, covers}
use Rattle.vi_bytes.specs.declared.region.Membership.TheVariants.{Member}
use Rattle.vi_history.specs.Device.{Dev, Endpoint, Domain, endpoint_of, domain_of, is_in}
use Rattle.vi_history.specs.Effects.{moved, is_inhabited, inhabited, with_domain}
use Rattle.vi_history.specs.Statuses.{status, map_into, attach_of, unmap_status, are_multiples, region_meets_in, any_mapping_meets, any_mapping_is_cut}
use Rattle.vi_history.specs.declared.request.Request.TheVariants.{Attach, Map, Unmap}
use Rattle.vi_ranges.proofs.MappingLemmas.{by_test}
use Rattle.vi_device.specs.Kept.{domain_in, TakesMapping, CutsNone}
use Rattle.vi_device.specs.Values.{AreDistinct, ExistsWith, RoomIn}
use Rattle.vi_device.proofs.DistinctLemmas.{distinct_push, few_inhabited}
use Rattle.vi_device.proofs.TableLemmas.{is_some-find}
use Rattle.vi_device.proofs.KeptLemmas.{any_of_map}

-- a rule that refuses was passed
past : (t : Bool) (n rest : ℕ) → 0 < n → cond t n rest ≡ 0 → (t ≡ false) × (rest ≡ 0)
past true n rest some e = absurd (omega arith)
past false n rest some e = (refl, e)

within : (t : Bool) (rest n : ℕ) → 0 < n → cond t rest n ≡ 0 → (t ≡ true) × (rest ≡ 0)
within true rest n some e = (refl, e)
within false rest n some e = absurd (omega arith)

not_false : (t : Bool) → not t ≡ false → t ≡ true
not_false true e = refl
not_false false e = absurd cc

-- a MAP whose status is OK
pub record MapsWell (dev : Dev) (domain : ℕ) (span : Span) (target flags : ℕ) : Type 0 where
  pub flags_few : flags < 4
  pub proper : IsProper span
  pub ends : target + (span.last - span.first) < 2 ^ 64
  pub free : ExistsWith (λ y. any_mapping_meets span y.mappings ≡ false) (domain_of dev domain)

into : (dev : Dev) (domain : ℕ) (span : Span) (target : ℕ) (o : Option Domain) → map_into dev domain span target o ≡ 0
    → IsProper span × (target + (span.last - span.first) < 2 ^ 64) × ExistsWith (λ y. any_mapping_meets span y.mappings ≡ false) o
into dev domain span target None e = absurd (omega arith)
into dev domain span target (Some y) e =
    let s1 = past y.bypass 4 _ (omega arith) e in
    let s2 = past (nat_le span.last span.first) 4 _ (omega arith) s1.1 in
    let s3 = past (not (are_multiples dev.granule span.first (span.last + 1) target)) 5 _ (omega arith) s2.1 in
    let s4 = past (not (covers dev.input span)) 5 _ (omega arith) s3.1 in
    let s5 = past (nat_le (2 ^ 64) (target + (span.last - span.first))) 5 _ (omega arith) s4.1 in
    let s6 = past (region_meets_in dev domain span) 4 _ (omega arith) s5.1 in
    let s7 = past (any_mapping_meets span y.mappings) 4 0 (omega arith) s6.1 in
    (lower span.last span.first s2.0, below (2 ^ 64) (target + (span.last - span.first)) s5.0, s7.0)
  where
    lower : (a b : ℕ) → nat_le a b ≡ false → b ≤ a
    lower a b t = grind (arith, nat_tests)

    below : (a b : ℕ) → nat_le a b ≡ false → b < a
    below a b t = grind (arith, nat_tests)

pub maps_well : (dev : Dev) (domain first last target flags : ℕ) → status dev (Map domain first last target flags) ≡ 0 → MapsWell dev domain (record { first = first; last = last }) target flags
unfolding status
maps_well dev domain first last target flags e =
    let span : Span = record { first = first; last = last } in
    let f = within (nat_lt flags 4) (map_into dev domain span target (domain_of dev domain)) 4 (omega arith) e in
    let rest = into dev domain span target (domain_of dev domain) f.1 in
    record {
      flags_few = few flags f.0;
      proper = rest.0;
      ends = rest.1;
      free = rest.2;
    }
  where
    few : (n : ℕ) → nat_lt n 4 ≡ true → n < 4
    few n t = grind (arith, nat_tests)

-- an UNMAP whose status is OK
from : (span : Span) (o : Option Domain) → unmap_status span o ≡ 0 → IsProper span × ExistsWith (CutsNone span) o
from span None e = absurd (omega arith)
from span (Some y) e =
    let s1 = past y.bypass 4 _ (omega arith) e in
    let s2 = past (nat_lt span.last span.first) 4 _ (omega arith) s1.1 in
    let s3 = past (any_mapping_is_cut span y.mappings) 5 0 (omega arith) s2.1 in
    (lower span.last span.first s2.0, s3.0)
  where
    lower : (a b : ℕ) → nat_lt a b ≡ false → b ≤ a
    lower a b t = grind (arith, nat_tests)

pub unmaps_well : (dev : Dev) (domain first last : ℕ) → status dev (Unmap domain first last) ≡ 0 → IsProper (record { first = first; last = last }) × ExistsWith (CutsNone (record { first = first; last = last })) (domain_of dev domain)
unfolding status
unmaps_well dev domain first last e = from (record { first = first; last = last }) (domain_of dev domain) e

-- an ATTACH whose status is OK names an endpoint that was declared
known : (dev : Dev) (domain : ℕ) (bypass : Bool) (o : Option Endpoint) → attach_of dev domain bypass o ≡ 0 → is_some o ≡ true
known dev domain bypass None e = absurd (omega arith)
known dev domain bypass (Some x) e = refl

pub attaches_known : (dev : Dev) (domain endpoint flags : ℕ) → status dev (Attach domain endpoint flags) ≡ 0 → is_some (endpoint_of dev endpoint) ≡ true
unfolding status
attaches_known dev domain endpoint flags e =
    let f = within (nat_lt flags 2) (attach_of dev domain (flags == 1) (endpoint_of dev endpoint)) 4 (omega arith) e in
    known dev domain (flags == 1) (endpoint_of dev endpoint) f.1

-- both what a domain needs, from its parts
pub takes : (maps : ℕ) (span : Span) (target flags : ℕ) (o : Option Domain) → ExistsWith (λ y. any_mapping_meets span y.mappings ≡ false) o → RoomIn maps o → ExistsWith (TakesMapping maps (record { span = span; target = target; flags = flags })) o
takes maps span target flags None free room = free
takes maps span target flags (Some y) free room = (free, room)

-- the domain that an endpoint joins has one
pub joined : (id domain : ℕ) (es : List Endpoint) → is_some (find (λ x. x.id == id) es) ≡ true → is_inhabited (moved id (Member domain) es) domain ≡ true
joined id domain [] e = absurd cc
joined id domain (x ∷ xs) e =
    let Goal : Type 0 = is_inhabited (moved id (Member domain) (x ∷ xs)) domain ≡ true in
    by_test (x.id == id) (λ _. Goal)
    (λ (t : (x.id == id) ≡ true). let same : (domain == domain) ≡ true = grind (arith, nat_tests) in rw (t, same) refl)
    (λ (t : (x.id == id) ≡ false).
    let later : is_inhabited (moved id (Member domain) xs) domain ≡ true = joined id domain xs (rw t at e) in
    rw (t, later) (either (is_in domain x.domain)))
  where
    either : (b : Bool) → (b || true) ≡ true
    either true = refl
    either false = refl

-- an inhabited domain stays
pub found_inhabited : (es : List Endpoint) (domain : ℕ) (ds : List Domain) → is_inhabited es domain ≡ true → domain_in domain (inhabited es ds) ≡ domain_in domain ds
found_inhabited es domain [] lives = refl
found_inhabited es domain (y ∷ ys) lives =
    let rest = found_inhabited es domain ys lives in
    let Goal : Type 0 = domain_in domain (inhabited es (y ∷ ys)) ≡ domain_in domain (y ∷ ys) in
    by_test (y.id == domain) (λ _. Goal)
    (λ (t : (y.id == domain) ≡ true).
    let same : y.id ≡ domain = grind (arith, nat_tests) in
    let stays : is_inhabited es y.id ≡ true = rw same lives in
    rw (stays, t) refl)
    (λ (t : (y.id == domain) ≡ false). by_test (is_inhabited es y.id) (λ _. Goal)
    (λ (s : is_inhabited es y.id ≡ true). rw (s, t) rest)
    (λ (s : is_inhabited es y.id ≡ false). rw (s, t) rest))

-- the domains, once a new one was joined
pub joined_new : (es : List Endpoint) (domain : ℕ) (bypass : Bool) (ds : List Domain) → is_inhabited es domain ≡ true → domain_in domain (inhabited es ds) ≡ None
    → inhabited es (with_domain domain bypass ds (domain_in domain ds)) ≡ inhabited es ds ++ record { id = domain; bypass = bypass; mappings = [] } ∷ []
joined_new es domain bypass ds lives none =
    let before : domain_in domain ds ≡ None = sym (found_inhabited es domain ds lives) ∙ none in
    let y : Domain = record { id = domain; bypass = bypass; mappings = [] } in
    let last : inhabited es (y ∷ []) ≡ y ∷ [] = rw lives refl in
    rw before (filter-append (λ z. is_inhabited es z.id) ds (y ∷ []) ∙ ap (λ zs. inhabited es ds ++ zs) last)

pub joined_old : (es : List Endpoint) (domain : ℕ) (bypass : Bool) (ds : List Domain) → is_inhabited es domain ≡ true → is_some (domain_in domain (inhabited es ds)) ≡ true
    → inhabited es (with_domain domain bypass ds (domain_in domain ds)) ≡ inhabited es ds
joined_old es domain bypass ds lives some = go (domain_in domain ds) (ap is_some (sym (found_inhabited es domain ds lives)) ∙ some)
  where
    go : (o : Option Domain) → is_some o ≡ true → inhabited es (with_domain domain bypass ds o) ≡ inhabited es ds
    go None e = absurd cc
    go (Some y) e = refl

-- there is a table for it
pub joined_room : (es : List Endpoint) (domain : ℕ) (ds : List Domain) → AreDistinct (map (λ y. y.id) ds) → is_inhabited es domain ≡ true → domain_in domain (inhabited es ds) ≡ None → length (inhabited es ds) < length es
joined_room es domain ds distinct lives none =
    let y : Domain = record { id = domain; bypass = false; mappings = [] } in
    let before : domain_in domain ds ≡ None = sym (found_inhabited es domain ds lives) ∙ none in
    let new : list_any (λ w. w == domain) (map (λ z. z.id) ds) ≡ false = any_of_map (λ w. w == domain) (λ z. z.id) ds ∙ sym (is_some-find (λ z. z.id == domain) ds) ∙ ap is_some before in
    let ids : map (λ z. z.id) (ds ++ y ∷ []) ≡ map (λ z. z.id) ds ++ domain ∷ [] = map-append (λ z. z.id) ds (y ∷ []) in
    let few = few_inhabited es (ds ++ y ∷ []) (subst AreDistinct (sym ids) (distinct_push (map (λ z. z.id) ds) domain distinct new)) in
    let last : inhabited es (y ∷ []) ≡ y ∷ [] = rw lives refl in
    let all : inhabited es (ds ++ y ∷ []) ≡ inhabited es ds ++ y ∷ [] = filter-append (λ z. is_inhabited es z.id) ds (y ∷ []) ∙ ap (λ zs. inhabited es ds ++ zs) last in
    let size : length (inhabited es (ds ++ y ∷ [])) ≡ length (inhabited es ds) + 1 = ap length all ∙ length-append (inhabited es ds) (y ∷ []) in
    omega (arith, few, size)
