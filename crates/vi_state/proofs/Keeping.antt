-- Calls keep the room and the pages of all mappings.
use Rattle.std.proofs.Common.{◌≡◌, ◌==◌, ℕ, ◌+◌, ◌-◌, ◌%◌, ◌<◌, ◌≤◌, Bool, true, false, cond, not, nat_lt, nat_le, List, [], ◌∷◌, ◌++◌, length, map, Option, Some, None, refl, arith, lit<, subst, ap, sym, ◌∙◌}
use Rattle.std.specs.List.{AllByRecursion, find}
use Rattle.std.proofs.Math.Nat.{mod-mod_of_dvd}
use Rattle.std.proofs.lemmas.Bool.{not-false}
use Rattle.std.proofs.lemmas.Bool.Decides.{nat_tests}
use Rattle.std.proofs.lemmas.Nat.Gcd.{dvd_of_mod-eq-zero}
use Rattle.vi_bytes.specs.Spans.{covers}
use Rattle.vi_bytes.specs.Mappings.{with_mapping, without_span}
use Rattle.vi_bytes.specs.declared.span.Span.{Span}
use Rattle.vi_bytes.specs.declared.span.TheConstants.{PAGE}
use Rattle.vi_bytes.specs.declared.lease.Mapping.{Mapping}
use Rattle.vi_bytes.specs.declared.region.Membership.{Membership}
use Rattle.vi_bytes.specs.declared.region.Membership.TheVariants.{Unattached, Member}
use Rattle.vi_device.specs.Values.{HasRoom, RoomIn}
use Rattle.vi_history.specs.Device.{Dev, Endpoint, Domain, endpoint_of, domain_of}
use Rattle.vi_history.specs.Statuses.{are_multiples, status, map_into}
use Rattle.vi_history.specs.Effects.{moved, is_inhabited, inhabited, with_domain, with_mappings, endpoint_is_in, attached, effect, commit}
use Rattle.vi_history.specs.declared.status.TheConstants.{OK, INVAL, RANGE}
use Rattle.vi_history.specs.declared.request.Request.{Request}
use Rattle.vi_history.specs.declared.request.Request.TheVariants.{Attach, Detach, Map, Unmap, Probe}
use Rattle.vi_state.specs.Followed.{maps_of, maps_if}
use Rattle.vi_state.specs.Kept.{IsPaged, IsRoomy, IsKept, IsState}

-- the domain of this id
abbrev pub find_domain : ℕ → List Domain → Option Domain
find_domain d ys = find (λ y. y.id == d) ys

pub found_roomy : (maps spare : ℕ) (ys : List Domain) (d : ℕ) (y : Domain) → AllByRecursion (IsRoomy maps spare) ys → find_domain d ys ≡ Some y → IsRoomy maps spare y
found_roomy maps spare [] d y ok h = absurd cc
found_roomy maps spare (x ∷ ys) d y ok h = go (x.id == d) h (found_roomy maps spare ys d y ok.1)
  where
    go : (v : Bool) → cond v (Some x) (find_domain d ys) ≡ Some y → (find_domain d ys ≡ Some y → IsRoomy maps spare y) → IsRoomy maps spare y
    go true e rest = let same : x ≡ y = cc in subst (IsRoomy maps spare) same ok.0
    go false e rest = rest e

-- ---- one domain

roomy_less : (maps n m : ℕ) (y : Domain) → n ≤ m → IsRoomy maps m y → IsRoomy maps n y
roomy_less maps n m y le ok = (omega (arith, le, ok.0), ok.1)

all_less : (maps n m : ℕ) (ys : List Domain) → n ≤ m → AllByRecursion (IsRoomy maps m) ys → AllByRecursion (IsRoomy maps n) ys
all_less maps n m [] le ok = tt
all_less maps n m (y ∷ ys) le ok = (roomy_less maps n m y le ok.0, all_less maps n m ys le ok.1)

with_one : (m : Mapping) (ms : List Mapping) → IsPaged m → AllByRecursion IsPaged ms → (length (with_mapping m ms) ≡ length ms + 1) × AllByRecursion IsPaged (with_mapping m ms)
with_one m [] a ok = (refl, (a, tt))
with_one m (x ∷ ms) a ok = go (nat_lt m.span.first x.span.first) (with_one m ms a ok.1)
  where
    go : (b : Bool) → (length (with_mapping m ms) ≡ length ms + 1) × AllByRecursion IsPaged (with_mapping m ms)
        → (length (cond b (m ∷ x ∷ ms) (x ∷ with_mapping m ms)) ≡ length (x ∷ ms) + 1) × AllByRecursion IsPaged (cond b (m ∷ x ∷ ms) (x ∷ with_mapping m ms))
    go true r = (omega arith, (a, ok))
    go false r = (omega (arith, r.0), (ok.0, r.1))

without_some : (s : Span) (ms : List Mapping) → AllByRecursion IsPaged ms → (length (without_span s ms) ≤ length ms) × AllByRecursion IsPaged (without_span s ms)
without_some s [] ok = (omega arith, tt)
without_some s (m ∷ ms) ok = go (not (covers s m.span)) (without_some s ms ok.1)
  where
    go : (v : Bool) → (length (without_span s ms) ≤ length ms) × AllByRecursion IsPaged (without_span s ms)
        → (length (cond v (m ∷ without_span s ms) (without_span s ms)) ≤ length (m ∷ ms)) × AllByRecursion IsPaged (cond v (m ∷ without_span s ms) (without_span s ms))
    go true r = (omega (arith, r.0), (ok.0, r.1))
    go false r = (omega (arith, r.0), r.1)

-- ---- all domains

all_inhabited : (maps n : ℕ) (xs : List Endpoint) (ys : List Domain) → AllByRecursion (IsRoomy maps n) ys → AllByRecursion (IsRoomy maps n) (inhabited xs ys)
all_inhabited maps n xs [] ok = tt
all_inhabited maps n xs (y ∷ ys) ok = go (is_inhabited xs y.id) (all_inhabited maps n xs ys ok.1)
  where
    go : (v : Bool) → AllByRecursion (IsRoomy maps n) (inhabited xs ys) → AllByRecursion (IsRoomy maps n) (cond v (y ∷ inhabited xs ys) (inhabited xs ys))
    go true r = (ok.0, r)
    go false r = r

all_more : (maps n : ℕ) (ys : List Domain) (y : Domain) → AllByRecursion (IsRoomy maps n) ys → IsRoomy maps n y → AllByRecursion (IsRoomy maps n) (ys ++ y ∷ [])
all_more maps n [] y ok m = (m, tt)
all_more maps n (x ∷ ys) y ok m = (ok.0, all_more maps n ys y ok.1 m)

all_made : (maps n d : ℕ) (b : Bool) (ys : List Domain) (o : Option Domain) → n ≤ maps → AllByRecursion (IsRoomy maps n) ys → AllByRecursion (IsRoomy maps n) (with_domain d b ys o)
all_made maps n d b ys None le ok = all_more maps n ys _ ok (omega (arith, le), tt)
all_made maps n d b ys (Some y) le ok = ok

all_changed : (maps n m d : ℕ) (change : List Mapping → List Mapping) (ys : List Domain) → n ≤ m
    → ((y : Domain) → IsRoomy maps m y → IsRoomy maps n (record y { mappings = change y.mappings }))
    → AllByRecursion (IsRoomy maps m) ys → AllByRecursion (IsRoomy maps n) (with_mappings d change ys)
all_changed maps n m d change [] le keeps ok = tt
all_changed maps n m d change (y ∷ ys) le keeps ok = (go (y.id == d), all_changed maps n m d change ys le keeps ok.1)
  where
    go : (v : Bool) → IsRoomy maps n (cond v (record y { mappings = change y.mappings }) y)
    go true = keeps y ok.0
    go false = roomy_less maps n m y le ok.0

-- ---- what a MAP with status OK was tested for

pages_of : (n granule : ℕ) → granule % PAGE ≡ 0 → n % granule ≡ 0 → n % PAGE ≡ 0
pages_of n granule pages whole =
    sym (mod-mod_of_dvd PAGE {b = granule} n (dvd_of_mod-eq-zero PAGE pages)) ∙ ap (λ k. k % PAGE) whole

passed : (b : Bool) (n rest : ℕ) → 0 < n → cond b n rest ≡ 0 → (b ≡ false) × (rest ≡ 0)
passed true n rest some e = absurd (omega (arith, some, e))
passed false n rest some e = (refl, e)

permitted : (b : Bool) (n rest : ℕ) → 0 < n → cond b rest n ≡ 0 → rest ≡ 0
permitted true n rest some e = e
permitted false n rest some e = absurd (omega (arith, some, e))

multiples_into : (dev : Dev) (domain : ℕ) (span : Span) (target : ℕ) (o : Option Domain) → map_into dev domain span target o ≡ OK → are_multiples dev.granule span.first (span.last + 1) target ≡ true
multiples_into dev domain span target None e = absurd (omega (arith, e))
multiples_into dev domain span target (Some y) e =
    let a = passed y.bypass INVAL _ (lit< tt) e in
    let b = passed (nat_le span.last span.first) INVAL _ (lit< tt) a.1 in
    let c = passed (not (are_multiples dev.granule span.first (span.last + 1) target)) RANGE _ (lit< tt) b.1 in
    not-false (are_multiples dev.granule span.first (span.last + 1) target) c.0

first_whole : (granule first behind target : ℕ) → are_multiples granule first behind target ≡ true → first % granule ≡ 0
first_whole granule first behind target e = grind (arith, nat_tests)

target_whole : (granule first behind target : ℕ) → are_multiples granule first behind target ≡ true → target % granule ≡ 0
target_whole granule first behind target e = grind (arith, nat_tests)

map_paged : (dev : Dev) (domain first last target flags : ℕ) → dev.granule % PAGE ≡ 0 → status dev (Map domain first last target flags) ≡ OK
    → IsPaged (record { span = record { first = first; last = last }; target = target; flags = flags })
unfolding status
map_paged dev domain first last target flags granule e =
    let span : Span = record { first = first; last = last } in
    let whole = multiples_into dev domain span target (domain_of dev domain) (permitted (nat_lt flags 4) INVAL _ (lit< tt) e) in
    (pages_of first dev.granule granule (first_whole dev.granule first (last + 1) target whole), pages_of target dev.granule granule (target_whole dev.granule first (last + 1) target whole))

-- ---- requests

kept_less : (maps n spare : ℕ) (dev : Dev) → n ≤ spare → IsKept maps spare dev → IsKept maps n dev
kept_less maps n spare dev le ok = record { granule = ok.granule; room = omega (arith, le, ok.room); domains = all_less maps n spare dev.domains le ok.domains }

effect_kept : (maps spare n : ℕ) (dev : Dev) (q : Request) → IsKept maps spare dev → IsKept maps n dev → status dev q ≡ OK → n + maps_of q ≡ spare → IsKept maps n (effect dev q)
effect_kept maps spare n dev (Attach d x flags) old ok h le = go (endpoint_is_in d (endpoint_of dev x))
  where
    go : (v : Bool) → IsKept maps n (cond v dev (attached dev d (flags == 1) x))
    go true = ok
    go false = record {
      granule = ok.granule;
      room = ok.room;
      domains = all_inhabited maps n (moved x (Member d) dev.endpoints) (with_domain d (flags == 1) dev.domains (domain_of dev d)) (all_made maps n d (flags == 1) dev.domains (domain_of dev d) ok.room ok.domains);
    }
effect_kept maps spare n dev (Detach d x) old ok h le = record {
  granule = ok.granule;
  room = ok.room;
  domains = all_inhabited maps n (moved x Unattached dev.endpoints) dev.domains ok.domains;
}
effect_kept maps spare n dev (Map d first last t flags) ok less h le =
    let m : Mapping = record { span = record { first = first; last = last }; target = t; flags = flags } in
    let paged = map_paged dev d first last t flags ok.granule h in record {
      granule = ok.granule;
      room = less.room;
      domains = all_changed maps n spare d (with_mapping m) dev.domains (omega (arith, le))
          (λ y w. let one = with_one m y.mappings paged w.1 in (omega (arith, one.0, w.0, le), one.1)) ok.domains;
    }
effect_kept maps spare n dev (Unmap d first last) old ok h le =
    let s : Span = record { first = first; last = last } in record {
      granule = ok.granule;
      room = ok.room;
      domains = all_changed maps n n d (without_span s) dev.domains (omega arith)
          (λ y w. let fewer = without_some s y.mappings w.1 in (omega (arith, fewer.0, w.0), fewer.1)) ok.domains;
    }
effect_kept maps spare n dev (Probe x) old ok h le = ok

pub commit_kept : (maps spare : ℕ) (dev : Dev) (q : Request) → IsKept maps spare dev → status dev q ≡ OK → maps_of q ≤ spare → IsKept maps (spare - maps_of q) (commit dev q)
unfolding commit
commit_kept maps spare dev q ok h le = let yes : (status dev q == OK) ≡ true = ap (λ n. n == OK) h in rw yes (effect_kept maps spare (spare - maps_of q) dev q ok (kept_less maps (spare - maps_of q) spare dev (omega arith) ok) h (omega (arith, le)))

-- an accepted request has the room that it needs
pub has_room : (maps spare : ℕ) (dev : Dev) (q : Request) → IsKept maps spare dev → maps_of q ≤ spare → HasRoom (record { dev = dev; maps = maps }) q
has_room maps spare dev (Attach d x flags) ok le = tt
has_room maps spare dev (Detach d x) ok le = tt
has_room maps spare dev (Map d first last t flags) ok le = go (domain_of dev d) refl
  where
    go : (o : Option Domain) → domain_of dev d ≡ o → RoomIn maps o
    go None e = tt
    go (Some y) e = omega (arith, (found_roomy maps spare dev.domains d y ok.domains e).0, le)
has_room maps spare dev (Unmap d first last) ok le = tt
has_room maps spare dev (Probe x) ok le = tt

-- from the room that a call needs to that of its request
pub room_enough : (code spare : ℕ) (q : Request) → (maps_if code (maps_of q) ≡ 1 → 1 ≤ spare) → code ≡ OK → maps_of q ≤ spare
room_enough code spare (Attach d x flags) room e = omega arith
room_enough code spare (Detach d x) room e = omega arith
room_enough code spare (Map d first last t flags) room e =
    let yes : (code == OK) ≡ true = ap (λ n. n == OK) e in
    room (rw yes refl)
room_enough code spare (Unmap d first last) room e = omega arith
room_enough code spare (Probe x) room e = omega arith

-- ---- endpoints keep their ids, and the memory its size

moved_ids : (e : ℕ) (to : Membership) (xs : List Endpoint) → map (λ x. x.id) (moved e to xs) ≡ map (λ x. x.id) xs
moved_ids e to [] = refl
moved_ids e to (x ∷ xs) = go (x.id == e) (moved_ids e to xs)
  where
    go : (v : Bool) → map (λ x. x.id) (moved e to xs) ≡ map (λ x. x.id) xs → map (λ x. x.id) (cond v (record x { domain = to }) x ∷ moved e to xs) ≡ x.id ∷ map (λ x. x.id) xs
    go true r = ap (λ ns. x.id ∷ ns) r
    go false r = ap (λ ns. x.id ∷ ns) r

effect_ids : (dev : Dev) (q : Request) → (map (λ x. x.id) (effect dev q).endpoints ≡ map (λ x. x.id) dev.endpoints) × ((effect dev q).pages ≡ dev.pages)
effect_ids dev (Attach d x flags) = go (endpoint_is_in d (endpoint_of dev x))
  where
    go : (v : Bool) → (map (λ x. x.id) (let z : Dev = cond v dev (attached dev d (flags == 1) x) in z.endpoints) ≡ map (λ x. x.id) dev.endpoints) × ((let z : Dev = cond v dev (attached dev d (flags == 1) x) in z.pages) ≡ dev.pages)
    go true = (refl, refl)
    go false = (moved_ids x (Member d) dev.endpoints, refl)
effect_ids dev (Detach d x) = (moved_ids x Unattached dev.endpoints, refl)
effect_ids dev (Map d first last t flags) = (refl, refl)
effect_ids dev (Unmap d first last) = (refl, refl)
effect_ids dev (Probe x) = (refl, refl)

pub commit_ids : (dev : Dev) (q : Request) → (map (λ x. x.id) (commit dev q).endpoints ≡ map (λ x. x.id) dev.endpoints) × ((commit dev q).pages ≡ dev.pages)
unfolding commit
commit_ids dev q = go (status dev q == OK)
  where
    go : (v : Bool) → (map (λ x. x.id) (let z : Dev = cond v (effect dev q) dev in z.endpoints) ≡ map (λ x. x.id) dev.endpoints) × ((let z : Dev = cond v (effect dev q) dev in z.pages) ≡ dev.pages)
    go true = effect_ids dev q
    go false = (refl, refl)

-- ---- the whole

pub accepted_state : (maps spare pages : ℕ) (dev : Dev) (ids : List ℕ) (q : Request) → IsState (record { dev = dev; maps = maps }) ids pages spare → status dev q ≡ OK → maps_of q ≤ spare
    → IsState (record { dev = commit dev q; maps = maps }) ids pages (spare - maps_of q)
accepted_state maps spare pages dev ids q ok h le = let same = commit_ids dev q in record {
  kept = commit_kept maps spare dev q ok.kept h le;
  ids = ok.ids ∙ sym same.0;
  few = ok.few;
  pages = ok.pages ∙ sym same.1;
  fits = ok.fits;
}
