-- What a task takes, in the words of vi_shoot and in those of vi_model.
use Rattle.std.proofs.Common.{◌≡◌, ◌≢◌, ℕ, zero, suc, ◌-◌, ◌*◌, ◌^◌, ◌<◌, ◌≤◌, Bool, true, false, cond, ◌||◌, ◌&&◌, eqb, nat_le, List, [], ◌∷◌, Option, Some, None, is_some, IfSome, length, map, get_or, find, refl, ap, sym, ◌∙◌, arith, le-leb, eq-eqb}
use Rattle.std.specs.List.{list_any}
use Rattle.std.specs.Option.{option_map}
use Rattle.std.proofs.Math.Dec.{leb-zero}
use Rattle.std.proofs.Math.Bool.{and-true}
use Rattle.std.proofs.lemmas.Bool.{and_parts}
use Rattle.std.proofs.lemmas.Bool.Decides.{nat_tests}
use Rattle.std.proofs.lemmas.List.{get_or-map}
use Rattle.std.proofs.lemmas.List.Quantifiers.{position-Some}
use Rattle.vi_bytes.specs.declared.span.Span.{Span}
use Rattle.vi_bytes.specs.declared.span.TheConstants.{PAGE}
use Rattle.vi_bytes.specs.declared.region.Membership.{Membership}
use Rattle.vi_bytes.specs.declared.region.Membership.TheVariants.{Unattached, Member}
use Rattle.vi_bytes.specs.Spans.{IsProper, meets, page_span}
use Rattle.vi_bytes.proofs.SpanLemmas.{meets-comm}
use Rattle.vi_history.specs.Device.{Dev, Endpoint, endpoint_of, is_in}
use Rattle.vi_history.specs.declared.reading.Reading.TheVariants.{Silent, Malformed, Asks}
use Rattle.vi_history.specs.declared.request.Request.TheVariants.{Attach, Detach, Map, Unmap, Probe}
use Rattle.vi_device.specs.Values.{AreDistinct, membership_at}
use Rattle.vi_model.specs.declared.task.Task.{Task}
use Rattle.vi_model.specs.declared.task.Task.TheVariants.{Reads, Sets}
use Rattle.vi_history.specs.Effects.{endpoint_is_in}
use Rattle.vi_model.specs.Tasks as model
use Rattle.vi_model.specs.Tasks.{closes, reach_of, reach_between, reaches}
use Rattle.vi_shoot.specs.declared.what.What.{What}
use Rattle.vi_shoot.specs.declared.what.What.TheVariants as what
use Rattle.vi_shoot.specs.declared.what.Reach.{Reach}
use Rattle.vi_shoot.specs.declared.what.Reach.TheVariants as reach
use Rattle.vi_shoot.specs.Reaches as shoot
use Rattle.vi_shoot.proofs.Firsts.{is_some-position}
use Rattle.vi_removals.specs.Value.{addresses_of}
use Rattle.vi_removals.specs.Takings.{has_id, place_in, from_endpoint, from_domain, what_of, IsTaking}

no_endpoint : Endpoint
no_endpoint = record { id = 0; regions = []; domain = Unattached }

-- a task that takes addresses takes something of vi_shoot's
is_some-map : {X Y : Type 0} (f : X → Y) (o : Option X) → is_some o ≡ true → is_some (option_map f o) ≡ true
is_some-map f None some = absurd (cc)
is_some-map f (Some x) some = refl

is_some-endpoint : (ids : List ℕ) (id : ℕ) → has_id id ids ≡ true → is_some (from_endpoint ids id) ≡ true
is_some-endpoint ids id has = is_some-map (λ place. what.Endpoint place) (place_in ids id) (is_some-position (λ x. eqb x id) ids has)

is_some-domain : (domain first last : ℕ) → first ≤ last → is_some (from_domain domain first last) ≡ true
is_some-domain domain first last le = rw (le-leb first last le) refl

pub is_some-what : (ids : List ℕ) (t : Task) → IsTaking ids t → is_some (what_of ids t) ≡ true
is_some-what ids (Reads Silent) taking = absurd taking
is_some-what ids (Reads (Malformed probe)) taking = absurd taking
is_some-what ids (Reads (Asks (Attach domain endpoint flags))) taking = is_some-endpoint ids endpoint taking
is_some-what ids (Reads (Asks (Detach domain endpoint))) taking = is_some-endpoint ids endpoint taking
is_some-what ids (Reads (Asks (Map domain first last target flags))) taking = absurd taking
is_some-what ids (Reads (Asks (Unmap domain first last))) taking = is_some-domain domain first last taking
is_some-what ids (Reads (Asks (Probe endpoint))) taking = absurd taking
is_some-what ids (Sets true) taking = absurd (cc)
is_some-what ids (Sets false) taking = refl

-- a property of what is taken, where it is an endpoint's or a domain's
if_endpoint : (P : What → Type 0) (o : Option ℕ) → ((place : ℕ) → o ≡ Some place → P (what.Endpoint place)) → IfSome (option_map (λ place. what.Endpoint place) o) P
if_endpoint P None each = tt
if_endpoint P (Some place) each = each place refl

if_domain : (P : What → Type 0) (domain first last : ℕ) → P (what.Unmap domain (record { first = first; last = last })) → IfSome (from_domain domain first last) P
if_domain P domain first last p = go (nat_le first last)
  where
    go : (b : Bool) → IfSome (cond b (Some (what.Unmap domain (record { first = first; last = last }))) None) P
    go true = p
    go false = tt

pub at_what : (P : What → Type 0) (o : Option What) (w : What) → o ≡ Some w → IfSome o P → P w
at_what P None w is p = absurd (cc)
at_what P (Some v) w is p = let same : w ≡ v = cc in rw same p

-- a page that is one has an address of the whole range
meets-all : (page first last : ℕ) → page < 2 ^ 52 → (eqb first 0 && eqb last (2 ^ 64 - 1)) ≡ true → true ≡ meets (page_span page) (record { first = first; last = last })
meets-all page first last below all =
    let parts = and_parts (eqb first 0) (eqb last (2 ^ 64 - 1)) all in
    let at_first : first ≡ 0 = grind (arith, nat_tests, parts.0) in
    let at_last : last ≡ 2 ^ 64 - 1 = grind (arith, nat_tests, parts.1) in
    let low : nat_le (PAGE * page) (2 ^ 64 - 1) ≡ true = le-leb (PAGE * page) (2 ^ 64 - 1) (omega arith) in
    rw (at_first, at_last, low) (sym (leb-zero _))

reaches-between : (first last page : ℕ) → page < 2 ^ 52 → reaches (reach_between first last) page ≡ meets (page_span page) (record { first = first; last = last })
reaches-between first last page below = go (eqb first 0 && eqb last (2 ^ 64 - 1)) refl
  where
    go : (b : Bool) → (eqb first 0 && eqb last (2 ^ 64 - 1)) ≡ b → reaches (cond b None (Some (record { first = first; last = last }))) page ≡ meets (page_span page) (record { first = first; last = last })
    go true all = meets-all page first last below all
    go false all = meets-comm (record { first = first; last = last }) (page_span page)

-- the pages that a task reaches are those of what it takes
reaches-if_what : (ids : List ℕ) (t : Task) (page : ℕ) → page < 2 ^ 52 → IfSome (what_of ids t) (λ w. reaches (reach_of t) page ≡ shoot.reaches (shoot.reach_of w) page)
reaches-if_what ids (Reads Silent) page below = tt
reaches-if_what ids (Reads (Malformed probe)) page below = tt
reaches-if_what ids (Reads (Asks (Attach domain endpoint flags))) page below = if_endpoint (λ w. true ≡ shoot.reaches (shoot.reach_of w) page) (place_in ids endpoint) (λ place is. refl)
reaches-if_what ids (Reads (Asks (Detach domain endpoint))) page below = if_endpoint (λ w. true ≡ shoot.reaches (shoot.reach_of w) page) (place_in ids endpoint) (λ place is. refl)
reaches-if_what ids (Reads (Asks (Map domain first last target flags))) page below = tt
reaches-if_what ids (Reads (Asks (Unmap domain first last))) page below = if_domain (λ w. reaches (reach_between first last) page ≡ shoot.reaches (shoot.reach_of w) page) domain first last (reaches-between first last page below)
reaches-if_what ids (Reads (Asks (Probe endpoint))) page below = tt
reaches-if_what ids (Sets true) page below = tt
reaches-if_what ids (Sets false) page below = refl

pub reaches-what : (ids : List ℕ) (t : Task) (w : What) (page : ℕ) → page < 2 ^ 52 → what_of ids t ≡ Some w → reaches (reach_of t) page ≡ shoot.reaches (shoot.reach_of w) page
reaches-what ids t w page below is = at_what (λ w. reaches (reach_of t) page ≡ shoot.reaches (shoot.reach_of w) page) (what_of ids t) w is (reaches-if_what ids t page below)

-- so are its addresses
addresses-between : (first last : ℕ) → addresses_of (reach_between first last) ≡ record { first = first; last = last }
addresses-between first last = go (eqb first 0 && eqb last (2 ^ 64 - 1)) refl
  where
    go : (b : Bool) → (eqb first 0 && eqb last (2 ^ 64 - 1)) ≡ b → addresses_of (cond b None (Some (record { first = first; last = last }))) ≡ record { first = first; last = last }
    go true all =
        let parts = and_parts (eqb first 0) (eqb last (2 ^ 64 - 1)) all in
        let at_first : first ≡ 0 = grind (arith, nat_tests, parts.0) in
        let at_last : last ≡ 2 ^ 64 - 1 = grind (arith, nat_tests, parts.1) in
        rw (at_first, at_last) refl
    go false all = refl

addresses-if_what : (ids : List ℕ) (t : Task) → IfSome (what_of ids t) (λ w. addresses_of (reach_of t) ≡ shoot.reach_span (shoot.reach_of w))
addresses-if_what ids (Reads Silent) = tt
addresses-if_what ids (Reads (Malformed probe)) = tt
addresses-if_what ids (Reads (Asks (Attach domain endpoint flags))) = if_endpoint (λ w. addresses_of None ≡ shoot.reach_span (shoot.reach_of w)) (place_in ids endpoint) (λ place is. refl)
addresses-if_what ids (Reads (Asks (Detach domain endpoint))) = if_endpoint (λ w. addresses_of None ≡ shoot.reach_span (shoot.reach_of w)) (place_in ids endpoint) (λ place is. refl)
addresses-if_what ids (Reads (Asks (Map domain first last target flags))) = tt
addresses-if_what ids (Reads (Asks (Unmap domain first last))) = if_domain (λ w. addresses_of (reach_between first last) ≡ shoot.reach_span (shoot.reach_of w)) domain first last (addresses-between first last)
addresses-if_what ids (Reads (Asks (Probe endpoint))) = tt
addresses-if_what ids (Sets true) = tt
addresses-if_what ids (Sets false) = refl

pub addresses-what : (ids : List ℕ) (t : Task) (w : What) → what_of ids t ≡ Some w → addresses_of (reach_of t) ≡ shoot.reach_span (shoot.reach_of w)
addresses-what ids t w is = at_what (λ w. addresses_of (reach_of t) ≡ shoot.reach_span (shoot.reach_of w)) (what_of ids t) w is (addresses-if_what ids t)

-- the range of a task that takes addresses has one
proper-between : (first last : ℕ) → first ≤ last → IfSome (reach_between first last) IsProper
proper-between first last le = go (eqb first 0 && eqb last (2 ^ 64 - 1))
  where
    go : (b : Bool) → IfSome (cond b None (Some (record { first = first; last = last }))) IsProper
    go true = tt
    go false = le

pub proper-reach : (ids : List ℕ) (t : Task) → IsTaking ids t → IfSome (reach_of t) IsProper
proper-reach ids (Reads Silent) taking = tt
proper-reach ids (Reads (Malformed probe)) taking = tt
proper-reach ids (Reads (Asks (Attach domain endpoint flags))) taking = tt
proper-reach ids (Reads (Asks (Detach domain endpoint))) taking = tt
proper-reach ids (Reads (Asks (Map domain first last target flags))) taking = tt
proper-reach ids (Reads (Asks (Unmap domain first last))) taking = proper-between first last taking
proper-reach ids (Reads (Asks (Probe endpoint))) taking = tt
proper-reach ids (Sets on) taking = tt

proper-if_some : (r : Option Span) → IfSome r IsProper → IsProper (addresses_of r)
proper-if_some None proper = omega arith
proper-if_some (Some span) proper = proper

pub proper-addresses : (ids : List ℕ) (t : Task) → IsTaking ids t → IsProper (addresses_of (reach_of t))
proper-addresses ids t taking = proper-if_some (reach_of t) (proper-reach ids t taking)

pub proper-span : (r : Reach) → shoot.IsProperReach r → IsProper (shoot.reach_span r)
proper-span reach.All proper = omega arith
proper-span (reach.Within span) proper = proper

-- distinct ids stand at distinct places
list_any-at : (p : ℕ → Bool) (ids : List ℕ) (i : ℕ) → list_any p ids ≡ false → i < length ids → p (get_or ids i 0) ≡ false
list_any-at p [] i none lt = absurd (omega (arith, lt))
list_any-at p (id ∷ ids) i none lt = go (p id) refl none i lt (list_any-at p ids)
  where
    go : (b : Bool) → p id ≡ b → (b || list_any p ids) ≡ false → (i : ℕ) → i < suc (length ids) → ((k : ℕ) → list_any p ids ≡ false → k < length ids → p (get_or ids k 0) ≡ false) → p (get_or (id ∷ ids) i 0) ≡ false
    go true e none i lt rest = absurd (cc)
    go false e none zero lt rest = e
    go false e none (suc i) lt rest = rest i none (omega (arith, lt))

same_place : (ids : List ℕ) (i j : ℕ) → AreDistinct ids → i < length ids → j < length ids → get_or ids i 0 ≡ get_or ids j 0 → i ≡ j
same_place [] i j distinct lt lt' same = absurd (omega (arith, lt))
same_place (id ∷ ids) zero zero distinct lt lt' same = refl
same_place (id ∷ ids) zero (suc j) distinct lt lt' same =
    let other : eqb (get_or ids j 0) id ≡ false = list_any-at (λ x. eqb x id) ids j distinct.0 (omega (arith, lt')) in
    let test : eqb (get_or ids j 0) id ≡ true = eq-eqb (get_or ids j 0) id (sym same) in
    absurd (cc)
same_place (id ∷ ids) (suc i) zero distinct lt lt' same =
    let other : eqb (get_or ids i 0) id ≡ false = list_any-at (λ x. eqb x id) ids i distinct.0 (omega (arith, lt)) in
    let test : eqb (get_or ids i 0) id ≡ true = eq-eqb (get_or ids i 0) id same in
    absurd (cc)
same_place (id ∷ ids) (suc i) (suc j) distinct lt lt' same = ap suc (same_place ids i j distinct.1 (omega (arith, lt)) (omega (arith, lt')) same)

-- the endpoint at a place has an id where that id's first place is this one
place-test : (ids : List ℕ) (id place at : ℕ) → AreDistinct ids → place < length ids → place_in ids id ≡ Some at → eqb (get_or ids place 0) id ≡ eqb at place
place-test ids id place at distinct lt found =
    let first = position-Some (λ (x : ℕ). eqb x id) ids at 0 found in
    let there : get_or ids at 0 ≡ id = grind (arith, nat_tests, first.1) in
    go (eqb at place) refl there first.0
  where
    go : (b : Bool) → eqb at place ≡ b → get_or ids at 0 ≡ id → at < length ids → eqb (get_or ids place 0) id ≡ b
    go true e there lt' =
        let same : at ≡ place = grind (arith, nat_tests) in
        eq-eqb (get_or ids place 0) id (ap (λ i. get_or ids i 0) (sym same) ∙ there)
    go false e there lt' =
        let ne : at ≢ place = grind (arith, nat_tests) in
        let other : get_or ids place 0 ≢ id = λ is. ne (same_place ids at place distinct lt' lt (there ∙ sym is)) in
        grind (arith, nat_tests)

pub length-ids : (xs : List Endpoint) → length (map (λ x. x.id) xs) ≡ length xs
length-ids [] = refl
length-ids (x ∷ xs) = ap suc (length-ids xs)

different : (m n : ℕ) → eqb n m ≡ false → eqb m n ≡ false
different m n h = grind (arith, nat_tests)

-- the endpoint of the id at a place is the one at that place
pub endpoint-at : (xs : List Endpoint) (place : ℕ) (d : Endpoint) → AreDistinct (map (λ x. x.id) xs) → place < length xs
    → find (λ x. eqb x.id (get_or (map (λ x. x.id) xs) place 0)) xs ≡ Some (get_or xs place d)
endpoint-at [] place d distinct lt = absurd (omega (arith, lt))
endpoint-at (x ∷ xs) zero d distinct lt = rw (eq-eqb x.id x.id refl) refl
endpoint-at (x ∷ xs) (suc place) d distinct lt =
    let there : place < length (map (λ x. x.id) xs) = rw (length-ids xs) (omega (arith, lt)) in
    let other : eqb (get_or (map (λ x. x.id) xs) place 0) x.id ≡ false = list_any-at (λ i. eqb i x.id) (map (λ x. x.id) xs) place distinct.0 there in
    let other' : eqb x.id (get_or (map (λ x. x.id) xs) place 0) ≡ false = different x.id (get_or (map (λ x. x.id) xs) place 0) other in
    rw other' (endpoint-at xs place d distinct.1 (omega (arith, lt)))

-- the words of both for where an endpoint is
is_in-member : (domain : ℕ) (m : Membership) → is_in domain m ≡ shoot.is_member domain m
is_in-member domain Unattached = refl
is_in-member domain (Member d) = refl

unattached-same : (m : Membership) → (model.is_in_none m && true) ≡ (shoot.is_unattached m && true)
unattached-same Unattached = refl
unattached-same (Member d) = refl

-- a task closes for an endpoint the pages of what it takes, where that is for its place
closes-if_what : (dev : Dev) (ids : List ℕ) (t : Task) (place page : ℕ) (x : Endpoint) → endpoint_of dev (get_or ids place 0) ≡ Some x → AreDistinct ids → place < length ids
    → IfSome (what_of ids t) (λ w. closes dev t (get_or ids place 0) page ≡ (shoot.is_for w place x.domain && shoot.reaches (shoot.reach_of w) page))
unfolding closes
closes-if_what dev ids (Reads Silent) place page x is distinct lt = tt
closes-if_what dev ids (Reads (Malformed probe)) place page x is distinct lt = tt
closes-if_what dev ids (Reads (Asks (Attach domain endpoint flags))) place page x is distinct lt =
    if_endpoint (λ w. eqb (get_or ids place 0) endpoint ≡ (shoot.is_for w place x.domain && shoot.reaches (shoot.reach_of w) page)) (place_in ids endpoint) (λ at found. place-test ids endpoint place at distinct lt found ∙ sym (and-true (eqb at place)))
closes-if_what dev ids (Reads (Asks (Detach domain endpoint))) place page x is distinct lt =
    if_endpoint (λ w. eqb (get_or ids place 0) endpoint ≡ (shoot.is_for w place x.domain && shoot.reaches (shoot.reach_of w) page)) (place_in ids endpoint) (λ at found. place-test ids endpoint place at distinct lt found ∙ sym (and-true (eqb at place)))
closes-if_what dev ids (Reads (Asks (Map domain first last target flags))) place page x is distinct lt = tt
closes-if_what dev ids (Reads (Asks (Unmap domain first last))) place page x is distinct lt =
    if_domain (λ w. (endpoint_is_in domain (endpoint_of dev (get_or ids place 0)) && meets (record { first = first; last = last }) (page_span page)) ≡ (shoot.is_for w place x.domain && shoot.reaches (shoot.reach_of w) page)) domain first last
    (rw (is, is_in-member domain x.domain) (ap (λ b. shoot.is_member domain x.domain && b) (meets-comm (record { first = first; last = last }) (page_span page))))
closes-if_what dev ids (Reads (Asks (Probe endpoint))) place page x is distinct lt = tt
closes-if_what dev ids (Sets true) place page x is distinct lt = tt
closes-if_what dev ids (Sets false) place page x is distinct lt = rw is (unattached-same x.domain)

pub closes-what : (dev : Dev) (ids : List ℕ) (t : Task) (w : What) (place page : ℕ) (now : Membership) → AreDistinct ids → place < length ids
    → map (λ x. x.id) dev.endpoints ≡ ids → membership_at dev place ≡ now → what_of ids t ≡ Some w
    → closes dev t (get_or ids place 0) page ≡ (shoot.is_for w place now && shoot.reaches (shoot.reach_of w) page)
closes-what dev ids t w place page now distinct lt ids_are now_is is =
    let x : Endpoint = get_or dev.endpoints place no_endpoint in
    let long : place < length dev.endpoints = rw (sym (length-ids dev.endpoints), ids_are) lt in
    let found : endpoint_of dev (get_or ids place 0) ≡ Some x = rw (← ids_are) (endpoint-at dev.endpoints place no_endpoint (rw ids_are distinct) long) in
    let here : x.domain ≡ now = sym (get_or-map (λ (x : Endpoint). x.domain) dev.endpoints place no_endpoint Unattached long) ∙ now_is in
    let closed_then = at_what (λ w. closes dev t (get_or ids place 0) page ≡ (shoot.is_for w place x.domain && shoot.reaches (shoot.reach_of w) page)) (what_of ids t) w is (closes-if_what dev ids t place page x found distinct lt) in
    rw here at closed_then
