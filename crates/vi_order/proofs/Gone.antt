-- An UNMAP takes the mappings of its range away, and only a MAP brings one back.
use Rattle.std.proofs.Common.{◌≡◌, ◌==◌, ℕ, ◌≤◌, Bool, true, false, cond, not, ◌&&◌, nat_le, nat_lt, inl, inr, List, [], ◌∷◌, filter, find, Option, Some, None, option_map, refl, ap, sym, subst, ◌∙◌, arith}
use Rattle.std.specs.List.{list_any}
use Rattle.std.specs.Option.{option_or}
use Rattle.std.proofs.lemmas.Bool.{cases_Bool, true≢false, and_parts, or_parts, and_from, le-leb, leb-true, eq-eqb, eqb-true, eqb-false}
use Rattle.std.proofs.lemmas.Bool.Decides.{nat_tests}
use Rattle.std.proofs.lemmas.List.Folds.{find-append}
use Rattle.vi_bytes.specs.Spans.{has, meets, covers}
use Rattle.vi_bytes.specs.Mappings.{mapping_at, with_mapping, without_span}
use Rattle.vi_bytes.specs.declared.span.Span.{Span}
use Rattle.vi_bytes.specs.declared.lease.Mapping.{Mapping}
use Rattle.vi_bytes.specs.declared.region.Region.{Region}
use Rattle.vi_bytes.specs.declared.region.Membership.TheVariants.{Unattached, Member}
use Rattle.vi_history.specs.Device.{Dev, Domain, endpoint_of, domain_of}
use Rattle.vi_history.specs.Statuses.{any_mapping_is_cut, unmap_status, status}
use Rattle.vi_history.specs.Effects.{moved, is_inhabited, with_domain, changed_if, with_mappings, endpoint_is_in, attached, effect, commit}
use Rattle.vi_history.specs.Translation.{Nowhere, look_in_domain, look_by, look_of, look}
use Rattle.vi_history.specs.declared.reason.TheConstants.{MAPPING}
use Rattle.vi_history.specs.declared.status.TheConstants.{OK}
use Rattle.vi_history.specs.declared.request.Request.{Request}
use Rattle.vi_history.specs.declared.request.Request.TheVariants.{Attach, Detach, Map, Unmap, Probe}
use Rattle.vi_order.specs.Unmapped.{IsTranslatedIn}

-- ---- mappings

none_added : (address : ℕ) (m : Mapping) (ms : List Mapping) → mapping_at address ms ≡ None → has m.span address ≡ false → mapping_at address (with_mapping m ms) ≡ None
none_added address m [] none far = rw far refl
none_added address m (x ∷ xs) none far =
    elim (cases_Bool (has x.span address)) [
      | inl here ↦ let found : Some x ≡ None = rw here at none in absurd cc
      | inr away ↦
          let rest : mapping_at address xs ≡ None = rw away at none in
          elim (cases_Bool (nat_lt m.span.first x.span.first)) [
            | inl before ↦ rw (before, far, away) rest
            | inr behind ↦ rw (behind, away) (none_added address m xs rest far)
          ]
    ]

none_kept : (address : ℕ) (p : Mapping → Bool) (ms : List Mapping) → mapping_at address ms ≡ None → mapping_at address (filter p ms) ≡ None
none_kept address p [] none = refl
none_kept address p (x ∷ xs) none =
    elim (cases_Bool (has x.span address)) [
      | inl here ↦ let found : Some x ≡ None = rw here at none in absurd cc
      | inr away ↦
          let rest : mapping_at address xs ≡ None = rw away at none in
          elim (cases_Bool (p x)) [
            | inl keeps ↦ rw (keeps, away) (none_kept address p xs rest)
            | inr drops ↦ rw drops (none_kept address p xs rest)
          ]
    ]

-- a mapping that has an address of the span and isn't cut by it lies in it
whole_within : (span : Span) (address : ℕ) (m : Mapping) → span.first ≤ address → address ≤ span.last → has m.span address ≡ true → (meets m.span span && not (covers span m.span)) ≡ false
    → covers span m.span ≡ true
whole_within span address m from to here whole =
    let ends = and_parts (nat_le m.span.first address) (nat_le address m.span.last) here in
    let first = leb-true m.span.first address ends.0 in
    let last = leb-true address m.span.last ends.1 in
    let meeting : meets m.span span ≡ true =
    and_from (nat_le m.span.first span.last) (nat_le span.first m.span.last) (le-leb m.span.first span.last (omega arith)) (le-leb span.first m.span.last (omega arith)) in
    let covered : not (covers span m.span) ≡ false = rw meeting at whole in
    elim (cases_Bool (covers span m.span)) [ inl e ↦ e | inr e ↦ let apart : true ≡ false = rw e at covered in absurd (true≢false apart) ]

none_left : (span : Span) (address : ℕ) (ms : List Mapping) → span.first ≤ address → address ≤ span.last → any_mapping_is_cut span ms ≡ false → mapping_at address (without_span span ms) ≡ None
none_left span address [] from to whole = refl
none_left span address (x ∷ xs) from to whole =
    let parts = or_parts (meets x.span span && not (covers span x.span)) (any_mapping_is_cut span xs) whole in
    let rest = none_left span address xs from to parts.1 in
    elim (cases_Bool (has x.span address)) [
      | inl here ↦ rw (whole_within span address x from to here parts.0) rest
      | inr away ↦ elim (cases_Bool (covers span x.span)) [
        | inl within ↦ rw within rest
        | inr outside ↦ rw (outside, away) rest
      ]
    ]

-- ---- domains

-- no mapping of the domain has the address, if the domain exists
abbrev pub HasNone : ℕ → Option Domain → Type 0
HasNone address None = Unit {0}
HasNone address (Some y) = mapping_at address y.mappings ≡ None

abbrev named : ℕ → List Domain → Option Domain
named id ds = find (λ y. y.id == id) ds

named_id : (id : ℕ) (ds : List Domain) (y : Domain) → named id ds ≡ Some y → y.id ≡ id
named_id id [] y found = absurd cc
named_id id (x ∷ xs) y found =
    elim (cases_Bool (x.id == id)) [
      | inl own ↦ let same : Some x ≡ Some y = rw own at found in let is : x ≡ y = cc in ap (λ (z : Domain). z.id) (sym is) ∙ eqb-true x.id id own
      | inr other ↦ let rest : named id xs ≡ Some y = rw other at found in named_id id xs y rest
    ]

HasNone-found : (address : ℕ) (o : Option Domain) (y : Domain) → HasNone address o → o ≡ Some y → mapping_at address y.mappings ≡ None
HasNone-found address o y none found = subst (HasNone address) found none

HasNone-cond : (address : ℕ) (b : Bool) (o : Option Domain) → HasNone address o → HasNone address (cond b o None)
HasNone-cond address true o none = none
HasNone-cond address false o none = tt

HasNone-or : (address : ℕ) (o p : Option Domain) → HasNone address o → HasNone address p → HasNone address (option_or o p)
HasNone-or address None p none next = next
HasNone-or address (Some y) p none next = none

HasNone-map : (address : ℕ) (f : Domain → Domain) (o : Option Domain) → ((y : Domain) → o ≡ Some y → mapping_at address (f y).mappings ≡ None) → HasNone address (option_map f o)
HasNone-map address f None none = tt
HasNone-map address f (Some y) none = none y refl

-- a filter by the id keeps the domain or loses it
named-filter : (id : ℕ) (p : ℕ → Bool) (ds : List Domain) → named id (filter (λ y. p y.id) ds) ≡ cond (p id) (named id ds) None
named-filter id p [] = elim (cases_Bool (p id)) [ inl e ↦ rw e refl | inr e ↦ rw e refl ]
named-filter id p (y ∷ ys) =
    elim (cases_Bool (y.id == id)) [
      | inl own ↦
          let same : p y.id ≡ p id = ap p (eqb-true y.id id own) in
          elim (cases_Bool (p id)) [
            | inl keeps ↦ let here : p y.id ≡ true = same ∙ keeps in rw (here, own, keeps) refl
            | inr drops ↦
                let here : p y.id ≡ false = same ∙ drops in
                let rest : named id (filter (λ y. p y.id) ys) ≡ None = rw drops at (named-filter id p ys) in rw (here, drops) rest
          ]
      | inr other ↦ elim (cases_Bool (p y.id)) [
        | inl keeps ↦ rw (keeps, other) (named-filter id p ys)
        | inr drops ↦ rw (drops, other) (named-filter id p ys)
      ]
    ]

-- a change of mappings changes no id
changed_if-id : (id : ℕ) (change : List Mapping → List Mapping) (y : Domain) → (changed_if id change y).id ≡ y.id
changed_if-id id change y = elim (cases_Bool (y.id == id)) [ inl e ↦ rw e refl | inr e ↦ rw e refl ]

named-changed : (id to : ℕ) (change : List Mapping → List Mapping) (ds : List Domain) → named id (with_mappings to change ds) ≡ option_map (changed_if to change) (named id ds)
named-changed id to change [] = refl
named-changed id to change (y ∷ ys) =
    ap (λ n. cond (n == id) (Some (changed_if to change y)) (named id (with_mappings to change ys))) (changed_if-id to change y)
    ∙ (elim (cases_Bool (y.id == id)) [ inl own ↦ rw own refl | inr other ↦ rw other (named-changed id to change ys) ])

changed_if-none : (address id : ℕ) (change : List Mapping → List Mapping) (y : Domain) → (y.id ≡ id → mapping_at address (change y.mappings) ≡ None)
    → ((y.id ≡ id → ⊥) → mapping_at address y.mappings ≡ None) → mapping_at address (changed_if id change y).mappings ≡ None
changed_if-none address id change y own other =
    elim (cases_Bool (y.id == id)) [
      | inl e ↦ rw e (own (eqb-true y.id id e))
      | inr e ↦ rw e (other (eqb-false y.id id e))
    ]

with_domain-none : (address id new : ℕ) (bypass : Bool) (ds : List Domain) (o : Option Domain) → HasNone address (named id ds) → HasNone address (named id (with_domain new bypass ds o))
with_domain-none address id new bypass ds (Some y) none = none
with_domain-none address id new bypass ds None none =
    let made : Domain = record { id = new; bypass = bypass; mappings = [] } in
    subst (HasNone address) (sym (find-append (λ y. y.id == id) ds (made ∷ [])))
    (HasNone-or address (named id ds) (named id (made ∷ [])) none (HasNone-cond address (new == id) (Some made) refl))

-- ---- requests

-- the domain of this id after a change of one domain's mappings
with_mappings-none : (address domain to : ℕ) (change : List Mapping → List Mapping) (ds : List Domain)
    → ((y : Domain) → named domain ds ≡ Some y → domain ≡ to → mapping_at address (change y.mappings) ≡ None)
    → ((domain ≡ to → ⊥) → HasNone address (named domain ds)) → HasNone address (named domain (with_mappings to change ds))
with_mappings-none address domain to change ds own other =
    subst (HasNone address) (sym (named-changed domain to change ds))
    (HasNone-map address (changed_if to change) (named domain ds) (λ y found.
    let is : y.id ≡ domain = named_id domain ds y found in
    changed_if-none address to change y (λ e. own y found (sym is ∙ e)) (λ e. HasNone-found address (named domain ds) y (other (λ same. e (is ∙ same))) found)))

-- a MAP of the domain at this address is the only request that brings a mapping there
effect-keeps : (dev : Dev) (request : Request) (domain address : ℕ)
    → ((first last target flags : ℕ) → request ≡ Map domain first last target flags → first ≤ address → address ≤ last → ⊥)
    → HasNone address (domain_of dev domain) → HasNone address (domain_of (effect dev request) domain)
effect-keeps dev (Attach to endpoint flags) domain address maps none =
    let endpoints = moved endpoint (Member to) dev.endpoints in
    let domains = with_domain to (flags == 1) dev.domains (domain_of dev to) in
    let moves : HasNone address (domain_of (attached dev to (flags == 1) endpoint) domain) =
    subst (HasNone address) (sym (named-filter domain (is_inhabited endpoints) domains))
    (HasNone-cond address (is_inhabited endpoints domain) (named domain domains) (with_domain-none address domain to (flags == 1) dev.domains (domain_of dev to) none)) in
    elim (cases_Bool (endpoint_is_in to (endpoint_of dev endpoint))) [ inl stays ↦ rw stays none | inr leaves ↦ rw leaves moves ]
effect-keeps dev (Detach from endpoint) domain address maps none =
    let endpoints = moved endpoint Unattached dev.endpoints in
    subst (HasNone address) (sym (named-filter domain (is_inhabited endpoints) dev.domains)) (HasNone-cond address (is_inhabited endpoints domain) (named domain dev.domains) none)
effect-keeps dev (Map to first last target flags) domain address maps none =
    let m : Mapping = record { span = record { first = first; last = last }; target = target; flags = flags } in
    let away : domain ≡ to → has m.span address ≡ false = λ same. elim (cases_Bool (has m.span address)) [
      | inl here ↦
          let ends = and_parts (nat_le first address) (nat_le address last) here in
          absurd (maps first last target flags (ap (λ n. Map n first last target flags) (sym same)) (leb-true first address ends.0) (leb-true address last ends.1))
      | inr far ↦ far
    ] in
    with_mappings-none address domain to (with_mapping m) dev.domains (λ y found same. none_added address m y.mappings (HasNone-found address (domain_of dev domain) y none found) (away same)) (λ other. none)
effect-keeps dev (Unmap to first last) domain address maps none =
    let span : Span = record { first = first; last = last } in
    with_mappings-none address domain to (without_span span) dev.domains
    (λ y found same. none_kept address (λ m. not (covers span m.span)) y.mappings (HasNone-found address (domain_of dev domain) y none found)) (λ other. none)
effect-keeps dev (Probe endpoint) domain address maps none = none

pub commit-keeps : (dev : Dev) (request : Request) (domain address : ℕ)
    → (status dev request ≡ OK → (first last target flags : ℕ) → request ≡ Map domain first last target flags → first ≤ address → address ≤ last → ⊥)
    → HasNone address (domain_of dev domain) → HasNone address (domain_of (commit dev request) domain)
unfolding commit
commit-keeps dev request domain address maps none =
    elim (cases_Bool (status dev request == OK)) [
      | inl ok ↦ rw ok (effect-keeps dev request domain address (maps (eqb-true (status dev request) OK ok)) none)
      | inr refused ↦ rw refused none
    ]

unmap_whole : (span : Span) (o : Option Domain) (y : Domain) → o ≡ Some y → unmap_status span o ≡ OK → any_mapping_is_cut span y.mappings ≡ false
unmap_whole span None y found ok = absurd cc
unmap_whole span (Some x) y found ok =
    let same : x ≡ y = cc in
    let whole : any_mapping_is_cut span x.mappings ≡ false = grind (arith, nat_tests) in
    ap (λ (z : Domain). any_mapping_is_cut span z.mappings) (sym same) ∙ whole

-- an UNMAP that takes effect leaves no mapping at an address of its range
pub commit-unmap : (dev : Dev) (domain first last address : ℕ) → status dev (Unmap domain first last) ≡ OK → first ≤ address → address ≤ last
    → HasNone address (domain_of (commit dev (Unmap domain first last)) domain)
unfolding commit status
commit-unmap dev domain first last address ok from to =
    let span : Span = record { first = first; last = last } in
    let done : (unmap_status span (domain_of dev domain) == OK) ≡ true = eq-eqb (unmap_status span (domain_of dev domain)) OK ok in
    rw done (with_mappings-none address domain domain (without_span span) dev.domains
    (λ y found same. none_left span address y.mappings from to (unmap_whole span (domain_of dev domain) y found ok)) (λ other. absurd (other refl)))

-- ---- accesses

look_in_domain-none : (address : ℕ) (regions : List Region) (y : Domain) → y.bypass ≡ false → mapping_at address y.mappings ≡ None → look_in_domain address regions (Some y) ≡ Nowhere MAPPING
look_in_domain-none address regions y translates none =
    elim (cases_Bool (list_any (λ (r : Region). has r.span address) regions)) [
      | inl reserved ↦ rw (translates, reserved) refl
      | inr free ↦ rw (translates, free, none) refl
    ]

-- an address without a mapping leads nowhere for an endpoint of the domain
pub look-none : (dev : Dev) (endpoint domain address : ℕ) → IsTranslatedIn dev endpoint domain → HasNone address (domain_of dev domain) → look dev endpoint address ≡ Nowhere MAPPING
unfolding look
look-none dev endpoint domain address inside none =
    ap (look_of dev address) inside.is_member
    ∙ ap (look_by dev address inside.member.regions) inside.attached
    ∙ ap (look_in_domain address inside.member.regions) inside.is_joined
    ∙ look_in_domain-none address inside.member.regions inside.joined inside.translates (HasNone-found address (domain_of dev domain) inside.joined none inside.is_joined)
