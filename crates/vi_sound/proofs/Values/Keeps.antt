-- What a change of the device leaves of a look at an address.
use Rattle.std.proofs.Common.{◌≡◌, ◌≢◌, ℕ, ◌*◌, true, false, ◌&&◌, List, Option, Some, None, refl, arith, ◌∙◌, ap, sym, ◌⊎◌, inl, inr, subst}
use Rattle.std.proofs.lemmas.Bool.Decides.{nat_tests}
use Rattle.std.proofs.lemmas.Bool.{cases_eq}
use Rattle.vi_bytes.specs.Spans.{meets, page_span}
use Rattle.vi_bytes.specs.Mappings.{mapping_at, with_mapping, without_span}
use Rattle.vi_bytes.specs.declared.span.Span.{Span}
use Rattle.vi_bytes.specs.declared.span.TheConstants.{PAGE}
use Rattle.vi_bytes.specs.declared.lease.Mapping.{Mapping}
use Rattle.vi_bytes.specs.declared.region.Region.{Region}
use Rattle.vi_bytes.specs.declared.region.Membership.{Membership}
use Rattle.vi_bytes.specs.declared.region.Membership.TheVariants.{Unattached, Member}
use Rattle.vi_history.specs.Device.{Dev, Endpoint, Domain, endpoint_of, is_in}
use Rattle.vi_history.specs.Translation.{Leads, look, look_of, look_by, look_in_domain}
use Rattle.vi_history.specs.Statuses.{any_mapping_meets}
use Rattle.vi_history.specs.Effects.{moved, is_inhabited, inhabited, with_mappings, endpoint_is_in, effect}
use Rattle.vi_history.specs.declared.request.Request.TheVariants.{Map, Unmap}
use Rattle.vi_sound.proofs.Values.Finds.{find_domain, find_moved_other, find_inhabited, find_kept, find_changed_other, find_changed, find_insert, find_without}

pub keep_maps : (a : ℕ) (rs : List Region) (y z : Domain) (t f : ℕ) → z.bypass ≡ y.bypass
    → ((m : Mapping) → mapping_at a y.mappings ≡ Some m → mapping_at a z.mappings ≡ Some m)
    → look_in_domain a rs (Some y) ≡ Leads t f → look_in_domain a rs (Some z) ≡ Leads t f
keep_maps a rs y z t f same more h = grind (arith, nat_tests)

-- what a domain is found to have may grow
abbrev pub Grows : ℕ → List Domain → Domain → ℕ → Type 0
Grows d zs y a = (z : Domain) × (find_domain d zs ≡ Some z) × (z.bypass ≡ y.bypass) × ((m : Mapping) → mapping_at a y.mappings ≡ Some m → mapping_at a z.mappings ≡ Some m)

pub keep_by : (dev new : Dev) (a : ℕ) (rs : List Region) (o : Membership) (t f : ℕ) → new.bypass ≡ dev.bypass
    → ((d : ℕ) (y : Domain) → o ≡ Member d → find_domain d dev.domains ≡ Some y → Grows d new.domains y a)
    → look_by dev a rs o ≡ Leads t f → look_by new a rs o ≡ Leads t f
keep_by dev new a rs Unattached t f same more h = grind (arith, nat_tests, same, h)
keep_by dev new a rs (Member d) t f same more h = go (find_domain d dev.domains) refl h
  where
    go : (x : Option Domain) → find_domain d dev.domains ≡ x → look_in_domain a rs x ≡ Leads t f → look_in_domain a rs (find_domain d new.domains) ≡ Leads t f
    go None e k = absurd cc
    go (Some y) e k =
        let m = more d y refl e in
        ap (look_in_domain a rs) m.1 ∙ keep_maps a rs y m.0 t f m.2 m.3 k

-- the same, of an endpoint that stays where it is
pub keep_endpoint : (dev new : Dev) (a : ℕ) (o : Option Endpoint) (t f : ℕ) → new.bypass ≡ dev.bypass
    → ((x : Endpoint) (d : ℕ) (y : Domain) → o ≡ Some x → x.domain ≡ Member d → find_domain d dev.domains ≡ Some y → Grows d new.domains y a)
    → look_of dev a o ≡ Leads t f → look_of new a o ≡ Leads t f
keep_endpoint dev new a None t f same more h = h
keep_endpoint dev new a (Some x) t f same more h = keep_by dev new a x.regions x.domain t f same (λ d y. more x d y refl) h

-- MAP
pub keep_map : (dev : Dev) (c first last g flags : ℕ) (e a t f : ℕ) → ((y : Domain) → find_domain c dev.domains ≡ Some y → any_mapping_meets (record { first = first; last = last }) y.mappings ≡ false) → look dev e a ≡ Leads t f
    → look (effect dev (Map c first last g flags)) e a ≡ Leads t f
unfolding look
keep_map dev c first last g flags e a t f free h =
    keep_endpoint dev (effect dev (Map c first last g flags)) a (endpoint_of dev e) t f refl (λ x d y ex dx k. go d y k (cases_eq d c)) h
  where
    m : Mapping
    m = record { span = record { first = first; last = last }; target = g; flags = flags }

    go : (d : ℕ) (y : Domain) → find_domain d dev.domains ≡ Some y → (d ≡ c) ⊎ (d ≡ c → ⊥) → Grows d (with_mappings c (with_mapping m) dev.domains) y a
    go d y k (inl same) = (
      record y { mappings = with_mapping m y.mappings },
      subst (λ i. find_domain d (with_mappings i (with_mapping m) dev.domains) ≡ Some (record y { mappings = with_mapping m y.mappings })) same (find_changed d (with_mapping m) y dev.domains k),
      refl,
      λ n i. find_insert a m n y.mappings i (free y (ap (λ j. find_domain j dev.domains) (sym same) ∙ k)),
    )
    go d y k (inr ne) = (y, find_changed_other c d (with_mapping m) dev.domains ne ∙ k, refl, λ n i. i)

-- UNMAP
pub keep_unmap : (dev : Dev) (c first last : ℕ) (e p t f : ℕ) → (endpoint_is_in c (endpoint_of dev e) && meets (record { first = first; last = last }) (page_span p)) ≡ false
    → look dev e (PAGE * p) ≡ Leads t f → look (effect dev (Unmap c first last)) e (PAGE * p) ≡ Leads t f
unfolding look
keep_unmap dev c first last e p t f far h =
    keep_endpoint dev (effect dev (Unmap c first last)) (PAGE * p) (endpoint_of dev e) t f refl (λ x d y ex dx k. go x d y ex dx k (cases_eq d c)) h
  where
    s : Span
    s = record { first = first; last = last }

    go : (x : Endpoint) (d : ℕ) (y : Domain) → endpoint_of dev e ≡ Some x → x.domain ≡ Member d → find_domain d dev.domains ≡ Some y → (d ≡ c) ⊎ (d ≡ c → ⊥) → Grows d (with_mappings c (without_span s) dev.domains) y (PAGE * p)
    go x d y ex dx k (inl same) =
        let there : endpoint_is_in c (endpoint_of dev e) ≡ true = grind (arith, nat_tests) in
        let apart : meets s (page_span p) ≡ false = cc in (
          record y { mappings = without_span s y.mappings },
          subst (λ i. find_domain d (with_mappings i (without_span s) dev.domains) ≡ Some (record y { mappings = without_span s y.mappings })) same (find_changed d (without_span s) y dev.domains k),
          refl,
          λ n i. find_without p s n y.mappings apart i,
        )
    go x d y ex dx k (inr ne) = (y, find_changed_other c d (without_span s) dev.domains ne ∙ k, refl, λ n i. i)

-- ATTACH and DETACH, at each other endpoint
pub keep_moved : (dev : Dev) (x : ℕ) (to : Membership) (zs : List Domain) (e a t f : ℕ) → e ≢ x
    → ((d : ℕ) (y : Domain) → find_domain d dev.domains ≡ Some y → find_domain d zs ≡ Some y)
    → look dev e a ≡ Leads t f
    → look (record dev { endpoints = moved x to dev.endpoints; domains = inhabited (moved x to dev.endpoints) zs }) e a ≡ Leads t f
unfolding look
keep_moved dev x to zs e a t f ne more h =
    ap (look_of new a) (find_moved_other x e to dev.endpoints ne) ∙ keep_endpoint dev new a (endpoint_of dev e) t f refl go h
  where
    new : Dev
    new = record dev { endpoints = moved x to dev.endpoints; domains = inhabited (moved x to dev.endpoints) zs }

    go : (q : Endpoint) (d : ℕ) (y : Domain) → endpoint_of dev e ≡ Some q → q.domain ≡ Member d → find_domain d dev.domains ≡ Some y → Grows d (inhabited (moved x to dev.endpoints) zs) y a
    go q d y eq dq k =
        let here : is_in d q.domain ≡ true = grind (arith, nat_tests) in
        let full : is_inhabited (moved x to dev.endpoints) d ≡ true = find_inhabited e d q (moved x to dev.endpoints) (find_moved_other x e to dev.endpoints ne ∙ eq) here in
        (y, find_kept d (moved x to dev.endpoints) zs full ∙ more d y k, refl, λ m i. i)
