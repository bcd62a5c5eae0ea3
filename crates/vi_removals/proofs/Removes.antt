-- A task that takes translations away names an endpoint that there is, or a range with an address.
use Rattle.std.proofs.Common.{◌≡◌, ℕ, ◌≤◌, Bool, true, false, not, cond, ◌||◌, eqb, nat_lt, List, [], ◌∷◌, Option, Some, None, is_some, map, find, refl, sym, ◌∙◌, arith}
use Rattle.std.proofs.lemmas.Bool.{and_parts}
use Rattle.std.proofs.lemmas.Bool.Decides.{nat_tests}
use Rattle.vi_bytes.specs.declared.span.Span.{Span}
use Rattle.vi_history.specs.Device.{Dev, Domain, Endpoint, domain_of, endpoint_of}
use Rattle.vi_history.specs.Effects.{endpoint_is_in}
use Rattle.vi_history.specs.Statuses.{status, attach_of, attach_status, detach_status, unmap_status, any_mapping_is_cut}
use Rattle.vi_history.specs.declared.status.TheConstants.{OK, INVAL, RANGE}
use Rattle.vi_history.specs.declared.reading.Reading.TheVariants.{Silent, Malformed, Asks}
use Rattle.vi_history.specs.declared.request.Request.TheVariants.{Attach, Detach, Map, Unmap, Probe}
use Rattle.vi_model.specs.declared.task.Task.{Task}
use Rattle.vi_model.specs.declared.task.Task.TheVariants.{Reads, Sets}
use Rattle.vi_model.specs.Tasks.{removes}
use Rattle.vi_removals.specs.Takings.{has_id, IsTaking}

has_id-endpoint : (id : ℕ) (xs : List Endpoint) → is_some (find (λ x. eqb x.id id) xs) ≡ has_id id (map (λ x. x.id) xs)
has_id-endpoint id [] = refl
has_id-endpoint id (x ∷ xs) = go (eqb x.id id) (has_id-endpoint id xs)
  where
    go : (b : Bool) → is_some (find (λ x. eqb x.id id) xs) ≡ has_id id (map (λ x. x.id) xs) → is_some (cond b (Some x) (find (λ x. eqb x.id id) xs)) ≡ (b || has_id id (map (λ x. x.id) xs))
    go true rest = refl
    go false rest = rest

attached-known : (dev : Dev) (domain flags : ℕ) (o : Option Endpoint) (b : Bool) → eqb (cond b (attach_of dev domain (eqb flags 1) o) INVAL) OK ≡ true → is_some o ≡ true
attached-known dev domain flags None true ok = absurd (cc)
attached-known dev domain flags None false ok = absurd (cc)
attached-known dev domain flags (Some x) b ok = refl

detached-known : (domain : ℕ) (o : Option Endpoint) → eqb (detach_status domain o) OK ≡ true → is_some o ≡ true
detached-known domain None ok = absurd (cc)
detached-known domain (Some x) ok = refl

unmapped-range : (span : Span) (o : Option Domain) → eqb (unmap_status span o) OK ≡ true → span.first ≤ span.last
unmapped-range span None ok = absurd (cc)
unmapped-range span (Some y) ok = go y.bypass (nat_lt span.last span.first) refl ok
  where
    go : (a b : Bool) → nat_lt span.last span.first ≡ b → eqb (cond a INVAL (cond b INVAL (cond (any_mapping_is_cut span y.mappings) RANGE OK))) OK ≡ true → span.first ≤ span.last
    go true b e ok = absurd (cc)
    go false true e ok = absurd (cc)
    go false false e ok = grind (arith, nat_tests)

sets-off : (on : Bool) → not on ≡ true → on ≡ false
sets-off true off = absurd (cc)
sets-off false off = refl

pub removes-takes : (dev : Dev) (t : Task) → removes dev t ≡ true → IsTaking (map (λ x. x.id) dev.endpoints) t
unfolding removes status
removes-takes dev (Reads Silent) h = absurd (cc)
removes-takes dev (Reads (Malformed probe)) h = absurd (cc)
removes-takes dev (Reads (Asks (Attach domain endpoint flags))) h =
    let ok = (and_parts (eqb (attach_status dev domain endpoint flags) OK) (not (endpoint_is_in domain (endpoint_of dev endpoint))) h).0 in
    sym (has_id-endpoint endpoint dev.endpoints) ∙ attached-known dev domain flags (endpoint_of dev endpoint) (nat_lt flags 2) ok
removes-takes dev (Reads (Asks (Detach domain endpoint))) h = sym (has_id-endpoint endpoint dev.endpoints) ∙ detached-known domain (endpoint_of dev endpoint) h
removes-takes dev (Reads (Asks (Map domain first last target flags))) h = absurd (cc)
removes-takes dev (Reads (Asks (Unmap domain first last))) h = unmapped-range (record { first = first; last = last }) (domain_of dev domain) h
removes-takes dev (Reads (Asks (Probe endpoint))) h = absurd (cc)
removes-takes dev (Sets on) h = sets-off on h
