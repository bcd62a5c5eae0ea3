-- The endpoints, each from its seat and the regions at its place.
use Rattle.std.proofs.Common.{◌≡◌, ◌==◌, ℕ, ◌*◌, ◌≤◌, ◌<◌, zero, suc, true, false, List, [], ◌∷◌, length, map, get_or, All, Some, refl, ap, sym, ◌∙◌, cond, subst, arith}
use Rattle.std.proofs.Math.ListN.{get_or-map}
use Rattle.std.proofs.lemmas.List.{length-map}
use Rattle.std.proofs.lemmas.List.Elements.{All-map}
use Rattle.std.specs.List.{find}
use Rattle.vi_bytes.specs.declared.span.TheConstants.{PAGE}
use Rattle.vi_bytes.specs.declared.region.EndpointSetup.{EndpointSetup}
use Rattle.vi_bytes.specs.declared.region.Membership.{Membership}
use Rattle.vi_bytes.specs.declared.region.Region.{Region}
use Rattle.vi_history.specs.Device.{Dev, Endpoint}
use Rattle.vi_history.specs.Effects.{moved, moved_if}
use Rattle.vi_history.specs.Runs.{mapping_through, mapping_by}
use Rattle.vi_history.specs.Start.{unattached}
use Rattle.vi_history.specs.Translation.{look, look_by}
use Rattle.vi_reserved.specs.Regions.{regions_of, regions_at}
use Rattle.vi_device.specs.Seated.{endpoint_seen, endpoints_seen, AreSeated, nobody, endpoint_at, unattached_seat, seat_moved_if}
use Rattle.vi_device.specs.Values.{AreDistinct, AreRegions, id_at}
use Rattle.vi_device.proofs.DistinctLemmas.{found_at}
use Rattle.vi_device.specs.declared.seat.Seat.{Seat}

-- what is seen of seats and regions
pub length-endpoints_seen : (seats : List Seat) (reserved : List (List Region)) → length reserved ≡ length seats → length (endpoints_seen seats reserved) ≡ length seats
length-endpoints_seen [] reserved each = refl
length-endpoints_seen (s ∷ ss) [] each = absurd (omega arith)
length-endpoints_seen (s ∷ ss) (r ∷ rs) each = ap suc (length-endpoints_seen ss rs (omega arith))

pub ids-endpoints_seen : (seats : List Seat) (reserved : List (List Region)) → length reserved ≡ length seats → map (λ x. x.id) (endpoints_seen seats reserved) ≡ map (λ s. s.id) seats
ids-endpoints_seen [] reserved each = refl
ids-endpoints_seen (s ∷ ss) [] each = absurd (omega arith)
ids-endpoints_seen (s ∷ ss) (r ∷ rs) each = ap (λ ids. s.id ∷ ids) (ids-endpoints_seen ss rs (omega arith))

pub endpoint_at-seen : (seats : List Seat) (reserved : List (List Region)) (place : ℕ) (s : Seat) → length reserved ≡ length seats → place < length seats → s ≡ get_or seats place s
    → endpoint_at (endpoints_seen seats reserved) place ≡ record { id = s.id; regions = regions_at reserved place; domain = s.domain }
endpoint_at-seen [] reserved place s each within at = absurd (omega arith)
endpoint_at-seen (t ∷ ts) [] place s each within at = absurd (omega arith)
endpoint_at-seen (t ∷ ts) (r ∷ rs) zero s each within at = rw at refl
endpoint_at-seen (t ∷ ts) (r ∷ rs) (suc place) s each within at = endpoint_at-seen ts rs place s (omega arith) (omega arith) at

regions-seen : (seats : List Seat) (reserved : List (List Region)) (place : ℕ) → length reserved ≡ length seats → (endpoint_at (endpoints_seen seats reserved) place).regions ≡ regions_at reserved place
regions-seen [] [] place each = refl
regions-seen [] (r ∷ rs) place each = absurd (omega arith)
regions-seen (t ∷ ts) [] place each = absurd (omega arith)
regions-seen (t ∷ ts) (r ∷ rs) zero each = refl
regions-seen (t ∷ ts) (r ∷ rs) (suc place) each = regions-seen ts rs place (omega arith)

pub endpoints_seen-unattached : (es : List EndpointSetup) → endpoints_seen (map (λ e. unattached_seat e) es) (regions_of es) ≡ map (λ e. unattached e) es
endpoints_seen-unattached [] = refl
endpoints_seen-unattached (e ∷ es) = ap (λ xs. unattached e ∷ xs) (endpoints_seen-unattached es)

pub endpoints_seen-moved : (id : ℕ) (m : Membership) (seats : List Seat) (reserved : List (List Region)) → endpoints_seen (map (seat_moved_if id m) seats) reserved ≡ moved id m (endpoints_seen seats reserved)
endpoints_seen-moved id m [] reserved = refl
endpoints_seen-moved id m (s ∷ ss) [] = refl
endpoints_seen-moved id m (s ∷ ss) (r ∷ rs) =
    let rest = endpoints_seen-moved id m ss rs in
    let here : endpoint_seen (seat_moved_if id m s, r) ≡ moved_if id m (endpoint_seen (s, r)) = elim (s.id == id) as (λ b. endpoint_seen (cond b (record s { domain = m }) s, r) ≡ cond b (record { id = s.id; regions = r; domain = m }) (endpoint_seen (s, r))) [ true ↦ refl | false ↦ refl ] in
    ap (λ x. x ∷ endpoints_seen (map (seat_moved_if id m) ss) rs) here ∙ ap (λ xs. moved_if id m (endpoint_seen (s, r)) ∷ xs) rest

-- what is kept at first, and once an endpoint has moved
pub seated_first : (es : List EndpointSetup) → length es ≤ 16 → AreDistinct (map (λ e. e.id) es) → All (λ e. AreRegions e.regions) es → AreSeated (map (λ e. unattached_seat e) es) (regions_of es)
seated_first es few distinct regions = record {
  few = omega (arith, few, length-map es (λ e. unattached_seat e));
  distinct = subst AreDistinct (ids es) distinct;
  each = length-map es (λ e. e.regions) ∙ sym (length-map es (λ e. unattached_seat e));
  regions = All-map AreRegions (λ e. e.regions) es regions;
}
  where
    ids : (es : List EndpointSetup) → map (λ e. e.id) es ≡ map (λ s. s.id) (map (λ e. unattached_seat e) es)
    ids [] = refl
    ids (e ∷ es) = ap (λ is. e.id ∷ is) (ids es)

pub seated_moved : {seats : List Seat} {reserved : List (List Region)} (id : ℕ) (m : Membership) → AreSeated seats reserved → AreSeated (map (seat_moved_if id m) seats) reserved
seated_moved {seats} {reserved} id m seated =
    let count = length-map seats (seat_moved_if id m) in
    record {
      few = omega (arith, count, seated.few);
      distinct = subst AreDistinct (sym (ids seats)) seated.distinct;
      each = seated.each ∙ sym count;
      regions = seated.regions;
    }
  where
    ids : (ss : List Seat) → map (λ s. s.id) (map (seat_moved_if id m) ss) ≡ map (λ s. s.id) ss
    ids [] = refl
    ids (s ∷ ss) = ap (λ i. i ∷ map (λ s. s.id) (map (seat_moved_if id m) ss)) (elim (s.id == id) as (λ b. (cond b (record s { domain = m }) s).id ≡ s.id) [ true ↦ refl | false ↦ refl ]) ∙ ap (λ is. s.id ∷ is) (ids ss)

-- the same, by what a device's endpoints are seen as
pub length_of_seen : {seats : List Seat} {reserved : List (List Region)} {es : List Endpoint} → AreSeated seats reserved → endpoints_seen seats reserved ≡ es → length es ≡ length seats
length_of_seen {seats} {reserved} seated seen = ap length (sym seen) ∙ length-endpoints_seen seats reserved seated.each

pub seat_within : {seats : List Seat} {reserved : List (List Region)} {es : List Endpoint} {place : ℕ} → AreSeated seats reserved → endpoints_seen seats reserved ≡ es → place < length es → place < length seats
seat_within seated seen within = let count = length_of_seen seated seen in omega (arith, count, within)

pub regions_within : {seats : List Seat} {reserved : List (List Region)} {es : List Endpoint} {place : ℕ} → AreSeated seats reserved → endpoints_seen seats reserved ≡ es → place < length es → place < length reserved
regions_within seated seen within = let count = length_of_seen seated seen in omega (arith, count, within, seated.each)

pub seat_there : {seats : List Seat} {reserved : List (List Region)} {es : List Endpoint} {place : ℕ} {s : Seat} → AreSeated seats reserved → endpoints_seen seats reserved ≡ es → place < length es → s ≡ get_or seats place s
    → endpoint_at es place ≡ record { id = s.id; regions = regions_at reserved place; domain = s.domain }
seat_there {seats} {reserved} {es} {place} {s} seated seen within at = ap (λ xs. endpoint_at xs place) (sym seen) ∙ endpoint_at-seen seats reserved place s seated.each (seat_within seated seen within) at

pub regions_there : {seats : List Seat} {reserved : List (List Region)} {es : List Endpoint} (place : ℕ) → AreSeated seats reserved → endpoints_seen seats reserved ≡ es → (endpoint_at es place).regions ≡ regions_at reserved place
regions_there {seats} {reserved} place seated seen =
    ap (λ xs. (endpoint_at xs place).regions) (sym seen) ∙ regions-seen seats reserved place seated.each

-- the one of an endpoint's id is itself
abbrev pub IsOwn : List Endpoint → ℕ → Type 0
IsOwn es place = find (λ x. x.id == (endpoint_at es place).id) es ≡ Some (endpoint_at es place)

pub own_id : {seats : List Seat} {reserved : List (List Region)} {es : List Endpoint} {place : ℕ} → AreSeated seats reserved → endpoints_seen seats reserved ≡ es → place < length es → IsOwn es place
own_id {seats} {reserved} {es} {place} seated seen within =
    let ids : map (λ x. x.id) es ≡ map (λ s. s.id) seats = ap (map (λ x. x.id)) (sym seen) ∙ ids-endpoints_seen seats reserved seated.each in
    found_at (λ x. x.id) es place nobody (subst AreDistinct (sym ids) seated.distinct) within

-- what is found for the endpoint at a place
id_at-endpoint_at : (dev : Dev) (place : ℕ) → id_at dev place ≡ (endpoint_at dev.endpoints place).id
id_at-endpoint_at dev place = get_or-map (λ x. x.id) dev.endpoints place nobody

pub look_at : (dev : Dev) (place address : ℕ) → IsOwn dev.endpoints place → look dev (id_at dev place) address ≡ look_by dev address (endpoint_at dev.endpoints place).regions (endpoint_at dev.endpoints place).domain
unfolding look
look_at dev place address own = rw (id_at-endpoint_at dev place, own) refl

pub mapping_through_at : (dev : Dev) (place page : ℕ) → IsOwn dev.endpoints place → mapping_through dev (id_at dev place) page ≡ mapping_by dev (PAGE * page) (endpoint_at dev.endpoints place).domain
mapping_through_at dev place page own = rw (id_at-endpoint_at dev place, own) refl
