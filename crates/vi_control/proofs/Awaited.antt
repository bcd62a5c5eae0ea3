-- Whom a call that starts waits for.
use Rattle.std.proofs.Common.{◌≡◌, ℕ, zero, suc, ◌+◌, ◌<◌, ◌≤◌, ◌^◌, Bool, true, false, cond, not, ◌&&◌, ◌||◌, eqb, nat_lt, List, [], ◌∷◌, length, map, get_or, take, drop, Option, Some, None, is_some, All, refl, sym, ap, ◌∙◌, arith}
use Rattle.std.specs.List.{list_any, list_all, range_with_len, position_or_len}
use Rattle.std.specs.Prelude.{find}
use Rattle.std.proofs.lemmas.List.{get_or-take, take-append-drop}
use Rattle.std.proofs.lemmas.List.Folds.{list_all-append}
use Rattle.std.proofs.lemmas.List.FromFn.{fill_by_all, length-map-range_with_len}
use Rattle.std.proofs.lemmas.List.Elements.{All-head, All-tail}
use Rattle.vi_bytes.specs.Spans.{IsProper}
use Rattle.vi_bytes.specs.declared.region.Membership.TheVariants.{Unattached}
use Rattle.vi_history.specs.Device.{Dev, Endpoint, endpoint_of, is_in}
use Rattle.vi_history.specs.Effects.{endpoint_is_in}
use Rattle.vi_history.specs.Statuses.{status, attach_of}
use Rattle.vi_history.specs.declared.status.TheConstants.{OK, INVAL}
use Rattle.vi_history.specs.declared.request.Request.TheVariants.{Attach}
use Rattle.vi_grants.specs.Rows.{GrantRow, IsRow, row_at, is_met}
use Rattle.vi_model.specs.declared.task.Task.{Task}
use Rattle.vi_model.specs.Tasks.{removes, closes, reach_of, reaches}
use Rattle.vi_model.specs.Starts.{any}
use Rattle.vi_shoot.specs.declared.waiting.Waiting.{Waiting}
use Rattle.vi_removals.specs.Value.{addresses_of}
use Rattle.vi_removals.specs.Takings.{has_id, place_in}
use Rattle.vi_control.specs.Inner.{HasPages}
use Rattle.vi_control.specs.Awaits.{stands_in_way, awaited_in, must_begin, HasFlags}
use Rattle.std.proofs.lemmas.Bool.{and_parts}
use Rattle.vi_control.proofs.Reaching.{must_wait-met}

-- the endpoint with an id is the one at the id's place
module _ (domain id : ℕ) where
  member-there : (xs : List Endpoint) → is_in domain (get_or (map (λ x. x.domain) xs) (position_or_len (λ n. eqb n id) (map (λ x. x.id) xs)) Unattached) ≡ endpoint_is_in domain (find (λ x. eqb x.id id) xs)
  member-there [] = refl
  member-there (x ∷ xs) = go (eqb x.id id) (member-there xs)
    where
      go : (b : Bool) → is_in domain (get_or (map (λ x. x.domain) xs) (position_or_len (λ n. eqb n id) (map (λ x. x.id) xs)) Unattached) ≡ endpoint_is_in domain (find (λ x. eqb x.id id) xs)
          → is_in domain (get_or (x.domain ∷ map (λ x. x.domain) xs) (cond (not b) (1 + position_or_len (λ n. eqb n id) (map (λ x. x.id) xs)) 0) Unattached) ≡ endpoint_is_in domain (cond b (Some x) (find (λ x. eqb x.id id) xs))
      go true rest = refl
      go false rest =
          let place = position_or_len (λ n. eqb n id) (map (λ x. x.id) xs) in
          let on : 1 + place ≡ suc place = omega arith in
          rw on rest

  place-is : (ids : List ℕ) (place : ℕ) → Some place ≡ place_in ids id → place ≡ position_or_len (λ n. eqb n id) ids
  place-is ids place is = go (nat_lt (position_or_len (λ n. eqb n id) ids) (length ids)) is
    where
      go : (b : Bool) → Some place ≡ cond b (Some (position_or_len (λ n. eqb n id) ids)) None → place ≡ position_or_len (λ n. eqb n id) ids
      go true is = cc
      go false is = absurd (cc)

  pub member-at : (dev : Dev) (ids : List ℕ) (place : ℕ) → map (λ x. x.id) dev.endpoints ≡ ids → Some place ≡ place_in ids id
      → is_in domain (get_or (map (λ x. x.domain) dev.endpoints) place Unattached) ≡ endpoint_is_in domain (endpoint_of dev id)
  member-at dev ids place same is =
      let at : place ≡ position_or_len (λ n. eqb n id) (map (λ x. x.id) dev.endpoints) = rw same (place-is ids place is) in
      rw at (member-there dev.endpoints)

-- an ATTACH whose status is OK names an endpoint that there is
has_id-endpoint : (id : ℕ) (xs : List Endpoint) → is_some (find (λ x. eqb x.id id) xs) ≡ has_id id (map (λ x. x.id) xs)
has_id-endpoint id [] = refl
has_id-endpoint id (x ∷ xs) = go (eqb x.id id) (has_id-endpoint id xs)
  where
    go : (b : Bool) → is_some (find (λ x. eqb x.id id) xs) ≡ has_id id (map (λ x. x.id) xs) → is_some (cond b (Some x) (find (λ x. eqb x.id id) xs)) ≡ (b || has_id id (map (λ x. x.id) xs))
    go true rest = refl
    go false rest = rest

attached-known : (dev : Dev) (domain flags : ℕ) (o : Option Endpoint) (b : Bool) → cond b (attach_of dev domain (eqb flags 1) o) INVAL ≡ OK → is_some o ≡ true
attached-known dev domain flags None true ok = absurd (cc)
attached-known dev domain flags None false ok = absurd (cc)
attached-known dev domain flags (Some x) b ok = refl

pub accepted-known : (dev : Dev) (domain endpoint flags : ℕ) → status dev (Attach domain endpoint flags) ≡ OK → has_id endpoint (map (λ x. x.id) dev.endpoints) ≡ true
unfolding status
accepted-known dev domain endpoint flags ok = sym (has_id-endpoint endpoint dev.endpoints) ∙ attached-known dev domain flags (endpoint_of dev endpoint) (nat_lt flags 2) ok

-- what holds of each row holds of the one at a place
All-at : (P : GrantRow → Type 0) (rows : List GrantRow) (place : ℕ) → place < length rows → All P rows → P (row_at rows place)
All-at P [] place lt each = absurd (omega (arith, lt))
All-at P (r ∷ rows) zero lt each = All-head P r rows each
All-at P (r ∷ rows) (suc k) lt each = All-at P rows k (omega (arith, lt)) (All-tail P r rows each)

-- who stands in the way
pub in_way-met : (dev : Dev) (ids : List ℕ) (rows : List GrantRow) (task : Task) (place : ℕ) (takes : Bool) → IsProper (addresses_of (reach_of task)) → place < length rows → All IsRow rows → All HasPages rows
    → ((page : ℕ) → page < 2 ^ 52 → closes dev task (get_or ids place 0) page ≡ (takes && reaches (reach_of task) page))
    → stands_in_way dev ids rows task place ≡ (takes && list_any (is_met (addresses_of (reach_of task))) (row_at rows place).grants)
in_way-met dev ids rows task place takes proper lt each pages closing =
    let row : IsRow (row_at rows place) = All-at IsRow rows place lt each in
    must_wait-met dev task (get_or ids place 0) takes proper closing (row_at rows place).grants row.grants_each (All-at HasPages rows place lt pages)

-- flags that are written place by place
none-all : (xs : List Bool) → ((k : ℕ) → get_or xs k false ≡ false) → list_all not xs ≡ true
none-all [] none = refl
none-all (x ∷ xs) none = rw (none 0) (none-all xs (λ k. none (suc k)))

beyond-all : (n : ℕ) (xs : List Bool) → ((k : ℕ) → n ≤ k → get_or xs k false ≡ false) → list_all not (drop n xs) ≡ true
beyond-all zero xs none = none-all xs (λ k. none k (omega arith))
beyond-all (suc n) [] none = refl
beyond-all (suc n) (x ∷ xs) none = beyond-all n xs (λ k le. none (suc k) (omega (arith, le)))

length-take : (n : ℕ) (xs : List Bool) → n ≤ length xs → length (take n xs) ≡ n
length-take zero xs le = refl
length-take (suc n) [] le = absurd (omega (arith, le))
length-take (suc n) (x ∷ xs) le = ap suc (length-take n xs (omega (arith, le)))

pub flags-filled : (f : ℕ → Bool) (n : ℕ) (xs : List Bool) → n ≤ length xs → ((k : ℕ) → k < n → get_or xs k false ≡ f k) → ((k : ℕ) → n ≤ k → get_or xs k false ≡ false)
    → HasFlags (record { 0 = xs }) (map f (range_with_len 0 n))
flags-filled f n xs le told none =
    let long : length (map f (range_with_len 0 n)) ≡ n = length-map-range_with_len f 0 n in
    record {
      first = rw long (fill_by_all f (take n xs) n false (length-take n xs le) (λ k lt. get_or-take n xs k false lt ∙ told k lt));
      others = rw long (beyond-all n xs none);
    }

-- somebody is waited for
any-all : (bs : List Bool) → any bs ≡ not (list_all not bs)
any-all [] = refl
any-all (true ∷ bs) = refl
any-all (false ∷ bs) = any-all bs

and-true : (b : Bool) → (b && true) ≡ b
and-true true = refl
and-true false = refl

pub somebody : (waits : Waiting) (flags : List Bool) → HasFlags waits flags → any flags ≡ not (list_all not waits.0)
somebody waits flags has =
    let whole : list_all not waits.0 ≡ list_all not flags =
    ap (list_all not) (sym (take-append-drop (length flags) waits.0)) ∙ list_all-append not (take (length flags) waits.0) (drop (length flags) waits.0)
    ∙ (rw (has.first, has.others) (and-true (list_all not flags))) in
    rw whole (any-all flags)

pub must-somebody : (dev : Dev) (ids : List ℕ) (rows : List GrantRow) (task : Task) (waits : Waiting) → must_begin dev ids rows task ≡ true → HasFlags waits (awaited_in dev ids rows task)
    → list_all not (take (length ids) waits.0) ≡ false
must-somebody dev ids rows task waits begins has =
    let flags : List Bool = awaited_in dev ids rows task in
    let long : length flags ≡ length ids = length-map-range_with_len (stands_in_way dev ids rows task) 0 (length ids) in
    let some : any flags ≡ true = (and_parts (removes dev task) (any flags) begins).1 in
    let nobody : not (list_all not flags) ≡ true = sym (any-all flags) ∙ some in
    rw (← long, has.first) (opposite (list_all not flags) nobody)
  where
    opposite : (b : Bool) → not b ≡ true → b ≡ false
    opposite true e = absurd (cc)
    opposite false e = refl

pub flags-first : (dev : Dev) (ids : List ℕ) (rows : List GrantRow) (task : Task) (waits : Waiting) → HasFlags waits (awaited_in dev ids rows task) → take (length ids) waits.0 ≡ awaited_in dev ids rows task
flags-first dev ids rows task waits has =
    let long : length (awaited_in dev ids rows task) ≡ length ids = length-map-range_with_len (stands_in_way dev ids rows task) 0 (length ids) in
    ap (λ n. take n waits.0) (sym long) ∙ has.first

pub flags-others : (dev : Dev) (ids : List ℕ) (rows : List GrantRow) (task : Task) (waits : Waiting) → HasFlags waits (awaited_in dev ids rows task) → list_all not (drop (length ids) waits.0) ≡ true
flags-others dev ids rows task waits has =
    let long : length (awaited_in dev ids rows task) ≡ length ids = length-map-range_with_len (stands_in_way dev ids rows task) 0 (length ids) in
    ap (λ n. list_all not (drop n waits.0)) (sym long) ∙ has.others
