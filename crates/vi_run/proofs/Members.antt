-- The actors of a script: where each of them stands, and what is so of each.
use Rattle.std.proofs.Common.{◌≡◌, ◌<◌, ◌≤◌, ◌+◌, ℕ, zero, suc, Bool, true, false, cond, List, [], ◌∷◌, ◌++◌, length, map, filter, get_or, slice_get, Option, Some, None, refl, sym, ap, ◌∙◌, subst, arith}
use Rattle.std.specs.Prelude.{◌==◌, All, not, nat_eq, nat_lt}
use Rattle.std.specs.List.{range_with_len, position, position_or_len}
use Rattle.std.proofs.lemmas.Bool.{cond-true, eqb-true, lt-ltb}
use Rattle.vi_bytes.specs.declared.region.EndpointSetup.{EndpointSetup}
use Rattle.std.proofs.lemmas.List.{length-append, length-map}
use Rattle.std.proofs.lemmas.List.Elements.{All-nil, All-cons, All-append, All-map, All-filter, All-get_or, All-from_get_or}
use Rattle.std.proofs.lemmas.Option.{none-some, same_Some, slice_get_within, get_or_from_slice_get}
use Rattle.vi_lines.specs.declared.line.Who.{Who}
use Rattle.vi_lines.specs.declared.line.Who.TheVariants as who
use Rattle.vi_lines.specs.Value.{ScriptValue}
use Rattle.vi_model.specs.Control.{driver_count}
use Rattle.vi_model.specs.Places.{ids_of, id_at, place_count, place_in, place_of}
use Rattle.vi_model.specs.Rounds.{has_lines, drivers_of, backs_of, actors}
use Rattle.vi_model.specs.Playable.{IsPlayable}
use Rattle.vi_sound.proofs.Values.Owns.{places_have_ids}
use Rattle.vi_turns.specs.Views.{who_of}

-- ---- standing in a list

-- it stands at some place of the list
pub record StandsAt {A : Type 0} (xs : List A) (x : A) : Type 0 where
  pub place : ℕ
  pub at : slice_get xs place ≡ Some x

module _ {A : Type 0} where
  -- what stands in a list stands in one that has more in front
  stands_later : (y : A) (xs : List A) (x : A) → StandsAt xs x → StandsAt (y ∷ xs) x
  stands_later y xs x s = record { place = suc s.place; at = s.at }

  -- what stands in the first of two lists stands in both together
  stands_left : (xs ys : List A) (x : A) → StandsAt xs x → StandsAt (xs ++ ys) x
  stands_left xs ys x s = record { place = s.place; at = go xs s.place s.at }
    where
      go : (zs : List A) (i : ℕ) → slice_get zs i ≡ Some x → slice_get (zs ++ ys) i ≡ Some x
      go [] i at = absurd (none-some x at)
      go (z ∷ zs) zero at = at
      go (z ∷ zs) (suc i) at = go zs i at

  -- and so does what stands in the second
  stands_right : (xs ys : List A) (x : A) → StandsAt ys x → StandsAt (xs ++ ys) x
  stands_right [] ys x s = s
  stands_right (z ∷ xs) ys x s = stands_later z (xs ++ ys) x (stands_right xs ys x s)

  -- what passes the test stands among those that pass
  stands_filter : (p : A → Bool) (xs : List A) (i : ℕ) (x : A) → p x ≡ true → slice_get xs i ≡ Some x → StandsAt (filter p xs) x
  stands_filter p [] i x pass at = absurd (none-some x at)
  stands_filter p (y ∷ xs) zero x pass at = subst (λ (b : Bool). StandsAt (cond b (y ∷ filter p xs) (filter p xs)) x) (sym (ap p (same_Some y x at) ∙ pass)) (record { place = 0; at = at })
  stands_filter p (y ∷ xs) (suc i) x pass at = go (p y) (stands_filter p xs i x pass at)
    where
      go : (b : Bool) → StandsAt (filter p xs) x → StandsAt (cond b (y ∷ filter p xs) (filter p xs)) x
      go true s = stands_later y (filter p xs) x s
      go false s = s

  -- inside a list something stands
  stands_inside : (xs : List A) (k : ℕ) (d : A) → k < length xs → StandsAt xs (get_or xs k d)
  stands_inside [] k d within = absurd (omega (arith, within))
  stands_inside (x ∷ xs) zero d within = record { place = 0; at = refl }
  stands_inside (x ∷ xs) (suc k) d within = stands_later x xs (get_or xs k d) (stands_inside xs k d (omega (arith, within)))

  -- what is so of all is so of what stands
  pub all_stands : (P : A → Type 0) (xs : List A) (i : ℕ) (x : A) → All P xs → slice_get xs i ≡ Some x → P x
  all_stands P xs i x all at = subst P (get_or_from_slice_get xs i x x at) (All-get_or P xs i x (slice_get_within xs i x at) all)

  -- what is so of each element at its place, and of one more behind them, is so of all
  pub at_push : (P : ℕ → A → Type 0) (xs : List A) (a : A) → ((i : ℕ) (x : A) → slice_get xs i ≡ Some x → P i x) → P (length xs) a
      → (i : ℕ) (x : A) → slice_get (xs ++ a ∷ []) i ≡ Some x → P i x
  at_push P [] a each here zero x at = subst (P 0) (same_Some a x at) here
  at_push P [] a each here (suc i) x at = absurd (none-some x at)
  at_push P (y ∷ ys) a each here zero x at = each zero x at
  at_push P (y ∷ ys) a each here (suc i) x at = at_push (λ n z. P (suc n) z) ys a (λ j z e. each (suc j) z e) here i x at

module _ {A B : Type 0} (f : A → B) where
  -- what stands in a list stands as its image among the images
  stands_map : (xs : List A) (i : ℕ) (x : A) → slice_get xs i ≡ Some x → StandsAt (map f xs) (f x)
  stands_map [] i x at = absurd (none-some x at)
  stands_map (y ∷ xs) zero x at = record { place = 0; at = ap (λ (z : A). Some (f z)) (same_Some y x at) }
  stands_map (y ∷ xs) (suc i) x at = stands_later (f y) (map f xs) (f x) (stands_map xs i x at)

-- a number stands in the range that holds it
stands_range : (a n k : ℕ) → k < n → StandsAt (range_with_len a n) (a + k)
stands_range a zero k below = absurd (omega (arith, below))
stands_range a (suc n) zero below = record { place = 0; at = ap (λ (m : ℕ). Some m) (omega arith) }
stands_range a (suc n) (suc k) below =
    let e : a + 1 + k ≡ a + suc k = omega arith in
    subst (λ (m : ℕ). StandsAt (a ∷ range_with_len (a + 1) n) m) e (stands_later a (range_with_len (a + 1) n) (a + 1 + k) (stands_range (a + 1) n k (omega (arith, below))))

-- ---- the actors

-- a driver that has lines is an actor
pub driver_stands : (s : ScriptValue) (number : ℕ) → number < driver_count → has_lines s number ≡ true → StandsAt (actors s) (who.Driver number)
unfolding actors
driver_stands s number below lines =
    let inside : StandsAt (range_with_len 0 driver_count) number = subst (λ (m : ℕ). StandsAt (range_with_len 0 driver_count) m) (omega arith) (stands_range 0 driver_count number below) in
    let kept = stands_filter (has_lines s) (range_with_len 0 driver_count) inside.place number lines inside.at in
    stands_left (drivers_of s) (backs_of s ++ who.Device ∷ cond s.setup.events (who.Events ∷ []) []) (who.Driver number)
    (stands_map (λ (n : ℕ). who.Driver n) (filter (has_lines s) (range_with_len 0 driver_count)) kept.place number kept.at)

-- and so is the back end of each place
pub back_stands : (s : ScriptValue) (place : ℕ) → place < place_count s → StandsAt (actors s) (who.Back (id_at s place))
unfolding actors
back_stands s place below =
    let inside = stands_inside (ids_of s) place 0 below in
    stands_right (drivers_of s) (backs_of s ++ who.Device ∷ cond s.setup.events (who.Events ∷ []) []) (who.Back (id_at s place))
    (stands_left (backs_of s) (who.Device ∷ cond s.setup.events (who.Events ∷ []) []) (who.Back (id_at s place))
    (stands_map (λ (id : ℕ). who.Back id) (ids_of s) inside.place (id_at s place) inside.at))

-- an actor: a driver below 8, or a back end that has a place
abbrev pub IsPlayer : ScriptValue → Who → Type 0
IsPlayer s (who.Driver number) = number < driver_count
IsPlayer s (who.Back id) = place_of s id < place_count s
IsPlayer s who.Device = Unit {0}
IsPlayer s who.Events = Unit {0}

range_below : (a n : ℕ) → All (λ k. k < a + n) (range_with_len a n)
range_below a zero = All-nil (λ k. k < a + 0)
range_below a (suc n) = All-cons (λ k. k < a + suc n) a (range_with_len (a + 1) n) (omega arith) (subst (λ (m : ℕ). All (λ k. k < m) (range_with_len (a + 1) n)) (omega arith) (range_below (a + 1) n))

players : (s : ScriptValue) → IsPlayable s → All (IsPlayer s) (actors s)
unfolding actors
players s play =
    All-append (IsPlayer s) (drivers_of s) (backs_of s ++ who.Device ∷ events s.setup.events)
    (All-map (IsPlayer s) (λ (n : ℕ). who.Driver n) (filter (has_lines s) (range_with_len 0 driver_count))
    (All-filter (has_lines s) (λ n. n < driver_count) (range_with_len 0 driver_count) (range_below 0 driver_count)))
    (All-append (IsPlayer s) (backs_of s) (who.Device ∷ events s.setup.events)
    (All-map (IsPlayer s) (λ (id : ℕ). who.Back id) (ids_of s)
    (All-from_get_or (λ id. place_of s id < place_count s) (ids_of s) 0 (λ k lt. let e = places_have_ids s k play lt in omega (arith, e, lt))))
    (All-cons (IsPlayer s) who.Device (events s.setup.events) tt (reader s.setup.events)))
  where
    events : Bool → List Who
    events b = cond b (who.Events ∷ []) []

    reader : (b : Bool) → All (IsPlayer s) (events b)
    reader true = All-cons (IsPlayer s) who.Events [] tt (All-nil (IsPlayer s))
    reader false = All-nil (IsPlayer s)

-- whoever a pass acts for is such an actor
pub is_player : (s : ScriptValue) (number : ℕ) (w : Who) → IsPlayable s → who_of s number ≡ Some w → IsPlayer s w
is_player s zero w play is = absurd (none-some w is)
is_player s (suc i) w play is = all_stands (IsPlayer s) (actors s) i w (players s play) is

-- ---- places

-- the place of an id is the first at which an endpoint has it, or their number
placed_len : (es : List EndpointSetup) (id : ℕ) → place_in (map (λ (e : EndpointSetup). e.id) es) id ≡ position_or_len (λ (e : EndpointSetup). nat_eq e.id id) es
placed_len [] id = refl
placed_len (e ∷ es) id = go (nat_eq e.id id) (placed_len es id)
  where
    go : (f : Bool) → place_in (map (λ (x : EndpointSetup). x.id) es) id ≡ position_or_len (λ (x : EndpointSetup). nat_eq x.id id) es
        → cond f zero (suc (place_in (map (λ (x : EndpointSetup). x.id) es) id)) ≡ cond (not f) (1 + position_or_len (λ (x : EndpointSetup). nat_eq x.id id) es) zero
    go true ih = refl
    go false ih = omega (arith, ih)

-- where some endpoint has the id, it is at the id's place
pub position_is : (s : ScriptValue) (id : ℕ) → place_of s id < place_count s → position (λ (e : EndpointSetup). nat_eq e.id id) s.setup.endpoints ≡ Some (place_of s id)
position_is s id below =
    let first : ℕ = position_or_len (λ (e : EndpointSetup). nat_eq e.id id) s.setup.endpoints in
    let is : place_of s id ≡ first = placed_len s.setup.endpoints id in
    let count = length-map s.setup.endpoints (λ (e : EndpointSetup). e.id) in
    cond-true (nat_lt first (length s.setup.endpoints)) (Some first) None (lt-ltb first (length s.setup.endpoints) (omega (arith, is, below, count)))
    ∙ ap (λ (n : ℕ). Some n) (sym is)

found_id : (ids : List ℕ) (id : ℕ) → place_in ids id < length ids → get_or ids (place_in ids id) 0 ≡ id
found_id [] id below = absurd (omega (arith, below))
found_id (i ∷ ids) id below = go (i == id) refl below (found_id ids id)
  where
    go : (b : Bool) → (i == id) ≡ b → cond b 0 (suc (place_in ids id)) < suc (length ids) → (place_in ids id < length ids → get_or ids (place_in ids id) 0 ≡ id)
        → get_or (i ∷ ids) (cond b 0 (suc (place_in ids id))) 0 ≡ id
    go true e lt more = eqb-true i id e
    go false e lt more = more (omega (arith, lt))

-- the endpoint at an id's place has the id
pub id_at_place : (s : ScriptValue) (id : ℕ) → place_of s id < place_count s → id_at s (place_of s id) ≡ id
id_at_place s id below = found_id (ids_of s) id below

-- there are at most 16 places
pub few_places : (s : ScriptValue) → IsPlayable s → place_count s ≤ 16
few_places s play = let ids = length-map s.setup.endpoints (λ (e : EndpointSetup). e.id) in let few = play.valid.setup_valid.few in omega (arith, ids, few)

-- the place of an actor in the round, and the number of its pass
pub who_at : (s : ScriptValue) (i : ℕ) → who_of s (i + 1) ≡ slice_get (actors s) i
who_at s i = ap (who_of s) next
  where
    next : i + 1 ≡ suc i
    next = omega arith

-- ---- how many there are

length_filter : {A : Type 0} (p : A → Bool) (xs : List A) → length (filter p xs) ≤ length xs
length_filter p [] = omega arith
length_filter {A} p (x ∷ xs) = go (p x) (length_filter p xs)
  where
    go : (b : Bool) → length (filter p xs) ≤ length xs → length (cond b (x ∷ filter p xs) (filter p xs)) ≤ suc (length xs)
    go true le = omega (arith, le)
    go false le = omega (arith, le)

-- there are at most 26 actors
pub few_actors : (s : ScriptValue) → IsPlayable s → length (actors s) ≤ 26
unfolding actors
few_actors s play =
    let all = length-append (drivers_of s) (backs_of s ++ who.Device ∷ events s.setup.events) in
    let others = length-append (backs_of s) (who.Device ∷ events s.setup.events) in
    let drivers = length-map (filter (has_lines s) (range_with_len 0 driver_count)) (λ (n : ℕ). who.Driver n) in
    let kept = length_filter (has_lines s) (range_with_len 0 driver_count) in
    let backs = length-map (ids_of s) (λ (id : ℕ). who.Back id) in
    let ids = length-map s.setup.endpoints (λ e. e.id) in
    let few = play.valid.setup_valid.few in
    let reader = one s.setup.events in
    omega (arith, all, others, drivers, kept, backs, ids, few, reader)
  where
    events : Bool → List Who
    events b = cond b (who.Events ∷ []) []

    one : (b : Bool) → length (events b) ≤ 1
    one true = omega arith
    one false = omega arith
