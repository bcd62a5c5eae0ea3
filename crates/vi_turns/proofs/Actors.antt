-- The actors of passes: each pass has one of its own, and a turn of one keeps what the others have.
use Rattle.std.proofs.Common.{◌≡◌, ◌≢◌, ℕ, zero, suc, ◌+◌, ◌<◌, ◌≤◌, Bool, true, false, cond, List, [], ◌∷◌, ◌++◌, length, map, filter, set, get_or, slice_get, Option, Some, None, refl, sym, subst, ap, ◌∙◌, arith}
use Rattle.std.specs.List.{range_with_len}
use Rattle.std.proofs.lemmas.Bool.{ne_eqb}
use Rattle.std.proofs.lemmas.List.{append-nil, length-append, set-get_or}
use Rattle.std.proofs.lemmas.Option.{none-some, same_Some}
use Rattle.vi_history.specs.declared.entry.Entry.{Entry}
use Rattle.vi_log.specs.Logs.{Ticketed, Stands}
use Rattle.vi_lines.specs.declared.line.Who.{Who}
use Rattle.vi_lines.specs.declared.line.Who.TheVariants as who
use Rattle.vi_lines.specs.Value.{ScriptValue}
use Rattle.vi_model.specs.Control.{driver_count}
use Rattle.vi_model.specs.Places.{ids_of, place_count, place_of}
use Rattle.vi_model.specs.Backs.{Seat, no_seat}
use Rattle.vi_model.specs.Drivers.{no_stand}
use Rattle.vi_model.specs.Actors.{Actor, seat_in, back_actor, driver_actor, other_actor}
use Rattle.vi_model.specs.Worlds.{World, actor_of, with_actor}
use Rattle.vi_model.specs.Turns.{Waiting, ControlTurn, stays, control_turn, accesses, AccessTurn, no_access, access_turn, made_entries, left_by, left_by_access}
use Rattle.vi_model.specs.Rounds.{has_lines, backs_of, actors}
use Rattle.vi_model.specs.Laws.{same_actor, with_leases}
use Rattle.vi_model.specs.Playable.{IsPlayable}
use Rattle.vi_model.specs.Sound.{IsSound}
use Rattle.vi_sound.proofs.Laws.{others_stay, fewer_leases_keep_sound}
use Rattle.vi_sound.proofs.Values.Owns.{actors_go_on, actors_access, places_have_ids}
use Rattle.vi_turns.specs.Order.{HasActor}
use Rattle.vi_turns.specs.Views.{who_of}
use Rattle.vi_turns.proofs.Getting.{get_longer}

-- ---- actors differ

-- the actor's place among all: drivers by their numbers, back ends by their places, the device and the event reader
abbrev rank : ScriptValue → Who → ℕ
rank s (who.Driver number) = number
rank s (who.Back id) = driver_count + place_of s id
rank s who.Device = driver_count + place_count s
rank s who.Events = driver_count + place_count s + 1

-- two ranks are those of two actors
apart : (s : ScriptValue) (a b : Who) → rank s a ≢ rank s b → same_actor s a b ≡ false
apart s (who.Driver i) (who.Driver j) ne = ne_eqb i j ne
apart s (who.Driver i) (who.Back id) ne = refl
apart s (who.Driver i) who.Device ne = refl
apart s (who.Driver i) who.Events ne = refl
apart s (who.Back id) (who.Driver i) ne = refl
apart s (who.Back id) (who.Back other) ne = ne_eqb (place_of s id) (place_of s other) (λ e. ne (ap (λ n. driver_count + n) e))
apart s (who.Back id) who.Device ne = refl
apart s (who.Back id) who.Events ne = refl
apart s who.Device b ne = refl
apart s who.Events b ne = refl

-- the ranks of these actors rise, and none is below the number
abbrev Rises : ScriptValue → ℕ → List Who → Type 0
Rises s low [] = Unit {0}
Rises s low (x ∷ xs) = (low ≤ rank s x) × Rises s (suc (rank s x)) xs

-- nor below a smaller one
rises_lower : (s : ScriptValue) (low high : ℕ) (xs : List Who) → low ≤ high → Rises s high xs → Rises s low xs
rises_lower s low high [] le rises = tt
rises_lower s low high (x ∷ xs) le rises = let first = rises.0 in (omega (arith, le, first), rises.1)

-- so it is at each place
rises_at : (s : ScriptValue) (low : ℕ) (xs : List Who) (i : ℕ) (a : Who) → Rises s low xs → slice_get xs i ≡ Some a → low ≤ rank s a
rises_at s low [] i a rises at = absurd (none-some a at)
rises_at s low (x ∷ xs) zero a rises at = subst (λ (y : Who). low ≤ rank s y) (same_Some x a at) rises.0
rises_at s low (x ∷ xs) (suc i) a rises at = let first = rises.0 in let later = rises_at s (suc (rank s x)) xs i a rises.1 at in omega (arith, first, later)

-- and at two places there are two ranks
rises_apart : (s : ScriptValue) (low : ℕ) (xs : List Who) (i j : ℕ) (a b : Who) → Rises s low xs
    → slice_get xs i ≡ Some a → slice_get xs j ≡ Some b → i ≢ j → rank s a ≢ rank s b
rises_apart s low [] i j a b rises one two ne = absurd (none-some a one)
rises_apart s low (x ∷ xs) zero zero a b rises one two ne = absurd (ne refl)
rises_apart s low (x ∷ xs) zero (suc j) a b rises one two ne =
    let e : rank s x ≡ rank s a = ap (rank s) (same_Some x a one) in let later = rises_at s (suc (rank s x)) xs j b rises.1 two in λ same. absurd (omega (arith, e, later, same))
rises_apart s low (x ∷ xs) (suc i) zero a b rises one two ne =
    let e : rank s x ≡ rank s b = ap (rank s) (same_Some x b two) in let later = rises_at s (suc (rank s x)) xs i a rises.1 one in λ same. absurd (omega (arith, e, later, same))
rises_apart s low (x ∷ xs) (suc i) (suc j) a b rises one two ne = rises_apart s (suc (rank s x)) xs i j a b rises.1 one two (λ e. ne (ap suc e))

-- some drivers in order, and others behind them
drivers_rise : (s : ScriptValue) (p : ℕ → Bool) (a n : ℕ) (ys : List Who) → Rises s (a + n) ys → Rises s a (map (λ number. who.Driver number) (filter p (range_with_len a n)) ++ ys)
drivers_rise s p a zero ys rises = rises_lower s a (a + 0) ys (omega arith) rises
drivers_rise s p a (suc n) ys rises = go (p a) (drivers_rise s p (a + 1) n ys (rises_lower s (a + 1 + n) (a + suc n) ys (omega arith) rises))
  where
    more : List ℕ
    more = filter p (range_with_len (a + 1) n)

    go : (b : Bool) → Rises s (a + 1) (map (λ number. who.Driver number) more ++ ys) → Rises s a (map (λ number. who.Driver number) (cond b (a ∷ more) more) ++ ys)
    go true later = (omega arith, rises_lower s (suc a) (a + 1) (map (λ number. who.Driver number) more ++ ys) (omega arith) later)
    go false later = rises_lower s a (a + 1) (map (λ number. who.Driver number) more ++ ys) (omega arith) later

-- back ends in order of their places, and others behind them
backs_rise : (s : ScriptValue) (ids : List ℕ) (place : ℕ) (ys : List Who) → ((k : ℕ) → k < length ids → place_of s (get_or ids k 0) ≡ place + k)
    → Rises s (driver_count + (place + length ids)) ys → Rises s (driver_count + place) (map (λ id. who.Back id) ids ++ ys)
backs_rise s [] place ys placed rises = rises_lower s (driver_count + place) (driver_count + (place + 0)) ys (omega arith) rises
backs_rise s (id ∷ ids) place ys placed rises =
    let here : place_of s id ≡ place + 0 = placed 0 (omega arith) in
    let later = backs_rise s ids (place + 1) ys (λ k lt. let e : place_of s (get_or ids k 0) ≡ place + suc k = placed (suc k) (omega (arith, lt)) in omega (arith, e))
    (rises_lower s (driver_count + (place + 1 + length ids)) (driver_count + (place + suc (length ids))) ys (omega arith) rises) in
    (omega (arith, here), rises_lower s (suc (driver_count + place_of s id)) (driver_count + (place + 1)) (map (λ id. who.Back id) ids ++ ys) (omega (arith, here)) later)

-- the ranks of the actors of a script rise
actors_rise : (s : ScriptValue) → IsPlayable s → Rises s 0 (actors s)
unfolding actors
actors_rise s play =
    drivers_rise s (has_lines s) 0 driver_count (backs_of s ++ who.Device ∷ events)
    (rises_lower s (0 + driver_count) (driver_count + 0) (backs_of s ++ who.Device ∷ events) (omega arith) behind)
  where
    events : List Who
    events = cond s.setup.events (who.Events ∷ []) []

    reader : (b : Bool) → Rises s (suc (driver_count + place_count s)) (cond b (who.Events ∷ []) [])
    reader true = (omega arith, tt)
    reader false = tt

    behind : Rises s (driver_count + 0) (backs_of s ++ who.Device ∷ events)
    behind = backs_rise s (ids_of s) 0 (who.Device ∷ events) (λ k lt. let e = places_have_ids s k play lt in omega (arith, e)) (omega arith, reader s.setup.events)

-- passes with different numbers act for different actors
pub actors_differ : (s : ScriptValue) (i j : ℕ) (a b : Who) → IsPlayable s → who_of s i ≡ Some a → who_of s j ≡ Some b → i ≢ j → same_actor s a b ≡ false
actors_differ s zero j a b play one two ne = absurd (none-some a one)
actors_differ s (suc i) zero a b play one two ne = absurd (none-some b two)
actors_differ s (suc i) (suc j) a b play one two ne = apart s a b (rises_apart s 0 (actors s) i j a b (actors_rise s play) one two (λ e. ne (ap suc e)))

-- ---- what a turn of one actor keeps

-- giving an actor something changes neither the history nor the control nor the pages
given_history : (s : ScriptValue) (who : Who) (a : Actor) (w : World) → (with_actor s who a w).history ≡ w.history
given_history s (who.Driver i) a w = refl
given_history s (who.Back id) a w = refl
given_history s who.Device a w = refl
given_history s who.Events a w = refl

given_control : (s : ScriptValue) (who : Who) (a : Actor) (w : World) → (with_actor s who a w).control ≡ w.control
given_control s (who.Driver i) a w = refl
given_control s (who.Back id) a w = refl
given_control s who.Device a w = refl
given_control s who.Events a w = refl

given_pages : (s : ScriptValue) (who : Who) (a : Actor) (w : World) → (with_actor s who a w).pages ≡ w.pages
given_pages s (who.Driver i) a w = refl
given_pages s (who.Back id) a w = refl
given_pages s who.Device a w = refl
given_pages s who.Events a w = refl

-- a world with the same history or a longer one, in which the actors of the other passes have what they had
pub record Goes (s : ScriptValue) (w y : World) (number : ℕ) : Type 0 where
  pub history : (e : Ticketed) → Stands w.history e → Stands y.history e
  pub longer : length w.history ≤ length y.history
  pub others : (n : ℕ) (a : Actor) → n ≢ number → HasActor s w n a → HasActor s y n a

-- nothing changes
pub goes_same : (s : ScriptValue) (w : World) (number : ℕ) → Goes s w w number
goes_same s w number = record { history = λ e stands. stands; longer = omega arith; others = λ n a ne has. has }

-- a world whose history is this one and more, in which every other actor has what it had
goes_more : (s : ScriptValue) (w y : World) (number : ℕ) (who : Who) (more : List Entry) → IsPlayable s → who_of s number ≡ Some who → y.history ≡ w.history ++ more
    → ((b : Who) → same_actor s who b ≡ false → actor_of s y b ≡ actor_of s w b) → Goes s w y number
goes_more s w y number who more play is longer stay = record {
  history = λ e stands. subst (λ (es : List Entry). slice_get es e.ticket ≡ Some e.entry) (sym longer) (get_longer w.history more e.ticket e.entry stands);
  longer = omega (arith, ap length longer, length-append w.history more);
  others = λ n a ne has b b_is. stay b (actors_differ s number n who b play is b_is (λ e. ne (sym e))) ∙ has b b_is;
}

-- no turn at all
abbrev idle_turn : World → ControlTurn
idle_turn w = stays Waiting w.control other_actor

abbrev idle_access : AccessTurn
idle_access = no_access other_actor []

-- a turn under control of the actor that the pass with this number acts for
pub goes_turn : (s : ScriptValue) (w : World) (number : ℕ) (who : Who) (t : ControlTurn) → IsPlayable s → who_of s number ≡ Some who → Goes s w (left_by s w who t) number
goes_turn s w number who t play is =
    goes_more s w (left_by s w who t) number who (made_entries t.entry) play is
    (given_history s who t.actor (record w { control = t.control; history = w.history ++ made_entries t.entry }))
    (λ b other. (others_stay s w who b t idle_access 0 other).0)

-- an access by it
pub goes_access : (s : ScriptValue) (w : World) (number : ℕ) (who : Who) (page : ℕ) (t : AccessTurn) → IsPlayable s → who_of s number ≡ Some who → Goes s w (left_by_access s w who page t) number
goes_access s w number who page t play is =
    goes_more s w (left_by_access s w who page t) number who (made_entries t.entry) play is
    (given_history s who t.actor (record w { pages = set w.pages page t.page; history = w.history ++ made_entries t.entry }))
    (λ b other. (others_stay s w who b (idle_turn w) t page other).1)

-- ---- what the actor then has

-- the one actor that a pass acts for has this
has_own : (s : ScriptValue) (w : World) (number : ℕ) (who : Who) (a : Actor) → who_of s number ≡ Some who → actor_of s w who ≡ a → HasActor s w number a
has_own s w number who a is has b b_is = subst (λ (x : Who). actor_of s w x ≡ a) (same_Some who b (sym is ∙ b_is)) has

-- after a turn under control, what the turn says
pub has_turned : (s : ScriptValue) (w : World) (number : ℕ) (who : Who) → IsSound s w → who_of s number ≡ Some who → (a : Actor) → actor_of s w who ≡ a
    → (let t : ControlTurn = control_turn s who w.control a in HasActor s (left_by s w who t) number t.actor)
has_turned s w number who sound is a has =
    let turned : Actor → ControlTurn = λ (x : Actor). control_turn s who w.control x in
    subst (λ (x : Actor). HasActor s (left_by s w who (turned x)) number (turned x).actor) has
    (has_own s (left_by s w who (turned (actor_of s w who))) number who (turned (actor_of s w who)).actor is (actors_go_on s w who sound))

-- after an access, what the access says
pub has_accessed : (s : ScriptValue) (w : World) (number : ℕ) (who : Who) (page : ℕ) (bytes : List ℕ) → IsSound s w → who_of s number ≡ Some who
    → (a : Actor) → actor_of s w who ≡ a → accesses s who page a ≡ true
    → (let t : AccessTurn = access_turn s who a bytes in HasActor s (left_by_access s w who page t) number t.actor)
has_accessed s w number who page bytes sound is a has access =
    let turned : Actor → AccessTurn = λ (x : Actor). access_turn s who x bytes in
    let own : accesses s who page (actor_of s w who) ≡ true = subst (λ (x : Actor). accesses s who page x ≡ true) (sym has) access in
    subst (λ (x : Actor). HasActor s (left_by_access s w who page (turned x)) number (turned x).actor) has
    (has_own s (left_by_access s w who page (turned (actor_of s w who))) number who (turned (actor_of s w who)).actor is
    (actors_access s w who page bytes sound own))

-- ---- the end of a pass

-- the world once the actor of a pass that ends, if it has one, has no leases
pub record Drops (s : ScriptValue) (x y : World) (number : ℕ) (a : Actor) : Type 0 where
  pub sound : IsSound s y
  pub goes : Goes s x y number
  pub control : y.control ≡ x.control
  pub pages : y.pages ≡ x.pages
  pub history : y.history ≡ x.history
  pub actor : HasActor s y number (record { leases = []; progress = a.progress })

-- the actor without its leases
abbrev bare : Actor → Actor
bare a = record { leases = []; progress = a.progress }

-- what an actor has once its leases are gone
bare_own : (s : ScriptValue) (x : World) (who : Who) → actor_of s (with_leases s x who []) who ≡ bare (actor_of s x who)
bare_own s x (who.Driver i) = ap (λ d. driver_actor (get_or d i no_stand)) (set-get_or x.stands i no_stand)
bare_own s x (who.Back id) = seat_bare x.seats (place_of s id)
  where
    seat_bare : (seats : List Seat) (k : ℕ) → back_actor (get_or (set seats k (seat_in (bare (back_actor (get_or seats k no_seat))))) k no_seat) ≡ bare (back_actor (get_or seats k no_seat))
    seat_bare [] k = refl
    seat_bare (z ∷ seats) zero = refl
    seat_bare (z ∷ seats) (suc k) = seat_bare seats k
bare_own s x who.Device = refl
bare_own s x who.Events = refl

-- another actor has what it had
bare_other : (s : ScriptValue) (x : World) (who b : Who) → same_actor s who b ≡ false → actor_of s (with_leases s x who []) b ≡ actor_of s x b
bare_other s x who b other =
    let t : ControlTurn = stays Waiting x.control (bare (actor_of s x who)) in
    ap (λ (es : List Entry). actor_of s (with_actor s who (bare (actor_of s x who)) (record x { history = es })) b) (sym (append-nil x.history))
    ∙ (others_stay s x who b t idle_access 0 other).0

-- so that world is there where the pass has an actor
drops_own : (s : ScriptValue) (x : World) (number : ℕ) (a : Actor) (who : Who) → IsPlayable s → IsSound s x → HasActor s x number a
    → who_of s number ≡ Some who → Drops s x (with_leases s x who []) number a
drops_own s x number a who play sound has is =
    let given : Actor = bare (actor_of s x who) in
    let history : (with_leases s x who []).history ≡ x.history = given_history s who given x in
    record {
      sound = fewer_leases_keep_sound s x who [] sound tt;
      goes = goes_more s x (with_leases s x who []) number who [] play is (history ∙ sym (append-nil x.history)) (bare_other s x who);
      control = given_control s who given x;
      pages = given_pages s who given x;
      history = history;
      actor = has_own s (with_leases s x who []) number who (bare a) is (bare_own s x who ∙ ap (λ (y : Actor). bare y) (has who is));
    }

-- the world once a pass ends: where it has no actor, the same one
pub drops : (s : ScriptValue) (x : World) (number : ℕ) (a : Actor) → IsPlayable s → IsSound s x → HasActor s x number a → (y : World) × Drops s x y number a
drops s x number a play sound has = go (who_of s number) refl
  where
    go : (o : Option Who) → who_of s number ≡ o → (y : World) × Drops s x y number a
    go None e = (
      x,
      record {
        sound = sound;
        goes = goes_same s x number;
        control = refl;
        pages = refl;
        history = refl;
        actor = λ b b_is. absurd (none-some b (sym e ∙ b_is));
      },
    )
    go (Some who) e = (with_leases s x who [], drops_own s x number a who play sound has e)
