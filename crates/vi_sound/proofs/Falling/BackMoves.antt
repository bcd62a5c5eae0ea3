-- The bound falls where a back end or the event reader moves.
use Rattle.std.proofs.Common.{◌≡◌, ℕ, suc, ◌+◌, ◌≤◌, ◌<◌, Bool, true, false, cond, not, ◌&&◌, ◌||◌, List, [], ◌∷◌, length, get_or, set, Option, Some, None, refl, arith, ◌∙◌, ap}
use Rattle.std.specs.Prelude.{nat_lt, nat_le}
use Rattle.std.proofs.lemmas.Bool.{ltb-true}
use Rattle.std.proofs.lemmas.List.{get_or-set_same, get_or-set_other}
use Rattle.vi_bytes.specs.declared.lease.Lease.{Lease}
use Rattle.vi_history.specs.Translation.{permits}
use Rattle.vi_history.specs.declared.outcome.Shown.{Shown}
use Rattle.vi_lines.specs.declared.line.Who.{Who}
use Rattle.vi_lines.specs.declared.line.Who.TheVariants as who
use Rattle.vi_lines.specs.Value.{ScriptValue}
use Rattle.vi_lines.specs.Calls.{lines_of}
use Rattle.vi_model.specs.Control.{Link, with_link, link_of}
use Rattle.vi_model.specs.Places.{place_count, place_of, back_at}
use Rattle.vi_model.specs.Backs.{Seat, no_seat, Access, access_at, Wish, Accesses, Asks, Receives, Rests, need_of, miss_of, part_wish, current_wish, is_empty, current_awaits, owes_posting, wish, finds, Exchange, ask, receive, access, moved_seat, is_last}
use Rattle.vi_model.specs.Actors.{back_actor}
use Rattle.vi_model.specs.Serves.{page_of}
use Rattle.vi_model.specs.Caches.{cached_at}
use Rattle.vi_model.specs.Worlds.{World, seat_of, actor_of}
use Rattle.vi_model.specs.Turns.{Turned, Moved, Waiting, Rest, ControlTurn, stays, exchanged, wished, event_read, control_turn, wished_page, accessed_page, left_by, left_by_access, wished_access, access_turn}
use Rattle.vi_model.specs.Sound.{SoundParts}
use Rattle.vi_model.specs.Bound.{place_cost, places_cost, measure}
use Rattle.vi_sound.proofs.Values.Totals.{total_one}
use Rattle.vi_sound.proofs.Values.Links.{link_same, link_other}
use Rattle.vi_sound.proofs.Moves.Accesses.{WishesAccess, wishes_access}
use Rattle.vi_sound.proofs.Moves.Asks.{after_exchange, wishes_ask}
use Rattle.vi_sound.proofs.Falling.Falls.{down_falls, ask_falls, access_falls}

-- one place's cost falls by a, and the others are as they were
pub places_one : (s : ScriptValue) (w v : World) (k a : ℕ) → k < place_count s
    → place_cost s k (link_of v.control k) (seat_of v k) + a ≤ place_cost s k (link_of w.control k) (seat_of w k)
    → ((i : ℕ) → (i ≡ k → ⊥) → (link_of v.control i ≡ link_of w.control i) × (seat_of v i ≡ seat_of w i))
    → places_cost s v + a ≤ places_cost s w
places_one s w v k a lt own other = total_one (λ i. place_cost s i (link_of w.control i) (seat_of w i)) (λ i. place_cost s i (link_of v.control i) (seat_of v i)) a (place_count s) k lt own (λ i below ne. same i (other i ne))
  where
    same : (i : ℕ) → (link_of v.control i ≡ link_of w.control i) × (seat_of v i ≡ seat_of w i) → place_cost s i (link_of v.control i) (seat_of v i) ≤ place_cost s i (link_of w.control i) (seat_of w i)
    same i e =
        let n : place_cost s i (link_of v.control i) (seat_of v i) ≡ place_cost s i (link_of w.control i) (seat_of w i) =
        ap (λ x. place_cost s i x (seat_of v i)) e.0 ∙ ap (λ z. place_cost s i (link_of w.control i) z) e.1 in
        omega (arith, n)

-- one place's link is another
pub link_places : (s : ScriptValue) (w : World) (k a : ℕ) (x : Link) (v : World) → SoundParts s w → k < place_count s → place_cost s k x (seat_of w k) + a ≤ place_cost s k (link_of w.control k) (seat_of w k)
    → ((i : ℕ) → link_of v.control i ≡ link_of (with_link w.control k x) i) → ((i : ℕ) → seat_of v i ≡ seat_of w i)
    → places_cost s v + a ≤ places_cost s w
link_places s w k a x v ok lt h links seats = places_one s w v k a lt own (λ i ne. (links i ∙ link_other w.control k i x ne, seats i))
  where
    own : place_cost s k (link_of v.control k) (seat_of v k) + a ≤ place_cost s k (link_of w.control k) (seat_of w k)
    own =
        let n : place_cost s k (link_of v.control k) (seat_of v k) ≡ place_cost s k x (seat_of w k) =
        ap (λ y. place_cost s k y (seat_of v k)) (links k ∙ link_same w.control (place_count s) k x ok.tables lt) ∙ ap (λ z. place_cost s k x z) (seats k) in
        omega (arith, h, n)

exchange_places : (s : ScriptValue) (w : World) (k a : ℕ) (m : Exchange) → SoundParts s w → k < place_count s → place_cost s k m.link m.seat + a ≤ place_cost s k (link_of w.control k) (seat_of w k)
    → places_cost s (after_exchange w k m) + a ≤ places_cost s w
exchange_places s w k a m ok lt h = places_one s w (after_exchange w k m) k a lt own (λ i ne. (link_other w.control k i m.link ne, get_or-set_other w.seats k i m.seat no_seat ne))
  where
    own : place_cost s k (link_of (with_link w.control k m.link) k) (get_or (set w.seats k m.seat) k no_seat) + a ≤ place_cost s k (link_of w.control k) (seat_of w k)
    own =
        let l = ok.seats in
        let n : place_cost s k (link_of (with_link w.control k m.link) k) (get_or (set w.seats k m.seat) k no_seat) ≡ place_cost s k m.link m.seat =
        ap (λ y. place_cost s k y (get_or (set w.seats k m.seat) k no_seat)) (link_same w.control (place_count s) k m.link ok.tables lt)
        ∙ ap (λ z. place_cost s k m.link z) (get_or-set_same w.seats k m.seat no_seat (omega (arith, lt, l))) in
        omega (arith, h, n)

seat_places : (s : ScriptValue) (w v : World) (k a : ℕ) (z : Seat) → SoundParts s w → k < place_count s → place_cost s k (link_of w.control k) z + a ≤ place_cost s k (link_of w.control k) (seat_of w k)
    → ((i : ℕ) → link_of v.control i ≡ link_of w.control i) → ((i : ℕ) → seat_of v i ≡ get_or (set w.seats k z) i no_seat)
    → places_cost s v + a ≤ places_cost s w
seat_places s w v k a z ok lt h links seats = places_one s w v k a lt own (λ i ne. (links i, seats i ∙ get_or-set_other w.seats k i z no_seat ne))
  where
    own : place_cost s k (link_of v.control k) (seat_of v k) + a ≤ place_cost s k (link_of w.control k) (seat_of w k)
    own =
        let l = ok.seats in
        let n : place_cost s k (link_of v.control k) (seat_of v k) ≡ place_cost s k (link_of w.control k) z =
        ap (λ y. place_cost s k y (seat_of v k)) (links k)
        ∙ ap (λ q. place_cost s k (link_of w.control k) q) (seats k ∙ get_or-set_same w.seats k z no_seat (omega (arith, lt, l))) in
        omega (arith, h, n)

-- ---- turns

-- a turn under control, if it moves, lowers the bound
abbrev pub Lowers : ScriptValue → World → Who → ControlTurn → Type 0
Lowers s w a t = t.turned ≡ Moved → measure s (left_by s w a t) + 1 ≤ measure s w

pub stay_lowers : (s : ScriptValue) (w : World) (a : Who) (turned : Turned) → (turned ≡ Moved → ⊥) → Lowers s w a (stays turned w.control (actor_of s w a))
stay_lowers s w a turned ne h = absurd (ne h)

waits_not : Waiting ≡ Moved → ⊥
waits_not h = absurd cc

rests_not : Rest ≡ Moved → ⊥
rests_not h = absurd cc

-- a back end tests what it awaits only where it isn't ready
pub tests_unready : (s : ScriptValue) (k : ℕ) (z : Seat) (t : Bool) → wish s k z ≡ Receives t → t ≡ true → z.ready ≡ false
unfolding wish
tests_unready s k z t h = go (z.asking || (nat_le 16 z.since || owes_posting s k z)) (nat_le (length (lines_of s (back_at s k))) z.finished) (is_empty (current_awaits s k z)) z.ready refl h
  where
    untested : (t : Bool) → Receives false ≡ Receives t → t ≡ true → ⊥
    untested true h e = absurd cc
    untested false h e = absurd cc

    picked : (a : Access) (l : Lease) (b : Bool) → cond b (Accesses l a) (Asks (miss_of z a true)) ≡ Receives t → ⊥
    picked a l true h = absurd cc
    picked a l false h = absurd cc

    leased : (a : Access) (o : Option Lease) → part_wish z a o ≡ Receives t → ⊥
    leased a None h = absurd cc
    leased a (Some l) h = picked a l (permits (need_of a.work) l.perm) h

    current : (o : Option Access) → current_wish z o ≡ Receives t → t ≡ true → z.ready ≡ false
    current None h e = absurd (untested t h e)
    current (Some a) h e = absurd (leased a (cached_at (page_of a.part.iova) z.cache) h)

    go : (r f n y : Bool) → z.ready ≡ y → cond r (Receives false) (cond f Rests (cond (not n && not y) (Receives true) (current_wish z (access_at s k (z.finished + 1) (z.done + 1))))) ≡ Receives t → t ≡ true → z.ready ≡ false
    go true f n y ey h e = absurd (untested t h e)
    go false true n y ey h e = absurd cc
    go false false n false ey h e = ey
    go false false true true ey h e = current (access_at s k (z.finished + 1) (z.done + 1)) h e
    go false false false true ey h e = current (access_at s k (z.finished + 1) (z.done + 1)) h e

-- ---- a back end's turn

exchange_lowers : (s : ScriptValue) (w : World) (id : ℕ) (idle : Turned) (m : Exchange) → (idle ≡ Moved → ⊥) → SoundParts s w → place_of s id < place_count s
    → (m.moved ≡ true → place_cost s (place_of s id) m.link m.seat + 1 ≤ place_cost s (place_of s id) (link_of w.control (place_of s id)) (seat_of w (place_of s id)))
    → Lowers s w (who.Back id) (exchanged (place_of s id) idle w.control (actor_of s w (who.Back id)) m)
exchange_lowers s w id idle m ne ok lt falls = go m.moved refl
  where
    go : (b : Bool) → m.moved ≡ b → Lowers s w (who.Back id) (let t : ControlTurn = cond b (record { control = with_link w.control (place_of s id) m.link; actor = back_actor m.seat; entry = None; turned = Moved }) (stays idle w.control (actor_of s w (who.Back id))) in t)
    go true e h = let f = exchange_places s w (place_of s id) 1 m ok lt (falls e) in omega (arith, f)
    go false e h = absurd (ne h)

receive_lowers : (s : ScriptValue) (w : World) (k : ℕ) (t : Bool) → SoundParts s w → 0 < s.setup.cache → k < place_count s → (t ≡ true → (seat_of w k).ready ≡ false)
    → (let m : Exchange = receive s w.control k t (link_of w.control k) (seat_of w k) in m.moved ≡ true → place_cost s k m.link m.seat + 1 ≤ place_cost s k (link_of w.control k) (seat_of w k))
unfolding receive
receive_lowers s w k t ok full lt fresh h = down_falls s k w.control t (link_of w.control k) (seat_of w k) full (ok.backs k lt).miss (λ f. fresh (both t f)) (link_of w.control k).down refl h
  where
    both : (t : Bool) → finds s w.control k t (seat_of w k) ≡ true → t ≡ true
    both true f = refl
    both false f = absurd cc

wished_lowers : (s : ScriptValue) (w : World) (id : ℕ) (h : Wish) → SoundParts s w → 0 < s.setup.cache → place_of s id < place_count s → wish s (place_of s id) (seat_of w (place_of s id)) ≡ h
    → Lowers s w (who.Back id) (wished s (place_of s id) w.control (actor_of s w (who.Back id)) h)
wished_lowers s w id (Accesses l a) ok full lt e = stay_lowers s w (who.Back id) Waiting waits_not
wished_lowers s w id (Asks m) ok full lt e =
    exchange_lowers s w id Waiting (ask (link_of w.control (place_of s id)) (seat_of w (place_of s id)) m) waits_not ok lt
    (λ h. ask_falls s (place_of s id) (link_of w.control (place_of s id)) (seat_of w (place_of s id)) m (ok.backs (place_of s id) lt).miss (wishes_ask s (place_of s id) (seat_of w (place_of s id)) m e))
wished_lowers s w id (Receives t) ok full lt e =
    exchange_lowers s w id Waiting (receive s w.control (place_of s id) t (link_of w.control (place_of s id)) (seat_of w (place_of s id))) waits_not ok lt
    (receive_lowers s w (place_of s id) t ok full lt (tests_unready s (place_of s id) (seat_of w (place_of s id)) t e))
wished_lowers s w id Rests ok full lt e =
    exchange_lowers s w id Rest (receive s w.control (place_of s id) false (link_of w.control (place_of s id)) (seat_of w (place_of s id))) rests_not ok lt
    (receive_lowers s w (place_of s id) false ok full lt (λ f. absurd cc))

access_lowers : (s : ScriptValue) (w : World) (id : ℕ) (l : Lease) (a : Access) (page : ℕ) → SoundParts s w → place_of s id < place_count s → WishesAccess s (place_of s id) (seat_of w (place_of s id)) l a
    → measure s (left_by_access s w (who.Back id) page (wished_access s (place_of s id) (actor_of s w (who.Back id)) (get_or w.pages page []) (Accesses l a))) + 1 ≤ measure s w
unfolding access
access_lowers s w id l a page ok lt wishes =
    let k : ℕ = place_of s id in
    let v : World = left_by_access s w (who.Back id) page (wished_access s k (actor_of s w (who.Back id)) (get_or w.pages page []) (Accesses l a)) in
    let z : Seat = moved_seat (seat_of w k) (is_last s k ((seat_of w k).finished + 1) ((seat_of w k).done + 1)) l (page_of a.part.iova) in
    let f = seat_places s w v k 1 z ok lt
    (access_falls s k (link_of w.control k) (seat_of w k) l (page_of a.part.iova) a (ok.backs k lt).miss wishes.idle wishes.part (is_last s k ((seat_of w k).finished + 1) ((seat_of w k).done + 1)))
    (λ i. refl) (λ i. refl) in
    omega (arith, f)

pub back_lowers : (s : ScriptValue) (w : World) (id : ℕ) → SoundParts s w → 0 < s.setup.cache → Lowers s w (who.Back id) (control_turn s (who.Back id) w.control (actor_of s w (who.Back id)))
unfolding control_turn
back_lowers s w id ok full = go (nat_lt (place_of s id) (place_count s)) refl
  where
    go : (b : Bool) → nat_lt (place_of s id) (place_count s) ≡ b
        → Lowers s w (who.Back id) (let t : ControlTurn = cond b (wished s (place_of s id) w.control (actor_of s w (who.Back id)) (wish s (place_of s id) (seat_of w (place_of s id)))) (stays Waiting w.control (actor_of s w (who.Back id))) in t)
    go true e = wished_lowers s w id (wish s (place_of s id) (seat_of w (place_of s id))) ok full (ltb-true (place_of s id) (place_count s) e) refl
    go false e = stay_lowers s w (who.Back id) Waiting waits_not

-- an access of a page
pub page_lowers : (s : ScriptValue) (w : World) (id page : ℕ) → SoundParts s w → accessed_page s (who.Back id) (actor_of s w (who.Back id)) ≡ Some page
    → measure s (left_by_access s w (who.Back id) page (access_turn s (who.Back id) (actor_of s w (who.Back id)) (get_or w.pages page []))) + 1 ≤ measure s w
unfolding accessed_page access_turn
page_lowers s w id page ok h = go (nat_lt (place_of s id) (place_count s)) refl h
  where
    wishes : place_of s id < place_count s → (h : Wish) → wish s (place_of s id) (seat_of w (place_of s id)) ≡ h → wished_page h ≡ Some page
        → measure s (left_by_access s w (who.Back id) page (wished_access s (place_of s id) (actor_of s w (who.Back id)) (get_or w.pages page []) h)) + 1 ≤ measure s w
    wishes lt (Accesses l a) e p = access_lowers s w id l a page ok lt (wishes_access s (place_of s id) (seat_of w (place_of s id)) l a e)
    wishes lt (Asks m) e p = absurd cc
    wishes lt (Receives t) e p = absurd cc
    wishes lt Rests e p = absurd cc

    go : (b : Bool) → nat_lt (place_of s id) (place_count s) ≡ b → cond b (wished_page (wish s (place_of s id) (seat_of w (place_of s id)))) None ≡ Some page
        → measure s (left_by_access s w (who.Back id) page (wished_access s (place_of s id) (actor_of s w (who.Back id)) (get_or w.pages page []) (wish s (place_of s id) (seat_of w (place_of s id))))) + 1 ≤ measure s w
    go true e p = wishes (ltb-true (place_of s id) (place_count s) e) (wish s (place_of s id) (seat_of w (place_of s id))) refl p
    go false e p = absurd cc

-- ---- the event reader's turn

pub read_lowers : (s : ScriptValue) (w : World) (xs : List Shown) → w.control.events.waiting ≡ xs → Lowers s w who.Events (event_read w.control (actor_of s w who.Events) xs)
read_lowers s w [] e = stay_lowers s w who.Events Waiting waits_not
read_lowers s w (x ∷ xs) e = λ h. (let l : length w.control.events.waiting ≡ suc (length xs) = ap (λ (v : List Shown). length v) e in omega (arith, l))

pub reader_lowers : (s : ScriptValue) (w : World) → Lowers s w who.Events (control_turn s who.Events w.control (actor_of s w who.Events))
unfolding control_turn
reader_lowers s w = go s.setup.events
  where
    go : (b : Bool) → Lowers s w who.Events (let t : ControlTurn = cond b (event_read w.control (actor_of s w who.Events) w.control.events.waiting) (stays Waiting w.control (actor_of s w who.Events)) in t)
    go true = read_lowers s w w.control.events.waiting refl
    go false = stay_lowers s w who.Events Waiting waits_not
