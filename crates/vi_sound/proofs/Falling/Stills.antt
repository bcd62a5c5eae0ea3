-- What an actor finds where its turn doesn't move.
use Rattle.std.proofs.Common.{◌≡◌, ◌≢◌, ◌==◌, ℕ, zero, suc, ◌<◌, Bool, true, false, cond, ◌||◌, List, [], ◌∷◌, length, get_or, Option, Some, None, refl, arith, ◌∙◌, subst, ◌⊎◌, inl, inr}
use Rattle.std.specs.Prelude.{nat_lt}
use Rattle.std.proofs.lemmas.Bool.{or_parts, ltb-false, cases_eq, eq-eqb}
use Rattle.std.proofs.lemmas.Bool.Decides.{nat_tests}
use Rattle.vi_lines.specs.declared.line.Who.{Who}
use Rattle.vi_lines.specs.declared.line.Who.TheVariants as who
use Rattle.vi_lines.specs.Value.{ScriptValue}
use Rattle.vi_lines.specs.Valid.{IsValid}
use Rattle.vi_model.specs.Lanes.{Down, Update, Invalidate}
use Rattle.vi_model.specs.Control.{Link, Control, Made, driver_count, with_link, link_of}
use Rattle.vi_model.specs.Places.{ids_of, place_count, id_at, place_in, place_of}
use Rattle.vi_model.specs.Device.{device_turn}
use Rattle.vi_model.specs.Drivers.{Driven, driver_turn}
use Rattle.vi_model.specs.Backs.{Seat, Wish, Accesses, Asks, Receives, Rests, wish, finds, Exchange, ask, take_reply, take_down, receive}
use Rattle.vi_model.specs.Actors.{back_actor}
use Rattle.vi_model.specs.Worlds.{World, stand_of, seat_of, actor_of}
use Rattle.vi_model.specs.Turns.{Turned, Moved, Waiting, Rest, ControlTurn, stays, driver_idle, driven, exchanged, wished, served, control_turn, wished_page, accessed_page, turn_at, turn}
use Rattle.vi_sound.proofs.Values.Ids.{differ, id_of_place}

-- what a turn did, by the page that it accesses or under control
abbrev turned_at : Option ℕ → ControlTurn → Turned
turned_at None t = t.turned
turned_at (Some page) t = Moved

turned_is : (s : ScriptValue) (w : World) (a : Who) → (turn s w a).turned ≡ turned_at (accessed_page s a (actor_of s w a)) (control_turn s a w.control (actor_of s w a))
unfolding turn
turned_is s w a = go (accessed_page s a (actor_of s w a))
  where
    go : (o : Option ℕ) → (turn_at s w a o).turned ≡ turned_at o (control_turn s a w.control (actor_of s w a))
    go None = refl
    go (Some page) = refl

-- ---- the device and the drivers

pub device_still : (s : ScriptValue) (w : World) → (turn s w who.Device).turned ≢ Moved → device_turn s w.control ≡ None
unfolding control_turn accessed_page
device_still s w ne = go (device_turn s w.control) (λ e. ne (turned_is s w who.Device ∙ e))
  where
    go : (o : Option Made) → (let t : ControlTurn = served w.control (actor_of s w who.Device) o in t.turned) ≢ Moved → o ≡ None
    go None h = refl
    go (Some m) h = absurd (h refl)

pub driver_still : (s : ScriptValue) (w : World) (j : ℕ) → j < driver_count → (turn s w (who.Driver j)).turned ≢ Moved → driver_turn s w.control j (stand_of w j) ≡ None
unfolding control_turn accessed_page
driver_still s w j lt ne = go (nat_lt j driver_count) here (driver_turn s w.control j (stand_of w j)) (λ e. ne (turned_is s w (who.Driver j) ∙ e))
  where
    here : nat_lt j driver_count ≡ true
    here = grind (arith, nat_tests)

    go : (b : Bool) → b ≡ true → (o : Option Driven)
        → (let t : ControlTurn = cond b (driven (driver_idle s j (stand_of w j)) w.control (actor_of s w (who.Driver j)) o) (stays Rest w.control (actor_of s w (who.Driver j))) in t.turned) ≢ Moved → o ≡ None
    go true e None h = refl
    go true e (Some o) h = absurd (h refl)
    go false e o h = absurd cc

-- ---- back ends

-- what a receive that doesn't move finds
pub record HearsNothing (s : ScriptValue) (c : Control) (k : ℕ) (tests : Bool) (x : Link) (z : Seat) : Type 0 where
  pub down : x.down ≡ []
  pub replies : x.replies ≡ []
  pub told : nat_lt z.told z.finished ≡ false
  pub since : z.since ≡ 0
  pub found : finds s c k tests z ≡ false

hears : (s : ScriptValue) (c : Control) (k : ℕ) (tests : Bool) (x : Link) (z : Seat) (fs : List Down) → x.down ≡ fs → (let m : Exchange = take_down s c k tests x z fs in m.moved) ≡ false → HearsNothing s c k tests x z
hears s c k tests x z (Update l ∷ fs) e h = absurd cc
hears s c k tests x z (Invalidate r ∷ fs) e h = absurd cc
hears s c k tests x z [] e h = go x.replies refl h
  where
    go : (bs : List Bool) → x.replies ≡ bs → (let m : Exchange = take_reply s c k tests x z bs in m.moved) ≡ false → HearsNothing s c k tests x z
    go (b ∷ bs) er h = absurd cc
    go [] er h =
        let a = or_parts (nat_lt z.told z.finished) (nat_lt 0 z.since || finds s c k tests z) h in
        let b = or_parts (nat_lt 0 z.since) (finds s c k tests z) a.1 in
        record { down = e; replies = er; told = a.0; since = (let n = ltb-false 0 z.since b.0 in omega (arith, n)); found = b.1 }

-- a back end receives, or rests, and finds nothing
pub record BackStill (s : ScriptValue) (w : World) (k : ℕ) : Type 0 where
  pub tests : Bool
  pub way : (wish s k (seat_of w k) ≡ Receives tests) ⊎ (wish s k (seat_of w k) ≡ Rests)
  pub still : HearsNothing s w.control k tests (link_of w.control k) (seat_of w k)

stays_put : (s : ScriptValue) (w : World) (id : ℕ) (idle : Turned) (m : Exchange) → (let t : ControlTurn = exchanged (place_of s id) idle w.control (actor_of s w (who.Back id)) m in t.turned) ≢ Moved → m.moved ≡ false
stays_put s w id idle m ne = go m.moved ne
  where
    go : (b : Bool) → (let t : ControlTurn = cond b (record { control = with_link w.control (place_of s id) m.link; actor = back_actor m.seat; entry = None; turned = Moved }) (stays idle w.control (actor_of s w (who.Back id))) in t.turned) ≢ Moved → b ≡ false
    go true h = absurd (h refl)
    go false h = refl

wish_still : (s : ScriptValue) (w : World) (id : ℕ) (h : Wish) → wish s (place_of s id) (seat_of w (place_of s id)) ≡ h
    → turned_at (wished_page h) (wished s (place_of s id) w.control (actor_of s w (who.Back id)) h) ≢ Moved → BackStill s w (place_of s id)
unfolding receive ask
wish_still s w id (Accesses l a) e ne = absurd (ne refl)
wish_still s w id (Asks m) e ne = absurd (ne refl)
wish_still s w id (Receives t) e ne = record {
  tests = t;
  way = inl e;
  still = hears s w.control (place_of s id) t (link_of w.control (place_of s id)) (seat_of w (place_of s id)) (link_of w.control (place_of s id)).down refl
      (stays_put s w id Waiting (receive s w.control (place_of s id) t (link_of w.control (place_of s id)) (seat_of w (place_of s id))) ne);
}
wish_still s w id Rests e ne = record {
  tests = false;
  way = inr e;
  still = hears s w.control (place_of s id) false (link_of w.control (place_of s id)) (seat_of w (place_of s id)) (link_of w.control (place_of s id)).down refl
      (stays_put s w id Rest (receive s w.control (place_of s id) false (link_of w.control (place_of s id)) (seat_of w (place_of s id))) ne);
}

id_still : (s : ScriptValue) (w : World) (id : ℕ) → place_of s id < place_count s → (turn s w (who.Back id)).turned ≢ Moved → BackStill s w (place_of s id)
unfolding control_turn accessed_page
id_still s w id lt ne = go (nat_lt (place_of s id) (place_count s)) here (wish s (place_of s id) (seat_of w (place_of s id))) refl (λ e. ne (turned_is s w (who.Back id) ∙ e))
  where
    here : nat_lt (place_of s id) (place_count s) ≡ true
    here = grind (arith, nat_tests)

    go : (b : Bool) → b ≡ true → (h : Wish) → wish s (place_of s id) (seat_of w (place_of s id)) ≡ h
        → turned_at (cond b (wished_page h) None) (cond b (wished s (place_of s id) w.control (actor_of s w (who.Back id)) h) (stays Waiting w.control (actor_of s w (who.Back id)))) ≢ Moved → BackStill s w (place_of s id)
    go true e h eh ne = wish_still s w id h eh ne
    go false e h eh ne = absurd cc

place_low : (ids : List ℕ) (k : ℕ) → k < length ids → place_in ids (get_or ids k 0) < length ids
place_low [] k lt = absurd (omega (arith, lt))
place_low (i ∷ ids) zero lt = go (i == i) refl
  where
    go : (b : Bool) → (i == i) ≡ b → cond b 0 (suc (place_in ids i)) < suc (length ids)
    go true e = omega arith
    go false e = absurd (let t : (i == i) ≡ true = eq-eqb i i refl in cc)
place_low (i ∷ ids) (suc k) lt = go (i == get_or ids k 0) (place_low ids k (omega (arith, lt)))
  where
    go : (b : Bool) → place_in ids (get_or ids k 0) < length ids → cond b 0 (suc (place_in ids (get_or ids k 0))) < suc (length ids)
    go true r = omega arith
    go false r = omega (arith, r)

-- the place of the id at a place is that place
pub place_id : (s : ScriptValue) (k : ℕ) → IsValid s → k < place_count s → place_of s (id_at s k) ≡ k
place_id s k valid lt = go (cases_eq (place_of s (id_at s k)) k)
  where
    low : place_of s (id_at s k) < place_count s
    low = place_low (ids_of s) k lt

    go : (place_of s (id_at s k) ≡ k) ⊎ (place_of s (id_at s k) ≡ k → ⊥) → place_of s (id_at s k) ≡ k
    go (inl e) = e
    go (inr ne) = absurd (differ s.setup.granule s.setup.endpoints (place_of s (id_at s k)) k valid.setup_valid.endpoints_each low lt ne (id_of_place s (id_at s k) low))

pub back_still : (s : ScriptValue) (w : World) (k : ℕ) → IsValid s → k < place_count s → (turn s w (who.Back (id_at s k))).turned ≢ Moved → BackStill s w k
back_still s w k valid lt ne =
    let e = place_id s k valid lt in
    subst (BackStill s w) e (id_still s w (id_at s k) (omega (arith, e, lt)) ne)
