-- A back end's turn under control, of its exchange.
use Rattle.std.proofs.Common.{◌≡◌, ◌≤◌, ◌||◌, nat_lt, ℕ, Bool, true, false, List, [], ◌∷◌, refl, arith, ◌∙◌, ap, sym, subst}
use Rattle.std.proofs.lemmas.Bool.Decides.{nat_tests}
use Rattle.vi_lines.specs.Value.{ScriptValue}
use Rattle.vi_bytes.specs.declared.lease.Lease.{Lease}
use Rattle.vi_iotlb.specs.declared.frame.Frame.{Frame}
use Rattle.vi_model.specs.Lanes.{Down, Update, Invalidate}
use Rattle.vi_model.specs.Control.{Link, Control, link_of, with_link}
use Rattle.vi_model.specs.Backs.{Seat, Access, Exchange, Asks, Receives, Rests, Accesses, wish, ask, receive, heard, finds}
use Rattle.vi_model.specs.Backs as model
use Rattle.vi_model.specs.Actors.{back_actor}
use Rattle.vi_model.specs.Turns.{wished, exchanged}
use Rattle.vi_backend.specs.Own.{Own, IsOwn}
use Rattle.vi_backend.specs.Laws.{WishesAgree}
use Rattle.vi_backend.specs.Wishes.{own_wish, tests_in, shown}
use Rattle.vi_backend.specs.declared.wish.Wish.TheVariants as shows
use Rattle.vi_core.specs.declared.turned.Turned.{Turned}
use Rattle.vi_core.specs.declared.turned.Turned.TheVariants.{Moved, Waiting, Rest}
use Rattle.vi_core.specs.Turning.{turned_of}
use Rattle.vi_control.specs.Value.{ControlValue, with_state}
use Rattle.vi_core.specs.BackTurns.{HasConverseRoom, Conversed, IsBacksTurn, Exchanged, HasAsked, HasReceived, turned_by}
use Rattle.vi_core.proofs.BackTurnsLinks.{with_count, link_kept}
use Rattle.vi_core.proofs.BackTurns.{receive_lanes, receive_reply, shown_ask}

-- what is told of a wish
shown_access : (w : model.Wish) (page : ℕ) → shown w ≡ shows.Access page → (lease : Lease) × (a : Access) × (w ≡ Accesses lease a)
shown_access (Accesses lease a) page h = (lease, a, refl)
shown_access (Asks m) page h = absurd cc
shown_access (Receives tests) page h = absurd cc
shown_access Rests page h = absurd cc

shown_receive : (w : model.Wish) → shown w ≡ shows.Receive → (tests : Bool) × (w ≡ Receives tests)
shown_receive (Accesses lease a) h = absurd cc
shown_receive (Asks m) h = absurd cc
shown_receive (Receives tests) h = (tests, refl)
shown_receive Rests h = absurd cc

shown_rest : (w : model.Wish) → shown w ≡ shows.Rest → w ≡ Rests
shown_rest (Accesses lease a) h = absurd cc
shown_rest (Asks m) h = absurd cc
shown_rest (Receives tests) h = absurd cc
shown_rest Rests h = refl

-- an access waits
pub accesses_wait : (v : ControlValue) (place page : ℕ) (b : Own) → IsOwn b → WishesAgree → shown (own_wish b) ≡ shows.Access page → IsBacksTurn place v v b b Waiting
accesses_wait v place page b own wishes h s p back =
    let t = shown_access (own_wish b) page h in
    let w : wish s place b.seat ≡ Accesses t.0 t.1 = sym (wishes s place b own back) ∙ t.2 in
    subst (λ w. Conversed (wished s place v.state (back_actor b.seat) w) v v b b Waiting) (sym w) (record { control = refl; back = refl; turned_is = refl })

-- a question moves
pub asks_move : (old new : ControlValue) (place : ℕ) (before after : Own) (f : Frame) → IsOwn before → WishesAgree → shown (own_wish before) ≡ shows.Ask f → HasAsked place old new before after → IsBacksTurn place old new before after Moved
unfolding ask
asks_move old new place before after f own wishes h asked s p back =
    let t = shown_ask (own_wish before) f h in
    let w : wish s place before.seat ≡ Asks t.0 = sym (wishes s place before own back) ∙ t.1 in
    let e = asked t.0 t.1 in
    subst (λ w. Conversed (wished s place old.state (back_actor before.seat) w) old new before after Moved) (sym w) (record { control = e.control; back = e.back; turned_is = refl })

-- what nothing moved stays
record Stays (c : Control) (place : ℕ) (z : Seat) (m : Exchange) : Type 0 where
  pub row : m.link ≡ link_of c place
  pub seat : m.seat ≡ z

exchange_turn : (place : ℕ) (idle : Turned) (m : Exchange) (old new : ControlValue) (before after : Own) (moved : Bool) → Exchanged place m old new before after moved
    → (m.moved ≡ false → Stays old.state place before.seat m) → Conversed (exchanged place (turned_of idle) old.state (back_actor before.seat) m) old new before after (turned_by moved idle)
exchange_turn place idle m old new before after moved e still = go m.moved refl where
  go : (b : Bool) → m.moved ≡ b → Conversed (exchanged place (turned_of idle) old.state (back_actor before.seat) m) old new before after (turned_by moved idle)
  go true q = rw (e.moved_is, q) (record { control = e.control; back = e.back; turned_is = refl })
  go false q =
      let stays = still q in
      rw (e.moved_is, q) (record {
        control = e.control ∙ ap (λ x. with_state (with_link old.state place x) old) stays.row ∙ ap (λ c. with_state c old) (link_kept old.state place);
        back = e.back ∙ ap (λ z. record before { seat = z }) stays.seat;
        turned_is = refl;
      })

-- what receives no frame, posts nothing new, made no access and finds nothing posted, stays
nothing_heard : (x : Link) (z : Seat) (found : Bool) → x.posted ≡ z.told → z.told ≤ z.finished → (nat_lt z.told z.finished || (nat_lt 0 z.since || found)) ≡ false
    → (with_count x z.finished ≡ x) × (heard z (z.ready || found) ≡ z)
nothing_heard x z found posted below h = go (nat_lt z.told z.finished) (nat_lt 0 z.since) found refl refl h where
  ready_as : (b : Bool) → (b || false) ≡ b
  ready_as true = refl
  ready_as false = refl

  go : (t u f : Bool) → nat_lt z.told z.finished ≡ t → nat_lt 0 z.since ≡ u → (t || (u || f)) ≡ false → (with_count x z.finished ≡ x) × (heard z (z.ready || f) ≡ z)
  go true u f p q h = absurd cc
  go false true f p q h = absurd cc
  go false false true p q h = absurd cc
  go false false false p q h =
      let told : z.finished ≡ z.told = grind (arith, nat_tests) in
      let since : 0 ≡ z.since = grind (arith, nat_tests) in (
        ap (λ n. with_count x n) (told ∙ sym posted),
        ap (λ r. heard z r) (ready_as z.ready) ∙ ap (λ n. record z { since = 0; told = n }) told ∙ ap (λ n. record z { since = n }) since,
      )

moved_absurd : {A : Type 0} → true ≡ false → A
moved_absurd h = absurd cc

receive_stays : (s : ScriptValue) (v : ControlValue) (place : ℕ) (tests : Bool) (b : Own) → HasConverseRoom v.plan v.state place b
    → (receive s v.state place tests (link_of v.state place) b.seat).moved ≡ false → Stays v.state place b.seat (receive s v.state place tests (link_of v.state place) b.seat)
receive_stays s v place tests b room h = go x.down x.replies refl refl where
  x : Link
  x = link_of v.state place

  m : Exchange
  m = receive s v.state place tests x b.seat

  told : b.seat.told ≤ b.seat.finished
  told = let own : IsOwn b = room.own in own.told_finished

  go : (down : List Down) (replies : List Bool) → x.down ≡ down → x.replies ≡ replies → Stays v.state place b.seat m
  go (Update lease ∷ down) replies e q = moved_absurd (sym (ap (λ (k : Exchange). k.moved) (receive_lanes s v.state place tests x b.seat (Update lease ∷ down) e)) ∙ h)
  go (Invalidate reach ∷ down) replies e q = moved_absurd (sym (ap (λ (k : Exchange). k.moved) (receive_lanes s v.state place tests x b.seat (Invalidate reach ∷ down) e)) ∙ h)
  go [] (fault ∷ replies) e q = moved_absurd (sym (ap (λ (k : Exchange). k.moved) (receive_reply s v.state place tests x b.seat (fault ∷ replies) e q)) ∙ h)
  go [] [] e q =
      let to = receive_reply s v.state place tests x b.seat [] e q in
      let n = nothing_heard x b.seat (finds s v.state place tests b.seat) room.told told (sym (ap (λ (k : Exchange). k.moved) to) ∙ h) in
      record { row = ap (λ (k : Exchange). k.link) to ∙ n.0; seat = ap (λ (k : Exchange). k.seat) to ∙ n.1 }

-- it receives, and waits where nothing came of it
pub receives_turn : (old new : ControlValue) (place : ℕ) (before after : Own) (moved : Bool) → HasConverseRoom old.plan old.state place before → WishesAgree → shown (own_wish before) ≡ shows.Receive
    → HasReceived place old new before after moved → IsBacksTurn place old new before after (turned_by moved Waiting)
receives_turn old new place before after moved room wishes h received s p back =
    let t = shown_receive (own_wish before) h in
    let w : wish s place before.seat ≡ Receives t.0 = sym (wishes s place before room.own back) ∙ t.1 in
    let e : Exchanged place (receive s old.state place t.0 (link_of old.state place) before.seat) old new before after moved =
    subst (λ w. Exchanged place (receive s old.state place (tests_in w) (link_of old.state place) before.seat) old new before after moved) t.1 (received s p back) in
    subst (λ w. Conversed (wished s place old.state (back_actor before.seat) w) old new before after (turned_by moved Waiting)) (sym w)
    (exchange_turn place Waiting (receive s old.state place t.0 (link_of old.state place) before.seat) old new before after moved e (receive_stays s old place t.0 before room))

-- it receives, and rests where nothing came of it
pub rests_turn : (old new : ControlValue) (place : ℕ) (before after : Own) (moved : Bool) → HasConverseRoom old.plan old.state place before → WishesAgree → shown (own_wish before) ≡ shows.Rest
    → HasReceived place old new before after moved → IsBacksTurn place old new before after (turned_by moved Rest)
rests_turn old new place before after moved room wishes h received s p back =
    let t = shown_rest (own_wish before) h in
    let w : wish s place before.seat ≡ Rests = sym (wishes s place before room.own back) ∙ t in
    let e : Exchanged place (receive s old.state place false (link_of old.state place) before.seat) old new before after moved =
    subst (λ w. Exchanged place (receive s old.state place (tests_in w) (link_of old.state place) before.seat) old new before after moved) t (received s p back) in
    subst (λ w. Conversed (wished s place old.state (back_actor before.seat) w) old new before after (turned_by moved Rest)) (sym w)
    (exchange_turn place Rest (receive s old.state place false (link_of old.state place) before.seat) old new before after moved e (receive_stays s old place false before room))
