-- In a sound world a back end's turn under control finds its room.
use Rattle.std.proofs.Common.{◌≡◌, ℕ, suc, ◌+◌, ◌≤◌, ◌<◌, Bool, true, false, List, [], ◌∷◌, length, map, All, slice_get, refl, ◌∙◌, ap, sym, subst, arith}
use Rattle.std.proofs.lemmas.List.FromFn.{get_or-map-range_with_len}
use Rattle.vi_lines.specs.Value.{ScriptValue}
use Rattle.vi_lines.specs.Calls.{awaits_in, awaits_of}
use Rattle.vi_model.specs.Asking.{one_if}
use Rattle.vi_model.specs.Backs.{Seat, Asks, wish}
use Rattle.vi_model.specs.Control.{link_of}
use Rattle.vi_model.specs.Lanes.{Miss}
use Rattle.vi_model.specs.Places.{ids_of, place_in, place_count, back_at}
use Rattle.vi_model.specs.Playable.{IsPlayable}
use Rattle.vi_model.specs.Sound.{IsSound, SoundParts}
use Rattle.vi_model.specs.Worlds.{World, seat_of}
use Rattle.vi_sound.proofs.Values.Ids.{place_of_id}
use Rattle.vi_sound.proofs.Space.Room.{asks_fit, acks_fit}
use Rattle.vi_backend.specs.Own.{Own, IsOwn, IsBackOf}
use Rattle.vi_backend.specs.Wishes.{own_wish, own_awaits}
use Rattle.vi_backend.proofs.Agreeing.{wishes_agree}
use Rattle.vi_control.specs.Calls.{IsCaller}
use Rattle.vi_control.specs.Plan.{transfer_of, transfers_of, plan_of}
use Rattle.vi_core.specs.BackTurns.{HasNoMiss, HasConverseRoom}
use Rattle.vi_core.proofs.DriveRoom.{awaited_callers}

-- where a reply is under way, the miss is open
asking_now : (b : Bool) → 1 ≤ one_if b → b ≡ true
asking_now true some = refl
asking_now false some = absurd (omega (arith, some))

replied_asks : (s : ScriptValue) (w : World) (place : ℕ) (fault : Bool) (rest : List Bool) → SoundParts s w → place < place_count s → (link_of w.control place).replies ≡ fault ∷ rest → (seat_of w place).asking ≡ true
replied_asks s w place fault rest ok below is =
    let one = (ok.backs place below).miss.one in
    let size : length (link_of w.control place).replies ≡ suc (length rest) = ap (λ (xs : List Bool). length xs) is in
    asking_now (seat_of w place).asking (omega (arith, one, size))

-- where it asks, it has no other miss
asks_alone : (s : ScriptValue) (w : World) (place : ℕ) (b : Own) (m : Miss) → IsSound s w → place < place_count s → IsBackOf s place b → IsOwn b → b.seat ≡ seat_of w place → own_wish b ≡ Asks m
    → HasNoMiss (link_of w.control place)
asks_alone s w place b m sound below back own seat asks =
    let now : wish s place (seat_of w place) ≡ Asks m = ap (wish s place) (sym seat) ∙ (sym (wishes_agree s place b own back) ∙ asks) in
    let none = asks_fit s w place m sound below now in
    record { up = none.0; parked = none.1 }

-- what it awaits is of callers that there are
own_awaited : (s : ScriptValue) (place : ℕ) (b : Own) → IsBackOf s place b → own_awaits b ≡ awaits_of s (back_at s place) (b.seat.finished + 1)
own_awaited s place b back =
    let on : b.seat.finished + 1 ≡ suc b.seat.finished = omega arith in
    rw on (ap (λ ls. awaits_in (slice_get ls b.seat.finished)) back.own_lines)

pub converse_room : (s : ScriptValue) (w : World) (place : ℕ) (b : Own) → IsPlayable s → IsSound s w → place < place_count s → IsBackOf s place b → IsOwn b → b.seat ≡ seat_of w place
    → HasConverseRoom (plan_of s) w.control place b
unfolding IsSound plan_of
converse_room s w place b play ok below back own seat = record {
  own = own;
  below = below;
  endpoint = ap (place_in (ids_of s)) back.endpoint ∙ place_of_id s place play.valid below;
  rows = record { grants = ok.tables.of_grants; spares = ok.tables.of_spares; mail = ok.tables.of_mail; parked = ok.tables.of_parked; posted = ok.tables.of_posted };
  transfers = get_or-map-range_with_len (transfers_of s) 0 (place_count s) place place [] below (omega arith) ∙ ap (λ ls. map (λ l. transfer_of l.job) ls) (sym back.own_lines);
  told = (ok.backs place below).miss.told ∙ ap (λ (z : Seat). z.told) (sym seat);
  asks = λ m asks. asks_alone s w place b m ok below back own seat asks;
  acks = λ reach rest is. acks_fit s w place reach rest play ok below is;
  reply = λ fault rest is. ap (λ (z : Seat). z.asking) seat ∙ replied_asks s w place fault rest ok below is;
  awaited = subst (All (λ a. IsCaller (ids_of s) a.caller)) (sym (own_awaited s place b back)) (awaited_callers s (back_at s place) (b.seat.finished + 1) play.valid);
}
