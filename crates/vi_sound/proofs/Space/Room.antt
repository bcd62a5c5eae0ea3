-- The laws of bounds and of room.
use Rattle.std.proofs.Common.{◌≡◌, ℕ, suc, ◌<◌, ◌≤◌, List, [], ◌∷◌, length, Option, Some, None, refl, arith, ap, sym, ◌∙◌, inl, inr}
use Rattle.vi_lines.specs.Value.{ScriptValue}
use Rattle.vi_lines.specs.Valid.{IsValid}
use Rattle.vi_model.specs.Lanes.{Down, Miss, sent_reaches}
use Rattle.vi_model.specs.Control.{Queued, Setting, Link, Started, driver_count, port_of, link_of}
use Rattle.vi_model.specs.Places.{place_count}
use Rattle.vi_model.specs.Starts.{queued_call, setting_call}
use Rattle.vi_model.specs.Worlds.{World, seat_of}
use Rattle.vi_model.specs.Asking.{one_if, count_option}
use Rattle.vi_model.specs.Sound.{SoundParts, IsSound}
use Rattle.vi_model.specs.Bounds.{AcksAreAwaited, MappingsAreWhole, HistoryFits, OpenCallsFit, SubmitsFit, AnswersOnce, CallsFit, HasFewFrames, LanesFit, HasStartRoom, RequestsFit, SettingsFit, HasMissRoom, MissesFit, AsksFit, AcksFit}
use Rattle.vi_sound.proofs.Space.Counts.{history_few}
use Rattle.vi_sound.proofs.Space.Bounds.{acks_awaited, one_most, waiting_few, removal_room, lanes_few, acks_few}
use Rattle.vi_sound.proofs.Space.Maps.{map_room}
use Rattle.vi_sound.proofs.Moves.Drives.{no_setting}
use Rattle.vi_sound.proofs.Space.Faults.{faults_few, transfers_few, record_room, grant_room}
use Rattle.vi_sound.proofs.Space.OpenCalls.{open_calls_few, submits_few}
use Rattle.vi_sound.proofs.Moves.Asks.{wishes_ask}
use Rattle.vi_sound.proofs.Moves.Holds.{hold_queue, hold_setting, less_queue, less_setting}
use Rattle.vi_sound.proofs.Moves.Serves.{Takes}
use Rattle.vi_sound.proofs.Moves.Devices.{takes_up, takes_parked}

pub history_fits : HistoryFits
unfolding IsSound
history_fits s w play ok = history_few s w play.valid ok

pub calls_fit : CallsFit
unfolding IsSound
calls_fit s w play ok = waiting_few s w play.valid ok

frames_few : (s : ScriptValue) (w : World) (k : ℕ) → IsValid s → SoundParts s w → k < place_count s → HasFewFrames (link_of w.control k)
frames_few s w k valid ok lt =
    let a = waiting_few s w valid ok in
    let b = (lanes_few s w k ok lt).0 in
    let c = (lanes_few s w k ok lt).1 in
    let e = acks_few s w k ok lt in
    record { down = omega (arith, a, b, c); acks = omega (arith, a, e); up = omega (arith, c); replies = omega (arith, c) }

pub lanes_fit : LanesFit
unfolding IsSound
lanes_fit s w place play ok lt = frames_few s w place play.valid ok lt

-- with one more removal the lanes have room for its Invalidate
lanes_start : (s : ScriptValue) (w : World) (k : ℕ) → SoundParts s w → length w.control.removals < 8 → k < place_count s → length (link_of w.control k).down ≤ 8
lanes_start s w k ok less lt = let b = (lanes_few s w k ok lt).0 in let c = (lanes_few s w k ok lt).1 in omega (arith, b, c, less)

request_room : (s : ScriptValue) (w : World) (q : Queued) (rest : List Queued) → IsValid s → SoundParts s w → w.control.queue ≡ q ∷ rest → HasStartRoom (place_count s) w.control (queued_call q)
request_room s w q rest valid ok e =
    let c : Started = queued_call q in
    let held = hold_queue s w q rest ok e in
    let less = removal_room s (less_queue w rest) c.driver c.line c.task valid held in
    record {
      removal = omega (arith, less);
      lanes = λ k lt. lanes_start s w k ok (omega (arith, less)) lt;
      mapping = λ is d. map_room s (less_queue w rest) c.driver c.line c.task d valid held is;
    }

pub requests_fit : RequestsFit
unfolding IsSound
requests_fit s w q rest play ok e = request_room s w q rest play.valid ok e

setting_room : (s : ScriptValue) (w : World) (j : ℕ) (x : Setting) → IsValid s → SoundParts s w → j < driver_count → (port_of w.control j).setting ≡ Some x → HasStartRoom (place_count s) w.control (setting_call j x)
setting_room s w j x valid ok lt e =
    let c : Started = setting_call j x in
    let held = hold_setting s w j x ok lt e in
    let less = removal_room s (less_setting w j) c.driver c.line c.task valid held in
    record {
      removal = omega (arith, less);
      lanes = λ k below. lanes_start s w k ok (omega (arith, less)) below;
      mapping = λ is d. map_room s (less_setting w j) c.driver c.line c.task d valid held is;
    }

pub settings_fit : SettingsFit
unfolding IsSound
settings_fit s w driver x play ok lt e = setting_room s w driver x play.valid ok lt e

miss_room : (s : ScriptValue) (w : World) (k : ℕ) (x : Link) (m : Miss) → IsValid s → SoundParts s w → Takes s w k x m → HasMissRoom w.control (link_of w.control k) m
miss_room s w k x m valid ok t =
    let none : (link_of w.control k).replies ≡ [] = sym t.replies ∙ t.answered in
    let size : length (link_of w.control k).replies ≡ 0 = ap length none in
    let a = waiting_few s w valid ok in
    let b = (lanes_few s w k ok t.below).0 in
    record {
      grant = λ free. grant_room s w k x m ok t free;
      update = omega (arith, a, b, size);
      reply = none;
      shown = record_room s w k x m valid ok t;
      alone = let one = (ok.backs k t.below).miss.one in let most = one_most (seat_of w k).asking in omega (arith, one, most);
      faults = let few = faults_few s w k x m valid ok t in let all = transfers_few s in let most = valid.few in omega (arith, few, all, most);
    }

pub misses_fit : MissesFit
unfolding IsSound
misses_fit s w k m play ok lt (inl up) = let x : Link = link_of w.control k in miss_room s w k (record x { up = up.0 }) m play.valid ok (takes_up s w k m up.0 ok lt up.1)
misses_fit s w k m play ok lt (inr parked) = let x : Link = link_of w.control k in miss_room s w k (record x { parked = None }) m play.valid ok (takes_parked s w k m ok lt parked)

pub asks_fit : AsksFit
unfolding IsSound
asks_fit s w k m ok lt e =
    let wishes = wishes_ask s k (seat_of w k) m e in
    let one = (ok.backs k lt).miss.one in
    let idle : one_if (seat_of w k).asking ≡ 0 = ap one_if wishes.idle in
    (none_more (link_of w.control k).up (omega (arith, one, idle)), not_there (link_of w.control k).parked (omega (arith, one, idle)))
  where
    not_there : (o : Option Miss) → count_option o ≡ 0 → o ≡ None
    not_there None h = refl
    not_there (Some m) h = absurd (omega (arith, h))

    none_more : (xs : List Miss) → length xs ≡ 0 → xs ≡ []
    none_more [] h = refl
    none_more (x ∷ xs) h = absurd (omega (arith, h))

pub acks_fit : AcksFit
unfolding IsSound
acks_fit s w k reach rest play ok lt e =
    let size : length (sent_reaches (link_of w.control k).down) ≡ suc (length (sent_reaches rest)) = ap (λ (fs : List Down). length (sent_reaches fs)) e in
    let a = acks_few s w k ok lt in
    let b = waiting_few s w play.valid ok in
    omega (arith, size, a, b)

pub open_calls_fit : OpenCallsFit
unfolding IsSound
open_calls_fit s w play ok = open_calls_few s w play.valid ok

pub submits_fit : SubmitsFit
unfolding IsSound
submits_fit s w j l play ok lt next batch = record { call = submits_few s w j l play.valid ok lt next batch; setting = no_setting s w j play ok lt batch }

pub answers_once : AnswersOnce
unfolding IsSound
answers_once s w j line ok lt = let d = ok.drivers j lt in let one = d.one line in let once = d.once line in omega (arith, one, once)

pub acks_are_awaited : AcksAreAwaited
unfolding IsSound
acks_are_awaited s w k ok lt some = acks_awaited s w k ok lt some

pub mappings_are_whole : MappingsAreWhole
unfolding IsSound
mappings_are_whole s w ok = ok.whole
