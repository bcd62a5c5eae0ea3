-- The device's turn keeps the world sound.
use Rattle.std.proofs.Common.{◌≡◌, ℕ, suc, ◌+◌, ◌<◌, Bool, true, false, cond, List, [], ◌∷◌, length, Option, Some, None, refl, arith, ap, subst}
use Rattle.std.specs.Prelude.{nat_lt, is_some}
use Rattle.std.specs.List.{find, range_with_len}
use Rattle.std.proofs.lemmas.Bool.{ltb-true}
use Rattle.vi_lines.specs.Value.{ScriptValue}
use Rattle.vi_lines.specs.Valid.{IsValid}
use Rattle.vi_model.specs.Lanes.{Miss}
use Rattle.vi_model.specs.Removals.{Removal, first_ready}
use Rattle.vi_model.specs.Control.{Queued, Setting, Link, driver_count, port_of, link_of}
use Rattle.vi_model.specs.Places.{place_count, id_at}
use Rattle.vi_model.specs.Starts.{finish, queued_call, setting_call}
use Rattle.vi_model.specs.Serves.{serve_ack}
use Rattle.vi_model.specs.Device.{first_setting, has_frame, first_frame, is_free, first_free, serve_parked, serve_up, serve_frame, start_setting, rule_setting, rule_queue, rule_frame, rule_parked, rule_finish, device_turn}
use Rattle.vi_model.specs.Worlds.{World, seat_of}
use Rattle.vi_model.specs.Asking.{one_if, count_option, AreCurrent, ParkedIsCurrent, AsksOnce}
use Rattle.vi_model.specs.Sound.{SoundParts}
use Rattle.vi_sound.proofs.Moves.Starts.{ready_far}
use Rattle.vi_sound.proofs.Moves.Serves.{Takes, ack_sound, miss_sound}
use Rattle.vi_sound.proofs.Moves.Calls.{after_device, answer_sound, start_sound}
use Rattle.vi_sound.proofs.Moves.Holds.{hold_queue, hold_setting, hold_removal, less_queue, less_setting, less_removal, found_below}

finish_sound : (s : ScriptValue) (w : World) (r : Removal) → SoundParts s w → first_ready w.control.removals ≡ Some r → SoundParts s (after_device w (Some (finish w.control r)))
unfolding finish
finish_sound s w r ok h =
    answer_sound s (less_removal w) r.driver r.line r.task (hold_removal s w r ok h)
    (λ k below p l f n i rem. ready_far w.control.dev (id_at s k) k (link_of w.control k).grants r w.control.removals h (ok.backs k below).link.wait p l f n i)

-- the open miss of a back end that asks, in its three places
open_one : (b : Bool) (n : ℕ) → n + 1 ≡ one_if b → (n ≡ 0) × (b ≡ true)
open_one true n h = (omega (arith, h), refl)
open_one false n h = absurd (omega (arith, h))

no_more : {A : Type 0} (xs : List A) → length xs ≡ 0 → xs ≡ []
no_more [] h = refl
no_more (x ∷ xs) h = absurd (omega (arith, h))

no_some : {A : Type 0} (o : Option A) → count_option o ≡ 0 → o ≡ None
no_some None h = refl
no_some (Some x) h = absurd (omega (arith, h))

pub takes_up : (s : ScriptValue) (w : World) (k : ℕ) (m : Miss) (ms : List Miss) → SoundParts s w → k < place_count s → (link_of w.control k).up ≡ m ∷ ms → (let x : Link = link_of w.control k in Takes s w k (record x { up = ms }) m)
takes_up s w k m ms ok lt e = record {
  below = lt;
  grants = refl;
  spare = refl;
  down = refl;
  acks = refl;
  posted = refl;
  replies = refl;
  up = no_more ms (omega (arith, none.0));
  parked = no_some x.parked (omega (arith, none.0));
  answered = no_more x.replies (omega (arith, none.0));
  current = (subst (AreCurrent s k (seat_of w k)) e miss.up).0;
  opened = none.1;
}
  where
    x : Link
    x = link_of w.control k

    miss : AsksOnce s k x (seat_of w k)
    miss = (ok.backs k lt).miss

    none : (length ms + (count_option x.parked + length x.replies) ≡ 0) × ((seat_of w k).asking ≡ true)
    none = open_one (seat_of w k).asking (length ms + (count_option x.parked + length x.replies)) (let n = miss.one in let u : length x.up ≡ suc (length ms) = ap (λ (v : List Miss). length v) e in omega (arith, n, u))

pub takes_parked : (s : ScriptValue) (w : World) (k : ℕ) (m : Miss) → SoundParts s w → k < place_count s → (link_of w.control k).parked ≡ Some m → (let x : Link = link_of w.control k in Takes s w k (record x { parked = None }) m)
takes_parked s w k m ok lt e = record {
  below = lt;
  grants = refl;
  spare = refl;
  down = refl;
  acks = refl;
  posted = refl;
  replies = refl;
  up = no_more x.up (omega (arith, none.0));
  parked = refl;
  answered = no_more x.replies (omega (arith, none.0));
  current = subst (ParkedIsCurrent s k (seat_of w k)) e miss.parked;
  opened = none.1;
}
  where
    x : Link
    x = link_of w.control k

    miss : AsksOnce s k x (seat_of w k)
    miss = (ok.backs k lt).miss

    none : (length x.up + length x.replies ≡ 0) × ((seat_of w k).asking ≡ true)
    none = open_one (seat_of w k).asking (length x.up + length x.replies) (let n = miss.one in let u : count_option x.parked ≡ 1 = ap (λ (o : Option Miss). count_option o) e in omega (arith, n, u))

-- a place that is found is there
pub below_count : (p : ℕ → Bool) (n k : ℕ) → find p (range_with_len 0 n) ≡ Some k → k < n
below_count p n k h = let r = (found_below p 0 n k h).0 in omega (arith, r)

setting_rule : (s : ScriptValue) (w : World) (o : Option ℕ) → SoundParts s w → first_setting w.control ≡ o → SoundParts s (after_device w (rule_setting s w.control o))
setting_rule s w None ok e = ok
setting_rule s w (Some j) ok e = go (port_of w.control j).setting refl
  where
    go : (o : Option Setting) → (port_of w.control j).setting ≡ o → SoundParts s (after_device w (start_setting s w.control j o))
    go None q = ok
    go (Some x) q = start_sound s (less_setting w j) (setting_call j x) (hold_setting s w j x ok (below_count (λ driver. is_some (port_of w.control driver).setting) driver_count j e) q)

queue_rule : (s : ScriptValue) (w : World) (qs : List Queued) → SoundParts s w → w.control.queue ≡ qs → SoundParts s (after_device w (rule_queue s w.control qs))
queue_rule s w [] ok e = setting_rule s w (first_setting w.control) ok refl
queue_rule s w (q ∷ qs) ok e = start_sound s (less_queue w qs) (queued_call q) (hold_queue s w q qs ok e)

frame_serve : (s : ScriptValue) (w : World) (k : ℕ) → IsValid s → SoundParts s w → k < place_count s → SoundParts s (after_device w (serve_frame s w.control k))
frame_serve s w k valid ok lt = go (nat_lt 0 (link_of w.control k).acks) refl
  where
    up : (ms : List Miss) → (link_of w.control k).up ≡ ms → SoundParts s (after_device w (serve_up s w.control k ms))
    up [] e = ok
    up (m ∷ ms) e = let x : Link = link_of w.control k in miss_sound s w k (record x { up = ms }) m valid ok (takes_up s w k m ms ok lt e)

    go : (b : Bool) → nat_lt 0 (link_of w.control k).acks ≡ b → SoundParts s (after_device w (cond b (Some (record { control = serve_ack w.control k; entry = None })) (serve_up s w.control k (link_of w.control k).up)))
    go true e = ack_sound s w k ok lt (ltb-true 0 (link_of w.control k).acks e)
    go false e = up (link_of w.control k).up refl

frame_rule : (s : ScriptValue) (w : World) (o : Option ℕ) → IsValid s → SoundParts s w → first_frame s w.control ≡ o → SoundParts s (after_device w (rule_frame s w.control o))
frame_rule s w None valid ok e = queue_rule s w w.control.queue ok refl
frame_rule s w (Some k) valid ok e = frame_serve s w k valid ok (below_count (has_frame w.control) (place_count s) k e)

parked_rule : (s : ScriptValue) (w : World) (o : Option ℕ) → IsValid s → SoundParts s w → first_free s w.control ≡ o → SoundParts s (after_device w (rule_parked s w.control o))
parked_rule s w None valid ok e = frame_rule s w (first_frame s w.control) valid ok refl
parked_rule s w (Some k) valid ok e = go (link_of w.control k).parked refl
  where
    lt : k < place_count s
    lt = below_count (λ place. is_free s w.control place (link_of w.control place).parked) (place_count s) k e

    go : (o : Option Miss) → (link_of w.control k).parked ≡ o → SoundParts s (after_device w (serve_parked s w.control k o))
    go None p = ok
    go (Some m) p = let x : Link = link_of w.control k in miss_sound s w k (record x { parked = None }) m valid ok (takes_parked s w k m ok lt p)

pub device_sound : (s : ScriptValue) (w : World) → IsValid s → SoundParts s w → SoundParts s (after_device w (device_turn s w.control))
unfolding device_turn
device_sound s w valid ok = go (first_ready w.control.removals) refl
  where
    go : (o : Option Removal) → first_ready w.control.removals ≡ o → SoundParts s (after_device w (rule_finish s w.control o))
    go None e = parked_rule s w (first_free s w.control) valid ok refl
    go (Some r) e = finish_sound s w r ok e
