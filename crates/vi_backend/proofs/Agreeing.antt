-- A back end by its own lines, and by the whole script.
use Rattle.std.proofs.Common.{zero, ◌≡◌, ℕ, suc, ◌+◌, ◌-◌, ◌≤◌, Bool, ◌||◌, Some, None, length, take, drop, refl, ap, ◌∙◌, arith}
use Rattle.std.specs.Prelude.{map}
use Rattle.std.specs.List.{list_any, range_with_len, slice_get}
use Rattle.vi_lines.specs.Value.{ScriptValue}
use Rattle.vi_lines.specs.Calls.{call_of, line_of}
use Rattle.vi_model.specs.Lanes.{Update, Invalidate}
use Rattle.vi_model.specs.Places.{back_at}
use Rattle.vi_model.specs.Posted.{is_awaited}
use Rattle.vi_model.specs.Backs.{wish, ask, access, receive, owes_posting, access_at, with_cache}
use Rattle.vi_backend.specs.Own.{Own, IsOwn, IsBackOf}
use Rattle.vi_backend.specs.Wishes.{own_wish, own_access, owes, current_line}
use Rattle.vi_backend.specs.Laws.{WishesAgree, AccessesAgree, AsksAgree, FramesAgree, RepliesAgree, HeardAgrees}
use Rattle.vi_backend.proofs.Cached.{all_is_all}

pub asks_agree : AsksAgree
unfolding ask
asks_agree x z m = refl

pub heard_agrees : HeardAgrees
unfolding receive
heard_agrees s c place tests x z none empty = rw (none, empty) refl

pub replies_agree : RepliesAgree
unfolding receive
replies_agree s c place tests x b fault replies none one = rw (none, one) refl

pub frames_agree : FramesAgree
unfolding receive
frames_agree s c place tests x b (Update lease) down own back e = rw (e, back.own_capacity) refl
frames_agree s c place tests x b (Invalidate None) down own back e = rw (e) (ap (with_cache b.seat) (all_is_all b.seat.cache own.leases))
frames_agree s c place tests x b (Invalidate (Some span)) down own back e = rw (e) refl

-- one of the first elements that passes the test of its number
module _ (f : ℕ → Bool) where
  any_taken : (n a m : ℕ) → n ≤ m → list_any (λ b. b) (take n (map f (range_with_len a m))) ≡ list_any f (range_with_len a n)
  any_taken zero a m below = refl
  any_taken (suc n) a zero below = absurd (omega arith)
  any_taken (suc n) a (suc m) below = ap (λ b. f a || b) (any_taken n (a + 1) m (omega arith))

  drop_counted : (k a m : ℕ) → k ≤ m → drop k (map f (range_with_len a m)) ≡ map f (range_with_len (a + k) (m - k))
  drop_counted zero a m below = let here : a + 0 ≡ a = omega arith in let whole : m - 0 ≡ m = omega arith in rw (here, whole) refl
  drop_counted (suc k) a zero below = absurd (omega arith)
  drop_counted (suc k) a (suc m) below =
      let on : a + 1 + k ≡ a + suc k = omega arith in
      let less : suc m - suc k ≡ m - k = omega arith in
      rw less (drop_counted k (a + 1) m (omega arith) ∙ ap (λ n. map f (range_with_len n (m - k))) on)

  any_between : (told finished m : ℕ) → told ≤ finished → finished ≤ m
      → list_any (λ b. b) (take (finished - told) (drop told (map f (range_with_len 1 m)))) ≡ list_any f (range_with_len (told + 1) (finished - told))
  any_between told finished m from to =
      let on : 1 + told ≡ told + 1 = omega arith in
      ap (λ xs. list_any (λ b. b) (take (finished - told) xs)) (drop_counted told 1 m (omega arith) ∙ ap (λ n. map f (range_with_len n (m - told))) on)
      ∙ any_taken (finished - told) (told + 1) (m - told) (omega arith)

owes_agrees : (s : ScriptValue) (place : ℕ) (b : Own) → IsOwn b → IsBackOf s place b → owes b ≡ owes_posting s place b.seat
owes_agrees s place b own back =
    ap (λ xs. list_any (λ awaited. awaited) (take (b.seat.finished - b.seat.told) (drop b.seat.told xs))) back.own_awaited
    ∙ any_between (is_awaited s (back_at s place)) b.seat.told b.seat.finished (length b.lines) own.told_finished own.finished_lines

line_agrees : (s : ScriptValue) (place : ℕ) (b : Own) → IsBackOf s place b → current_line b ≡ line_of s (back_at s place) (b.seat.finished + 1)
line_agrees s place b back =
    let on : b.seat.finished + 1 ≡ suc b.seat.finished = omega arith in
    rw (on) (ap (λ ls. slice_get ls b.seat.finished) back.own_lines)

access_agrees : (s : ScriptValue) (place : ℕ) (b : Own) → IsBackOf s place b → own_access b ≡ access_at s place (b.seat.finished + 1) (b.seat.done + 1)
unfolding call_of
access_agrees s place b back = rw (line_agrees s place b back, back.endpoint) refl

pub wishes_agree : WishesAgree
unfolding own_wish wish
wishes_agree s place b own back =
    rw (owes_agrees s place b own back, access_agrees s place b back, line_agrees s place b back, back.own_lines) refl

pub accesses_agree : AccessesAgree
unfolding access
accesses_agree s place b lease a page back = rw (line_agrees s place b back, back.endpoint) refl
