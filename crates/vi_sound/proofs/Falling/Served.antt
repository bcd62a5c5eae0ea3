-- What a place may still cost falls where the device serves a miss of it.
use Rattle.std.proofs.Common.{◌≡◌, ℕ, ◌+◌, ◌≤◌, Bool, true, false, cond, ◌&&◌, ◌||◌, List, [], ◌∷◌, ◌++◌, length, Option, Some, None, refl, arith, ◌∙◌, ap, sym}
use Rattle.std.specs.Prelude.{nat_lt}
use Rattle.vi_bytes.specs.Leases.{has_page}
use Rattle.vi_bytes.specs.declared.lease.Lease.{Lease}
use Rattle.vi_history.specs.Translation.{permits}
use Rattle.vi_lines.specs.Value.{ScriptValue}
use Rattle.vi_lines.specs.Calls.{lines_of}
use Rattle.vi_model.specs.Lanes.{Down, Update, Invalidate, Miss}
use Rattle.vi_model.specs.Control.{Link, link_of}
use Rattle.vi_model.specs.Places.{back_at}
use Rattle.vi_model.specs.Starts.{any}
use Rattle.vi_model.specs.Serves.{page_of, granted_link, faulted_link, parked_link}
use Rattle.vi_model.specs.Backs.{Seat, Access, need_of, access_at}
use Rattle.vi_model.specs.Worlds.{World, seat_of}
use Rattle.vi_model.specs.Asking.{one_if, count_option, IsCurrent}
use Rattle.vi_model.specs.Sound.{SoundParts}
use Rattle.vi_model.specs.Bound.{current_access, is_cached, brings, is_coming, down_cost, reply_cost, is_busy, lack, work_left, place_cost}
use Rattle.vi_sound.proofs.Falling.Costs.{or_true, work_drops}
use Rattle.vi_sound.proofs.Falling.Falls.{busy_lack, access_line}
use Rattle.vi_sound.proofs.Moves.Serves.{Takes}

-- a miss asks for the current part
pub asks_for : (s : ScriptValue) (k : ℕ) (z : Seat) (m : Miss) → (cur : IsCurrent s k z m) → current_access s k z ≡ Some cur.access
asks_for s k z m cur = ap (λ n. access_at s k n (z.done + 1)) (sym cur.line) ∙ (ap (λ n. access_at s k m.line n) (sym cur.part) ∙ cur.is_access)

pub asks_brings : (s : ScriptValue) (k : ℕ) (z : Seat) (m : Miss) (l : Lease) → IsCurrent s k z m → has_page l (page_of m.iova) ≡ true → permits m.need l.perm ≡ true → brings (current_access s k z) l ≡ true
asks_brings s k z m l cur page may =
    let p : has_page l (page_of cur.access.part.iova) ≡ true = ap (λ n. has_page l (page_of n)) cur.iova ∙ page in
    let q : permits (need_of cur.access.work) l.perm ≡ true = ap (λ n. permits n l.perm) cur.need ∙ may in
    ap (λ o. brings o l) (asks_for s k z m cur) ∙ (ap (λ b. b && permits (need_of cur.access.work) l.perm) p ∙ q)

down_more : (o : Option Access) (l : Lease) (fs : List Down) → down_cost o (fs ++ Update l ∷ []) ≡ down_cost o fs + cond (brings o l) 1 6
down_more o l [] = omega arith
down_more o l (Update m ∷ fs) = let i = down_more o l fs in omega (arith, i)
down_more o l (Invalidate r ∷ fs) = let i = down_more o l fs in omega (arith, i)

coming_more : (o : Option Access) (l : Lease) (fs : List Down) → brings o l ≡ true → is_coming o (fs ++ Update l ∷ []) ≡ true
coming_more o l [] h = ap (λ b. b || false) h
coming_more o l (Update m ∷ fs) h = ap (λ b. brings o m || b) (coming_more o l fs h) ∙ or_true (brings o m)
coming_more o l (Invalidate r ∷ fs) h = coming_more o l fs h

update_one : (n : ℕ) (b : Bool) → b ≡ true → n + cond b 1 6 ≡ n + 1
update_one n true h = refl
update_one n false h = absurd cc

lack_covered : (b c : Bool) → c ≡ true → lack b c ≡ 0
lack_covered true c h = refl
lack_covered false true h = refl
lack_covered false false h = absurd cc

-- y is the place's link before its miss is taken, x after
pub record Before (x y : Link) : Type 0 where
  pub acks : x.acks ≡ y.acks
  pub down : x.down ≡ y.down
  pub up : x.up ≡ []
  pub parked : x.parked ≡ None
  pub none : x.replies ≡ []
  pub replies : y.replies ≡ []
  pub one : length y.up + count_option y.parked ≡ 1

pub before_of : (s : ScriptValue) (w : World) (k : ℕ) (x : Link) (m : Miss) → SoundParts s w → Takes s w k x m → Before x (link_of w.control k)
before_of s w k x m ok t = record {
  acks = t.acks;
  down = t.down;
  up = t.up;
  parked = t.parked;
  none = t.answered;
  replies = none;
  one = (let o = (ok.backs k t.below).miss.one in let c : one_if (seat_of w k).asking ≡ 1 = ap one_if t.opened in let r : length (link_of w.control k).replies ≡ 0 = ap (λ (v : List Bool). length v) none in omega (arith, o, c, r));
}
  where
    none : (link_of w.control k).replies ≡ []
    none = sym t.replies ∙ t.answered

pub grant_falls : (s : ScriptValue) (k page : ℕ) (x y : Link) (z : Seat) (l : Lease) → Before x y → brings (current_access s k z) l ≡ true → place_cost s k (granted_link x page (Some l)) z + 1 ≤ place_cost s k y z
grant_falls s k page x y z l b h =
    let o : Option Access = current_access s k z in
    let a = b.acks in
    let one = b.one in
    let d : down_cost o (x.down ++ Update l ∷ []) ≡ down_cost o y.down + cond (brings o l) 1 6 = ap (λ fs. down_cost o (fs ++ Update l ∷ [])) b.down ∙ down_more o l y.down in
    let e = update_one (down_cost o y.down) (brings o l) h in
    let u : length x.up ≡ 0 = ap (λ (v : List Miss). length v) b.up in
    let p : count_option x.parked ≡ 0 = ap (λ (v : Option Miss). count_option v) b.parked in
    let r : reply_cost (x.replies ++ false ∷ []) ≡ 1 = ap (λ v. reply_cost (v ++ false ∷ [])) b.none in
    let y' = lack_covered (is_busy x.up x.parked (x.replies ++ false ∷ [])) (is_cached o z.cache || is_coming o (x.down ++ Update l ∷ [])) (ap (λ v. is_cached o z.cache || v) (coming_more o l x.down h) ∙ or_true (is_cached o z.cache)) in
    let w : work_left (lines_of s (back_at s k)) (any (x.replies ++ false ∷ [])) z.finished z.done ≡ work_left (lines_of s (back_at s k)) (any y.replies) z.finished z.done =
    ap (λ v. work_left (lines_of s (back_at s k)) (any (v ++ false ∷ [])) z.finished z.done) b.none ∙ sym (ap (λ v. work_left (lines_of s (back_at s k)) (any v) z.finished z.done) b.replies) in
    omega (arith, a, one, d, e, u, p, r, y', w)

-- with room for the record of the fault
pub fault_falls : (s : ScriptValue) (k : ℕ) (x y : Link) (z : Seat) (m : Miss) → Before x y → IsCurrent s k z m → place_cost s k (faulted_link x) z + 2 ≤ place_cost s k y z
fault_falls s k x y z m b cur =
    let o : Option Access = current_access s k z in
    let a = b.acks in
    let one = b.one in
    let d : down_cost o x.down ≡ down_cost o y.down = ap (down_cost o) b.down in
    let u : length x.up ≡ 0 = ap (λ (v : List Miss). length v) b.up in
    let p : count_option x.parked ≡ 0 = ap (λ (v : Option Miss). count_option v) b.parked in
    let r : reply_cost (x.replies ++ true ∷ []) ≡ 8 = ap (λ v. reply_cost (v ++ true ∷ [])) b.none in
    let busy : is_busy x.up x.parked (x.replies ++ true ∷ []) ≡ true = ap (λ v. is_busy x.up x.parked (v ++ true ∷ [])) b.none ∙ or_true (nat_lt 0 (length x.up + count_option x.parked)) in
    let y' : lack (is_busy x.up x.parked (x.replies ++ true ∷ [])) (is_cached o z.cache || is_coming o x.down) ≡ 0 = ap (λ v. lack v (is_cached o z.cache || is_coming o x.down)) busy in
    let w : work_left (lines_of s (back_at s k)) (any (x.replies ++ true ∷ [])) z.finished z.done ≡ work_left (lines_of s (back_at s k)) true z.finished z.done =
    ap (λ v. work_left (lines_of s (back_at s k)) (any (v ++ true ∷ [])) z.finished z.done) b.none in
    let v : work_left (lines_of s (back_at s k)) (any y.replies) z.finished z.done ≡ work_left (lines_of s (back_at s k)) false z.finished z.done = ap (λ v. work_left (lines_of s (back_at s k)) (any v) z.finished z.done) b.replies in
    let here = access_line s k z.finished z.done cur.access (asks_for s k z m cur) in
    let f = work_drops (lines_of s (back_at s k)) z.finished z.done here.0 here.1 here.2 in
    omega (arith, a, one, d, u, p, r, y', w, v, f)

pub park_falls : (s : ScriptValue) (k : ℕ) (x y : Link) (z : Seat) (m : Miss) → Before x y → y.parked ≡ None → place_cost s k (parked_link x m) z + 1 ≤ place_cost s k y z
park_falls s k x y z m b free =
    let o : Option Access = current_access s k z in
    let a = b.acks in
    let one = b.one in
    let d : down_cost o x.down ≡ down_cost o y.down = ap (down_cost o) b.down in
    let u : length x.up ≡ 0 = ap (λ (v : List Miss). length v) b.up in
    let p : count_option y.parked ≡ 0 = ap (λ (v : Option Miss). count_option v) free in
    let r : reply_cost x.replies ≡ reply_cost y.replies = ap reply_cost (b.none ∙ sym b.replies) in
    let y' : lack (is_busy x.up (Some m) x.replies) (is_cached o z.cache || is_coming o x.down) ≡ 0 = busy_lack (length x.up + 1) (any x.replies) (is_cached o z.cache || is_coming o x.down) (omega arith) in
    let w : work_left (lines_of s (back_at s k)) (any x.replies) z.finished z.done ≡ work_left (lines_of s (back_at s k)) (any y.replies) z.finished z.done = ap (λ v. work_left (lines_of s (back_at s k)) (any v) z.finished z.done) (b.none ∙ sym b.replies) in
    omega (arith, a, one, d, u, p, r, y', w)
