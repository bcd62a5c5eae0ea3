-- What a place may still cost falls where its back end moves.
use Rattle.std.proofs.Common.{◌≡◌, ℕ, suc, ◌+◌, ◌-◌, ◌*◌, ◌≤◌, ◌<◌, Bool, true, false, cond, ◌&&◌, ◌||◌, List, [], ◌∷◌, ◌++◌, length, slice_get, Option, Some, None, IsSome, refl, arith, ◌∙◌, ap, sym, subst, inl, inr}
use Rattle.std.specs.Prelude.{nat_lt, nat_le, is_some}
use Rattle.std.proofs.lemmas.Bool.{and_parts, leb-true}
use Rattle.std.proofs.lemmas.Bool.Decides.{nat_tests}
use Rattle.vi_bytes.specs.declared.lease.Lease.{Lease}
use Rattle.vi_history.specs.Translation.{permits}
use Rattle.vi_history.specs.declared.call.Caller.{Caller}
use Rattle.vi_lines.specs.declared.line.Line.{Line}
use Rattle.vi_lines.specs.Value.{ScriptValue}
use Rattle.vi_lines.specs.Calls.{lines_of, line_of, parts_of, back_call, call_of}
use Rattle.vi_model.specs.Lanes.{Down, Update, Invalidate, Miss, count_updates}
use Rattle.vi_model.specs.Caches.{cached_at, untouched}
use Rattle.vi_model.specs.Control.{Link, Control}
use Rattle.vi_model.specs.Places.{id_at, back_at}
use Rattle.vi_model.specs.Starts.{any}
use Rattle.vi_model.specs.Serves.{page_of}
use Rattle.vi_model.specs.Backs.{Seat, Access, access_at, finds, Exchange, ask, replied, take_reply, take_down, moved_seat}
use Rattle.vi_model.specs.Asking.{one_if, count_option, AsksOnce}
use Rattle.vi_model.specs.Bound.{current_access, serves, is_cached, brings, is_coming, down_cost, reply_cost, is_busy, lack, work_from, work_left, place_cost}
use Rattle.vi_sound.proofs.Moves.Accesses.{access_is}
use Rattle.vi_sound.proofs.Moves.Asks.{Why, WishesAsk}
use Rattle.vi_sound.proofs.Values.Known.{known_line}
use Rattle.vi_sound.proofs.Falling.Costs.{lack_most, not_less, update_lack, heard_falls, one_most, no_updates, none_coming, work_ends, work_falls}

-- ---- the line of an access

pub line_get : (s : ScriptValue) (c : Caller) (n : ℕ) → line_of s c (n + 1) ≡ slice_get (lines_of s c) n
line_get s c n = let e : suc n ≡ n + 1 = omega arith in subst (λ m. line_of s c m ≡ slice_get (lines_of s c) n) e refl

pub part_within : (id part : ℕ) (l : Line) → IsSome (cond (nat_le 1 part && nat_le part (parts_of l.job)) (back_call id l.job part) None) → part ≤ parts_of l.job
part_within id part l h = go (nat_le 1 part && nat_le part (parts_of l.job)) refl h
  where
    go : (b : Bool) → (nat_le 1 part && nat_le part (parts_of l.job)) ≡ b → IsSome (cond b (back_call id l.job part) None) → part ≤ parts_of l.job
    go true e h = leb-true part (parts_of l.job) (and_parts (nat_le 1 part) (nat_le part (parts_of l.job)) e).1
    go false e h = absurd cc

-- the line and part of an access are there
pub access_line : (s : ScriptValue) (k n done : ℕ) (a : Access) → access_at s k (n + 1) (done + 1) ≡ Some a → (l : Line) × (slice_get (lines_of s (back_at s k)) n ≡ Some l) × (done + 1 ≤ parts_of l.job)
access_line s k n done a h =
    let known : IsSome (call_of s (back_at s k) (n + 1) (done + 1)) = ap is_some (access_is s k (n + 1) (done + 1) a h) in
    let l = known_line s (back_at s k) (n + 1) (done + 1) known in
    (l.0, sym (line_get s (back_at s k) n) ∙ l.1, part_within (id_at s k) (done + 1) l.0 l.2)

-- ---- it receives

any_nil : (b : Bool) (bs : List Bool) → length (b ∷ bs) ≤ 1 → any bs ≡ false
any_nil b [] h = refl
any_nil b (c ∷ bs) h = absurd (omega (arith, h))

pub down_falls : (s : ScriptValue) (k : ℕ) (c : Control) (tests : Bool) (x : Link) (z : Seat) → 0 < s.setup.cache → AsksOnce s k x z → (finds s c k tests z ≡ true → z.ready ≡ false)
    → (fs : List Down) → x.down ≡ fs → (let m : Exchange = take_down s c k tests x z fs in m.moved) ≡ true
    → (let m : Exchange = take_down s c k tests x z fs in place_cost s k m.link m.seat + 1 ≤ place_cost s k x z)
down_falls s k c tests x z full ok fresh (Update l ∷ fs) e h =
    let o : Option Access = current_access s k z in
    let d : down_cost o x.down ≡ cond (brings o l) 1 6 + down_cost o fs = ap (down_cost o) e in
    let y : lack (is_busy x.up x.parked x.replies) (is_cached o z.cache || is_coming o x.down) ≡ lack (is_busy x.up x.parked x.replies) (is_cached o z.cache || (brings o l || is_coming o fs)) =
    ap (λ v. lack (is_busy x.up x.parked x.replies) (is_cached o z.cache || is_coming o v)) e in
    let u = update_lack s.setup.cache (is_busy x.up x.parked x.replies) o l z.cache fs full in
    let n : one_if (nat_lt z.finished z.finished) ≡ 0 = ap one_if (not_less z.finished) in
    omega (arith, d, y, u, n)
down_falls s k c tests x z full ok fresh (Invalidate r ∷ fs) e h =
    let o : Option Access = current_access s k z in
    let d : down_cost o x.down ≡ 7 + down_cost o fs = ap (down_cost o) e in
    let u = lack_most (is_busy x.up x.parked x.replies) (is_cached o (untouched r z.cache) || is_coming o fs) in
    let n : one_if (nat_lt z.finished z.finished) ≡ 0 = ap one_if (not_less z.finished) in
    omega (arith, d, u, n)
down_falls s k c tests x z full ok fresh [] e h = go x.replies refl h
  where
    go : (bs : List Bool) → x.replies ≡ bs → (let m : Exchange = take_reply s c k tests x z bs in m.moved) ≡ true → (let m : Exchange = take_reply s c k tests x z bs in place_cost s k m.link m.seat + 1 ≤ place_cost s k x z)
    go [] er h =
        let f = heard_falls z.ready (finds s c k tests z) (nat_lt z.told z.finished) (nat_lt 0 z.since) fresh h in
        let n : one_if (nat_lt z.finished z.finished) ≡ 0 = ap one_if (not_less z.finished) in
        omega (arith, f, n)
    go (false ∷ bs) er h =
        let r : reply_cost x.replies ≡ 1 + reply_cost bs = ap reply_cost er in
        let o : Option Access = current_access s k z in
        let y : lack (is_busy x.up x.parked x.replies) (is_cached o z.cache || is_coming o x.down) ≡ lack (is_busy x.up x.parked bs) (is_cached o z.cache || is_coming o x.down) =
        ap (λ (v : List Bool). lack (is_busy x.up x.parked v) (is_cached o z.cache || is_coming o x.down)) er in
        let w : work_left (lines_of s (back_at s k)) (any x.replies) z.finished z.done ≡ work_left (lines_of s (back_at s k)) (any bs) z.finished z.done = ap (λ (v : List Bool). work_left (lines_of s (back_at s k)) (any v) z.finished z.done) er in
        let n : one_if (nat_lt z.finished z.finished) ≡ 0 = ap one_if (not_less z.finished) in
        omega (arith, r, y, w, n)
    go (true ∷ bs) er h =
        let r : reply_cost x.replies ≡ 8 + reply_cost bs = ap reply_cost er in
        let t : Seat = replied z true in
        let d : down_cost (current_access s k t) x.down ≡ down_cost (current_access s k z) x.down = ap (down_cost (current_access s k t)) e ∙ sym (ap (down_cost (current_access s k z)) e) in
        let y = lack_most (is_busy x.up x.parked bs) (is_cached (current_access s k t) t.cache || is_coming (current_access s k t) x.down) in
        let w : work_left (lines_of s (back_at s k)) (any x.replies) z.finished z.done ≡ work_from (z.finished + 1) (lines_of s (back_at s k)) = ap (λ (v : List Bool). work_left (lines_of s (back_at s k)) (any v) z.finished z.done) er in
        let one : length (true ∷ bs) ≤ 1 = (let l : length x.replies ≡ length (true ∷ bs) = ap (λ (v : List Bool). length v) er in let o = ok.one in let b = one_most z.asking in omega (arith, l, o, b)) in
        let v : work_left (lines_of s (back_at s k)) (any bs) (z.finished + 1) 0 ≡ work_from (z.finished + 1) (lines_of s (back_at s k)) - 7 * 0 = ap (λ (q : Bool). work_left (lines_of s (back_at s k)) q (z.finished + 1) 0) (any_nil true bs one) in
        let g = one_most (nat_lt z.finished (z.finished + 1)) in
        omega (arith, r, d, y, w, v, g)

-- ---- it asks

-- a back end asks only where its cache doesn't serve its part
why_lacks : (s : ScriptValue) (k : ℕ) (z : Seat) (m : Miss) (w : WishesAsk s k z m) → Why m z.cache → is_cached (current_access s k z) z.cache ≡ false
why_lacks s k z m w (inl none) = ap (λ o. is_cached o z.cache) w.is ∙ (ap (λ a. serves w.part (cached_at (page_of a) z.cache)) (sym w.iova) ∙ ap (serves w.part) none)
why_lacks s k z m w (inr (f, l, found, no_need)) = ap (λ o. is_cached o z.cache) w.is ∙ (ap (λ a. serves w.part (cached_at (page_of a) z.cache)) (sym w.iova) ∙ (ap (serves w.part) found ∙ (ap (λ n. permits n l.perm) (sym w.need) ∙ no_need)))

-- nothing is under way for a back end with no open miss
pub idle_place : (s : ScriptValue) (k : ℕ) (x : Link) (z : Seat) → AsksOnce s k x z → z.asking ≡ false → (is_busy x.up x.parked x.replies ≡ false) × (any x.replies ≡ false) × (count_updates x.down ≤ 0) × (length x.up ≡ 0) × (count_option x.parked ≡ 0)
idle_place s k x z ok i =
    let one = ok.one in
    let c : one_if z.asking ≡ 0 = ap one_if i in
    let up : length x.up ≡ 0 = omega (arith, one, c) in
    let parked : count_option x.parked ≡ 0 = omega (arith, one, c) in
    let replies : length x.replies ≡ 0 = omega (arith, one, c) in
    let none : any x.replies ≡ false = no_reply x.replies replies in
    let u = ok.updates in
    let zero' : nat_lt 0 (length x.up + count_option x.parked) ≡ false = grind (arith, nat_tests, up, parked) in
    (ap (λ v. v || any x.replies) zero' ∙ none, none, omega (arith, u, replies), up, parked)
  where
    no_reply : (bs : List Bool) → length bs ≡ 0 → any bs ≡ false
    no_reply [] h = refl
    no_reply (b ∷ bs) h = absurd (omega (arith, h))

more_misses : (m : Miss) (us : List Miss) → length (us ++ m ∷ []) ≡ suc (length us)
more_misses m [] = refl
more_misses m (u ∷ us) = ap suc (more_misses m us)

pub busy_lack : (n : ℕ) (b c : Bool) → 0 < n → lack (nat_lt 0 n || b) c ≡ 0
busy_lack n b c h = let e : nat_lt 0 n ≡ true = grind (arith, nat_tests) in rw e refl

pub ask_falls : (s : ScriptValue) (k : ℕ) (x : Link) (z : Seat) (m : Miss) → AsksOnce s k x z → WishesAsk s k z m → (let n : Exchange = ask x z m in place_cost s k n.link n.seat + 1 ≤ place_cost s k x z)
unfolding ask
ask_falls s k x z m ok wishes =
    let p = idle_place s k x z ok wishes.idle in
    let o : Option Access = current_access s k z in
    let opens : lack (is_busy x.up x.parked x.replies) (is_cached o z.cache || is_coming o x.down) ≡ 5 =
    ap (λ v. lack v (is_cached o z.cache || is_coming o x.down)) p.0 ∙ (ap (λ v. lack false (v || is_coming o x.down)) (why_lacks s k z m wishes wishes.why) ∙ ap (λ v. lack false v) (none_coming o x.down p.2)) in
    let e = more_misses m x.up in
    let shut : lack (is_busy (x.up ++ m ∷ []) x.parked x.replies) (is_cached o z.cache || is_coming o x.down) ≡ 0 =
    busy_lack (length (x.up ++ m ∷ []) + count_option x.parked) (any x.replies) (is_cached o z.cache || is_coming o x.down) (omega (arith, e)) in
    let n : one_if (nat_lt z.finished z.finished) ≡ 0 = ap one_if (not_less z.finished) in
    omega (arith, opens, e, shut, n)

-- ---- it accesses

pub access_falls : (s : ScriptValue) (k : ℕ) (x : Link) (z : Seat) (l : Lease) (page : ℕ) (a : Access) → AsksOnce s k x z → z.asking ≡ false → current_access s k z ≡ Some a → (last : Bool)
    → place_cost s k x (moved_seat z last l page) + 1 ≤ place_cost s k x z
access_falls s k x z l page a ok i h true =
    let q = idle_place s k x z ok i in
    let t : Seat = moved_seat z true l page in
    let d = no_updates (current_access s k t) (current_access s k z) x.down q.2 in
    let y = lack_most (is_busy x.up x.parked x.replies) (is_cached (current_access s k t) t.cache || is_coming (current_access s k t) x.down) in
    let here = access_line s k z.finished z.done a h in
    let w = work_ends (lines_of s (back_at s k)) z.finished z.done here.0 here.1 here.2 in
    let m : work_left (lines_of s (back_at s k)) (any x.replies) z.finished z.done ≡ work_left (lines_of s (back_at s k)) false z.finished z.done = ap (λ v. work_left (lines_of s (back_at s k)) v z.finished z.done) q.1 in
    let b : work_left (lines_of s (back_at s k)) (any x.replies) (z.finished + 1) 0 ≡ work_left (lines_of s (back_at s k)) false (z.finished + 1) 0 = ap (λ v. work_left (lines_of s (back_at s k)) v (z.finished + 1) 0) q.1 in
    let f = one_most (nat_lt z.told (z.finished + 1)) in
    let g = one_most (nat_lt 0 (z.since + 1)) in
    omega (arith, d, y, w, m, b, f, g)
access_falls s k x z l page a ok i h false =
    let q = idle_place s k x z ok i in
    let t : Seat = moved_seat z false l page in
    let d = no_updates (current_access s k t) (current_access s k z) x.down q.2 in
    let y = lack_most (is_busy x.up x.parked x.replies) (is_cached (current_access s k t) t.cache || is_coming (current_access s k t) x.down) in
    let here = access_line s k z.finished z.done a h in
    let w = work_falls (lines_of s (back_at s k)) z.finished z.done here.0 here.1 here.2 in
    let m : work_left (lines_of s (back_at s k)) (any x.replies) z.finished z.done ≡ work_left (lines_of s (back_at s k)) false z.finished z.done = ap (λ v. work_left (lines_of s (back_at s k)) v z.finished z.done) q.1 in
    let b : work_left (lines_of s (back_at s k)) (any x.replies) z.finished (z.done + 1) ≡ work_left (lines_of s (back_at s k)) false z.finished (z.done + 1) = ap (λ v. work_left (lines_of s (back_at s k)) v z.finished (z.done + 1)) q.1 in
    let g = one_most (nat_lt 0 (z.since + 1)) in
    omega (arith, d, y, w, m, b, g)
