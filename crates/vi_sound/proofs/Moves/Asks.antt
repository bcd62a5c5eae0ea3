-- A back end asks.
use Rattle.std.proofs.Common.{◌≡◌, ℕ, ◌+◌, ◌≤◌, ◌<◌, Bool, true, false, cond, ◌&&◌, ◌||◌, not, List, [], ◌∷◌, ◌++◌, set, length, Option, Some, None, refl, arith, ◌∙◌, ap, sym, subst, ◌⊎◌, inl, inr, length-set}
use Rattle.std.specs.Prelude.{nat_le}
use Rattle.vi_bytes.specs.Leases.{has_page}
use Rattle.vi_bytes.specs.declared.lease.Lease.{Lease}
use Rattle.vi_history.specs.Device.{Dev}
use Rattle.vi_history.specs.Translation.{permits, lease}
use Rattle.vi_lines.specs.Value.{ScriptValue}
use Rattle.vi_lines.specs.Calls.{lines_of}
use Rattle.vi_model.specs.Lanes.{Miss, count_updates}
use Rattle.vi_model.specs.Grants.{piece, lease_under}
use Rattle.vi_grants.specs.declared.row.Grant.{Grant}
use Rattle.vi_model.specs.Caches.{cached_at}
use Rattle.vi_model.specs.Control.{Link, with_link, link_of}
use Rattle.vi_model.specs.Places.{place_count, id_at, back_at}
use Rattle.vi_model.specs.Serves.{page_of}
use Rattle.vi_model.specs.Backs.{Seat, Access, need_of, access_at, Accesses, Asks, Receives, Rests, miss_of, part_wish, current_wish, is_empty, current_awaits, owes_posting, wish, Exchange, ask}
use Rattle.vi_model.specs.Worlds.{World, seat_of}
use Rattle.vi_model.specs.Links.{AreGranted}
use Rattle.vi_model.specs.Asking.{one_if, count_option, IsUnserved, IsCurrent, AreCurrent, ParkedIsCurrent, AsksOnce}
use Rattle.vi_model.specs.Tracks.{AreWhole}
use Rattle.vi_model.specs.Sound.{IsSoundBack, SoundParts}
use Rattle.vi_sound.proofs.Values.Links.{at_both, tables_link}
use Rattle.vi_sound.proofs.Moves.Accesses.{cached_granted, cached_has, whole_free}

-- the world after a back end asked or received
abbrev pub after_exchange : World → ℕ → Exchange → World
after_exchange w k m = record w { control = with_link w.control k m.link; seats = set w.seats k m.seat }

-- a Miss where no cached lease has the page, an AccessFail where one has it without the permission
abbrev pub Why : Miss → List Lease → Type 0
Why m ls = (cached_at (page_of m.iova) ls ≡ None) ⊎ ((m.fail ≡ true) × (l : Lease) × (cached_at (page_of m.iova) ls ≡ Some l) × (permits m.need l.perm ≡ false))

-- when a back end wishes to ask
pub record WishesAsk (s : ScriptValue) (k : ℕ) (z : Seat) (m : Miss) : Type 0 where
  pub part : Access
  pub is : access_at s k (z.finished + 1) (z.done + 1) ≡ Some part
  pub line : m.line ≡ z.finished + 1
  pub number : m.part ≡ z.done + 1
  pub iova : m.iova ≡ part.part.iova
  pub len : m.len ≡ part.part.len
  pub need : m.need ≡ need_of part.work
  pub idle : z.asking ≡ false
  pub free : (is_empty (current_awaits s k z) ≡ true) ⊎ (z.ready ≡ true)
  pub why : Why m z.cache

pub wishes_ask : (s : ScriptValue) (k : ℕ) (z : Seat) (m : Miss) → wish s k z ≡ Asks m → WishesAsk s k z m
unfolding wish
wishes_ask s k z m h = go z.asking refl (nat_le 16 z.since || owes_posting s k z) (nat_le (length (lines_of s (back_at s k))) z.finished) (is_empty (current_awaits s k z)) refl z.ready refl h
  where
    made : (p : Access) (fail : Bool) → access_at s k (z.finished + 1) (z.done + 1) ≡ Some p → z.asking ≡ false → (is_empty (current_awaits s k z) ≡ true) ⊎ (z.ready ≡ true)
        → Why (miss_of z p fail) z.cache → miss_of z p fail ≡ m → WishesAsk s k z m
    made p fail e i f y q = record {
      part = p;
      is = e;
      line = ap (λ (n : Miss). n.line) (sym q);
      number = ap (λ (n : Miss). n.part) (sym q);
      iova = ap (λ (n : Miss). n.iova) (sym q);
      len = ap (λ (n : Miss). n.len) (sym q);
      need = ap (λ (n : Miss). n.need) (sym q);
      idle = i;
      free = f;
      why = subst (λ n. Why n z.cache) q y;
    }

    leased : (p : Access) (l : Lease) (c : Bool) → cached_at (page_of p.part.iova) z.cache ≡ Some l → permits (need_of p.work) l.perm ≡ c → access_at s k (z.finished + 1) (z.done + 1) ≡ Some p → z.asking ≡ false → (is_empty (current_awaits s k z) ≡ true) ⊎ (z.ready ≡ true)
        → cond c (Accesses l p) (Asks (miss_of z p true)) ≡ Asks m → WishesAsk s k z m
    leased p l true q y e i f h = absurd cc
    leased p l false q y e i f h = made p true e i f (inr (refl, l, q, y)) (cc)

    some : (p : Access) (o : Option Lease) → cached_at (page_of p.part.iova) z.cache ≡ o → access_at s k (z.finished + 1) (z.done + 1) ≡ Some p → z.asking ≡ false → (is_empty (current_awaits s k z) ≡ true) ⊎ (z.ready ≡ true) → part_wish z p o ≡ Asks m → WishesAsk s k z m
    some p None q e i f h = made p false e i f (inl q) (cc)
    some p (Some l) q e i f h = leased p l (permits (need_of p.work) l.perm) q refl e i f h

    part : (o : Option Access) → access_at s k (z.finished + 1) (z.done + 1) ≡ o → z.asking ≡ false → (is_empty (current_awaits s k z) ≡ true) ⊎ (z.ready ≡ true) → current_wish z o ≡ Asks m → WishesAsk s k z m
    part None e i f h = absurd cc
    part (Some p) e i f h = some p (cached_at (page_of p.part.iova) z.cache) refl e i f h

    go : (o : Bool) → z.asking ≡ o → (r : Bool) → (f : Bool) → (n : Bool) → is_empty (current_awaits s k z) ≡ n → (y : Bool) → z.ready ≡ y
        → cond (o || r) (Receives false) (cond f Rests (cond (not n && not y) (Receives true) (current_wish z (access_at s k (z.finished + 1) (z.done + 1))))) ≡ Asks m
        → WishesAsk s k z m
    go true i r f n en y ey h = absurd cc
    go false i true f n en y ey h = absurd cc
    go false i false true n en y ey h = absurd cc
    go false i false false true en y ey h = part (access_at s k (z.finished + 1) (z.done + 1)) refl i (inl en) h
    go false i false false false en true ey h = part (access_at s k (z.finished + 1) (z.done + 1)) refl i (inr ey) h
    go false i false false false en false ey h = absurd cc

unserved_none : (m : Miss) (ls : List Lease) → cached_at (page_of m.iova) ls ≡ None → IsUnserved m ls
unserved_none m [] h = tt
unserved_none m (l ∷ ls) h = go (has_page l (page_of m.iova)) refl h (unserved_none m ls)
  where
    go : (b : Bool) → has_page l (page_of m.iova) ≡ b → cond b (Some l) (cached_at (page_of m.iova) ls) ≡ None → (cached_at (page_of m.iova) ls ≡ None → IsUnserved m ls) → IsUnserved m (l ∷ ls)
    go true e h ih = absurd cc
    go false e h ih = (λ i. absurd cc, ih h)

-- what is granted is the device's, page by page
abbrev pub IsNow : Dev → ℕ → List Grant → Type 0
IsNow dev e g = (p : ℕ) (l : Lease) → lease_under p g ≡ Some l → (q : ℕ) → has_page l q ≡ true → lease dev e q ≡ Some (piece l q)

-- all cached leases that have a page have one permission there
unserved_fail : (dev : Dev) (e : ℕ) (g : List Grant) (m : Miss) (l : Lease) (ls : List Lease) → IsNow dev e g
    → m.fail ≡ true → permits m.need l.perm ≡ false → lease dev e (page_of m.iova) ≡ Some (piece l (page_of m.iova)) → AreGranted g ls → IsUnserved m ls
unserved_fail dev e g m l [] cur f not_it now a = tt
unserved_fail dev e g m l (x ∷ ls) cur f not_it now a = (λ i. (f, one i), unserved_fail dev e g m l ls cur f not_it now a.1)
  where
    one : has_page x (page_of m.iova) ≡ true → permits m.need x.perm ≡ false
    one i =
        let here = cur a.0.0 x a.0.1 (page_of m.iova) i in
        let same : piece l (page_of m.iova) ≡ piece x (page_of m.iova) = cc in
        ap (λ (y : Lease). permits m.need y.perm) (sym same) ∙ not_it

unserved : (dev : Dev) (e : ℕ) (g : List Grant) (m : Miss) (ls : List Lease) → IsNow dev e g → AreGranted g ls → Why m ls → IsUnserved m ls
unserved dev e g m ls cur a (inl none) = unserved_none m ls none
unserved dev e g m ls cur a (inr fail) =
    let is = cached_granted (page_of m.iova) fail.1 g ls a fail.2 in
    unserved_fail dev e g m fail.1 ls cur fail.0 fail.3 (cur is.0 fail.1 is.1 (page_of m.iova) (cached_has (page_of m.iova) fail.1 ls fail.2)) a

asked_current : (s : ScriptValue) (k : ℕ) (z y : Seat) (m : Miss) → WishesAsk s k z m → y.finished ≡ z.finished → y.done ≡ z.done → IsUnserved m y.cache → IsCurrent s k y m
asked_current s k z y m wishes l p u = record {
  line = wishes.line ∙ ap (λ n. n + 1) (sym l);
  part = wishes.number ∙ ap (λ n. n + 1) (sym p);
  access = wishes.part;
  is_access = ap (λ n. access_at s k n m.part) wishes.line ∙ ap (λ n. access_at s k (z.finished + 1) n) wishes.number ∙ wishes.is;
  iova = sym wishes.iova;
  len = sym wishes.len;
  need = sym wishes.need;
  unserved = u;
}

-- a back end with nothing open sends one miss
asked_miss : (s : ScriptValue) (k : ℕ) (x y : Link) (z t : Seat) (m : Miss) → AsksOnce s k x z → z.asking ≡ false → IsCurrent s k t m
    → y.up ≡ x.up ++ m ∷ [] → y.parked ≡ x.parked → y.replies ≡ x.replies → y.down ≡ x.down → y.posted ≡ t.finished → t.told ≡ t.finished → t.asking ≡ true → AsksOnce s k y t
asked_miss s k x y z t m ok i cur eu ep er ed eq et eo = go x.up x.parked refl refl
  where
    none : length x.up + (count_option x.parked + length x.replies) ≡ 0
    none = ok.one ∙ ap one_if i

    go : (u : List Miss) (p : Option Miss) → x.up ≡ u → x.parked ≡ p → AsksOnce s k y t
    go (n ∷ u) p fu fp = absurd (omega (arith, none, ap (λ (v : List Miss). length v) fu))
    go [] (Some n) fu fp = absurd (omega (arith, none, ap (λ (v : Option Miss). count_option v) fp))
    go [] None fu fp =
        let up : y.up ≡ m ∷ [] = eu ∙ ap (λ (u : List Miss). u ++ m ∷ []) fu in
        let parked : y.parked ≡ None = ep ∙ fp in
        record {
          one =
              let a : length y.up ≡ 1 = ap (λ (u : List Miss). length u) up in
              let b : count_option y.parked ≡ 0 = ap (λ (u : Option Miss). count_option u) parked in
              let c : length y.replies ≡ length x.replies = ap (λ (u : List Bool). length u) er in
              let d : one_if t.asking ≡ 1 = ap one_if eo in
              omega (arith, none, a, b, c, d);
          up = subst (AreCurrent s k t) (sym up) (cur, tt);
          parked = subst (ParkedIsCurrent s k t) (sym parked) tt;
          updates = subst (λ ds. count_updates ds ≤ length y.replies) (sym ed) (subst (λ rs. count_updates x.down ≤ length rs) (sym er) ok.updates);
          posted = λ o. eq;
          told = eq ∙ sym et;
          low = omega (arith, et);
        }

pub ask_sound : (s : ScriptValue) (w : World) (k : ℕ) (m : Miss) → SoundParts s w → k < place_count s → WishesAsk s k (seat_of w k) m
    → SoundParts s (after_exchange w k (ask (link_of w.control k) (seat_of w k) m))
unfolding ask
ask_sound s w k m ok lt wishes = record {
  told = ok.told;
  whole = ok.whole;
  maps = ok.maps;
  records = ok.records;
  tables = tables_link w.control (place_count s) k link ok.tables;
  seats = length-set w.seats k seat ∙ ok.seats;
  ports = ok.ports;
  stands = ok.stands;
  queue = ok.queue;
  removals = ok.removals;
  settings = ok.settings;
  backs = at_both (λ j x y. IsSoundBack s w.control.dev w.control.removals w.history j x y) w.control w.seats (place_count s) k link seat ok.tables ok.seats lt
      (record {
        link = place.link;
        miss = asked_miss s k (link_of w.control k) link z seat m place.miss wishes.idle (asked_current s k z seat m wishes refl refl (unserved w.control.dev (id_at s k) (link_of w.control k).grants m z.cache place.link.current place.link.cached wishes.why)) refl refl refl refl refl refl refl;
        room = place.room;
        track = record { at = place.track.at; ready = place.track.ready; opened = λ o. whole wishes.free; faulted = place.track.faulted };
      })
      (λ j below ne. ok.backs j below);
  drivers = ok.drivers;
}
  where
    z : Seat
    z = seat_of w k

    link : Link
    link = let x : Link = link_of w.control k in record x { up = x.up ++ m ∷ []; posted = z.finished }

    seat : Seat
    seat = record z { asking = true; told = z.finished }

    place : IsSoundBack s w.control.dev w.control.removals w.history k (link_of w.control k) z
    place = ok.backs k lt

    whole : (is_empty (current_awaits s k z) ≡ true) ⊎ (z.ready ≡ true) → AreWhole s w.history (current_awaits s k z)
    whole (inl f) = whole_free s w.history (current_awaits s k z) f
    whole (inr r) = place.track.ready r
