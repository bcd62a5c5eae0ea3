-- A back end receives.
use Rattle.std.proofs.Common.{◌≡◌, ℕ, suc, ◌+◌, ◌≤◌, ◌<◌, Bool, true, false, cond, not, ◌&&◌, ◌||◌, List, [], ◌∷◌, length, get_or, Option, Some, None, refl, arith, ◌∙◌, ap, sym, subst, ◌⊎◌, inl, inr, length-set}
use Rattle.std.specs.Prelude.{nat_le}
use Rattle.std.proofs.lemmas.Bool.{leb-true, cases_lt, false≢true}
use Rattle.std.proofs.lemmas.List.{get_or_past}
use Rattle.std.proofs.lemmas.List.Sums.{AllPass-from_list_all}
use Rattle.vi_bytes.specs.declared.span.Span.{Span}
use Rattle.vi_bytes.specs.declared.lease.Lease.{Lease}
use Rattle.vi_history.specs.Device.{Dev}
use Rattle.vi_history.specs.declared.call.Caller.{Caller}
use Rattle.vi_history.specs.declared.call.Caller.TheVariants.{Driver, Back}
use Rattle.vi_history.specs.declared.entry.Entry.{Entry}
use Rattle.vi_lines.specs.declared.line.Await.{Await}
use Rattle.vi_lines.specs.Value.{ScriptValue}
use Rattle.vi_lines.specs.Valid.{IsValid}
use Rattle.vi_lines.specs.Calls.{awaits_of}
use Rattle.vi_lines.specs.Order.{Place, is_whole, due_place}
use Rattle.vi_order.proofs.Lines.{IsAwaitable, awaited_lines}
use Rattle.vi_model.specs.Lanes.{Down, Update, Invalidate, Miss, count_updates}
use Rattle.vi_model.specs.Grants.{touches}
use Rattle.vi_model.specs.Caches.{put, untouched}
use Rattle.vi_model.specs.Removals.{Removal}
use Rattle.vi_model.specs.Control.{Port, Link, driver_count, no_port, port_of, link_of}
use Rattle.vi_model.specs.Places.{place_count, place_of, id_at, back_at}
use Rattle.vi_model.specs.Posted.{posted_of, is_posted, all_posted}
use Rattle.vi_model.specs.Starts.{any}
use Rattle.vi_model.specs.Backs.{Seat, current_awaits, Exchange, heard, replied, finds, take_reply, with_cache, take_down, receive}
use Rattle.vi_model.specs.Worlds.{World, seat_of, stand_of}
use Rattle.vi_model.specs.Links.{IsLinked}
use Rattle.vi_model.specs.Asking.{one_if, count_option, IsUnserved, IsCurrent, AreCurrent, ParkedIsCurrent, AsksOnce}
use Rattle.vi_model.specs.Tracks.{AreWhole, stands_at}
use Rattle.vi_model.specs.Held.{is_among_first}
use Rattle.vi_model.specs.Sound.{IsSoundBack, SoundParts}
use Rattle.vi_sound.proofs.Values.Histories.{driver_whole, back_whole}
use Rattle.vi_sound.proofs.Values.Batches.{finished_not_open, among_first}
use Rattle.vi_sound.proofs.Moves.Receives.{take_invalidate, take_update}
use Rattle.vi_sound.proofs.Values.Links.{at_both, tables_link}
use Rattle.vi_sound.proofs.Values.Ids.{id_of_place}
use Rattle.vi_sound.proofs.Moves.Asks.{after_exchange}

-- ---- what is posted is whole

posted_driver : (s : ScriptValue) (w : World) (j line : ℕ) → IsValid s → SoundParts s w → 1 ≤ line → line ≤ (port_of w.control j).posted → is_whole s w.history (record { caller = Driver j; line = line }) ≡ true
posted_driver s w j line valid ok low h = go (cases_lt j driver_count)
  where
    go : (j < driver_count) ⊎ (driver_count ≤ j) → is_whole s w.history (record { caller = Driver j; line = line }) ≡ true
    go (inl lt) =
        let d = ok.drivers j lt in
        let is = d.posted_is in
        let done = finished_not_open line (stand_of w j).open_lines (stand_of w j).submitted low (omega (arith, h, is)) in
        let e = d.entered line in
        let one : one_if (is_among_first line (stand_of w j).submitted) ≡ 1 = among_first line (stand_of w j).submitted low done.0 in
        let none = done.1 in
        driver_whole s valid [] w.history j line ok.told.ordered (omega (arith, e, one, none))
    go (inr ge) =
        let past : port_of w.control j ≡ no_port = get_or_past w.control.ports j no_port (let n = ok.ports in omega (arith, n, ge)) in
        let none : (port_of w.control j).posted ≡ 0 = ap (λ (p : Port). p.posted) past in
        absurd (omega (arith, none, h, low))

stands_line : (z : Seat) (b : Bool) → z.finished < (stands_at z b).line
stands_line z true = omega arith
stands_line z false = omega arith

posted_back : (s : ScriptValue) (w : World) (id line : ℕ) → SoundParts s w → 1 ≤ line → line ≤ get_or w.control.posted (place_of s id) 0 → is_whole s w.history (record { caller = Back id; line = line }) ≡ true
posted_back s w id line ok low h = go (cases_lt (place_of s id) (place_count s))
  where
    k : ℕ
    k = place_of s id

    go : (k < place_count s) ⊎ (place_count s ≤ k) → is_whole s w.history (record { caller = Back id; line = line }) ≡ true
    go (inl lt) =
        let p = ok.backs k lt in
        let told : (link_of w.control k).posted ≡ (seat_of w k).told = p.miss.told in
        let less = p.miss.low in
        let at : (due_place s (back_at s k) w.history).line ≡ (stands_at (seat_of w k) (any (link_of w.control k).replies)).line = ap (λ (q : Place). q.line) p.track.at in
        let far = stands_line (seat_of w k) (any (link_of w.control k).replies) in
        let here : is_whole s w.history (record { caller = back_at s k; line = line }) ≡ true = back_whole s (id_at s k) w.history ok.told.ordered line low (omega (arith, told, less, at, far, h)) in
        subst (λ i. is_whole s w.history (record { caller = Back i; line = line }) ≡ true) (id_of_place s id lt) here
    go (inr ge) =
        let none : get_or w.control.posted k 0 ≡ 0 = get_or_past w.control.posted k 0 (let n = ok.tables.of_posted in omega (arith, n, ge)) in
        absurd (omega (arith, none, h, low))

posted_line : (s : ScriptValue) (w : World) (c : Caller) (line : ℕ) → IsValid s → SoundParts s w → 1 ≤ line → line ≤ posted_of s w.control c → is_whole s w.history (record { caller = c; line = line }) ≡ true
posted_line s w (Driver j) line valid ok low h = posted_driver s w j line valid ok low h
posted_line s w (Back id) line valid ok low h = posted_back s w id line ok low h

-- what a line awaits is whole where it is posted
pub posted_whole : (s : ScriptValue) (w : World) (c : Caller) (line : ℕ) → IsValid s → SoundParts s w → all_posted s w.control (awaits_of s c line) ≡ true → AreWhole s w.history (awaits_of s c line)
posted_whole s w c line valid ok h = λ k d within.
    let a : Await = get_or (awaits_of s c line) k d in
    let test : nat_le a.line (posted_of s w.control a.caller) ≡ true = AllPass-from_list_all (is_posted s w.control) (awaits_of s c line) h k d within in
    let there : IsAwaitable s.lines a = awaited_lines s valid c line k d within in
    posted_line s w a.caller a.line valid ok there.0 (leb-true a.line (posted_of s w.control a.caller) test)

-- ---- the open miss

each_same : (s : ScriptValue) (k : ℕ) (z t : Seat) (ms : List Miss) → ((m : Miss) → IsCurrent s k z m → IsCurrent s k t m) → AreCurrent s k z ms → AreCurrent s k t ms
each_same s k z t [] same c = tt
each_same s k z t (m ∷ ms) same c = (same m c.0, each_same s k z t ms same c.1)

parked_same : (s : ScriptValue) (k : ℕ) (z t : Seat) (m : Option Miss) → ((m : Miss) → IsCurrent s k z m → IsCurrent s k t m) → ParkedIsCurrent s k z m → ParkedIsCurrent s k t m
parked_same s k z t None same c = tt
parked_same s k z t (Some m) same c = same m c

current_same : (s : ScriptValue) (k : ℕ) (z t : Seat) → t.finished ≡ z.finished → t.done ≡ z.done → ((m : Miss) → IsUnserved m z.cache → IsUnserved m t.cache) → (m : Miss) → IsCurrent s k z m → IsCurrent s k t m
current_same s k z t l p u m c = record {
  line = c.line ∙ ap (λ n. n + 1) (sym l);
  part = c.part ∙ ap (λ n. n + 1) (sym p);
  access = c.access;
  is_access = c.is_access;
  iova = c.iova;
  len = c.len;
  need = c.need;
  unserved = u m c.unserved;
}

untouched_unserved : (m : Miss) (s : Option Span) (ls : List Lease) → IsUnserved m ls → IsUnserved m (untouched s ls)
untouched_unserved m s [] u = tt
untouched_unserved m s (l ∷ ls) u = go (touches s l) (untouched_unserved m s ls u.1)
  where
    go : (b : Bool) → IsUnserved m (untouched s ls) → IsUnserved m (cond (not b) (l ∷ untouched s ls) (untouched s ls))
    go true r = r
    go false r = (u.0, r)

-- the finished lines are posted, and an Invalidate may have been taken
post_miss : (s : ScriptValue) (k : ℕ) (x : Link) (z t : Seat) (fs : List Down) (acks : ℕ) → AsksOnce s k x z → count_updates fs ≤ count_updates x.down → t.finished ≡ z.finished → t.done ≡ z.done → t.asking ≡ z.asking → t.told ≡ z.finished
    → ((m : Miss) → IsUnserved m z.cache → IsUnserved m t.cache)
    → AsksOnce s k (record x { down = fs; acks = acks; posted = z.finished }) t
post_miss s k x z t fs acks ok fewer l p o told keeps = record {
  one = ok.one ∙ ap one_if (sym o);
  up = each_same s k z t x.up (current_same s k z t l p keeps) ok.up;
  parked = parked_same s k z t x.parked (current_same s k z t l p keeps) ok.parked;
  updates = let u = ok.updates in omega (arith, u, fewer);
  posted = λ h. sym l;
  told = sym told;
  low = omega (arith, l, told);
}

-- where an Update was under way, so is a Reply, and the miss is answered
update_miss : (s : ScriptValue) (k : ℕ) (x : Link) (z t : Seat) (l : Lease) (fs : List Down) → x.down ≡ Update l ∷ fs → AsksOnce s k x z → t.finished ≡ z.finished → t.asking ≡ z.asking → t.told ≡ z.finished
    → AsksOnce s k (record x { down = fs; posted = z.finished }) t
update_miss s k x z t l fs e ok line o told = go x.up x.parked z.asking refl refl refl
  where
    some : count_updates fs + 1 ≤ length x.replies
    some = let n : count_updates x.down ≡ count_updates fs + 1 = ap count_updates e in let u = ok.updates in omega (arith, n, u)

    go : (u : List Miss) (p : Option Miss) (b : Bool) → x.up ≡ u → x.parked ≡ p → z.asking ≡ b → AsksOnce s k (record x { down = fs; posted = z.finished }) t
    go u p false eu ep eb = absurd (let n = ok.one in omega (arith, n, some, ap one_if eb))
    go (m ∷ u) p true eu ep eb = absurd (let n = ok.one in omega (arith, n, some, ap one_if eb, ap (λ (v : List Miss). length v) eu))
    go [] (Some m) true eu ep eb = absurd (let n = ok.one in omega (arith, n, some, ap one_if eb, ap (λ (v : Option Miss). count_option v) ep))
    go [] None true eu ep eb = record {
      one = ok.one ∙ ap one_if (sym o);
      up = subst (AreCurrent s k t) (sym eu) tt;
      parked = subst (ParkedIsCurrent s k t) (sym ep) tt;
      updates = omega (arith, some);
      posted = λ h. sym line;
      told = sym told;
      low = omega (arith, line, told);
    }

-- a reply was taken
reply_place : (s : ScriptValue) (dev : Dev) (ops : List Removal) (h : List Entry) (k : ℕ) (x : Link) (z : Seat) (b : Bool) (bs : List Bool) → x.down ≡ [] → x.replies ≡ b ∷ bs → IsSoundBack s dev ops h k x z
    → IsSoundBack s dev ops h k (record x { replies = bs; posted = z.finished }) (replied z b)
reply_place s dev ops h k x z b bs ed er ok = go x.up x.parked bs z.asking refl refl refl refl b refl
  where
    one : length x.up + (count_option x.parked + (length bs + 1)) ≡ one_if z.asking
    one = let l : length x.replies ≡ suc (length bs) = ap (λ (v : List Bool). length v) er in let o = ok.miss.one in omega (arith, l, o)

    two : z.finished + 2 ≡ z.finished + 1 + 1
    two = omega arith

    go : (u : List Miss) (p : Option Miss) (cs : List Bool) (o : Bool) → x.up ≡ u → x.parked ≡ p → bs ≡ cs → z.asking ≡ o → (c : Bool) → b ≡ c
        → IsSoundBack s dev ops h k (record x { replies = bs; posted = z.finished }) (replied z c)
    go u p cs false eu ep eb eo c ec = absurd (omega (arith, one, ap one_if eo))
    go (m ∷ u) p cs true eu ep eb eo c ec = absurd (omega (arith, one, ap one_if eo, ap (λ (v : List Miss). length v) eu))
    go [] (Some m) cs true eu ep eb eo c ec = absurd (omega (arith, one, ap one_if eo, ap (λ (v : Option Miss). count_option v) ep))
    go [] None (d ∷ cs) true eu ep eb eo c ec = absurd (omega (arith, one, ap one_if eo, ap (λ (v : List Bool). length v) eb))
    go [] None [] true eu ep eb eo true ec = record {
      link = ok.link;
      miss = record {
        one = omega (arith, one, ap one_if eo);
        up = subst (AreCurrent s k (replied z true)) (sym eu) tt;
        parked = subst (ParkedIsCurrent s k (replied z true)) (sym ep) tt;
        updates = subst (λ ds. count_updates ds ≤ length bs) (sym ed) (omega arith);
        posted = λ e. absurd cc;
        told = refl;
        low = omega arith;
      };
      room = ok.room;
      track = record {
        at =
            ok.track.at ∙ (ap (λ (v : List Bool). stands_at z (any v)) (er ∙ ap (λ (d : Bool). d ∷ bs) ec) ∙ ap (λ n. let p : Place = record { line = n; part = 1 } in p) two
            ∙ ap (λ (v : List Bool). stands_at (replied z true) (any v)) (sym eb));
        ready = λ e. absurd cc;
        opened = λ e. absurd cc;
        faulted = λ f. absurd (false≢true (sym (ap any eb) ∙ f));
      };
    }
    go [] None [] true eu ep eb eo false ec = record {
      link = ok.link;
      miss = record {
        one = omega (arith, one, ap one_if eo);
        up = subst (AreCurrent s k (replied z false)) (sym eu) tt;
        parked = subst (ParkedIsCurrent s k (replied z false)) (sym ep) tt;
        updates = subst (λ ds. count_updates ds ≤ length bs) (sym ed) (omega arith);
        posted = λ e. absurd cc;
        told = refl;
        low = omega arith;
      };
      room = ok.room;
      track = record {
        at = ok.track.at ∙ ap (λ (v : List Bool). stands_at z (any v)) (er ∙ ap (λ (d : Bool). d ∷ bs) ec);
        ready = ok.track.ready;
        opened = λ e. absurd cc;
        faulted = λ f. absurd (false≢true (sym (ap any eb) ∙ f));
      };
    }

or_cases3 : (a b c : Bool) → (a || (b && c)) ≡ true → (a ≡ true) ⊎ (c ≡ true)
or_cases3 true b c h = inl refl
or_cases3 false true c h = inr h
or_cases3 false false c h = absurd cc

-- the back end's link and seat, after it received
received : (s : ScriptValue) (w : World) (k : ℕ) (tests : Bool) (x : Link) (z : Seat) → IsValid s → SoundParts s w → IsSoundBack s w.control.dev w.control.removals w.history k x z
    → (fs : List Down) → x.down ≡ fs
    → (let m : Exchange = take_down s w.control k tests x z fs in IsSoundBack s w.control.dev w.control.removals w.history k m.link m.seat)
received s w k tests x z valid ok place (Update l ∷ fs) e =
    let link : IsLinked w.control.dev w.control.removals (id_at s k) k x.grants z.cache (Update l ∷ fs) x.acks = subst (λ ds. IsLinked w.control.dev w.control.removals (id_at s k) k x.grants z.cache ds x.acks) e place.link in
    record {
      link = take_update s.setup.cache w.control.dev w.control.removals (id_at s k) k x.grants z.cache l fs x.acks link;
      miss = update_miss s k x z (with_cache z (put s.setup.cache l z.cache)) l fs e place.miss refl refl refl;
      room = place.room;
      track = record { at = place.track.at; ready = place.track.ready; opened = place.track.opened; faulted = place.track.faulted };
    }
received s w k tests x z valid ok place (Invalidate r ∷ fs) e =
    let link : IsLinked w.control.dev w.control.removals (id_at s k) k x.grants z.cache (Invalidate r ∷ fs) x.acks = subst (λ ds. IsLinked w.control.dev w.control.removals (id_at s k) k x.grants z.cache ds x.acks) e place.link in
    let fewer : count_updates fs ≤ count_updates x.down = let n : count_updates x.down ≡ count_updates fs = ap count_updates e in omega (arith, n) in
    record {
      link = take_invalidate w.control.dev w.control.removals (id_at s k) k x.grants z.cache r fs x.acks link;
      miss = post_miss s k x z (with_cache z (untouched r z.cache)) fs (x.acks + 1) place.miss fewer refl refl refl refl (λ m u. untouched_unserved m r z.cache u);
      room = place.room;
      track = record { at = place.track.at; ready = place.track.ready; opened = place.track.opened; faulted = place.track.faulted };
    }
received s w k tests x z valid ok place [] e = go x.replies refl
  where
    now_ready : (z.ready || finds s w.control k tests z) ≡ true → AreWhole s w.history (current_awaits s k z)
    now_ready h = split (or_cases3 z.ready tests (all_posted s w.control (current_awaits s k z)) h)
      where
        split : (z.ready ≡ true) ⊎ (all_posted s w.control (current_awaits s k z) ≡ true) → AreWhole s w.history (current_awaits s k z)
        split (inl r) = place.track.ready r
        split (inr p) = posted_whole s w (back_at s k) (z.finished + 1) valid ok p

    go : (bs : List Bool) → x.replies ≡ bs → (let m : Exchange = take_reply s w.control k tests x z bs in IsSoundBack s w.control.dev w.control.removals w.history k m.link m.seat)
    go [] er = record {
      link = place.link;
      miss = post_miss s k x z (heard z (z.ready || finds s w.control k tests z)) x.down x.acks place.miss (omega arith) refl refl refl refl (λ m u. u);
      room = place.room;
      track = record { at = place.track.at; ready = now_ready; opened = place.track.opened; faulted = place.track.faulted };
    }
    go (b ∷ bs) er = reply_place s w.control.dev w.control.removals w.history k x z b bs e er place

pub receive_sound : (s : ScriptValue) (w : World) (k : ℕ) (tests : Bool) → IsValid s → SoundParts s w → k < place_count s
    → SoundParts s (after_exchange w k (receive s w.control k tests (link_of w.control k) (seat_of w k)))
unfolding receive
receive_sound s w k tests valid ok lt = record {
  told = ok.told;
  whole = ok.whole;
  maps = ok.maps;
  records = ok.records;
  tables = tables_link w.control (place_count s) k m.link ok.tables;
  seats = length-set w.seats k m.seat ∙ ok.seats;
  ports = ok.ports;
  stands = ok.stands;
  queue = ok.queue;
  removals = ok.removals;
  settings = ok.settings;
  backs = at_both (λ j x y. IsSoundBack s w.control.dev w.control.removals w.history j x y) w.control w.seats (place_count s) k m.link m.seat ok.tables ok.seats lt
      (received s w k tests x z valid ok (ok.backs k lt) x.down refl)
      (λ j below ne. ok.backs j below);
  drivers = ok.drivers;
}
  where
    x : Link
    x = link_of w.control k

    z : Seat
    z = seat_of w k

    m : Exchange
    m = take_down s w.control k tests x z x.down
