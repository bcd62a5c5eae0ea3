-- The device serves a frame.
use Rattle.std.proofs.Common.{◌≡◌, ◌==◌, ℕ, suc, ◌+◌, ◌-◌, ◌≤◌, ◌<◌, Bool, true, false, cond, ◌&&◌, List, [], ◌∷◌, ◌++◌, length, length-set, Option, Some, None, refl, arith, ◌∙◌, ap, sym, subst, append-nil}
use Rattle.std.specs.Prelude.{is_some}
use Rattle.std.specs.List.{AllByRecursion}
use Rattle.vi_bytes.specs.Leases.{has_page}
use Rattle.vi_bytes.specs.FaultRecords.{fault_record}
use Rattle.vi_bytes.specs.declared.lease.Lease.{Lease}
use Rattle.vi_history.specs.Device.{Dev, One}
use Rattle.vi_history.specs.Replies.{fault_answer, reply, next}
use Rattle.vi_history.specs.Records.{record_of}
use Rattle.vi_history.specs.Translation.{permits, translate, lease}
use Rattle.vi_history.specs.Runs.{run}
use Rattle.vi_history.specs.declared.found.Found.{Found}
use Rattle.vi_history.specs.declared.found.Found.TheVariants.{At, Fault}
use Rattle.vi_history.specs.declared.call.Call.{Call}
use Rattle.vi_history.specs.declared.entry.Entry.{Entry}
use Rattle.vi_lines.specs.Value.{ScriptValue}
use Rattle.vi_lines.specs.Valid.{IsValid}
use Rattle.vi_lines.specs.Calls.{call_of, awaits_of}
use Rattle.vi_lines.specs.Order.{Place, IsDue}
use Rattle.vi_lines.proofs.IndexLemmas.{same_caller-self}
use Rattle.vi_model.specs.Lanes.{Down, Update, Invalidate, Miss, count_updates}
use Rattle.vi_model.specs.Grants.{piece}
use Rattle.vi_grants.specs.declared.row.Grant.{Grant}
use Rattle.vi_model.specs.Removals.{Removal, waits_for, acknowledged, acked, closed}
use Rattle.vi_model.specs.Cuts.{open_run}
use Rattle.vi_model.specs.Control.{Link, Control, port_of, link_of, with_link}
use Rattle.vi_model.specs.Places.{place_count, id_at, back_at}
use Rattle.vi_model.specs.Starts.{any, entry_of}
use Rattle.vi_model.specs.Serves.{page_of, acked_link, serve_ack, granted_link, faulted_link, parked_link, miss_record, serve_found, is_shut, serve_miss}
use Rattle.vi_model.specs.Backs.{Seat, need_of, current_awaits}
use Rattle.vi_model.specs.Worlds.{World, stand_of, seat_of}
use Rattle.vi_model.specs.Links.{AreGranted, IsLinked}
use Rattle.vi_model.specs.Asking.{one_if, count_option, IsUnserved, IsCurrent, AreCurrent, ParkedIsCurrent, AsksOnce}
use Rattle.vi_model.specs.Tracks.{AreWhole, StandsIn, stands_at}
use Rattle.vi_model.specs.Held.{IsRemoval, count_removals, count_held}
use Rattle.vi_model.specs.Rooms.{all_transfers, is_in, pages_of, HasGrantRoom}
use Rattle.vi_model.specs.Sound.{IsSoundBack, SoundParts}
use Rattle.vi_model.specs.Whole.{IsWholeDev}
use Rattle.vi_model.specs.Laws.{access_call}
use Rattle.vi_sound.proofs.Values.Aligned.{found_leased}
use Rattle.vi_sound.proofs.Values.Runs.{run_some, run_is, cut_is}
use Rattle.vi_sound.proofs.Moves.Acks as Acks
use Rattle.vi_sound.proofs.Moves.Grants as Grants
use Rattle.vi_sound.proofs.Values.Leases.{Without}
use Rattle.vi_sound.proofs.Space.Pages as Pages
use Rattle.vi_sound.proofs.Values.Links.{at_link, tables_link}
use Rattle.vi_sound.proofs.Moves.Shows.{noted_room}
use Rattle.vi_sound.proofs.Values.Tells.{tell_fault}
use Rattle.vi_sound.proofs.Values.Histories.{stands_last, due_own, whole_more}
use Rattle.vi_sound.proofs.Values.Frames.{track_other, driver_other, driver_same}
use Rattle.vi_sound.proofs.Values.Ids.{back_other}
use Rattle.vi_sound.proofs.Moves.Accesses.{access_is, fault_reply, access_record}
use Rattle.vi_sound.proofs.Moves.Asks.{IsNow}
use Rattle.vi_sound.proofs.Moves.Calls.{after_device}

-- the removals' lines and calls, after an acknowledgement
acked_by : (j line k : ℕ) (rs : List Removal) → count_removals j line (acked k rs) ≡ count_removals j line rs
acked_by j line k [] = refl
acked_by j line k (r ∷ rs) = go (waits_for k r) (acked_by j line k rs)
  where
    go : (b : Bool) → count_removals j line (acked k rs) ≡ count_removals j line rs → count_removals j line (cond b (acknowledged k r ∷ rs) (r ∷ acked k rs)) ≡ one_if ((r.driver == j) && (r.line == line)) + count_removals j line rs
    go true i = refl
    go false i = ap (λ n. one_if ((r.driver == j) && (r.line == line)) + n) i

acked_ok : (s : ScriptValue) (k : ℕ) (rs : List Removal) → AllByRecursion (IsRemoval s (place_count s)) rs → AllByRecursion (IsRemoval s (place_count s)) (acked k rs)
acked_ok s k [] h = tt
acked_ok s k (r ∷ rs) h = go (waits_for k r) (acked_ok s k rs h.1)
  where
    go : (b : Bool) → AllByRecursion (IsRemoval s (place_count s)) (acked k rs) → AllByRecursion (IsRemoval s (place_count s)) (cond b (acknowledged k r ∷ rs) (r ∷ acked k rs))
    go true i = ((h.0.0, length-set r.waits k false ∙ h.0.1), h.1)
    go false i = (h.0, i)

pub ack_sound : (s : ScriptValue) (w : World) (k : ℕ) → SoundParts s w → k < place_count s → 0 < (link_of w.control k).acks
    → SoundParts s (after_device w (Some (record { control = serve_ack w.control k; entry = None })))
unfolding serve_ack
ack_sound s w k ok lt some = subst (λ hs. SoundParts s (record w { control = c; history = hs })) (sym (append-nil w.history)) (record {
  told = ok.told;
  whole = ok.whole;
  maps = ok.maps;
  records = ok.records;
  tables = tables_link w.control (place_count s) k y ok.tables;
  seats = ok.seats;
  ports = ok.ports;
  stands = ok.stands;
  queue = ok.queue;
  removals = acked_ok s k w.control.removals ok.removals;
  settings = ok.settings;
  backs = at_link (λ j l. IsSoundBack s w.control.dev (acked k w.control.removals) w.history j l (seat_of w j)) w.control (place_count s) k y ok.tables lt
      (record {
        link = Acks.serve_ack w.control.dev w.control.removals (id_at s k) k x.grants (seat_of w k).cache x.down (x.acks - 1) (subst (IsLinked w.control.dev w.control.removals (id_at s k) k x.grants (seat_of w k).cache x.down) one place.link);
        miss = record { one = place.miss.one; up = place.miss.up; parked = place.miss.parked; updates = place.miss.updates; posted = place.miss.posted; told = place.miss.told; low = place.miss.low };
        room = Pages.acked_room (pages_of s k) k w.control.removals x.grants x.spare place.room;
        track = record { at = place.track.at; ready = place.track.ready; opened = place.track.opened; faulted = place.track.faulted };
      })
      (λ j below ne. let o = ok.backs j below in record {
        link = Acks.serve_ack_other w.control.dev w.control.removals (id_at s j) j k (link_of w.control j).grants (seat_of w j).cache (link_of w.control j).down (link_of w.control j).acks ne o.link;
        miss = o.miss;
        track = o.track;
        room = o.room;
      });
  drivers = λ j below. driver_same s j (count_held w.control.queue w.control.removals (port_of w.control j).setting j) (count_held w.control.queue (acked k w.control.removals) (port_of w.control j).setting j) w.history (port_of w.control j).answered (port_of w.control j).posted (stand_of w j)
      (λ line. let n = acked_by j line k w.control.removals in omega (arith, n)) (ok.drivers j below);
})
  where
    x : Link
    x = link_of w.control k

    y : Link
    y = acked_link k w.control.removals x

    c : Control
    c = let d : Control = with_link w.control k y in record d { removals = acked k w.control.removals }

    place : IsSoundBack s w.control.dev w.control.removals w.history k x (seat_of w k)
    place = ok.backs k lt

    one : x.acks ≡ suc (x.acks - 1)
    one = omega arith

-- x is the place's link without the open miss m
pub record Takes (s : ScriptValue) (w : World) (k : ℕ) (x : Link) (m : Miss) : Type 0 where
  pub below : k < place_count s
  pub grants : x.grants ≡ (link_of w.control k).grants
  pub spare : x.spare ≡ (link_of w.control k).spare
  pub down : x.down ≡ (link_of w.control k).down
  pub acks : x.acks ≡ (link_of w.control k).acks
  pub posted : x.posted ≡ (link_of w.control k).posted
  pub replies : x.replies ≡ (link_of w.control k).replies
  pub up : x.up ≡ []
  pub parked : x.parked ≡ None
  pub answered : x.replies ≡ []
  pub current : IsCurrent s k (seat_of w k) m
  pub opened : (seat_of w k).asking ≡ true

push_updates_in : (l : Lease) (fs : List Down) → count_updates (fs ++ Update l ∷ []) ≡ count_updates fs + 1
push_updates_in l [] = refl
push_updates_in l (Update m ∷ fs) = ap (λ n. n + 1) (push_updates_in l fs)
push_updates_in l (Invalidate r ∷ fs) = push_updates_in l fs

link_now : (s : ScriptValue) (w : World) (k : ℕ) (x : Link) (m : Miss) → SoundParts s w → Takes s w k x m → IsLinked w.control.dev w.control.removals (id_at s k) k x.grants (seat_of w k).cache x.down x.acks
link_now s w k x m ok t =
    subst (λ g. IsLinked w.control.dev w.control.removals (id_at s k) k g (seat_of w k).cache x.down x.acks) (sym t.grants)
    (subst (λ f. IsLinked w.control.dev w.control.removals (id_at s k) k (link_of w.control k).grants (seat_of w k).cache f x.acks) (sym t.down)
    (subst (λ a. IsLinked w.control.dev w.control.removals (id_at s k) k (link_of w.control k).grants (seat_of w k).cache (link_of w.control k).down a) (sym t.acks) (ok.backs k t.below).link))

room_now : (s : ScriptValue) (w : World) (k : ℕ) (x : Link) (m : Miss) → SoundParts s w → Takes s w k x m → HasGrantRoom (pages_of s k) x.grants x.spare
room_now s w k x m ok t = subst (λ g. HasGrantRoom (pages_of s k) g x.spare) (sym t.grants) (subst (λ f. HasGrantRoom (pages_of s k) (link_of w.control k).grants f) (sym t.spare) (ok.backs k t.below).room)

-- one place's link is another, with no entry
link_sound : (s : ScriptValue) (w : World) (k : ℕ) (y : Link) → SoundParts s w → k < place_count s → IsSoundBack s w.control.dev w.control.removals w.history k y (seat_of w k)
    → SoundParts s (after_device w (Some (record { control = with_link w.control k y; entry = None })))
link_sound s w k y ok lt new = subst (λ hs. SoundParts s (record w { control = with_link w.control k y; history = hs })) (sym (append-nil w.history)) (record {
  told = ok.told;
  whole = ok.whole;
  maps = ok.maps;
  records = ok.records;
  tables = tables_link w.control (place_count s) k y ok.tables;
  seats = ok.seats;
  ports = ok.ports;
  stands = ok.stands;
  queue = ok.queue;
  removals = ok.removals;
  settings = ok.settings;
  backs = at_link (λ j l. IsSoundBack s w.control.dev w.control.removals w.history j l (seat_of w j)) w.control (place_count s) k y ok.tables lt new (λ j below ne. ok.backs j below);
  drivers = ok.drivers;
})

park_sound : (s : ScriptValue) (w : World) (k : ℕ) (x : Link) (m : Miss) → SoundParts s w → Takes s w k x m → SoundParts s (after_device w (Some (record { control = with_link w.control k (parked_link x m); entry = None })))
park_sound s w k x m ok t = link_sound s w k (parked_link x m) ok t.below (record {
  link = link_now s w k x m ok t;
  miss = record {
    one =
        let a : length x.up ≡ 0 = ap (λ (v : List Miss). length v) t.up in
        let b : length x.replies ≡ 0 = ap (λ (v : List Bool). length v) t.answered in
        let c : one_if (seat_of w k).asking ≡ 1 = ap one_if t.opened in
        omega (arith, a, b, c);
    up = subst (AreCurrent s k (seat_of w k)) (sym t.up) tt;
    parked = t.current;
    updates = subst (λ ds. count_updates ds ≤ length x.replies) (sym t.down) (subst (λ rs. count_updates (link_of w.control k).down ≤ length rs) (sym t.replies) place.miss.updates);
    posted = λ o. t.posted ∙ place.miss.posted o;
    told = t.posted ∙ place.miss.told;
    low = place.miss.low;
  };
  room = room_now s w k x m ok t;
  track = record {
    at = place.track.at ∙ ap (λ (v : List Bool). stands_at (seat_of w k) (any v)) (sym t.replies);
    ready = place.track.ready;
    opened = place.track.opened;
    faulted = λ f. place.track.faulted (ap any (sym t.replies) ∙ f);
  };
})
  where
    place : IsSoundBack s w.control.dev w.control.removals w.history k (link_of w.control k) (seat_of w k)
    place = ok.backs k t.below

-- the miss is answered: with so many more updates, and whether it faults
reply_miss : (s : ScriptValue) (w : World) (k : ℕ) (x y : Link) (m : Miss) (b : Bool) → SoundParts s w → Takes s w k x m → y.up ≡ x.up → y.parked ≡ x.parked → y.posted ≡ x.posted → y.replies ≡ x.replies ++ b ∷ [] → count_updates y.down ≤ count_updates x.down + 1
    → AsksOnce s k y (seat_of w k)
reply_miss s w k x y m b ok t eu ep eq er more = record {
  one =
      let a : length y.up ≡ 0 = ap (λ (v : List Miss). length v) (eu ∙ t.up) in
      let p : count_option y.parked ≡ 0 = ap (λ (v : Option Miss). count_option v) (ep ∙ t.parked) in
      let c : one_if (seat_of w k).asking ≡ 1 = ap one_if t.opened in
      omega (arith, a, p, c, now);
  up = subst (AreCurrent s k (seat_of w k)) (sym (eu ∙ t.up)) tt;
  parked = subst (ParkedIsCurrent s k (seat_of w k)) (sym (ep ∙ t.parked)) tt;
  updates =
      let n : count_updates x.down ≤ 0 = subst (λ ds. count_updates ds ≤ 0) (sym t.down) (subst (λ (rs : List Bool). count_updates (link_of w.control k).down ≤ length rs) (sym t.replies ∙ t.answered) place.miss.updates) in
      omega (arith, n, more, now);
  posted = λ o. eq ∙ (t.posted ∙ place.miss.posted o);
  told = eq ∙ (t.posted ∙ place.miss.told);
  low = place.miss.low;
}
  where
    place : IsSoundBack s w.control.dev w.control.removals w.history k (link_of w.control k) (seat_of w k)
    place = ok.backs k t.below

    now : length y.replies ≡ 1
    now = ap (λ (v : List Bool). length v) (er ∙ ap (λ (v : List Bool). v ++ b ∷ []) t.answered)

-- where the translation gives a target, no cached lease has the asked page
without_served : (dev : Dev) (e t : ℕ) (g : List Grant) (m : Miss) (ls : List Lease) → IsWholeDev dev → translate dev e m.iova m.need ≡ At t → IsNow dev e g
    → AreGranted g ls → IsUnserved m ls → Without (page_of m.iova) ls
without_served dev e t g m [] ok f cur a u = tt
without_served dev e t g m (l ∷ ls) ok f cur a u = (go (has_page l (page_of m.iova)) refl, without_served dev e t g m ls ok f cur a.1 u.1)
  where
    go : (b : Bool) → has_page l (page_of m.iova) ≡ b → has_page l (page_of m.iova) ≡ false
    go false i = i
    go true i =
        let here = cur a.0.0 l a.0.1 (page_of m.iova) i in
        let may = found_leased dev e m.iova t m.need ok f in
        let same : may.0 ≡ piece l (page_of m.iova) = cc (may.1, here) in
        let it : permits m.need l.perm ≡ true = ap (λ (x : Lease). permits m.need x.perm) (sym same) ∙ may.2 in
        let not_it = (u.0 i).1 in absurd cc

-- the page of the miss is one of the back end's
pub miss_page : (s : ScriptValue) (k : ℕ) (z : Seat) (m : Miss) → IsCurrent s k z m → is_in (page_of m.iova) (pages_of s k) ≡ true
miss_page s k z m c = subst (λ a. is_in (page_of a) (pages_of s k) ≡ true) c.iova (Pages.access_page s k m.line m.part c.access c.is_access)

grant_sound : (s : ScriptValue) (w : World) (k : ℕ) (x : Link) (m : Miss) (l : Lease) → SoundParts s w → Takes s w k x m → has_page l (page_of m.iova) ≡ true
    → ((q : ℕ) → has_page l q ≡ true → lease w.control.dev (id_at s k) q ≡ Some (piece l q)) → ((q : ℕ) → has_page l q ≡ true → closed w.control.dev (id_at s k) k q w.control.removals ≡ false)
    → Without (page_of m.iova) (seat_of w k).cache
    → SoundParts s (after_device w (Some (record { control = with_link w.control k (granted_link x (page_of m.iova) (Some l)); entry = None })))
grant_sound s w k x m l ok t inside now shut fresh = link_sound s w k (granted_link x (page_of m.iova) (Some l)) ok t.below (record {
  link = Grants.serve_grant w.control.dev w.control.removals (id_at s k) k (page_of m.iova) l x.grants (seat_of w k).cache x.down x.acks inside now shut fresh none (link_now s w k x m ok t);
  miss = reply_miss s w k x (granted_link x (page_of m.iova) (Some l)) m false ok t refl refl refl refl (let n = push_updates_in l x.down in omega (arith, n));
  room = Pages.granted_room (pages_of s k) (page_of m.iova) l x.grants x.spare (link_now s w k x m ok t).distinct (miss_page s k (seat_of w k) m t.current) (room_now s w k x m ok t);
  track = record {
    at = (ok.backs k t.below).track.at ∙ ap (λ (v : List Bool). stands_at (seat_of w k) (any v)) (sym t.replies ∙ t.answered)
        ∙ ap (λ (v : List Bool). stands_at (seat_of w k) (any (v ++ false ∷ []))) (sym t.answered);
    ready = (ok.backs k t.below).track.ready;
    opened = (ok.backs k t.below).track.opened;
    faulted = λ f. absurd (cc (f, ap (λ (v : List Bool). any (v ++ false ∷ [])) t.answered));
  };
})
  where
    none : count_updates x.down ≡ 0
    none =
        let n : count_updates x.down ≤ 0 = subst (λ ds. count_updates ds ≤ 0) (sym t.down) (subst (λ (rs : List Bool). count_updates (link_of w.control k).down ≤ length rs) (sym t.replies ∙ t.answered) (ok.backs k t.below).miss.updates) in
        omega (arith, n)

fault_sound : (s : ScriptValue) (w : World) (k : ℕ) (x : Link) (m : Miss) (r : ℕ) → IsValid s → SoundParts s w → Takes s w k x m → translate w.control.dev (id_at s k) m.iova m.need ≡ Fault r
    → SoundParts s (after_device w (Some (serve_found s w.control k x m (Fault r))))
fault_sound s w k x m r valid ok t h = record {
  told = tell_fault s w.control.dev w.pages w.control.events w.history entry call w.control.dev w.pages (miss_record s k m r)
      (record { call = is_call; due = is_due; answer = sym replies.0; next_is = replies.1 }) refl is_record ok.told;
  whole = ok.whole;
  maps = ok.maps;
  records = noted_room s.setup.queue w.control.events (miss_record s k m r) (all_transfers s) ok.records;
  tables = tables_link w.control (place_count s) k y ok.tables;
  seats = ok.seats;
  ports = ok.ports;
  stands = ok.stands;
  queue = ok.queue;
  removals = ok.removals;
  settings = ok.settings;
  backs = at_link (λ j l. IsSoundBack s w.control.dev w.control.removals (w.history ++ entry ∷ []) j l (seat_of w j)) w.control (place_count s) k y ok.tables t.below
      (record {
        link = link_now s w k x m ok t;
        miss = reply_miss s w k x y m true ok t refl refl refl refl (omega arith);
        room = room_now s w k x m ok t;
        track = record {
          at = due_own s (back_at s k) w.history entry (same_caller-self (back_at s k)) ∙ (ap (λ n. let q : Place = record { line = n; part = 1 } in q) two ∙ ap (λ (v : List Bool). stands_at z (any (v ++ true ∷ []))) (sym t.answered));
          ready = λ e. whole_more s w.history entry (current_awaits s k z) (place.track.ready e);
          opened = λ e. whole_more s w.history entry (current_awaits s k z) (place.track.opened e);
          faulted = λ f. (r, subst (λ n. StandsIn (entry_of (back_at s k) n (z.done + 1) (fault_answer r)) (w.history ++ entry ∷ [])) cur.line (subst (λ n. StandsIn (entry_of (back_at s k) m.line n (fault_answer r)) (w.history ++ entry ∷ [])) cur.part (stands_last entry w.history)));
        };
      })
      (λ j below ne. let o = ok.backs j below in record { link = o.link; miss = o.miss; room = o.room; track = track_other s w.history entry j (link_of w.control j) (seat_of w j) (back_other s j k valid below t.below ne) o.track });
  drivers = λ j below. driver_other s j (count_held w.control.queue w.control.removals (port_of w.control j).setting j) w.history entry (port_of w.control j).answered (port_of w.control j).posted (stand_of w j) refl (ok.drivers j below);
}
  where
    z : Seat
    z = seat_of w k

    y : Link
    y = faulted_link x

    entry : Entry
    entry = entry_of (back_at s k) m.line m.part (fault_answer r)

    one : One
    one = record { dev = w.control.dev; memory = w.pages }

    cur : IsCurrent s k z m
    cur = t.current

    call : Call
    call = access_call (id_at s k) cur.access.part cur.access.work

    place : IsSoundBack s w.control.dev w.control.removals w.history k (link_of w.control k) z
    place = ok.backs k t.below

    is_call : call_of s entry.mark.caller entry.mark.line entry.mark.part ≡ Some call
    is_call = access_is s k m.line m.part cur.access cur.is_access

    goes : translate w.control.dev (id_at s k) cur.access.part.iova (need_of cur.access.work) ≡ Fault r
    goes = ap (λ a. translate w.control.dev (id_at s k) a (need_of cur.access.work)) cur.iova ∙ (ap (translate w.control.dev (id_at s k) m.iova) cur.need ∙ h)

    replies : (reply one call ≡ fault_answer r) × (next one call ≡ one)
    replies = fault_reply one (id_at s k) r cur.access.part cur.access.work goes

    is_record : record_of r call ≡ miss_record s k m r
    is_record = access_record (id_at s k) r cur.access.part cur.access.work ∙ (ap (λ n. fault_record r n (id_at s k) cur.access.part.iova) cur.need ∙ ap (fault_record r m.need (id_at s k)) cur.iova)

    two : m.line + 1 ≡ z.finished + 2
    two = let e = cur.line in omega (arith, e)

    is_due : IsDue s w.history entry
    is_due = record {
      known = ap is_some is_call;
      next = place.track.at ∙ (ap (λ (v : List Bool). stands_at z (any v)) (sym t.replies ∙ t.answered)
          ∙ (ap (λ n. let q : Place = record { line = n; part = z.done + 1 } in q) (sym cur.line) ∙ ap (λ n. let q : Place = record { line = m.line; part = n } in q) (sym cur.part)));
      awaited = subst (λ n. AreWhole s w.history (awaits_of s (back_at s k) n)) (sym cur.line) (place.track.opened t.opened);
    }

pub miss_sound : (s : ScriptValue) (w : World) (k : ℕ) (x : Link) (m : Miss) → IsValid s → SoundParts s w → Takes s w k x m → SoundParts s (after_device w (Some (serve_miss s w.control k x m)))
unfolding serve_miss
miss_sound s w k x m valid ok t = go (is_shut s w.control k m) refl
  where
    grants : (o : Option Lease) → run w.control.dev (id_at s k) (page_of m.iova) ≡ o → (a : ℕ) → translate w.control.dev (id_at s k) m.iova m.need ≡ At a
        → is_shut s w.control k m ≡ false
        → SoundParts s (after_device w (Some (record { control = with_link w.control k (granted_link x (page_of m.iova) (open_run w.control.dev (id_at s k) k w.control.removals (page_of m.iova) o)); entry = None })))
    grants None e a h shut =
        let f = found_leased w.control.dev (id_at s k) m.iova a m.need ok.whole h in
        let r = run_some w.control.dev (id_at s k) (page_of m.iova) f.0 f.1 in absurd (cc (r.1, e))
    grants (Some l) e a h shut =
        let is = run_is w.control.dev (id_at s k) (page_of m.iova) l ok.whole e in
        let c = cut_is w.control.dev (id_at s k) (page_of m.iova) (λ q. closed w.control.dev (id_at s k) k q w.control.removals) l is shut in
        let place = ok.backs k t.below in
        subst (λ o. SoundParts s (after_device w (Some (record { control = with_link w.control k (granted_link x (page_of m.iova) o); entry = None })))) (sym c.1)
        (grant_sound s w k x m c.0 ok t c.2.asked c.2.each c.3
        (without_served w.control.dev (id_at s k) a (link_of w.control k).grants m (seat_of w k).cache ok.whole h place.link.current place.link.cached t.current.unserved))

    goes : (p : Found) → translate w.control.dev (id_at s k) m.iova m.need ≡ p → is_shut s w.control k m ≡ false
        → SoundParts s (after_device w (Some (serve_found s w.control k x m p)))
    goes (At a) e shut = grants (run w.control.dev (id_at s k) (page_of m.iova)) refl a e shut
    goes (Fault r) e shut = fault_sound s w k x m r valid ok t e

    go : (b : Bool) → is_shut s w.control k m ≡ b
        → SoundParts s (after_device w (Some (cond b (record { control = with_link w.control k (parked_link x m); entry = None }) (serve_found s w.control k x m (translate w.control.dev (id_at s k) m.iova m.need)))))
    go true e = park_sound s w k x m ok t
    go false e = goes (translate w.control.dev (id_at s k) m.iova m.need) refl e
