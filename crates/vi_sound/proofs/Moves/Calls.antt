-- A driver's call that is in no place: it is answered, or its removal is begun.
use Rattle.std.proofs.Common.{◌≡◌, ◌==◌, ℕ, zero, suc, ◌+◌, ◌≤◌, ◌<◌, Bool, true, false, cond, ◌&&◌, List, [], ◌∷◌, ◌++◌, get_or, length, map, Option, Some, None, refl, arith, ◌∙◌, ap, sym, subst, ◌⊎◌, inl, inr, length-set, append-nil}
use Rattle.std.specs.Prelude.{is_some}
use Rattle.std.specs.List.{AllByRecursion, range_with_len}
use Rattle.std.proofs.lemmas.Bool.{cases_eq, cases_lt, eq-eqb, ne_eqb, or_parts, false_from_ne_true}
use Rattle.vi_bytes.specs.Leases.{has_page}
use Rattle.vi_bytes.specs.declared.span.Span.{Span}
use Rattle.vi_bytes.specs.declared.lease.Lease.{Lease}
use Rattle.vi_history.specs.Device.{Dev, One}
use Rattle.vi_history.specs.Kinds.{is_fault}
use Rattle.vi_history.specs.declared.reading.Reading.TheVariants.{Silent, Malformed, Asks}
use Rattle.vi_history.specs.Replies.{Answer, reply, next}
use Rattle.vi_history.specs.declared.request.Request.TheVariants.{Attach, Detach, Map, Unmap, Probe}
use Rattle.vi_history.specs.declared.call.Call.{Call}
use Rattle.vi_history.specs.declared.call.Call.TheVariants as call
use Rattle.vi_history.specs.declared.call.Caller.TheVariants.{Driver}
use Rattle.vi_history.specs.declared.entry.Entry.{Entry}
use Rattle.vi_lines.specs.Value.{ScriptValue}
use Rattle.vi_lines.specs.Calls.{call_of, awaits_of}
use Rattle.vi_lines.specs.Order.{batch_of, entries_at, IsDue}
use Rattle.vi_model.specs.Tasks.{task_of, task_in, task_at, task_answer, task_commit, removes, closes, reach_of}
use Rattle.vi_model.specs.declared.task.Task.{Task}
use Rattle.vi_model.specs.declared.task.Task.TheVariants.{Reads, Sets}
use Rattle.vi_model.specs.Lanes.{Down, Update, Invalidate, Lanes, count_updates}
use Rattle.vi_model.specs.Grants.{lease_under}
use Rattle.vi_model.specs.Removals.{Removal, waits_for, must_wait}
use Rattle.vi_model.specs.Control.{Answered, Port, Link, Control, Started, Made, driver_count, no_port, no_lanes, port_of, joined, link_of}
use Rattle.vi_model.specs.Places.{place_count, id_at}
use Rattle.vi_model.specs.Starts.{driver_entry, answered_port, answered, is_in_way, awaited_by, any, told, told_lanes, begun, removal_of, start}
use Rattle.vi_model.specs.Drivers.{Stand}
use Rattle.vi_model.specs.Worlds.{World, stand_of, seat_of}
use Rattle.vi_model.specs.Turns.{made_entries}
use Rattle.vi_model.specs.Whole.{IsWholeDev}
use Rattle.vi_model.specs.Asking.{one_if}
use Rattle.vi_model.specs.Tracks.{AreWhole}
use Rattle.vi_model.specs.Held.{IsCall, AreQueued, IsRemoval, SettingIsCall, count_removals, count_line, count_held, is_among_first, IsSoundDriver}
use Rattle.vi_model.specs.Rooms.{all_maps, all_transfers}
use Rattle.vi_model.specs.Sound.{HasTables, IsTold, IsSoundBack, SoundParts}
use Rattle.vi_sound.proofs.Moves.Wholes.{commit_whole}
use Rattle.vi_sound.proofs.Moves.Starts.{begin_removal, commit_call, must_wait_for}
use Rattle.vi_sound.proofs.Values.Tables.{at_one}
use Rattle.vi_sound.proofs.Values.Tells.{tell_more}
use Rattle.vi_sound.proofs.Values.Histories.{whole_more, entered_more, answers_more, stands_last}
use Rattle.vi_sound.proofs.Values.Frames.{track_other, driver_other, driver_same, driver_apart}
use Rattle.vi_sound.proofs.Values.Batches.{answered_more, told_more, among_first, batch_rises}

-- the world after the device's turn
abbrev pub after_device : World → Option Made → World
after_device w None = w
after_device w (Some o) = record w { control = o.control; history = w.history ++ made_entries o.entry }

-- a world that is sound but for driver j's open line, which waits for its answer in no place
pub record Held (s : ScriptValue) (w : World) (j line : ℕ) (q : Task) : Type 0 where
  pub told : IsTold s w.control.dev w.pages w.control.events w.history
  pub whole : IsWholeDev w.control.dev
  pub maps : all_maps s ≤ w.control.mappings
  pub records : all_transfers s ≤ length w.control.events.shown + w.control.events.room
  pub tables : HasTables w.control (place_count s)
  pub seats : length w.seats ≡ place_count s
  pub ports : length w.control.ports ≡ driver_count
  pub stands : length w.stands ≡ driver_count
  pub queue : AreQueued s w.control.queue
  pub removals : AllByRecursion (IsRemoval s (place_count s)) w.control.removals
  pub settings : (i : ℕ) → i < driver_count → SettingIsCall s i (port_of w.control i).setting
  pub backs : (k : ℕ) → k < place_count s → IsSoundBack s w.control.dev w.control.removals w.history k (link_of w.control k) (seat_of w k)
  pub call : IsCall s (record { driver = j; line = line; task = q })
  pub others : (i : ℕ) → i < driver_count → (i ≡ j → ⊥)
      → IsSoundDriver s i (count_held w.control.queue w.control.removals (port_of w.control i).setting i) w.history (port_of w.control i).answered (port_of w.control i).posted (stand_of w i)
  pub mine : IsSoundDriver s j (λ n. count_held w.control.queue w.control.removals (port_of w.control j).setting j n + one_if (line == n)) w.history (port_of w.control j).answered (port_of w.control j).posted (stand_of w j)

-- ---- the call of a task

same_task : {A : Type 0} (x y : A) → Some x ≡ Some y → x ≡ y
same_task x y h = cc

pub reply_task : (one : One) (c : Call) (q : Task) → task_of c ≡ Some q → (reply one c ≡ task_answer one.dev q) × (next one c ≡ record one { dev = task_commit one.dev q })
unfolding reply next
reply_task one (call.Ask request) q h = let same = same_task _ q h in (ap (task_answer one.dev) same, ap (λ t. let o : One = record one { dev = task_commit one.dev t } in o) same)
reply_task one (call.Raw read write) q h = let same = same_task _ q h in (ap (task_answer one.dev) same, ap (λ t. let o : One = record one { dev = task_commit one.dev t } in o) same)
reply_task one (call.Bypass on) q h = let same = same_task _ q h in (ap (task_answer one.dev) same, ap (λ t. let o : One = record one { dev = task_commit one.dev t } in o) same)
reply_task one (call.Read id part) q h = absurd cc
reply_task one (call.Write id part bytes) q h = absurd cc

task_call : (s : ScriptValue) (j line : ℕ) (q : Task) → task_at s j line ≡ Some q → (c : Call) × (call_of s (Driver j) line 0 ≡ Some c) × (task_of c ≡ Some q)
task_call s j line q h = go (call_of s (Driver j) line 0) refl h
  where
    go : (o : Option Call) → call_of s (Driver j) line 0 ≡ o → task_in o ≡ Some q → (c : Call) × (call_of s (Driver j) line 0 ≡ Some c) × (task_of c ≡ Some q)
    go None e h = absurd cc
    go (Some c) e h = (c, e, h)

pub no_fault : (dev : Dev) (q : Task) → is_fault (task_answer dev q).kind ≡ false
no_fault dev (Reads Silent) = refl
no_fault dev (Reads (Malformed true)) = refl
no_fault dev (Reads (Malformed false)) = refl
no_fault dev (Reads (Asks (Attach d e f))) = refl
no_fault dev (Reads (Asks (Detach d e))) = refl
no_fault dev (Reads (Asks (Map d a b t f))) = refl
no_fault dev (Reads (Asks (Unmap d a b))) = refl
no_fault dev (Reads (Asks (Probe e))) = refl
no_fault dev (Sets on) = refl

-- ---- the driver

-- it is answered
answer_driver : (s : ScriptValue) (j line : ℕ) (held : ℕ → ℕ) (hs : List Entry) (a : Answer) (answers : List Answered) (posted : ℕ) (d : Stand)
    → IsSoundDriver s j (λ n. held n + one_if (line == n)) hs answers posted d
    → IsSoundDriver s j held (hs ++ driver_entry j line a ∷ []) (answers ++ record { line = line; answer = a } ∷ []) posted d
answer_driver s j line held hs a answers posted d ok = record {
  one = λ n. let m = answered_more n (record { line = line; answer = a }) answers in let o = ok.one n in omega (arith, m, o);
  once = ok.once;
  below = ok.below;
  lines = ok.lines;
  batch = ok.batch;
  told = told_more (hs ++ h ∷ []) j (record { line = line; answer = a }) answers (stands_last h hs) (answers_more hs h j answers ok.told);
  entered = λ n.
      let m = answered_more n (record { line = line; answer = a }) answers in
      let t = entered_more (Driver j) n hs h in
      let u : one_if ((j == j) && (line == n)) ≡ one_if (line == n) = ap (λ b. one_if (b && (line == n))) (eq-eqb j j refl) in
      let e = ok.entered n in omega (arith, m, t, u, e);
  opened = λ n o. whole_more s hs h (awaits_of s (Driver j) n) (ok.opened n o);
  posted_is = ok.posted_is;
}
  where
    h : Entry
    h = driver_entry j line a

-- it is the open one, without an entry, and all lines of the earlier batches have one
pub held_due : (s : ScriptValue) (j line : ℕ) (held : ℕ → ℕ) (hs : List Entry) (answers : List Answered) (posted : ℕ) (d : Stand)
    → IsSoundDriver s j (λ n. held n + one_if (line == n)) hs answers posted d
    → ((entries_at (Driver j) line hs ≡ 0) × ((n : ℕ) → 1 ≤ n → batch_of s (Driver j) n < batch_of s (Driver j) line → 0 < entries_at (Driver j) n hs)) × AreWhole s hs (awaits_of s (Driver j) line)
held_due s j line held hs answers posted d ok =
    let self : one_if (line == line) ≡ 1 = ap one_if (eq-eqb line line refl) in
    let one = ok.one line in
    let once = ok.once line in
    let open_here : 0 < count_line line d.open_lines = omega (arith, self, one) in
    let before = ok.below line open_here in
    let inside : one_if (is_among_first line d.submitted) ≡ 1 = among_first line d.submitted before.0 before.1 in
    let e = ok.entered line in
    ((omega (arith, self, one, once, inside, e), λ n low l. earlier n low l open_here before.1 (cases_eq (count_line n d.open_lines) 0)), ok.opened line open_here)
  where
    earlier : (n : ℕ) → 1 ≤ n → batch_of s (Driver j) n < batch_of s (Driver j) line → 0 < count_line line d.open_lines → line ≤ d.submitted → (count_line n d.open_lines ≡ 0) ⊎ (count_line n d.open_lines ≡ 0 → ⊥) → 0 < entries_at (Driver j) n hs
    earlier n low l o b (inl z) = by (cases_lt n line)
      where
        by : (n < line) ⊎ (line ≤ n) → 0 < entries_at (Driver j) n hs
        by (inl lt) =
            let inside : one_if (is_among_first n d.submitted) ≡ 1 = among_first n d.submitted low (omega (arith, lt, b)) in
            let e = ok.entered n in omega (arith, inside, e, z)
        by (inr ge) = let up = batch_rises s (Driver j) line n ge in absurd (omega (arith, up, l))
    earlier n low l o b (inr nz) = let same = ok.batch n line (omega (arith, nz)) o in absurd (omega (arith, same, l))

-- it is answered, and takes effect
pub answer_sound : (s : ScriptValue) (w : World) (j line : ℕ) (q : Task) → Held s w j line q
    → ((k : ℕ) → k < place_count s → (p : ℕ) (l : Lease) → lease_under p (link_of w.control k).grants ≡ Some l → (n : ℕ) → has_page l n ≡ true → removes w.control.dev q ≡ true → closes w.control.dev q (id_at s k) n ≡ false)
    → SoundParts s (after_device w (Some (answered w.control j line q)))
answer_sound s w j line q ok far = record {
  told = tell_more s w.control.dev w.pages w.control.events w.history h c.0 (task_commit w.control.dev q) w.pages
      (record { call = c.1; due = is_due; answer = sym (reply_task one c.0 q c.2).0; next_is = (reply_task one c.0 q c.2).1 }) (no_fault w.control.dev q) ok.told;
  whole = commit_whole w.control.dev q ok.whole;
  maps = ok.maps;
  records = ok.records;
  tables = ok.tables;
  seats = ok.seats;
  ports = length-set w.control.ports j port ∙ ok.ports;
  stands = ok.stands;
  queue = ok.queue;
  removals = ok.removals;
  settings = at_one (λ i p. SettingIsCall s i p.setting) w.control.ports no_port port driver_count j ok.ports ok.call.0 (ok.settings j ok.call.0) (λ i below ne. ok.settings i below);
  backs = λ k below. let o = ok.backs k below in record {
    link = commit_call w.control.dev w.control.removals q (id_at s k) k (link_of w.control k).grants (seat_of w k).cache (link_of w.control k).down (link_of w.control k).acks (far k below) o.link;
    miss = o.miss;
    room = o.room;
    track = track_other s w.history h k (link_of w.control k) (seat_of w k) refl o.track;
  };
  drivers = at_one (λ i p. IsSoundDriver s i (count_held w.control.queue w.control.removals p.setting i) (w.history ++ h ∷ []) p.answered p.posted (stand_of w i)) w.control.ports no_port port driver_count j ok.ports ok.call.0
      (answer_driver s j line (count_held w.control.queue w.control.removals (port_of w.control j).setting j) w.history (task_answer w.control.dev q) (port_of w.control j).answered (port_of w.control j).posted (stand_of w j) ok.mine)
      (λ i below ne. driver_other s i (count_held w.control.queue w.control.removals (port_of w.control i).setting i) w.history h (port_of w.control i).answered (port_of w.control i).posted (stand_of w i) (driver_apart j i ne) (ok.others i below ne));
}
  where
    port : Port
    port = answered_port (port_of w.control j) line (task_answer w.control.dev q)

    h : Entry
    h = driver_entry j line (task_answer w.control.dev q)

    one : One
    one = record { dev = w.control.dev; memory = w.pages }

    c : (c : Call) × (call_of s (Driver j) line 0 ≡ Some c) × (task_of c ≡ Some q)
    c = task_call s j line q ok.call.1

    is_due : IsDue s w.history h
    is_due =
        let r = held_due s j line (count_held w.control.queue w.control.removals (port_of w.control j).setting j) w.history (port_of w.control j).answered (port_of w.control j).posted (stand_of w j) ok.mine in
        record { known = ap is_some c.1; next = r.0; awaited = r.1 }

-- ---- who waits, by place

map_at : {A : Type 0} (f : ℕ → A) (a n k : ℕ) (d : A) → k < n → get_or (map f (range_with_len a n)) k d ≡ f (a + k)
map_at f a zero k d lt = absurd (omega (arith, lt))
map_at f a (suc n) zero d lt = ap f (omega arith)
map_at f a (suc n) (suc k) d lt = map_at f (a + 1) n k d (omega (arith, lt)) ∙ ap f (omega arith)

map_length : {A : Type 0} (f : ℕ → A) (a n : ℕ) → length (map f (range_with_len a n)) ≡ n
map_length f a zero = refl
map_length f a (suc n) = ap suc (map_length f (a + 1) n)

pub awaited_here : (s : ScriptValue) (c : Control) (q : Task) (k : ℕ) → k < place_count s → get_or (awaited_by s c q) k false ≡ must_wait c.dev q (id_at s k) (link_of c k).grants
awaited_here s c q k lt = map_at (is_in_way s c q) 0 (place_count s) k false lt ∙ ap (is_in_way s c q) (omega arith)

pub any_none : (bs : List Bool) (k : ℕ) → any bs ≡ false → get_or bs k false ≡ false
any_none [] k h = refl
any_none (b ∷ bs) zero h = (or_parts b (any bs) h).0
any_none (b ∷ bs) (suc k) h = any_none bs k (or_parts b (any bs) h).1

-- the link with what the removal sends it
abbrev pub told_link : Removal → ℕ → Link → Link
told_link r k x = record x { down = told (waits_for k r) (reach_of r.task) x.down }

pub tell_here : (r : Removal) (c : Control) (k : ℕ) → k < length c.mail → link_of (begun c r) k ≡ told_link r k (link_of c k)
tell_here r c k lt = ap (λ (x : Lanes). joined (get_or c.grants k []) (get_or c.spares k 0) x (get_or c.parked k None) (get_or c.posted k 0))
    (map_at (told_lanes r c.mail) 0 (length c.mail) k no_lanes lt ∙ ap (told_lanes r c.mail) (omega arith))

told_updates : (b : Bool) (reach : Option Span) (fs : List Down) → count_updates (told b reach fs) ≡ count_updates fs
told_updates false reach fs = refl
told_updates true reach [] = refl
told_updates true reach (Update l ∷ fs) = ap (λ n. n + 1) (told_updates true reach fs)
told_updates true reach (Invalidate t ∷ fs) = told_updates true reach fs

removed_more : (j line : ℕ) (r : Removal) (rs : List Removal) → count_removals j line (rs ++ r ∷ []) ≡ count_removals j line rs + one_if ((r.driver == j) && (r.line == line))
removed_more j line r [] = omega arith
removed_more j line r (x ∷ rs) = let i = removed_more j line r rs in omega (arith, i)

removals_more : (s : ScriptValue) (r : Removal) (rs : List Removal) → IsRemoval s (place_count s) r → AllByRecursion (IsRemoval s (place_count s)) rs → AllByRecursion (IsRemoval s (place_count s)) (rs ++ r ∷ [])
removals_more s r [] c h = (c, tt)
removals_more s r (x ∷ rs) c h = (h.0, removals_more s r rs c h.1)

begun_place : (s : ScriptValue) (w : World) (r : Removal) (k : ℕ) (y : Link) → waits_for k r ≡ must_wait w.control.dev r.task (id_at s k) (link_of w.control k).grants
    → y ≡ told_link r k (link_of w.control k)
    → IsSoundBack s w.control.dev w.control.removals w.history k (link_of w.control k) (seat_of w k) → IsSoundBack s w.control.dev (w.control.removals ++ r ∷ []) w.history k y (seat_of w k)
begun_place s w r k y waits is ok = subst (λ l. IsSoundBack s w.control.dev (w.control.removals ++ r ∷ []) w.history k l (seat_of w k)) (sym is) (record {
  link = begin_removal w.control.dev w.control.removals r (id_at s k) k x.grants (seat_of w k).cache x.down x.acks waits ok.link;
  miss = record {
    one = ok.miss.one;
    up = ok.miss.up;
    parked = ok.miss.parked;
    updates = let n = told_updates (waits_for k r) (reach_of r.task) x.down in let m = ok.miss.updates in omega (arith, n, m);
    posted = ok.miss.posted;
    told = ok.miss.told;
    low = ok.miss.low;
  };
  room = ok.room;
  track = record { at = ok.track.at; ready = ok.track.ready; opened = ok.track.opened; faulted = ok.track.faulted };
})
  where
    x : Link
    x = link_of w.control k

-- its removal is begun
begin_sound : (s : ScriptValue) (w : World) (call : Started) → Held s w call.driver call.line call.task → SoundParts s (record w { control = begun w.control (removal_of call (awaited_by s w.control call.task)) })
begin_sound s w call ok = record {
  told = ok.told;
  whole = ok.whole;
  maps = ok.maps;
  records = ok.records;
  tables = let t = ok.tables in record { of_grants = t.of_grants; of_spares = t.of_spares; of_mail = map_length (told_lanes r w.control.mail) 0 (length w.control.mail) ∙ t.of_mail; of_parked = t.of_parked; of_posted = t.of_posted };
  seats = ok.seats;
  ports = ok.ports;
  stands = ok.stands;
  queue = ok.queue;
  removals = removals_more s r w.control.removals (ok.call, map_length (is_in_way s w.control q) 0 (place_count s)) ok.removals;
  settings = ok.settings;
  backs = λ k below.
      let m = ok.tables.of_mail in
      begun_place s w r k (link_of (begun w.control r) k) (awaited_here s w.control q k below) (tell_here r w.control k (omega (arith, below, m))) (ok.backs k below);
  drivers = λ i below. one i below (cases_eq i j);
}
  where
    j : ℕ
    j = call.driver

    q : Task
    q = call.task

    r : Removal
    r = removal_of call (awaited_by s w.control call.task)

    one : (i : ℕ) → i < driver_count → (i ≡ j) ⊎ (i ≡ j → ⊥) → IsSoundDriver s i (count_held w.control.queue (w.control.removals ++ r ∷ []) (port_of w.control i).setting i) w.history (port_of w.control i).answered (port_of w.control i).posted (stand_of w i)
    one i below (inl e) = subst (λ n. IsSoundDriver s n (count_held w.control.queue (w.control.removals ++ r ∷ []) (port_of w.control n).setting n) w.history (port_of w.control n).answered (port_of w.control n).posted (stand_of w n)) (sym e)
        (driver_same s j (λ line. count_held w.control.queue w.control.removals (port_of w.control j).setting j line + one_if (call.line == line)) (count_held w.control.queue (w.control.removals ++ r ∷ []) (port_of w.control j).setting j) w.history (port_of w.control j).answered (port_of w.control j).posted (stand_of w j)
        (λ line.
        let m = removed_more j line r w.control.removals in
        let u : one_if ((j == j) && (call.line == line)) ≡ one_if (call.line == line) = ap (λ b. one_if (b && (call.line == line))) (eq-eqb j j refl) in
        omega (arith, m, u))
        ok.mine)
    one i below (inr ne) =
        driver_same s i (count_held w.control.queue w.control.removals (port_of w.control i).setting i) (count_held w.control.queue (w.control.removals ++ r ∷ []) (port_of w.control i).setting i) w.history (port_of w.control i).answered (port_of w.control i).posted (stand_of w i)
        (λ line.
        let m = removed_more i line r w.control.removals in
        let u : one_if ((j == i) && (call.line == line)) ≡ 0 = ap (λ b. one_if (b && (call.line == line))) (ne_eqb j i (λ e. ne (sym e))) in
        omega (arith, m, u))
        (ok.others i below ne)

-- a call is started
pub start_sound : (s : ScriptValue) (w : World) (call : Started) → Held s w call.driver call.line call.task → SoundParts s (after_device w (Some (start s w.control call)))
unfolding start
start_sound s w call ok = go (removes w.control.dev call.task) refl (any (awaited_by s w.control call.task)) refl
  where
    waits : List Bool
    waits = awaited_by s w.control call.task

    far : (removes w.control.dev call.task ≡ true → any (awaited_by s w.control call.task) ≡ false)
        → (k : ℕ) → k < place_count s → (p : ℕ) (l : Lease) → lease_under p (link_of w.control k).grants ≡ Some l → (n : ℕ) → has_page l n ≡ true → removes w.control.dev call.task ≡ true → closes w.control.dev call.task (id_at s k) n ≡ false
    far h k below p l f n i rem =
        let not_it : must_wait w.control.dev call.task (id_at s k) (link_of w.control k).grants ≡ false = sym (awaited_here s w.control call.task k below) ∙ any_none (awaited_by s w.control call.task) k (h rem) in
        false_from_ne_true (closes w.control.dev call.task (id_at s k) n) (λ c. let m = must_wait_for w.control.dev call.task (id_at s k) p n l (link_of w.control k).grants f i c in absurd cc)

    go : (a : Bool) → removes w.control.dev call.task ≡ a → (b : Bool) → any (awaited_by s w.control call.task) ≡ b
        → SoundParts s (after_device w (Some (cond (a && b) (record { control = begun w.control (removal_of call (awaited_by s w.control call.task)); entry = None }) (answered w.control call.driver call.line call.task))))
    go true e true f = subst (λ hs. SoundParts s (record w { control = begun w.control (removal_of call (awaited_by s w.control call.task)); history = hs })) (sym (append-nil w.history)) (begin_sound s w call ok)
    go true e false f = answer_sound s w call.driver call.line call.task ok (far (λ h. f))
    go false e b f = answer_sound s w call.driver call.line call.task ok (far (λ h. absurd cc))
