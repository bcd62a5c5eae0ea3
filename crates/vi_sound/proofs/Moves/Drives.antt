-- A driver submits and collects.
use Rattle.std.proofs.Common.{◌≡◌, ◌==◌, ℕ, zero, suc, ◌+◌, ◌-◌, ◌≤◌, ◌<◌, Bool, true, false, cond, ◌&&◌, List, [], ◌∷◌, ◌++◌, get_or, set, length, Option, Some, None, refl, arith, ◌∙◌, ap, sym, subst, length-set, ◌⊎◌, inl, inr}
use Rattle.std.proofs.lemmas.Bool.{ne_eqb, eq-eqb, cases_eq, and_parts}
use Rattle.std.proofs.lemmas.Option.{slice_get_within, get_or_from_slice_get}
use Rattle.vi_history.specs.declared.call.Caller.TheVariants.{Driver}
use Rattle.vi_history.specs.declared.entry.Entry.{Entry}
use Rattle.vi_lines.specs.declared.line.Line.{Line}
use Rattle.vi_lines.specs.Value.{ScriptValue}
use Rattle.vi_lines.specs.Calls.{lines_of, line_of, awaits_in, awaits_of}
use Rattle.vi_lines.specs.Order.{batch_of, entries_at}
use Rattle.vi_model.specs.Control.{Queued, Setting, Answered, Port, driver_count, no_port, port_of}
use Rattle.vi_model.specs.Posted.{all_posted}
use Rattle.vi_model.specs.Starts.{queued_call}
use Rattle.vi_model.specs.Drivers.{Stand, no_stand, Driven, finished_first, first_answer, other_answers, other_lines, collect, Parcel, Chain, Switch, parcel_of, left, next_open, submit, submit_parcel, is_one_batch, submit_line, collect_first, driver_turn}
use Rattle.vi_model.specs.Worlds.{World, stand_of}
use Rattle.vi_model.specs.Asking.{one_if}
use Rattle.vi_model.specs.Tracks.{AreWhole}
use Rattle.vi_model.specs.Held.{IsCall, AreQueued, SettingIsCall, count_queued, count_setting, count_answers, count_line, count_held, is_among_first, IsSoundDriver}
use Rattle.vi_model.specs.Playable.{IsPlayable}
use Rattle.vi_model.specs.Sound.{SoundParts}
use Rattle.vi_sound.proofs.Values.Tables.{at_one, at_two}
use Rattle.vi_sound.proofs.Values.Batches.{finished_more, among_more, times_more, less_same, less_other, answered_same, answered_other, less_told, first_in, batch_ends, batch_all}
use Rattle.vi_sound.proofs.Values.Frames.{driver_same}
use Rattle.vi_sound.proofs.Moves.Hears.{posted_whole}
use Rattle.vi_sound.proofs.Values.Parcels.{parcel_is, setting_ends}

-- the world after a driver's turn
abbrev pub after_driver : World → ℕ → Option Driven → World
after_driver w j None = w
after_driver w j (Some o) = record w { control = o.control; stands = set w.stands j o.stand }

collect_driver : (s : ScriptValue) (j : ℕ) (held : ℕ → ℕ) (h : List Entry) (answers : List Answered) (posted : ℕ) (d : Stand) (line : ℕ) → 0 < count_answers line answers → IsSoundDriver s j held h answers posted d
    → IsSoundDriver s j held h (other_answers line answers) (finished_first (other_lines line d.open_lines) d.submitted) (record d { open_lines = other_lines line d.open_lines })
collect_driver s j held h answers posted d line some ok = record {
  one = λ a. one a (cases_eq a line);
  once = λ a. let f = few a (cases_eq a line) in let o = ok.once a in omega (arith, f, o);
  lines = ok.lines;
  below = λ a i. ok.below a (let f = few a (cases_eq a line) in omega (arith, f, i));
  batch = λ a b i k. ok.batch a b (let f = few a (cases_eq a line) in omega (arith, f, i)) (let f = few b (cases_eq b line) in omega (arith, f, k));
  told = less_told h j line answers ok.told;
  entered = λ a. entered a (cases_eq a line);
  opened = λ a i. ok.opened a (let f = few a (cases_eq a line) in omega (arith, f, i));
  posted_is = refl;
}
  where
    few : (a : ℕ) → (a ≡ line) ⊎ (a ≡ line → ⊥) → count_line a (other_lines line d.open_lines) ≤ count_line a d.open_lines
    few a (inl e) = let z : count_line a (other_lines line d.open_lines) ≡ 0 = ap (λ n. count_line n (other_lines line d.open_lines)) e ∙ less_same line d.open_lines in omega (arith, z)
    few a (inr ne) = let z = less_other a line d.open_lines ne in omega (arith, z)

    here : (count_line line d.open_lines ≡ 1) × (held line ≡ 0) × (count_answers line answers ≡ 1)
    here = let o = ok.one line in let n = ok.once line in (omega (arith, o, n, some), omega (arith, o, n, some), omega (arith, o, n, some))

    one : (a : ℕ) → (a ≡ line) ⊎ (a ≡ line → ⊥) → held a + count_answers a (other_answers line answers) ≡ count_line a (other_lines line d.open_lines)
    one a (inl e) = subst (λ a. held a + count_answers a (other_answers line answers) ≡ count_line a (other_lines line d.open_lines)) (sym e)
        (let x = less_same line d.open_lines in let y = answered_same line answers in let z = here.1 in omega (arith, x, y, z))
    one a (inr ne) = let x = less_other a line d.open_lines ne in let y = answered_other a line answers ne in let o = ok.one a in omega (arith, x, y, o)

    entered : (a : ℕ) → (a ≡ line) ⊎ (a ≡ line → ⊥) → entries_at (Driver j) a h + count_line a (other_lines line d.open_lines) ≡ one_if (is_among_first a d.submitted) + count_answers a (other_answers line answers)
    entered a (inl e) = subst (λ a. entries_at (Driver j) a h + count_line a (other_lines line d.open_lines) ≡ one_if (is_among_first a d.submitted) + count_answers a (other_answers line answers)) (sym e)
        (let x = less_same line d.open_lines in let y = answered_same line answers in let z = ok.entered line in let t = here.0 in let u = here.2 in omega (arith, x, y, z, t, u))
    entered a (inr ne) = let x = less_other a line d.open_lines ne in let y = answered_other a line answers ne in let o = ok.entered a in omega (arith, x, y, o)

collect_sound : (s : ScriptValue) (w : World) (j line : ℕ) → SoundParts s w → j < driver_count → 0 < count_answers line (port_of w.control j).answered → SoundParts s (after_driver w j (Some (collect w.control j (stand_of w j) line)))
unfolding collect
collect_sound s w j line ok lt some = record {
  told = ok.told;
  whole = ok.whole;
  maps = ok.maps;
  records = ok.records;
  tables = ok.tables;
  seats = ok.seats;
  ports = length-set w.control.ports j port ∙ ok.ports;
  stands = length-set w.stands j stand ∙ ok.stands;
  queue = ok.queue;
  removals = ok.removals;
  settings = at_one (λ i p. SettingIsCall s i p.setting) w.control.ports no_port port driver_count j ok.ports lt (ok.settings j lt) (λ i below ne. ok.settings i below);
  backs = ok.backs;
  drivers = at_two (λ i p d. IsSoundDriver s i (count_held w.control.queue w.control.removals p.setting i) w.history p.answered p.posted d) w.control.ports w.stands no_port port no_stand stand driver_count j ok.ports ok.stands lt
      (collect_driver s j (count_held w.control.queue w.control.removals (port_of w.control j).setting j) w.history (port_of w.control j).answered (port_of w.control j).posted (stand_of w j) line some (ok.drivers j lt))
      (λ i below ne. ok.drivers i below);
}
  where
    stand : Stand
    stand = let d : Stand = stand_of w j in record d { open_lines = other_lines line d.open_lines }

    port : Port
    port = let p : Port = port_of w.control j in record p { answered = other_answers line p.answered; posted = finished_first (other_lines line (stand_of w j).open_lines) (stand_of w j).submitted }

queued_more : (j line : ℕ) (q : Queued) (qs : List Queued) → count_queued j line (qs ++ q ∷ []) ≡ count_queued j line qs + one_if ((q.driver == j) && (q.line == line))
queued_more j line q [] = omega arith
queued_more j line q (x ∷ qs) = let r = queued_more j line q qs in omega (arith, r)

queue_more : (s : ScriptValue) (q : Queued) (qs : List Queued) → IsCall s (queued_call q) → AreQueued s qs → AreQueued s (qs ++ q ∷ [])
queue_more s q [] c h = (c, tt)
queue_more s q (x ∷ qs) c h = (h.0, queue_more s q qs c h.1)

-- when driver j submits a line
record Submits (s : ScriptValue) (w : World) (j : ℕ) (l : Line) (parcel : Parcel) : Type 0 where
  below : j < driver_count
  is : line_of s (Driver j) ((stand_of w j).submitted + 1) ≡ Some l
  batch : is_one_batch s j (stand_of w j) ≡ true
  posted : all_posted s w.control l.awaits ≡ true
  parcel_is : parcel_of l.job ≡ Some parcel

pub line_below : (s : ScriptValue) (j line : ℕ) (l : Line) → line_of s (Driver j) line ≡ Some l → line ≤ length (lines_of s (Driver j))
line_below s j zero l h = absurd cc
line_below s j (suc before) l h = let lt = slice_get_within (lines_of s (Driver j)) before l h in omega (arith, lt)

line_get : (s : ScriptValue) (j line : ℕ) (l : Line) → line_of s (Driver j) line ≡ Some l → get_or (lines_of s (Driver j)) (line - 1) l ≡ l
line_get s j zero l h = absurd cc
line_get s j (suc before) l h = let e : suc before - 1 ≡ before = omega arith in ap (λ n. get_or (lines_of s (Driver j)) n l) e ∙ get_or_from_slice_get (lines_of s (Driver j)) before l l h

-- its line is open, in one more place
submit_driver : (s : ScriptValue) (j : ℕ) (held now : ℕ → ℕ) (h : List Entry) (answers : List Answered) (posted : ℕ) (d : Stand) → ((line : ℕ) → now line ≡ held line + one_if (d.submitted + 1 == line))
    → d.submitted + 1 ≤ length (lines_of s (Driver j)) → is_one_batch s j d ≡ true → AreWhole s h (awaits_of s (Driver j) (d.submitted + 1))
    → IsSoundDriver s j held h answers posted d → IsSoundDriver s j now h answers posted (next_open d)
submit_driver s j held now h answers posted d more within same whole ok = record {
  one = λ a. let m = more a in let t = times_more a n d.open_lines in let o = ok.one a in omega (arith, m, t, o);
  once = λ a. once a (cases_eq n a);
  below = λ a i. below a i (cases_eq n a);
  lines = within;
  batch = λ a b i k. start a i (cases_eq n a) ∙ sym (start b k (cases_eq n b));
  told = ok.told;
  entered = λ a. let t = times_more a n d.open_lines in let e = ok.entered a in let c = among_more a d.submitted in omega (arith, t, e, c);
  opened = λ a i. opened a i (cases_eq n a);
  posted_is = ok.posted_is ∙ sym (finished_more d.open_lines d.submitted);
}
  where
    n : ℕ
    n = d.submitted + 1

    fresh : count_line n d.open_lines ≡ 0
    fresh = go (cases_eq (count_line n d.open_lines) 0)
      where
        go : (count_line n d.open_lines ≡ 0) ⊎ (count_line n d.open_lines ≡ 0 → ⊥) → count_line n d.open_lines ≡ 0
        go (inl e) = e
        go (inr ne) = let b = (ok.below n (omega (arith, ne))).1 in absurd (omega (arith, b))

    old : (a : ℕ) → (n ≡ a → ⊥) → count_line a (d.open_lines ++ n ∷ []) ≡ count_line a d.open_lines
    old a ne = let t = times_more a n d.open_lines in let z : one_if (n == a) ≡ 0 = ap one_if (ne_eqb n a ne) in omega (arith, t, z)

    once : (a : ℕ) → (n ≡ a) ⊎ (n ≡ a → ⊥) → count_line a (d.open_lines ++ n ∷ []) ≤ 1
    once a (inl e) =
        let t = times_more a n d.open_lines in
        let z : one_if (n == a) ≡ 1 = ap one_if (eq-eqb n a e) in
        let f : count_line a d.open_lines ≡ 0 = ap (λ m. count_line m d.open_lines) (sym e) ∙ fresh in omega (arith, t, z, f)
    once a (inr ne) = let t = old a ne in let o = ok.once a in omega (arith, t, o)

    below : (a : ℕ) → 0 < count_line a (d.open_lines ++ n ∷ []) → (n ≡ a) ⊎ (n ≡ a → ⊥) → (1 ≤ a) × (a ≤ d.submitted + 1)
    below a i (inl e) = (omega (arith, e), omega (arith, e))
    below a i (inr ne) = let t = old a ne in let b = ok.below a (omega (arith, t, i)) in (b.0, omega (arith, b.1))

    start : (a : ℕ) → 0 < count_line a (d.open_lines ++ n ∷ []) → (n ≡ a) ⊎ (n ≡ a → ⊥) → batch_of s (Driver j) a ≡ batch_of s (Driver j) n
    start a i (inl e) = ap (batch_of s (Driver j)) (sym e)
    start a i (inr ne) = let t = old a ne in batch_all s (Driver j) (batch_of s (Driver j) n) a d.open_lines same (omega (arith, t, i))

    opened : (a : ℕ) → 0 < count_line a (d.open_lines ++ n ∷ []) → (n ≡ a) ⊎ (n ≡ a → ⊥) → AreWhole s h (awaits_of s (Driver j) a)
    opened a i (inl e) = subst (λ m. AreWhole s h (awaits_of s (Driver j) m)) e whole
    opened a i (inr ne) = let t = old a ne in ok.opened a (omega (arith, t, i))

awaits_whole : (s : ScriptValue) (w : World) (j : ℕ) (l : Line) (parcel : Parcel) → IsPlayable s → SoundParts s w → Submits s w j l parcel → AreWhole s w.history (awaits_of s (Driver j) ((stand_of w j).submitted + 1))
awaits_whole s w j l parcel play ok sub =
    let is : awaits_of s (Driver j) ((stand_of w j).submitted + 1) ≡ l.awaits = ap awaits_in sub.is in
    posted_whole s w (Driver j) ((stand_of w j).submitted + 1) play.valid ok (ap (all_posted s w.control) is ∙ sub.posted)

submit_queue : (s : ScriptValue) (w : World) (j : ℕ) (l : Line) (read : List ℕ) (write : ℕ) → IsPlayable s → SoundParts s w → Submits s w j l (Chain read write)
    → SoundParts s (after_driver w j (Some (record { control = left w.control j ((stand_of w j).submitted + 1) (Chain read write); stand = next_open (stand_of w j) })))
submit_queue s w j l read write play ok sub = record {
  told = ok.told;
  whole = ok.whole;
  maps = ok.maps;
  records = ok.records;
  tables = ok.tables;
  seats = ok.seats;
  ports = ok.ports;
  stands = length-set w.stands j stand ∙ ok.stands;
  queue = queue_more s q w.control.queue (sub.below, parcel_is s j n l (Chain read write) play sub.is sub.parcel_is) ok.queue;
  removals = ok.removals;
  settings = ok.settings;
  backs = ok.backs;
  drivers = at_one (λ i d. IsSoundDriver s i (count_held (w.control.queue ++ q ∷ []) w.control.removals (port_of w.control i).setting i) w.history (port_of w.control i).answered (port_of w.control i).posted d) w.stands no_stand stand driver_count j ok.stands sub.below
      (submit_driver s j (count_held w.control.queue w.control.removals (port_of w.control j).setting j) (count_held (w.control.queue ++ q ∷ []) w.control.removals (port_of w.control j).setting j) w.history (port_of w.control j).answered (port_of w.control j).posted (stand_of w j)
      (λ line.
      let m = queued_more j line q w.control.queue in
      let u : one_if ((j == j) && (n == line)) ≡ one_if (n == line) = ap (λ b. one_if (b && (n == line))) (eq-eqb j j refl) in
      omega (arith, m, u))
      (line_below s j n l sub.is) sub.batch (awaits_whole s w j l (Chain read write) play ok sub) (ok.drivers j sub.below))
      (λ i below ne. driver_same s i (count_held w.control.queue w.control.removals (port_of w.control i).setting i) (count_held (w.control.queue ++ q ∷ []) w.control.removals (port_of w.control i).setting i) w.history (port_of w.control i).answered (port_of w.control i).posted (stand_of w i)
      (λ line.
      let m = queued_more i line q w.control.queue in
      let u : one_if ((j == i) && (n == line)) ≡ 0 = ap (λ b. one_if (b && (n == line))) (ne_eqb j i (λ e. ne (sym e))) in
      omega (arith, m, u))
      (ok.drivers i below));
}
  where
    n : ℕ
    n = (stand_of w j).submitted + 1

    q : Queued
    q = record { driver = j; line = n; read = read; write = write }

    stand : Stand
    stand = next_open (stand_of w j)

-- a setting that is left ends its batch, so no later line of its batch is submitted
pub no_setting : (s : ScriptValue) (w : World) (j : ℕ) → IsPlayable s → SoundParts s w → j < driver_count → is_one_batch s j (stand_of w j) ≡ true → (port_of w.control j).setting ≡ None
no_setting s w j play ok below batch = go (port_of w.control j).setting refl (ok.settings j below)
  where
    go : (o : Option Setting) → (port_of w.control j).setting ≡ o → SettingIsCall s j o → (port_of w.control j).setting ≡ None
    go None e c = e
    go (Some q) e c =
        let mine = ok.drivers j below in
        let one = mine.one q.line in
        let here : count_setting q.line (port_of w.control j).setting ≡ 1 = ap (count_setting q.line) e ∙ ap one_if (eq-eqb q.line q.line refl) in
        let open_here : 0 < count_line q.line (stand_of w j).open_lines = omega (arith, one, here) in
        let before = mine.below q.line open_here in
        let n = (stand_of w j).submitted + 1 in
        let same = batch_all s (Driver j) (batch_of s (Driver j) n) q.line (stand_of w j).open_lines batch open_here in
        let ends = setting_ends s j q.line q.on play.valid c.1 in
        let lines = mine.lines in
        let less = batch_ends s (Driver j) q.line n ends.0 before.0 (omega (arith, before.1)) (omega (arith, before.1, lines)) (line_get s j q.line ends.0 ends.1) ends.2 in
        absurd (omega (arith, same, less))

submit_setting : (s : ScriptValue) (w : World) (j : ℕ) (l : Line) (on : Bool) → (port_of w.control j).setting ≡ None → IsPlayable s → SoundParts s w → Submits s w j l (Switch on)
    → SoundParts s (after_driver w j (Some (record { control = left w.control j ((stand_of w j).submitted + 1) (Switch on); stand = next_open (stand_of w j) })))
submit_setting s w j l on none play ok sub = record {
  told = ok.told;
  whole = ok.whole;
  maps = ok.maps;
  records = ok.records;
  tables = ok.tables;
  seats = ok.seats;
  ports = length-set w.control.ports j port ∙ ok.ports;
  stands = length-set w.stands j stand ∙ ok.stands;
  queue = ok.queue;
  removals = ok.removals;
  settings = at_one (λ i p. SettingIsCall s i p.setting) w.control.ports no_port port driver_count j ok.ports sub.below (sub.below, parcel_is s j n l (Switch on) play sub.is sub.parcel_is) (λ i below ne. ok.settings i below);
  backs = ok.backs;
  drivers = at_two (λ i p d. IsSoundDriver s i (count_held w.control.queue w.control.removals p.setting i) w.history p.answered p.posted d) w.control.ports w.stands no_port port no_stand stand driver_count j ok.ports ok.stands sub.below
      (submit_driver s j (count_held w.control.queue w.control.removals (port_of w.control j).setting j) (count_held w.control.queue w.control.removals (Some x) j) w.history (port_of w.control j).answered (port_of w.control j).posted (stand_of w j)
      (λ line. let z : count_setting line (port_of w.control j).setting ≡ 0 = ap (count_setting line) none in omega (arith, z))
      (line_below s j n l sub.is) sub.batch (awaits_whole s w j l (Switch on) play ok sub) (ok.drivers j sub.below))
      (λ i below ne. ok.drivers i below);
}
  where
    n : ℕ
    n = (stand_of w j).submitted + 1

    x : Setting
    x = record { line = n; on = on }

    stand : Stand
    stand = next_open (stand_of w j)

    port : Port
    port = let p : Port = port_of w.control j in record p { setting = Some x }

submit_sound : (s : ScriptValue) (w : World) (j : ℕ) (l : Line) (parcel : Parcel) → IsPlayable s → SoundParts s w → Submits s w j l parcel → SoundParts s (after_driver w j (Some (submit w.control j (stand_of w j) parcel)))
unfolding submit
submit_sound s w j l (Chain read write) play ok sub = submit_queue s w j l read write play ok sub
submit_sound s w j l (Switch on) play ok sub = submit_setting s w j l on (no_setting s w j play ok sub.below sub.batch) play ok sub

pub driver_sound : (s : ScriptValue) (w : World) (j : ℕ) → IsPlayable s → SoundParts s w → j < driver_count → SoundParts s (after_driver w j (driver_turn s w.control j (stand_of w j)))
unfolding driver_turn
driver_sound s w j play ok lt = collects (first_answer (port_of w.control j).answered) refl
  where
    parcels : (o : Option Parcel) (l : Line) → line_of s (Driver j) ((stand_of w j).submitted + 1) ≡ Some l → is_one_batch s j (stand_of w j) ≡ true → all_posted s w.control l.awaits ≡ true → parcel_of l.job ≡ o
        → SoundParts s (after_driver w j (submit_parcel w.control j (stand_of w j) o))
    parcels None l e b p is = ok
    parcels (Some parcel) l e b p is = submit_sound s w j l parcel play ok (record { below = lt; is = e; batch = b; posted = p; parcel_is = is })

    submits : (b : Bool) (l : Line) → line_of s (Driver j) ((stand_of w j).submitted + 1) ≡ Some l → (is_one_batch s j (stand_of w j) && all_posted s w.control l.awaits) ≡ b
        → SoundParts s (after_driver w j (cond b (submit_parcel w.control j (stand_of w j) (parcel_of l.job)) None))
    submits true l e p =
        let both = and_parts (is_one_batch s j (stand_of w j)) (all_posted s w.control l.awaits) p in
        parcels (parcel_of l.job) l e both.0 both.1 refl
    submits false l e p = ok

    line : (o : Option Line) → line_of s (Driver j) ((stand_of w j).submitted + 1) ≡ o → SoundParts s (after_driver w j (submit_line s w.control j (stand_of w j) o))
    line None e = ok
    line (Some l) e = submits (is_one_batch s j (stand_of w j) && all_posted s w.control l.awaits) l e refl

    collects : (o : Option Answered) → first_answer (port_of w.control j).answered ≡ o → SoundParts s (after_driver w j (collect_first s w.control j (stand_of w j) o))
    collects None e = line (line_of s (Driver j) ((stand_of w j).submitted + 1)) refl
    collects (Some a) e = collect_sound s w j a.line ok lt (first_in (port_of w.control j).answered a e)
