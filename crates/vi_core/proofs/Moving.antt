-- What a move of one actor leaves of a world's parts is the turn of the model.
use Rattle.std.proofs.Common.{◌≡◌, ◌<◌, ◌≤◌, ℕ, Bool, true, false, cond, List, [], ◌∷◌, ◌++◌, length, get_or, set, map, Option, Some, None, refl, arith, ap, ap₂, subst, sym, ◌∙◌, append-nil}
use Rattle.std.specs.Prelude.{nat_lt, nat_eq, sum_by}
use Rattle.std.specs.Option.{option_map}
use Rattle.std.proofs.lemmas.Bool.{lt-ltb, le-ltb, eqb-true, eq-eqb}
use Rattle.std.proofs.lemmas.List.{length-map, length-append, map-set, get_or-set_same, get_or-set_other}
use Rattle.std.proofs.Math.ListN.{get_or-map}
use Rattle.std.proofs.lemmas.List.Sums.{sum_by-append}
use Rattle.vi_history.specs.declared.call.Caller.TheVariants.{Driver}
use Rattle.vi_history.specs.declared.entry.Entry.{Entry}
use Rattle.vi_history.specs.declared.entry.Mark.{Mark}
use Rattle.vi_history.specs.declared.outcome.Shown.{Shown}
use Rattle.vi_lines.specs.declared.line.Who.{Who}
use Rattle.vi_lines.specs.declared.line.Who.TheVariants as who
use Rattle.vi_lines.specs.Value.{ScriptValue}
use Rattle.vi_lines.specs.Calls.{lines_of}
use Rattle.vi_model.specs.Control.{Control, driver_count}
use Rattle.vi_model.specs.Places.{place_count}
use Rattle.vi_model.specs.Device.{device_turn}
use Rattle.vi_model.specs.Drivers.{Stand, Driven, driver_turn}
use Rattle.vi_model.specs.Actors.{Actor, stand_in, driver_actor, other_actor}
use Rattle.vi_model.specs.Worlds.{World, stand_of, with_actor, actor_of}
use Rattle.vi_model.specs.Turns as model
use Rattle.vi_model.specs.Turns.{ControlTurn, Turn, driver_idle, driven, served, control_turn, accessed_page, event_read, made_entries, left_by, under_control, turn}
use Rattle.vi_model.specs.Rounds.{calls_of}
use Rattle.vi_model.specs.Sound.{IsSound}
use Rattle.vi_sound.proofs.Laws.{turns_keep_sound}
use Rattle.vi_sound.proofs.Moves.Turns.{left_stays}
use Rattle.vi_driver.specs.Drivers.{OwnDriver, own_driver}
use Rattle.vi_backend.specs.Own.{Own}
use Rattle.vi_control.specs.Value.{ControlValue, entry_with}
use Rattle.vi_core.specs.declared.turned.Turned.{Turned}
use Rattle.vi_core.specs.declared.turned.Turned.TheVariants.{Rest}
use Rattle.vi_core.specs.declared.serving.Served.{Served}
use Rattle.vi_core.specs.Turning.{turned_of}
use Rattle.vi_core.specs.Histories.{HistoryValue, pushed}
use Rattle.vi_core.specs.HistoryRoom.{bytes_of}
use Rattle.vi_core.specs.DriverTurns.{drive_of, Drove, IsDriversTurn}
use Rattle.vi_core.specs.DeviceTurns.{IsDevicesTurn, HasServed, HasRead, read_of}
use Rattle.vi_core.specs.Parts.{Parts, world_of, running, no_driver, no_back, IsDriverOf, IsBackAt, HasHistoryRoom, IsKept}
use Rattle.vi_core.specs.Moves.{HasTurned, HasMoved}
use Rattle.vi_core.proofs.HistoryRoom.{history_room}

pub true_false : true ≡ false → ⊥
true_false e = absurd cc

sum_one_entry : (e : Entry) → sum_by (λ (x : Entry). length x.bytes) (e ∷ []) ≡ length e.bytes
sum_one_entry e = omega arith

-- there are 8 drivers, and a back end for each place
drivers_from : (s : ScriptValue) (w : World) → IsSound s w → length w.stands ≡ driver_count
unfolding IsSound
drivers_from s w ok = ok.stands

backs_from : (s : ScriptValue) (w : World) → IsSound s w → length w.seats ≡ place_count s
unfolding IsSound
backs_from s w ok = ok.seats

pub many_drivers : (p : Parts) → IsKept p → length p.drivers ≡ driver_count
many_drivers p kept = sym (length-map p.drivers (λ (d : OwnDriver). d.stand)) ∙ drivers_from p.script (world_of p) kept.sound

pub many_backs : (p : Parts) → IsKept p → length p.backs ≡ place_count p.script
many_backs p kept = sym (length-map p.backs (λ (b : Own). b.seat)) ∙ backs_from p.script (world_of p) kept.sound

-- a turn without an entry leaves the history
pub quiet_leaves : (s : ScriptValue) (w : World) (a : Who) (t : ControlTurn) → t.entry ≡ None → left_by s w a t ≡ with_actor s a t.actor (record w { control = t.control })
quiet_leaves s w a t e = ap (λ h. with_actor s a t.actor (let x : World = record w { control = t.control; history = h } in x)) (ap (λ o. w.history ++ made_entries o) e ∙ append-nil w.history)

-- What a move has to show: its parts are still of the script, and it left what the turn leaves.
pub moved : (p : Parts) (a : Who) (t : Turned) (c : ControlValue) (drivers : List OwnDriver) (backs : List Own) (pages : List (List ℕ)) (h : HistoryValue) → IsKept p
    → c.plan ≡ (let old : ControlValue = p.control in old.plan)
    → ((number : ℕ) → number < driver_count → IsDriverOf p.script number (get_or drivers number no_driver))
    → ((place : ℕ) → place < place_count p.script → IsBackAt p.script place (get_or backs place no_back))
    → HasHistoryRoom p.script h
    → (let q : Parts = record p { control = c; drivers = drivers; backs = backs; pages = pages; history = h } in
    world_of q ≡ (turn p.script (world_of p) a).world → turned_of t ≡ (turn p.script (world_of p) a).turned → HasMoved a p q t)
moved p a t c drivers backs pages h kept plan ds bs room world turned_is = record {
  kept = record {
    playable = kept.playable;
    plan = plan ∙ kept.plan;
    drivers = ds;
    backs = bs;
    sound = subst (IsSound p.script) (sym world) (turns_keep_sound p.script (world_of p) a kept.playable kept.sound);
    room = room;
  };
  script = refl;
  world = world;
  turned_is = turned_is;
}

-- the parts of a driver's turn that don't hang on the control's outcome
no_entry : (idle : model.Turned) (c : Control) (a : Actor) (o : Option Driven) → (driven idle c a o).entry ≡ None
no_entry idle c a None = refl
no_entry idle c a (Some o) = refl

abbrev drives_at : ScriptValue → Control → ℕ → Stand → ControlTurn
drives_at s c n d = driven (driver_idle s n d) c (driver_actor d) (driver_turn s c n d)

driver_turn_is : (s : ScriptValue) (w : World) (n : ℕ) → n < driver_count
    → turn s w (who.Driver n) ≡ under_control s w (who.Driver n) (drives_at s w.control n (stand_of w n))
unfolding turn accessed_page control_turn
driver_turn_is s w n lt = ap (λ b. under_control s w (who.Driver n) (let t : ControlTurn = cond b (drives_at s w.control n (stand_of w n)) (model.stays model.Rest w.control (driver_actor (stand_of w n))) in t)) (lt-ltb n driver_count lt)

-- a driver in the place of another of the same number and lines
set_drivers : (s : ScriptValue) (ds : List OwnDriver) (n : ℕ) (d : OwnDriver) → ((number : ℕ) → number < driver_count → IsDriverOf s number (get_or ds number no_driver)) → n < length ds → IsDriverOf s n d
    → (number : ℕ) → number < driver_count → IsDriverOf s number (get_or (set ds n d) number no_driver)
set_drivers s ds n d all lt new number below = go (nat_eq number n) refl
  where
    go : (b : Bool) → nat_eq number n ≡ b → IsDriverOf s number (get_or (set ds n d) number no_driver)
    go true e = subst (λ k. IsDriverOf s k (get_or (set ds n d) k no_driver)) (sym (eqb-true number n e)) (subst (IsDriverOf s n) (sym (get_or-set_same ds n d no_driver lt)) new)
    go false e = subst (IsDriverOf s number) (sym (get_or-set_other ds n number d no_driver (λ same. true_false (sym (eq-eqb number n same) ∙ e)))) (all number below)

pub driver_moves : (p : Parts) (n : ℕ) (c : ControlValue) (d : OwnDriver) (t : Turned) → IsKept p → n < driver_count
    → IsDriversTurn p.control c (get_or p.drivers n no_driver) d t → c.plan ≡ (let old : ControlValue = p.control in old.plan)
    → HasMoved (who.Driver n) p (record p { control = c; drivers = set p.drivers n d }) t
driver_moves p n c d t kept lt turns plan =
    moved p (who.Driver n) t c (set p.drivers n d) p.backs p.pages p.history kept plan
    (set_drivers p.script p.drivers n d kept.drivers there (record {
      number_is = ap (λ (x : OwnDriver). x.number) drove.driver ∙ is.number_is;
      lines_are = ap (λ (x : OwnDriver). x.lines) drove.driver ∙ is.lines_are;
    }))
    kept.backs kept.room world turned_is
  where
    d0 : OwnDriver
    d0 = get_or p.drivers n no_driver

    is : IsDriverOf p.script n d0
    is = kept.drivers n lt

    there : n < length p.drivers
    there = let e = many_drivers p kept in omega (arith, e, lt)

    stand_is : stand_of (world_of p) n ≡ d0.stand
    stand_is = get_or-map (λ (x : OwnDriver). x.stand) p.drivers n no_driver

    own : d0 ≡ own_driver p.script d0.number d0.stand
    own = ap (λ ls. let x : OwnDriver = record d0 { lines = ls } in x) (is.lines_are ∙ ap (λ m. lines_of p.script (Driver m)) (sym is.number_is))

    drove : Drove (drive_of p.script (let v : ControlValue = p.control in v.state) d0) p.control c d0 d t
    drove = turns p.script (sym kept.plan) own

    same : drive_of p.script (let v : ControlValue = p.control in v.state) d0 ≡ drives_at p.script (let v : ControlValue = p.control in v.state) n (stand_of (world_of p) n)
    same = ap₂ (λ m z. drives_at p.script (let v : ControlValue = p.control in v.state) m z) is.number_is (sym stand_is)

    left : World → ControlTurn → World
    left w x = record w { control = x.control; stands = set w.stands n (stand_in x.actor.progress) }

    world : world_of (record p { control = c; drivers = set p.drivers n d }) ≡ (turn p.script (world_of p) (who.Driver n)).world
    world =
        ap₂ (λ st zs. let x : World = record (world_of p) { control = st; stands = zs } in x) (ap (λ (v : ControlValue). v.state) drove.control)
        (map-set (λ (x : OwnDriver). x.stand) p.drivers n d ∙ ap (λ z. set (map (λ (x : OwnDriver). x.stand) p.drivers) n z) (ap (λ (x : OwnDriver). x.stand) drove.driver))
        ∙ ap (left (world_of p)) same
        ∙ sym (quiet_leaves p.script (world_of p) (who.Driver n) (drives_at p.script (let v : ControlValue = p.control in v.state) n (stand_of (world_of p) n)) (no_entry _ _ _ _))
        ∙ ap (λ (x : Turn). x.world) (sym (driver_turn_is p.script (world_of p) n lt))

    turned_is : turned_of t ≡ (turn p.script (world_of p) (who.Driver n)).turned
    turned_is = drove.turned_is ∙ ap (λ (x : ControlTurn). x.turned) same ∙ ap (λ (x : Turn). x.turned) (sym (driver_turn_is p.script (world_of p) n lt))

-- a turn that changes nothing
pub stays_turn : (s : ScriptValue) (w : World) (a : Who) (turned : model.Turned) → under_control s w a (model.stays turned w.control (actor_of s w a)) ≡ record { world = w; turned = turned }
stays_turn s w a turned = ap (λ x. let y : Turn = record { world = x; turned = turned } in y) (left_stays s w a turned)

pub unmoved : (p : Parts) (a : Who) (t : Turned) (turned : model.Turned) → IsKept p → turned_of t ≡ turned → turn p.script (world_of p) a ≡ record { world = world_of p; turned = turned } → HasMoved a p p t
unmoved p a t turned kept is same = record {
  kept = kept;
  script = refl;
  world = ap (λ (x : Turn). x.world) (sym same);
  turned_is = is ∙ ap (λ (x : Turn). x.turned) (sym same);
}

-- a driver that there isn't rests
rests_turn : (s : ScriptValue) (w : World) (n : ℕ) → nat_lt n driver_count ≡ false → turn s w (who.Driver n) ≡ record { world = w; turned = model.Rest }
unfolding turn accessed_page control_turn
rests_turn s w n e =
    ap (λ b. under_control s w (who.Driver n) (let t : ControlTurn = cond b (drives_at s w.control n (stand_of w n)) (model.stays model.Rest w.control (driver_actor (stand_of w n))) in t)) e
    ∙ stays_turn s w (who.Driver n) model.Rest

pub no_driver_rests : (p : Parts) (n : ℕ) → IsKept p → driver_count ≤ n → HasMoved (who.Driver n) p p Rest
no_driver_rests p n kept more = unmoved p (who.Driver n) Rest model.Rest kept refl (rests_turn p.script (world_of p) n (le-ltb n driver_count more))

-- the event reader's turn
reads_quietly : (events : Bool) (c : Control) → (read_of events c).entry ≡ None
reads_quietly true c = go c.events.waiting
  where
    go : (xs : List Shown) → (event_read c other_actor xs).entry ≡ None
    go [] = refl
    go (x ∷ xs) = refl
reads_quietly false c = refl

reader_turn_is : (s : ScriptValue) (w : World) → turn s w who.Events ≡ under_control s w who.Events (read_of s.setup.events w.control)
unfolding turn accessed_page control_turn
reader_turn_is s w = refl

pub reader_moves : (p : Parts) (c : ControlValue) (t : Turned) → IsKept p
    → HasRead (read_of p.script.setup.events (let v : ControlValue = p.control in v.state)) p.control c t → HasMoved who.Events p (record p { control = c }) t
reader_moves p c t kept read =
    moved p who.Events t c p.drivers p.backs p.pages p.history kept (ap (λ (v : ControlValue). v.plan) read.control) kept.drivers kept.backs kept.room
    (ap (λ st. let x : World = record (world_of p) { control = st } in x) (ap (λ (v : ControlValue). v.state) read.control)
    ∙ sym (quiet_leaves p.script (world_of p) who.Events (read_of p.script.setup.events (let v : ControlValue = p.control in v.state)) (reads_quietly p.script.setup.events (let v : ControlValue = p.control in v.state)))
    ∙ ap (λ (x : Turn). x.world) (sym (reader_turn_is p.script (world_of p))))
    (read.turned_is ∙ ap (λ (x : Turn). x.turned) (sym (reader_turn_is p.script (world_of p))))

-- what is left of the history's room after an entry
pub entry_room : (p : Parts) (a : Who) (e : Entry) → IsKept p → (turn p.script (world_of p) a).world.history ≡ (let h : HistoryValue = p.history in h.entries) ++ e ∷ []
    → (1 ≤ (let h : HistoryValue = p.history in h.spare_entries)) × (length e.bytes ≤ (let h : HistoryValue = p.history in h.spare_bytes))
entry_room p a e kept is =
    let h : HistoryValue = p.history in
    let fits = history_room p.script (turn p.script (world_of p) a).world kept.playable (turns_keep_sound p.script (world_of p) a kept.playable kept.sound) in
    let few = subst (λ es. length es ≤ calls_of p.script) is fits.0 in
    let small = subst (λ es. sum_by (λ (x : Entry). length x.bytes) es ≤ bytes_of p.script) is fits.1 in
    let n = length-append h.entries (e ∷ []) in
    let m = sum_by-append (λ (x : Entry). length x.bytes) h.entries (e ∷ []) in
    let one = sum_one_entry e in
    let entries = kept.room.entries in
    let bytes = kept.room.bytes in
    (omega (arith, few, n, entries), omega (arith, small, m, one, bytes))

-- and then there is room for the others
pub pushed_room : (s : ScriptValue) (h : HistoryValue) (e : Entry) → HasHistoryRoom s h → 1 ≤ h.spare_entries → length e.bytes ≤ h.spare_bytes → HasHistoryRoom s (pushed e h)
pushed_room s h e room some enough =
    let n = length-append h.entries (e ∷ []) in
    let m = sum_by-append (λ (x : Entry). length x.bytes) h.entries (e ∷ []) in
    let one = sum_one_entry e in
    let entries = room.entries in
    let bytes = room.bytes in
    record { entries = omega (arith, n, entries, some); bytes = omega (arith, m, one, bytes, enough) }

-- the history with the entry of a turn, if it made one
abbrev pub with_made : Option Entry → HistoryValue → HistoryValue
with_made None h = h
with_made (Some e) h = pushed e h

made_history : (o : Option Entry) (h : HistoryValue) → (let x : HistoryValue = with_made o h in x.entries) ≡ h.entries ++ made_entries o
made_history None h = sym (append-nil h.entries)
made_history (Some e) h = refl

-- the device's turn
device_turn_is : (s : ScriptValue) (w : World) → turn s w who.Device ≡ under_control s w who.Device (served w.control other_actor (device_turn s w.control))
unfolding turn accessed_page control_turn
device_turn_is s w = refl

-- the entry of the device's turn finds room
pub served_room : (p : Parts) (c : ControlValue) (done : Served) (mark : Mark) → IsKept p → IsDevicesTurn p.control c done → done.mark ≡ Some mark
    → (1 ≤ (let h : HistoryValue = p.history in h.spare_entries)) × (length c.answered ≤ (let h : HistoryValue = p.history in h.spare_bytes))
served_room p c done mark kept turns is =
    let h : HistoryValue = p.history in
    let r = turns p.script (sym kept.plan) in
    entry_room p who.Device (entry_with c.answered mark) kept
    (ap (λ (x : Turn). let w : World = x.world in w.history) (device_turn_is p.script (world_of p))
    ∙ ap (λ o. h.entries ++ made_entries o) (sym r.entry ∙ ap (option_map (entry_with c.answered)) is))

pub device_moves : (p : Parts) (c : ControlValue) (done : Served) → IsKept p → IsDevicesTurn p.control c done → c.plan ≡ (let old : ControlValue = p.control in old.plan)
    → HasMoved who.Device p (record p { control = c; history = with_made (option_map (entry_with c.answered) done.mark) p.history }) done.turned
device_moves p c done kept turns plan =
    moved p who.Device done.turned c p.drivers p.backs p.pages (with_made (option_map (entry_with c.answered) done.mark) p.history) kept plan kept.drivers kept.backs
    (room done.mark refl) world (r.turned_is ∙ ap (λ (x : Turn). x.turned) (sym (device_turn_is p.script (world_of p))))
  where
    r : HasServed (served (let v : ControlValue = p.control in v.state) other_actor (device_turn p.script (let v : ControlValue = p.control in v.state))) p.control c done
    r = turns p.script (sym kept.plan)

    room : (o : Option Mark) → done.mark ≡ o → HasHistoryRoom p.script (with_made (option_map (entry_with c.answered) o) p.history)
    room None is = kept.room
    room (Some mark) is =
        let f = served_room p c done mark kept turns is in
        pushed_room p.script p.history (entry_with c.answered mark) kept.room f.0 f.1

    world : world_of (record p { control = c; history = with_made (option_map (entry_with c.answered) done.mark) p.history }) ≡ (turn p.script (world_of p) who.Device).world
    world =
        ap₂ (λ st h. let x : World = record (world_of p) { control = st; history = h } in x) r.control
        (made_history (option_map (entry_with c.answered) done.mark) p.history ∙ ap (λ o. (let h : HistoryValue = p.history in h.entries) ++ made_entries o) r.entry)
        ∙ ap (λ (x : Turn). x.world) (sym (device_turn_is p.script (world_of p)))

-- a move is a turn of the world as it is seen
pub as_turn : (who : Who) (p q : Parts) (t : Turned) → HasMoved who p q t → HasTurned who (running p) (running q) t
as_turn who p q t m = record { script = m.script; world = m.world; turned_is = m.turned_is }

-- where the device made an entry, and where it made none
pub device_made : (p : Parts) (c : ControlValue) (done : Served) (mark : Mark) → IsKept p → IsDevicesTurn p.control c done → c.plan ≡ (let old : ControlValue = p.control in old.plan) → done.mark ≡ Some mark
    → HasMoved who.Device p (record p { control = c; history = pushed (entry_with c.answered mark) p.history }) done.turned
device_made p c done mark kept turns plan is =
    subst (λ o. HasMoved who.Device p (record p { control = c; history = with_made (option_map (entry_with c.answered) o) p.history }) done.turned) is (device_moves p c done kept turns plan)

pub device_quiet : (p : Parts) (c : ControlValue) (done : Served) → IsKept p → IsDevicesTurn p.control c done → c.plan ≡ (let old : ControlValue = p.control in old.plan) → done.mark ≡ None
    → HasMoved who.Device p (record p { control = c }) done.turned
device_quiet p c done kept turns plan is =
    subst (λ o. HasMoved who.Device p (record p { control = c; history = with_made (option_map (entry_with c.answered) o) p.history }) done.turned) is (device_moves p c done kept turns plan)
