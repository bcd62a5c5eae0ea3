-- The bound falls where a driver moves.
use Rattle.std.proofs.Common.{◌≡◌, ◌==◌, ℕ, suc, ◌+◌, ◌-◌, ◌≤◌, ◌<◌, Bool, true, false, cond, not, ◌&&◌, List, [], ◌∷◌, ◌++◌, length, get_or, set, Option, Some, None, refl, arith, ◌∙◌, ap, sym}
use Rattle.std.specs.Prelude.{nat_lt, nat_le}
use Rattle.std.proofs.lemmas.Bool.{ltb-true}
use Rattle.std.proofs.lemmas.List.{get_or-set_same, get_or-set_other, set-get_or}
use Rattle.std.proofs.lemmas.Option.{slice_get_within}
use Rattle.vi_history.specs.declared.call.Caller.TheVariants.{Driver}
use Rattle.vi_lines.specs.declared.line.Line.{Line}
use Rattle.vi_lines.specs.declared.line.Who.TheVariants as who
use Rattle.vi_lines.specs.Value.{ScriptValue}
use Rattle.vi_lines.specs.Calls.{lines_of, line_of}
use Rattle.vi_model.specs.Control.{Queued, Answered, Port, driver_count, no_port, port_of}
use Rattle.vi_model.specs.Drivers.{Stand, no_stand, Driven, first_answer, finished_first, other_answers, other_lines, collect, Parcel, Chain, Switch, parcel_of, left, next_open, submit, submit_parcel, is_one_batch, submit_line, collect_first, driver_turn}
use Rattle.vi_model.specs.Posted.{all_posted}
use Rattle.vi_model.specs.Worlds.{World, stand_of, actor_of}
use Rattle.vi_model.specs.Asking.{one_if}
use Rattle.vi_model.specs.Held.{count_answers}
use Rattle.vi_model.specs.Turns.{Turned, Moved, Waiting, Rest, ControlTurn, stays, is_none, driver_idle, driven, control_turn}
use Rattle.vi_model.specs.Sound.{SoundParts}
use Rattle.vi_model.specs.Bound.{times, call_cost, driver_cost, measure, total}
use Rattle.vi_sound.proofs.Values.Totals.{total_one, total_rise, times_less}
use Rattle.vi_sound.proofs.Values.Batches.{first_in}
use Rattle.vi_sound.proofs.Moves.Drives.{after_driver}
use Rattle.vi_sound.proofs.Falling.Falls.{line_get}
use Rattle.vi_sound.proofs.Falling.BackMoves.{Lowers, stay_lowers}

-- the ports and stands of all drivers
abbrev pub ports_cost : ScriptValue → List Port → List Stand → ℕ
ports_cost s ports stands = total (λ j. driver_cost s j (get_or ports j no_port) (get_or stands j no_stand)) driver_count

-- one driver's port and stand change
pub both_rise : (s : ScriptValue) (ports : List Port) (stands : List Stand) (j a : ℕ) (p : Port) (d : Stand) → length ports ≡ driver_count → length stands ≡ driver_count → j < driver_count
    → driver_cost s j p d ≤ driver_cost s j (get_or ports j no_port) (get_or stands j no_stand) + a
    → ports_cost s (set ports j p) (set stands j d) ≤ ports_cost s ports stands + a
both_rise s ports stands j a p d lp ls lt h = total_rise (λ i. driver_cost s i (get_or ports i no_port) (get_or stands i no_stand)) (λ i. driver_cost s i (get_or (set ports j p) i no_port) (get_or (set stands j d) i no_stand)) a driver_count j lt
    (let e : driver_cost s j (get_or (set ports j p) j no_port) (get_or (set stands j d) j no_stand) ≡ driver_cost s j p d =
    ap (λ q. driver_cost s j q (get_or (set stands j d) j no_stand)) (get_or-set_same ports j p no_port (omega (arith, lt, lp)))
    ∙ ap (λ q. driver_cost s j p q) (get_or-set_same stands j d no_stand (omega (arith, lt, ls))) in
    omega (arith, e, h))
    (λ i below ne. let e : driver_cost s i (get_or (set ports j p) i no_port) (get_or (set stands j d) i no_stand) ≡ driver_cost s i (get_or ports i no_port) (get_or stands i no_stand) =
    ap (λ q. driver_cost s i q (get_or (set stands j d) i no_stand)) (get_or-set_other ports j i p no_port ne)
    ∙ ap (λ q. driver_cost s i (get_or ports i no_port) q) (get_or-set_other stands j i d no_stand ne) in
    omega (arith, e))

pub both_fall : (s : ScriptValue) (ports : List Port) (stands : List Stand) (j a : ℕ) (p : Port) (d : Stand) → length ports ≡ driver_count → length stands ≡ driver_count → j < driver_count
    → driver_cost s j p d + a ≤ driver_cost s j (get_or ports j no_port) (get_or stands j no_stand)
    → ports_cost s (set ports j p) (set stands j d) + a ≤ ports_cost s ports stands
both_fall s ports stands j a p d lp ls lt h = total_one (λ i. driver_cost s i (get_or ports i no_port) (get_or stands i no_stand)) (λ i. driver_cost s i (get_or (set ports j p) i no_port) (get_or (set stands j d) i no_stand)) a driver_count j lt
    (let e : driver_cost s j (get_or (set ports j p) j no_port) (get_or (set stands j d) j no_stand) ≡ driver_cost s j p d =
    ap (λ q. driver_cost s j q (get_or (set stands j d) j no_stand)) (get_or-set_same ports j p no_port (omega (arith, lt, lp)))
    ∙ ap (λ q. driver_cost s j p q) (get_or-set_same stands j d no_stand (omega (arith, lt, ls))) in
    omega (arith, e, h))
    (λ i below ne. let e : driver_cost s i (get_or (set ports j p) i no_port) (get_or (set stands j d) i no_stand) ≡ driver_cost s i (get_or ports i no_port) (get_or stands i no_stand) =
    ap (λ q. driver_cost s i q (get_or (set stands j d) i no_stand)) (get_or-set_other ports j i p no_port ne)
    ∙ ap (λ q. driver_cost s i (get_or ports i no_port) q) (get_or-set_other stands j i d no_stand ne) in
    omega (arith, e))

more_queued : (q : Queued) (qs : List Queued) → length (qs ++ q ∷ []) ≡ suc (length qs)
more_queued q [] = refl
more_queued q (u ∷ us) = ap suc (more_queued q us)

-- the next line is submitted
left_falls : (s : ScriptValue) (w : World) (j : ℕ) (l : Line) (parcel : Parcel) → SoundParts s w → j < driver_count → line_of s (Driver j) ((stand_of w j).submitted + 1) ≡ Some l
    → measure s (record w { control = left w.control j ((stand_of w j).submitted + 1) parcel; stands = set w.stands j (next_open (stand_of w j)) }) + 1 ≤ measure s w
left_falls s w j l parcel ok lt e = go parcel
  where
    d : Stand
    d = stand_of w j

    t : Stand
    t = next_open d

    c : ℕ
    c = call_cost s

    before : times (c + 1) (length (lines_of s (Driver j)) - d.submitted) ≡ (c + 1) + times (c + 1) (length (lines_of s (Driver j)) - (d.submitted + 1))
    before = times_less (c + 1) (length (lines_of s (Driver j))) d.submitted (slice_get_within (lines_of s (Driver j)) d.submitted l (sym (line_get s (Driver j) d.submitted) ∙ e))

    go : (parcel : Parcel) → measure s (record w { control = left w.control j (d.submitted + 1) parcel; stands = set w.stands j t }) + 1 ≤ measure s w
    go (Chain read write) =
        let f = both_fall s w.control.ports w.stands j (c + 1) (port_of w.control j) t ok.ports ok.stands lt (omega (arith, before)) in
        let same : set w.control.ports j (port_of w.control j) ≡ w.control.ports = set-get_or w.control.ports j no_port in
        let g : ports_cost s w.control.ports (set w.stands j t) ≡ ports_cost s (set w.control.ports j (port_of w.control j)) (set w.stands j t) = ap (λ ps. ports_cost s ps (set w.stands j t)) (sym same) in
        let q : Queued = record { driver = j; line = d.submitted + 1; read = read; write = write } in
        let h : times c (length (w.control.queue ++ q ∷ [])) ≡ c + times c (length w.control.queue) = ap (times c) (more_queued q w.control.queue) in
        omega (arith, f, g, h)
    go (Switch on) =
        let p : Port = (let p : Port = port_of w.control j in record p { setting = Some (record { line = d.submitted + 1; on = on }) }) in
        let f = both_fall s w.control.ports w.stands j 1 p t ok.ports ok.stands lt (omega (arith, before)) in
        omega (arith, f)

-- an answered line is collected
fewer_answers : (line : ℕ) (xs : List Answered) → length (other_answers line xs) + count_answers line xs ≡ length xs
fewer_answers line [] = refl
fewer_answers line (a ∷ xs) = go (a.line == line) (fewer_answers line xs)
  where
    go : (b : Bool) → length (other_answers line xs) + count_answers line xs ≡ length xs → (let ys : List Answered = cond (not b) (a ∷ other_answers line xs) (other_answers line xs) in length ys) + (one_if b + count_answers line xs) ≡ suc (length xs)
    go true i = omega (arith, i)
    go false i = omega (arith, i)

collect_falls : (s : ScriptValue) (w : World) (j line : ℕ) → SoundParts s w → j < driver_count → 0 < count_answers line (port_of w.control j).answered
    → measure s (after_driver w j (Some (collect w.control j (stand_of w j) line))) + 1 ≤ measure s w
unfolding collect
collect_falls s w j line ok lt some =
    let d : Stand = stand_of w j in
    let p : Port = (let p : Port = port_of w.control j in record p { answered = other_answers line p.answered; posted = finished_first (other_lines line d.open_lines) d.submitted }) in
    let t : Stand = record d { open_lines = other_lines line d.open_lines } in
    let n = fewer_answers line (port_of w.control j).answered in
    let f = both_fall s w.control.ports w.stands j 1 p t ok.ports ok.stands lt (omega (arith, n, some)) in
    omega (arith, f)

-- ---- a driver's turn

abbrev FallsBy : ScriptValue → World → ℕ → Option Driven → Type 0
FallsBy s w j None = Unit {0}
FallsBy s w j (Some o) = measure s (after_driver w j (Some o)) + 1 ≤ measure s w

turn_falls : (s : ScriptValue) (w : World) (j : ℕ) → SoundParts s w → j < driver_count → FallsBy s w j (driver_turn s w.control j (stand_of w j))
unfolding driver_turn submit
turn_falls s w j ok lt = collects (first_answer (port_of w.control j).answered) refl
  where
    parcels : (o : Option Parcel) (l : Line) → line_of s (Driver j) ((stand_of w j).submitted + 1) ≡ Some l → FallsBy s w j (submit_parcel w.control j (stand_of w j) o)
    parcels None l e = tt
    parcels (Some parcel) l e = left_falls s w j l parcel ok lt e

    submits : (b : Bool) (l : Line) → line_of s (Driver j) ((stand_of w j).submitted + 1) ≡ Some l → FallsBy s w j (cond b (submit_parcel w.control j (stand_of w j) (parcel_of l.job)) None)
    submits true l e = parcels (parcel_of l.job) l e
    submits false l e = tt

    line : (o : Option Line) → line_of s (Driver j) ((stand_of w j).submitted + 1) ≡ o → FallsBy s w j (submit_line s w.control j (stand_of w j) o)
    line None e = tt
    line (Some l) e = submits (is_one_batch s j (stand_of w j) && all_posted s w.control l.awaits) l e

    collects : (o : Option Answered) → first_answer (port_of w.control j).answered ≡ o → FallsBy s w j (collect_first s w.control j (stand_of w j) o)
    collects None e = line (line_of s (Driver j) ((stand_of w j).submitted + 1)) refl
    collects (Some a) e = collect_falls s w j a.line ok lt (first_in (port_of w.control j).answered a e)

idle_not : (b : Bool) → cond b Rest Waiting ≡ Moved → ⊥
idle_not true h = absurd cc
idle_not false h = absurd cc

driven_lowers : (s : ScriptValue) (w : World) (j : ℕ) (idle : Turned) (o : Option Driven) → (idle ≡ Moved → ⊥) → FallsBy s w j o → Lowers s w (who.Driver j) (driven idle w.control (actor_of s w (who.Driver j)) o)
driven_lowers s w j idle None ne f = stay_lowers s w (who.Driver j) idle ne
driven_lowers s w j idle (Some o) ne f = λ h. f

pub driver_lowers : (s : ScriptValue) (w : World) (j : ℕ) → SoundParts s w → Lowers s w (who.Driver j) (control_turn s (who.Driver j) w.control (actor_of s w (who.Driver j)))
unfolding control_turn
driver_lowers s w j ok = go (nat_lt j driver_count) refl
  where
    go : (b : Bool) → nat_lt j driver_count ≡ b
        → Lowers s w (who.Driver j) (let t : ControlTurn = cond b (driven (driver_idle s j (stand_of w j)) w.control (actor_of s w (who.Driver j)) (driver_turn s w.control j (stand_of w j))) (stays Rest w.control (actor_of s w (who.Driver j))) in t)
    go true e = driven_lowers s w j (driver_idle s j (stand_of w j)) (driver_turn s w.control j (stand_of w j)) (idle_not (nat_le (length (lines_of s (Driver j))) (stand_of w j).submitted && is_none (stand_of w j).open_lines)) (turn_falls s w j ok (ltb-true j driver_count e))
    go false e = stay_lowers s w (who.Driver j) Rest (λ h. absurd cc)
