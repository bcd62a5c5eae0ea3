-- The bound falls where the device moves.
use Rattle.std.proofs.Common.{◌≡◌, ℕ, suc, ◌+◌, ◌-◌, ◌≤◌, ◌<◌, Bool, true, false, cond, ◌&&◌, ◌||◌, not, List, [], ◌∷◌, ◌++◌, length, get_or, set, Option, Some, None, refl, arith, ◌∙◌, ap, sym, subst}
use Rattle.std.specs.Prelude.{nat_lt, is_some}
use Rattle.std.proofs.lemmas.Bool.{ltb-true}
use Rattle.std.proofs.lemmas.List.{set-get_or}
use Rattle.vi_bytes.specs.declared.span.Span.{Span}
use Rattle.vi_bytes.specs.declared.lease.Lease.{Lease}
use Rattle.vi_history.specs.Replies.{Answer}
use Rattle.vi_history.specs.Translation.{permits, translate}
use Rattle.vi_history.specs.Runs.{run}
use Rattle.vi_history.specs.declared.found.Found.{Found}
use Rattle.vi_history.specs.declared.found.Found.TheVariants.{At, Fault}
use Rattle.vi_lines.specs.declared.line.Who.TheVariants as who
use Rattle.vi_lines.specs.Value.{ScriptValue}
use Rattle.vi_model.specs.Tasks.{removes, reach_of, task_answer}
use Rattle.vi_model.specs.Lanes.{Down, Update, Invalidate, Miss}
use Rattle.vi_model.specs.Grants.{piece}
use Rattle.vi_model.specs.Removals.{Removal, waits_for, acknowledged, acked, closed, is_ready, first_ready, without_first}
use Rattle.vi_model.specs.Cuts.{open_run}
use Rattle.vi_model.specs.Control.{Queued, Setting, Port, Link, Events, Control, Started, Made, driver_count, no_port, port_of, link_of, with_link}
use Rattle.vi_model.specs.Places.{place_count, id_at}
use Rattle.vi_model.specs.Starts.{answered_port, answer_port, answered, awaited_by, any, told, begun, removal_of, start, finish, queued_call, setting_call}
use Rattle.vi_model.specs.Serves.{page_of, acked_link, serve_ack, granted_link, faulted_link, parked_link, next_record, noted, miss_record, serve_found, is_shut, serve_miss}
use Rattle.vi_model.specs.Device.{first_setting, has_frame, first_frame, is_free, first_free, serve_parked, serve_up, serve_frame, start_setting, rule_setting, rule_queue, rule_frame, rule_parked, rule_finish, device_turn}
use Rattle.vi_model.specs.Backs.{Seat, Access}
use Rattle.vi_model.specs.Drivers.{Stand, no_stand}
use Rattle.vi_model.specs.Worlds.{World, stand_of, seat_of, actor_of}
use Rattle.vi_model.specs.Turns.{Waiting, served, control_turn}
use Rattle.vi_model.specs.Sound.{SoundParts}
use Rattle.vi_model.specs.Bound.{current_access, brings, is_cached, is_coming, down_cost, is_busy, lack, place_cost, times, call_cost, setting_cost, driver_cost, measure}
use Rattle.vi_sound.proofs.Values.Aligned.{found_leased}
use Rattle.vi_sound.proofs.Values.Runs.{run_some, run_is, cut_is}
use Rattle.vi_sound.proofs.Values.Totals.{total_more}
use Rattle.vi_sound.proofs.Falling.DriverMoves.{ports_cost, both_rise, both_fall}
use Rattle.vi_sound.proofs.Falling.BackMoves.{link_places, Lowers, stay_lowers}
use Rattle.vi_sound.proofs.Falling.Served.{asks_brings, before_of, grant_falls, fault_falls, park_falls}
use Rattle.vi_sound.proofs.Moves.Serves.{Takes}
use Rattle.vi_sound.proofs.Moves.Calls.{after_device, told_link, tell_here, Held}
use Rattle.vi_sound.proofs.Moves.Holds.{hold_queue, hold_setting, hold_removal, less_queue, less_setting, found_below}
use Rattle.vi_sound.proofs.Moves.Devices.{takes_up, takes_parked, below_count}

one_more : {A : Type 0} (x : A) (xs : List A) → length (xs ++ x ∷ []) ≡ suc (length xs)
one_more x [] = refl
one_more x (y ∷ ys) = ap suc (one_more x ys)

-- ---- it finishes a removal

-- one driver's port changes
port_rise : (s : ScriptValue) (ports : List Port) (stands : List Stand) (j a : ℕ) (p : Port) → length ports ≡ driver_count → length stands ≡ driver_count → j < driver_count
    → driver_cost s j p (get_or stands j no_stand) ≤ driver_cost s j (get_or ports j no_port) (get_or stands j no_stand) + a
    → ports_cost s (set ports j p) stands ≤ ports_cost s ports stands + a
port_rise s ports stands j a p lp ls lt h =
    let f = both_rise s ports stands j a p (get_or stands j no_stand) lp ls lt h in
    let e : ports_cost s (set ports j p) stands ≡ ports_cost s (set ports j p) (set stands j (get_or stands j no_stand)) = ap (λ ds. ports_cost s (set ports j p) ds) (sym (set-get_or stands j no_stand)) in
    omega (arith, f, e)

answer_rise : (s : ScriptValue) (ports : List Port) (stands : List Stand) (j line : ℕ) (a : Answer) → length ports ≡ driver_count → length stands ≡ driver_count → j < driver_count
    → ports_cost s (answer_port ports j line a) stands ≤ ports_cost s ports stands + 1
answer_rise s ports stands j line a lp ls lt = port_rise s ports stands j 1 (answered_port (get_or ports j no_port) line a) lp ls lt
    (let p : Port = get_or ports j no_port in let n = one_more (record { line = line; answer = a }) p.answered in omega (arith, n))

fewer : (r : Removal) (rs : List Removal) → first_ready rs ≡ Some r → length rs ≡ suc (length (without_first rs))
fewer r [] h = absurd cc
fewer r (x ∷ rs) h = go (is_ready x) h (fewer r rs)
  where
    go : (b : Bool) → cond b (Some x) (first_ready rs) ≡ Some r → (first_ready rs ≡ Some r → length rs ≡ suc (length (without_first rs))) → suc (length rs) ≡ suc (length (cond b rs (x ∷ without_first rs)))
    go true h ih = refl
    go false h ih = ap suc (ih h)

finish_falls : (s : ScriptValue) (w : World) (r : Removal) → SoundParts s w → first_ready w.control.removals ≡ Some r → measure s (after_device w (Some (finish w.control r))) + 1 ≤ measure s w
unfolding finish
finish_falls s w r ok h =
    let n = fewer r w.control.removals h in
    let f = answer_rise s w.control.ports w.stands r.driver r.line (task_answer w.control.dev r.task) ok.ports ok.stands (hold_removal s w r ok h).call.0 in
    omega (arith, n, f)

-- ---- it starts a call

told_cost : (o : Option Access) (r : Option Span) (fs : List Down) → down_cost o (fs ++ Invalidate r ∷ []) ≡ down_cost o fs + 7
told_cost o r [] = refl
told_cost o r (Update l ∷ fs) = let i = told_cost o r fs in omega (arith, i)
told_cost o r (Invalidate t ∷ fs) = let i = told_cost o r fs in omega (arith, i)

told_coming : (o : Option Access) (r : Option Span) (fs : List Down) → is_coming o (fs ++ Invalidate r ∷ []) ≡ is_coming o fs
told_coming o r [] = refl
told_coming o r (Update l ∷ fs) = ap (λ b. brings o l || b) (told_coming o r fs)
told_coming o r (Invalidate t ∷ fs) = told_coming o r fs

told_rise : (s : ScriptValue) (k : ℕ) (r : Option Span) (x : Link) (z : Seat) (b : Bool) → place_cost s k (record x { down = told b r x.down }) z ≤ place_cost s k x z + 7
told_rise s k r x z false = omega arith
told_rise s k r x z true =
    let c = told_cost (current_access s k z) r x.down in
    let y : lack (is_busy x.up x.parked x.replies) (is_cached (current_access s k z) z.cache || is_coming (current_access s k z) (x.down ++ Invalidate r ∷ [])) ≡ lack (is_busy x.up x.parked x.replies) (is_cached (current_access s k z) z.cache || is_coming (current_access s k z) x.down) =
    ap (λ v. lack (is_busy x.up x.parked x.replies) (is_cached (current_access s k z) z.cache || v)) (told_coming (current_access s k z) r x.down) in
    omega (arith, c, y)

-- v is the world without the call: its bound is w's but for the call's
begin_falls : (s : ScriptValue) (v : World) (r : Removal) → length v.control.mail ≡ place_count s
    → measure s (record v { control = begun v.control r }) ≤ measure s v + (2 + times 7 (place_count s))
begin_falls s v r m =
    let n = one_more r v.control.removals in
    let f = total_more (λ k. place_cost s k (link_of v.control k) (seat_of v k)) (λ k. place_cost s k (link_of (begun v.control r) k) (seat_of v k)) 7 (place_count s)
    (λ k below. let e : place_cost s k (link_of (begun v.control r) k) (seat_of v k) ≡ place_cost s k (told_link r k (link_of v.control k)) (seat_of v k) =
    ap (λ x. place_cost s k x (seat_of v k)) (tell_here r v.control k (omega (arith, below, m))) in
    let t = told_rise s k (reach_of r.task) (link_of v.control k) (seat_of v k) (waits_for k r) in
    omega (arith, e, t)) in
    omega (arith, n, f)

start_falls : (s : ScriptValue) (v : World) (call : Started) → Held s v call.driver call.line call.task → measure s (after_device v (Some (start s v.control call))) + 1 ≤ measure s v + call_cost s
unfolding start
start_falls s v call ok = go (removes v.control.dev call.task && any (awaited_by s v.control call.task))
  where
    go : (b : Bool) → measure s (after_device v (Some (cond b (record { control = begun v.control (removal_of call (awaited_by s v.control call.task)); entry = None }) (answered v.control call.driver call.line call.task)))) + 1 ≤ measure s v + call_cost s
    go true = let f = begin_falls s v (removal_of call (awaited_by s v.control call.task)) ok.tables.of_mail in omega (arith, f)
    go false = let f = answer_rise s v.control.ports v.stands call.driver call.line (task_answer v.control.dev call.task) ok.ports ok.stands ok.call.0 in omega (arith, f)

queue_falls : (s : ScriptValue) (w : World) (q : Queued) (qs : List Queued) → SoundParts s w → w.control.queue ≡ q ∷ qs → measure s (after_device w (Some (start s (record w.control { queue = qs }) (queued_call q)))) + 1 ≤ measure s w
queue_falls s w q qs ok e =
    let f = start_falls s (less_queue w qs) (queued_call q) (hold_queue s w q qs ok e) in
    let n : times (call_cost s) (length w.control.queue) ≡ call_cost s + times (call_cost s) (length qs) = ap (λ (v : List Queued). times (call_cost s) (length v)) e in
    omega (arith, f, n)

setting_falls : (s : ScriptValue) (w : World) (j : ℕ) (x : Setting) → SoundParts s w → j < driver_count → (port_of w.control j).setting ≡ Some x
    → measure s (after_device (less_setting w j) (Some (start s (let v : World = less_setting w j in v.control) (setting_call j x)))) + 1 ≤ measure s w
setting_falls s w j x ok lt here =
    let f = start_falls s (less_setting w j) (setting_call j x) (hold_setting s w j x ok lt here) in
    let c : setting_cost (call_cost s) (port_of w.control j).setting ≡ call_cost s = ap (setting_cost (call_cost s)) here in
    let p : Port = (let p : Port = port_of w.control j in record p { setting = None }) in
    let g = both_fall s w.control.ports w.stands j (call_cost s) p (stand_of w j) ok.ports ok.stands lt (omega (arith, c)) in
    let e : ports_cost s (set w.control.ports j p) w.stands ≡ ports_cost s (set w.control.ports j p) (set w.stands j (stand_of w j)) = ap (λ ds. ports_cost s (set w.control.ports j p) ds) (sym (set-get_or w.stands j no_stand)) in
    omega (arith, f, g, e)

-- ---- it serves a frame

as_many : (k : ℕ) (rs : List Removal) → length (acked k rs) ≡ length rs
as_many k [] = refl
as_many k (r ∷ rs) = go (waits_for k r) (as_many k rs)
  where
    go : (b : Bool) → length (acked k rs) ≡ length rs → length (cond b (acknowledged k r ∷ rs) (r ∷ acked k rs)) ≡ suc (length rs)
    go true i = refl
    go false i = ap suc i

ack_falls : (s : ScriptValue) (w : World) (k : ℕ) → SoundParts s w → k < place_count s → 0 < (link_of w.control k).acks → measure s (after_device w (Some (record { control = serve_ack w.control k; entry = None }))) + 1 ≤ measure s w
unfolding serve_ack
ack_falls s w k ok lt some =
    let x : Link = link_of w.control k in
    let y : Link = acked_link k w.control.removals x in
    let d : Control = with_link w.control k y in
    let f = link_places s w k 1 y (record w { control = record d { removals = acked k w.control.removals } }) ok lt (omega (arith, some)) (λ i. refl) (λ i. refl) in
    let n = as_many k w.control.removals in
    omega (arith, f, n)

noted_most : (n : ℕ) (e : Events) (bytes : List ℕ) → length (noted n e bytes).waiting ≤ length e.waiting + 1
noted_most n e bytes = go (nat_lt (length e.waiting) n)
  where
    go : (b : Bool) → (let r : Events = cond b (record e { shown = e.shown ++ next_record e bytes ∷ []; waiting = e.waiting ++ next_record e bytes ∷ []; room = e.room - 1 }) (record e { dropped = e.dropped + 1 }) in length r.waiting ≤ length e.waiting + 1)
    go true = let m = one_more (next_record e bytes) e.waiting in omega (arith, m)
    go false = omega arith

-- a miss is taken, from up or, if its page isn't closed, parked
miss_falls : (s : ScriptValue) (w : World) (k : ℕ) (x : Link) (m : Miss) → SoundParts s w → Takes s w k x m → (is_shut s w.control k m ≡ true → (link_of w.control k).parked ≡ None)
    → measure s (after_device w (Some (serve_miss s w.control k x m))) + 1 ≤ measure s w
unfolding serve_miss
miss_falls s w k x m ok t free = go (is_shut s w.control k m) refl
  where
    grants : (o : Option Lease) → run w.control.dev (id_at s k) (page_of m.iova) ≡ o → (a : ℕ) → translate w.control.dev (id_at s k) m.iova m.need ≡ At a
        → is_shut s w.control k m ≡ false
        → measure s (after_device w (Some (record { control = with_link w.control k (granted_link x (page_of m.iova) (open_run w.control.dev (id_at s k) k w.control.removals (page_of m.iova) o)); entry = None }))) + 1 ≤ measure s w
    grants None e a h shut =
        let f = found_leased w.control.dev (id_at s k) m.iova a m.need ok.whole h in
        let r = run_some w.control.dev (id_at s k) (page_of m.iova) f.0 f.1 in absurd (cc (r.1, e))
    grants (Some l) e a h shut =
        let is = run_is w.control.dev (id_at s k) (page_of m.iova) l ok.whole e in
        let c = cut_is w.control.dev (id_at s k) (page_of m.iova) (λ q. closed w.control.dev (id_at s k) k q w.control.removals) l is shut in
        let f = found_leased w.control.dev (id_at s k) m.iova a m.need ok.whole h in
        let here = c.2.each (page_of m.iova) c.2.asked in
        let same : f.0 ≡ piece c.0 (page_of m.iova) = cc (f.1, here) in
        let may : permits m.need c.0.perm ≡ true = ap (λ (y : Lease). permits m.need y.perm) (sym same) ∙ f.2 in
        let b = asks_brings s k (seat_of w k) m c.0 t.current c.2.asked may in
        subst (λ o. measure s (after_device w (Some (record { control = with_link w.control k (granted_link x (page_of m.iova) o); entry = None }))) + 1 ≤ measure s w) (sym c.1)
        (let g = link_places s w k 1 (granted_link x (page_of m.iova) (Some c.0)) (record w { control = with_link w.control k (granted_link x (page_of m.iova) (Some c.0)) }) ok t.below
        (grant_falls s k (page_of m.iova) x (link_of w.control k) (seat_of w k) c.0 (before_of s w k x m ok t) b) (λ i. refl) (λ i. refl) in
        omega (arith, g))

    goes : (p : Found) → translate w.control.dev (id_at s k) m.iova m.need ≡ p → is_shut s w.control k m ≡ false
        → measure s (after_device w (Some (serve_found s w.control k x m p))) + 1 ≤ measure s w
    goes (At a) e shut = grants (run w.control.dev (id_at s k) (page_of m.iova)) refl a e shut
    goes (Fault r) e shut =
        let g = link_places s w k 2 (faulted_link x) (record w { control = with_link w.control k (faulted_link x) }) ok t.below (fault_falls s k x (link_of w.control k) (seat_of w k) m (before_of s w k x m ok t) t.current) (λ i. refl) (λ i. refl) in
        let n = noted_most s.setup.queue w.control.events (miss_record s k m r) in
        omega (arith, g, n)

    go : (b : Bool) → is_shut s w.control k m ≡ b
        → measure s (after_device w (Some (cond b (record { control = with_link w.control k (parked_link x m); entry = None }) (serve_found s w.control k x m (translate w.control.dev (id_at s k) m.iova m.need))))) + 1 ≤ measure s w
    go true e =
        let g = link_places s w k 1 (parked_link x m) (record w { control = with_link w.control k (parked_link x m) }) ok t.below (park_falls s k x (link_of w.control k) (seat_of w k) m (before_of s w k x m ok t) (free e)) (λ i. refl) (λ i. refl) in
        omega (arith, g)
    go false e = goes (translate w.control.dev (id_at s k) m.iova m.need) refl e

-- ---- its rules

abbrev FallsBy : ScriptValue → World → Option Made → Type 0
FallsBy s w None = Unit {0}
FallsBy s w (Some o) = measure s (after_device w (Some o)) + 1 ≤ measure s w

setting_rule : (s : ScriptValue) (w : World) (o : Option ℕ) → SoundParts s w → first_setting w.control ≡ o → FallsBy s w (rule_setting s w.control o)
setting_rule s w None ok e = tt
setting_rule s w (Some j) ok e = go (port_of w.control j).setting refl
  where
    go : (o : Option Setting) → (port_of w.control j).setting ≡ o → FallsBy s w (start_setting s w.control j o)
    go None q = tt
    go (Some x) q = setting_falls s w j x ok (below_count (λ driver. is_some (port_of w.control driver).setting) driver_count j e) q

queue_rule : (s : ScriptValue) (w : World) (qs : List Queued) → SoundParts s w → w.control.queue ≡ qs → FallsBy s w (rule_queue s w.control qs)
queue_rule s w [] ok e = setting_rule s w (first_setting w.control) ok refl
queue_rule s w (q ∷ qs) ok e = queue_falls s w q qs ok e

frame_serve : (s : ScriptValue) (w : World) (k : ℕ) → SoundParts s w → k < place_count s → FallsBy s w (serve_frame s w.control k)
frame_serve s w k ok lt = go (nat_lt 0 (link_of w.control k).acks) refl
  where
    up : (ms : List Miss) → (link_of w.control k).up ≡ ms → FallsBy s w (serve_up s w.control k ms)
    up [] e = tt
    up (m ∷ ms) e =
        let x : Link = link_of w.control k in
        let t = takes_up s w k m ms ok lt e in
        miss_falls s w k (record x { up = ms }) m ok t (λ c. t.parked)

    go : (b : Bool) → nat_lt 0 (link_of w.control k).acks ≡ b → FallsBy s w (cond b (Some (record { control = serve_ack w.control k; entry = None })) (serve_up s w.control k (link_of w.control k).up))
    go true e = ack_falls s w k ok lt (ltb-true 0 (link_of w.control k).acks e)
    go false e = up (link_of w.control k).up refl

frame_rule : (s : ScriptValue) (w : World) (o : Option ℕ) → SoundParts s w → first_frame s w.control ≡ o → FallsBy s w (rule_frame s w.control o)
frame_rule s w None ok e = queue_rule s w w.control.queue ok refl
frame_rule s w (Some k) ok e = frame_serve s w k ok (below_count (has_frame w.control) (place_count s) k e)

not_shut : (b : Bool) → not b ≡ true → b ≡ true → ⊥
not_shut true h e = absurd cc
not_shut false h e = absurd cc

parked_rule : (s : ScriptValue) (w : World) (o : Option ℕ) → SoundParts s w → first_free s w.control ≡ o → FallsBy s w (rule_parked s w.control o)
parked_rule s w None ok e = frame_rule s w (first_frame s w.control) ok refl
parked_rule s w (Some k) ok e = go (link_of w.control k).parked refl
  where
    lt : k < place_count s
    lt = below_count (λ place. is_free s w.control place (link_of w.control place).parked) (place_count s) k e

    free : is_free s w.control k (link_of w.control k).parked ≡ true
    free = (found_below (λ place. is_free s w.control place (link_of w.control place).parked) 0 (place_count s) k e).1

    go : (o : Option Miss) → (link_of w.control k).parked ≡ o → FallsBy s w (serve_parked s w.control k o)
    go None p = tt
    go (Some m) p =
        let f : not (is_shut s w.control k m) ≡ true = ap (is_free s w.control k) (sym p) ∙ free in
        let x : Link = link_of w.control k in
        miss_falls s w k (record x { parked = None }) m ok (takes_parked s w k m ok lt p) (λ c. absurd (not_shut (is_shut s w.control k m) f c))

device_rule : (s : ScriptValue) (w : World) → SoundParts s w → FallsBy s w (device_turn s w.control)
unfolding device_turn
device_rule s w ok = go (first_ready w.control.removals) refl
  where
    go : (o : Option Removal) → first_ready w.control.removals ≡ o → FallsBy s w (rule_finish s w.control o)
    go None e = parked_rule s w (first_free s w.control) ok refl
    go (Some r) e = finish_falls s w r ok e

served_lowers : (s : ScriptValue) (w : World) (o : Option Made) → FallsBy s w o → Lowers s w who.Device (served w.control (actor_of s w who.Device) o)
served_lowers s w None f = stay_lowers s w who.Device Waiting (λ h. absurd cc)
served_lowers s w (Some o) f = λ h. f

pub device_lowers : (s : ScriptValue) (w : World) → SoundParts s w → Lowers s w who.Device (control_turn s who.Device w.control (actor_of s w who.Device))
unfolding control_turn
device_lowers s w ok = served_lowers s w (device_turn s w.control) (device_rule s w ok)
