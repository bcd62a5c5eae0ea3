-- A driver collects and submits, and its turn.
use Rattle.std.proofs.Common.{◌≡◌, ◌==◌, ◌<◌, ◌≤◌, ◌+◌, ◌&&◌, ◌⊎◌, inl, inr, not, ℕ, Bool, true, false, cond, List, [], ◌∷◌, length, get_or, Option, Some, None, nat_le, slice_get, refl, arith, ◌∙◌, ap, sym, subst}
use Rattle.std.specs.List.{list_any, list_all}
use Rattle.std.proofs.lemmas.Bool.{false≢true, le-leb, lt-leb, ne_eqb}
use Rattle.std.proofs.lemmas.Option.{slice_get_cases, slice_get_within}
use Rattle.std.proofs.lemmas.List.{get_or-set_same, set-get_or, set-set}
use Rattle.vi_history.specs.declared.call.Caller.{Caller}
use Rattle.vi_history.specs.declared.call.Caller.TheVariants.{Driver, Back}
use Rattle.vi_lines.specs.declared.line.Await.{Await}
use Rattle.vi_lines.specs.declared.line.Line.{Line}
use Rattle.vi_lines.specs.Value.{ScriptValue}
use Rattle.vi_lines.specs.Calls.{lines_of, line_of, awaits_in}
use Rattle.vi_model.specs.Control.{Answered, Port, Control, no_port, port_of, with_port}
use Rattle.vi_model.specs.Places.{ids_of}
use Rattle.vi_model.specs.Posted.{posted_of, all_posted}
use Rattle.vi_model.specs.Drivers.{Stand, Driven, Parcel, first_answer, other_answers, other_lines, finished_first, collect, submit, next_open, is_one_batch, submit_parcel, submit_line, collect_first, driver_turn, parcel_of}
use Rattle.vi_model.specs.Actors.{driver_actor}
use Rattle.vi_model.specs.Turns as model
use Rattle.vi_model.specs.Turns.{stays, is_none, driver_idle, driven}
use Rattle.vi_calls.specs.Collecting.{collected_as, without_answer}
use Rattle.vi_calls.specs.Replies.{is_set, answer_bytes}
use Rattle.vi_calls.specs.declared.calls.Collected.TheVariants.{Used, Set}
use Rattle.vi_driver.specs.declared.wish.DriverWish.{DriverWish}
use Rattle.vi_driver.specs.declared.wish.DriverWish.TheVariants as wish
use Rattle.vi_driver.specs.Drivers.{OwnDriver, own_driver, continues_batch, next_line, next_parcel, parcel_in, is_open}
use Rattle.vi_driver.specs.Wishes.{wish_for, wish_at, wish_of}
use Rattle.vi_driver.proofs.Batches.{one_batch-own, line_of-own}
use Rattle.vi_core.specs.declared.turned.Turned.{Turned}
use Rattle.vi_core.specs.declared.turned.Turned.TheVariants.{Moved, Waiting, Rest}
use Rattle.vi_control.specs.Plan.{Plan, plan_of}
use Rattle.vi_control.specs.Value.{ControlValue, with_state}
use Rattle.vi_control.specs.Calls.{collected, posted_by}
use Rattle.vi_core.specs.Turning.{turned_of}
use Rattle.vi_core.specs.DriverTurns.{HasDriveRoom, HasLineRoom, Drove, IsDriversTurn, IsCollected, IsLeft, IsSubmission, drive_of, first_of, line_in}
use Rattle.vi_core.specs.Posting.{is_posted_by}

-- what is collected is a line that is answered
pub collected_some : (o : Option Answered) (line : ℕ) → line_in (collected_as o) ≡ Some line → (a : Answered) × (o ≡ Some a) × (a.line ≡ line)
collected_some None line h = absurd cc
collected_some (Some a) line h = go (is_set a.answer) h
  where
    go : (b : Bool) → line_in (cond b (Set a.line) (Used a.line (length (answer_bytes a.answer)))) ≡ Some line → (x : Answered) × (Some a ≡ Some x) × (x.line ≡ line)
    go true h = (a, refl, cc)
    go false h = (a, refl, cc)

pub collected_none : (o : Option Answered) → line_in (collected_as o) ≡ None → o ≡ None
collected_none None h = refl
collected_none (Some a) h = go (is_set a.answer) h
  where
    go : (b : Bool) → line_in (cond b (Set a.line) (Used a.line (length (answer_bytes a.answer)))) ≡ None → Some a ≡ None
    go true h = absurd cc
    go false h = absurd cc

-- a line that is collected is open
pub collected_open : (o : Option Answered) (line : ℕ) (lines : List ℕ) → line_in (collected_as o) ≡ Some line → ((a : Answered) → o ≡ Some a → list_any (λ n. n == a.line) lines ≡ true) → list_any (λ n. n == line) lines ≡ true
collected_open o line lines h open_line = let f = collected_some o line h in subst (λ n. list_any (λ m. m == n) lines ≡ true) f.2 (open_line f.0 f.1)

-- where no line is answered, nothing is collected
collected_nothing : (c : Control) (driver : ℕ) → first_answer (let p : Port = port_of c driver in p.answered) ≡ None → collected driver c ≡ c
collected_nothing c driver none = ap (λ x. with_port c driver (without_answer x (port_of c driver))) none ∙ ap (λ ps. record c { ports = ps }) (set-get_or c.ports driver no_port)

pub collects_nothing : (old new : ControlValue) (d : OwnDriver) → new ≡ with_state (collected d.number old.state) old → first_of old.state d ≡ None → IsCollected (first_of old.state d) false old new d d
collects_nothing old new d c none = subst (λ o. IsCollected o false old new d d) (sym none) (refl, c ∙ ap (λ x. with_state x old) (collected_nothing old.state d.number none), refl)

-- a row that is written twice
pub port_twice : (c : Control) (driver m : ℕ) (q : Port) → driver < length c.ports → (let p : Port = port_of (with_port c driver q) driver in with_port (with_port c driver q) driver (record p { posted = m })) ≡ with_port c driver (record q { posted = m })
port_twice c driver m q lt =
    let same = get_or-set_same c.ports driver q no_port lt in
    ap (λ (p : Port). with_port (with_port c driver q) driver (record p { posted = m })) same ∙ ap (λ ps. record c { ports = ps }) (set-set c.ports driver q (record q { posted = m }))

same_some : {A : Type 0} (x y : A) → Some x ≡ Some y → x ≡ y
same_some x y h = cc

-- the collection of an answered line
pub collects : (old new : ControlValue) (before after : OwnDriver) (o : Option Answered) (line m : ℕ) → before.number < length old.state.ports → o ≡ first_of old.state before
    → line_in (collected_as o) ≡ Some line
    → new ≡ with_state (let c : Control = collected before.number old.state in let p : Port = port_of c before.number in with_port c before.number (record p { posted = m })) old
    → after ≡ record before { stand = (let d : Stand = before.stand in record d { open_lines = other_lines line d.open_lines }) }
    → m ≡ (let d : Stand = after.stand in finished_first d.open_lines d.submitted) → IsCollected o true old new before after
unfolding collect
collects old new before after o line m lt is h c d n = go o is (collected_some o line h)
  where
    p : Port
    p = port_of old.state before.number

    go : (o : Option Answered) → o ≡ first_of old.state before → (a : Answered) × (o ≡ Some a) × (a.line ≡ line) → IsCollected o true old new before after
    go None is f = absurd cc
    go (Some a) is f =
        let at : a.line ≡ line = ap (λ (x : Answered). x.line) (same_some a f.0 f.1) ∙ f.2 in
        let row : collected before.number old.state ≡ with_port old.state before.number (record p { answered = other_answers a.line p.answered }) = ap (λ x. with_port old.state before.number (without_answer x p)) (sym is) in
        let q : Port = record p { answered = other_answers a.line p.answered } in (
          refl,
          (c ∙ ap (λ (x : Control). with_state (let y : Port = port_of x before.number in with_port x before.number (record y { posted = m })) old) row ∙ ap (λ x. with_state x old) (port_twice old.state before.number m q lt)
              ∙ ap (λ k. with_state (with_port old.state before.number (record q { posted = k })) old) (n ∙ ap (λ (x : OwnDriver). let e : Stand = x.stand in finished_first e.open_lines e.submitted) d ∙ ap (λ k. let e : Stand = before.stand in finished_first (other_lines k e.open_lines) e.submitted) (sym at))),
          d ∙ ap (λ k. record before { stand = (let e : Stand = before.stand in record e { open_lines = other_lines k e.open_lines }) }) (sym at),
        )

-- what was left is a submission once the line is open
pub submits : (o : Option Parcel) (old new : ControlValue) (before after : OwnDriver) → IsLeft o old new before → after ≡ record before { stand = next_open before.stand } → IsSubmission o old new before after
unfolding submit
submits None old new before after h d = absurd h
submits (Some parcel) old new before after h d = (h, d)

-- ---- the turn

pub none_collected : (o : Option Answered) (old new : ControlValue) (before after : OwnDriver) → IsCollected o false old new before after → (o ≡ None) × (new ≡ old) × (after ≡ before)
none_collected None old new before after h = (refl, h.1, h.2)
none_collected (Some a) old new before after h = absurd (false≢true h.0)

pub plan_ids : (s : ScriptValue) (p : Plan) → plan_of s ≡ p → ids_of s ≡ p.ids
unfolding plan_of
plan_ids s p h = ap (λ (q : Plan). q.ids) h

posted_same : (s : ScriptValue) (c : Control) (caller : Caller) → posted_by (ids_of s) c caller ≡ posted_of s c caller
posted_same s c (Driver number) = refl
posted_same s c (Back id) = refl

all_same : (s : ScriptValue) (c : Control) (awaits : List Await) → list_all (is_posted_by (ids_of s) c) awaits ≡ all_posted s c awaits
all_same s c [] = refl
all_same s c (a ∷ rest) = rw (posted_same s c a.caller, all_same s c rest) refl

pub all_are_posted : (s : ScriptValue) (p : Plan) (c : Control) (awaits : List Await) → plan_of s ≡ p → list_all (is_posted_by p.ids c) awaits ≡ all_posted s c awaits
all_are_posted s p c awaits h = ap (λ ids. list_all (is_posted_by ids c) awaits) (sym (plan_ids s p h)) ∙ all_same s c awaits

-- the turn of a driver without an answered line is that of its next line
line_turn : (s : ScriptValue) (c : Control) (d : OwnDriver) → d ≡ own_driver s d.number d.stand → first_of c d ≡ None → driver_turn s c d.number d.stand ≡ submit_line s c d.number d.stand (next_line d)
unfolding driver_turn
line_turn s c d own none =
    let line : next_line d ≡ line_of s (Driver d.number) (d.stand.submitted + 1) = ap next_line own ∙ line_of-own s d.number d.stand in
    ap (collect_first s c d.number d.stand) none ∙ ap (submit_line s c d.number d.stand) (sym line)

batch_same : (s : ScriptValue) (d : OwnDriver) → d ≡ own_driver s d.number d.stand → is_one_batch s d.number d.stand ≡ continues_batch d
batch_same s d own = sym (ap continues_batch own ∙ one_batch-own s d.number d.stand)

lines_same : (s : ScriptValue) (d : OwnDriver) → d ≡ own_driver s d.number d.stand → length (lines_of s (Driver d.number)) ≡ length d.lines
lines_same s d own = ap (λ (x : OwnDriver). length x.lines) (sym own)

-- whether the driver is idle for good
idle_same : (s : ScriptValue) (d : OwnDriver) → d ≡ own_driver s d.number d.stand → driver_idle s d.number d.stand ≡ cond (nat_le (length d.lines) d.stand.submitted && is_none d.stand.open_lines) model.Rest model.Waiting
idle_same s d own = ap (λ n. cond (nat_le n d.stand.submitted && is_none d.stand.open_lines) model.Rest model.Waiting) (lines_same s d own)

no_line_left : (d : OwnDriver) → next_line d ≡ None → nat_le (length d.lines) d.stand.submitted ≡ true
no_line_left d none = go (slice_get_cases d.lines d.stand.submitted).1
  where
    go : ((x : Line) × (d.stand.submitted < length d.lines) × (slice_get d.lines d.stand.submitted ≡ Some x) × (get_or d.lines d.stand.submitted x ≡ x)) ⊎ ((length d.lines ≤ d.stand.submitted) × (slice_get d.lines d.stand.submitted ≡ None))
        → nat_le (length d.lines) d.stand.submitted ≡ true
    go (inl f) = absurd (cc (f.2, none))
    go (inr p) = le-leb (length d.lines) d.stand.submitted p.0

a_line_left : (d : OwnDriver) (l : Line) → next_line d ≡ Some l → nat_le (length d.lines) d.stand.submitted ≡ false
a_line_left d l some = let lt = slice_get_within d.lines d.stand.submitted l some in lt-leb (length d.lines) d.stand.submitted lt

none_open : (d : Stand) → is_open d ≡ false → is_none d.open_lines ≡ true
none_open d h = go d.open_lines h
  where
    go : (ns : List ℕ) → not (length ns == 0) ≡ false → is_none ns ≡ true
    go [] e = refl
    go (n ∷ ns) e = absurd (false≢true (sym e ∙ ap not (ne_eqb (length (n ∷ ns)) 0 (λ q. omega (arith, q)))))

-- without open lines no line is answered, and nothing is collected
pub collects_without_open : (c : ControlValue) (d : OwnDriver) → is_open d.stand ≡ false
    → ((a : Answered) → first_of c.state d ≡ Some a → list_any (λ n. n == a.line) d.stand.open_lines ≡ true) → IsCollected (first_of c.state d) false c c d d
collects_without_open c d shut answered = go (first_of c.state d) refl
  where
    no_line : (ns : List ℕ) (line : ℕ) → is_none ns ≡ true → list_any (λ n. n == line) ns ≡ true → ⊥
    no_line [] line e h = false≢true h
    no_line (n ∷ ns) line e h = false≢true e

    go : (o : Option Answered) → first_of c.state d ≡ o → IsCollected o false c c d d
    go None e = (refl, refl, refl)
    go (Some a) e = absurd (no_line d.stand.open_lines a.line (none_open d.stand shut) (answered a e))

some_open : (d : Stand) → is_open d ≡ true → is_none d.open_lines ≡ false
some_open d h = go d.open_lines h
  where
    go : (ns : List ℕ) → not (length ns == 0) ≡ true → is_none ns ≡ false
    go [] e = absurd (false≢true e)
    go (n ∷ ns) e = refl

-- a turn in which the driver does nothing
stays_so : (s : ScriptValue) (old : ControlValue) (d : OwnDriver) (turned : Turned) → driver_turn s old.state d.number d.stand ≡ None → driver_idle s d.number d.stand ≡ turned_of turned → Drove (drive_of s old.state d) old old d d turned
stays_so s old d turned none idle =
    let t : drive_of s old.state d ≡ stays (turned_of turned) old.state (driver_actor d.stand) = rw (none, idle) refl in
    rw t (record { control = refl; driver = refl; turned_is = refl })

-- a turn in which it does this
does_so : (s : ScriptValue) (old new : ControlValue) (d after : OwnDriver) (o : Driven) → driver_turn s old.state d.number d.stand ≡ Some o → new ≡ with_state o.control old → after ≡ record d { stand = o.stand } → Drove (drive_of s old.state d) old new d after Moved
does_so s old new d after o some c st =
    let t : drive_of s old.state d ≡ driven (driver_idle s d.number d.stand) old.state (driver_actor d.stand) (Some o) = ap (driven (driver_idle s d.number d.stand) old.state (driver_actor d.stand)) some in
    rw t (record { control = c; driver = st; turned_is = refl })

pub drives_collected : (old new : ControlValue) (before after : OwnDriver) → IsCollected (first_of old.state before) true old new before after → IsDriversTurn old new before after Moved
unfolding driver_turn
drives_collected old new before after h s plan own = go (first_of old.state before) refl h
  where
    go : (o : Option Answered) → first_of old.state before ≡ o → IsCollected o true old new before after → Drove (drive_of s old.state before) old new before after Moved
    go None e h = absurd (false≢true (sym h.0))
    go (Some a) e h = does_so s old new before after (collect old.state before.number before.stand a.line) (ap (collect_first s old.state before.number before.stand) e) h.1 h.2

-- what a wish says of the next line
wish_case : (d : OwnDriver) (w : DriverWish) → wish_of d ≡ w → wish_at (next_line d) d ≡ w
unfolding wish_of
wish_case d w h = h

pub drives_rest : (old : ControlValue) (d : OwnDriver) → first_of old.state d ≡ None → wish_of d ≡ wish.Rest → IsDriversTurn old old d d Rest
drives_rest old d none h s plan own = go (next_line d) refl (wish_case d wish.Rest h)
  where
    turn : (o : Option Line) → next_line d ≡ o → driver_turn s old.state d.number d.stand ≡ submit_line s old.state d.number d.stand o
    turn o e = line_turn s old.state d own none ∙ ap (submit_line s old.state d.number d.stand) e

    before : (l : Line) (b : Bool) → cond b (wish_for l.awaits) wish.Collect ≡ wish.Rest → ⊥
    before l true h = waits l.awaits h
      where
        waits : (awaits : List Await) → wish_for awaits ≡ wish.Rest → ⊥
        waits [] h = absurd cc
        waits (a ∷ rest) h = absurd cc
    before l false h = absurd cc

    shut : (b : Bool) → is_open d.stand ≡ b → cond b wish.Collect wish.Rest ≡ wish.Rest → is_open d.stand ≡ false
    shut true e h = absurd cc
    shut false e h = e

    go : (o : Option Line) → next_line d ≡ o → wish_at o d ≡ wish.Rest → Drove (drive_of s old.state d) old old d d Rest
    go None e h =
        let idle : driver_idle s d.number d.stand ≡ model.Rest = idle_same s d own ∙ ap (λ b. cond (b && is_none d.stand.open_lines) model.Rest model.Waiting) (no_line_left d e) ∙ ap (λ b. cond b model.Rest model.Waiting) (none_open d.stand (shut (is_open d.stand) refl h)) in
        stays_so s old d Rest (turn None e) idle
    go (Some l) e h = absurd (before l (continues_batch d) h)

pub drives_collect : (old : ControlValue) (d : OwnDriver) → first_of old.state d ≡ None → wish_of d ≡ wish.Collect → IsDriversTurn old old d d Waiting
drives_collect old d none h s plan own = go (next_line d) refl (wish_case d wish.Collect h)
  where
    turn : (o : Option Line) → next_line d ≡ o → driver_turn s old.state d.number d.stand ≡ submit_line s old.state d.number d.stand o
    turn o e = line_turn s old.state d own none ∙ ap (submit_line s old.state d.number d.stand) e

    waits : (awaits : List Await) → wish_for awaits ≡ wish.Collect → ⊥
    waits [] h = absurd cc
    waits (a ∷ rest) h = absurd cc

    shut : (b : Bool) → is_open d.stand ≡ b → cond b wish.Collect wish.Rest ≡ wish.Collect → is_open d.stand ≡ true
    shut true e h = e
    shut false e h = absurd cc

    apart : (l : Line) (b : Bool) → continues_batch d ≡ b → cond b (wish_for l.awaits) wish.Collect ≡ wish.Collect → continues_batch d ≡ false
    apart l true e h = absurd (waits l.awaits h)
    apart l false e h = e

    and_false : (b : Bool) → (b && false) ≡ false
    and_false true = refl
    and_false false = refl

    go : (o : Option Line) → next_line d ≡ o → wish_at o d ≡ wish.Collect → Drove (drive_of s old.state d) old old d d Waiting
    go None e h =
        let idle : driver_idle s d.number d.stand ≡ model.Waiting = idle_same s d own ∙ ap (λ b. cond (nat_le (length d.lines) d.stand.submitted && b) model.Rest model.Waiting) (some_open d.stand (shut (is_open d.stand) refl h)) ∙ ap (λ b. cond b model.Rest model.Waiting) (and_false (nat_le (length d.lines) d.stand.submitted)) in
        stays_so s old d Waiting (turn None e) idle
    go (Some l) e h =
        let other : is_one_batch s d.number d.stand ≡ false = batch_same s d own ∙ apart l (continues_batch d) refl h in
        let idle : driver_idle s d.number d.stand ≡ model.Waiting = idle_same s d own ∙ ap (λ b. cond (b && is_none d.stand.open_lines) model.Rest model.Waiting) (a_line_left d l e) in
        stays_so s old d Waiting (turn (Some l) e ∙ ap (λ b. cond (b && all_posted s old.state l.awaits) (submit_parcel old.state d.number d.stand (parcel_of l.job)) None) other) idle

-- where the next line is submitted, or awaits what isn't posted
pub next_is : (d : OwnDriver) (w : DriverWish) → wish_of d ≡ w → (w ≡ wish.Submit) ⊎ (w ≡ wish.Await) → (l : Line) × (next_line d ≡ Some l) × (continues_batch d ≡ true) × (wish_for l.awaits ≡ w)
next_is d w h which = go (next_line d) refl (wish_case d w h)
  where
    not_rest : (w ≡ wish.Submit) ⊎ (w ≡ wish.Await) → wish.Rest ≡ w → ⊥
    not_rest (inl e) h = absurd cc
    not_rest (inr e) h = absurd cc

    not_collect : (w ≡ wish.Submit) ⊎ (w ≡ wish.Await) → wish.Collect ≡ w → ⊥
    not_collect (inl e) h = absurd cc
    not_collect (inr e) h = absurd cc

    end : (b : Bool) → cond b wish.Collect wish.Rest ≡ w → ⊥
    end true h = not_collect which h
    end false h = not_rest which h

    here : (l : Line) → next_line d ≡ Some l → (b : Bool) → continues_batch d ≡ b → cond b (wish_for l.awaits) wish.Collect ≡ w → (l : Line) × (next_line d ≡ Some l) × (continues_batch d ≡ true) × (wish_for l.awaits ≡ w)
    here l e true c h = (l, e, c, h)
    here l e false c h = absurd (not_collect which h)

    go : (o : Option Line) → next_line d ≡ o → wish_at o d ≡ w → (l : Line) × (next_line d ≡ Some l) × (continues_batch d ≡ true) × (wish_for l.awaits ≡ w)
    go None e h = absurd (end (is_open d.stand) h)
    go (Some l) e h = here l e (continues_batch d) refl h

pub drives_awaiting : (old : ControlValue) (d : OwnDriver) → first_of old.state d ≡ None → wish_of d ≡ wish.Await → list_all (is_posted_by old.plan.ids old.state) (awaits_in (next_line d)) ≡ false → IsDriversTurn old old d d Waiting
drives_awaiting old d none h unposted s plan own = go (next_is d wish.Await h (inr refl))
  where
    and_false : (b : Bool) → (b && false) ≡ false
    and_false true = refl
    and_false false = refl

    go : (l : Line) × (next_line d ≡ Some l) × (continues_batch d ≡ true) × (wish_for l.awaits ≡ wish.Await) → Drove (drive_of s old.state d) old old d d Waiting
    go f =
        let l = f.0 in
        let e = f.1 in
        let posted : all_posted s old.state l.awaits ≡ false = sym (all_are_posted s old.plan old.state l.awaits plan) ∙ ap (λ o. list_all (is_posted_by old.plan.ids old.state) (awaits_in o)) (sym e) ∙ unposted in
        let idle : driver_idle s d.number d.stand ≡ model.Waiting = idle_same s d own ∙ ap (λ b. cond (b && is_none d.stand.open_lines) model.Rest model.Waiting) (a_line_left d l e) in
        stays_so s old d Waiting (line_turn s old.state d own none ∙ ap (submit_line s old.state d.number d.stand) e
        ∙ ap (λ b. cond (is_one_batch s d.number d.stand && b) (submit_parcel old.state d.number d.stand (parcel_of l.job)) None) posted ∙ ap (λ b. cond b (submit_parcel old.state d.number d.stand (parcel_of l.job)) None) (and_false (is_one_batch s d.number d.stand))) idle

-- its next line is submitted
pub drives_submitted : (old new : ControlValue) (d after : OwnDriver) (l : Line) → first_of old.state d ≡ None → next_line d ≡ Some l → continues_batch d ≡ true
    → ((s : ScriptValue) → plan_of s ≡ old.plan → all_posted s old.state l.awaits ≡ true) → IsSubmission (next_parcel d) old new d after → IsDriversTurn old new d after Moved
drives_submitted old new d after l none e batch posted left s plan own = go (parcel_of l.job) refl (subst (λ o. IsSubmission (parcel_in o) old new d after) e left)
  where
    turn : driver_turn s old.state d.number d.stand ≡ submit_parcel old.state d.number d.stand (parcel_of l.job)
    turn = line_turn s old.state d own none ∙ ap (submit_line s old.state d.number d.stand) e
        ∙ ap (λ b. cond (b && all_posted s old.state l.awaits) (submit_parcel old.state d.number d.stand (parcel_of l.job)) None) (batch_same s d own ∙ batch)
        ∙ ap (λ b. cond b (submit_parcel old.state d.number d.stand (parcel_of l.job)) None) (posted s plan)

    go : (o : Option Parcel) → parcel_of l.job ≡ o → IsSubmission o old new d after → Drove (drive_of s old.state d) old new d after Moved
    go None p h = absurd h
    go (Some parcel) p h = does_so s old new d after (submit old.state d.number d.stand parcel) (turn ∙ ap (submit_parcel old.state d.number d.stand) p) h.0 h.1

-- a line that awaits nothing finds all posted
pub awaits_none : (l : Line) → wish_for l.awaits ≡ wish.Submit → (s : ScriptValue) (c : Control) → all_posted s c l.awaits ≡ true
awaits_none l h s c = go l.awaits h
  where
    go : (awaits : List Await) → wish_for awaits ≡ wish.Submit → all_posted s c awaits ≡ true
    go [] h = refl
    go (a ∷ rest) h = absurd cc

-- what was not collected leaves the turn as it is
pub drives_on : (old mid new : ControlValue) (before middle after : OwnDriver) (turned : Turned) → (mid ≡ old) → (middle ≡ before) → IsDriversTurn mid new middle after turned → IsDriversTurn old new before after turned
drives_on old mid new before middle after turned c d h = subst (λ (x : ControlValue). IsDriversTurn x new before after turned) c (subst (λ (x : OwnDriver). IsDriversTurn mid new x after turned) d h)

-- the room for the next line
pub line_room : (p : Plan) (c : Control) (d : OwnDriver) (w : DriverWish) → HasDriveRoom p c d → wish_of d ≡ w → (w ≡ wish.Submit) ⊎ (w ≡ wish.Await) → (l : Line) × (next_line d ≡ Some l) × HasLineRoom c d l
line_room p c d w room h which = let f = next_is d w h which in (f.0, f.1, room.submit f.0 f.1 f.2)

-- what the next line awaits is posted, whichever script the control is of
pub are_all_posted : (old : ControlValue) (d : OwnDriver) (l : Line) → next_line d ≡ Some l → list_all (is_posted_by old.plan.ids old.state) (awaits_in (next_line d)) ≡ true → (s : ScriptValue) → plan_of s ≡ old.plan → all_posted s old.state l.awaits ≡ true
are_all_posted old d l e h s plan = sym (all_are_posted s old.plan old.state l.awaits plan) ∙ ap (λ o. list_all (is_posted_by old.plan.ids old.state) (awaits_in o)) (sym e) ∙ h
