-- A value is given back: the rule stays, and the pass is told where its entries stand.
use Rattle.std.proofs.Common.{◌≡◌, ◌≢◌, ⊎_elim, ℕ, suc, ◌+◌, ◌<◌, List, ◌∷◌, ◌++◌, length, set, get_or, sym, refl, ap, subst, ◌∙◌, arith, Bool, true, false, cond, length-set, get_or-set_same, get_or-set_other, Option, Some, None}
use Rattle.std.proofs.lemmas.List.{append-nil}
use mathlib.Core.Option.{some, none}
use mathlib.Core.Logic.{dite}
use native.Mathlib.Decide.{ℕ_discrete}
use lib.ListN.{get_elem?}
use Rattle.atomic_table.specs.Table.{step, gives, Allows}
use Rattle.atomic_table.proofs.Lists.{at_set, set_here, set_else}
use Rattle.vi_log.specs.Logs.{Stands, once_below}
use Rattle.vi_lines.specs.declared.line.Who.{Who}
use Rattle.vi_lines.specs.Value.{ScriptValue}
use Rattle.vi_model.specs.Control.{Control}
use Rattle.vi_model.specs.Worlds.{World}
use Rattle.vi_model.specs.Turns.{ControlTurn, control_turn, made_entries, left_by}
use Rattle.vi_model.specs.Sound.{IsSound}
use Rattle.vi_control.specs.Plan.{plan_of}
use Rattle.vi_control.specs.Value.{ControlValue}
use Rattle.vi_turns.specs.Holding.{Held, TheControl, ThePage}
use Rattle.vi_turns.specs.Views.{who_of, turn_by, turn_of, stamp_count, gave, gave_by, gave_back}
use Rattle.vi_turns.specs.Order.{slot_of, word_of, Has, Keeps, HoldsNot, Lock, free, Knows, IsInOrder, IsPlaced}
use Rattle.vi_turns.specs.Steps.{Sat, Gives}
use Rattle.vi_turns.specs.Passes.{HoldsPage, IsDueControl}
use Rattle.vi_turns.specs.declared.slot.Slot.{Slot}
use Rattle.vi_turns.specs.declared.slot.Slot.TheVariants as slot
use Rattle.vi_turns.specs.declared.view.View.{View}
use Rattle.vi_turns.proofs.Actors.{Goes, goes_same}
use Rattle.vi_turns.proofs.Getting.{get_inside}
use Rattle.vi_turns.proofs.Basics.{each_map, set_there, all_taken_goes, slot_inside}
use Rattle.vi_turns.proofs.Seats.{St, board, Kin, like, reseat, none_holds, other_holds, one_each, lock_kept, alone, own_taken}
use Rattle.vi_turns.proofs.Wins.{placed}
use Rattle.vi_turns.proofs.Changes.{Turned, turned, Changes, control_changes, nothing_changes, recorded}

-- the words and the slots once the value z is at home in this slot
abbrev pub at_home : St → Held → Slot → ℕ → View → St
at_home st z home id u = board (set st.words (word_of z) 0) (set st.homes (slot_of z) (some home)) (set st.views id u)

-- the locks of all values, once the pass of the seat id gave z back
locks_given : (s : ScriptValue) (st : St) (r : IsInOrder s st) (x z : Held) (home : Slot) (id : ℕ) (v u : View) (y : World) → Has r.world x → get_elem? st.views id ≡ some v → Kin v u
    → Changes r.world y z → slot_of x ≡ slot_of z → Keeps s z home → v.held ≡ Some x → u.held ≡ None
    → (o : Held) → Has y o → Lock s (set st.views id u) (get_or (set st.words (word_of z) 0) (word_of o) 0) (get_elem? (set st.homes (slot_of z) (some home)) (slot_of o)) o
locks_given s st r x z home id v u y value at kin changes same keeps_it mine empty o has =
    let vs : List View = set st.views id u in
    let k : ℕ = slot_of z in
    let inside : k < length r.world.pages + 1 = subst (λ (n : ℕ). n < length r.world.pages + 1) same (slot_inside r.world x value) in
    dite (ℕ_discrete (slot_of o) k)
    (λ here.
    let one : z ≡ o = one_each y z o changes.here has (sym here) in
    let a = alone s st.views (get_or st.words (word_of x) 0) (get_elem? st.homes (slot_of x)) x id v x at mine refl (r.locks x value) in
    let room : k + 1 < length st.words = let a = r.words in omega arith in
    let shelf : k < length st.homes = let a = r.homes in omega arith in
    subst (λ q. Lock s vs (get_or (set st.words (k + 1) 0) (slot_of q + 1) 0) (get_elem? (set st.homes k (some home)) (slot_of q)) q) one
    (free (get_or-set_same st.words (k + 1) 0 0 room) home (set_here st.homes k (some home) shelf) keeps_it
    (λ j q there. ⊎_elim (λ (t : (j ≡ id) × (u ≡ q)). none_holds k q (ap (λ (h : View). h.held) (sym t.1) ∙ empty))
    (λ (t : (j ≢ id) × (get_elem? st.views j ≡ some q)). subst (λ n. HoldsNot n q) same (a.others j q t.0 t.1)) (at_set st.views id j u q there))))
    (λ apart.
    let same_word : get_or (set st.words (k + 1) 0) (slot_of o + 1) 0 ≡ get_or st.words (slot_of o + 1) 0 = get_or-set_other st.words (k + 1) (slot_of o + 1) 0 0 (λ e. apart (omega arith)) in
    subst (λ n. Lock s vs n (get_elem? (set st.homes k (some home)) (slot_of o)) o) (sym same_word)
    (subst (λ h. Lock s vs (get_or st.words (slot_of o + 1) 0) h o) (sym (set_else st.homes k (slot_of o) (some home) apart))
    (lock_kept s st.views (get_or st.words (slot_of o + 1) 0) (get_elem? st.homes (slot_of o)) o id v u at (like v u kin)
    (λ h. absurd (other_holds (slot_of o) x v mine (λ d. apart (sym d ∙ same)) o h refl)) (λ h. none_holds (slot_of o) u empty) (r.locks o (changes.others o apart has)))))

-- the pass of the seat id gives its slot back, with the value z that the world y has there
gives_slot : (s : ScriptValue) (st : St) (r : IsInOrder s st) (x z : Held) (home : Slot) (id : ℕ) (v u : View) (y : World) → Has r.world x → get_elem? st.views id ≡ some v → v.live ≡ true → Kin v u
    → IsSound s y → Goes s r.world y v.number → length y.history ≡ length r.world.history → Changes r.world y z → slot_of x ≡ slot_of z → Keeps s z home → Knows s y u → u.log ≡ v.log
    → v.held ≡ Some x → u.held ≡ None → IsInOrder s (at_home st z home id u)
gives_slot s st r x z home id v u y value at live kin sound goes as_long changes same keeps_it knows log mine empty =
    reseat s st r id v u y (set st.words (word_of z) 0) (set st.homes (slot_of z) (some home)) at live kin sound goes
    (length-set st.words (word_of z) 0) (length-set st.homes (slot_of z) (some home)) changes.long
    (get_or-set_other st.words (word_of z) 0 0 0 (λ e. absurd (omega arith)) ∙ (r.ticket ∙ sym as_long))
    (λ t.
    let e : once_below t (length y.history) ≡ once_below t (length r.world.history) = ap (once_below t) as_long in
    let f : stamp_count t u.log ≡ stamp_count t v.log = ap (stamp_count t) log in
    omega arith)
    knows (λ o has. locks_given s st r x z home id v u y value at kin changes same keeps_it mine empty o has)

-- what is recorded is given back, and the actor has what it had
gives_same : (s : ScriptValue) (st : St) (r : IsInOrder s st) (x : Held) (home : Slot) (id : ℕ) (v : View) → Has r.world x → get_elem? st.views id ≡ some v → v.live ≡ true → v.held ≡ Some x
    → Keeps s x home → IsInOrder s (at_home st x home id (gave v v.actor))
gives_same s st r x home id v value at live mine keeps_it =
    let w : World = r.world in
    let k = r.knows id v at in
    gives_slot s st r x x home id v (gave v v.actor) w value at live record { live = refl; number = refl; made = refl; taken = refl }
    r.sound (goes_same s w v.number) refl (nothing_changes w x value) refl keeps_it
    record { script = k.script; log = k.log; taken = k.taken; actor = k.actor; seen = k.seen; above = k.above; spent = λ dead. absurd (cc) } refl mine refl

-- what the turn t leaves, which makes no entry, is given back
gives_turn : (s : ScriptValue) (st : St) (r : IsInOrder s st) (id : ℕ) (v : View) (c : Control) (home : Slot) (who : Who) (t : ControlTurn) → get_elem? st.views id ≡ some v → v.live ≡ true
    → v.held ≡ Some (TheControl c) → who_of s v.number ≡ Some who → t ≡ control_turn s who r.world.control v.actor → t.entry ≡ None → Keeps s (TheControl t.control) home
    → IsInOrder s (at_home st (TheControl t.control) home id (gave v t.actor))
gives_turn s st r id v c home who t at live mine acting is made keeps_it =
    let w : World = r.world in
    let y : World = left_by s w who t in
    let k = r.knows id v at in
    let turn : Turned s w y v.number t = turned s w v.number who v.actor t r.playable r.sound acting (k.actor live who acting) is in
    let same_history : y.history ≡ w.history = turn.left.history ∙ (ap (λ q. w.history ++ made_entries q) made ∙ append-nil w.history) in
    let value : Has w (TheControl c) = recorded s st r id v (TheControl w.control) (TheControl c) at mine refl refl in
    gives_slot s st r (TheControl c) (TheControl t.control) home id v (gave v t.actor) y value at live record { live = refl; number = refl; made = refl; taken = refl }
    turn.sound turn.goes (ap length same_history)
    (control_changes w y t.control turn.left.control turn.left.pages) refl keeps_it
    record {
      script = k.script;
      log = each_map (Stands w.history) (Stands y.history) turn.goes.history v.log k.log;
      taken = all_taken_goes s w y v.number v.taken turn.goes (own_taken s st r id v at live) k.taken;
      actor = λ l. turn.actor;
      seen = let a = k.seen in let b = turn.goes.longer in omega arith;
      above = k.above;
      spent = λ dead. absurd (cc);
    } refl mine refl

-- the control is given back: the recorded one where the pass has stamped, and else what its actor's turn leaves, if it acts for one
gives_either : (s : ScriptValue) (st : St) (r : IsInOrder s st) (id : ℕ) (v : View) (c : Control) (home : Slot) (has_stamped : Bool) (o : Option Who) → get_elem? st.views id ≡ some v
    → v.live ≡ true → v.held ≡ Some (TheControl c)
    → who_of s v.number ≡ o → (has_stamped ≡ false → (turn_by s o c v.actor).entry ≡ None) → Keeps s (TheControl (cond has_stamped c (turn_by s o c v.actor).control)) home
    → IsInOrder s (at_home st (TheControl c) home id (gave v (cond has_stamped v.actor (turn_by s o c v.actor).actor)))
gives_either s st r id v c home true o at live mine acting made keeps_it =
    gives_same s st r (TheControl c) home id v (recorded s st r id v (TheControl r.world.control) (TheControl c) at mine refl refl) at live mine keeps_it
gives_either s st r id v c home false None at live mine acting made keeps_it =
    gives_same s st r (TheControl c) home id v (recorded s st r id v (TheControl r.world.control) (TheControl c) at mine refl refl) at live mine keeps_it
gives_either s st r id v c home false (Some who) at live mine acting made keeps_it =
    let value : r.world.control ≡ c = recorded s st r id v (TheControl r.world.control) (TheControl c) at mine refl refl in
    gives_turn s st r id v c home who (control_turn s who c v.actor) at live mine acting (ap (λ (z : Control). control_turn s who z v.actor) (sym value)) (made refl) keeps_it

-- the pass of the seat id, which was v, is placed in the world of the table
placed_after : (s : ScriptValue) (st : St) (z : Held) (home : Slot) (id : ℕ) (v u : View) → IsInOrder s (at_home st z home id u) → get_elem? st.views id ≡ some v → u.live ≡ true → IsPlaced u
placed_after s st z home id v u order at live = record { world = order.world; placed = placed s (at_home st z home id u) order id u (set_there st.views id v u at) live }

-- The table once the pass of the seat id gave z back, and what the pass is told.
abbrev pub Given : ScriptValue → St → Held → Slot → ℕ → View → Type 0
Given s st z home id u = IsInOrder s (at_home st z home id u) × IsPlaced u

-- so by the script of the view
gives_due : (s : ScriptValue) (st : St) (r : IsInOrder s st) (id : ℕ) (v : View) (given : ControlValue) (d : IsDueControl v given) → get_elem? st.views id ≡ some v → v.live ≡ true
    → Given s st (TheControl d.control) (slot.Control given) id (gave_back v)
gives_due s st r id v given d at live =
    let c : Control = d.control in
    let script = (r.knows id v at).script live in
    let o : Option Who = who_of s v.number in
    let turn_is : turn_of v c ≡ turn_by s o c v.actor = ap (λ (q : ScriptValue). turn_by q (who_of q v.number) c v.actor) script in
    let keeps_it : Keeps s (TheControl (cond v.stamped c (turn_by s o c v.actor).control)) (slot.Control given) =
    (d.state ∙ ap (λ (t : ControlTurn). cond v.stamped c t.control) turn_is, d.plan ∙ ap plan_of script) in
    let is : gave_back v ≡ gave v (cond v.stamped v.actor (turn_by s o c v.actor).actor) = ap (gave_by v) d.holds ∙ ap (λ (t : ControlTurn). gave v (cond v.stamped v.actor t.actor)) turn_is in
    let order : IsInOrder s (at_home st (TheControl c) (slot.Control given) id (gave_back v)) =
    subst (λ (u : View). IsInOrder s (at_home st (TheControl c) (slot.Control given) id u)) (sym is)
    (gives_either s st r id v c (slot.Control given) v.stamped o at live d.holds refl (λ e. ap (λ (t : ControlTurn). t.entry) (sym turn_is) ∙ d.none e) keeps_it) in
    (order, placed_after s st (TheControl c) (slot.Control given) id v (gave_back v) order at (ap (λ (q : View). q.live) is ∙ live))

-- the page that is recorded is given back
gives_recorded : (s : ScriptValue) (st : St) (r : IsInOrder s st) (id : ℕ) (v : View) (page : ℕ) (bytes : List ℕ) → get_elem? st.views id ≡ some v → v.live ≡ true → HoldsPage page bytes v
    → page < length r.world.pages → Given s st (ThePage page bytes) (slot.Page bytes) id (gave_back v)
gives_recorded s st r id v page bytes at live mine inside =
    let there = get_inside r.world.pages page inside in
    let value : Has r.world (ThePage page bytes) = recorded s st r id v (ThePage page there.0) (ThePage page bytes) at mine refl there.1 in
    let is : gave_back v ≡ gave v v.actor = ap (gave_by v) mine in
    let order : IsInOrder s (at_home st (ThePage page bytes) (slot.Page bytes) id (gave_back v)) =
    subst (λ (u : View). IsInOrder s (at_home st (ThePage page bytes) (slot.Page bytes) id u)) (sym is) (gives_same s st r (ThePage page bytes) (slot.Page bytes) id v value at live mine refl) in
    (order, placed_after s st (ThePage page bytes) (slot.Page bytes) id v (gave_back v) order at (ap (λ (q : View). q.live) is ∙ live))

-- the control's word becomes 0, with the due control behind it
pub gives_control : (s : ScriptValue) (slots id : ℕ) (me : Sat) (v : View) (out : List (ℕ × Slot)) (given : ControlValue) → me ≡ (v, (0, slot.Control given) ∷ out) → v.live ≡ true
    → IsDueControl v given → Allows (IsInOrder s) slots id me 1 (λ _. 0) (λ _. Gives (step slots 1 0 0 none) me 0)
gives_control s slots id me v out given is live due = subst (λ (m : Sat). Allows (IsInOrder s) slots id m 1 (λ _. 0) (λ _. Gives (step slots 1 0 0 none) m 0)) (sym is)
    (λ st r wide at small. let both = gives_due s st r id v given due at live in (gave_back v, gives, tt, both.0, record { after_is = refl; placed = both.1 }))

-- a page's word becomes 0, with the recorded page behind it
pub gives_page : (s : ScriptValue) (slots id : ℕ) (me : Sat) (v : View) (out : List (ℕ × Slot)) (word page : ℕ) (bytes : List ℕ) → me ≡ (v, (page + 1, slot.Page bytes) ∷ out) → v.live ≡ true
    → HoldsPage page bytes v → word ≡ page + 2 → page + 1 < slots → Allows (IsInOrder s) slots id me word (λ _. 0) (λ _. Gives (step slots word 0 0 none) me 0)
gives_page s slots id me v out word page bytes is live mine word_is inside =
    subst (λ (m : Sat). Allows (IsInOrder s) slots id m word (λ _. 0) (λ _. Gives (step slots word 0 0 none) m 0)) (sym is) (λ st r wide at small.
    let both = gives_recorded s st r id v page bytes at live mine (let a = r.homes in omega arith) in
    let word_at : suc page + 1 ≡ word = omega arith in
    let slot_at : suc page ≡ page + 1 = omega arith in
    let order : IsInOrder s (board (set st.words word 0) (set st.homes (page + 1) (some (slot.Page bytes))) (set st.views id (gave_back v))) =
    subst (λ (n : ℕ). IsInOrder s (board (set st.words word 0) (set st.homes n (some (slot.Page bytes))) (set st.views id (gave_back v)))) slot_at
    (subst (λ (n : ℕ). IsInOrder s (board (set st.words n 0) (set st.homes (suc page) (some (slot.Page bytes))) (set st.views id (gave_back v)))) word_at both.0) in
    (gave_back v, gives, tt, order, record { after_is = refl; placed = both.1 }))
