-- A ticket is drawn: the rule stays, and the pass is told of the history.
use Rattle.std.proofs.Common.{◌≡◌, ◌≢◌, inl, inr, ⊎_elim, ℕ, ◌+◌, ◌%◌, ◌<◌, List, [], ◌∷◌, ◌++◌, length, set, get_or, sym, refl, ap, subst, ◌∙◌, arith, true, length-set, length-append, get_or-set_same, get_or-set_other, Option, Some, None}
use Rattle.std.proofs.Math.Nat.{mod-eq_of_lt}
use mathlib.Core.Option as maybe
use mathlib.Core.Option.{some, none}
use mathlib.Core.Logic.{dite}
use native.Mathlib.Decide.{ℕ_discrete}
use lib.ListN.{get_elem?}
use Rattle.atomic_table.specs.Table.{step, keeps, Allows}
use Rattle.atomic_table.proofs.Lists.{at_set}
use Rattle.vi_history.specs.declared.entry.Entry.{Entry}
use Rattle.vi_log.specs.Logs.{Ticketed, Stands, once_below}
use Rattle.vi_lines.specs.declared.line.Who.{Who}
use Rattle.vi_lines.specs.Value.{ScriptValue}
use Rattle.vi_model.specs.Control.{Control}
use Rattle.vi_model.specs.Actors.{Actor}
use Rattle.vi_model.specs.Worlds.{World, actor_of}
use Rattle.vi_model.specs.Turns.{ControlTurn, AccessTurn, control_turn, accesses, access_turn, made_entries, left_by, left_by_access}
use Rattle.vi_model.specs.Sound.{IsSound}
use Rattle.vi_sound.proofs.Laws.{accesses_keep_sound, sound_is_legal}
use Rattle.vi_sound.proofs.Space.Room.{history_fits}
use Rattle.vi_turns.specs.Holding.{Held, TheControl, ThePage}
use Rattle.vi_turns.specs.Views.{who_of, turn_by, turn_of, accesses_by, access_by, access_of, same, stamp_count, logged, stamped, stamped_by, stamped_turn, stamped_access}
use Rattle.vi_turns.specs.Order.{slot_of, word_of, Has, HoldsNot, Lock, held, Each, HasActor, IsTaken, Knows, IsInOrder, Told}
use Rattle.vi_turns.specs.Steps.{Sat, Stamps}
use Rattle.vi_turns.specs.Passes.{IsDue}
use Rattle.vi_turns.specs.declared.slot.Slot.{Slot}
use Rattle.vi_turns.specs.declared.view.View.{View}
use Rattle.vi_turns.proofs.Actors.{Goes, goes_access, has_accessed}
use Rattle.vi_turns.proofs.Getting.{get_inside, get_last, get_default}
use Rattle.vi_turns.proofs.Basics.{each_map, each_append, set_there, total_append, all_taken_goes, once_step}
use Rattle.vi_turns.proofs.Seats.{St, board, Kin, like, reseat, other_holds, one_each, lock_kept, alone, own_taken}
use Rattle.vi_turns.proofs.Changes.{Turned, turned, AccessLeaves, access_leaves, Changes, control_changes, page_changes, recorded, access_there}

-- one more place is below a number that is one higher
-- The world y has one entry more than w, and the actor of the pass with this number, which made it, has this.
pub record Enters (s : ScriptValue) (w y : World) (number : ℕ) (e : Entry) (a : Actor) : Type 0 where
  pub history : y.history ≡ w.history ++ e ∷ []
  pub actor : HasActor s y number a
  pub goes : Goes s w y number

-- what a pass is once it logged the entry with this ticket
pub record Logs (v u : View) (n : ℕ) (e : Entry) : Type 0 where
  pub kin : Kin v u
  pub log : u.log ≡ v.log ++ record { ticket = n; entry = e } ∷ []
  pub seen : u.seen ≡ n + 1
  pub script : u.script ≡ v.script

-- the history is one longer
longer_by : (s : ScriptValue) (w y : World) (number : ℕ) (e : Entry) (a : Actor) → Enters s w y number e a → length y.history ≡ length w.history + 1
longer_by s w y number e a enters = ap length enters.history ∙ length-append w.history (e ∷ [])

-- its entries stand in the longer history
logs_stand : (s : ScriptValue) (w y : World) (v u : View) (n : ℕ) (e : Entry) (number : ℕ) → Logs v u n e → Enters s w y number e u.actor → Each (Stands w.history) v.log → length w.history ≡ n
    → Each (Stands y.history) u.log
logs_stand s w y v u n e number logs enters own count =
    let x : Ticketed = record { ticket = n; entry = e } in
    let last : Stands y.history x = subst (λ (h : List Entry). Stands h x) (sym enters.history) (get_last w.history n e count) in
    subst (Each (Stands y.history)) (sym logs.log) (each_append (Stands y.history) v.log (x ∷ []) (each_map (Stands w.history) (Stands y.history) enters.goes.history v.log own) (last, tt))

-- what the pass is told: the history of the new world ends with its ticket
tells : (s : ScriptValue) (st : St) (r : IsInOrder s st) (id : ℕ) (v u : View) (y : World) (n : ℕ) (e : Entry) → get_elem? st.views id ≡ some v → Logs v u n e → IsSound s y
    → Enters s r.world y v.number e u.actor → n ≡ get_or st.words 0 0 → Told s n u
tells s st r id v u y n e at logs sound enters is =
    let count : length r.world.history ≡ n = sym (is ∙ r.ticket) in
    let legal = sound_is_legal s y sound in record {
      history = y.history;
      legal = legal.0;
      ordered = legal.1;
      long = longer_by s r.world y v.number e u.actor enters ∙ ap (λ c. c + 1) count;
      own = logs_stand s r.world y v u n e v.number logs enters (r.knows id v at).log count;
    }

-- what the pass knows then
knows_more : (s : ScriptValue) (st : St) (r : IsInOrder s st) (id : ℕ) (v u : View) (y : World) (n : ℕ) (e : Entry) → get_elem? st.views id ≡ some v → v.live ≡ true → Logs v u n e
    → Enters s r.world y v.number e u.actor → n ≡ get_or st.words 0 0 → Knows s y u
knows_more s st r id v u y n e at live logs enters is =
    let w : World = r.world in
    let k = r.knows id v at in
    let x : Ticketed = record { ticket = n; entry = e } in
    let count : n ≡ length w.history = is ∙ r.ticket in
    let more = longer_by s w y v.number e u.actor enters in
    let seen_is = logs.seen in
    let below = k.seen in record {
      script = λ l. logs.script ∙ k.script live;
      log = logs_stand s w y v u n e v.number logs enters k.log (sym count);
      taken = subst (Each (IsTaken s y)) (sym logs.kin.taken) (all_taken_goes s w y v.number v.taken enters.goes (own_taken s st r id v at live) k.taken);
      actor = λ l. subst (λ q. HasActor s y q u.actor) (sym logs.kin.number) enters.actor;
      seen = omega arith;
      above = subst (Each (λ (q : Ticketed). q.ticket < u.seen)) (sym logs.log) (each_append (λ (q : Ticketed). q.ticket < u.seen) v.log (x ∷ [])
          (each_map (λ (q : Ticketed). q.ticket < v.seen) (λ (q : Ticketed). q.ticket < u.seen) (λ q l. omega arith) v.log k.above) ((let a : n < u.seen = omega arith in a), tt));
      spent = λ dead. let h = logs.kin.live in absurd (cc);
    }

-- the lock of the value that the pass of the seat id holds, once it records another at that slot
lock_again : (s : ScriptValue) (views : List View) (word : ℕ) (home : maybe.Option (maybe.Option Slot)) (x z : Held) (id : ℕ) (v u : View) → get_elem? views id ≡ some v → Kin v u → v.live ≡ true
    → v.held ≡ Some x → u.held ≡ Some z → slot_of x ≡ slot_of z → Lock s views word home x → Lock s (set views id u) word home z
lock_again s views word home x z id v u at kin live mine full same_ l =
    let a = alone s views word home x id v x at mine refl l in
    held id u (set_there views id v u at) record { live = kin.live ∙ live; held = full; word_is = a.word_is ∙ ap (λ n. n + 1) (sym kin.number) }
    (λ j o ne there. ⊎_elim (λ (t : (j ≡ id) × (u ≡ o)). absurd (ne t.0))
    (λ (t : (j ≢ id) × (get_elem? views j ≡ some o)). subst (λ k. HoldsNot k o) same_ (a.others j o ne t.1)) (at_set views id j u o there))

-- the locks of all values then, as the words stand
locks_again : (s : ScriptValue) (st : St) (r : IsInOrder s st) (x z : Held) (id : ℕ) (v u : View) (y : World) → Has r.world x → get_elem? st.views id ≡ some v → v.live ≡ true → Kin v u
    → Changes r.world y z → slot_of x ≡ slot_of z
    → v.held ≡ Some x → u.held ≡ Some z → (o : Held) → Has y o → Lock s (set st.views id u) (get_or st.words (word_of o) 0) (get_elem? st.homes (slot_of o)) o
locks_again s st r x z id v u y value at live kin changes same_ mine full o has = dite (ℕ_discrete (slot_of o) (slot_of z))
    (λ here.
    let one : z ≡ o = one_each y z o changes.here has (sym here) in
    let old : Lock s st.views (get_or st.words (slot_of z + 1) 0) (get_elem? st.homes (slot_of z)) x =
    subst (λ k. Lock s st.views (get_or st.words (k + 1) 0) (get_elem? st.homes k) x) same_ (r.locks x value) in
    subst (λ q. Lock s (set st.views id u) (get_or st.words (slot_of q + 1) 0) (get_elem? st.homes (slot_of q)) q) one
    (lock_again s st.views (get_or st.words (slot_of z + 1) 0) (get_elem? st.homes (slot_of z)) x z id v u at kin live mine full same_ old))
    (λ apart. lock_kept s st.views (get_or st.words (word_of o) 0) (get_elem? st.homes (slot_of o)) o id v u at (like v u kin)
    (λ h. absurd (other_holds (slot_of o) x v mine (λ d. apart (sym d ∙ same_)) o h refl)) (λ h. other_holds (slot_of o) z u full (λ d. apart (sym d))) (r.locks o (changes.others o apart has)))

-- the pass of the seat id draws the ticket n for this entry, and records z in the place of x
stamps_slot : (s : ScriptValue) (st : St) (r : IsInOrder s st) (x z : Held) (id : ℕ) (v u : View) (y : World) (n : ℕ) (e : Entry) → Has r.world x → get_elem? st.views id ≡ some v → v.live ≡ true
    → Logs v u n e → IsSound s y → Enters s r.world y v.number e u.actor → Changes r.world y z → slot_of x ≡ slot_of z → v.held ≡ Some x → u.held ≡ Some z → n ≡ get_or st.words 0 0
    → IsInOrder s (board (set st.words 0 ((n + 1) % 18446744073709551616)) st.homes (set st.views id u))
stamps_slot s st r x z id v u y n e value at live logs sound enters changes same_ mine full is =
    let w : World = r.world in
    let next : ℕ = (n + 1) % 18446744073709551616 in
    let count : n ≡ length w.history = is ∙ r.ticket in
    let longer = longer_by s w y v.number e u.actor enters in
    let grown : length y.history ≡ n + 1 = omega arith in
    let fits : length y.history < 18446744073709551616 = history_fits s y r.playable sound in
    let next_is : next ≡ length y.history = mod-eq_of_lt (let l : n + 1 < 18446744073709551616 = omega arith in l) ∙ sym grown in
    let room : 0 < length st.words = let a = r.words in omega arith in
    reseat s st r id v u y (set st.words 0 next) st.homes at live logs.kin sound enters.goes (length-set st.words 0 next) refl changes.long (get_or-set_same st.words 0 next 0 room ∙ next_is)
    (λ t.
    let a : stamp_count t u.log ≡ stamp_count t v.log + (same t n + 0) = ap (stamp_count t) logs.log ∙ total_append (λ (q : Ticketed). same t q.ticket) v.log (record { ticket = n; entry = e } ∷ []) in
    let b : once_below t (length y.history) ≡ once_below t (n + 1) = ap (once_below t) grown in
    let c = once_step t n in
    let d : once_below t n ≡ once_below t (length w.history) = ap (once_below t) count in
    omega arith)
    (knows_more s st r id v u y n e at live logs enters is)
    (λ o has. subst (λ q. Lock s (set st.views id u) q (get_elem? st.homes (slot_of o)) o) (sym (get_or-set_other st.words 0 (word_of o) next 0 (λ d. absurd (omega arith))))
    (locks_again s st r x z id v u y value at live logs.kin changes same_ mine full o has))

-- The table once the ticket n was drawn by the pass of the seat id, which is then u, and what the pass is told.
abbrev pub Drawn : ScriptValue → St → ℕ → ℕ → View → Type 0
Drawn s st id n u = IsInOrder s (board (set st.words 0 ((n + 1) % 18446744073709551616)) st.homes (set st.views id u)) × Told s n u

-- the entry of a turn under control
stamps_turn : (s : ScriptValue) (st : St) (r : IsInOrder s st) (id : ℕ) (v : View) (c : Control) (e : Entry) (who : Who) (t : ControlTurn) → get_elem? st.views id ≡ some v → v.live ≡ true
    → v.held ≡ Some (TheControl c)
    → who_of s v.number ≡ Some who → t ≡ control_turn s who r.world.control v.actor → t.entry ≡ Some e → Drawn s st id (get_or st.words 0 0) (stamped_turn v (get_or st.words 0 0) t)
stamps_turn s st r id v c e who t at live mine acting is made =
    let w : World = r.world in
    let n : ℕ = get_or st.words 0 0 in
    let y : World = left_by s w who t in
    let u : View = stamped_turn v n t in
    let turn : Turned s w y v.number t = turned s w v.number who v.actor t r.playable r.sound acting ((r.knows id v at).actor live who acting) is in
    let logs : Logs v u n e = record { kin = record { live = refl; number = refl; made = refl; taken = refl }; log = ap (λ q. v.log ++ logged n q) made; seen = refl; script = refl } in
    let enters : Enters s w y v.number e u.actor = record { history = turn.left.history ∙ ap (λ q. w.history ++ made_entries q) made; actor = turn.actor; goes = turn.goes } in
    let value : Has w (TheControl c) = recorded s st r id v (TheControl w.control) (TheControl c) at mine refl refl in (
      stamps_slot s st r (TheControl c) (TheControl t.control) id v u y n e value at live logs turn.sound enters (control_changes w y t.control turn.left.control turn.left.pages) refl mine refl refl,
      tells s st r id v u y n e at logs turn.sound enters refl,
    )

-- so whatever actor the pass acts for, as it makes an entry
stamps_control : (s : ScriptValue) (st : St) (r : IsInOrder s st) (id : ℕ) (v : View) (c : Control) (e : Entry) (o : Option Who) → get_elem? st.views id ≡ some v → v.live ≡ true
    → v.held ≡ Some (TheControl c) → who_of s v.number ≡ o → (turn_by s o c v.actor).entry ≡ Some e → Drawn s st id (get_or st.words 0 0) (stamped_turn v (get_or st.words 0 0) (turn_by s o c v.actor))
stamps_control s st r id v c e None at live mine acting made = absurd (cc)
stamps_control s st r id v c e (Some who) at live mine acting made =
    let value : r.world.control ≡ c = recorded s st r id v (TheControl r.world.control) (TheControl c) at mine refl refl in
    stamps_turn s st r id v c e who (control_turn s who c v.actor) at live mine acting (ap (λ (z : Control). control_turn s who z v.actor) (sym value)) made

-- the entry of an access of a page
stamps_access : (s : ScriptValue) (st : St) (r : IsInOrder s st) (id : ℕ) (v : View) (page : ℕ) (b : List ℕ) (e : Entry) (who : Who) → get_elem? st.views id ≡ some v → v.live ≡ true
    → v.held ≡ Some (ThePage page b) → who_of s v.number ≡ Some who → accesses s who page v.actor ≡ true → (access_turn s who v.actor b).entry ≡ Some e
    → Drawn s st id (get_or st.words 0 0) (stamped_access v (get_or st.words 0 0) page (access_turn s who v.actor b))
stamps_access s st r id v page b e who at live mine acting may made =
    let w : World = r.world in
    let n : ℕ = get_or st.words 0 0 in
    let t : AccessTurn = access_turn s who v.actor b in
    let y : World = left_by_access s w who page t in
    let u : View = stamped_access v n page t in
    let here : actor_of s w who ≡ v.actor = (r.knows id v at).actor live who acting in
    let may_ : accesses s who page (actor_of s w who) ≡ true = ap (λ (a : Actor). accesses s who page a) here ∙ may in
    let there = get_inside w.pages page (access_there s w who page r.playable r.sound may_) in
    let value : Has w (ThePage page b) = recorded s st r id v (ThePage page there.0) (ThePage page b) at mine refl there.1 in
    let left : AccessLeaves w y page t = access_leaves s w who page t in
    let is : access_turn s who (actor_of s w who) (get_or w.pages page []) ≡ t =
    ap (λ (a : Actor). access_turn s who a (get_or w.pages page [])) here ∙ ap (λ (q : List ℕ). access_turn s who v.actor q) (get_default w.pages page b [] value) in
    let sound : IsSound s y = subst (λ (q : AccessTurn). IsSound s (left_by_access s w who page q)) is (accesses_keep_sound s w who page r.playable r.sound may_) in
    let logs : Logs v u n e = record { kin = record { live = refl; number = refl; made = refl; taken = refl }; log = ap (λ q. v.log ++ logged n q) made; seen = refl; script = refl } in
    let enters : Enters s w y v.number e u.actor = record {
      history = left.history ∙ ap (λ q. w.history ++ made_entries q) made;
      actor = has_accessed s w v.number who page b r.sound acting v.actor here may;
      goes = goes_access s w v.number who page t r.playable acting;
    } in (
      stamps_slot s st r (ThePage page b) (ThePage page t.page) id v u y n e value at live logs sound enters (page_changes w y page b t.page value left.control left.pages) refl mine refl refl,
      tells s st r id v u y n e at logs sound enters refl,
    )

-- so whatever actor the pass acts for
stamps_page : (s : ScriptValue) (st : St) (r : IsInOrder s st) (id : ℕ) (v : View) (page : ℕ) (b : List ℕ) (e : Entry) (o : Option Who) → get_elem? st.views id ≡ some v → v.live ≡ true
    → v.held ≡ Some (ThePage page b) → who_of s v.number ≡ o → accesses_by s o page v.actor ≡ true → (access_by s o v.actor b).entry ≡ Some e
    → Drawn s st id (get_or st.words 0 0) (stamped_access v (get_or st.words 0 0) page (access_by s o v.actor b))
stamps_page s st r id v page b e None at live mine acting may made = absurd (cc)
stamps_page s st r id v page b e (Some who) at live mine acting may made = stamps_access s st r id v page b e who at live mine acting may made

-- the same of a due entry, by the script of the view
stamps_due : (s : ScriptValue) (st : St) (r : IsInOrder s st) (id : ℕ) (v : View) (e : Entry) → get_elem? st.views id ≡ some v → v.live ≡ true → IsDue v e
    → Drawn s st id (get_or st.words 0 0) (stamped v (get_or st.words 0 0))
stamps_due s st r id v e at live (inl d) =
    let n : ℕ = get_or st.words 0 0 in
    let c : Control = d.control in
    let turn_is : turn_of v c ≡ turn_by s (who_of s v.number) c v.actor = ap (λ (q : ScriptValue). turn_by q (who_of q v.number) c v.actor) ((r.knows id v at).script live) in
    let made : (turn_by s (who_of s v.number) c v.actor).entry ≡ Some e = ap (λ (t : ControlTurn). t.entry) (sym turn_is) ∙ d.entry in
    let is : stamped v n ≡ stamped_turn v n (turn_by s (who_of s v.number) c v.actor) = ap (stamped_by v n) d.holds ∙ ap (stamped_turn v n) turn_is in
    subst (Drawn s st id n) (sym is) (stamps_control s st r id v c e (who_of s v.number) at live d.holds refl made)
stamps_due s st r id v e at live (inr d) =
    let n : ℕ = get_or st.words 0 0 in
    let script = (r.knows id v at).script live in
    let access_is : access_of v d.bytes ≡ access_by s (who_of s v.number) v.actor d.bytes = ap (λ (q : ScriptValue). access_by q (who_of q v.number) v.actor d.bytes) script in
    let may : accesses_by s (who_of s v.number) d.page v.actor ≡ true = ap (λ (q : ScriptValue). accesses_by q (who_of q v.number) d.page v.actor) (sym script) ∙ d.accesses in
    let made : (access_by s (who_of s v.number) v.actor d.bytes).entry ≡ Some e = ap (λ (t : AccessTurn). t.entry) (sym access_is) ∙ d.entry in
    let is : stamped v n ≡ stamped_access v n d.page (access_by s (who_of s v.number) v.actor d.bytes) = ap (stamped_by v n) d.holds ∙ ap (stamped_access v n d.page) access_is in
    subst (Drawn s st id n) (sym is) (stamps_page s st r id v d.page d.bytes e (who_of s v.number) at live d.holds refl may made)

-- a ticket is drawn for a due entry
pub stamps : (s : ScriptValue) (slots id : ℕ) (me : Sat) (e : Entry) → me.0.live ≡ true → IsDue me.0 e
    → Allows (IsInOrder s) slots id me 0 (λ n. (n + 1) % 18446744073709551616) (Stamps (step slots 0 1 0 none) me)
stamps s slots id me e live due st r wide at small =
    let v = me.0 in
    let n : ℕ = get_or st.words 0 0 in
    let k = r.knows id v at in
    let tick = r.ticket in
    let low = k.seen in
    let both = stamps_due s st r id v e at live due in
    (stamped v n, keeps, tt, both.0, record { seen = omega arith; after_is = refl; told = subst (λ (q : ScriptValue). Told q n (stamped v n)) (sym (k.script live)) both.1 })
