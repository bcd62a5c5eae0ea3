-- Steps that look and that win: the rule stays.
use Rattle.std.proofs.Common.{◌≡◌, ℕ, ◌+◌, ◌<◌, ◌≤◌, ◌≢◌, ⊎_elim, List, ◌∷◌, length, get_or, set, sym, refl, ap, subst, ◌∙◌, arith, true, eqb, eq-eqb, ne_eqb, length-set, get_or-set_same, get_or-set_other, slice_get, Some, None}
use mathlib.Core.Option.{some, none}
use mathlib.Core.Logic.{dite}
use native.Mathlib.Decide.{ℕ_discrete}
use lib.ListN.{get_elem?}
use lib.Seq.{set-get_or}
use prog.Atomic.{either}
use Rattle.atomic_table.specs.Table.{step, keeps, takes, rest, stepped, Allows}
use Rattle.atomic_table.proofs.Lists.{at_set, set_else}
use Rattle.vi_log.specs.Logs.{Ticketed, once_below}
use Rattle.vi_lines.specs.Value.{ScriptValue}
use Rattle.vi_model.specs.Control.{Control}
use Rattle.vi_model.specs.Worlds.{World}
use Rattle.vi_model.specs.Playable.{IsPlayable}
use Rattle.vi_model.specs.Sound.{IsSound}
use Rattle.vi_control.specs.Plan.{plan_of}
use Rattle.vi_control.specs.Value.{ControlValue}
use Rattle.vi_turns.specs.Holding.{Held, TheControl, ThePage}
use Rattle.vi_turns.specs.Views.{stamp_count, ticket_count, lost, fronted, won_control, won_page}
use Rattle.vi_turns.specs.Order.{slot_of, word_of, Has, Keeps, HoldsNot, Lock, held, HasActor, Knows, IsPlacedIn, IsInOrder}
use Rattle.vi_turns.specs.Steps.{Sat, Fronts, TriesControl, page_of, TriesPage}
use Rattle.vi_turns.specs.declared.slot.Slot.{Slot}
use Rattle.vi_turns.specs.declared.slot.Slot.TheVariants as slot
use Rattle.vi_turns.specs.declared.view.View.{View}
use Rattle.vi_turns.proofs.Actors.{goes_same}
use Rattle.vi_turns.proofs.Getting.{get_inside}
use Rattle.vi_turns.proofs.Basics.{each_map, set_there, term_le, once_most, slot_inside}
use Rattle.vi_turns.proofs.Seats.{St, board, Kin, like, reseat, quiet, none_holds, other_holds, one_each, lock_kept, is_free}

-- a look at the ticket word
pub fronts : (s : ScriptValue) (slots id : ℕ) (me : Sat) → me.0.live ≡ true → Allows (IsInOrder s) slots id me 0 (λ n. n) (Fronts (step slots 0 0 0 none) me)
fronts s slots id me live st r wide at small =
    let v = me.0 in
    let n : ℕ = get_or st.words 0 0 in
    let u = fronted v n in
    let k = r.knows id v at in
    let t = r.ticket in
    let low_ = k.seen in
    let more : v.seen ≤ n = omega arith in
    let order : IsInOrder s (board st.words st.homes (set st.views id u)) =
    quiet s st r id v u at live record { live = refl; number = refl; made = refl; taken = refl } (goes_same s r.world v.number)
    record { script = k.script; log = k.log; taken = k.taken; actor = k.actor; seen = omega arith; above = each_map _ _ (λ (e : Ticketed) l. let a : e.ticket < n = omega arith in a) v.log k.above; spent = k.spent } refl refl in
    (u, keeps, tt, subst (λ ws. IsInOrder s (board ws st.homes (set st.views id u))) (sym (set-get_or st.words 0 0)) order, (more, refl))

-- the seat id takes a value that is at home
pub takes_value : (s : ScriptValue) (st : St) (r : IsInOrder s st) (x : Held) (id : ℕ) (v u : View) (number : ℕ) → Has r.world x → get_or st.words (word_of x) 0 ≡ 0
    → get_elem? st.views id ≡ some v → v.live ≡ true → Kin v u → Knows s r.world u → u.log ≡ v.log → v.held ≡ None → u.held ≡ Some x → number ≡ v.number + 1
    → IsInOrder s (board (set st.words (word_of x) number) (set st.homes (slot_of x) none) (set st.views id u))
takes_value s st r x id v u number has zero_ at live kin knows log empty full named =
    let free_ = is_free s st.views (get_or st.words (word_of x) 0) (get_elem? st.homes (slot_of x)) x zero_ (r.locks x has) in
    let vs : List View = set st.views id u in
    let ws : List ℕ = set st.words (word_of x) number in
    let inside = slot_inside r.world x has in
    let room : word_of x < length st.words = let a = r.words in omega arith in
    reseat s st r id v u r.world ws (set st.homes (slot_of x) none) at live kin r.sound (goes_same s r.world v.number) (length-set st.words (word_of x) number) (length-set st.homes (slot_of x) none) refl
    (get_or-set_other st.words (word_of x) 0 number 0 (λ e. absurd (omega arith)) ∙ r.ticket)
    (λ y. ap (λ es. stamp_count y es + once_below y (length r.world.history)) log) knows
    (λ y e. dite (ℕ_discrete (slot_of y) (slot_of x))
    (λ is.
    let one : x ≡ y = one_each r.world x y has e (sym is) in
    let word_is : get_or ws (word_of y) 0 ≡ u.number + 1 = ap (λ n. get_or ws (n + 1) 0) is ∙ (get_or-set_same st.words (word_of x) number 0 room ∙ (named ∙ ap (λ n. n + 1) (sym kin.number))) in
    held id u (set_there st.views id v u at) record { live = kin.live ∙ live; held = full ∙ ap (λ (z : Held). Some z) one; word_is = word_is }
    (λ i z ne there. ⊎_elim (λ (t : (i ≡ id) × (u ≡ z)). absurd (ne t.0)) (λ (t : (i ≢ id) × (get_elem? st.views i ≡ some z)). subst (λ n. HoldsNot n z) (sym is) (free_.nobody i z t.1)) (at_set st.views id i u z there)))
    (λ apart.
    let same_word : get_or ws (word_of y) 0 ≡ get_or st.words (word_of y) 0 = get_or-set_other st.words (word_of x) (word_of y) number 0 (λ e. apart (omega arith)) in
    subst (λ n. Lock s vs n (get_elem? (set st.homes (slot_of x) none) (slot_of y)) y) (sym same_word) (subst (λ h. Lock s vs (get_or st.words (word_of y) 0) h y) (sym (set_else st.homes (slot_of x) (slot_of y) none apart))
    (lock_kept s st.views (get_or st.words (word_of y) 0) (get_elem? st.homes (slot_of y)) y id v u at (like v u kin) (λ h. absurd (none_holds (slot_of y) v empty y h refl)) (λ _. other_holds (slot_of y) x u full (λ d. apart (sym d))) (r.locks y e)))))

-- an exchange that finds another number than 0
lost_one : (s : ScriptValue) (st : St) (r : IsInOrder s st) (id : ℕ) (v : View) (word : ℕ) → get_elem? st.views id ≡ some v → v.live ≡ true
    → (let n : ℕ = get_or st.words word 0 in IsInOrder s (board (set st.words word n) st.homes (set st.views id (lost v word n))))
lost_one s st r id v word at live =
    let k = r.knows id v at in
    let n : ℕ = get_or st.words word 0 in
    let u = lost v word n in
    subst (λ ws. IsInOrder s (board ws st.homes (set st.views id u))) (sym (set-get_or st.words word 0))
    (quiet s st r id v u at live record { live = refl; number = refl; made = refl; taken = refl } (goes_same s r.world v.number)
    record { script = k.script; log = k.log; taken = k.taken; actor = k.actor; seen = k.seen; above = k.above; spent = k.spent } refl refl)

-- a live pass is placed in the world
pub placed : (s : ScriptValue) (st : St) (r : IsInOrder s st) (id : ℕ) (v : View) → get_elem? st.views id ≡ some v → v.live ≡ true → IsPlacedIn r.world v
placed s st r id v at live =
    let k = r.knows id v at in
    let same_script = sym (k.script live) in record {
      playable = subst IsPlayable same_script r.playable;
      sound = subst (λ (z : ScriptValue). IsSound z r.world) same_script r.sound;
      actor = subst (λ (z : ScriptValue). HasActor z r.world v.number v.actor) same_script (k.actor live);
      log = k.log;
      once = λ x.
          let one = term_le (ticket_count x) st.views id v at in
          let all = r.tickets x in
          let few = once_most x (length r.world.history) in
          omega arith;
    }

-- a slot that keeps the control has the script's control in that state
pub control_slot : (s : ScriptValue) (c : Control) (y : Slot) → Keeps s (TheControl c) y → (v : ControlValue) × (y ≡ slot.Control v) × (v.state ≡ c) × (v.plan ≡ plan_of s)
control_slot s c (slot.Control v) k = (v, refl, k.0, k.1)
control_slot s c (slot.Page b) k = absurd k
control_slot s c slot.Out k = absurd k

-- and one that keeps a page has that page
pub page_slot : (s : ScriptValue) (page : ℕ) (bytes : List ℕ) (y : Slot) → Keeps s (ThePage page bytes) y → y ≡ slot.Page bytes
page_slot s page bytes (slot.Control v) k = absurd k
page_slot s page bytes (slot.Page b) k = ap (λ (z : List ℕ). slot.Page z) k
page_slot s page bytes slot.Out k = absurd k

pub tries_control : (s : ScriptValue) (slots id : ℕ) (me : Sat) (number : ℕ) → me.0.live ≡ true → me.0.held ≡ None → number ≡ me.0.number + 1
    → Allows (IsInOrder s) slots id me 1 (λ n. either (eqb n 0) number n) (TriesControl (step slots 1 0 number none) me)
tries_control s slots id me number live empty named st r wide at small =
    let v = me.0 in
    let n : ℕ = get_or st.words 1 0 in
    let w : World = r.world in
    let c = w.control in
    let k = r.knows id v at in dite (ℕ_discrete n 0)
    (λ hit.
    let x : Held = TheControl c in
    let free_ = is_free s st.views n (get_elem? st.homes 0) x hit (r.locks x refl) in
    let q = control_slot s c free_.slot free_.keeps_it in
    let there : get_elem? st.homes 0 ≡ some (some (slot.Control q.0)) = free_.home_is ∙ ap (λ (z : Slot). some (some z)) q.1 in
    let u = won_control v c in
    let order = takes_value s st r x id v u number refl hit at live record { live = refl; number = refl; made = refl; taken = refl }
    record { script = k.script; log = k.log; taken = k.taken; actor = k.actor; seen = k.seen; above = k.above; spent = λ dead. absurd (cc) } refl empty refl named in
    let plan : q.0.plan ≡ plan_of v.script = q.3 ∙ ap plan_of (sym (k.script live)) in (
      u,
      takes 0 (slot.Control q.0),
      there,
      subst (λ b. IsInOrder s (stepped st 1 (either b number n) id me.1 u (takes 0 (slot.Control q.0)))) (sym (eq-eqb n 0 hit)) order,
      (
        (λ _. record {
          control = q.0;
          after_is = ap (λ (z : Control). (won_control v z, (0, slot.Control q.0) ∷ me.1)) (sym q.2);
          plan = plan;
          sound = record { world = w; placed = placed s st r id v at live; has = sym q.2 };
        }),
        λ not. absurd (not hit),
      ),
    ))
    (λ miss. (
      lost v 1 n,
      keeps,
      tt,
      subst (λ b. IsInOrder s (stepped st 1 (either b number n) id me.1 (lost v 1 n) keeps)) (sym (ne_eqb n 0 miss)) (lost_one s st r id v 1 at live),
      ((λ hit. absurd (miss hit)), λ _. refl),
    ))

-- the exchange on a page's word
pub tries_page : (s : ScriptValue) (slots id : ℕ) (me : Sat) (number word page : ℕ) → me.0.live ≡ true → me.0.held ≡ None → number ≡ me.0.number + 1 → word ≡ page + 2 → page + 1 < slots
    → Allows (IsInOrder s) slots id me word (λ n. either (eqb n 0) number n) (TriesPage (step slots word 0 number none) me)
tries_page s slots id me number word page live empty named word_is inside st r wide at small =
    let v = me.0 in
    let w : World = r.world in
    let k = r.knows id v at in
    let n : ℕ = get_or st.words word 0 in
    let there = get_inside w.pages page (let a = r.homes in omega arith) in
    let bytes = there.0 in
    let x : Held = ThePage page bytes in
    let own : page_of word ≡ page = omega arith in
    let at_word : word_of x ≡ word = omega arith in
    let at_slot : slot_of x ≡ page_of word + 1 = omega arith in dite (ℕ_discrete n 0)
    (λ hit.
    let hit_ : get_or st.words (word_of x) 0 ≡ 0 = ap (λ i. get_or st.words i 0) at_word ∙ hit in
    let free_ = is_free s st.views (get_or st.words (word_of x) 0) (get_elem? st.homes (slot_of x)) x hit_ (r.locks x there.1) in
    let home : get_elem? st.homes (page_of word + 1) ≡ some (some (slot.Page bytes)) = ap (get_elem? st.homes) (sym at_slot) ∙ (free_.home_is ∙ ap (λ (z : Slot). some (some z)) (page_slot s page bytes free_.slot free_.keeps_it)) in
    let u = won_page v (page_of word) bytes in
    let full : Some (ThePage (page_of word) bytes) ≡ Some x = ap (λ i. Some (ThePage i bytes)) own in
    let order = takes_value s st r x id v u number there.1 hit_ at live record { live = refl; number = refl; made = refl; taken = refl }
    record { script = k.script; log = k.log; taken = k.taken; actor = k.actor; seen = k.seen; above = k.above; spent = λ dead. absurd (cc) } refl empty full named in
    let moved : IsInOrder s (board (set st.words word number) (set st.homes (page_of word + 1) none) (set st.views id u)) =
    subst (λ i. IsInOrder s (board (set st.words word number) (set st.homes i none) (set st.views id u))) at_slot
    (subst (λ i. IsInOrder s (board (set st.words i number) (set st.homes (slot_of x) none) (set st.views id u))) at_word order) in (
      u,
      takes (page_of word + 1) (slot.Page bytes),
      home,
      subst (λ b. IsInOrder s (stepped st word (either b number n) id me.1 u (takes (page_of word + 1) (slot.Page bytes)))) (sym (eq-eqb n 0 hit)) moved,
      ((λ _. record { bytes = bytes; after_is = refl; sound = record { world = w; placed = placed s st r id v at live; has = subst (λ i. slice_get w.pages i ≡ Some bytes) (sym own) there.1 } }), λ not. absurd (not hit)),
    ))
    (λ miss. (
      lost v word n,
      keeps,
      tt,
      subst (λ b. IsInOrder s (stepped st word (either b number n) id me.1 (lost v word n) keeps)) (sym (ne_eqb n 0 miss)) (lost_one s st r id v word at live),
      ((λ hit. absurd (miss hit)), λ _. refl),
    ))

-- a list that begins so begins so
pub out_is : (xs ys : List (ℕ × Slot)) (x : ℕ × Slot) → xs ≡ x ∷ ys → xs ≡ x ∷ rest xs
out_is xs ys x e = e ∙ ap (λ (zs : List (ℕ × Slot)). x ∷ zs) (sym (ap rest e))

pub out_at : (xs ys : List (ℕ × Slot)) (j k : ℕ) (x : Slot) → xs ≡ (j, x) ∷ ys → j ≡ k → xs ≡ (k, x) ∷ rest xs
out_at xs ys j k x e is = out_is xs ys (k, x) (e ∙ ap (λ (n : ℕ). (n, x) ∷ ys) is)
