-- A seat's view and the world change, and all else of the rule stays.
use Rattle.std.proofs.Common.{◌≡◌, ℕ, ◌+◌, ◌<◌, ◌≢◌, ⊎_elim, List, length, get_or, set, sym, refl, ap, subst, ◌∙◌, arith, true, cond, Some, None}
use mathlib.Core.Option as maybe
use mathlib.Core.Option.{some, some-injective}
use mathlib.Core.Logic.{dite}
use native.Mathlib.Decide.{ℕ_discrete}
use lib.ListN.{get_elem?}
use Rattle.atomic_table.specs.Table.{State}
use Rattle.atomic_table.proofs.Lists.{at_set, set_else}
use Rattle.std.proofs.lemmas.Option.{same_Some}
use Rattle.vi_log.specs.Logs.{once_below}
use Rattle.vi_lines.specs.Value.{ScriptValue}
use Rattle.vi_model.specs.Worlds.{World}
use Rattle.vi_model.specs.Sound.{IsSound}
use Rattle.vi_turns.specs.Holding.{Held, TheControl, ThePage, Taken}
use Rattle.vi_turns.specs.Views.{who_of, first_actor, total, same, number_count, stamp_count, ticket_count, weight}
use Rattle.vi_turns.specs.Order.{slot_of, word_of, Has, Keeps, HoldsNot, Holds, Lock, free, held, Knows, IsFirst, IsInOrder}
use Rattle.vi_turns.specs.declared.slot.Slot.{Slot}
use Rattle.vi_turns.specs.declared.view.View.{View}
use Rattle.vi_turns.proofs.Actors.{Goes}
use Rattle.vi_turns.proofs.Getting.{same_entry}
use Rattle.vi_turns.proofs.Basics.{set_there, total_set, term_le, terms_le, once_most, once_inside, live_count, knows_goes}

abbrev pub St : Type 0
St = State Slot View

abbrev pub board : List ℕ → List (maybe.Option Slot) → List View → St
board ws hs vs = record { words = ws; homes = hs; views = vs }

-- what a step leaves of a pass
pub record Kin (v u : View) : Type 0 where
  pub live : u.live ≡ v.live
  pub number : u.number ≡ v.number
  pub made : u.made ≡ v.made
  pub taken : u.taken ≡ v.taken

-- the same, where what it took in may differ
pub record Like (v u : View) : Type 0 where
  pub live : u.live ≡ v.live
  pub number : u.number ≡ v.number

pub like : (v u : View) → Kin v u → Like v u
like v u k = record { live = k.live; number = k.number }

kin_count : (x : ℕ) (v u : View) → Kin v u → number_count x u ≡ number_count x v
kin_count x v u k i = cond (k.live i) (same x (k.number i)) 0 + total (λ (t : Taken). same x t.number) (k.taken i)

kin_weight : (v u : View) → Kin v u → weight u ≡ weight v
kin_weight v u k i = cond (k.live i) 1 0 + length (k.taken i)

-- the number of a live pass is no other's
pub lone : (s : ScriptValue) (st : St) (r : IsInOrder s st) (id j : ℕ) (v z : View) → get_elem? st.views id ≡ some v → v.live ≡ true → j ≢ id → get_elem? st.views j ≡ some z → number_count v.number z ≡ 0
lone s st r id j v z at live ne there =
    let two = terms_le (number_count v.number) st.views id j v z ne at there in
    let one = live_count v.number v live refl in
    let all = r.numbers v.number in
    let few = once_most v.number (r.zeroth.made + 1) in
    omega arith

-- no number is above what the first pass made
pub low : (s : ScriptValue) (st : St) (r : IsInOrder s st) (id : ℕ) (v : View) → get_elem? st.views id ≡ some v → v.live ≡ true → v.number < r.zeroth.made + 1
low s st r id v at live =
    let one = term_le (number_count v.number) st.views id v at in
    let mine = live_count v.number v live refl in
    let all = r.numbers v.number in
    once_inside v.number (r.zeroth.made + 1) (omega arith)

-- no pass that this one took in has its number
pub own_taken : (s : ScriptValue) (st : St) (r : IsInOrder s st) (id : ℕ) (v : View) → get_elem? st.views id ≡ some v → v.live ≡ true → total (λ (t : Taken). same v.number t.number) v.taken ≡ 0
own_taken s st r id v at live =
    let one = term_le (number_count v.number) st.views id v at in
    let mine = live_count v.number v live refl in
    let all = r.numbers v.number in
    let few = once_most v.number (r.zeroth.made + 1) in
    omega arith

-- the first seat is still one with the number 0, and made as many
pub first_of : (views : List View) (z : View) (id : ℕ) (v u : View) → IsFirst views z → get_elem? views id ≡ some v → Like v u → u.made ≡ v.made → (y : View) × IsFirst (set views id u) y × (y.made ≡ z.made)
first_of views z id v u f at k made = dite (ℕ_discrete 0 id)
    (λ is.
    let here : get_elem? views 0 ≡ some v = ap (get_elem? views) is ∙ at in
    let one : z ≡ v = some-injective z v (sym f.at ∙ here) in
    (u, record { at = subst (λ (n : ℕ). get_elem? (set views id u) n ≡ some u) (sym is) (set_there views id v u at); live = k.live ∙ (ap (λ (x : View). x.live) (sym one) ∙ f.live); number = k.number ∙ (ap (λ (x : View). x.number) (sym one) ∙ f.number) }, made ∙ ap (λ (x : View). x.made) (sym one)))
    (λ not. (z, record { at = set_else views id 0 u not ∙ f.at; live = f.live; number = f.number }, refl))

-- the pass of the seat id, whose view was v, has the view u, and the world is y
pub reseat : (s : ScriptValue) (st : St) (r : IsInOrder s st) (id : ℕ) (v u : View) (y : World) (ws : List ℕ) (hs : List (maybe.Option Slot))
    → get_elem? st.views id ≡ some v → v.live ≡ true → Kin v u → IsSound s y → Goes s r.world y v.number
    → length ws ≡ length st.words → length hs ≡ length st.homes → length y.pages ≡ length r.world.pages
    → get_or ws 0 0 ≡ length y.history
    → ((x : ℕ) → stamp_count x u.log + once_below x (length r.world.history) ≡ stamp_count x v.log + once_below x (length y.history))
    → Knows s y u
    → ((x : Held) → Has y x → Lock s (set st.views id u) (get_or ws (word_of x) 0) (get_elem? hs (slot_of x)) x)
    → IsInOrder s (board ws hs (set st.views id u))
reseat s st r id v u y ws hs at live kin sound goes long wide whole ticket fair knows locks =
    let f = first_of st.views r.zeroth id v u r.first at (like v u kin) kin.made in record {
      world = y;
      zeroth = f.0;
      playable = r.playable;
      sound = sound;
      words = long ∙ (r.words ∙ ap (λ n. n + 2) (sym whole));
      homes = wide ∙ (r.homes ∙ ap (λ n. n + 1) (sym whole));
      ticket = ticket;
      first = f.1;
      numbers = λ x.
          let t = total_set (number_count x) st.views id v u at in
          let c = kin_count x v u kin in
          let n = r.numbers x in
          let m : once_below x (f.0.made + 1) ≡ once_below x (r.zeroth.made + 1) = ap (λ (n : ℕ). once_below x (n + 1)) f.2 in
          omega arith;
      weights =
          let t = total_set weight st.views id v u at in
          let c = kin_weight v u kin in
          let n = r.weights in
          let m = f.2 in
          omega arith;
      tickets = λ x.
          let t = total_set (ticket_count x) st.views id v u at in
          let n = r.tickets x in
          let q = fair x in
          let c : total (λ (t : Taken). stamp_count x t.log) u.taken ≡ total (λ (t : Taken). stamp_count x t.log) v.taken = ap (total (λ (t : Taken). stamp_count x t.log)) kin.taken in
          omega arith;
      knows = λ j z e. ⊎_elim (λ (t : (j ≡ id) × (u ≡ z)). subst (Knows s y) t.1 knows)
          (λ (t : (j ≢ id) × (get_elem? st.views j ≡ some z)). knows_goes s r.world y v.number z goes (lone s st r id j v z at live t.0 t.1) (r.knows j z t.1)) (at_set st.views id j u z e);
      unborn = λ n lt. goes.others n (first_actor s (who_of s n)) (λ is. let few = low s st r id v at live in let m = f.2 in absurd (omega arith)) (r.unborn n (let m = f.2 in omega arith));
      locks = locks;
    }

-- ---- what is held

same_held : (x y : Held) → Some x ≡ Some y → x ≡ y
same_held x y e = same_Some x y e

-- a pass that holds nothing holds nothing of a slot
pub none_holds : (k : ℕ) (v : View) → v.held ≡ None → HoldsNot k v
none_holds k v is y e = let z : None ≡ Some y = sym is ∙ e in absurd (cc)

-- nor does one that holds another
pub other_holds : (k : ℕ) (x : Held) (v : View) → v.held ≡ Some x → slot_of x ≢ k → HoldsNot k v
other_holds k x v is ne y e at = ne (ap slot_of (same_held x y (sym is ∙ e)) ∙ at)

-- the world has one value for each slot
pub one_each : (w : World) (x y : Held) → Has w x → Has w y → slot_of x ≡ slot_of y → x ≡ y
one_each w (TheControl c) (TheControl d) a b e = ap (λ z. TheControl z) (sym a ∙ b)
one_each w (TheControl c) (ThePage page bytes) a b e = absurd (omega arith)
one_each w (ThePage page bytes) (TheControl c) a b e = absurd (omega arith)
one_each w (ThePage page bytes) (ThePage other more) a b e =
    let p : page ≡ other = omega arith in
    let q : bytes ≡ more = same_entry w.pages other bytes more (subst (λ (n : ℕ). Rattle.std.specs.Prelude.slice_get w.pages n ≡ Some bytes) p a) b in
    λ i. ThePage (p i) (q i)

-- the lock of a value that a step of the seat id leaves alone
pub lock_kept : (s : ScriptValue) (views : List View) (word : ℕ) (home : maybe.Option (maybe.Option Slot)) (x : Held) (id : ℕ) (v u : View) → get_elem? views id ≡ some v → Like v u
    → (v.held ≡ Some x → u.held ≡ Some x) → (HoldsNot (slot_of x) v → HoldsNot (slot_of x) u) → Lock s views word home x → Lock s (set views id u) word home x
lock_kept s views word home x id v u at kin still not (free z h home_is keeps_ others) = free z h home_is keeps_ (λ j y e. ⊎_elim (λ (t : (j ≡ id) × (u ≡ y)). subst (HoldsNot (slot_of x)) t.1 (not (others id v at)))
    (λ (t : (j ≢ id) × (get_elem? views j ≡ some y)). others j y t.1) (at_set views id j u y e))
lock_kept s views word home x id v u at kin still not (held i y there holds others) = dite (ℕ_discrete i id)
    (λ is.
    let one : y ≡ v = some-injective y v (sym there ∙ (ap (get_elem? views) is ∙ at)) in
    let h = subst (Holds word x) one holds in
    held id u (set_there views id v u at) record { live = kin.live ∙ h.live; held = still h.held; word_is = h.word_is ∙ ap (λ n. n + 1) (sym kin.number) } (λ j z ne e. ⊎_elim (λ (t : (j ≡ id) × (u ≡ z)). absurd (ne t.0))
    (λ (t : (j ≢ id) × (get_elem? views j ≡ some z)). others j z (λ d. ne (d ∙ is)) t.1) (at_set views id j u z e)))
    (λ apart. held i y (set_else views id i u apart ∙ there) holds (λ j z ne e. ⊎_elim (λ (t : (j ≡ id) × (u ≡ z)). subst (HoldsNot (slot_of x)) t.1 (not (others id v (λ d. apart (sym d)) at)))
    (λ (t : (j ≢ id) × (get_elem? views j ≡ some z)). others j z ne t.1) (at_set views id j u z e)))

-- what is so of the slot that the seat id holds: the world's value is the one that it records
pub record Alone (views : List View) (word : ℕ) (x : Held) (id : ℕ) (v : View) (z : Held) : Type 0 where
  pub value : x ≡ z
  pub word_is : word ≡ v.number + 1
  pub others : (j : ℕ) (u : View) → j ≢ id → get_elem? views j ≡ some u → HoldsNot (slot_of x) u

pub alone : (s : ScriptValue) (views : List View) (word : ℕ) (home : maybe.Option (maybe.Option Slot)) (x : Held) (id : ℕ) (v : View) (z : Held)
    → get_elem? views id ≡ some v → v.held ≡ Some z → slot_of z ≡ slot_of x → Lock s views word home x → Alone views word x id v z
alone s views word home x id v z at mine same_ (free zero_ h home_is keeps_ others) = absurd (others id v at z mine same_)
alone s views word home x id v z at mine same_ (held i y there holds others) = dite (ℕ_discrete i id)
    (λ is.
    let one : y ≡ v = some-injective y v (sym there ∙ (ap (get_elem? views) is ∙ at)) in
    let h = subst (Holds word x) one holds in
    record { value = same_held x z (sym h.held ∙ mine); word_is = h.word_is; others = λ j u ne e. others j u (λ d. ne (d ∙ is)) e })
    (λ apart. absurd (others id v (λ d. apart (sym d)) at z mine same_))

-- what is so of a slot whose lock word is 0
pub record Free (s : ScriptValue) (views : List View) (home : maybe.Option (maybe.Option Slot)) (x : Held) : Type 0 where
  pub slot : Slot
  pub home_is : home ≡ some (some slot)
  pub keeps_it : Keeps s x slot
  pub nobody : (j : ℕ) (u : View) → get_elem? views j ≡ some u → HoldsNot (slot_of x) u

pub is_free : (s : ScriptValue) (views : List View) (word : ℕ) (home : maybe.Option (maybe.Option Slot)) (x : Held) → word ≡ 0 → Lock s views word home x → Free s views home x
is_free s views word home x z (free zero_ h home_is keeps_ others) = record { slot = h; home_is = home_is; keeps_it = keeps_; nobody = others }
is_free s views word home x z (held i y there holds others) = let e = holds.word_is in absurd (omega arith)

-- a step that changes neither the words, nor the values, nor the world
pub quiet : (s : ScriptValue) (st : St) (r : IsInOrder s st) (id : ℕ) (v u : View) → get_elem? st.views id ≡ some v → v.live ≡ true → Kin v u → Goes s r.world r.world v.number → Knows s r.world u → u.log ≡ v.log → u.held ≡ v.held
    → IsInOrder s (board st.words st.homes (set st.views id u))
quiet s st r id v u at live kin goes knows log still = reseat s st r id v u r.world st.words st.homes at live kin r.sound goes refl refl refl r.ticket
    (λ x. ap (λ es. stamp_count x es + once_below x (length r.world.history)) log) knows
    (λ x e. lock_kept s st.views (get_or st.words (word_of x) 0) (get_elem? st.homes (slot_of x)) x id v u at (like v u kin) (λ h. still ∙ h) (λ no z h. no z (sym still ∙ h)) (r.locks x e))
