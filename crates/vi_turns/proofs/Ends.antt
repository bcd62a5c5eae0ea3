-- How passes are split and joined: the rule stays.
use Rattle.std.proofs.Common.{◌≡◌, ℕ, ◌+◌, ◌≢◌, ⊎_elim, List, [], ◌∷◌, ◌++◌, length, sym, add-zero, refl, ap, subst, ◌∙◌, arith, true, cond, get_or, set, length-append, slice_get, Some, None}
use mathlib.Core.Option as maybe
use mathlib.Core.Option.{some, some-injective}
use mathlib.Core.Logic.{dite}
use native.Mathlib.Decide.{ℕ_discrete}
use lib.ListN.{get_elem?}
use Rattle.atomic_table.specs.Table.{Splits, Joins}
use Rattle.atomic_table.proofs.Lists.{at_set, at_snoc, at_longer, set_else, set_again}
use Rattle.vi_log.specs.Logs.{Stands, once_below}
use Rattle.vi_history.specs.declared.entry.Entry.{Entry}
use Rattle.vi_lines.specs.Value.{ScriptValue}
use Rattle.vi_model.specs.Worlds.{World}
use Rattle.vi_turns.specs.Holding.{Held, TheControl, ThePage, Taken}
use Rattle.vi_turns.specs.Views.{who_of, first_actor, total, same, number_count, stamp_count, ticket_count, weight, split_left, split_right, taken_of, joined, spent, keepsake, itself}
use Rattle.vi_turns.specs.Order.{slot_of, word_of, Has, HoldsNot, Lock, free, held, HasActor, IsTaken, Knows, IsInOrder}
use Rattle.vi_turns.specs.declared.slot.Slot.{Slot}
use Rattle.vi_turns.specs.declared.view.View.{View}
use Rattle.vi_turns.proofs.Actors.{drops}
use Rattle.vi_turns.proofs.Basics.{each_map, each_append, set_there, total_append, total_set, live_count, knows_goes, all_taken_goes, once_step}
use Rattle.vi_turns.proofs.Seats.{St, board, lone, low, own_taken, first_of, lock_kept, none_holds}

-- one more number
-- the pass with the number 0 is the first seat
pub is_first : (s : ScriptValue) (st : St) (r : IsInOrder s st) (id : ℕ) (v : View) → get_elem? st.views id ≡ some v → v.live ≡ true → v.number ≡ 0 → r.zeroth ≡ v
is_first s st r id v at live zero_ = let f = r.first in dite (ℕ_discrete 0 id)
    (λ is. some-injective r.zeroth v (sym f.at ∙ (ap (get_elem? st.views) is ∙ at)))
    (λ apart.
    let none_ = lone s st r id 0 v r.zeroth at live apart f.at in
    let one = live_count v.number r.zeroth f.live (f.number ∙ sym zero_) in
    absurd (omega arith))

-- one more seat that holds nothing
lock_more : (s : ScriptValue) (views : List View) (word : ℕ) (home : maybe.Option (maybe.Option Slot)) (x : Held) (u : View) → u.held ≡ None
    → Lock s views word home x → Lock s (views ++ u ∷ []) word home x
lock_more s views word home x u empty (free z y home_is keeps_ others) = free z y home_is keeps_ (λ j q e. ⊎_elim
    (λ (t : get_elem? views j ≡ some q). others j q t)
    (λ (t : u ≡ q). subst (HoldsNot (slot_of x)) t (none_holds (slot_of x) u empty))
    (at_snoc views u q j e))
lock_more s views word home x u empty (held i y there holds others) = held i y (at_longer views (u ∷ []) i y there) holds (λ j q ne e. ⊎_elim
    (λ (t : get_elem? views j ≡ some q). others j q ne t)
    (λ (t : u ≡ q). subst (HoldsNot (slot_of x)) t (none_holds (slot_of x) u empty))
    (at_snoc views u q j e))

-- a seat that held nothing of the slot still holds nothing of it
lock_off : (s : ScriptValue) (views : List View) (word : ℕ) (home : maybe.Option (maybe.Option Slot)) (x : Held) (id : ℕ) (v u : View) → get_elem? views id ≡ some v
    → HoldsNot (slot_of x) v → HoldsNot (slot_of x) u → Lock s views word home x → Lock s (set views id u) word home x
lock_off s views word home x id v u at no_v no_u (free z h home_is keeps_ others) = free z h home_is keeps_ (λ j y e. ⊎_elim
    (λ (t : (j ≡ id) × (u ≡ y)). subst (HoldsNot (slot_of x)) t.1 no_u)
    (λ (t : (j ≢ id) × (get_elem? views j ≡ some y)). others j y t.1)
    (at_set views id j u y e))
lock_off s views word home x id v u at no_v no_u (held i y there holds others) =
    let apart : i ≢ id = λ is.
    let one : y ≡ v = some-injective y v (sym there ∙ (ap (get_elem? views) is ∙ at)) in
    no_v x (ap (λ (z : View). z.held) (sym one) ∙ holds.held) refl in
    held i y (set_else views id i u apart ∙ there) holds (λ j z ne e. ⊎_elim
    (λ (t : (j ≡ id) × (u ≡ z)). subst (HoldsNot (slot_of x)) t.1 no_u)
    (λ (t : (j ≢ id) × (get_elem? views j ≡ some z)). others j z ne t.1)
    (at_set views id j u z e))

-- ---- a pass is split from the first one

-- the actor of the new pass has done nothing
born : (s : ScriptValue) (w : World) (n : ℕ) (t : ScriptValue) → t ≡ s → HasActor s w n (first_actor s (who_of s n)) → HasActor s w n (first_actor t (who_of t n))
born s w n t is has = subst (λ (z : ScriptValue). HasActor s w n (first_actor z (who_of z n))) (sym is) has

-- the new pass has its number and no other
split_numbers : (x : ℕ) (v : View) → v.live ≡ true → number_count x (split_right v) ≡ same x (v.made + 1)
split_numbers x v live = ap (λ b. cond b (same x (v.made + 1)) 0 + 0) live ∙ add-zero (same x (v.made + 1))

-- and stands for itself
split_weight : (v : View) → v.live ≡ true → weight (split_right v) ≡ 1
split_weight v live = ap (λ b. cond b 1 0 + 0) live

-- the table with one more pass, which has the next number
pub splits : (s : ScriptValue) (id : ℕ) (v : View) → v.live ≡ true → v.number ≡ 0 → Splits (IsInOrder s) id v (split_left v) (split_right v)
splits s id v live zero_ st r at =
    let l : View = split_left v in
    let u : View = split_right v in
    let w : World = r.world in
    let one = is_first s st r id v at live zero_ in
    let k = r.knows id v at in
    let vs : List View = set st.views id l in
    let made_is : r.zeroth.made ≡ v.made = ap (λ (z : View). z.made) one in record {
      world = w;
      zeroth = l;
      playable = r.playable;
      sound = r.sound;
      words = r.words;
      homes = r.homes;
      ticket = r.ticket;
      first = record {
        at = at_longer vs (u ∷ []) 0 l (dite (ℕ_discrete 0 id)
            (λ is. subst (λ n. get_elem? vs n ≡ some l) (sym is) (set_there st.views id v l at))
            (λ apart.
            let none_ = lone s st r id 0 v r.zeroth at live apart r.first.at in
            let one_ = live_count v.number r.zeroth r.first.live (r.first.number ∙ sym zero_) in
            absurd (omega arith)));
        live = live;
        number = zero_;
      };
      numbers = λ x.
          let a = total_append (number_count x) vs (u ∷ []) in
          let t = total_set (number_count x) st.views id v l at in
          let n = r.numbers x in
          let m : once_below x (r.zeroth.made + 1) ≡ once_below x (v.made + 1) = ap (λ (n : ℕ). once_below x (n + 1)) made_is in
          let c = once_step x (v.made + 1) in
          let b = split_numbers x v live in
          let q : number_count x l ≡ number_count x v = refl in
          omega arith;
      weights =
          let a = total_append weight vs (u ∷ []) in
          let t = total_set weight st.views id v l at in
          let n = r.weights in
          let b = split_weight v live in
          let q : weight l ≡ weight v = refl in
          omega arith;
      tickets = λ x.
          let a = total_append (ticket_count x) vs (u ∷ []) in
          let t = total_set (ticket_count x) st.views id v l at in
          let n = r.tickets x in
          let q : ticket_count x l ≡ ticket_count x v = refl in
          let b : ticket_count x u ≡ 0 = refl in
          omega arith;
      knows = λ j z e. ⊎_elim
          (λ (t : get_elem? vs j ≡ some z). ⊎_elim
          (λ (q : (j ≡ id) × (l ≡ z)). subst (Knows s w) q.1 record { script = k.script; log = k.log; taken = k.taken; actor = k.actor; seen = k.seen; above = k.above; spent = k.spent })
          (λ (q : (j ≢ id) × (get_elem? st.views j ≡ some z)). r.knows j z q.1)
          (at_set st.views id j l z t))
          (λ (t : u ≡ z). subst (Knows s w) t record {
            script = k.script;
            log = tt;
            taken = tt;
            actor = λ _. born s w (v.made + 1) v.script (k.script live) (r.unborn (v.made + 1) (omega arith));
            seen = k.seen;
            above = tt;
            spent = λ _. (refl, refl, refl);
          })
          (at_snoc vs u z j e);
      unborn = λ n more. r.unborn n (omega arith);
      locks = λ x has. lock_more s vs (get_or st.words (word_of x) 0) (get_elem? st.homes (slot_of x)) x u refl
          (lock_kept s st.views (get_or st.words (word_of x) 0) (get_elem? st.homes (slot_of x)) x id v l at record { live = refl; number = refl } (λ h. h) (λ no. no) (r.locks x has));
    }

-- ---- a pass ends in another

-- what is counted over both is counted over the one that is left
joined_numbers : (x : ℕ) (v w : View) → w.live ≡ true → number_count x (joined v w) ≡ number_count x v + number_count x w
joined_numbers x v w live =
    let f : Taken → ℕ = λ t. same x t.number in
    let a = total_append f v.taken (taken_of w ∷ w.taken) in
    let c : number_count x w ≡ same x w.number + total f w.taken = ap (λ b. cond b (same x w.number) 0 + total f w.taken) live in
    omega arith

joined_tickets : (x : ℕ) (v w : View) → ticket_count x (joined v w) ≡ ticket_count x v + ticket_count x w
joined_tickets x v w =
    let f : Taken → ℕ = λ t. stamp_count x t.log in
    let a = total_append f v.taken (taken_of w ∷ w.taken) in
    omega arith

joined_weight : (v w : View) → w.live ≡ true → weight (joined v w) ≡ weight v + weight w
joined_weight v w live =
    let a = length-append v.taken (taken_of w ∷ w.taken) in
    let c : weight w ≡ 1 + length w.taken = ap (λ b. cond b 1 0 + length w.taken) live in
    omega arith

-- a world with the same control and pages has the same values
has_same : (w y : World) (x : Held) → y.control ≡ w.control → y.pages ≡ w.pages → Has y x → Has w x
has_same w y (TheControl c) e f h = sym e ∙ h
has_same w y (ThePage page bytes) e f h = subst (λ (ps : List (List ℕ)). slice_get ps page ≡ Some bytes) f h

-- a seat that has ended knows nothing
knows_spent : (s : ScriptValue) (w : World) → Knows s w spent
knows_spent s w = record { script = λ h. absurd (cc); log = tt; taken = tt; actor = λ h. absurd (cc); seen = omega arith; above = tt; spent = λ _. (refl, refl, refl) }

-- a pass other than the first ends in another: its actor has no leases then, and what it logged is kept
pub joins : (s : ScriptValue) (id : ℕ) (v : View) (other : ℕ) (w : View) → v.live ≡ true → w.live ≡ true → w.number ≢ 0 → w.held ≡ None
    → Joins (IsInOrder s) id v other w (joined v w) spent
joins s id v other w live live_w some_ empty st r at apart there' =
    let u : View = joined v w in
    let vs : List View = set st.views id u in
    let x : World = r.world in
    let there : get_elem? st.views other ≡ some w = sym (set_else st.views id other u apart) ∙ there' in
    let kv = r.knows id v at in
    let kw = r.knows other w there in
    let d = drops s x w.number w.actor r.playable r.sound (kw.actor live_w) in
    let y : World = d.0 in
    let m = d.1 in
    let f = first_of st.views r.zeroth id v u r.first at record { live = refl; number = refl } refl in
    let not_first : 0 ≢ other = λ is.
    let one : r.zeroth ≡ w = some-injective r.zeroth w (sym r.first.at ∙ (ap (get_elem? st.views) is ∙ there)) in
    some_ (ap (λ (z : View). z.number) (sym one) ∙ r.first.number) in
    let low_w = low s st r other w there live_w in
    let none_v = lone s st r other id w v there live_w (λ e. apart (sym e)) at in record {
      world = y;
      zeroth = f.0;
      playable = r.playable;
      sound = m.sound;
      words = r.words ∙ ap (λ (ps : List (List ℕ)). length ps + 2) (sym m.pages);
      homes = r.homes ∙ ap (λ (ps : List (List ℕ)). length ps + 1) (sym m.pages);
      ticket = r.ticket ∙ ap length (sym m.history);
      first = record { at = set_else vs other 0 spent not_first ∙ f.1.at; live = f.1.live; number = f.1.number };
      numbers = λ n.
          let a = total_set (number_count n) st.views id v u at in
          let b = total_set (number_count n) vs other w spent there' in
          let c = joined_numbers n v w live_w in
          let z : number_count n spent ≡ 0 = refl in
          let e = r.numbers n in
          let q : once_below n (f.0.made + 1) ≡ once_below n (r.zeroth.made + 1) = ap (λ (n' : ℕ). once_below n (n' + 1)) f.2 in
          omega arith;
      weights =
          let a = total_set weight st.views id v u at in
          let b = total_set weight vs other w spent there' in
          let c = joined_weight v w live_w in
          let z : weight spent ≡ 0 = refl in
          let e = r.weights in
          let q = f.2 in
          omega arith;
      tickets = λ n.
          let a = total_set (ticket_count n) st.views id v u at in
          let b = total_set (ticket_count n) vs other w spent there' in
          let c = joined_tickets n v w in
          let z : ticket_count n spent ≡ 0 = refl in
          let e = r.tickets n in
          let q : once_below n (length y.history) ≡ once_below n (length x.history) = ap (λ (h : List Entry). once_below n (length h)) m.history in
          omega arith;
      knows = λ j z e. ⊎_elim
          (λ (t : (j ≡ other) × (spent ≡ z)). subst (Knows s y) t.1 (knows_spent s y))
          (λ (t : (j ≢ other) × (get_elem? vs j ≡ some z)). ⊎_elim
          (λ (q : (j ≡ id) × (u ≡ z)). let g = knows_goes s x y w.number v m.goes none_v kv in subst (Knows s y) q.1 record {
            script = g.script;
            log = g.log;
            taken = each_append (IsTaken s y) v.taken (taken_of w ∷ w.taken) g.taken (
              record { log = each_map (Stands x.history) (Stands y.history) m.goes.history w.log kw.log; actor = m.actor },
              all_taken_goes s x y w.number w.taken m.goes (own_taken s st r other w there live_w) kw.taken,
            );
            actor = g.actor;
            seen = g.seen;
            above = g.above;
            spent = λ dead. absurd (cc);
          })
          (λ (q : (j ≢ id) × (get_elem? st.views j ≡ some z)). knows_goes s x y w.number z m.goes (lone s st r other j w z there live_w t.0 q.1) (r.knows j z q.1))
          (at_set st.views id j u z t.1))
          (at_set vs other j spent z e);
      unborn = λ n more. m.goes.others n (first_actor s (who_of s n)) (λ is. let q = f.2 in absurd (omega arith)) (r.unborn n (let q = f.2 in omega arith));
      locks = λ o has. lock_off s vs (get_or st.words (word_of o) 0) (get_elem? st.homes (slot_of o)) o other w spent there' (none_holds (slot_of o) w empty) (none_holds (slot_of o) spent refl)
          (lock_kept s st.views (get_or st.words (word_of o) 0) (get_elem? st.homes (slot_of o)) o id v u at record { live = refl; number = refl } (λ h. h) (λ no. no)
          (r.locks o (has_same x y o m.control m.pages has)));
    }

-- ---- a seat that remembers a view, and is no pass

-- it knows nothing of the world
knows_keepsake : (s : ScriptValue) (w : World) (v : View) → Knows s w (keepsake v)
knows_keepsake s w v = record { script = λ h. absurd (cc); log = tt; taken = tt; actor = λ h. absurd (cc); seen = omega arith; above = tt; spent = λ _. (refl, refl, refl) }

-- the table with one such seat more
pub keeps_last : (s : ScriptValue) (id : ℕ) (v : View) → Splits (IsInOrder s) id v (itself v) (keepsake v)
keeps_last s id v st r at =
    let u : View = keepsake v in
    let vs : List View = set st.views id v in
    let same_ : vs ≡ st.views = set_again st.views id v at in
    subst (λ (l : List View). IsInOrder s (board st.words st.homes (l ++ u ∷ []))) (sym same_) record {
      world = r.world;
      zeroth = r.zeroth;
      playable = r.playable;
      sound = r.sound;
      words = r.words;
      homes = r.homes;
      ticket = r.ticket;
      first = record { at = at_longer st.views (u ∷ []) 0 r.zeroth r.first.at; live = r.first.live; number = r.first.number };
      numbers = λ x. let a = total_append (number_count x) st.views (u ∷ []) in let n = r.numbers x in let z : number_count x u ≡ 0 = refl in omega arith;
      weights = let a = total_append weight st.views (u ∷ []) in let n = r.weights in let z : weight u ≡ 0 = refl in omega arith;
      tickets = λ x. let a = total_append (ticket_count x) st.views (u ∷ []) in let n = r.tickets x in let z : ticket_count x u ≡ 0 = refl in omega arith;
      knows = λ j z e. ⊎_elim
          (λ (t : get_elem? st.views j ≡ some z). r.knows j z t)
          (λ (t : u ≡ z). subst (Knows s r.world) t (knows_keepsake s r.world v))
          (at_snoc st.views u z j e);
      unborn = r.unborn;
      locks = λ x has. lock_more s st.views (get_or st.words (word_of x) 0) (get_elem? st.homes (slot_of x)) x u refl (r.locks x has);
    }
