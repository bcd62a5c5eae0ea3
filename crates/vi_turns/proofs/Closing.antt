-- How a table begins, and what is left of it at its end.
use Rattle.std.proofs.Common.{◌≡◌, ◌==◌, ℕ, zero, suc, ◌+◌, ◌<◌, ◌≤◌, ◌≢◌, Bool, true, false, cond, List, [], ◌∷◌, ◌++◌, map, length, take, count_by, get_or, set, replicate, sym, refl, ap, subst, ◌∙◌, arith, get_or-set_other, slice_get, All, Some, None}
use Rattle.std.specs.Mem.Slots.Ownership.{Filled}
use Rattle.std.proofs.lemmas.Bool.Decides.{nat_tests}
use Rattle.std.proofs.lemmas.List.{length-map, length-replicate}
use Rattle.std.proofs.lemmas.List.Elements.{All-nil, All-cons, All-from_recursion}
use Rattle.std.proofs.lemmas.List.Sums.{sum_by-cons}
use Rattle.std.proofs.lemmas.Option.{none-some, same_Some}
use mathlib.Core.List.{map-append}
use mathlib.Core.Option as maybe
use mathlib.Core.Option.{some, some-injective, some-ne-none}
use mathlib.Core.Logic.{dite}
use native.Mathlib.Decide.{ℕ_discrete}
use lib.ListN.{get_elem?}
use Rattle.atomic_table.specs.Table.{opening, Final, Seen}
use Rattle.vi_bytes.specs.declared.span.TheConstants.{PAGE}
use Rattle.vi_history.specs.Start.{start, zero_page}
use Rattle.vi_log.specs.Logs as logs
use Rattle.vi_log.specs.Logs.{Ticketed, LogValue, Stands, once_below}
use Rattle.vi_lines.specs.Value.{ScriptValue}
use Rattle.vi_lines.specs.Legal.{IsLegalHistory}
use Rattle.vi_lines.specs.Order.{IsOrderedSoFar}
use Rattle.vi_model.specs.Control as model
use Rattle.vi_model.specs.Worlds as worlds
use Rattle.vi_model.specs.Worlds.{World, opening_control}
use Rattle.vi_model.specs.Actors.{other_actor}
use Rattle.vi_model.specs.Playable.{IsPlayable}
use Rattle.vi_model.specs.Sound.{IsSound}
use Rattle.vi_sound.proofs.Laws.{opening_is_sound, sound_is_legal}
use Rattle.vi_control.specs.Plan.{plan_of}
use Rattle.vi_control.specs.Value.{ControlValue}
use Rattle.vi_turns.specs.Holding.{Held, TheControl, ThePage, Taken, Last}
use Rattle.vi_turns.specs.Views.{who_of, first_actor, total, same, stamp_count, ticket_count, weight, first, last_of}
use Rattle.vi_turns.specs.Order.{slot_of, word_of, Has, Keeps, Lock, free, held, HasActor, Each, IsTaken, Knows, IsInOrder}
use Rattle.vi_turns.specs.Ended.{of_entries, logs_of, IsHistory, IsWhole, IsClosed, page_slots, shelf, IsShelf}
use Rattle.vi_turns.specs.declared.slot.Slot.{Slot}
use Rattle.vi_turns.specs.declared.slot.Slot.TheVariants as slot
use Rattle.vi_turns.specs.declared.view.View.{View}
use Rattle.vi_turns.proofs.Basics.{terms_le}
use Rattle.vi_turns.proofs.Seats.{St, none_holds}
use Rattle.vi_turns.proofs.Ends.{is_first}

-- an empty list has no element
at_empty : {A : Type 0} (j : ℕ) (a : A) → get_elem? {A = A} [] j ≡ some a → ⊥
at_empty j a e = some-ne-none a (sym e)

-- the one view of a list
at_single : (x v : View) (j : ℕ) → get_elem? (x ∷ []) j ≡ some v → x ≡ v
at_single x v zero e = some-injective x v e
at_single x v (suc j) e = absurd (at_empty j v e)

-- ---- how it begins

-- what the world has in which nothing has happened
opening_pages : (s : ScriptValue) → (let w : World = worlds.opening s in w.pages) ≡ replicate s.setup.memory (replicate PAGE 0)
unfolding worlds.opening start zero_page
opening_pages s = refl

opening_state : (s : ScriptValue) → (let w : World = worlds.opening s in w.control) ≡ opening_control s
unfolding worlds.opening
opening_state s = refl

opening_history : (s : ScriptValue) → (let w : World = worlds.opening s in w.history) ≡ []
unfolding worlds.opening
opening_history s = refl

-- the actor of a pass that isn't split yet has in it what it has before its first turn
has_first : (s : ScriptValue) (n : ℕ) → HasActor s (worlds.opening s) n (first_actor s (who_of s n))
has_first s n who is = sym (ap (first_actor s) is)

-- pass 0 acts for nobody
has_none : (s : ScriptValue) (w : World) → HasActor s w 0 other_actor
has_none s w who is = absurd (none-some who is)

-- a page's slot is at home
page_home : (ps : List (List ℕ)) (page : ℕ) (bytes : List ℕ) → slice_get ps page ≡ Some bytes → get_elem? (map some (page_slots ps)) page ≡ some (some (slot.Page bytes))
page_home [] page bytes at = absurd (none-some bytes at)
page_home (p ∷ ps) zero bytes at = ap (λ (b : List ℕ). some (some (slot.Page b))) (same_Some p bytes at)
page_home (p ∷ ps) (suc page) bytes at = page_home ps page bytes at

-- each word is 0
zero_at : (n i : ℕ) → get_or {A = ℕ} (replicate n 0) i 0 ≡ 0
zero_at zero i = refl
zero_at (suc n) zero = refl
zero_at (suc n) (suc i) = zero_at n i

-- each value of that world is at home
lock_first : (s : ScriptValue) (c : ControlValue) (ps : List (List ℕ)) (w : World) → c.state ≡ w.control → c.plan ≡ plan_of s → ps ≡ w.pages
    → (word : ℕ) (x : Held) → word ≡ 0 → Has w x → Lock s (first s ∷ []) word (get_elem? (map some (shelf c ps)) (slot_of x)) x
lock_first s c ps w state plan pages word (TheControl d) zero_ has =
    free zero_ (slot.Control c) refl (state ∙ has, plan) (λ j u at. none_holds 0 u (ap (λ (z : View). z.held) (sym (at_single (first s) u j at))))
lock_first s c ps w state plan pages word (ThePage page bytes) zero_ has =
    free zero_ (slot.Page bytes) (page_home ps page bytes (subst (λ (qs : List (List ℕ)). slice_get qs page ≡ Some bytes) (sym pages) has)) refl
    (λ j u at. none_holds (suc page) u (ap (λ (z : View). z.held) (sym (at_single (first s) u j at))))

-- the table of a control and of pages at the start, with words of 0, where nothing has happened
opens : (s : ScriptValue) (c : ControlValue) (ps : List (List ℕ)) (n : ℕ) → IsPlayable s → c.state ≡ opening_control s → c.plan ≡ plan_of s
    → ps ≡ replicate s.setup.memory (replicate PAGE 0) → n ≡ length ps + 2 → IsInOrder s (opening (replicate n 0) (shelf c ps) (first s))
opens s c ps n play state plan blank long =
    let y : World = worlds.opening s in
    let pages : ps ≡ y.pages = blank ∙ sym (opening_pages s) in
    let count : length ps ≡ length y.pages = ap length pages in
    let none_ : length y.history ≡ 0 = ap length (opening_history s) in record {
      world = y;
      zeroth = first s;
      playable = play;
      sound = opening_is_sound s play;
      words = let a = length-replicate {A = ℕ} n 0 in omega arith;
      homes = let a = length-map (shelf c ps) (λ (z : Slot). some z) in let b = length-map ps (λ (b : List ℕ). slot.Page b) in omega arith;
      ticket = zero_at n 0 ∙ sym none_;
      first = record { at = refl; live = refl; number = refl };
      numbers = λ x. grind (arith, nat_tests);
      weights = refl;
      tickets = λ x. let e : once_below x (length y.history) ≡ once_below x 0 = ap (once_below x) none_ in let z : once_below x 0 ≡ 0 = grind (arith, nat_tests) in omega arith;
      knows = λ j v e. subst (Knows s y) (at_single (first s) v j e)
          record { script = λ _. refl; log = tt; taken = tt; actor = λ _. has_none s y; seen = omega arith; above = tt; spent = λ dead. absurd (cc) };
      unborn = λ i _. has_first s i;
      locks = λ x has. lock_first s c ps y (state ∙ sym (opening_state s)) plan pages (get_or {A = ℕ} (replicate n 0) (word_of x) 0) x (zero_at n (word_of x)) has;
    }

-- the same of lists that come to these words and slots
pub opens_at : (s : ScriptValue) (c : ControlValue) (ps : List (List ℕ)) (n : ℕ) (ws : List ℕ) (xs : List Slot) → IsPlayable s → c.state ≡ opening_control s → c.plan ≡ plan_of s
    → ps ≡ replicate s.setup.memory (replicate PAGE 0) → n ≡ length ps + 2 → ws ≡ replicate n 0 → xs ≡ shelf c ps → IsInOrder s (opening ws xs (first s))
opens_at s c ps n ws xs play state plan blank long zeros are =
    subst (λ (l : List ℕ). IsInOrder s (opening l xs (first s))) (sym zeros)
    (subst (λ (l : List Slot). IsInOrder s (opening (replicate n 0) l (first s))) (sym are) (opens s c ps n play state plan blank long))

-- ---- sums over one list, as they are counted over logs

-- how often a ticket is one of some entries
count_stamps : (x : ℕ) (es : List Ticketed) → count_by (λ (y : Ticketed). y.ticket == x) es ≡ stamp_count x es
count_stamps x [] = refl
count_stamps x (e ∷ es) = sum_by-cons (λ (y : Ticketed). cond (y.ticket == x) 1 0) e es ∙ ap (λ (n : ℕ). same x e.ticket + n) (count_stamps x es)

abbrev taken_logs : List Taken → List LogValue
taken_logs ts = map (λ (t : Taken). of_entries t.log) ts

-- how often it is one of the logs of passes that ended
count_taken : (x : ℕ) (ts : List Taken) → logs.ticket_count x (taken_logs ts) ≡ total (λ (t : Taken). stamp_count x t.log) ts
count_taken x [] = refl
count_taken x (t ∷ ts) =
    let a = sum_by-cons (λ (l : LogValue). count_by (λ (y : Ticketed). y.ticket == x) l.entries) (of_entries t.log) (taken_logs ts) in
    let b = count_stamps x t.log in
    let c = count_taken x ts in
    omega (arith, a, b, c)

-- how often it is one of all logs of a pass
count_logs : (x : ℕ) (v : View) → logs.ticket_count x (logs_of (last_of v)) ≡ ticket_count x v
count_logs x v =
    let a = sum_by-cons (λ (l : LogValue). count_by (λ (y : Ticketed). y.ticket == x) l.entries) (of_entries v.log) (taken_logs v.taken) in
    let b = count_stamps x v.log in
    let c = count_taken x v.taken in
    omega (arith, a, b, c)

-- the entries of the passes that ended stand in the history
stand_taken : (s : ScriptValue) (w : World) (ts : List Taken) → Each (IsTaken s w) ts → All (λ (l : LogValue). All (Stands w.history) l.entries) (taken_logs ts)
stand_taken s w [] all = All-nil (λ (l : LogValue). All (Stands w.history) l.entries)
stand_taken s w (t ∷ ts) all =
    All-cons (λ (l : LogValue). All (Stands w.history) l.entries) (of_entries t.log) (taken_logs ts)
    (let k : IsTaken s w t = all.0 in All-from_recursion (Stands w.history) t.log k.log) (stand_taken s w ts all.1)

-- ---- how it ends

abbrev lit : Bool → ℕ
lit b = cond b 1 0

dead : (b : Bool) → lit b ≡ 0 → b ≡ false
dead true e = absurd (omega arith)
dead false e = refl

-- where the first pass took in every other, each other seat has ended
all_spent : (s : ScriptValue) (st : St) (r : IsInOrder s st) (id j : ℕ) (v z : View) → get_elem? st.views id ≡ some v → v.live ≡ true → v.number ≡ 0 → length v.taken ≡ v.made
    → j ≢ id → get_elem? st.views j ≡ some z → z.live ≡ false
all_spent s st r id j v z at live zero_ all ne there =
    let two = terms_le weight st.views id j v z ne at there in
    let w = r.weights in
    let made_is : r.zeroth.made ≡ v.made = ap (λ (q : View). q.made) (is_first s st r id v at live zero_) in
    let mine : weight v ≡ 1 + length v.taken = ap (λ b. cond b 1 0 + length v.taken) live in
    let none_ : weight z ≡ 0 = omega arith in
    dead z.live (omega arith)

-- what is so of a value that is at home
record Home (s : ScriptValue) (x : Held) (home : maybe.Option (maybe.Option Slot)) : Type 0 where
  slot : Slot
  home_is : home ≡ some (some slot)
  keeps_it : Keeps s x slot

-- where the first pass took in every other and holds nothing, each value is at home
home_free : (s : ScriptValue) (st : St) (r : IsInOrder s st) (id : ℕ) (v : View) → get_elem? st.views id ≡ some v → v.live ≡ true → v.number ≡ 0 → v.held ≡ None
    → length v.taken ≡ v.made → (word : ℕ) (home : maybe.Option (maybe.Option Slot)) (x : Held) → Lock s st.views word home x → Home s x home
home_free s st r id v at live zero_ empty all word home x (free z y home_is keeps_ others) = record { slot = y; home_is = home_is; keeps_it = keeps_ }
home_free s st r id v at live zero_ empty all word home x (held i y there holds others) = dite (ℕ_discrete i id)
    (λ is.
    let one : y ≡ v = some-injective y v (sym there ∙ (ap (get_elem? st.views) is ∙ at)) in
    absurd (none_holds (slot_of x) v empty x (ap (λ (z : View). z.held) (sym one) ∙ holds.held) refl))
    (λ apart.
    let gone = all_spent s st r id i v y at live zero_ all apart there in
    let alive = holds.live in
    absurd (cc))

-- a sum of which each term is 0
no_more : {A : Type 0} (g : A → ℕ) (l : List A) → ((j : ℕ) (z : A) → get_elem? l j ≡ some z → g z ≡ 0) → total g l ≡ 0
no_more g [] h = refl
no_more g (x ∷ xs) h = omega (arith, h 0 x refl, no_more g xs (λ j z e. h (suc j) z e))

-- a sum with one term that isn't 0
only_one : {A : Type 0} (g : A → ℕ) (l : List A) (i : ℕ) (v : A) → get_elem? l i ≡ some v → ((j : ℕ) (z : A) → j ≢ i → get_elem? l j ≡ some z → g z ≡ 0) → total g l ≡ g v
only_one g [] i v at others = absurd (at_empty i v at)
only_one g (x ∷ xs) zero v at others = let more = no_more g xs (λ j z e. others (suc j) z (λ h. absurd (omega arith)) e) in omega (arith, ap g (some-injective x v at))
only_one g (x ∷ xs) (suc i) v at others =
    let here = others 0 x (λ h. absurd (omega arith)) refl in
    let more = only_one g xs i v at (λ j z ne e. others (suc j) z (λ h. ne (omega arith)) e) in
    omega arith

-- a seat that has ended has no tickets
no_tickets : (x : ℕ) (z : View) → z.log ≡ [] → z.taken ≡ [] → ticket_count x z ≡ 0
no_tickets x z log taken i = stamp_count x (log i) + total (λ (t : Taken). stamp_count x t.log) (taken i)

-- the tickets of the first pass and of those that it took in are all that there are
all_tickets : (s : ScriptValue) (st : St) (r : IsInOrder s st) (id : ℕ) (v : View) → get_elem? st.views id ≡ some v → v.live ≡ true → v.number ≡ 0 → length v.taken ≡ v.made
    → (x : ℕ) → ticket_count x v ≡ once_below x (length r.world.history)
all_tickets s st r id v at live zero_ all x =
    sym (only_one (ticket_count x) st.views id v at (λ j z ne there.
    let q = (r.knows j z there).spent (all_spent s st r id j v z at live zero_ all ne there) in
    no_tickets x z q.0 q.1)) ∙ r.tickets x

-- what the slots of the control and of a page have at home
record OfControl (s : ScriptValue) (state : model.Control) (y : Slot) : Type 0 where
  control : ControlValue
  slot_is : y ≡ slot.Control control
  state_is : control.state ≡ state
  plan : control.plan ≡ plan_of s

control_home : (s : ScriptValue) (state : model.Control) (y : Slot) → Keeps s (TheControl state) y → OfControl s state y
control_home s state (slot.Control c) k = record { control = c; slot_is = refl; state_is = k.0; plan = k.1 }
control_home s state (slot.Page b) k = absurd k
control_home s state slot.Out k = absurd k

page_kept : (s : ScriptValue) (page : ℕ) (bytes : List ℕ) (y : Slot) → Keeps s (ThePage page bytes) y → y ≡ slot.Page bytes
page_kept s page bytes (slot.Control c) k = absurd k
page_kept s page bytes (slot.Page b) k = ap (λ (l : List ℕ). slot.Page l) k
page_kept s page bytes slot.Out k = absurd k

-- the page of a page's slot
page_there : (ps : List (List ℕ)) (i : ℕ) (y : Slot) → get_elem? (page_slots ps) i ≡ some y → (b : List ℕ) × (slice_get ps i ≡ Some b) × (slot.Page b ≡ y)
page_there [] i y e = absurd (at_empty i y e)
page_there (p ∷ ps) zero y e = (p, refl, some-injective (slot.Page p) y e)
page_there (p ∷ ps) (suc i) y e = page_there ps i y e

-- lists as long as each other, of which one has each element of the other
same_list : {A : Type 0} (xs ys : List A) → length xs ≡ length ys → ((k : ℕ) (y : A) → get_elem? ys k ≡ some y → get_elem? xs k ≡ some y) → xs ≡ ys
same_list [] [] e h = refl
same_list [] (y ∷ ys) e h = absurd (omega arith)
same_list (x ∷ xs) [] e h = absurd (omega arith)
same_list (x ∷ xs) (y ∷ ys) e h =
    let head : x ≡ y = some-injective x y (h 0 y refl) in
    let tail : xs ≡ ys = same_list xs ys (omega arith) (λ k z q. h (suc k) z q) in
    λ i. head i ∷ tail i

-- the slots are those of the control and of the world's pages
slots_end : (w : World) (c : ControlValue) (xs : List Slot) → length xs ≡ length w.pages + 1 → get_elem? xs 0 ≡ some (slot.Control c)
    → ((page : ℕ) (bytes : List ℕ) → slice_get w.pages page ≡ Some bytes → get_elem? xs (suc page) ≡ some (slot.Page bytes)) → xs ≡ shelf c w.pages
slots_end w c xs long at_first at_page = same_list xs (shelf c w.pages) (let a = length-map w.pages (λ (b : List ℕ). slot.Page b) in omega arith) there
  where
    there : (k : ℕ) (y : Slot) → get_elem? (shelf c w.pages) k ≡ some y → get_elem? xs k ≡ some y
    there zero y e = at_first ∙ e
    there (suc k) y e = let p = page_there w.pages k y e in at_page k p.0 p.1 ∙ ap (λ (z : Slot). some z) p.2

-- The values at the end are those of a sound world, and its history is that of the first pass's logs.
pub record Ends (s : ScriptValue) (v : View) (xs : List Slot) : Type 0 where
  pub world : World
  pub control : ControlValue
  pub playable : IsPlayable s
  pub sound : IsSound s world
  pub state : control.state ≡ world.control
  pub plan : control.plan ≡ plan_of s
  pub slots_are : xs ≡ shelf control world.pages
  pub history : IsHistory (last_of v) world.history
  pub taken : Each (IsTaken s world) v.taken
  pub script : v.script ≡ s

-- so the table ends, once the first pass took in every other and holds nothing
closes : (s : ScriptValue) (id : ℕ) (v : View) (ws : List ℕ) (xs : List Slot) → Final (Seen (IsInOrder s) id v) ws xs
    → v.live ≡ true → v.number ≡ 0 → v.held ≡ None → length v.taken ≡ v.made → Ends s v xs
closes s id v ws xs f live zero_ empty all =
    let st = f.0 in
    let r = f.1.0 in
    let at = f.1.1 in
    let w : World = r.world in
    let k = r.knows id v at in
    let home : (x : Held) → Has w x → Home s x (get_elem? st.homes (slot_of x)) = λ x has.
    home_free s st r id v at live zero_ empty all (get_or st.words (word_of x) 0) (get_elem? st.homes (slot_of x)) x (r.locks x has) in
    let h = home (TheControl w.control) refl in
    let c = control_home s w.control h.slot h.keeps_it in record {
      world = w;
      control = c.control;
      playable = r.playable;
      sound = r.sound;
      state = c.state_is;
      plan = c.plan;
      slots_are = slots_end w c.control xs (let a = f.3 in let b = r.homes in omega arith)
          (f.4 0 h.slot h.home_is ∙ ap (λ (z : Slot). some z) c.slot_is)
          (λ page bytes has. let p = home (ThePage page bytes) has in f.4 (suc page) p.slot p.home_is ∙ ap (λ (z : Slot). some z) (page_kept s page bytes p.slot p.keeps_it));
      history = record {
        stands = All-cons (λ (l : LogValue). All (Stands w.history) l.entries) (of_entries v.log) (taken_logs v.taken)
            (All-from_recursion (Stands w.history) v.log k.log) (stand_taken s w v.taken k.taken);
        tickets = λ x. count_logs x v ∙ all_tickets s st r id v at live zero_ all x;
      };
      taken = k.taken;
      script = k.script live;
    }

-- the same of the view q of a pass, which its seat has
pub closes_as : (s : ScriptValue) (id : ℕ) (u v q : View) (ws : List ℕ) (xs : List Slot) → Final (Seen (IsInOrder s) id u) ws xs
    → u ≡ v → v.live ≡ true → v ≡ q → (q.number ≡ 0) × (q.held ≡ None) → length q.taken ≡ q.made → Ends s v xs
closes_as s id u v q ws xs f is live same_ first_ all =
    closes s id v ws xs (subst (λ (z : View). Final (Seen (IsInOrder s) id z) ws xs) is f) live
    (ap (λ (z : View). z.number) same_ ∙ first_.0) (ap (λ (z : View). z.held) same_ ∙ first_.1) (ap (λ (z : View). length z.taken) same_ ∙ (all ∙ ap (λ (z : View). z.made) (sym same_)))

-- the slots are those of a control and of pages
pub is_shelf : (s : ScriptValue) (v : View) (xs : List Slot) → Ends s v xs → IsShelf xs
is_shelf s v xs e = record { control = e.control; pages = e.world.pages; slots_are = e.slots_are }

-- the last view is whole
pub whole : (s : ScriptValue) (v : View) (xs : List Slot) (l : Last) → Ends s v xs → l ≡ last_of v → IsWhole l
whole s v xs l e is =
    let legal = sound_is_legal s e.world e.sound in
    subst IsWhole (sym is) record {
      history = e.world.history;
      merged = e.history;
      legal = subst (λ (z : ScriptValue). IsLegalHistory z e.world.history) (sym e.script) legal.0;
      ordered = subst (λ (z : ScriptValue). IsOrderedSoFar z e.world.history) (sym e.script) legal.1;
    }

-- ---- the parts of a shelf

-- the control of a slot, or this one
control_or : ControlValue → Slot → ControlValue
control_or d (slot.Control c) = c
control_or d (slot.Page b) = d
control_or d slot.Out = d

-- the bytes of a page's slot
bytes_of : Slot → List ℕ
bytes_of (slot.Page b) = b
bytes_of (slot.Control c) = []
bytes_of slot.Out = []

first_or : List Slot → Slot
first_or [] = slot.Out
first_or (x ∷ xs) = x

tail_of : List Slot → List Slot
tail_of [] = []
tail_of (x ∷ xs) = xs

-- the pages of their slots
back : (ps : List (List ℕ)) → map bytes_of (page_slots ps) ≡ ps
unfolding bytes_of
back [] = refl
back (p ∷ ps) = ap (λ (l : List (List ℕ)). p ∷ l) (back ps)

-- one shelf has one control and one list of pages
same_parts : (c d : ControlValue) (ps qs : List (List ℕ)) → shelf c ps ≡ shelf d qs → (c ≡ d) × (ps ≡ qs)
unfolding control_or first_or tail_of
same_parts c d ps qs e = (ap (λ (l : List Slot). control_or c (first_or l)) e, sym (back ps) ∙ (ap (λ (l : List Slot). map bytes_of (tail_of l)) e ∙ back qs))

-- the control and the pages that were taken out of the slots
pub is_closed : (s : ScriptValue) (v : View) (xs : List Slot) (l : Last) (c d : ControlValue) (ps qs : List (List ℕ)) → Ends s v xs → l ≡ last_of v
    → c ≡ d → ps ≡ qs → shelf d qs ≡ xs → IsClosed s l c ps
is_closed s v xs l c d ps qs e is control_is pages_ parts =
    let whole_ : shelf c ps ≡ shelf d qs = λ i. shelf (control_is i) (pages_ i) in
    let p = same_parts c e.control ps e.world.pages (whole_ ∙ (parts ∙ e.slots_are)) in record {
      world = e.world;
      playable = e.playable;
      sound = e.sound;
      state = ap (λ (d : ControlValue). d.state) p.0 ∙ e.state;
      plan = ap (λ (d : ControlValue). d.plan) p.0 ∙ e.plan;
      pages_are = p.1;
      history = subst (λ (z : Last). IsHistory z e.world.history) (sym is) e.history;
      taken = subst (λ (z : Last). Each (IsTaken s e.world) z.taken) (sym is) e.taken;
      script = ap (λ (z : Last). z.script) is ∙ e.script;
    }

-- ---- the slots of a shelf, taken out one after another

-- behind the first slot are the pages'
pub page_at : (xs : List Slot) (i : ℕ) (x : Slot) → IsShelf xs → 1 ≤ i → get_elem? xs i ≡ some x → (b : List ℕ) × (x ≡ slot.Page b)
page_at xs i x s more at = go i more (ap (λ (l : List Slot). get_elem? l i) (sym s.slots_are) ∙ at)
  where
    go : (i : ℕ) → 1 ≤ i → get_elem? (shelf s.control s.pages) i ≡ some x → (b : List ℕ) × (x ≡ slot.Page b)
    go zero m e = absurd (omega arith)
    go (suc i) m e = let p = page_there s.pages i x e in (p.0, sym p.2)

-- a longer front has one element more
take_at : {A : Type 0} (l : List A) (i : ℕ) (a : A) → get_elem? l i ≡ some a → take (suc i) l ≡ take i l ++ a ∷ []
take_at [] i a e = absurd (at_empty i a e)
take_at (x ∷ xs) zero a e = λ k. some-injective x a e k ∷ []
take_at {A = A} (x ∷ xs) (suc i) a e = ap (λ (r : List A). x ∷ r) (take_at xs i a e)

-- one more page is out
pub taken_more : (xs : List Slot) (i j : ℕ) (x : Slot) (ps qs : List (List ℕ)) (b : List ℕ) → x ∷ page_slots ps ≡ take i xs
    → get_elem? xs i ≡ some (slot.Page b) → qs ≡ ps ++ b ∷ [] → j ≡ i + 1 → x ∷ page_slots qs ≡ take j xs
taken_more xs i j x ps qs b before at more is =
    let next : suc i ≡ j = omega arith in
    ap (λ (l : List (List ℕ)). x ∷ page_slots l) more
    ∙ ap (λ (l : List Slot). x ∷ l) (map-append (λ (d : List ℕ). slot.Page d) ps (b ∷ []))
    ∙ ap (λ (l : List Slot). l ++ slot.Page b ∷ []) before
    ∙ sym (take_at xs i (slot.Page b) at)
    ∙ ap (λ n. take n xs) next

-- the slots from the place on are full, those above it still are once its own is out
pub still_full : (fs gs : List Bool) (i n m : ℕ) → Filled fs i n → gs ≡ set fs i false → m ≡ n → Filled gs (i + 1) m
still_full fs gs i n m full is same_ k above within =
    ap (λ (l : List Bool). get_or l k false) is ∙ (get_or-set_other fs i k false false (λ e. absurd (omega (arith, above, e))) ∙ full k (omega (arith, above)) (omega (arith, within, same_)))

-- the one that was taken is out
out_there : (fs : List Bool) (i : ℕ) → get_or (set fs i false) i false ≡ false
out_there [] i = refl
out_there (b ∷ bs) zero = refl
out_there (b ∷ bs) (suc i) = out_there bs i

-- and those up to it are out
pub still_out : (fs gs : List Bool) (i : ℕ) → ((k : ℕ) → k < i → get_or fs k false ≡ false) → gs ≡ set fs i false → (k : ℕ) → k < i + 1 → get_or gs k false ≡ false
still_out fs gs i out is k below = ap (λ (l : List Bool). get_or l k false) is ∙ dite (ℕ_discrete k i)
    (λ (e : k ≡ i). subst (λ (n : ℕ). get_or (set fs n false) k false ≡ false) e (out_there fs k))
    (λ apart. get_or-set_other fs i k false false apart ∙ out k (omega (arith, below, apart)))

-- the first is out, and no page
pub taken_first : (xs : List Slot) (x : Slot) (ps : List (List ℕ)) → get_elem? xs 0 ≡ some x → length ps ≡ 0 → x ∷ page_slots ps ≡ take 1 xs
taken_first xs x [] at e = sym (take_at xs 0 x at)
taken_first xs x (p ∷ ps) at e = absurd (omega arith)
