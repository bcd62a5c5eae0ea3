-- What a back end's move leaves of a world's parts is its turn of the model.
use Rattle.std.proofs.Common.{◌≡◌, ◌<◌, ◌≤◌, ℕ, zero, suc, ◌+◌, Bool, true, false, not, cond, List, [], ◌∷◌, ◌++◌, length, get_or, set, map, take, drop, Some, None, refl, arith, ap, ap₂, subst, sym, ◌∙◌}
use Rattle.std.specs.Prelude.{nat_lt, nat_eq}
use Rattle.std.specs.List.{position, position_or_len}
use Rattle.std.proofs.lemmas.Bool.{lt-ltb, eqb-true, eq-eqb}
use Rattle.std.proofs.lemmas.List.{ext_get_or, length-map, map-set, get_or-set_same, get_or-set_other}
use Rattle.std.proofs.Math.ListN.{get_or-map}
use Rattle.std.proofs.lemmas.List.Quantifiers.{position-Some}
use Rattle.vi_bytes.specs.declared.lease.Lease.{Lease}
use Rattle.vi_history.specs.declared.entry.Entry.{Entry}
use Rattle.vi_lines.specs.declared.line.Who.TheVariants as who
use Rattle.vi_lines.specs.Value.{ScriptValue}
use Rattle.vi_model.specs.Control.{Control, with_link}
use Rattle.vi_model.specs.Places.{ids_of, place_count, place_in, place_of}
use Rattle.vi_model.specs.Backs.{Seat, Exchange, Access, Wish, Accesses, Asks, Receives, Rests, wish, target_of}
use Rattle.vi_model.specs.Actors.{Actor, seat_in, back_actor}
use Rattle.vi_model.specs.Worlds.{World, seat_of, actor_of}
use Rattle.vi_model.specs.Turns as model
use Rattle.vi_model.specs.Turns.{ControlTurn, AccessTurn, Turn, exchanged, wished, wished_page, control_turn, accessed_page, access_turn, made_entries, left_by, left_by_access, under_control, turn_at, turn}
use Rattle.vi_sound.proofs.Values.Owns.{places_have_ids}
use Rattle.vi_backend.specs.declared.wish.Done.{Done}
use Rattle.vi_backend.specs.Own.{Own, IsOwn, IsBackOf}
use Rattle.vi_backend.specs.Wishes.{own_wish}
use Rattle.vi_backend.specs.Laws.{WishesAgree}
use Rattle.vi_control.specs.Value.{ControlValue, entry_with}
use Rattle.vi_core.specs.declared.turned.Turned.{Turned}
use Rattle.vi_core.specs.declared.turned.Turned.TheVariants.{Moved, Waiting}
use Rattle.vi_core.specs.Turning.{turned_of}
use Rattle.vi_core.specs.Histories.{HistoryValue, pushed}
use Rattle.vi_core.specs.BackTurns.{converse_of, Conversed, IsBacksTurn, Reached, IsBacksAccess}
use Rattle.vi_core.specs.Parts.{Parts, world_of, no_back, IsBackAt, IsKept}
use Rattle.vi_core.specs.Moves.{HasMoved}
use Rattle.vi_core.proofs.Moving.{many_backs, quiet_leaves, moved, unmoved, entry_room, pushed_room, true_false, stays_turn}

-- the back end at a place
abbrev back_of : Parts → ℕ → Own
back_of p place = get_or p.backs place no_back

pub seat_is : (p : Parts) (place : ℕ) → seat_of (world_of p) place ≡ (back_of p place).seat
seat_is p place = get_or-map (λ (x : Own). x.seat) p.backs place no_back

-- its place is that of its id
pub place_is : (p : Parts) (place : ℕ) → IsKept p → place < place_count p.script → place_of p.script (back_of p place).id ≡ place
place_is p place kept lt =
    ap (place_of p.script) (let at : IsBackAt p.script place (back_of p place) = kept.backs place lt in at.back.endpoint) ∙ places_have_ids p.script place kept.playable lt

-- the page that its turn accesses is the one that it wishes to
accessed_is : (s : ScriptValue) (w : World) (id place : ℕ) → place_of s id ≡ place → place < place_count s
    → accessed_page s (who.Back id) (actor_of s w (who.Back id)) ≡ wished_page (wish s place (seat_of w place))
unfolding accessed_page
accessed_is s w id place e lt =
    ap (λ k. cond (nat_lt k (place_count s)) (wished_page (wish s k (seat_of w k))) None) e
    ∙ ap (λ b. cond b (wished_page (wish s place (seat_of w place))) None) (lt-ltb place (place_count s) lt)

exchanged_quiet : (place : ℕ) (idle : model.Turned) (c : Control) (a : Actor) (m : Exchange) → (exchanged place idle c a m).entry ≡ None
exchanged_quiet place idle c a m = go m.moved
  where
    go : (b : Bool) → (let t : ControlTurn = cond b (record { control = with_link c place m.link; actor = back_actor m.seat; entry = None; turned = model.Moved }) (model.stays idle c a) in t.entry) ≡ None
    go true = refl
    go false = refl

wished_quiet : (s : ScriptValue) (place : ℕ) (c : Control) (a : Actor) (h : Wish) → (wished s place c a h).entry ≡ None
wished_quiet s place c a (Accesses l x) = refl
wished_quiet s place c a (Asks m) = exchanged_quiet place model.Waiting c a _
wished_quiet s place c a (Receives tests) = exchanged_quiet place model.Waiting c a _
wished_quiet s place c a Rests = exchanged_quiet place model.Rest c a _

control_is : (s : ScriptValue) (w : World) (id place : ℕ) → place_of s id ≡ place → place < place_count s
    → control_turn s (who.Back id) w.control (actor_of s w (who.Back id)) ≡ converse_of s w.control place (seat_of w place)
unfolding control_turn
control_is s w id place e lt =
    ap (λ k. let t : ControlTurn = cond (nat_lt k (place_count s)) (converse_of s w.control k (seat_of w k)) (model.stays model.Waiting w.control (back_actor (seat_of w k))) in t) e
    ∙ ap (λ b. let t : ControlTurn = cond b (converse_of s w.control place (seat_of w place)) (model.stays model.Waiting w.control (back_actor (seat_of w place))) in t) (lt-ltb place (place_count s) lt)

-- its turn, where it is no access
back_turn_is : (s : ScriptValue) (w : World) (id place : ℕ) → place_of s id ≡ place → place < place_count s → wished_page (wish s place (seat_of w place)) ≡ None
    → turn s w (who.Back id) ≡ under_control s w (who.Back id) (converse_of s w.control place (seat_of w place))
unfolding turn
back_turn_is s w id place e lt none =
    ap (turn_at s w (who.Back id)) (accessed_is s w id place e lt ∙ none) ∙ ap (under_control s w (who.Back id)) (control_is s w id place e lt)

-- a back end in the place of another that differs in its seat alone
same_back : (s : ScriptValue) (place : ℕ) (b c : Own) (z : Seat) → IsBackOf s place b → c ≡ record b { seat = z } → IsBackOf s place c
same_back s place b c z k e = subst (IsBackOf s place) (sym e) (record { endpoint = k.endpoint; own_lines = k.own_lines; own_awaited = k.own_awaited; own_capacity = k.own_capacity })

set_backs : (s : ScriptValue) (bs : List Own) (n : ℕ) (b : Own) → ((place : ℕ) → place < place_count s → IsBackAt s place (get_or bs place no_back)) → n < length bs → IsBackAt s n b
    → (place : ℕ) → place < place_count s → IsBackAt s place (get_or (set bs n b) place no_back)
set_backs s bs n b all lt new place below = go (nat_eq place n) refl
  where
    go : (f : Bool) → nat_eq place n ≡ f → IsBackAt s place (get_or (set bs n b) place no_back)
    go true e = subst (λ k. IsBackAt s k (get_or (set bs n b) k no_back)) (sym (eqb-true place n e)) (subst (IsBackAt s n) (sym (get_or-set_same bs n b no_back lt)) new)
    go false e = subst (IsBackAt s place) (sym (get_or-set_other bs n place b no_back (λ same. true_false (sym (eq-eqb place n same) ∙ e)))) (all place below)

set_seats : (bs : List Own) (place : ℕ) (b : Own) (z : Seat) → b.seat ≡ z → map (λ (x : Own). x.seat) (set bs place b) ≡ set (map (λ (x : Own). x.seat) bs) place z
set_seats bs place b z e = map-set (λ (x : Own). x.seat) bs place b ∙ ap (set (map (λ (x : Own). x.seat) bs) place) e

-- a turn under control
pub converse_moves : (p : Parts) (place : ℕ) (c : ControlValue) (b : Own) (t : Turned) → WishesAgree → IsKept p → place < place_count p.script
    → wished_page (own_wish (get_or p.backs place no_back)) ≡ None → IsBacksTurn place p.control c (get_or p.backs place no_back) b t → IsOwn b
    → c.plan ≡ (let old : ControlValue = p.control in old.plan)
    → HasMoved (who.Back (let x : Own = get_or p.backs place no_back in x.id)) p (record p { control = c; backs = set p.backs place b }) t
converse_moves p place c b t agree kept lt none turns own plan =
    moved p (who.Back id) t c p.drivers (set p.backs place b) p.pages p.history kept plan kept.drivers
    (set_backs p.script p.backs place b kept.backs there (record { back = same_back p.script place b0 b _ at.back x.back; own = own }))
    kept.room world turned_is
  where
    b0 : Own
    b0 = get_or p.backs place no_back

    id : ℕ
    id = b0.id

    at : IsBackAt p.script place b0
    at = kept.backs place lt

    there : place < length p.backs
    there = let e = many_backs p kept in omega (arith, e, lt)

    placed : place_of p.script id ≡ place
    placed = place_is p place kept lt

    x : Conversed (converse_of p.script (let v : ControlValue = p.control in v.state) place b0.seat) p.control c b0 b t
    x = turns p.script (sym kept.plan) at.back

    quiet : wished_page (wish p.script place (seat_of (world_of p) place)) ≡ None
    quiet = ap (λ z. wished_page (wish p.script place z)) (seat_is p place) ∙ ap wished_page (sym (agree p.script place b0 at.own at.back)) ∙ none

    same : converse_of p.script (let v : ControlValue = p.control in v.state) place b0.seat ≡ converse_of p.script (let v : ControlValue = p.control in v.state) place (seat_of (world_of p) place)
    same = ap (converse_of p.script (let v : ControlValue = p.control in v.state) place) (sym (seat_is p place))

    turn_is : turn p.script (world_of p) (who.Back id) ≡ under_control p.script (world_of p) (who.Back id) (converse_of p.script (let v : ControlValue = p.control in v.state) place b0.seat)
    turn_is = back_turn_is p.script (world_of p) id place placed lt quiet ∙ ap (under_control p.script (world_of p) (who.Back id)) (sym same)

    world : world_of (record p { control = c; backs = set p.backs place b }) ≡ (turn p.script (world_of p) (who.Back id)).world
    world =
        ap₂ (λ st zs. let y : World = record (world_of p) { control = st; seats = zs } in y) (ap (λ (v : ControlValue). v.state) x.control)
        (set_seats p.backs place b _ (ap (λ (y : Own). y.seat) x.back)
        ∙ ap (λ k. set (map (λ (y : Own). y.seat) p.backs) k (seat_in (let y : ControlTurn = converse_of p.script (let v : ControlValue = p.control in v.state) place b0.seat in y.actor))) (sym placed))
        ∙ sym (quiet_leaves p.script (world_of p) (who.Back id) (converse_of p.script (let v : ControlValue = p.control in v.state) place b0.seat) (wished_quiet _ _ _ _ _))
        ∙ ap (λ (y : Turn). y.world) (sym turn_is)

    turned_is : turned_of t ≡ (turn p.script (world_of p) (who.Back id)).turned
    turned_is = x.turned_is ∙ ap (λ (y : Turn). y.turned) (sym turn_is)

-- an access
access_turn_is : (s : ScriptValue) (w : World) (id place page : ℕ) (z : Seat) → place_of s id ≡ place → place < place_count s → seat_of w place ≡ z → wished_page (wish s place z) ≡ Some page
    → turn s w (who.Back id) ≡ record { world = left_by_access s w (who.Back id) page (access_turn s (who.Back id) (back_actor z) (get_or w.pages page [])); turned = model.Moved }
unfolding turn
access_turn_is s w id place page z e lt seat wishes =
    ap (turn_at s w (who.Back id)) (accessed_is s w id place e lt ∙ ap (λ y. wished_page (wish s place y)) seat ∙ wishes)
    ∙ ap (λ y. let r : Turn = record { world = left_by_access s w (who.Back id) page (access_turn s (who.Back id) (back_actor y) (get_or w.pages page [])); turned = model.Moved } in r) (ap (seat_of w) e ∙ seat)

-- what is known of an access
record IsReached (p : Parts) (place page : ℕ) (bytes : List ℕ) (b : Own) (done : Done) : Type 0 where
  reached : Reached (access_turn p.script (who.Back (let x : Own = get_or p.backs place no_back in x.id)) (back_actor (let x : Own = get_or p.backs place no_back in x.seat)) (get_or p.pages page [])) (get_or p.pages page []) bytes (get_or p.backs place no_back) b done
  placed : place_of p.script (let x : Own = get_or p.backs place no_back in x.id) ≡ place
  turn_is : turn p.script (world_of p) (who.Back (let x : Own = get_or p.backs place no_back in x.id))
      ≡ record {
        world = left_by_access p.script (world_of p) (who.Back (let x : Own = get_or p.backs place no_back in x.id)) page (access_turn p.script (who.Back (let x : Own = get_or p.backs place no_back in x.id)) (back_actor (let x : Own = get_or p.backs place no_back in x.seat)) (get_or p.pages page []));
        turned = model.Moved;
      }

is_reached : (p : Parts) (place page : ℕ) (bytes : List ℕ) (b : Own) (done : Done) → WishesAgree → IsKept p → place < place_count p.script
    → wished_page (own_wish (get_or p.backs place no_back)) ≡ Some page → IsBacksAccess (get_or p.pages page []) bytes (get_or p.backs place no_back) b done → IsReached p place page bytes b done
is_reached p place page bytes b done agree kept lt wishes access = record {
  reached = access p.script (subst (λ k. IsBackOf p.script k b0) (sym placed) at.back);
  placed = placed;
  turn_is = access_turn_is p.script (world_of p) b0.id place page b0.seat placed lt (seat_is p place) (ap wished_page (sym (agree p.script place b0 at.own at.back)) ∙ wishes);
}
  where
    b0 : Own
    b0 = get_or p.backs place no_back

    at : IsBackAt p.script place b0
    at = kept.backs place lt

    placed : place_of p.script b0.id ≡ place
    placed = place_is p place kept lt

-- the entry of an access
abbrev pub entry_of_done : List ℕ → Done → Entry
entry_of_done bytes done = entry_with (take done.len (drop done.from bytes)) done.mark

pub reach_room : (p : Parts) (place page : ℕ) (bytes : List ℕ) (b : Own) (done : Done) → WishesAgree → IsKept p → place < place_count p.script
    → wished_page (own_wish (get_or p.backs place no_back)) ≡ Some page → IsBacksAccess (get_or p.pages page []) bytes (get_or p.backs place no_back) b done
    → take done.len (drop done.from bytes) ≡ take done.len (drop done.from (get_or p.pages page []))
    → (1 ≤ (let h : HistoryValue = p.history in h.spare_entries)) × (length (take done.len (drop done.from bytes)) ≤ (let h : HistoryValue = p.history in h.spare_bytes))
reach_room p place page bytes b done agree kept lt wishes access stays =
    let k = is_reached p place page bytes b done agree kept lt wishes access in
    let h : HistoryValue = p.history in
    entry_room p (who.Back (let x : Own = get_or p.backs place no_back in x.id)) (entry_of_done bytes done) kept
    (ap (λ (x : Turn). let w : World = x.world in w.history) k.turn_is
    ∙ ap (λ o. h.entries ++ made_entries o) (k.reached.entry ∙ ap (λ y. Some (entry_with y done.mark)) (sym stays)))

pub reach_moves : (p : Parts) (place page : ℕ) (bytes : List ℕ) (b : Own) (done : Done) → WishesAgree → IsKept p → place < place_count p.script
    → wished_page (own_wish (get_or p.backs place no_back)) ≡ Some page → IsBacksAccess (get_or p.pages page []) bytes (get_or p.backs place no_back) b done
    → take done.len (drop done.from bytes) ≡ take done.len (drop done.from (get_or p.pages page [])) → IsOwn b
    → HasMoved (who.Back (let x : Own = get_or p.backs place no_back in x.id)) p
    (record p { backs = set p.backs place b; pages = set p.pages page bytes; history = pushed (entry_of_done bytes done) p.history }) Moved
reach_moves p place page bytes b done agree kept lt wishes access stays own =
    moved p (who.Back b0.id) Moved p.control p.drivers (set p.backs place b) (set p.pages page bytes) (pushed (entry_of_done bytes done) p.history) kept refl kept.drivers
    (set_backs p.script p.backs place b kept.backs there (record { back = same_back p.script place b0 b _ at.back k.reached.back; own = own }))
    (pushed_room p.script p.history (entry_of_done bytes done) kept.room f.0 f.1)
    world
    (ap (λ (x : Turn). x.turned) (sym k.turn_is))
  where
    b0 : Own
    b0 = get_or p.backs place no_back

    at : IsBackAt p.script place b0
    at = kept.backs place lt

    there : place < length p.backs
    there = let e = many_backs p kept in omega (arith, e, lt)

    k : IsReached p place page bytes b done
    k = is_reached p place page bytes b done agree kept lt wishes access

    f : (1 ≤ (let h : HistoryValue = p.history in h.spare_entries)) × (length (take done.len (drop done.from bytes)) ≤ (let h : HistoryValue = p.history in h.spare_bytes))
    f = reach_room p place page bytes b done agree kept lt wishes access stays

    entries : List Entry
    entries = let h : HistoryValue = p.history in h.entries

    turn_of : AccessTurn
    turn_of = access_turn p.script (who.Back b0.id) (back_actor b0.seat) (get_or p.pages page [])

    world : world_of (record p { backs = set p.backs place b; pages = set p.pages page bytes; history = pushed (entry_of_done bytes done) p.history }) ≡ (turn p.script (world_of p) (who.Back b0.id)).world
    world =
        ap₂ (λ zs ps. let y : World = record (world_of p) { seats = zs; pages = ps; history = entries ++ entry_of_done bytes done ∷ [] } in y)
        (set_seats p.backs place b _ (ap (λ (y : Own). y.seat) k.reached.back) ∙ ap (λ n. set (map (λ (y : Own). y.seat) p.backs) n (seat_in turn_of.actor)) (sym k.placed))
        (ap (set p.pages page) k.reached.page)
        ∙ ap (λ o. let y : World = record (world_of p) { seats = set (map (λ (y : Own). y.seat) p.backs) (place_of p.script b0.id) (seat_in turn_of.actor); pages = set p.pages page turn_of.page; history = entries ++ made_entries o } in y)
        (sym (k.reached.entry ∙ ap (λ y. Some (entry_with y done.mark)) (sym stays)))
        ∙ ap (λ (x : Turn). x.world) (sym k.turn_is)

-- the access that a wished page is of
pub page_wished : (h : Wish) (page : ℕ) → wished_page h ≡ Some page → (l : Lease) × (a : Access) × (h ≡ Accesses l a) × (target_of l a ≡ page)
page_wished (Accesses l a) page e = (l, a, refl, cc)
page_wished (Asks m) page e = absurd cc
page_wished (Receives tests) page e = absurd cc
page_wished Rests page e = absurd cc

-- the back ends' ids are the endpoints' in order
pub ids_are : (p : Parts) → IsKept p → map (λ (b : Own). b.id) p.backs ≡ ids_of p.script
ids_are p kept =
    ext_get_or 0 (map (λ (b : Own). b.id) p.backs) (ids_of p.script) (length-map p.backs (λ (b : Own). b.id) ∙ many_backs p kept)
    (λ place lt. get_or-map (λ (b : Own). b.id) p.backs place no_back ∙ (let at : IsBackAt p.script place (back_of p place) = kept.backs place (let e = length-map p.backs (λ (b : Own). b.id) in let m = many_backs p kept in omega (arith, e, m, lt)) in at.back.endpoint))

-- where a back end has the id, the first is at the id's place
pub found_back : (p : Parts) (id place : ℕ) → IsKept p → position (λ (b : Own). nat_eq b.id id) p.backs ≡ Some place → (place < place_count p.script) × ((let b : Own = get_or p.backs place no_back in b.id) ≡ id)
found_back p id place kept e =
    let f = position-Some (λ (b : Own). nat_eq b.id id) p.backs place no_back e in
    let m = many_backs p kept in
    (omega (arith, f.0, m), eqb-true _ _ f.1)

-- its place is the first at which a back end has it, or their number
placed_len : (bs : List Own) (id : ℕ) → place_in (map (λ (b : Own). b.id) bs) id ≡ position_or_len (λ (b : Own). nat_eq b.id id) bs
placed_len [] id = refl
placed_len (b ∷ bs) id = go (nat_eq b.id id) (placed_len bs id)
  where
    go : (f : Bool) → place_in (map (λ (x : Own). x.id) bs) id ≡ position_or_len (λ (x : Own). nat_eq x.id id) bs
        → cond f zero (suc (place_in (map (λ (x : Own). x.id) bs) id)) ≡ cond (not f) (1 + position_or_len (λ (x : Own). nat_eq x.id id) bs) zero
    go true ih = refl
    go false ih = omega (arith, ih)

none_below : (n m : ℕ) → cond (nat_lt n m) (Some n) None ≡ None → nat_lt n m ≡ false
none_below n m e = go (nat_lt n m) refl e
  where
    go : (b : Bool) → nat_lt n m ≡ b → cond b (Some n) None ≡ None → b ≡ false
    go true is none = absurd cc
    go false is none = refl

waits_turn : (s : ScriptValue) (w : World) (id : ℕ) → nat_lt (place_of s id) (place_count s) ≡ false → turn s w (who.Back id) ≡ record { world = w; turned = model.Waiting }
unfolding turn accessed_page control_turn
waits_turn s w id e =
    ap (λ b. turn_at s w (who.Back id) (cond b (wished_page (wish s (place_of s id) (seat_of w (place_of s id)))) None)) e
    ∙ ap (λ b. under_control s w (who.Back id) (let t : ControlTurn = cond b (converse_of s w.control (place_of s id) (seat_of w (place_of s id))) (model.stays model.Waiting w.control (actor_of s w (who.Back id))) in t)) e
    ∙ stays_turn s w (who.Back id) model.Waiting

-- where none has the id, the turn waits
pub no_back_waits : (p : Parts) (id : ℕ) → IsKept p → position (λ (b : Own). nat_eq b.id id) p.backs ≡ None → HasMoved (who.Back id) p p Waiting
no_back_waits p id kept e =
    unmoved p (who.Back id) Waiting model.Waiting kept refl (waits_turn p.script (world_of p) id
    (ap₂ nat_lt (ap (λ ids. place_in ids id) (sym (ids_are p kept)) ∙ placed_len p.backs id) (sym (many_backs p kept)) ∙ none_below _ _ e))
