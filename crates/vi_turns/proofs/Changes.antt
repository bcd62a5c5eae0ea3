-- What a turn of one actor leaves of the shared values.
use Rattle.std.proofs.Common.{◌≡◌, ◌≢◌, ℕ, suc, ◌<◌, Bool, true, false, cond, List, ◌++◌, length, set, slice_get, length-set, Some, None, refl, sym, ap, subst, ◌∙◌}
use Rattle.std.specs.Prelude.{nat_lt}
use Rattle.std.proofs.lemmas.Bool.{ltb-true}
use lib.ListN.{get_elem?}
use mathlib.Core.Option.{some}
use Rattle.vi_lines.specs.declared.line.Who.{Who}
use Rattle.vi_lines.specs.declared.line.Who.TheVariants as who
use Rattle.vi_lines.specs.Value.{ScriptValue}
use Rattle.vi_model.specs.Control.{Control}
use Rattle.vi_model.specs.Places.{place_count, place_of}
use Rattle.vi_model.specs.Backs.{Wish, Accesses, Asks, Receives, Rests, wish, target_of}
use Rattle.vi_model.specs.Actors.{Actor}
use Rattle.vi_model.specs.Worlds.{World, actor_of, seat_of, with_actor}
use Rattle.vi_model.specs.Turns.{ControlTurn, AccessTurn, control_turn, accesses, accessed_page, wished_page, made_entries, left_by, left_by_access}
use Rattle.vi_model.specs.Playable.{IsPlayable}
use Rattle.vi_model.specs.Sound.{IsSound}
use Rattle.vi_sound.proofs.Laws.{control_keeps_sound}
use Rattle.vi_sound.proofs.Moves.Turns.{page_is}
use Rattle.vi_sound.proofs.Space.PageRoom.{page_room}
use Rattle.vi_turns.specs.Holding.{Held, TheControl, ThePage}
use Rattle.vi_turns.specs.Views.{who_of}
use Rattle.vi_turns.specs.Order.{slot_of, Has, HasActor, IsInOrder}
use Rattle.vi_turns.specs.declared.view.View.{View}
use Rattle.vi_turns.proofs.Actors.{Goes, goes_turn, has_turned}
use Rattle.vi_turns.proofs.Getting.{get_set_there, get_set_other}
use Rattle.vi_turns.proofs.Seats.{St, Alone, alone}

-- ---- what an actor has for itself isn't shared

kept_control : (s : ScriptValue) (a : Who) (x : Actor) (w : World) → (with_actor s a x w).control ≡ w.control
kept_control s (who.Driver number) x w = refl
kept_control s (who.Back id) x w = refl
kept_control s who.Device x w = refl
kept_control s who.Events x w = refl

kept_pages : (s : ScriptValue) (a : Who) (x : Actor) (w : World) → (with_actor s a x w).pages ≡ w.pages
kept_pages s (who.Driver number) x w = refl
kept_pages s (who.Back id) x w = refl
kept_pages s who.Device x w = refl
kept_pages s who.Events x w = refl

kept_history : (s : ScriptValue) (a : Who) (x : Actor) (w : World) → (with_actor s a x w).history ≡ w.history
kept_history s (who.Driver number) x w = refl
kept_history s (who.Back id) x w = refl
kept_history s who.Device x w = refl
kept_history s who.Events x w = refl

-- what a turn under control leaves
pub record TurnLeaves (w y : World) (t : ControlTurn) : Type 0 where
  pub control : y.control ≡ t.control
  pub pages : y.pages ≡ w.pages
  pub history : y.history ≡ w.history ++ made_entries t.entry

turn_leaves : (s : ScriptValue) (w : World) (a : Who) (t : ControlTurn) → TurnLeaves w (left_by s w a t) t
turn_leaves s w a t =
    let x : World = record w { control = t.control; history = w.history ++ made_entries t.entry } in
    record { control = kept_control s a t.actor x; pages = kept_pages s a t.actor x; history = kept_history s a t.actor x }

-- what is so of the world y, in which the actor of the pass with this number took the turn t
pub record Turned (s : ScriptValue) (w y : World) (number : ℕ) (t : ControlTurn) : Type 0 where
  pub sound : IsSound s y
  pub actor : HasActor s y number t.actor
  pub goes : Goes s w y number
  pub left : TurnLeaves w y t

-- a turn under control of the actor that the pass with this number acts for, which has a
pub turned : (s : ScriptValue) (w : World) (number : ℕ) (a : Who) (x : Actor) (t : ControlTurn) → IsPlayable s → IsSound s w → who_of s number ≡ Some a → actor_of s w a ≡ x
    → t ≡ control_turn s a w.control x → Turned s w (left_by s w a t) number t
turned s w number a x t play sound acting here is = record {
  sound = subst (λ (q : ControlTurn). IsSound s (left_by s w a q)) (ap (λ (z : Actor). control_turn s a w.control z) here ∙ sym is) (control_keeps_sound s w a play sound);
  actor = subst (λ (q : ControlTurn). HasActor s (left_by s w a q) number q.actor) (sym is) (has_turned s w number a sound acting x here);
  goes = goes_turn s w number a t play acting;
  left = turn_leaves s w a t;
}

-- what an access of a page leaves
pub record AccessLeaves (w y : World) (page : ℕ) (t : AccessTurn) : Type 0 where
  pub control : y.control ≡ w.control
  pub pages : y.pages ≡ set w.pages page t.page
  pub history : y.history ≡ w.history ++ made_entries t.entry

pub access_leaves : (s : ScriptValue) (w : World) (a : Who) (page : ℕ) (t : AccessTurn) → AccessLeaves w (left_by_access s w a page t) page t
access_leaves s w a page t =
    let x : World = record w { pages = set w.pages page t.page; history = w.history ++ made_entries t.entry } in
    record { control = kept_control s a t.actor x; pages = kept_pages s a t.actor x; history = kept_history s a t.actor x }

-- ---- one value differs

-- The world y has the value z, and its values at all other slots are those of w.
pub record Changes (w y : World) (z : Held) : Type 0 where
  pub here : Has y z
  pub others : (x : Held) → slot_of x ≢ slot_of z → Has y x → Has w x
  pub long : length y.pages ≡ length w.pages

-- another control, and the same pages
pub control_changes : (w y : World) (c : Control) → y.control ≡ c → y.pages ≡ w.pages → Changes w y (TheControl c)
control_changes w y c is same = record { here = is; others = λ x ne has. elsewhere x ne has; long = ap length same }
  where
    elsewhere : (x : Held) → slot_of x ≢ 0 → Has y x → Has w x
    elsewhere (TheControl d) ne has = absurd (ne refl)
    elsewhere (ThePage page bytes) ne has = ap (λ (ps : List (List ℕ)). slice_get ps page) (sym same) ∙ has

-- one page differs, and the control is the same
pub page_changes : (w y : World) (page : ℕ) (b c : List ℕ) → slice_get w.pages page ≡ Some b → y.control ≡ w.control → y.pages ≡ set w.pages page c → Changes w y (ThePage page c)
page_changes w y page b c at same is = record {
  here = ap (λ (ps : List (List ℕ)). slice_get ps page) is ∙ get_set_there w.pages page b c at;
  others = λ x ne has. elsewhere x ne has;
  long = ap length is ∙ length-set w.pages page c;
}
  where
    elsewhere : (x : Held) → slot_of x ≢ suc page → Has y x → Has w x
    elsewhere (TheControl d) ne has = sym same ∙ has
    elsewhere (ThePage p bytes) ne has = sym (ap (λ (ps : List (List ℕ)). slice_get ps p) is ∙ get_set_other w.pages page p c (λ e. ne (ap suc e))) ∙ has

-- nothing differs
pub nothing_changes : (w : World) (z : Held) → Has w z → Changes w w z
nothing_changes w z has = record { here = has; others = λ x ne h. h; long = refl }

-- ---- what a pass records is what the world has

-- the value that a pass records is the world's at that slot
pub recorded : (s : ScriptValue) (st : St) (r : IsInOrder s st) (id : ℕ) (v : View) (x z : Held) → get_elem? st.views id ≡ some v → v.held ≡ Some z → slot_of z ≡ slot_of x → Has r.world x
    → Has r.world z
recorded s st r id v x z at mine same has = let a : Alone st.views _ x id v z = alone s st.views _ _ x id v z at mine same (r.locks x has) in subst (Has r.world) a.value has

-- ---- an access finds its page

there_by : (s : ScriptValue) (w : World) (place page : ℕ) → IsPlayable s → IsSound s w → place < place_count s → (h : Wish) → wish s place (seat_of w place) ≡ h → wished_page h ≡ Some page
    → page < length w.pages
there_by s w place page play sound below (Accesses l a) is at = let same : target_of l a ≡ page = cc in subst (λ n. n < length w.pages) same (page_room s w place l a play sound below is)
there_by s w place page play sound below (Asks miss) is at = absurd cc
there_by s w place page play sound below (Receives tests) is at = absurd cc
there_by s w place page play sound below Rests is at = absurd cc

page_there : (s : ScriptValue) (w : World) (a : Who) (page : ℕ) → IsPlayable s → IsSound s w → accessed_page s a (actor_of s w a) ≡ Some page → page < length w.pages
unfolding accessed_page
page_there s w (who.Driver number) page play sound at = absurd cc
page_there s w (who.Back id) page play sound at = go (nat_lt (place_of s id) (place_count s)) refl at
  where
    go : (b : Bool) → nat_lt (place_of s id) (place_count s) ≡ b → cond b (wished_page (wish s (place_of s id) (seat_of w (place_of s id)))) None ≡ Some page → page < length w.pages
    go true e p = there_by s w (place_of s id) page play sound (ltb-true (place_of s id) (place_count s) e) (wish s (place_of s id) (seat_of w (place_of s id))) refl p
    go false e p = absurd cc
page_there s w who.Device page play sound at = absurd cc
page_there s w who.Events page play sound at = absurd cc

-- the page that an actor's turn accesses is one of the memory
pub access_there : (s : ScriptValue) (w : World) (a : Who) (page : ℕ) → IsPlayable s → IsSound s w → accesses s a page (actor_of s w a) ≡ true → page < length w.pages
access_there s w a page play sound may = page_there s w a page play sound (page_is page (accessed_page s a (actor_of s w a)) may)
