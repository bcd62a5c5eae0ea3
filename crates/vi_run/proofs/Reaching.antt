-- A back end's access of a page, on the shared object.
use Rattle.std.proofs.Common.{◌≡◌, ℕ, ◌+◌, ◌<◌, ◌≤◌, true, List, [], ◌∷◌, ◌++◌, length, take, drop, get_or, Option, Some, None, refl, sym, ap, ap₂, subst, ◌∙◌, inr, arith}
use Rattle.std.specs.Prelude.{nat_le}
use Rattle.std.proofs.lemmas.Bool.{eq-eqb, and_parts, leb-true}
use Rattle.std.proofs.lemmas.List.{length-set, length-replicate}
use Rattle.vi_bytes.specs.declared.lease.Need.TheVariants.{Write}
use Rattle.vi_history.specs.Device.{One}
use Rattle.vi_history.specs.Histories.{after}
use Rattle.vi_log.specs.Logs.{Ticketed}
use Rattle.vi_history.specs.Replies.{memory_after_write, next}
use Rattle.vi_history.specs.Start.{zero_page, start}
use Rattle.vi_history.specs.Translation.{translate}
use Rattle.vi_history.specs.declared.call.Call.{Call}
use Rattle.vi_history.specs.declared.call.Call.TheVariants as call
use Rattle.vi_history.specs.declared.entry.Entry.{Entry}
use Rattle.vi_history.specs.declared.found.Found.{Found}
use Rattle.vi_history.specs.declared.found.Found.TheVariants.{At, Fault}
use Rattle.vi_history.specs.declared.setup.Setup.{Setup}
use Rattle.vi_lines.specs.declared.line.Who.{Who}
use Rattle.vi_lines.specs.declared.line.Who.TheVariants as who
use Rattle.vi_lines.specs.Value.{ScriptValue}
use Rattle.vi_model.specs.Places.{place_count, place_of}
use Rattle.vi_model.specs.Playable.{IsPlayable}
use Rattle.vi_model.specs.Backs.{Seat, Wish, Accesses, Asks, Receives, Rests, wish, target_of}
use Rattle.vi_model.specs.Actors.{Actor, seat_in, back_actor}
use Rattle.vi_model.specs.Sound.{IsSound}
use Rattle.vi_model.specs.Worlds.{World, actor_of}
use Rattle.vi_model.specs.Turns.{AccessTurn, wished_page, wished_access, accessed_page, is_page, accesses, access_turn, made_entries, left_by_access}
use Rattle.vi_sound.proofs.Laws.{accesses_keep_sound}
use Rattle.vi_backend.specs.declared.wish.Done.{Done}
use Rattle.vi_backend.specs.declared.wish.Wish.TheVariants as shows
use Rattle.vi_backend.specs.Own.{Own, IsOwn, IsBackOf}
use Rattle.vi_backend.specs.Wishes.{own_wish, shown, IsAccess}
use Rattle.vi_backend.proofs.Agreeing.{wishes_agree}
use Rattle.vi_control.specs.Value.{entry_with}
use Rattle.vi_core.specs.BackTurns.{IsBacksAccess, Reached}
use Rattle.vi_core.specs.declared.turned.Turned.TheVariants.{Moved}
use Rattle.vi_core.proofs.MovingBacks.{page_wished}
use Rattle.vi_core.proofs.Needs.{wishes_access}
use Rattle.vi_sound.proofs.Space.PageRoom.{page_room}
use Rattle.vi_turns.specs.Holding.{ThePage}
use Rattle.vi_turns.specs.Views.{access_by, accesses_by, accesses_of, access_of, logged, won_page, stamped, gave_back}
use Rattle.vi_turns.specs.Order.{IsSoundAt, IsPlaced}
use Rattle.vi_turns.specs.Passes.{PassValue, IsDue, IsSamePass}
use Rattle.vi_turns.specs.declared.view.View.{View}
use Rattle.vi_turns.proofs.Getting.{get_default}
use Rattle.vi_run.specs.declared.ran.Ran.TheVariants as ran
use Rattle.vi_run.specs.Actors.{IsIdle, IsBack}
use Rattle.vi_run.specs.Taking.{wished_of, by_access}
use Rattle.vi_run.specs.Turns.{back_with, HasTurned}
use Rattle.vi_run.proofs.LogRoom.{FindsRoom, entry_fits, room_left}
use Rattle.vi_run.proofs.Won.{wished_is, IsLater, later_idle}
use Rattle.vi_run.proofs.Conversing.{seat_here, back_wishes, same_back}

-- ---- the page of a wish is one of the memory

-- the memory of a sound world has the script's number of pages
written_memory : (memory : List (List ℕ)) (bytes : List ℕ) (f : Found) → length (memory_after_write memory bytes f) ≡ length memory
written_memory memory bytes (At target) = length-set memory _ _
written_memory memory bytes (Fault reason) = refl

next_memory : (one : One) (c : Call) → length (next one c).memory ≡ length one.memory
unfolding next
next_memory one (call.Ask request) = refl
next_memory one (call.Raw read write) = refl
next_memory one (call.Bypass on) = refl
next_memory one (call.Read endpoint part) = refl
next_memory one (call.Write endpoint part bytes) = written_memory one.memory bytes (translate one.dev endpoint part.iova Write)

after_memory : (one : One) (calls : List Call) → length (after one calls).memory ≡ length one.memory
after_memory one [] = refl
after_memory one (c ∷ cs) = after_memory (next one c) cs ∙ next_memory one c

start_memory : (setup : Setup) → length (start setup).memory ≡ setup.memory
unfolding start
start_memory setup = length-replicate setup.memory zero_page

memory_is : (s : ScriptValue) (w : World) → IsSound s w → length w.pages ≡ s.setup.memory
unfolding IsSound
memory_is s w ok = sym (ap (λ (one : One). length one.memory) ok.told.one) ∙ after_memory (start s.setup) ok.told.calls ∙ start_memory s.setup

pub page_inside : (p : PassValue) (place page : ℕ) (b : Own) → IsIdle (back_with p b) → IsBack (back_with p b) place b → wished_of p.view ≡ Some page → page < p.view.script.setup.memory
page_inside p place page b idle plays wishes =
    let s : ScriptValue = p.view.script in
    let w : World = idle.placed.world in
    let f = page_wished (wish s place b.seat) page (sym (back_wishes p place b idle plays) ∙ wishes) in
    let inside = page_room s w place f.0 f.1 idle.placed.placed.playable idle.placed.placed.sound plays.below (ap (wish s place) (sym (seat_here p place b w idle.placed.placed idle plays)) ∙ f.2) in
    let size = memory_is s w idle.placed.placed.sound in
    omega (arith, inside, size, f.3)

-- which has at most 16384 pages
pub memory_few : (s : ScriptValue) → IsPlayable s → s.setup.memory ≤ 16384
memory_few s play = leb-true s.setup.memory 16384 (and_parts (nat_le 1 s.setup.memory) (nat_le s.setup.memory 16384) play.valid.setup_valid.memory_fits).1

-- ---- what a back end wishes, as it is told

-- its own wish accesses the page that its turn accesses
own_wished : (p : PassValue) (place : ℕ) (b : Own) → IsIdle (back_with p b) → IsBack (back_with p b) place b → wished_of p.view ≡ wished_page (own_wish b)
own_wished p place b idle plays = back_wishes p place b idle plays ∙ ap wished_page (sym (wishes_agree p.view.script place b plays.own plays.back))

pub reach_wish : (p : PassValue) (place page : ℕ) (b : Own) → IsIdle (back_with p b) → IsBack (back_with p b) place b → wished_of p.view ≡ Some page → IsAccess (shown (own_wish b))
reach_wish p place page b idle plays wishes = wishes_access (own_wish b) page (sym (own_wished p place b idle plays) ∙ wishes)

shown_access : (h : Wish) (page : ℕ) → shown h ≡ shows.Access page → wished_page h ≡ Some page
shown_access (Accesses l a) page e = cc
shown_access (Asks m) page e = absurd (cc)
shown_access (Receives tests) page e = absurd (cc)
shown_access Rests page e = absurd (cc)

pub told_access : (p : PassValue) (place page : ℕ) (b : Own) → IsIdle (back_with p b) → IsBack (back_with p b) place b → shown (own_wish b) ≡ shows.Access page → wished_of p.view ≡ Some page
told_access p place page b idle plays is = own_wished p place b idle plays ∙ shown_access (own_wish b) page is

shown_other : (h : Wish) → ((page : ℕ) → shown h ≡ shows.Access page → ⊥) → wished_page h ≡ None
shown_other (Accesses l a) other = absurd (other (target_of l a) refl)
shown_other (Asks m) other = refl
shown_other (Receives tests) other = refl
shown_other Rests other = refl

pub told_other : (p : PassValue) (place : ℕ) (b : Own) → IsIdle (back_with p b) → IsBack (back_with p b) place b → ((page : ℕ) → shown (own_wish b) ≡ shows.Access page → ⊥) → wished_of p.view ≡ None
told_other p place b idle plays other = own_wished p place b idle plays ∙ shown_other (own_wish b) other

-- ---- the access

-- the actor after an access is that of its seat
access_seated : (s : ScriptValue) (place : ℕ) (z : Seat) (bytes : List ℕ) (h : Wish)
    → (wished_access s place (back_actor z) bytes h).actor ≡ back_actor (seat_in (wished_access s place (back_actor z) bytes h).actor)
access_seated s place z bytes (Accesses l a) = refl
access_seated s place z bytes (Asks m) = refl
access_seated s place z bytes (Receives tests) = refl
access_seated s place z bytes Rests = refl

turn_seated : (s : ScriptValue) (id : ℕ) (z : Seat) (bytes : List ℕ)
    → (access_turn s (who.Back id) (back_actor z) bytes).actor ≡ back_actor (seat_in (access_turn s (who.Back id) (back_actor z) bytes).actor)
unfolding access_turn
turn_seated s id z bytes = access_seated s (place_of s id) z bytes (wish s (place_of s id) z)

-- what is known of an access of the page with the bytes old
pub record Reaches (p : PassValue) (place page : ℕ) (b : Own) (old new : List ℕ) (then : Own) (done : Done) : Type 0 where
  pub idle : IsIdle (back_with p b)
  pub plays : IsBack (back_with p b) place b
  pub wishes : wished_of p.view ≡ Some page
  pub at : IsSoundAt p.view (ThePage page old)
  pub turn : IsBacksAccess old new b then done
  pub own : IsOwn then
  pub stays : take done.len (drop done.from new) ≡ take done.len (drop done.from old)

-- and of the pass once it stamped the entry of these bytes
pub record Stamped (p m : PassValue) (page : ℕ) (old text new : List ℕ) (done : Done) (ticket : ℕ) : Type 0 where
  pub read : text ≡ take done.len (drop done.from new)
  pub seen : p.view.seen ≤ ticket
  pub view_is : m.view ≡ stamped (won_page p.view page old) ticket
  pub entries : m.spare_entries + 1 ≡ p.spare_entries
  pub bytes : m.spare_bytes + length text ≡ p.spare_bytes

-- so it is as the stamp left it
pub one_stamped : (p w m : PassValue) (page : ℕ) (old text new : List ℕ) (done : Done) (ticket : ℕ) → IsSamePass p w → w.view ≡ won_page p.view page old → text ≡ take done.len (drop done.from new)
    → (w.view.seen ≤ ticket) × (m.view ≡ stamped w.view ticket) → (m.spare_entries + 1 ≡ w.spare_entries) × (m.spare_bytes + length text ≡ w.spare_bytes) → Stamped p m page old text new done ticket
one_stamped p w m page old text new done ticket same won read drew room = record {
  read = read;
  seen = subst (λ (v : View). v.seen ≤ ticket) won drew.0;
  view_is = drew.1 ∙ ap (λ (v : View). stamped v ticket) won;
  entries = room.0 ∙ same.entries;
  bytes = room.1 ∙ same.bytes;
}

module _ (p : PassValue) (place page : ℕ) (b : Own) (old new : List ℕ) (then : Own) (done : Done) (k : Reaches p place page b old new then done) where
  by_actor : access_of p.view old ≡ access_turn p.view.script (who.Back b.id) p.view.actor old
  by_actor = ap (λ (o : Option Who). access_by p.view.script o p.view.actor old) k.idle.acts

  access_is : access_of p.view old ≡ access_turn p.view.script (who.Back b.id) (back_actor b.seat) old
  access_is = by_actor ∙ ap (λ (a : Actor). access_turn p.view.script (who.Back b.id) a old) k.plays.actor

  reached : Reached (access_turn p.view.script (who.Back b.id) (back_actor b.seat) old) old new b then done
  reached = k.turn p.view.script (subst (λ (n : ℕ). IsBackOf p.view.script n b) (sym k.plays.place_is) k.plays.back)

  -- its entry has the bytes that are read from the page as it is now
  pub reach_makes : (bytes : List ℕ) → bytes ≡ take done.len (drop done.from new) → (access_of p.view old).entry ≡ Some (entry_with bytes done.mark)
  reach_makes bytes read =
      ap (λ (x : AccessTurn). x.entry) access_is ∙ reached.entry ∙ ap (λ (y : List ℕ). Some (entry_with y done.mark)) (sym k.stays ∙ sym read)

  accessed : accessed_page p.view.script (who.Back b.id) p.view.actor ≡ Some page
  accessed = sym (wished_is p.view (who.Back b.id) k.idle.acts) ∙ k.wishes

  this_page : accesses p.view.script (who.Back b.id) page p.view.actor ≡ true
  this_page = ap (is_page page) accessed ∙ eq-eqb page page refl

  reach_accesses : accesses_of p.view page ≡ true
  reach_accesses = ap (λ (o : Option Who). accesses_by p.view.script o page p.view.actor) k.idle.acts ∙ this_page

  -- its entry finds room
  pub reach_room : (e : Entry) → (access_of p.view old).entry ≡ Some e → FindsRoom p e
  reach_room e makes =
      let s : ScriptValue = p.view.script in
      let a : Who = who.Back b.id in
      let w : World = k.at.world in
      let here : actor_of s w a ≡ p.view.actor = k.at.placed.actor a k.idle.acts in
      let y : World = left_by_access s w a page (access_turn s a (actor_of s w a) (get_or w.pages page [])) in
      let same : access_turn s a (actor_of s w a) (get_or w.pages page []) ≡ access_of p.view old = ap₂ (access_turn s a) here (get_default w.pages page old [] k.at.has) ∙ sym by_actor in
      entry_fits (back_with p b) w y e k.at.placed
      (accesses_keep_sound s w a page k.at.placed.playable k.at.placed.sound (ap (accesses s a page) here ∙ this_page))
      (ap (λ (o : Option Entry). w.history ++ made_entries o) (ap (λ (x : AccessTurn). x.entry) same ∙ makes)) k.plays.room

  pub reach_due : (u : View) (e : Entry) → u ≡ won_page p.view page old → (access_of p.view old).entry ≡ Some e → IsDue u e
  reach_due u e is makes =
      subst (λ (z : View). IsDue z e) (sym is) (inr (record { page = page; bytes = old; holds = refl; accesses = reach_accesses; entry = makes }))

  -- once the page is given back, it was the back end's access
  pub reach_turned : (m q : PassValue) (bytes : List ℕ) (ticket : ℕ) → Stamped p m page old bytes new done ticket → q.view ≡ gave_back m.view → IsPlaced q.view
      → HasTurned (who.Back b.id) p q (ran.Turned Moved)
  reach_turned m q bytes ticket st is placed =
      let all : q.view ≡ gave_back (stamped (won_page p.view page old) ticket) = is ∙ ap gave_back st.view_is in
      record {
        idle = later_idle p q (who.Back b.id) k.idle (subst (IsLater p.view) (sym all) (record { script = refl; number = refl; empty = refl; taken = refl })) placed;
        number = ap (λ (z : View). z.number) all;
        ran = by_access page old (entry_with bytes done.mark) ticket k.wishes refl (reach_makes bytes st.read) st.seen all;
      }

  pub reach_plays : (m q : PassValue) (bytes : List ℕ) (ticket : ℕ) → Stamped p m page old bytes new done ticket → IsSamePass m q
      → q.view ≡ gave_back m.view → IsBack (back_with q then) place then
  reach_plays m q bytes ticket st keeps is =
      let all : q.view ≡ gave_back (stamped (won_page p.view page old) ticket) = is ∙ ap gave_back st.view_is in
      let script : q.view.script ≡ p.view.script = ap (λ (z : View). z.script) all in
      let id : then.id ≡ b.id = ap (λ (x : Own). x.id) reached.back in
      let seat : then.seat ≡ seat_in (access_turn p.view.script (who.Back b.id) (back_actor b.seat) old).actor = ap (λ (x : Own). x.seat) reached.back in
      let x : Ticketed = record { ticket = ticket; entry = entry_with bytes done.mark } in
      record {
        who_is = refl;
        place_is = ap₂ place_of script id ∙ k.plays.place_is;
        below = subst (λ (s : ScriptValue). place < place_count s) (sym script) k.plays.below;
        back = subst (λ (s : ScriptValue). IsBackOf s place then) (sym script) (same_back p.view.script place b then _ k.plays.back reached.back);
        own = k.own;
        actor = ap (λ (z : View). z.actor) all ∙ ap (λ (y : AccessTurn). y.actor) access_is ∙ turn_seated _ _ _ _ ∙ ap back_actor (sym seat);
        room = room_left (back_with p b) (back_with q then) x
            (record {
              script = script;
              log = ap (λ (z : View). z.log) all ∙ ap (λ (o : Option Entry). p.view.log ++ logged ticket o) (reach_makes bytes st.read);
              entries = ap (λ n. n + 1) keeps.entries ∙ st.entries;
              bytes = ap (λ n. n + length bytes) keeps.bytes ∙ st.bytes;
            }) k.plays.room;
      }
