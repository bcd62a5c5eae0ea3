-- A run before its first turn: what each pass begins with, and what its actor does.
use Rattle.std.proofs.Common.{◌≡◌, ◌<◌, ◌+◌, ℕ, zero, suc, List, [], ◌∷◌, ◌++◌, length, get_or, replicate, slice_get, Option, Some, refl, sym, ap, ◌∙◌, subst, arith}
use Rattle.std.specs.Prelude.{sum_by, nat_eq}
use Rattle.std.specs.List.{position}
use Rattle.vi_bytes.specs.declared.region.EndpointSetup.{EndpointSetup}
use Rattle.std.proofs.lemmas.Option.{slice_get-get_or}
use Rattle.vi_log.specs.Logs.{LogValue, Ticketed, no_entries}
use Rattle.vi_lines.specs.declared.line.Line.{Line}
use Rattle.vi_lines.specs.declared.line.Who.{Who}
use Rattle.vi_lines.specs.declared.line.Who.TheVariants as who
use Rattle.vi_lines.specs.Value.{ScriptValue}
use Rattle.vi_model.specs.Control.{driver_count}
use Rattle.vi_model.specs.Places.{id_at, place_count, place_of}
use Rattle.vi_model.specs.Drivers.{Stand, no_stand}
use Rattle.vi_model.specs.Backs.{no_seat}
use Rattle.vi_model.specs.Actors.{Actor, driver_actor, back_actor}
use Rattle.vi_model.specs.Worlds.{actor_of, opening}
use Rattle.vi_model.specs.Rounds.{actors, calls_in, calls_of}
use Rattle.vi_core.specs.HistoryRoom.{answer_bytes, bytes_of}
use Rattle.vi_model.specs.Playable.{IsPlayable}
use Rattle.vi_sound.proofs.Laws.{opening_is_sound}
use Rattle.vi_driver.specs.Drivers.{OwnDriver, own_driver}
use Rattle.vi_backend.specs.Own.{Own, IsOwn, IsBackOf}
use Rattle.vi_turns.specs.Order.{IsPlaced}
use Rattle.vi_turns.specs.Views.{who_of, first, first_actor, split_right}
use Rattle.vi_turns.specs.Passes.{PassValue, Board, log_of}
use Rattle.vi_turns.specs.declared.view.View.{View}
use Rattle.vi_run.specs.declared.role.Role.{Role}
use Rattle.vi_run.specs.declared.role.Role.TheVariants as role
use Rattle.vi_run.specs.Actors.{ActorValue, view_of, IsIdle, HasLogRoom, Plays}
use Rattle.vi_run.specs.Roles.{IsNew, IsNewDriver, IsNewBack, HasAllRoom, HasRoomFor}
use Rattle.vi_run.specs.Runs.{IsActorAt, AreActors, IsOpened}
use Rattle.vi_run.proofs.Members.{who_at, at_push, is_player, id_at_place, position_is}

-- the first pass, once so many were split from it
abbrev pub first_after : ScriptValue → ℕ → View
first_after s made = record (first s) { made = made }

-- the pass that is split from it next
abbrev pub next_view : ScriptValue → ℕ → View
next_view s made = split_right (first_after s made)

abbrev next_actor : ScriptValue → ℕ → Who → Actor
next_actor s made w = first_actor s (who_of s (made + 1))

-- ---- what actors work with

-- a driver before its first call
pub new_driver : (s : ScriptValue) (w : Who) (k number : ℕ) (d : OwnDriver) → IsPlayable s → who_of s k ≡ Some w → w ≡ who.Driver number → d ≡ own_driver s number no_stand → IsNewDriver s w d
new_driver s w k number d play is w_is own =
    let same : d.number ≡ number = ap (λ (x : OwnDriver). x.number) own in
    let below : number < driver_count = is_player s k (who.Driver number) play (is ∙ ap (λ (x : Who). Some x) w_is) in
    record {
      who_is = w_is ∙ ap (λ (n : ℕ). who.Driver n) (sym same);
      number = omega (arith, same, below);
      own = own ∙ ap (λ (n : ℕ). own_driver s n no_stand) (sym same);
    }

-- a back end before its first call
pub new_back : (s : ScriptValue) (w : Who) (k id place : ℕ) (b : Own) → IsPlayable s → who_of s k ≡ Some w → w ≡ who.Back id → place ≡ place_of s id → place < place_count s
    → IsBackOf s place b → IsOwn b → b.seat ≡ no_seat → IsNewBack s w place b
new_back s w k id place b play is w_is place_is below back own seat =
    let same : b.id ≡ id = back.endpoint ∙ (ap (id_at s) place_is ∙ id_at_place s id (is_player s k (who.Back id) play (is ∙ ap (λ (x : Who). Some x) w_is))) in
    record {
      who_is = w_is ∙ ap (λ (n : ℕ). who.Back n) (sym same);
      place_is = ap (place_of s) same ∙ sym place_is;
      below = below;
      back = back;
      own = own;
      seat = seat;
    }

calls_are : (s : ScriptValue) → sum_by (λ (l : Line). calls_in l) s.lines ≡ calls_of s
unfolding calls_of
calls_are s = refl

bytes_are : (s : ScriptValue) → sum_by (λ (l : Line). answer_bytes l.job) s.lines ≡ bytes_of s
unfolding bytes_of
bytes_are s = refl

room_for : (s : ScriptValue) (r : Role) (log : LogValue) → HasAllRoom s log → HasRoomFor s r log
room_for s (role.Driver d) log room = tt
room_for s (role.Back place b) log room = room
room_for s role.Device log room = room
room_for s (role.Events events) log room = tt

-- a log with room for as many entries, and as many bytes, as the lines can have
pub log_room : (s : ScriptValue) (r : Role) (lines : List Line) (entries bytes : ℕ) (log : LogValue) → lines ≡ s.lines → entries ≡ sum_by (λ (l : Line). calls_in l) lines
    → bytes ≡ sum_by (λ (l : Line). answer_bytes l.job) lines → log ≡ no_entries entries bytes → HasRoomFor s r log
log_room s r lines entries bytes log ls es bs is = room_for s r log (record {
  entries = ap (λ (l : LogValue). l.spare_entries) is ∙ (es ∙ (ap (sum_by (λ (l : Line). calls_in l)) ls ∙ calls_are s));
  bytes = ap (λ (l : LogValue). l.spare_bytes) is ∙ (bs ∙ (ap (sum_by (λ (l : Line). answer_bytes l.job)) ls ∙ bytes_are s));
})

-- ---- what a pass begins with

-- that pass is placed in the world in which nothing has happened
placed_first : (s : ScriptValue) (made : ℕ) → IsPlayable s → IsPlaced (next_view s made)
placed_first s made play = record {
  world = opening s;
  placed = record {
    playable = play;
    sound = opening_is_sound s play;
    actor = λ w is. ap (first_actor s) (sym is);
    log = tt;
    once = λ x. omega arith;
  };
}

-- it acts for the actor at its place, and is idle
pub begins_idle : (s : ScriptValue) (made : ℕ) (p : PassValue) (w : Who) → IsPlayable s → slice_get (actors s) made ≡ Some w → p.view ≡ next_view s made
    → IsIdle (record { pass = p; who = w })
begins_idle s made p w play at is = record {
  acts = ap (λ (v : View). who_of v.script v.number) is ∙ (who_at s made ∙ at);
  empty = ap (λ (v : View). v.held) is;
  alone = ap (λ (v : View). v.taken) is;
  placed = subst IsPlaced (sym is) (placed_first s made play);
}

-- what the actor has at first
first_is : (s : ScriptValue) (made : ℕ) (w : Who) → slice_get (actors s) made ≡ Some w → first_actor s (who_of s (made + 1)) ≡ actor_of s (opening s) w
first_is s made w at = ap (first_actor s) (who_at s made ∙ at)

same_stands : (n k : ℕ) → get_or (replicate n no_stand) k no_stand ≡ no_stand
same_stands zero k = refl
same_stands (suc n) zero = refl
same_stands (suc n) (suc k) = same_stands n k

same_seats : (n k : ℕ) → get_or (replicate n no_seat) k no_seat ≡ no_seat
same_seats zero k = refl
same_seats (suc n) zero = refl
same_seats (suc n) (suc k) = same_seats n k

driver_first : (s : ScriptValue) (number : ℕ) → actor_of s (opening s) (who.Driver number) ≡ driver_actor no_stand
unfolding opening
driver_first s number = ap driver_actor (same_stands driver_count number)

back_first : (s : ScriptValue) (id : ℕ) → actor_of s (opening s) (who.Back id) ≡ back_actor no_seat
unfolding opening
back_first s id = ap back_actor (same_seats (place_count s) (place_of s id))

-- its log has all the room that the script can need
room_first : (s : ScriptValue) (made : ℕ) (p : PassValue) (w : Who) (log : LogValue) → p.view ≡ next_view s made → log_of p ≡ log → HasAllRoom s log → HasLogRoom (record { pass = p; who = w })
room_first s made p w log is logged room =
    let a : ActorValue = record { pass = p; who = w } in
    let calls : calls_of (view_of a).script ≡ calls_of s = ap (λ (v : View). calls_of v.script) is in
    let bytes : bytes_of (view_of a).script ≡ bytes_of s = ap (λ (v : View). bytes_of v.script) is in
    let none : length (view_of a).log ≡ 0 = ap (λ (v : View). length v.log) is in
    let empty : sum_by (λ (x : Ticketed). length x.entry.bytes) (view_of a).log ≡ 0 = ap (λ (v : View). sum_by (λ (x : Ticketed). length x.entry.bytes) v.log) is in
    let entries : p.spare_entries ≡ calls_of s = ap (λ (l : LogValue). l.spare_entries) logged ∙ room.entries in
    let spare : p.spare_bytes ≡ bytes_of s = ap (λ (l : LogValue). l.spare_bytes) logged ∙ room.bytes in
    record { entries = omega (arith, none, entries, calls); bytes = omega (arith, empty, spare, bytes) }

-- with what it works with at first it can take its turns
pub begins_playing : (s : ScriptValue) (made : ℕ) (p : PassValue) (w : Who) (r : Role) (log : LogValue) → slice_get (actors s) made ≡ Some w → p.view ≡ next_view s made
    → log_of p ≡ log → IsNew s w r → HasRoomFor s r log → Plays r (record { pass = p; who = w })
begins_playing s made p w (role.Driver d) log at is logged new room = record {
  who_is = new.who_is;
  number = new.number;
  own = subst (λ (t : ScriptValue). d ≡ own_driver t d.number d.stand) (sym (ap (λ (v : View). v.script) is)) (new.own ∙ ap (λ (x : Stand). own_driver s d.number x) (sym still));
  actor = ap (λ (v : View). v.actor) is ∙ (first_is s made w at ∙ (ap (λ (x : Who). actor_of s (opening s) x) new.who_is ∙ (driver_first s d.number ∙ ap driver_actor (sym still))));
}
  where
    still : d.stand ≡ no_stand
    still = ap (λ (x : OwnDriver). x.stand) new.own
begins_playing s made p w (role.Back place b) log at is logged new room = record {
  who_is = new.who_is;
  place_is = subst (λ (t : ScriptValue). place_of t b.id ≡ place) (sym same) new.place_is;
  below = subst (λ (t : ScriptValue). place < place_count t) (sym same) new.below;
  back = subst (λ (t : ScriptValue). IsBackOf t place b) (sym same) new.back;
  own = new.own;
  actor = ap (λ (v : View). v.actor) is ∙ (first_is s made w at ∙ (ap (λ (x : Who). actor_of s (opening s) x) new.who_is ∙ (back_first s b.id ∙ ap back_actor (sym new.seat))));
  room = room_first s made p w log is logged room;
}
  where
    same : (let v : View = p.view in v.script) ≡ s
    same = ap (λ (v : View). v.script) is
begins_playing s made p w role.Device log at is logged new room = record { who_is = new; room = room_first s made p w log is logged room }
begins_playing s made p w (role.Events events) log at is logged new room = record {
  who_is = new.0;
  events_is = new.1 ∙ sym (ap (λ (v : View). v.script.setup.events) is);
}

-- ---- the actors so far

-- one actor more
pub one_more : (b : Board) (all : List ActorValue) (a : ActorValue) → AreActors b all → IsActorAt b (length all) a → AreActors b (all ++ a ∷ [])
one_more b all a actors here = at_push (IsActorAt b) all a actors here

-- the actor at a place of the round
pub actor_at : (s : ScriptValue) (round : List Who) (i : ℕ) (d : Who) → round ≡ actors s → i < length round → slice_get (actors s) i ≡ Some (get_or round i d)
actor_at s round i d e within = subst (λ (l : List Who). slice_get l i ≡ Some (get_or round i d)) e (slice_get-get_or round i d within)

-- the pass that was split next is its actor's
pub next_is : (b : Board) (s : ScriptValue) (made : ℕ) (a : ActorValue) → b.script ≡ s → a.pass.table ≡ b.table → view_of a ≡ next_view s made → IsActorAt b made a
next_is b s made a same table is = record {
  own = record { table = table; script = ap (λ (v : View). v.script) is ∙ sym same };
  number = ap (λ (v : View). v.number) is;
}

-- with a pass for each actor, the run is opened
pub opens : (b : Board) (s : ScriptValue) (p : PassValue) (all : List ActorValue) (made : ℕ) → b.script ≡ s → IsPlayable s → p.table ≡ b.table → p.view ≡ first_after s made
    → length all ≡ made → made ≡ length (actors s) → AreActors b all → IsOpened b p all
opens b s p all made same play table is count enough each = record {
  playable = subst IsPlayable (sym same) play;
  own = record { table = table; script = ap (λ (v : View). v.script) is ∙ sym same };
  number = ap (λ (v : View). v.number) is;
  empty = ap (λ (v : View). v.held) is;
  log = ap (λ (v : View). v.log) is;
  taken = ap (λ (v : View). v.taken) is;
  made = ap (λ (v : View). v.made) is ∙ sym count;
  count = count ∙ (enough ∙ ap (λ (t : ScriptValue). length (actors t)) (sym same));
  each = each;
}

-- the first endpoint with an actor's id is at its place
pub first_place : (s : ScriptValue) (es : List EndpointSetup) (k id : ℕ) (found : Option ℕ) → IsPlayable s → who_of s k ≡ Some (who.Back id) → es ≡ s.setup.endpoints
    → found ≡ position (λ (e : EndpointSetup). nat_eq e.id id) es → found ≡ Some (place_of s id)
first_place s es k id found play is all e = e ∙ (ap (λ (xs : List EndpointSetup). position (λ (x : EndpointSetup). nat_eq x.id id) xs) all ∙ position_is s id (is_player s k (who.Back id) play is))
