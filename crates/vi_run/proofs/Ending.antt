-- The end of a run: every line of every caller is finished.
use Rattle.std.proofs.Common.{◌≡◌, ◌<◌, ◌+◌, ℕ, zero, suc, Bool, true, false, List, [], ◌∷◌, length, map, slice_get, Option, Some, refl, sym, ap, ◌∙◌, subst, arith}
use Rattle.std.specs.Prelude.{All, nat_le}
use Rattle.std.specs.List.{list_all, range_with_len}
use Rattle.std.specs.Prelude.{◌==◌, fold, count_by}
use Rattle.std.proofs.lemmas.Bool.{and_from, eq-eqb, le-leb, ltb-false}
use Rattle.std.proofs.lemmas.List.Elements.{All-from_recursion, recursion_from_All, All-tail}
use Rattle.std.proofs.lemmas.List.Folds.{fold-map}
use Rattle.std.proofs.lemmas.List.Sums.{sum_by-cons}
use Rattle.std.proofs.lemmas.Option.{slice_get_within}
use Rattle.vi_log.specs.Logs.{Ticketed, LogValue, Stands, ticket_count, IsMerged}
use Rattle.vi_history.specs.declared.entry.Entry.{Entry}
use Rattle.vi_history.specs.declared.call.Caller.TheVariants.{Driver, Back}
use Rattle.vi_lines.specs.declared.line.Who.{Who}
use Rattle.vi_lines.specs.declared.line.Who.TheVariants as who
use Rattle.vi_lines.specs.Value.{ScriptValue}
use Rattle.vi_lines.specs.Calls.{lines_of}
use Rattle.vi_model.specs.Control.{driver_count}
use Rattle.vi_model.specs.Places.{place_count, id_at, back_at}
use Rattle.vi_model.specs.Asking.{one_if}
use Rattle.vi_model.specs.Held.{count_line}
use Rattle.vi_model.specs.Actors.{Actor}
use Rattle.vi_model.specs.Turns.{is_none}
use Rattle.vi_model.specs.Worlds.{World, stand_of, seat_of, actor_of}
use Rattle.vi_model.specs.Rounds.{actors, has_lines, is_finished, is_driver_finished, is_back_finished}
use Rattle.vi_model.specs.Playable.{IsPlayable}
use Rattle.vi_model.specs.Sound.{IsSound}
use Rattle.vi_sound.proofs.Values.Owns.{places_have_ids}
use Rattle.vi_control.specs.Value.{ControlValue}
use Rattle.vi_turns.specs.Ended.{of_entries, IsHistory, IsClosed}
use Rattle.vi_turns.specs.Holding.{Taken, Last}
use Rattle.vi_turns.proofs.Getting.{get_inside}
use Rattle.vi_turns.specs.Order.{Each, IsTaken}
use Rattle.vi_turns.specs.Views.{who_of}
use Rattle.vi_run.specs.Actors.{is_done_by}
use Rattle.vi_run.specs.Runs.{IsRun}
use Rattle.vi_run.proofs.Members.{StandsAt, driver_stands, back_stands, who_at, all_stands}

-- ---- a driver without lines

-- a line that is open is counted
open_counted : (n : ℕ) (ns : List ℕ) → 0 < count_line n (n ∷ ns)
open_counted n ns = go (n == n) (eq-eqb n n refl)
  where
    go : (b : Bool) → b ≡ true → 0 < one_if b + count_line n ns
    go true e = omega arith
    go false e = absurd (cc)

-- where no line is counted as open, none is open
none_open : (ns : List ℕ) → ((line : ℕ) → 0 < count_line line ns → ⊥) → is_none ns ≡ true
none_open [] closed = refl
none_open (n ∷ ns) closed = absurd (closed n (open_counted n ns))

-- a driver of a sound world that has no lines has submitted none, and none is open
driver_without : (s : ScriptValue) (w : World) (number : ℕ) → IsSound s w → number < driver_count → has_lines s number ≡ false → is_driver_finished s w number ≡ true
unfolding IsSound
driver_without s w number sound below without =
    let d = sound.drivers number below in
    let lines = d.lines in
    let none : length (lines_of s (Driver number)) ≡ 0 = (let le = ltb-false 0 (length (lines_of s (Driver number))) without in omega (arith, le)) in
    let closed : is_none (stand_of w number).open_lines ≡ true = none_open (stand_of w number).open_lines (λ line some. (let inside = d.below line some in absurd (omega (arith, inside, lines, none)))) in
    and_from (nat_le (length (lines_of s (Driver number))) (stand_of w number).submitted) (is_none (stand_of w number).open_lines) (le-leb _ _ (omega (arith, none))) closed

-- ---- actors that are done

-- the passes that ended are those of the actors in order, each with its lines finished
pub record HasDone (s : ScriptValue) (i : ℕ) (t : Taken) : Type 0 where
  pub number : t.number ≡ i + 1
  pub done : (w : Who) → slice_get (actors s) i ≡ Some w → is_done_by s w (record { leases = []; progress = t.progress }) ≡ true

abbrev pub AllDone : ScriptValue → List Taken → Type 0
AllDone s ts = (i : ℕ) (t : Taken) → slice_get ts i ≡ Some t → HasDone s i t

-- the pass of an actor that stands in the round ended, and the actor is done
actor_done : (s : ScriptValue) (w : World) (ts : List Taken) (x : Who) → AllDone s ts → length ts ≡ length (actors s) → Each (IsTaken s w) ts → StandsAt (actors s) x
    → is_done_by s x (actor_of s w x) ≡ true
actor_done s w ts x done count taken stands =
    let within : stands.place < length ts = (let inside = slice_get_within (actors s) stands.place x stands.at in omega (arith, inside, count)) in
    let t = get_inside ts stands.place within in
    let own = done stands.place t.0 t.1 in
    let kept = all_stands (IsTaken s w) ts stands.place t.0 (All-from_recursion (IsTaken s w) ts taken) t.1 in
    let has : actor_of s w x ≡ record { leases = []; progress = (let q : Taken = t.0 in q.progress) } =
    kept.actor x (ap (who_of s) own.number ∙ (who_at s stands.place ∙ stands.at)) in
    subst (λ (a : Actor). is_done_by s x a ≡ true) (sym has) (own.done x stands.at)

-- every driver is finished
driver_done : (s : ScriptValue) (w : World) (ts : List Taken) (number : ℕ) → IsSound s w → AllDone s ts → length ts ≡ length (actors s) → Each (IsTaken s w) ts
    → number < driver_count → is_driver_finished s w number ≡ true
driver_done s w ts number sound done count taken below = go (has_lines s number) refl
  where
    go : (b : Bool) → has_lines s number ≡ b → is_driver_finished s w number ≡ true
    go true e = actor_done s w ts (who.Driver number) done count taken (driver_stands s number below e)
    go false e = driver_without s w number sound below e

-- every back end is finished
back_done : (s : ScriptValue) (w : World) (ts : List Taken) (place : ℕ) → IsPlayable s → AllDone s ts → length ts ≡ length (actors s) → Each (IsTaken s w) ts
    → place < place_count s → is_back_finished s w place ≡ true
back_done s w ts place play done count taken below =
    subst (λ (k : ℕ). nat_le (length (lines_of s (back_at s place))) (seat_of w k).finished ≡ true) (places_have_ids s place play below)
    (actor_done s w ts (who.Back (id_at s place)) done count taken (back_stands s place below))

-- what is so of each number of a range is so of all
all_in_range : (p : ℕ → Bool) (a n : ℕ) → ((k : ℕ) → k < a + n → p k ≡ true) → list_all p (range_with_len a n) ≡ true
all_in_range p a zero each = refl
all_in_range p a (suc n) each = and_from (p a) (list_all p (range_with_len (a + 1) n)) (each a (omega arith)) (all_in_range p (a + 1) n (λ k below. each k (omega (arith, below))))

-- so every line of every caller is finished
pub all_finished : (s : ScriptValue) (w : World) (ts : List Taken) → IsPlayable s → IsSound s w → AllDone s ts → length ts ≡ length (actors s) → Each (IsTaken s w) ts → is_finished s w ≡ true
unfolding is_finished
all_finished s w ts play sound done count taken =
    and_from (list_all (is_driver_finished s w) (range_with_len 0 driver_count)) (list_all (is_back_finished s w) (range_with_len 0 (place_count s)))
    (all_in_range (is_driver_finished s w) 0 driver_count (λ number below. driver_done s w ts number sound done count taken (omega (arith, below))))
    (all_in_range (is_back_finished s w) 0 (place_count s) (λ place below. back_done s w ts place play done count taken (omega (arith, below))))

-- ---- the logs that were kept

-- what the logs say of a history depends on their entries alone
abbrev entries_of : List LogValue → List (List Ticketed)
entries_of logs = map (λ (l : LogValue). l.entries) logs

abbrev count_in : ℕ → List Ticketed → ℕ
count_in ticket es = count_by (λ (x : Ticketed). x.ticket == ticket) es

stands_same : (P : List Ticketed → Type 0) (ls ms : List LogValue) → entries_of ls ≡ entries_of ms → Each (λ (l : LogValue). P l.entries) ls → Each (λ (l : LogValue). P l.entries) ms
stands_same P [] [] same all = tt
stands_same P [] (m ∷ ms) same all = absurd (cc)
stands_same P (l ∷ ls) [] same all = absurd (cc)
stands_same P (l ∷ ls) (m ∷ ms) same all =
    let first : l.entries ≡ m.entries = cc in
    let rest : entries_of ls ≡ entries_of ms = cc in
    (subst P first all.0, stands_same P ls ms rest all.1)

counts_same : (ticket : ℕ) (ls ms : List LogValue) → entries_of ls ≡ entries_of ms → ticket_count ticket ls ≡ ticket_count ticket ms
counts_same ticket ls ms same =
    sym (fold-map (λ (n : ℕ) (es : List Ticketed). n + count_in ticket es) (λ (l : LogValue). l.entries) 0 ls)
    ∙ (ap (λ (ess : List (List Ticketed)). fold (λ (n : ℕ) (es : List Ticketed). n + count_in ticket es) 0 ess) same
    ∙ fold-map (λ (n : ℕ) (es : List Ticketed). n + count_in ticket es) (λ (l : LogValue). l.entries) 0 ms)

-- logs of the same entries have the same history
merged_same : (h : List Entry) (ls ms : List LogValue) → entries_of ls ≡ entries_of ms → IsMerged ls h → IsMerged ms h
merged_same h ls ms same merged = record {
  stands = All-from_recursion (λ (l : LogValue). All (Stands h) l.entries) ms
      (stands_same (λ es. All (Stands h) es) ls ms same (recursion_from_All (λ (l : LogValue). All (Stands h) l.entries) ls merged.stands));
  tickets = λ ticket. sym (counts_same ticket ls ms same) ∙ merged.tickets ticket;
}

-- a log without entries adds nothing
merged_rest : (h : List Entry) (l : LogValue) (ls : List LogValue) → l.entries ≡ [] → IsMerged (l ∷ ls) h → IsMerged ls h
merged_rest h l ls none merged = record {
  stands = All-tail (λ (x : LogValue). All (Stands h) x.entries) l ls merged.stands;
  tickets = λ ticket.
      let cons = sum_by-cons (λ (x : LogValue). count_in ticket x.entries) l ls in
      let empty : count_in ticket l.entries ≡ 0 = ap (count_in ticket) none in
      let all = merged.tickets ticket in
      omega (arith, cons, empty, all);
}

-- the logs of the passes that ended are the view's
logs_are : (ts : List Taken) → entries_of (map (λ (t : Taken). of_entries t.log) ts) ≡ map (λ (t : Taken). t.log) ts
logs_are [] = refl
logs_are (t ∷ ts) = ap (λ (ess : List (List Ticketed)). t.log ∷ ess) (logs_are ts)

-- where the view itself logged nothing, they have its history
pub kept_merged : (l : Last) (h : List Entry) (logs : List LogValue) → l.log ≡ [] → entries_of logs ≡ map (λ (t : Taken). t.log) l.taken → IsHistory l h → IsMerged logs h
kept_merged l h logs none same merged =
    merged_same h (map (λ (t : Taken). of_entries t.log) l.taken) logs (logs_are l.taken ∙ sym same)
    (merged_rest h (of_entries l.log) (map (λ (t : Taken). of_entries t.log) l.taken) none merged)

-- ---- the run

-- once all have ended, and are done, the closed object and their logs are a run
pub runs : (s : ScriptValue) (l : Last) (control : ControlValue) (pages : List (List ℕ)) (logs : List LogValue) → IsClosed s l control pages → l.log ≡ [] → AllDone s l.taken
    → length l.taken ≡ length (actors s) → length l.taken ≡ l.made → entries_of logs ≡ map (λ (t : Taken). t.log) l.taken → IsRun (record { last = l; logs = logs; control = control })
runs s l control pages logs closed none done count joined same = record {
  world = closed.world;
  run = record {
    playable = subst IsPlayable (sym closed.script) closed.playable;
    sound = subst (λ (t : ScriptValue). IsSound t closed.world) (sym closed.script) closed.sound;
    finished = subst (λ (t : ScriptValue). is_finished t closed.world ≡ true) (sym closed.script) (all_finished s closed.world l.taken closed.playable closed.sound done count closed.taken);
    history = closed.history;
    kept = record { joined = joined; own = λ i t at. (done i t at).number; logs_are = same; nothing = none };
    merged = kept_merged l closed.world.history logs none same closed.history;
    control = closed.state;
  };
}
