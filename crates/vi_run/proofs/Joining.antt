-- Passes of actors that are done are joined, one after the other.
use Rattle.std.proofs.Common.{◌≡◌, ◌≢◌, ◌<◌, ◌+◌, ℕ, zero, suc, true, List, [], ◌∷◌, ◌++◌, length, map, slice_get, Option, Some, None, refl, sym, ap, ◌∙◌, subst, arith}
use Rattle.std.specs.List.{list_all}
use Rattle.std.proofs.lemmas.Bool.{and_parts}
use Rattle.std.proofs.lemmas.List.{length-append, length-map, map-append}
use Rattle.std.proofs.lemmas.Option.{none-some, same_Some}
use Rattle.vi_log.specs.Logs.{LogValue, Ticketed}
use Rattle.vi_lines.specs.declared.line.Who.{Who}
use Rattle.vi_lines.specs.declared.line.Who.TheVariants as who
use Rattle.vi_lines.specs.Value.{ScriptValue}
use Rattle.vi_control.specs.Value.{ControlValue}
use Rattle.vi_model.specs.Actors.{Actor}
use Rattle.vi_model.specs.Rounds.{actors}
use Rattle.vi_turns.specs.Ended.{IsClosed}
use Rattle.vi_turns.specs.Holding.{Taken, Last}
use Rattle.vi_turns.specs.Passes.{PassValue, Board, IsSamePass, log_of}
use Rattle.vi_turns.specs.Views.{who_of, taken_of, joined, last_of}
use Rattle.vi_turns.specs.declared.view.View.{View}
use Rattle.vi_run.specs.Actors.{ActorValue, view_of, IsPassOf, IsIdle, is_done, is_done_by}
use Rattle.vi_run.specs.Runs.{IsActorAt, IsOpened, IsRun}
use Rattle.vi_run.proofs.Members.{who_at, at_push}
use Rattle.vi_run.proofs.Ending.{HasDone, AllDone, runs}

-- an actor that is done, with the pass of its place
pub record IsLeft (b : Board) (place : ℕ) (a : ActorValue) : Type 0 where
  pub at : IsActorAt b place a
  pub done : is_done a ≡ true

-- so of each of these, where the first has this place
abbrev pub AreLeft : Board → ℕ → List ActorValue → Type 0
AreLeft b first rest = (k : ℕ) (a : ActorValue) → slice_get rest k ≡ Some a → IsLeft b (first + k) a

-- the passes of the first actors were joined, their logs kept, and these actors are left
pub record IsEnding (b : Board) (count : ℕ) (p : PassValue) (rest : List ActorValue) (logs : List LogValue) : Type 0 where
  pub own : IsPassOf b p
  pub number : (let v : View = p.view in v.number) ≡ 0
  pub empty : (let v : View = p.view in v.held) ≡ None
  pub log : (let v : View = p.view in v.log) ≡ []
  pub made : (let v : View = p.view in v.made) ≡ count
  pub ended : AllDone b.script (let v : View = p.view in v.taken)
  pub sum : length (let v : View = p.view in v.taken) + length rest ≡ count
  pub left : AreLeft b (length (let v : View = p.view in v.taken)) rest
  pub kept : map (λ (l : LogValue). l.entries) logs ≡ map (λ (t : Taken). t.log) (let v : View = p.view in v.taken)

-- ---- the first

-- all are left that are done
left_all : (b : Board) (first : ℕ) (all : List ActorValue) → ((k : ℕ) (a : ActorValue) → slice_get all k ≡ Some a → IsActorAt b (first + k) a)
    → list_all (λ a. is_done a) all ≡ true → AreLeft b first all
left_all b first [] at done k a is = absurd (none-some a is)
left_all b first (x ∷ xs) at done zero a is = record {
  at = at zero a is;
  done = subst (λ (y : ActorValue). is_done y ≡ true) (same_Some x a is) (and_parts (is_done x) (list_all (λ y. is_done y) xs) done).0;
}
left_all b first (x ∷ xs) at done (suc k) a is =
    subst (λ (n : ℕ). IsLeft b n a) next
    (left_all b (first + 1) xs (λ j y here. subst (λ (n : ℕ). IsActorAt b n y) (step j) (at (suc j) y here))
    (and_parts (is_done x) (list_all (λ y. is_done y) xs) done).1 k a is)
  where
    next : first + 1 + k ≡ first + suc k
    next = omega arith

    step : (j : ℕ) → first + suc j ≡ first + 1 + j
    step j = omega arith

-- before any was joined
pub begins : (b : Board) (p : PassValue) (all : List ActorValue) (logs : List LogValue) → IsOpened b p all → list_all (λ a. is_done a) all ≡ true → logs ≡ [] → IsEnding b (length all) p all logs
begins b p all logs opened done none = record {
  own = opened.own;
  number = opened.number;
  empty = opened.empty;
  log = opened.log;
  made = opened.made;
  ended = subst (AllDone b.script) (sym opened.taken) (λ i t at. absurd (none-some t at));
  sum = (let e = ap (λ (ts : List Taken). length ts) opened.taken in omega (arith, e));
  left = subst (λ (ts : List Taken). AreLeft b (length ts) all) (sym opened.taken)
      (left_all b 0 all (λ k a at. subst (λ (n : ℕ). IsActorAt b n a) (zeros k) (opened.each k a at)) done);
  kept = ap (map (λ (l : LogValue). l.entries)) none ∙ sym (ap (map (λ (t : Taken). t.log)) opened.taken);
}
  where
    zeros : (k : ℕ) → k ≡ 0 + k
    zeros k = omega arith

-- ---- one more

-- what an actor has doesn't count leases
done_bare : (s : ScriptValue) (w : Who) (a : Actor) → is_done_by s w a ≡ true → is_done_by s w (record { leases = []; progress = a.progress }) ≡ true
done_bare s (who.Driver number) a done = done
done_bare s (who.Back id) a done = done
done_bare s who.Device a done = done
done_bare s who.Events a done = done

-- the pass of an idle actor that is left, once it was taken in, is that of an actor that is done
taken_done : (b : Board) (place : ℕ) (a : ActorValue) → IsIdle a → IsLeft b place a → HasDone b.script place (taken_of (view_of a))
taken_done b place a idle left = record {
  number = left.at.number;
  done = λ w at.
      let same : (view_of a).script ≡ b.script = left.at.own.script in
      let acts : who_of b.script (place + 1) ≡ Some a.who = sym (ap (λ (s : ScriptValue). who_of s (place + 1)) same) ∙ (sym (ap (who_of (view_of a).script) left.at.number) ∙ idle.acts) in
      let w_is : a.who ≡ w = same_Some a.who w (sym acts ∙ (who_at b.script place ∙ at)) in
      let done : is_done_by (view_of a).script a.who (view_of a).actor ≡ true = left.done in
      let there : is_done_by b.script a.who (view_of a).actor ≡ true = subst (λ (s : ScriptValue). is_done_by s a.who (view_of a).actor ≡ true) same done in
      done_bare b.script w (view_of a).actor (subst (λ (x : Who). is_done_by b.script x (view_of a).actor ≡ true) w_is there);
}

-- the next of those that are left has the pass of the place after all that were joined
pub first_left : (b : Board) (count : ℕ) (p : PassValue) (a : ActorValue) (rest : List ActorValue) (logs : List LogValue) → IsEnding b count p (a ∷ rest) logs
    → IsLeft b (length (let v : View = p.view in v.taken)) a
first_left b count p a rest logs e = subst (λ (n : ℕ). IsLeft b n a) (omega arith) (e.left 0 a refl)

-- which isn't pass 0
pub not_first : (b : Board) (count : ℕ) (p : PassValue) (a : ActorValue) (rest : List ActorValue) (logs : List LogValue) → IsEnding b count p (a ∷ rest) logs → (view_of a).number ≢ 0
not_first b count p a rest logs e = λ zeroth. (let number = (first_left b count p a rest logs e).at.number in absurd (omega (arith, number, zeroth)))

-- there is room for its log
pub has_room : (b : Board) (count : ℕ) (p : PassValue) (a : ActorValue) (rest : List ActorValue) (logs : List LogValue) → IsEnding b count p (a ∷ rest) logs → length logs < count
has_room b count p a rest logs e =
    let kept = ap (λ (ess : List (List Ticketed)). length ess) e.kept in
    let one = length-map logs (λ (l : LogValue). l.entries) in
    let two = length-map (let v : View = p.view in v.taken) (λ (t : Taken). t.log) in
    let sum = e.sum in
    omega (arith, kept, one, two, sum)

-- the next pass is joined, and its log kept
pub joins_next : (b : Board) (count : ℕ) (p q : PassValue) (a : ActorValue) (rest : List ActorValue) (logs : List LogValue) (log : LogValue) → IsEnding b count p (a ∷ rest) logs → IsIdle a
    → IsSamePass p q → q.view ≡ joined p.view (view_of a) → log ≡ log_of a.pass → IsEnding b count q rest (logs ++ log ∷ [])
joins_next b count p q a rest logs log e idle same is log_is = record {
  own = record { table = same.table ∙ e.own.table; script = ap (λ (v : View). v.script) is ∙ e.own.script };
  number = ap (λ (v : View). v.number) is ∙ e.number;
  empty = ap (λ (v : View). v.held) is ∙ e.empty;
  log = ap (λ (v : View). v.log) is ∙ e.log;
  made = ap (λ (v : View). v.made) is ∙ e.made;
  ended = subst (AllDone b.script) (sym more)
      (at_push (HasDone b.script) taken (taken_of (view_of a)) e.ended (taken_done b (length taken) a idle here));
  sum = (let before = e.sum in omega (arith, long, before));
  left = λ k x at. subst (λ (n : ℕ). IsLeft b n x) (next k) (e.left (suc k) x at);
  kept = map-append (λ (l : LogValue). l.entries) logs (log ∷ [])
      ∙ (ap (λ (ess : List (List Ticketed)). ess ++ log.entries ∷ []) e.kept
      ∙ (ap (λ (es : List Ticketed). map (λ (t : Taken). t.log) taken ++ es ∷ []) (ap (λ (l : LogValue). l.entries) log_is)
      ∙ (sym (map-append (λ (t : Taken). t.log) taken (taken_of (view_of a) ∷ [])) ∙ sym (ap (map (λ (t : Taken). t.log)) more))));
}
  where
    taken : List Taken
    taken = let v : View = p.view in v.taken

    more : (let v : View = q.view in v.taken) ≡ taken ++ taken_of (view_of a) ∷ []
    more = ap (λ (v : View). v.taken) is ∙ ap (λ (ts : List Taken). taken ++ taken_of (view_of a) ∷ ts) idle.alone

    long : length (let v : View = q.view in v.taken) ≡ length taken + 1
    long = ap (λ (ts : List Taken). length ts) more ∙ length-append taken (taken_of (view_of a) ∷ [])

    next : (k : ℕ) → length taken + suc k ≡ length (let v : View = q.view in v.taken) + k
    next k = omega (arith, long)

    here : IsLeft b (length taken) a
    here = first_left b count p a rest logs e

-- ---- the last

-- once none is left, the closed object and the logs are a run
pub ends : (b : Board) (count : ℕ) (p : PassValue) (logs : List LogValue) (l : Last) (control : ControlValue) (pages : List (List ℕ)) → IsEnding b count p [] logs → count ≡ length (actors b.script)
    → l ≡ last_of p.view → IsClosed b.script l control pages → IsRun (record { last = l; logs = logs; control = control })
ends b count p logs l control pages e all is closed =
    runs b.script l control pages logs closed (ap (λ (x : Last). x.log) is ∙ e.log) (subst (AllDone b.script) (sym same) e.ended)
    (let sum = e.sum in let n = ap (λ (ts : List Taken). length ts) same in omega (arith, sum, n, all))
    (let sum = e.sum in let n = ap (λ (ts : List Taken). length ts) same in let made = ap (λ (x : Last). x.made) is ∙ e.made in omega (arith, sum, n, made))
    (e.kept ∙ sym (ap (map (λ (t : Taken). t.log)) same))
  where
    same : l.taken ≡ (let v : View = p.view in v.taken)
    same = ap (λ (x : Last). x.taken) is
