-- The request queue shows the state: its popped chains are those of open removals.
use Rattle.std.proofs.Common.{◌≡◌, List, [], ◌∷◌, ◌++◌, Option, Some, None, IfSome, inl, inr, map, refl, ap, sym, ◌∙◌}
use Rattle.std.proofs.lemmas.Simd.{map-map}
use Rattle.vi_history.specs.Requests.{reading}
use Rattle.vi_vring.specs.Values as ring
use Rattle.vi_model.specs.declared.task.Task.{Task}
use Rattle.vi_model.specs.declared.task.Task.TheVariants.{Reads}
use Rattle.vi_model.specs.Removals.{Removal}
use Rattle.vi_shoot.specs.declared.ops.Token.{Token}
use Rattle.vi_shoot.specs.declared.ops.Token.TheVariants.{Chain, Setting}
use Rattle.vi_calls.specs.Value.{Taken}
use Rattle.vi_calls.specs.Shown.{TakenParts, taken_parts, popped_parts, ShowsCalls}
use Rattle.vi_removals.specs.Value.{Opened}
use Rattle.vi_control.specs.declared.control.Control.TheInside.{Inside}
use Rattle.vi_control.specs.Inner.{seen}
use Rattle.vi_control.specs.Queue.{asked_by, AreOf, ShowsState}
use Rattle.vi_control.specs.Ties.{AreTied, Waiting, waiting_taken, waiting_by, waiting_opened}

-- one more removal
one_more : (ts : List Task) (r : Removal) (rs : List Removal) → AreOf ts rs → AreOf ts (r ∷ rs)
one_more [] r rs are = tt
one_more (t ∷ ts) r rs are = inr are

-- the waiting lines are of the removals
opened_one : (r : Removal) (token : Token) (ws : List Waiting) (rs : List Removal) → AreOf (map (λ w. w.task) ws) rs → AreOf (map (λ w. w.task) (waiting_by r token ++ ws)) (r ∷ rs)
opened_one r (Chain head) ws rs are = inl (refl, are)
opened_one r (Setting driver line) ws rs are = one_more (map (λ w. w.task) ws) r rs are

opened_all : (os : List Opened) → AreOf (map (λ w. w.task) (waiting_opened os)) (map (λ o. o.removal) os)
opened_all [] = tt
opened_all (o ∷ os) = opened_one o.removal o.token (waiting_opened os) (map (λ o. o.removal) os) (opened_all os)

-- what a taken request's two parts ask for
abbrev parts_task : TakenParts → Task
parts_task p = Reads (reading p.parts.read p.parts.write)

popped_tasks : (qs : List ring.Queued) (ts : List Taken) (os : List Opened) → map popped_parts qs ≡ map taken_parts ts → AreTied ts os → map asked_by qs ≡ map (λ w. w.task) (waiting_opened os)
popped_tasks qs ts os e tied =
    let chains : map parts_task (map popped_parts qs) ≡ map asked_by qs = map-map parts_task popped_parts qs in
    let calls : map parts_task (map taken_parts ts) ≡ map (λ (w : Waiting). w.task) (map waiting_taken ts) = map-map parts_task taken_parts ts ∙ sym (map-map (λ (w : Waiting). w.task) waiting_taken ts) in
    sym chains ∙ (ap (map parts_task) e ∙ (calls ∙ ap (map (λ (w : Waiting). w.task)) tied.same))

pub shows_state : (p : Inside) (o : Option ring.Lists) → AreTied p.calls.taken p.removals.opened → IfSome o (ShowsCalls p.calls) → IfSome o (ShowsState (seen p).state)
shows_state p None tied shows = tt
shows_state p (Some l) tied shows = record {
  available = shows.available;
  popped = rw (popped_tasks l.popped p.calls.taken p.removals.opened shows.popped tied) (opened_all p.removals.opened);
  used = shows.used;
}
