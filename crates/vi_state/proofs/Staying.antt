-- Calls keep the endpoints that were declared and the size of the memory.
use Rattle.std.proofs.Common.{◌≡◌, ◌==◌, ℕ, Bool, true, false, cond, List, [], ◌∷◌, map, Some, refl, subst}
use Rattle.std.specs.Prelude.{IsSome}
use Rattle.std.specs.List.{find}
use Rattle.vi_history.specs.Device.{Dev, One, Endpoint}
use Rattle.vi_history.specs.Replies.{reading_commit, next}
use Rattle.vi_history.specs.Requests.{reading}
use Rattle.vi_history.specs.declared.call.Call.{Call}
use Rattle.vi_history.specs.declared.call.Call.TheVariants as call
use Rattle.vi_history.specs.declared.reading.Reading.{Reading}
use Rattle.vi_history.specs.declared.reading.Reading.TheVariants.{Silent, Malformed, Asks}
use Rattle.vi_state.specs.Followed.{IsFollowed}
use Rattle.vi_state.proofs.Keeping.{commit_ids}

reading_ids : (dev : Dev) (r : Reading) → (map (λ x. x.id) (reading_commit dev r).endpoints ≡ map (λ x. x.id) dev.endpoints) × ((reading_commit dev r).pages ≡ dev.pages)
reading_ids dev Silent = (refl, refl)
reading_ids dev (Malformed probe) = (refl, refl)
reading_ids dev (Asks request) = commit_ids dev request

pub next_ids : (one : One) (d : Call) → (map (λ x. x.id) (next one d).dev.endpoints ≡ map (λ x. x.id) one.dev.endpoints) × ((next one d).dev.pages ≡ one.dev.pages)
unfolding next
next_ids one (call.Ask request) = commit_ids one.dev request
next_ids one (call.Raw read write) = reading_ids one.dev (reading read write)
next_ids one (call.Bypass on) = (refl, refl)
next_ids one (call.Read endpoint part) = (refl, refl)
next_ids one (call.Write endpoint part bytes) = (refl, refl)

-- whether an id is found depends on the ids alone
pub found_by_id : (xs ys : List Endpoint) (id : ℕ) → map (λ x. x.id) ys ≡ map (λ x. x.id) xs → IsSome (find (λ x. x.id == id) xs) → IsSome (find (λ x. x.id == id) ys)
found_by_id [] ys id same some = absurd cc
found_by_id (x ∷ xs) [] id same some = absurd cc
found_by_id (x ∷ xs) (y ∷ ys) id same some =
    let heads : x.id ≡ y.id = cc in
    let tails : map (λ x. x.id) ys ≡ map (λ x. x.id) xs = cc in
    go (y.id == id) (subst (λ n. IsSome (cond (n == id) (Some x) (find (λ x. x.id == id) xs))) heads some) (found_by_id xs ys id tails)
  where
    go : (v : Bool) → IsSome (cond v (Some x) (find (λ x. x.id == id) xs)) → (IsSome (find (λ x. x.id == id) xs) → IsSome (find (λ x. x.id == id) ys)) → IsSome (cond v (Some y) (find (λ x. x.id == id) ys))
    go true s rest = refl
    go false s rest = rest s

pub stays_followed : (one : One) (c d : Call) → IsFollowed one c → IsFollowed (next one d) c
stays_followed one (call.Ask request) d ok = tt
stays_followed one (call.Raw read write) d ok = ok
stays_followed one (call.Bypass on) d ok = tt
stays_followed one (call.Read endpoint part) d ok = (found_by_id one.dev.endpoints (next one d).dev.endpoints endpoint (next_ids one d).0 ok.0, ok.1)
stays_followed one (call.Write endpoint part bytes) d ok = (found_by_id one.dev.endpoints (next one d).dev.endpoints endpoint (next_ids one d).0 ok.0, ok.1, ok.2)
