-- What no call changes of the device.
use Rattle.std.proofs.Common.{◌≡◌, ℕ, suc, length, sym, Bool, true, false, cond, eqb, List, [], ◌∷◌, map, refl, ap, ◌∙◌}
use Rattle.vi_bytes.specs.declared.region.Membership.{Membership}
use Rattle.vi_bytes.specs.declared.region.Membership.TheVariants.{Member}
use Rattle.vi_history.specs.Device.{Dev, Endpoint, endpoint_of}
use Rattle.vi_history.specs.Effects.{moved, endpoint_is_in, attached, effect, commit}
use Rattle.vi_history.specs.Statuses.{status}
use Rattle.vi_history.specs.Replies.{reading_commit}
use Rattle.vi_history.specs.declared.reading.Reading.{Reading}
use Rattle.vi_history.specs.declared.reading.Reading.TheVariants.{Silent, Malformed, Asks}
use Rattle.vi_history.specs.declared.request.Request.{Request}
use Rattle.vi_history.specs.declared.request.Request.TheVariants.{Attach, Detach, Map, Unmap, Probe}
use Rattle.vi_model.specs.Tasks.{task_commit}
use Rattle.vi_model.specs.declared.task.Task.{Task}
use Rattle.vi_model.specs.declared.task.Task.TheVariants.{Reads, Sets}
use Rattle.vi_control.specs.Inner.{config_of}

-- the ids of a device's endpoints by place
abbrev pub ids_in : Dev → List ℕ
ids_in dev = map (λ x. x.id) dev.endpoints

-- the memory and the endpoints' ids stay, and so does the configuration
pub record Keeps (old new : Dev) : Type 0 where
  pub pages : new.pages ≡ old.pages
  pub ids : ids_in new ≡ ids_in old

pub record KeepsAll (old new : Dev) : Type 0 where
  pub setup : Keeps old new
  pub config : config_of new ≡ config_of old

same : (dev : Dev) → KeepsAll dev dev
same dev = record { setup = record { pages = refl; ids = refl }; config = refl }

id-moved : (id : ℕ) (m : Membership) (x : Endpoint) (b : Bool) → (let y : Endpoint = cond b (record x { domain = m }) x in y.id) ≡ x.id
id-moved id m x true = refl
id-moved id m x false = refl

ids-moved : (id : ℕ) (m : Membership) (xs : List Endpoint) → map (λ x. x.id) (moved id m xs) ≡ map (λ x. x.id) xs
ids-moved id m [] = refl
ids-moved id m (x ∷ xs) = rw (id-moved id m x (eqb x.id id), ids-moved id m xs) refl

attach-keeps : (dev : Dev) (domain : ℕ) (bypass : Bool) (endpoint : ℕ) (b : Bool) → KeepsAll dev (cond b dev (attached dev domain bypass endpoint))
attach-keeps dev domain bypass endpoint true = same dev
attach-keeps dev domain bypass endpoint false = record { setup = record { pages = refl; ids = ids-moved endpoint (Member domain) dev.endpoints }; config = refl }

effect-keeps : (dev : Dev) (request : Request) → KeepsAll dev (effect dev request)
effect-keeps dev (Attach domain endpoint flags) = attach-keeps dev domain (eqb flags 1) endpoint (endpoint_is_in domain (endpoint_of dev endpoint))
effect-keeps dev (Detach domain endpoint) = record { setup = record { pages = refl; ids = ids-moved endpoint _ dev.endpoints }; config = refl }
effect-keeps dev (Map domain first last target flags) = record { setup = record { pages = refl; ids = refl }; config = refl }
effect-keeps dev (Unmap domain first last) = record { setup = record { pages = refl; ids = refl }; config = refl }
effect-keeps dev (Probe endpoint) = same dev

commit-keeps : (dev : Dev) (request : Request) → KeepsAll dev (commit dev request)
unfolding commit
commit-keeps dev request = go (eqb (status dev request) 0)
  where
    go : (b : Bool) → KeepsAll dev (cond b (effect dev request) dev)
    go true = effect-keeps dev request
    go false = same dev

pub reading-keeps : (dev : Dev) (r : Reading) → KeepsAll dev (reading_commit dev r)
reading-keeps dev Silent = same dev
reading-keeps dev (Malformed probe) = same dev
reading-keeps dev (Asks request) = commit-keeps dev request

pub task-keeps : (dev : Dev) (task : Task) → Keeps dev (task_commit dev task)
task-keeps dev (Reads r) = (reading-keeps dev r).setup
task-keeps dev (Sets on) = record { pages = refl; ids = refl }

-- there are as many endpoints as ids
length-map : (xs : List Endpoint) → length (map (λ x. x.id) xs) ≡ length xs
length-map [] = refl
length-map (x ∷ xs) = ap suc (length-map xs)

pub length-ids : (dev : Dev) (ids : List ℕ) → ids_in dev ≡ ids → length dev.endpoints ≡ length ids
length-ids dev ids same = sym (length-map dev.endpoints) ∙ ap length same
