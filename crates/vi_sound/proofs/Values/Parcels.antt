-- What a driver leaves for the device is what its line asks for.
use Rattle.std.proofs.Common.{◌≡◌, ℕ, zero, suc, Bool, true, false, cond, ◌&&◌, not, List, [], ◌∷◌, filter, length, Option, Some, None, slice_get, refl, ◌∙◌, ap, sym, subst}
use Rattle.std.specs.Prelude.{nat_le}
use Rattle.std.specs.List.{AllByRecursion, list_all}
use Rattle.std.proofs.lemmas.Bool.{and_parts, false≢true}
use Rattle.vi_history.specs.Requests.{reading}
use Rattle.vi_history.specs.declared.call.Caller.{Caller}
use Rattle.vi_history.specs.declared.call.Caller.TheVariants.{Driver}
use Rattle.vi_req.proofs.ReadingLemmas.{reading-request_bytes}
use Rattle.vi_lines.specs.declared.job.Job.{Job}
use Rattle.vi_lines.specs.declared.job.Job.TheVariants as job
use Rattle.vi_lines.specs.declared.line.Line.{Line}
use Rattle.vi_lines.specs.Value.{ScriptValue}
use Rattle.vi_lines.specs.Valid.{IsValid, is_line, is_caller_in, does, driver_does}
use Rattle.vi_lines.specs.Limits.{is_job}
use Rattle.vi_lines.specs.Rules.{job_runs_over}
use Rattle.vi_lines.specs.Calls.{same_caller, line_of, driver_call, call_in, call_of}
use Rattle.vi_lines.proofs.IndexLemmas.{same_caller-eq}
use Rattle.vi_model.specs.Tasks.{task_in, task_at}
use Rattle.vi_model.specs.declared.task.Task.{Task}
use Rattle.vi_model.specs.declared.task.Task.TheVariants.{Reads, Sets}
use Rattle.vi_model.specs.Drivers.{Parcel, Chain, Switch, parcel_of}
use Rattle.vi_lines.specs.Fields.{JobFits}
use Rattle.vi_model.specs.Playable.{IsPlayable}

-- what the device starts for a parcel
abbrev pub parcel_task : Parcel → Task
parcel_task (Chain read write) = Reads (reading read write)
parcel_task (Switch on) = Sets on

same_some : {A : Type 0} (x y : A) → Some x ≡ Some y → x ≡ y
same_some x y h = cc

job_task : (j : Job) (parcel : Parcel) → JobFits j → parcel_of j ≡ Some parcel → task_in (driver_call j) ≡ Some (parcel_task parcel)
job_task (job.Ask request) parcel fits h =
    let same = same_some _ parcel h in
    ap (λ r. Some (Reads r)) (sym (reading-request_bytes request fits)) ∙ ap (λ p. Some (parcel_task p)) same
job_task (job.Raw read write) parcel fits h = ap (λ p. Some (parcel_task p)) (same_some _ parcel h)
job_task (job.Bypass on) parcel fits h = ap (λ p. Some (parcel_task p)) (same_some _ parcel h)
job_task (job.Read iova len) parcel fits h = absurd cc
job_task (job.Write iova bytes) parcel fits h = absurd cc

-- what is said of each line is said of a caller's
pub filtered : {X : Type 0} (P : X → Type 0) (p : X → Bool) (xs : List X) (i : ℕ) (x : X) → AllByRecursion P xs → slice_get (filter p xs) i ≡ Some x → P x
filtered P p [] i x all h = absurd cc
filtered {X} P p (y ∷ xs) i x all h = go (p y) i h (λ k e. filtered P p xs k x all.1 e)
  where
    go : (b : Bool) (i : ℕ) → slice_get (cond b (y ∷ filter p xs) (filter p xs)) i ≡ Some x → ((k : ℕ) → slice_get (filter p xs) k ≡ Some x → P x) → P x
    go false i h rest = rest i h
    go true zero h rest = subst P (same_some y x h) all.0
    go true (suc i) h rest = rest i h

pub filtered_passes : {X : Type 0} (p : X → Bool) (xs : List X) (i : ℕ) (x : X) → slice_get (filter p xs) i ≡ Some x → p x ≡ true
filtered_passes p [] i x h = absurd cc
filtered_passes {X} p (y ∷ xs) i x h = go (p y) refl i h (λ k e. filtered_passes p xs k x e)
  where
    go : (b : Bool) → p y ≡ b → (i : ℕ) → slice_get (cond b (y ∷ filter p xs) (filter p xs)) i ≡ Some x → ((k : ℕ) → slice_get (filter p xs) k ≡ Some x → p x ≡ true) → p x ≡ true
    go false e i h rest = rest i h
    go true e zero h rest = ap p (sym (same_some y x h)) ∙ e
    go true e (suc i) h rest = rest i h

pub all_from_test : {X : Type 0} (p : X → Bool) (xs : List X) → list_all p xs ≡ true → AllByRecursion (λ x. p x ≡ true) xs
all_from_test p [] h = tt
all_from_test p (x ∷ xs) h = let b = and_parts (p x) (list_all p xs) h in (b.0, all_from_test p xs b.1)

pub line_all : (P : Line → Type 0) (s : ScriptValue) (c : Caller) (line : ℕ) (l : Line) → AllByRecursion P s.lines → line_of s c line ≡ Some l → P l
line_all P s c zero l all h = absurd cc
line_all P s c (suc before) l all h = filtered P (λ l. same_caller l.caller c) s.lines before l all h

pub line_caller : (s : ScriptValue) (c : Caller) (line : ℕ) (l : Line) → line_of s c line ≡ Some l → l.caller ≡ c
line_caller s c zero l h = absurd cc
line_caller s c (suc before) l h = same_caller-eq l.caller c (filtered_passes (λ l. same_caller l.caller c) s.lines before l h)

-- a driver's line asks for what its parcel is started as
pub parcel_is : (s : ScriptValue) (j line : ℕ) (l : Line) (parcel : Parcel) → IsPlayable s → line_of s (Driver j) line ≡ Some l → parcel_of l.job ≡ Some parcel → task_at s j line ≡ Some (parcel_task parcel)
unfolding call_of
parcel_is s j line l parcel play h p =
    ap (λ o. task_in (call_in (Driver j) 0 o)) h ∙ job_task l.job parcel (line_all (λ l. JobFits l.job) s (Driver j) line l play.fields h) p

-- a line whose task is a setting ends its batch
setting_job : (add : Bool) (j : Job) (on : Bool) → driver_does add j ≡ true → task_in (driver_call j) ≡ Some (Sets on) → add ≡ false
setting_job add (job.Ask request) on does h = absurd cc
setting_job add (job.Raw read write) on does h = absurd cc
setting_job true (job.Bypass b) on does h = absurd (false≢true does)
setting_job false (job.Bypass b) on does h = refl
setting_job add (job.Read iova len) on does h = absurd cc
setting_job add (job.Write iova bytes) on does h = absurd cc

pub driver_does_it : (s : ScriptValue) (j line : ℕ) (l : Line) → IsValid s → line_of s (Driver j) line ≡ Some l → driver_does l.add l.job ≡ true
driver_does_it s j line l valid h =
    let is : l.caller ≡ Driver j = line_caller s (Driver j) line l h in
    let rest = is_job l.job && (not (job_runs_over l.job) && nat_le (length l.awaits) 16) in
    let test : is_line s.setup.endpoints l ≡ true = line_all (λ l. is_line s.setup.endpoints l ≡ true) s (Driver j) line l (all_from_test (λ l. is_line s.setup.endpoints l) s.lines valid.lines_each) h in
    let a = and_parts (is_caller_in s.setup.endpoints l.caller) (does l.caller l.add l.job && rest) test in
    let b = and_parts (does l.caller l.add l.job) rest a.1 in
    subst (λ c. does c l.add l.job ≡ true) is b.0

pub setting_ends : (s : ScriptValue) (j line : ℕ) (on : Bool) → IsValid s → task_at s j line ≡ Some (Sets on) → (l : Line) × (line_of s (Driver j) line ≡ Some l) × (l.add ≡ false)
unfolding call_of
setting_ends s j line on valid h = go (line_of s (Driver j) line) refl h
  where
    go : (o : Option Line) → line_of s (Driver j) line ≡ o → task_in (call_in (Driver j) 0 o) ≡ Some (Sets on) → (l : Line) × (line_of s (Driver j) line ≡ Some l) × (l.add ≡ false)
    go None e h = absurd cc
    go (Some l) e h = (l, e, setting_job l.add l.job on (driver_does_it s j line l valid e) h)
