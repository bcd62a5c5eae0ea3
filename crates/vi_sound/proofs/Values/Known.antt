-- The calls of a script are of its callers.
use Rattle.std.proofs.Common.{◌≡◌, ◌==◌, ℕ, suc, ◌≤◌, ◌<◌, Bool, true, false, cond, ◌&&◌, not, List, [], ◌∷◌, length, map, get_or, Option, Some, None, IsSome, refl, arith, subst, ◌⊎◌, inl, inr}
use Rattle.std.specs.Prelude.{nat_le, is_some}
use Rattle.std.proofs.lemmas.Bool.{and_parts, leb-true, eqb-true, false≢true, or_cases}
use Rattle.vi_bytes.specs.declared.region.EndpointSetup.{EndpointSetup}
use Rattle.vi_history.specs.declared.call.Caller.{Caller}
use Rattle.vi_history.specs.declared.call.Caller.TheVariants.{Driver, Back}
use Rattle.vi_lines.specs.declared.job.Job.{Job}
use Rattle.vi_lines.specs.declared.job.Job.TheVariants as job
use Rattle.vi_lines.specs.declared.line.Line.{Line}
use Rattle.vi_lines.specs.Value.{ScriptValue}
use Rattle.vi_lines.specs.Valid.{IsValid, is_line, is_caller_in, has_endpoint, does}
use Rattle.vi_lines.specs.Limits.{is_job}
use Rattle.vi_lines.specs.Rules.{job_runs_over}
use Rattle.vi_lines.specs.Calls.{line_of, parts_of, back_call, call_in, call_of}
use Rattle.vi_model.specs.Control.{driver_count}
use Rattle.vi_model.specs.Places.{place_count, id_at}
use Rattle.vi_sound.proofs.Values.Parcels.{line_all, line_caller, all_from_test}

-- the line of a call
pub known_line : (s : ScriptValue) (c : Caller) (line part : ℕ) → IsSome (call_of s c line part) → (l : Line) × (line_of s c line ≡ Some l) × IsSome (call_in c part (Some l))
unfolding call_of
known_line s c line part known = go (line_of s c line) refl known
  where
    none : (c : Caller) → IsSome (call_in c part None) → ⊥
    none (Driver j) h = false≢true h
    none (Back id) h = false≢true h

    go : (o : Option Line) → line_of s c line ≡ o → IsSome (call_in c part o) → (l : Line) × (line_of s c line ≡ Some l) × IsSome (call_in c part (Some l))
    go None e h = absurd (none c h)
    go (Some l) e h = (l, e, h)

pub line_is : (s : ScriptValue) (c : Caller) (line : ℕ) (l : Line) → IsValid s → line_of s c line ≡ Some l → (is_caller_in s.setup.endpoints c ≡ true) × (is_job l.job ≡ true)
line_is s c line l valid h =
    let rest = is_job l.job && (not (job_runs_over l.job) && nat_le (length l.awaits) 16) in
    let test : is_line s.setup.endpoints l ≡ true = line_all (λ l. is_line s.setup.endpoints l ≡ true) s c line l (all_from_test (λ l. is_line s.setup.endpoints l) s.lines valid.lines_each) h in
    let a = and_parts (is_caller_in s.setup.endpoints l.caller) (does l.caller l.add l.job && rest) test in
    let b = and_parts (does l.caller l.add l.job) rest a.1 in
    (subst (λ c. is_caller_in s.setup.endpoints c ≡ true) (line_caller s c line l h) a.0, (and_parts (is_job l.job) (not (job_runs_over l.job) && nat_le (length l.awaits) 16) b.1).0)

pub place_there : (es : List EndpointSetup) (id : ℕ) → has_endpoint es id ≡ true → (k : ℕ) × (k < length (map (λ e. e.id) es)) × (get_or (map (λ e. e.id) es) k 0 ≡ id)
place_there [] id h = absurd (false≢true h)
place_there (e ∷ es) id h = go (or_cases (e.id == id) (has_endpoint es id) h) (place_there es id)
  where
    go : ((e.id == id) ≡ true) ⊎ (has_endpoint es id ≡ true) → (has_endpoint es id ≡ true → (k : ℕ) × (k < length (map (λ e. e.id) es)) × (get_or (map (λ e. e.id) es) k 0 ≡ id))
        → (k : ℕ) × (k < suc (length (map (λ e. e.id) es))) × (get_or (e.id ∷ map (λ e. e.id) es) k 0 ≡ id)
    go (inl same) rest = (0, omega arith, eqb-true e.id id same)
    go (inr later) rest = let r = rest later in (suc r.0, (let lt = r.1 in omega (arith, lt)), r.2)

-- a back end with a call has a place
pub known_back : (s : ScriptValue) (id line part : ℕ) → IsValid s → IsSome (call_of s (Back id) line part) → (k : ℕ) × (k < place_count s) × (id_at s k ≡ id)
known_back s id line part valid known = let l = known_line s (Back id) line part known in place_there s.setup.endpoints id (line_is s (Back id) line l.0 valid l.1).0

-- a driver with a call is one of the eight
pub known_driver : (s : ScriptValue) (j line part : ℕ) → IsValid s → IsSome (call_of s (Driver j) line part) → j < driver_count
known_driver s j line part valid known = let l = known_line s (Driver j) line part known in let le = leb-true j 7 (line_is s (Driver j) line l.0 valid l.1).0 in omega (arith, le)

parts_few : (j : Job) → is_job j ≡ true → parts_of j ≤ 17
parts_few (job.Ask request) h = omega arith
parts_few (job.Raw read write) h = omega arith
parts_few (job.Bypass on) h = omega arith
parts_few (job.Read iova len) h = let most = leb-true len 65536 (and_parts (nat_le 1 len) (nat_le len 65536) h).1 in omega (arith, most)
parts_few (job.Write iova bytes) h = let most = leb-true (length bytes) 65536 (and_parts (nat_le 1 (length bytes)) (nat_le (length bytes) 65536) h).1 in omega (arith, most)

-- a part of a back end's line is one of at most 17
pub known_part : (s : ScriptValue) (id line part : ℕ) → IsValid s → IsSome (call_of s (Back id) line part) → (1 ≤ part) × (part ≤ 17)
known_part s id line part valid known =
    let l = known_line s (Back id) line part known in
    let few = parts_few l.0.job (line_is s (Back id) line l.0 valid l.1).1 in
    let both = inside l.0 (nat_le 1 part && nat_le part (parts_of l.0.job)) refl l.2 in
    (both.0, let b = both.1 in omega (arith, b, few))
  where
    inside : (l : Line) (b : Bool) → (nat_le 1 part && nat_le part (parts_of l.job)) ≡ b → is_some (cond b (back_call id l.job part) None) ≡ true → (1 ≤ part) × (part ≤ parts_of l.job)
    inside l true e h = let t = and_parts (nat_le 1 part) (nat_le part (parts_of l.job)) e in (leb-true 1 part t.0, leb-true part (parts_of l.job) t.1)
    inside l false e h = absurd (false≢true h)
