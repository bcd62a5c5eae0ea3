-- In a sound world a driver's turn finds its room.
use Rattle.std.proofs.Common.{◌≡◌, ◌==◌, ◌⊎◌, inl, inr, ℕ, zero, suc, ◌+◌, ◌-◌, ◌≤◌, ◌<◌, Bool, true, false, cond, ◌&&◌, ◌||◌, not, List, [], ◌∷◌, ◌++◌, filter, length, map, Option, Some, None, All, nat_lt, nat_le, refl, ◌∙◌, ap, sym, subst, arith}
use Rattle.std.specs.List.{AllByRecursion, list_any, list_all}
use Rattle.std.proofs.lemmas.Bool.{and_parts, cases_eq, eq-eqb, leb-true, ltb-true, false≢true}
use Rattle.std.proofs.lemmas.List.Elements.{All-nil, All-weaker}
use Rattle.std.proofs.lemmas.List.Folds.{list_all-append}
use Rattle.std.proofs.lemmas.List.Sums.{AllPass-from_list_all}
use Rattle.vi_bytes.specs.declared.region.EndpointSetup.{EndpointSetup}
use Rattle.vi_history.specs.Requests.{request_bytes, writable_size}
use Rattle.vi_history.specs.declared.call.Caller.{Caller}
use Rattle.vi_history.specs.declared.call.Caller.TheVariants.{Driver, Back}
use Rattle.vi_history.specs.declared.entry.Entry.{Entry}
use Rattle.vi_history.specs.declared.request.Request.{Request}
use Rattle.vi_history.specs.declared.request.Request.TheVariants.{Attach, Detach, Map, Unmap, Probe}
use Rattle.vi_lines.specs.declared.job.Job.{Job}
use Rattle.vi_lines.specs.declared.job.Job.TheVariants as job
use Rattle.vi_lines.specs.declared.line.Await.{Await}
use Rattle.vi_lines.specs.declared.line.Line.{Line}
use Rattle.vi_lines.specs.Value.{ScriptValue}
use Rattle.vi_lines.specs.Calls.{same_caller, line_of, awaits_in, awaits_of}
use Rattle.vi_lines.specs.Rules.{count_lines, awaits_well, job_runs_over}
use Rattle.vi_lines.specs.Limits.{is_job, is_raw, longest_batch}
use Rattle.vi_lines.specs.Order.{batch_of}
use Rattle.vi_lines.specs.Valid.{IsValid, AwaitAbove, has_endpoint, is_caller_in, is_line, does, driver_does}
use Rattle.vi_lines.proofs.IndexLemmas.{same_caller-eq}
use Rattle.vi_model.specs.Asking.{one_if}
use Rattle.vi_model.specs.Control.{Answered, driver_count, port_of}
use Rattle.vi_model.specs.Drivers.{Stand, is_one_batch, lower, first_answer, parcel_of}
use Rattle.vi_model.specs.Held.{count_answers, count_line, count_held, IsSoundDriver}
use Rattle.vi_model.specs.Places.{ids_of}
use Rattle.vi_model.specs.Playable.{IsPlayable}
use Rattle.vi_model.specs.Sound.{IsSound, SoundParts}
use Rattle.vi_model.specs.Worlds.{World, stand_of}
use Rattle.vi_sound.proofs.Values.Batches.{batch_all}
use Rattle.vi_sound.proofs.Space.Bounds.{no_line, one_batch, open_sum, zero_or, drivers_sum}
use Rattle.vi_sound.proofs.Moves.Drives.{line_below}
use Rattle.vi_sound.proofs.Values.Parcels.{all_from_test, line_all, driver_does_it}
use Rattle.vi_sound.proofs.Space.Room.{answers_once, submits_fit}
use Rattle.vi_sound.proofs.Values.Sums.{sum_to, sum_window}
use Rattle.vi_driver.specs.Drivers.{own_driver, continues_batch, next_line}
use Rattle.vi_driver.proofs.Batches.{one_batch-own, line_of-own}
use Rattle.vi_removals.specs.Takings.{has_id}
use Rattle.vi_control.specs.Calls.{IsCaller}
use Rattle.vi_control.specs.Plan.{plan_of}
use Rattle.vi_core.specs.DriverTurns.{IsParcel, HasLineRoom, HasDriveRoom}

-- ---- what a line awaits is of callers that there are

-- the caller of a line that there is
module _ (endpoints : List EndpointSetup) where
  caller_there : (lines : List Line) (c : Caller) → list_all (λ l. is_line endpoints l) lines ≡ true → 0 < count_lines lines c → is_caller_in endpoints c ≡ true
  caller_there [] c each some = absurd (omega (arith, some))
  caller_there (l ∷ ls) c each some = go (same_caller l.caller c) refl some (λ more. caller_there ls c parts.1 more)
    where
      parts : (is_line endpoints l ≡ true) × (list_all (λ l. is_line endpoints l) ls ≡ true)
      parts = and_parts (is_line endpoints l) (list_all (λ l. is_line endpoints l) ls) each

      rest : Bool
      rest = does l.caller l.add l.job && (is_job l.job && (not (job_runs_over l.job) && nat_le (length l.awaits) 16))

      go : (b : Bool) → same_caller l.caller c ≡ b → 0 < length (cond b (l ∷ filter (λ l. same_caller l.caller c) ls) (filter (λ l. same_caller l.caller c) ls))
          → (0 < count_lines ls c → is_caller_in endpoints c ≡ true) → is_caller_in endpoints c ≡ true
      go true e some later = subst (λ k. is_caller_in endpoints k ≡ true) (same_caller-eq l.caller c e) (and_parts (is_caller_in endpoints l.caller) rest parts.0).0
      go false e some later = later some

  awaited_there : (above : List Line) (caller : Caller) (a : Await) → list_all (λ l. is_line endpoints l) above ≡ true → awaits_well above caller a ≡ true → is_caller_in endpoints a.caller ≡ true
  awaited_there above caller a each well =
      let within = nat_le 1 a.line && nat_le a.line (count_lines above a.caller) in
      let inside = and_parts (nat_le 1 a.line) (nat_le a.line (count_lines above a.caller)) (and_parts (not (same_caller a.caller caller)) within well).1 in
      let low = leb-true 1 a.line inside.0 in
      let high = leb-true a.line (count_lines above a.caller) inside.1 in
      caller_there above a.caller each (omega (arith, low, high))

  awaited_each : (above lines : List Line) → list_all (λ l. is_line endpoints l) above ≡ true → list_all (λ l. is_line endpoints l) lines ≡ true → AwaitAbove above lines
      → AllByRecursion (λ l. All (λ a. is_caller_in endpoints a.caller ≡ true) l.awaits) lines
  awaited_each above [] before each awaits = tt
  awaited_each above (l ∷ ls) before each awaits =
      let parts = and_parts (is_line endpoints l) (list_all (λ l. is_line endpoints l) ls) each in
      let longer : list_all (λ l. is_line endpoints l) (above ++ l ∷ []) ≡ true = list_all-append (λ (l : Line). is_line endpoints l) above (l ∷ []) ∙ rw (before, parts.0) refl in (
        All-weaker (λ a. awaits_well above l.caller a ≡ true) (λ a. is_caller_in endpoints a.caller ≡ true) (λ a well. awaited_there above l.caller a before well) l.awaits
            (AllPass-from_list_all (λ a. awaits_well above l.caller a) l.awaits awaits.0),
        awaited_each (above ++ l ∷ []) ls longer parts.1 awaits.1,
      )

has_endpoint-id : (endpoints : List EndpointSetup) (id : ℕ) → has_endpoint endpoints id ≡ has_id id (map (λ e. e.id) endpoints)
has_endpoint-id [] id = refl
has_endpoint-id (e ∷ es) id = ap (λ b. (e.id == id) || b) (has_endpoint-id es id)

caller_is : (s : ScriptValue) (c : Caller) → is_caller_in s.setup.endpoints c ≡ true → IsCaller (ids_of s) c
caller_is s (Driver number) there = let most = leb-true number 7 there in omega (arith, most)
caller_is s (Back id) there = sym (has_endpoint-id s.setup.endpoints id) ∙ there

pub awaited_callers : (s : ScriptValue) (c : Caller) (line : ℕ) → IsValid s → All (λ a. IsCaller (ids_of s) a.caller) (awaits_of s c line)
awaited_callers s c line valid = go (line_of s c line) refl
  where
    go : (o : Option Line) → line_of s c line ≡ o → All (λ a. IsCaller (ids_of s) a.caller) (awaits_in o)
    go None e = All-nil (λ (a : Await). IsCaller (ids_of s) a.caller)
    go (Some l) e =
        let each = awaited_each s.setup.endpoints [] s.lines refl valid.lines_each valid.awaits_each in
        All-weaker (λ a. is_caller_in s.setup.endpoints a.caller ≡ true) (λ a. IsCaller (ids_of s) a.caller) (λ a there. caller_is s a.caller there) l.awaits
        (line_all (λ l. All (λ a. is_caller_in s.setup.endpoints a.caller ≡ true) l.awaits) s c line l each e)

-- ---- an answered line is open

same_some : {A : Type 0} (x y : A) → Some x ≡ Some y → x ≡ y
same_some x y h = cc

first_counted : (answers : List Answered) (a : Answered) → first_answer answers ≡ Some a → 0 < count_answers a.line answers
first_counted [] a h = absurd cc
first_counted (x ∷ rest) a h = go (first_answer rest) h (λ b e. first_counted rest b e)
  where
    mine : x ≡ a → 0 < one_if (x.line == a.line) + count_answers a.line rest
    mine same = let one : one_if (x.line == a.line) ≡ 1 = ap one_if (eq-eqb x.line a.line (ap (λ (y : Answered). y.line) same)) in omega (arith, one)

    go : (o : Option Answered) → Some (lower x o) ≡ Some a → ((b : Answered) → o ≡ Some b → 0 < count_answers b.line rest) → 0 < one_if (x.line == a.line) + count_answers a.line rest
    go None is later = mine (same_some x a is)
    go (Some b) is later = by (nat_lt b.line x.line) is
      where
        by : (v : Bool) → Some (cond v b x) ≡ Some a → 0 < one_if (x.line == a.line) + count_answers a.line rest
        by true is = let behind = subst (λ (y : Answered). 0 < count_answers y.line rest) (same_some b a is) (later b refl) in omega (arith, behind)
        by false is = mine (same_some x a is)

line_there : (line : ℕ) (lines : List ℕ) → 0 < count_line line lines → list_any (λ n. n == line) lines ≡ true
line_there line [] some = absurd (omega (arith, some))
line_there line (n ∷ ns) some = go (n == line) some (line_there line ns)
  where
    go : (b : Bool) → 0 < one_if b + count_line line ns → (0 < count_line line ns → list_any (λ n. n == line) ns ≡ true) → (b || list_any (λ n. n == line) ns) ≡ true
    go true some later = refl
    go false some later = later (omega (arith, some))

answered_open : (s : ScriptValue) (number : ℕ) (held : ℕ → ℕ) (entries : List Entry) (answers : List Answered) (posted : ℕ) (d : Stand) (a : Answered) → IsSoundDriver s number held entries answers posted d
    → first_answer answers ≡ Some a → list_any (λ n. n == a.line) d.open_lines ≡ true
answered_open s number held entries answers posted d a ok first =
    let some = first_counted answers a first in
    let one = ok.one a.line in
    line_there a.line d.open_lines (omega (arith, some, one))

-- ---- fewer than 8 lines are open where they are all of the next line's batch

one_of_sum : (n i : ℕ) (f : ℕ → ℕ) → i < n → f i ≤ sum_to n f
one_of_sum zero i f below = absurd (omega (arith, below))
one_of_sum (suc n) i f below = go (cases_eq i n) (λ less. one_of_sum n i f less)
  where
    go : (i ≡ n) ⊎ (i ≡ n → ⊥) → (i < n → f i ≤ sum_to n f) → f i ≤ sum_to n f + f n
    go (inl e) later = let last : f i ≡ f n = ap f e in omega (arith, last)
    go (inr ne) later = let before = later (omega (arith, ne, below)) in omega (arith, before)

batch_most : (s : ScriptValue) (number : ℕ) → IsValid s → number < driver_count → longest_batch s.lines (Driver number) ≤ 8
batch_most s number valid below =
    let one = one_of_sum driver_count number (λ i. longest_batch s.lines (Driver i)) below in
    let all = drivers_sum (λ i. longest_batch s.lines (Driver i)) in
    let most = valid.calls in
    omega (arith, one, all, most)

-- the next line is of the batch, too, and not open yet
batch_room : (s : ScriptValue) (number : ℕ) (held : ℕ → ℕ) (entries : List Entry) (answers : List Answered) (posted : ℕ) (d : Stand) (l : Line) → IsSoundDriver s number held entries answers posted d
    → line_of s (Driver number) (d.submitted + 1) ≡ Some l → is_one_batch s number d ≡ true → length d.open_lines < longest_batch s.lines (Driver number)
batch_room s number held entries answers posted d l ok next batch =
    let n = d.submitted + 1 in
    let longest = longest_batch s.lines (Driver number) in
    let within = line_below s number n l next in
    let here = one_batch s number n n no_line (omega arith) (omega arith) within refl in
    let lines = open_sum n d.open_lines (λ i some. let below = (ok.below i some).1 in omega (arith, below)) in
    let window = sum_window n (n + 1 - longest) n (λ i. count_line i d.open_lines) ok.once
    (λ i less. zero_or (count_line i d.open_lines) (λ some.
    let below = ok.below i some in
    let same = batch_all s (Driver number) (batch_of s (Driver number) n) i d.open_lines batch some in
    let near = one_batch s number i n no_line below.0 (omega (arith, below.1)) within same in
    omega (arith, near, less)))
    (λ i more. zero_or (count_line i d.open_lines) (λ some. let below = (ok.below i some).1 in omega (arith, below, more))) in
    let most = window.0 in
    omega (arith, lines, most, here)

-- ---- a driver's line is a request within the queue's limits, or a setting

-- a request has 20 to 72 bytes
record IsShort (size : ℕ) : Type 0 where
  some : 0 < size
  few : size ≤ 1024

short_request : (request : Request) → IsShort (length (request_bytes request))
unfolding request_bytes
short_request (Attach domain endpoint flags) = record { some = omega arith; few = omega arith }
short_request (Detach domain endpoint) = record { some = omega arith; few = omega arith }
short_request (Map domain first last target flags) = record { some = omega arith; few = omega arith }
short_request (Unmap domain first last) = record { some = omega arith; few = omega arith }
short_request (Probe endpoint) = record { some = omega arith; few = omega arith }

-- and a writable part of 4 or 516
short_part : (kind : ℕ) → writable_size kind ≤ 1024
short_part kind = go (kind == 5)
  where
    go : (b : Bool) → cond b 516 4 ≤ 1024
    go true = omega arith
    go false = omega arith

raw_parcel : (read write : ℕ) → is_raw read write ≡ true → (read ≤ 1024) × (write ≤ 1024) × (0 < read + write)
raw_parcel read write within =
    let a = and_parts (nat_le read 1024) (nat_le write 1024 && nat_lt 0 (read + write)) within in
    let b = and_parts (nat_le write 1024) (nat_lt 0 (read + write)) a.1 in
    (leb-true read 1024 a.0, leb-true write 1024 b.0, ltb-true 0 (read + write) b.1)

job_parcel : (add : Bool) (j : Job) → driver_does add j ≡ true → is_job j ≡ true → IsParcel (parcel_of j)
job_parcel add (job.Ask request) does_it within =
    let short = short_request request in
    let some = short.some in
    (short.few, short_part _, omega (arith, some))
job_parcel add (job.Raw read write) does_it within = raw_parcel (length read) write within
job_parcel add (job.Bypass on) does_it within = tt
job_parcel add (job.Read iova len) does_it within = absurd (false≢true does_it)
job_parcel add (job.Write iova bytes) does_it within = absurd (false≢true does_it)

line_within : (endpoints : List EndpointSetup) (l : Line) → is_line endpoints l ≡ true → is_job l.job ≡ true
line_within endpoints l ok =
    let limits = not (job_runs_over l.job) && nat_le (length l.awaits) 16 in
    let a = and_parts (is_caller_in endpoints l.caller) (does l.caller l.add l.job && (is_job l.job && limits)) ok in
    let b = and_parts (does l.caller l.add l.job) (is_job l.job && limits) a.1 in
    (and_parts (is_job l.job) limits b.1).0

line_parcel : (s : ScriptValue) (number line : ℕ) (l : Line) → IsValid s → line_of s (Driver number) line ≡ Some l → IsParcel (parcel_of l.job)
line_parcel s number line l valid at =
    let each = all_from_test (λ l. is_line s.setup.endpoints l) s.lines valid.lines_each in
    let ok = line_all (λ l. is_line s.setup.endpoints l ≡ true) s (Driver number) line l each at in
    job_parcel l.add l.job (driver_does_it s number line l valid at) (line_within s.setup.endpoints l ok)

-- ---- the room of a driver's turn

line_room : (s : ScriptValue) (w : World) (n : ℕ) (l : Line) → IsPlayable s → IsSound s w → SoundParts s w → n < driver_count → next_line (own_driver s n (stand_of w n)) ≡ Some l
    → continues_batch (own_driver s n (stand_of w n)) ≡ true → HasLineRoom w.control (own_driver s n (stand_of w n)) l
line_room s w n l play sound ok below is batch =
    let next : line_of s (Driver n) ((stand_of w n).submitted + 1) ≡ Some l = sym (line_of-own s n (stand_of w n)) ∙ is in
    let one : is_one_batch s n (stand_of w n) ≡ true = sym (one_batch-own s n (stand_of w n)) ∙ batch in
    let room = batch_room s n (count_held w.control.queue w.control.removals (port_of w.control n).setting n) w.history (port_of w.control n).answered (port_of w.control n).posted (stand_of w n) l (ok.drivers n below) next one in
    let most = batch_most s n play.valid below in
    record { room = submits_fit s w n l play sound below next one; open_lines = omega (arith, room, most); parcel = line_parcel s n ((stand_of w n).submitted + 1) l play.valid next }

pub drive_room : (s : ScriptValue) (w : World) (n : ℕ) → IsPlayable s → IsSound s w → n < driver_count → HasDriveRoom (plan_of s) w.control (own_driver s n (stand_of w n))
unfolding IsSound plan_of
drive_room s w n play ok below = record {
  number = below;
  ports = ok.ports;
  once = λ line. answers_once s w n line ok below;
  answered = λ a first. answered_open s n (count_held w.control.queue w.control.removals (port_of w.control n).setting n) w.history (port_of w.control n).answered (port_of w.control n).posted (stand_of w n) a (ok.drivers n below) first;
  submit = λ l is batch. line_room s w n l play ok ok below is batch;
  awaited = subst (λ o. All (λ a. IsCaller (ids_of s) a.caller) (awaits_in o)) (sym (line_of-own s n (stand_of w n))) (awaited_callers s (Driver n) ((stand_of w n).submitted + 1) play.valid);
}
