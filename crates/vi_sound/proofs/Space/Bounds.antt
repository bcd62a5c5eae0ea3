-- The open lines, the open removals and the lanes are within their bounds.
use Rattle.std.proofs.Common.{◌≡◌, ◌==◌, ℕ, zero, suc, ◌+◌, ◌-◌, ◌≤◌, ◌<◌, Bool, true, false, cond, ◌&&◌, ◌||◌, List, [], ◌∷◌, ◌++◌, length, get_or, Option, refl, arith, ◌∙◌, ap, sym, subst, ◌⊎◌, inl, inr, length-append}
use Rattle.std.specs.List.{AllByRecursion, list_any, range_with_len}
use Rattle.std.specs.Prelude.{sum_by}
use Rattle.std.proofs.lemmas.Bool.{cases_eq, cases_lt, eq-eqb, ne_eqb}
use Rattle.vi_bytes.specs.declared.span.Span.{Span}
use Rattle.vi_history.specs.declared.call.Caller.TheVariants.{Driver}
use Rattle.vi_history.specs.declared.entry.Entry.{Entry}
use Rattle.vi_lines.specs.declared.job.Job.TheVariants as job
use Rattle.vi_lines.specs.declared.line.Line.{Line}
use Rattle.vi_lines.specs.Value.{ScriptValue}
use Rattle.vi_lines.specs.Valid.{IsValid}
use Rattle.vi_lines.specs.Calls.{lines_of}
use Rattle.vi_lines.specs.Limits.{longest_batch_from, longest_batch}
use Rattle.vi_lines.specs.Order.{batch_of}
use Rattle.vi_model.specs.Tasks.{reach_of}
use Rattle.vi_model.specs.declared.task.Task.{Task}
use Rattle.vi_model.specs.Lanes.{Down, Update, Invalidate, sent_reaches, count_updates}
use Rattle.vi_model.specs.Removals.{Removal, waits_for, awaited_reaches}
use Rattle.vi_model.specs.Control.{Queued, Answered, driver_count, port_of, link_of}
use Rattle.vi_model.specs.Places.{place_count}
use Rattle.vi_model.specs.Drivers.{Stand}
use Rattle.vi_model.specs.Worlds.{World, stand_of, seat_of}
use Rattle.vi_model.specs.Asking.{one_if}
use Rattle.vi_model.specs.Held.{IsRemoval, AreQueued, count_queued, count_removals, count_line, count_held, IsSoundDriver}
use Rattle.vi_model.specs.Sound.{SoundParts}
use Rattle.vi_sound.proofs.Values.Sums.{sum_to, sum_more, sum_zero, sum_one, sum_le, sum_lt, sum_same, sum_window}
use Rattle.vi_sound.proofs.Moves.Calls.{Held}
use Rattle.vi_sound.proofs.Values.Batches.{batch_ends, batch_rises}

-- ---- lines of one batch

-- m add lines at the front and a line behind them
adds_here : (before : ℕ) (ls : List Line) (m : ℕ) (d : Line) → m < length ls → ((k : ℕ) → k < m → (let l : Line = get_or ls k d in l.add) ≡ true) → before + m + 1 ≤ longest_batch_from before ls
adds_here before [] m d lt adds = absurd (omega (arith, lt))
adds_here before (l ∷ ls) zero d lt adds = omega arith
adds_here before (l ∷ ls) (suc m) d lt adds =
    let first : l.add ≡ true = adds 0 (omega arith) in
    let rest = adds_here (before + 1) ls m d (omega (arith, lt)) (λ k h. adds (suc k) (omega (arith, h))) in
    let is : longest_batch_from (cond l.add (before + 1) 0) ls ≡ longest_batch_from (before + 1) ls = ap (λ b. longest_batch_from (cond b (before + 1) 0) ls) first in
    omega (arith, rest, is)

adds_at : (before i : ℕ) (ls : List Line) (m : ℕ) (d : Line) → i + m < length ls → ((k : ℕ) → k < m → (let l : Line = get_or ls (i + k) d in l.add) ≡ true) → m + 1 ≤ longest_batch_from before ls
adds_at before zero ls m d lt adds =
    let r = adds_here before ls m d (omega (arith, lt)) (λ k h. let e : 0 + k ≡ k = omega arith in subst (λ n. (let l : Line = get_or ls n d in l.add) ≡ true) e (adds k h)) in omega (arith, r)
adds_at before (suc i) [] m d lt adds = absurd (omega (arith, lt))
adds_at before (suc i) (l ∷ ls) m d lt adds =
    let r = adds_at (cond l.add (before + 1) 0) i ls m d (omega (arith, lt)) (λ k h. let e : suc i + k ≡ suc (i + k) = omega arith in subst (λ n. (let x : Line = get_or (l ∷ ls) n d in x.add) ≡ true) e (adds k h)) in
    omega (arith, r)

-- what stands where no line is
pub no_line : Line
no_line = record { caller = Driver 0; job = job.Bypass true; add = false; awaits = [] }

get_or_same : {A : Type 0} (xs : List A) (i : ℕ) (d : A) → i < length xs → get_or xs i (get_or xs i d) ≡ get_or xs i d
get_or_same [] i d lt = absurd (omega (arith, lt))
get_or_same (x ∷ xs) zero d lt = refl
get_or_same (x ∷ xs) (suc i) d lt = get_or_same xs i d (omega (arith, lt))

-- two lines of one batch are no further apart than the longest batch is long
pub one_batch : (s : ScriptValue) (j a b : ℕ) (d : Line) → 1 ≤ a → a ≤ b → b ≤ length (lines_of s (Driver j)) → batch_of s (Driver j) a ≡ batch_of s (Driver j) b → b + 1 - a ≤ longest_batch s.lines (Driver j)
one_batch s j a b d low le within same =
    let r = adds_at 0 (a - 1) (lines_of s (Driver j)) (b - a) d (omega (arith, low, le, within)) adds in
    omega (arith, r, le)
  where
    adds : (k : ℕ) → k < b - a → (let l : Line = get_or (lines_of s (Driver j)) (a - 1 + k) d in l.add) ≡ true
    adds k h = go (let l : Line = get_or (lines_of s (Driver j)) (a - 1 + k) d in l.add) refl
      where
        go : (v : Bool) → (let l : Line = get_or (lines_of s (Driver j)) (a - 1 + k) d in l.add) ≡ v → (let l : Line = get_or (lines_of s (Driver j)) (a - 1 + k) d in l.add) ≡ true
        go true e = e
        go false e =
            let n : ℕ = a + k in
            let l : Line = get_or (lines_of s (Driver j)) (a - 1 + k) d in
            let at : a + k - 1 ≡ a - 1 + k = omega (arith, low) in
            let lt : a - 1 + k < length (lines_of s (Driver j)) = omega (arith, low, h, within) in
            let is : get_or (lines_of s (Driver j)) (a + k - 1) l ≡ l = ap (λ n. get_or (lines_of s (Driver j)) n l) at ∙ get_or_same (lines_of s (Driver j)) (a - 1 + k) d lt in
            let ends = batch_ends s (Driver j) (a + k) b l (omega (arith, low)) (omega (arith, h)) (omega (arith, h, within)) is e in
            let up = batch_rises s (Driver j) a (a + k) (omega arith) in
            absurd (omega (arith, ends, up, same))

-- ---- how many lines are open

pub open_sum : (n : ℕ) (xs : List ℕ) → ((line : ℕ) → 0 < count_line line xs → line < n) → sum_to n (λ line. count_line line xs) ≡ length xs
open_sum n [] h = sum_zero n
open_sum n (x ∷ xs) h =
    let m = sum_more n (λ line. one_if (x == line)) (λ line. count_line line xs) in
    let u : one_if (x == x) ≡ 1 = ap one_if (eq-eqb x x refl) in
    let o = sum_one n x (h x (omega (arith, u))) in
    let r = open_sum n xs (λ line i. h line (omega (arith, i))) in
    omega (arith, m, o, r)

highest : (xs : List ℕ) → (length xs ≡ 0) ⊎ ((a : ℕ) × (0 < count_line a xs) × ((b : ℕ) → 0 < count_line b xs → b ≤ a))
highest [] = inl refl
highest (x ∷ xs) = go (highest xs)
  where
    self : one_if (x == x) ≡ 1
    self = ap one_if (eq-eqb x x refl)

    rest : (b : ℕ) → (x ≡ b → ⊥) → 0 < one_if (x == b) + count_line b xs → 0 < count_line b xs
    rest b ne i = let z : one_if (x == b) ≡ 0 = ap one_if (ne_eqb x b ne) in omega (arith, i, z)

    none : (ys : List ℕ) (b : ℕ) → length ys ≡ 0 → count_line b ys ≡ 0
    none [] b h = refl
    none (y ∷ ys) b h = absurd (omega (arith, h))

    go : (length xs ≡ 0) ⊎ ((a : ℕ) × (0 < count_line a xs) × ((b : ℕ) → 0 < count_line b xs → b ≤ a)) → (suc (length xs) ≡ 0) ⊎ ((a : ℕ) × (0 < count_line a (x ∷ xs)) × ((b : ℕ) → 0 < count_line b (x ∷ xs) → b ≤ a))
    go (inl e) = inr (x, omega (arith, self), λ b i. low b i (cases_eq x b))
      where
        low : (b : ℕ) → 0 < one_if (x == b) + count_line b xs → (x ≡ b) ⊎ (x ≡ b → ⊥) → b ≤ x
        low b i (inl q) = omega (arith, q)
        low b i (inr ne) = let z = none xs b e in let r = rest b ne i in absurd (omega (arith, z, r))
    go (inr r) = by (cases_lt x r.0)
      where
        by : (x < r.0) ⊎ (r.0 ≤ x) → (suc (length xs) ≡ 0) ⊎ ((a : ℕ) × (0 < count_line a (x ∷ xs)) × ((b : ℕ) → 0 < count_line b (x ∷ xs) → b ≤ a))
        by (inl l) = inr (r.0, let i = r.1 in omega (arith, i), λ b i. low b i (cases_eq x b))
          where
            low : (b : ℕ) → 0 < one_if (x == b) + count_line b xs → (x ≡ b) ⊎ (x ≡ b → ⊥) → b ≤ r.0
            low b i (inl q) = omega (arith, q, l)
            low b i (inr ne) = r.2 b (rest b ne i)
        by (inr g) = inr (x, omega (arith, self), λ b i. low b i (cases_eq x b))
          where
            low : (b : ℕ) → 0 < one_if (x == b) + count_line b xs → (x ≡ b) ⊎ (x ≡ b → ⊥) → b ≤ x
            low b i (inl q) = omega (arith, q)
            low b i (inr ne) = let m = r.2 b (rest b ne i) in omega (arith, m, g)

pub zero_or : (n : ℕ) → (0 < n → ⊥) → n ≡ 0
zero_or n f = by (cases_eq n 0)
  where
    by : (n ≡ 0) ⊎ (n ≡ 0 → ⊥) → n ≡ 0
    by (inl e) = e
    by (inr ne) = absurd (f (omega (arith, ne)))

-- a driver has no more open lines than its longest batch has lines
pub open_few : (s : ScriptValue) (j : ℕ) (held : ℕ → ℕ) (h : List Entry) (answers : List Answered) (posted : ℕ) (d : Stand) → IsSoundDriver s j held h answers posted d
    → sum_to (d.submitted + 1) (λ line. count_line line d.open_lines) ≤ longest_batch s.lines (Driver j)
open_few s j held h answers posted d ok = go (highest d.open_lines)
  where
    below : (line : ℕ) → 0 < count_line line d.open_lines → line < d.submitted + 1
    below line i = let b = (ok.below line i).1 in omega (arith, b)

    go : (length d.open_lines ≡ 0) ⊎ ((a : ℕ) × (0 < count_line a d.open_lines) × ((b : ℕ) → 0 < count_line b d.open_lines → b ≤ a)) → sum_to (d.submitted + 1) (λ line. count_line line d.open_lines) ≤ longest_batch s.lines (Driver j)
    go (inl e) = let o = open_sum (d.submitted + 1) d.open_lines below in omega (arith, o, e)
    go (inr r) =
        let top = ok.below r.0 r.1 in
        let lines = ok.lines in
        let w = sum_window (d.submitted + 1) (r.0 + 1 - longest_batch s.lines (Driver j)) (r.0 + 1) (λ line. count_line line d.open_lines) ok.once
        (λ i l. zero_or (count_line i d.open_lines) (λ o.
        let same = ok.batch i r.0 o r.1 in
        let at = ok.below i o in
        let near = one_batch s j i r.0 no_line at.0 (r.2 i o) (omega (arith, top.1, lines)) same in
        omega (arith, near, l)))
        (λ i l. zero_or (count_line i d.open_lines) (λ o. let m = r.2 i o in omega (arith, m, l))) in
        let x = w.1 in
        omega (arith, x)

-- ---- how many calls wait for their answers

-- calls of drivers below the last one are found by their driver and line
removals_sum : (s : ScriptValue) (next : ℕ → ℕ) (rs : List Removal) → AllByRecursion (IsRemoval s (place_count s)) rs → ((j line : ℕ) → j < driver_count → 0 < count_removals j line rs → line < next j)
    → sum_to driver_count (λ j. sum_to (next j) (λ line. count_removals j line rs)) ≡ length rs
removals_sum s next [] ok h = sum_same driver_count (λ j. sum_to (next j) (λ line. 0)) (λ j. 0) (λ j l. sum_zero (next j)) ∙ sum_zero driver_count
removals_sum s next (r ∷ rs) ok h =
    let parts = sum_same driver_count (λ j. sum_to (next j) (λ line. count_removals j line (r ∷ rs))) (λ j. one_if (r.driver == j) + sum_to (next j) (λ line. count_removals j line rs)) (λ j l. inner j l (cases_eq r.driver j)) in
    let m = sum_more driver_count (λ j. one_if (r.driver == j)) (λ j. sum_to (next j) (λ line. count_removals j line rs)) in
    let o = sum_one driver_count r.driver ok.0.0.0 in
    let t = removals_sum s next rs ok.1 (λ j line l i. h j line l (omega (arith, i))) in
    omega (arith, parts, m, o, t)
  where
    inner : (j : ℕ) → j < driver_count → (r.driver ≡ j) ⊎ (r.driver ≡ j → ⊥) → sum_to (next j) (λ line. one_if ((r.driver == j) && (r.line == line)) + count_removals j line rs) ≡ one_if (r.driver == j) + sum_to (next j) (λ line. count_removals j line rs)
    inner j l (inl e) =
        let m = sum_more (next j) (λ line. one_if ((r.driver == j) && (r.line == line))) (λ line. count_removals j line rs) in
        let same = sum_same (next j) (λ line. one_if ((r.driver == j) && (r.line == line))) (λ line. one_if (r.line == line)) (λ line k. ap (λ b. one_if (b && (r.line == line))) (eq-eqb r.driver j e)) in
        let self : one_if ((r.driver == j) && (r.line == r.line)) ≡ 1 = ap (λ b. one_if (b && (r.line == r.line))) (eq-eqb r.driver j e) ∙ ap one_if (eq-eqb r.line r.line refl) in
        let o = sum_one (next j) r.line (h j r.line l (omega (arith, self))) in
        let u : one_if (r.driver == j) ≡ 1 = ap one_if (eq-eqb r.driver j e) in
        omega (arith, m, same, o, u)
    inner j l (inr ne) =
        let m = sum_more (next j) (λ line. one_if ((r.driver == j) && (r.line == line))) (λ line. count_removals j line rs) in
        let same = sum_same (next j) (λ line. one_if ((r.driver == j) && (r.line == line))) (λ line. 0) (λ line k. ap (λ b. one_if (b && (r.line == line))) (ne_eqb r.driver j ne)) in
        let z = sum_zero (next j) in
        let u : one_if (r.driver == j) ≡ 0 = ap one_if (ne_eqb r.driver j ne) in
        omega (arith, m, same, z, u)

-- the request queue and the open removals together
pub waiting_sum : (s : ScriptValue) (next : ℕ → ℕ) (qs : List Queued) (rs : List Removal) → AreQueued s qs → AllByRecursion (IsRemoval s (place_count s)) rs
    → ((j line : ℕ) → j < driver_count → 0 < count_queued j line qs + count_removals j line rs → line < next j)
    → sum_to driver_count (λ j. sum_to (next j) (λ line. count_queued j line qs + count_removals j line rs)) ≡ length qs + length rs
waiting_sum s next [] rs q ok h =
    let same = sum_same driver_count (λ j. sum_to (next j) (λ line. 0 + count_removals j line rs)) (λ j. sum_to (next j) (λ line. count_removals j line rs)) (λ j l. sum_same (next j) (λ line. 0 + count_removals j line rs) (λ line. count_removals j line rs) (λ line k. omega arith)) in
    let r = removals_sum s next rs ok (λ j line l i. h j line l (omega (arith, i))) in omega (arith, same, r)
waiting_sum s next (x ∷ qs) rs q ok h =
    let parts = sum_same driver_count (λ j. sum_to (next j) (λ line. count_queued j line (x ∷ qs) + count_removals j line rs)) (λ j. one_if (x.driver == j) + sum_to (next j) (λ line. count_queued j line qs + count_removals j line rs)) (λ j l. inner j l (cases_eq x.driver j)) in
    let m = sum_more driver_count (λ j. one_if (x.driver == j)) (λ j. sum_to (next j) (λ line. count_queued j line qs + count_removals j line rs)) in
    let o = sum_one driver_count x.driver q.0.0 in
    let t = waiting_sum s next qs rs q.1 ok (λ j line l i. h j line l (omega (arith, i))) in
    omega (arith, parts, m, o, t)
  where
    inner : (j : ℕ) → j < driver_count → (x.driver ≡ j) ⊎ (x.driver ≡ j → ⊥)
        → sum_to (next j) (λ line. one_if ((x.driver == j) && (x.line == line)) + count_queued j line qs + count_removals j line rs) ≡ one_if (x.driver == j) + sum_to (next j) (λ line. count_queued j line qs + count_removals j line rs)
    inner j l c =
        let split = sum_same (next j) (λ line. one_if ((x.driver == j) && (x.line == line)) + count_queued j line qs + count_removals j line rs) (λ line. one_if ((x.driver == j) && (x.line == line)) + (count_queued j line qs + count_removals j line rs)) (λ line k. omega arith) in
        let m = sum_more (next j) (λ line. one_if ((x.driver == j) && (x.line == line))) (λ line. count_queued j line qs + count_removals j line rs) in
        by split m c
      where
        by : sum_to (next j) (λ line. one_if ((x.driver == j) && (x.line == line)) + count_queued j line qs + count_removals j line rs) ≡ sum_to (next j) (λ line. one_if ((x.driver == j) && (x.line == line)) + (count_queued j line qs + count_removals j line rs))
            → sum_to (next j) (λ line. one_if ((x.driver == j) && (x.line == line)) + (count_queued j line qs + count_removals j line rs)) ≡ sum_to (next j) (λ line. one_if ((x.driver == j) && (x.line == line))) + sum_to (next j) (λ line. count_queued j line qs + count_removals j line rs)
            → (x.driver ≡ j) ⊎ (x.driver ≡ j → ⊥)
            → sum_to (next j) (λ line. one_if ((x.driver == j) && (x.line == line)) + count_queued j line qs + count_removals j line rs) ≡ one_if (x.driver == j) + sum_to (next j) (λ line. count_queued j line qs + count_removals j line rs)
        by split m (inl e) =
            let same = sum_same (next j) (λ line. one_if ((x.driver == j) && (x.line == line))) (λ line. one_if (x.line == line)) (λ line k. ap (λ b. one_if (b && (x.line == line))) (eq-eqb x.driver j e)) in
            let self : one_if ((x.driver == j) && (x.line == x.line)) ≡ 1 = ap (λ b. one_if (b && (x.line == x.line))) (eq-eqb x.driver j e) ∙ ap one_if (eq-eqb x.line x.line refl) in
            let o = sum_one (next j) x.line (h j x.line l (omega (arith, self))) in
            let u : one_if (x.driver == j) ≡ 1 = ap one_if (eq-eqb x.driver j e) in
            omega (arith, split, m, same, o, u)
        by split m (inr ne) =
            let same = sum_same (next j) (λ line. one_if ((x.driver == j) && (x.line == line))) (λ line. 0) (λ line k. ap (λ b. one_if (b && (x.line == line))) (ne_eqb x.driver j ne)) in
            let z = sum_zero (next j) in
            let u : one_if (x.driver == j) ≡ 0 = ap one_if (ne_eqb x.driver j ne) in
            omega (arith, split, m, same, z, u)

-- the sum over drivers that a script is held to
pub drivers_sum : (f : ℕ → ℕ) → sum_by f (range_with_len 0 8) ≡ sum_to 8 f
drivers_sum f = omega arith

-- the queued requests and the open removals are no more than the calls that may be open
pub waiting_few : (s : ScriptValue) (w : World) → IsValid s → SoundParts s w → length w.control.queue + length w.control.removals ≤ 8
waiting_few s w valid ok =
    let t = waiting_sum s (λ i. (stand_of w i).submitted + 1) w.control.queue w.control.removals ok.queue ok.removals
    (λ i line l k. let o = ok.drivers i l in let n = o.one line in let b = (o.below line (omega (arith, n, k))).1 in omega (arith, b)) in
    let l = sum_le driver_count (λ i. sum_to ((stand_of w i).submitted + 1) (λ line. count_queued i line w.control.queue + count_removals i line w.control.removals)) (λ i. longest_batch s.lines (Driver i)) each in
    let all = drivers_sum (λ number. longest_batch s.lines (Driver number)) in
    let most = valid.calls in
    omega (arith, t, l, all, most)
  where
    each : (i : ℕ) → i < driver_count → sum_to ((stand_of w i).submitted + 1) (λ line. count_queued i line w.control.queue + count_removals i line w.control.removals) ≤ longest_batch s.lines (Driver i)
    each i l =
        let o = ok.drivers i l in
        let few = open_few s i (count_held w.control.queue w.control.removals (port_of w.control i).setting i) w.history (port_of w.control i).answered (port_of w.control i).posted (stand_of w i) o in
        let le = sum_le ((stand_of w i).submitted + 1) (λ line. count_queued i line w.control.queue + count_removals i line w.control.removals) (λ line. count_line line (stand_of w i).open_lines) (λ line k. let n = o.one line in omega (arith, n)) in
        omega (arith, few, le)

-- where a call is in no place, one more removal fits
pub removal_room : (s : ScriptValue) (w : World) (j line : ℕ) (q : Task) → IsValid s → Held s w j line q → length w.control.removals + 1 ≤ 8
removal_room s w j at q valid h =
    let t = removals_sum s (λ i. (stand_of w i).submitted + 1) w.control.removals h.removals (λ i line l k. lines i line l k (cases_eq i j)) in
    let l = sum_lt driver_count j (λ i. sum_to ((stand_of w i).submitted + 1) (λ line. count_removals i line w.control.removals)) (λ i. longest_batch s.lines (Driver i)) (λ i l. each i l (cases_eq i j)) h.call.0 mine in
    let all = drivers_sum (λ number. longest_batch s.lines (Driver number)) in
    let most = valid.calls in
    omega (arith, t, l, all, most)
  where
    mine : sum_to ((stand_of w j).submitted + 1) (λ line. count_removals j line w.control.removals) + 1 ≤ longest_batch s.lines (Driver j)
    mine =
        let few = open_few s j (λ line. count_held w.control.queue w.control.removals (port_of w.control j).setting j line + one_if (at == line)) w.history (port_of w.control j).answered (port_of w.control j).posted (stand_of w j) h.mine in
        let le = sum_le ((stand_of w j).submitted + 1) (λ line. count_removals j line w.control.removals + one_if (at == line)) (λ line. count_line line (stand_of w j).open_lines) (λ line k. let o = h.mine.one line in omega (arith, o)) in
        let m = sum_more ((stand_of w j).submitted + 1) (λ line. count_removals j line w.control.removals) (λ line. one_if (at == line)) in
        let self : one_if (at == at) ≡ 1 = ap one_if (eq-eqb at at refl) in
        let o = sum_one ((stand_of w j).submitted + 1) at (let n = h.mine.one at in let b = (h.mine.below at (omega (arith, n, self))).1 in omega (arith, b)) in
        omega (arith, few, le, m, o)

    each : (i : ℕ) → i < driver_count → (i ≡ j) ⊎ (i ≡ j → ⊥) → sum_to ((stand_of w i).submitted + 1) (λ line. count_removals i line w.control.removals) ≤ longest_batch s.lines (Driver i)
    each i l (inl e) = subst (λ n. sum_to ((stand_of w n).submitted + 1) (λ line. count_removals n line w.control.removals) ≤ longest_batch s.lines (Driver n)) (sym e) (let m = mine in omega (arith, m))
    each i l (inr ne) =
        let o = h.others i l ne in
        let few = open_few s i (count_held w.control.queue w.control.removals (port_of w.control i).setting i) w.history (port_of w.control i).answered (port_of w.control i).posted (stand_of w i) o in
        let le = sum_le ((stand_of w i).submitted + 1) (λ line. count_removals i line w.control.removals) (λ line. count_line line (stand_of w i).open_lines) (λ line k. let n = o.one line in omega (arith, n)) in
        omega (arith, few, le)

    own : (line : ℕ) → 0 < count_removals j line w.control.removals → line < (stand_of w j).submitted + 1
    own line k = let n = h.mine.one line in let m = (h.mine.below line (omega (arith, n, k))).1 in omega (arith, m)

    lines : (i line : ℕ) → i < driver_count → 0 < count_removals i line w.control.removals → (i ≡ j) ⊎ (i ≡ j → ⊥) → line < (stand_of w i).submitted + 1
    lines i line l k (inl e) = subst (λ n. line < (stand_of w n).submitted + 1) (sym e) (own line (subst (λ n. 0 < count_removals n line w.control.removals) e k))
    lines i line l k (inr ne) = let o = h.others i l ne in let n = o.one line in let m = (o.below line (omega (arith, n, k))).1 in omega (arith, m)

-- a driver's answers, too
pub open_lines_few : (s : ScriptValue) (w : World) → IsValid s → SoundParts s w → sum_to driver_count (λ j. (let d : Stand = stand_of w j in length d.open_lines)) ≤ 8
open_lines_few s w valid ok =
    let l = sum_le driver_count (λ j. (let d : Stand = stand_of w j in length d.open_lines)) (λ i. longest_batch s.lines (Driver i)) each in
    let all = drivers_sum (λ number. longest_batch s.lines (Driver number)) in
    let most = valid.calls in
    omega (arith, l, all, most)
  where
    each : (i : ℕ) → i < driver_count → (let d : Stand = stand_of w i in length d.open_lines) ≤ longest_batch s.lines (Driver i)
    each i l =
        let o = ok.drivers i l in
        let few = open_few s i (count_held w.control.queue w.control.removals (port_of w.control i).setting i) w.history (port_of w.control i).answered (port_of w.control i).posted (stand_of w i) o in
        let e = open_sum ((stand_of w i).submitted + 1) (stand_of w i).open_lines (λ line k. let b = (o.below line k).1 in omega (arith, b)) in
        omega (arith, few, e)

-- ---- lanes

down_length : (fs : List Down) → length fs ≡ count_updates fs + length (sent_reaches fs)
down_length [] = refl
down_length (Update l ∷ fs) = let r = down_length fs in omega (arith, r)
down_length (Invalidate s ∷ fs) = let r = down_length fs in omega (arith, r)

waits_length : (k : ℕ) (rs : List Removal) → length (awaited_reaches k rs) ≤ length rs
waits_length k [] = omega arith
waits_length k (r ∷ rs) = go (waits_for k r) (waits_length k rs)
  where
    go : (b : Bool) → length (awaited_reaches k rs) ≤ length rs → length (cond b (reach_of r.task ∷ awaited_reaches k rs) (awaited_reaches k rs)) ≤ suc (length rs)
    go true h = omega (arith, h)
    go false h = omega (arith, h)

pub one_most : (b : Bool) → one_if b ≤ 1
one_most true = omega arith
one_most false = omega arith

-- the lanes of a back end: frames down, acknowledgements up, and both together
pub lanes_few : (s : ScriptValue) (w : World) (k : ℕ) → SoundParts s w → k < place_count s
    → (length (link_of w.control k).down + (link_of w.control k).acks ≤ length w.control.removals + length (link_of w.control k).replies) × (length (link_of w.control k).up + length (link_of w.control k).replies ≤ 1)
lanes_few s w k ok lt =
    let p = ok.backs k lt in
    let a = down_length (link_of w.control k).down in
    let b = waits_length k w.control.removals in
    let c : length (awaited_reaches k w.control.removals) ≡ length (p.link.gone ++ sent_reaches (link_of w.control k).down) = ap (λ (xs : List (Option Span)). length xs) p.link.order in
    let d = length-append p.link.gone (sent_reaches (link_of w.control k).down) in
    let e = p.link.count in
    let u = p.miss.updates in
    let o = p.miss.one in
    let m = one_most (seat_of w k).asking in
    (omega (arith, a, b, c, d, e, u), omega (arith, o, m))

-- the acknowledgements under way and the Invalidates, of open removals each
pub acks_few : (s : ScriptValue) (w : World) (k : ℕ) → SoundParts s w → k < place_count s → (link_of w.control k).acks + length (sent_reaches (link_of w.control k).down) ≤ length w.control.removals
acks_few s w k ok lt =
    let p = ok.backs k lt in
    let b = waits_length k w.control.removals in
    let c : length (awaited_reaches k w.control.removals) ≡ length (p.link.gone ++ sent_reaches (link_of w.control k).down) = ap (λ (xs : List (Option Span)). length xs) p.link.order in
    let d = length-append p.link.gone (sent_reaches (link_of w.control k).down) in
    let e = p.link.count in
    omega (arith, b, c, d, e)

-- one that is awaited is waited for
some_waits : (k : ℕ) (rs : List Removal) → 0 < length (awaited_reaches k rs) → list_any (waits_for k) rs ≡ true
some_waits k [] h = absurd (omega (arith, h))
some_waits k (r ∷ rs) h = go (waits_for k r) h (some_waits k rs)
  where
    go : (b : Bool) → 0 < length (cond b (reach_of r.task ∷ awaited_reaches k rs) (awaited_reaches k rs)) → (0 < length (awaited_reaches k rs) → list_any (waits_for k) rs ≡ true) → (b || list_any (waits_for k) rs) ≡ true
    go true h rest = refl
    go false h rest = rest h

pub acks_awaited : (s : ScriptValue) (w : World) (k : ℕ) → SoundParts s w → k < place_count s → 0 < (link_of w.control k).acks → list_any (waits_for k) w.control.removals ≡ true
acks_awaited s w k ok lt some =
    let p = ok.backs k lt in
    let c : length (awaited_reaches k w.control.removals) ≡ length (p.link.gone ++ sent_reaches (link_of w.control k).down) = ap (λ (xs : List (Option Span)). length xs) p.link.order in
    let d = length-append p.link.gone (sent_reaches (link_of w.control k).down) in
    let e = p.link.count in
    some_waits k w.control.removals (omega (arith, c, d, e, some))
