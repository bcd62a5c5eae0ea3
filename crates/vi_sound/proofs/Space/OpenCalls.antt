-- The drivers' open calls together, and that there is room for one more where a driver submits.
use Rattle.std.proofs.Common.{◌≡◌, ◌==◌, ℕ, zero, suc, ◌+◌, ◌-◌, ◌≤◌, ◌<◌, true, List, [], ◌∷◌, length, get_or, Option, Some, None, refl, arith, ap}
use Rattle.std.specs.Prelude.{sum_by}
use Rattle.std.proofs.lemmas.Bool.{eq-eqb}
use Rattle.std.proofs.lemmas.List.Sums.{sum_by-cons}
use Rattle.vi_history.specs.declared.call.Caller.TheVariants.{Driver}
use Rattle.vi_history.specs.declared.entry.Entry.{Entry}
use Rattle.vi_lines.specs.declared.line.Line.{Line}
use Rattle.vi_lines.specs.Value.{ScriptValue}
use Rattle.vi_lines.specs.Valid.{IsValid}
use Rattle.vi_lines.specs.Calls.{line_of}
use Rattle.vi_lines.specs.Limits.{longest_batch}
use Rattle.vi_lines.specs.Order.{batch_of}
use Rattle.vi_model.specs.Control.{Setting, Answered, Port, no_port, driver_count, port_of}
use Rattle.vi_model.specs.Drivers.{Stand, is_one_batch}
use Rattle.vi_model.specs.Worlds.{World, stand_of}
use Rattle.vi_model.specs.Asking.{one_if, count_option}
use Rattle.vi_model.specs.Held.{count_queued, count_removals, count_setting, count_answers, count_line, count_held, IsSoundDriver}
use Rattle.vi_model.specs.Sound.{SoundParts}
use Rattle.vi_model.specs.Bounds.{open_calls}
use Rattle.vi_sound.proofs.Values.Sums.{sum_to, sum_more, sum_zero, sum_one, sum_le, sum_lt, sum_same, sum_window}
use Rattle.vi_sound.proofs.Values.Batches.{batch_all}
use Rattle.vi_sound.proofs.Moves.Drives.{line_below}
use Rattle.vi_sound.proofs.Space.Bounds.{no_line, one_batch, open_few, zero_or, waiting_sum, drivers_sum}

sum_head : (n : ℕ) (f : ℕ → ℕ) → sum_to (suc n) f ≡ f 0 + sum_to n (λ i. f (suc i))
sum_head zero f = omega arith
sum_head (suc n) f = let r = sum_head n f in omega (arith, r)

-- a sum over the rows, by the drivers' numbers
rows_sum : (f : Port → ℕ) (ports : List Port) → sum_by f ports ≡ sum_to (length ports) (λ i. f (get_or ports i no_port))
rows_sum f [] = refl
rows_sum f (p ∷ ports) =
    let r = rows_sum f ports in
    let h = sum_head (length ports) (λ i. f (get_or (p ∷ ports) i no_port)) in
    let c = sum_by-cons f p ports in
    omega (arith, r, h, c)

setting_sum : (n : ℕ) (o : Option Setting) → ((line : ℕ) → 0 < count_setting line o → line < n) → sum_to n (λ line. count_setting line o) ≡ count_option o
setting_sum n None h = sum_zero n
setting_sum n (Some x) h = let self : one_if (x.line == x.line) ≡ 1 = ap one_if (eq-eqb x.line x.line refl) in sum_one n x.line (h x.line (omega (arith, self)))

answers_sum : (n : ℕ) (xs : List Answered) → ((line : ℕ) → 0 < count_answers line xs → line < n) → sum_to n (λ line. count_answers line xs) ≡ length xs
answers_sum n [] h = sum_zero n
answers_sum n (x ∷ xs) h =
    let m = sum_more n (λ line. one_if (x.line == line)) (λ line. count_answers line xs) in
    let u : one_if (x.line == x.line) ≡ 1 = ap one_if (eq-eqb x.line x.line refl) in
    let o = sum_one n x.line (h x.line (omega (arith, u))) in
    let r = answers_sum n xs (λ line i. h line (omega (arith, i))) in
    omega (arith, m, o, r)

-- a driver whose open lines are all of its next line's batch has fewer of them than its longest batch has lines
open_room : (s : ScriptValue) (j : ℕ) (held : ℕ → ℕ) (h : List Entry) (answers : List Answered) (posted : ℕ) (d : Stand) (l : Line) → IsSoundDriver s j held h answers posted d
    → line_of s (Driver j) (d.submitted + 1) ≡ Some l → is_one_batch s j d ≡ true → sum_to (d.submitted + 1) (λ line. count_line line d.open_lines) + 1 ≤ longest_batch s.lines (Driver j)
open_room s j held h answers posted d l ok next batch =
    let n = d.submitted + 1 in
    let within = line_below s j n l next in
    let here = one_batch s j n n no_line (omega arith) (omega arith) within refl in
    let w = sum_window n (n + 1 - longest_batch s.lines (Driver j)) n (λ line. count_line line d.open_lines) ok.once
    (λ i less. zero_or (count_line i d.open_lines) (λ o.
    let at = ok.below i o in
    let same = batch_all s (Driver j) (batch_of s (Driver j) n) i d.open_lines batch o in
    let near = one_batch s j i n no_line at.0 (omega (arith, at.1)) within same in
    omega (arith, near, less)))
    (λ i more. zero_or (count_line i d.open_lines) (λ o. let at = (ok.below i o).1 in omega (arith, at, more))) in
    let x = w.1 in
    omega (arith, x, here)

-- how many calls of a driver wait in the queue or in a removal, and how many in its row
abbrev waiting_in : World → ℕ → ℕ
waiting_in w i = sum_to ((stand_of w i).submitted + 1) (λ line. count_queued i line w.control.queue + count_removals i line w.control.removals)

abbrev row_count : World → ℕ → ℕ
row_count w i = let p : Port = port_of w.control i in count_option p.setting + length p.answered

-- together they are its open lines
all_open : (s : ScriptValue) (w : World) (i : ℕ) → SoundParts s w → i < driver_count → waiting_in w i + row_count w i ≡ sum_to ((stand_of w i).submitted + 1) (λ line. count_line line (stand_of w i).open_lines)
all_open s w i ok lt =
    let o = ok.drivers i lt in
    let n = (stand_of w i).submitted + 1 in
    let waits : ℕ → ℕ = λ line. count_queued i line w.control.queue + count_removals i line w.control.removals in
    let set : ℕ → ℕ = λ line. count_setting line (port_of w.control i).setting in
    let told : ℕ → ℕ = λ line. count_answers line (port_of w.control i).answered in
    let below : (line : ℕ) → 0 < count_line line (stand_of w i).open_lines → line < n = λ line k. (let b = (o.below line k).1 in omega (arith, b)) in
    let a = setting_sum n (port_of w.control i).setting (λ line k. below line (let e = o.one line in omega (arith, e, k))) in
    let b = answers_sum n (port_of w.control i).answered (λ line k. below line (let e = o.one line in omega (arith, e, k))) in
    let m = sum_more n set told in
    let p = sum_more n waits (λ line. set line + told line) in
    let same = sum_same n (λ line. waits line + (set line + told line)) (λ line. count_line line (stand_of w i).open_lines) (λ line k. let e = o.one line in omega (arith, e)) in
    omega (arith, a, b, m, p, same)

-- all of them are the calls that are open
open_total : (s : ScriptValue) (w : World) → SoundParts s w → sum_to driver_count (λ i. waiting_in w i + row_count w i) ≡ open_calls w.control
open_total s w ok =
    let t = waiting_sum s (λ i. (stand_of w i).submitted + 1) w.control.queue w.control.removals ok.queue ok.removals
    (λ i line l k. let o = ok.drivers i l in let n = o.one line in let b = (o.below line (omega (arith, n, k))).1 in omega (arith, b)) in
    let m = sum_more driver_count (λ i. waiting_in w i) (λ i. row_count w i) in
    let r = rows_sum (λ p. count_option p.setting + length p.answered) w.control.ports in
    let e : sum_to (length w.control.ports) (λ i. row_count w i) ≡ sum_to driver_count (λ i. row_count w i) = ap (λ n. sum_to n (λ i. row_count w i)) ok.ports in
    omega (arith, t, m, r, e)

driver_open : (s : ScriptValue) (w : World) (i : ℕ) → SoundParts s w → i < driver_count → waiting_in w i + row_count w i ≤ longest_batch s.lines (Driver i)
driver_open s w i ok lt =
    let few = open_few s i (count_held w.control.queue w.control.removals (port_of w.control i).setting i) w.history (port_of w.control i).answered (port_of w.control i).posted (stand_of w i) (ok.drivers i lt) in
    let is = all_open s w i ok lt in
    omega (arith, few, is)

pub open_calls_few : (s : ScriptValue) (w : World) → IsValid s → SoundParts s w → open_calls w.control ≤ 8
open_calls_few s w valid ok =
    let is = open_total s w ok in
    let l = sum_le driver_count (λ i. waiting_in w i + row_count w i) (λ i. longest_batch s.lines (Driver i)) (λ i lt. driver_open s w i ok lt) in
    let all = drivers_sum (λ number. longest_batch s.lines (Driver number)) in
    let most = valid.calls in
    omega (arith, is, l, all, most)

pub submits_few : (s : ScriptValue) (w : World) (j : ℕ) (l : Line) → IsValid s → SoundParts s w → j < driver_count → line_of s (Driver j) ((stand_of w j).submitted + 1) ≡ Some l
    → is_one_batch s j (stand_of w j) ≡ true → open_calls w.control < 8
submits_few s w j l valid ok lt next batch =
    let is = open_total s w ok in
    let room = open_room s j (count_held w.control.queue w.control.removals (port_of w.control j).setting j) w.history (port_of w.control j).answered (port_of w.control j).posted (stand_of w j) l (ok.drivers j lt) next batch in
    let mine = all_open s w j ok lt in
    let less = sum_lt driver_count j (λ i. waiting_in w i + row_count w i) (λ i. longest_batch s.lines (Driver i)) (λ i below. driver_open s w i ok below) lt (omega (arith, room, mine)) in
    let all = drivers_sum (λ number. longest_batch s.lines (Driver number)) in
    let most = valid.calls in
    omega (arith, is, less, all, most)
