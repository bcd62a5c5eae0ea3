-- The opening world's bound is within the number of rounds, so every world is finished in so many.
use Rattle.std.proofs.Common.{◌≡◌, ℕ, zero, suc, ◌+◌, ◌-◌, ◌*◌, ◌≤◌, ◌<◌, false, ◌||◌, List, [], ◌∷◌, length, slice_get, Some, refl, arith, ◌∙◌, ap}
use Rattle.std.specs.Prelude.{sum_by}
use Rattle.std.proofs.Math.Nat.{mul-le-mul_right}
use Rattle.std.proofs.lemmas.List.Sums.{sum_by-cons}
use Rattle.vi_history.specs.declared.call.Caller.TheVariants.{Driver}
use Rattle.vi_lines.specs.declared.line.Line.{Line}
use Rattle.vi_lines.specs.Value.{ScriptValue}
use Rattle.vi_lines.specs.Valid.{IsValid}
use Rattle.vi_lines.specs.Calls.{lines_of, parts_of}
use Rattle.vi_model.specs.Control.{driver_count, no_port, port_of, link_of}
use Rattle.vi_model.specs.Places.{place_count, id_at, back_at}
use Rattle.vi_model.specs.Drivers.{no_stand}
use Rattle.vi_model.specs.Backs.{no_seat}
use Rattle.vi_model.specs.Worlds.{World, opening, stand_of, seat_of}
use Rattle.vi_model.specs.Turns.{run}
use Rattle.vi_model.specs.Rooms.{all_parts, is_back}
use Rattle.vi_model.specs.Asking.{one_if}
use Rattle.vi_model.specs.Rounds.{calls_in, calls_of, RoundsFinish}
use Rattle.vi_model.specs.Bound.{current_access, is_cached, work_from, place_cost, places_cost, times, total, call_cost, driver_cost, drivers_cost, measure}
use Rattle.vi_sound.proofs.Values.Totals.{total_le, total_rise}
use Rattle.vi_sound.proofs.Falling.Costs.{lack_most}
use Rattle.vi_lines.specs.Valid.{is_line, is_caller_in}
use Rattle.vi_lines.specs.Rules.{count_lines}
use Rattle.vi_lines.specs.Calls.{same_caller}
use Rattle.vi_lines.proofs.IndexLemmas.{same_caller-self}
use Rattle.vi_history.specs.declared.call.Caller.{Caller}
use Rattle.vi_history.specs.declared.call.Caller.TheVariants.{Back}
use Rattle.std.specs.Prelude.{filter}
use Rattle.std.specs.List.{list_all}
use Rattle.std.proofs.Common.{Bool, true, cond, sym, subst}
use Rattle.std.proofs.lemmas.Bool.{and_parts, leb-true, eq-eqb, ne_eqb}
use Rattle.vi_sound.proofs.Values.Known.{place_there}
use Rattle.vi_sound.proofs.Values.Ids.{back_other}
use Rattle.vi_sound.proofs.Falling.Falls.{line_get}
use Rattle.vi_sound.proofs.Values.DueParts.{some_parts}
use Rattle.vi_sound.proofs.Moves.Opening.{same_all, fresh_link, opening_link, opening_sound}
use Rattle.vi_sound.proofs.Moves.Turns.{run_sound}
use Rattle.vi_sound.proofs.Falling.Rounds.{run_low, rounds_finish}

-- ---- sums

total_none : (f : ℕ → ℕ) (n : ℕ) → ((i : ℕ) → f i ≡ 0) → total f n ≡ 0
total_none f zero h = refl
total_none f (suc n) h = let r = total_none f n h in let o = h n in omega (arith, r, o)

-- how many parts these lines have of the back end at a place
abbrev parts_at : ScriptValue → List Line → ℕ → ℕ
parts_at s ls k = sum_by (λ (l : Line). parts_of l.job) (filter (λ l. same_caller l.caller (back_at s k)) ls)

-- ---- places

work_low : (ls : List Line) → ((n : ℕ) (l : Line) → slice_get ls n ≡ Some l → 1 ≤ parts_of l.job) → work_from 0 ls ≤ 9 * sum_by (λ (l : Line). parts_of l.job) ls
work_low [] h = omega arith
work_low (l ∷ ls) h =
    let i = work_low ls (λ n k e. h (suc n) k e) in
    let p = h 0 l refl in
    let c = sum_by-cons (λ (l : Line). parts_of l.job) l ls in
    omega (arith, i, p, c)

place_low : (s : ScriptValue) (k : ℕ) → IsValid s → k < place_count s → place_cost s k (link_of (let w : World = opening s in w.control) k) (seat_of (opening s) k) ≤ 9 * sum_by (λ (l : Line). parts_of l.job) (lines_of s (back_at s k)) + 6
unfolding opening
place_low s k valid lt =
    let e : place_cost s k (link_of (let w : World = opening s in w.control) k) (seat_of (opening s) k) ≡ place_cost s k (fresh_link (all_parts s)) no_seat =
    ap (λ x. place_cost s k x (seat_of (opening s) k)) (opening_link (place_count s) k (all_parts s) lt) ∙ ap (λ z. place_cost s k (fresh_link (all_parts s)) z) (same_all (place_count s) k no_seat) in
    let l = lack_most false (is_cached (current_access s k no_seat) [] || false) in
    let w = work_low (lines_of s (back_at s k)) (λ n l h. some_parts s (id_at s k) (n + 1) l valid (line_get s (back_at s k) n ∙ h)) in
    omega (arith, e, l, w)

total_scaled : (f g : ℕ → ℕ) (n : ℕ) → ((i : ℕ) → i < n → g i ≤ 9 * f i + 6) → total g n ≤ 9 * total f n + 6 * n
total_scaled f g zero h = omega arith
total_scaled f g (suc n) h = let a = h n (omega arith) in let b = total_scaled f g n (λ i lt. h i (omega (arith, lt))) in omega (arith, a, b)

places_low : (s : ScriptValue) → IsValid s → places_cost s (opening s) ≤ 9 * total (parts_at s s.lines) (place_count s) + 6 * place_count s
places_low s valid =
    total_scaled (parts_at s s.lines) (λ k. place_cost s k (link_of (let w : World = opening s in w.control) k) (seat_of (opening s) k)) (place_count s) (λ k lt. place_low s k valid lt)

-- ---- drivers

times_add : (c a b : ℕ) → times c (a + b) ≡ times c a + times c b
times_add c zero b = let e : 0 + b ≡ b = omega arith in ap (times c) e ∙ omega arith
times_add c (suc a) b = let e : suc a + b ≡ suc (a + b) = omega arith in let i = times_add c a b in ap (times c) e ∙ omega (arith, i)

times_both : (a b n : ℕ) → times (a + b) n ≡ times a n + times b n
times_both a b zero = omega arith
times_both a b (suc n) = let i = times_both a b n in omega (arith, i)

times_seven : (n : ℕ) → times 7 n ≡ 7 * n
times_seven zero = omega arith
times_seven (suc n) = let i = times_seven n in omega (arith, i)

times_is : (c n : ℕ) → times c n ≡ c * n
times_is c zero = omega arith
times_is c (suc n) = let i = times_is c n in let e : c * suc n ≡ c + c * n = grind arith in omega (arith, i, e)

total_times : (c : ℕ) (f : ℕ → ℕ) (n : ℕ) → total (λ j. times c (f j)) n ≡ times c (total f n)
total_times c f zero = refl
total_times c f (suc n) = let i = total_times c f n in let a = times_add c (f n) (total f n) in omega (arith, i, a)

drivers_low : (s : ScriptValue) → drivers_cost s (opening s) ≤ times (call_cost s + 1) (total (λ j. length (lines_of s (Driver j))) driver_count)
unfolding opening
drivers_low s =
    let t = total_le (λ j. times (call_cost s + 1) (length (lines_of s (Driver j)))) (λ j. driver_cost s j (port_of (let w : World = opening s in w.control) j) (stand_of (opening s) j)) driver_count
    (λ j lt. let e : driver_cost s j (port_of (let w : World = opening s in w.control) j) (stand_of (opening s) j) ≡ driver_cost s j no_port no_stand =
    ap (λ p. driver_cost s j p (stand_of (opening s) j)) (same_all driver_count j no_port) ∙ ap (λ d. driver_cost s j no_port d) (same_all driver_count j no_stand) in
    let z : length (lines_of s (Driver j)) - 0 ≡ length (lines_of s (Driver j)) = omega arith in
    let y : times (call_cost s + 1) (length (lines_of s (Driver j)) - 0) ≡ times (call_cost s + 1) (length (lines_of s (Driver j))) = ap (times (call_cost s + 1)) z in
    omega (arith, e, y)) in
    let h = total_times (call_cost s + 1) (λ j. length (lines_of s (Driver j))) driver_count in
    omega (arith, t, h)

-- ---- each line is of one caller

count_cons : (p : Line → Bool) (l : Line) (ls : List Line) (b : Bool) → p l ≡ b → length (filter p (l ∷ ls)) ≡ one_if b + length (filter p ls)
count_cons p l ls true e = let r : length (filter p (l ∷ ls)) ≡ suc (length (filter p ls)) = ap (λ v. length (cond v (l ∷ filter p ls) (filter p ls))) e in omega (arith, r)
count_cons p l ls false e = let r : length (filter p (l ∷ ls)) ≡ length (filter p ls) = ap (λ v. length (cond v (l ∷ filter p ls) (filter p ls))) e in omega (arith, r)

parts_cons : (p : Line → Bool) (l : Line) (ls : List Line) (b : Bool) → p l ≡ b → sum_by (λ (l : Line). parts_of l.job) (filter p (l ∷ ls)) ≡ cond b (parts_of l.job) 0 + sum_by (λ (l : Line). parts_of l.job) (filter p ls)
parts_cons p l ls true e = ap (λ v. sum_by (λ (l : Line). parts_of l.job) (cond v (l ∷ filter p ls) (filter p ls))) e ∙ sum_by-cons (λ (l : Line). parts_of l.job) l (filter p ls)
parts_cons p l ls false e = ap (λ v. sum_by (λ (l : Line). parts_of l.job) (cond v (l ∷ filter p ls) (filter p ls))) e ∙ omega arith

calls_all : (s : ScriptValue) (ls : List Line) → IsValid s → list_all (λ l. is_line s.setup.endpoints l) ls ≡ true → total (λ j. count_lines ls (Driver j)) driver_count + total (parts_at s ls) (place_count s) ≤ sum_by (λ l. calls_in l) ls
calls_all s [] valid h =
    let a = total_none (λ j. count_lines [] (Driver j)) driver_count (λ j. refl) in
    let b = total_none (parts_at s []) (place_count s) (λ k. refl) in
    omega (arith, a, b)
calls_all s (l ∷ ls) valid h = go l.caller refl (calls_all s ls valid (and_parts (is_line s.setup.endpoints l) (list_all (λ l. is_line s.setup.endpoints l) ls) h).1)
  where
    both : (is_line s.setup.endpoints l ≡ true) × (list_all (λ l. is_line s.setup.endpoints l) ls ≡ true)
    both = and_parts (is_line s.setup.endpoints l) (list_all (λ l. is_line s.setup.endpoints l) ls) h

    there : is_caller_in s.setup.endpoints l.caller ≡ true
    there = (and_parts (is_caller_in s.setup.endpoints l.caller) _ both.0).0

    more : sum_by (λ l. calls_in l) (l ∷ ls) ≡ calls_in l + sum_by (λ l. calls_in l) ls
    more = sum_by-cons (λ l. calls_in l) l ls

    drivers : (j : ℕ) (b : Bool) → same_caller l.caller (Driver j) ≡ b → count_lines (l ∷ ls) (Driver j) ≡ one_if b + count_lines ls (Driver j)
    drivers j b e = count_cons (λ l. same_caller l.caller (Driver j)) l ls b e

    places : (k : ℕ) (b : Bool) → same_caller l.caller (back_at s k) ≡ b → parts_at s (l ∷ ls) k ≡ cond b (parts_of l.job) 0 + parts_at s ls k
    places k b e = parts_cons (λ l. same_caller l.caller (back_at s k)) l ls b e

    go : (c : Caller) → l.caller ≡ c → total (λ j. count_lines ls (Driver j)) driver_count + total (parts_at s ls) (place_count s) ≤ sum_by (λ l. calls_in l) ls → total (λ j. count_lines (l ∷ ls) (Driver j)) driver_count + total (parts_at s (l ∷ ls)) (place_count s) ≤ sum_by (λ l. calls_in l) (l ∷ ls)
    go (Driver d) e rest =
        let low = leb-true d 7 (subst (λ c. is_caller_in s.setup.endpoints c ≡ true) e there) in
        let a = total_rise (λ j. count_lines ls (Driver j)) (λ j. count_lines (l ∷ ls) (Driver j)) 1 driver_count d (omega (arith, low))
        (let m = drivers d true (ap (λ c. same_caller c (Driver d)) e ∙ eq-eqb d d refl) in omega (arith, m))
        (λ j below ne. let m = drivers j false (ap (λ c. same_caller c (Driver j)) e ∙ ne_eqb d j (λ q. ne (sym q))) in omega (arith, m)) in
        let b = total_le (parts_at s ls) (parts_at s (l ∷ ls)) (place_count s) (λ k below. let m = places k false (ap (λ c. same_caller c (back_at s k)) e) in omega (arith, m)) in
        let one : calls_in l ≡ 1 = ap (λ c. cond (is_back c) (parts_of l.job) 1) e in
        omega (arith, rest, more, a, b, one)
    go (Back id) e rest =
        let k = place_there s.setup.endpoints id (subst (λ c. is_caller_in s.setup.endpoints c ≡ true) e there) in
        let is : l.caller ≡ back_at s k.0 = e ∙ ap (λ i. Back i) (sym k.2) in
        let a = total_le (λ j. count_lines ls (Driver j)) (λ j. count_lines (l ∷ ls) (Driver j)) driver_count (λ j below. let m = drivers j false (ap (λ c. same_caller c (Driver j)) e) in omega (arith, m)) in
        let b = total_rise (parts_at s ls) (parts_at s (l ∷ ls)) (parts_of l.job) (place_count s) k.0 k.1
        (let m = places k.0 true (ap (λ c. same_caller c (back_at s k.0)) is ∙ same_caller-self (back_at s k.0)) in omega (arith, m))
        (λ i below ne. let m = places i false (ap (λ c. same_caller c (back_at s i)) is ∙ back_other s i k.0 valid below k.1 ne) in omega (arith, m)) in
        let parts : calls_in l ≡ parts_of l.job = ap (λ c. cond (is_back c) (parts_of l.job) 1) e in
        omega (arith, rest, more, a, b, parts)

-- ---- the whole

-- d lines of drivers, x at least 1 more than the calls
grows : (d x n : ℕ) → d + 1 ≤ x → times (3 + times 7 n + 1) d + 6 * n ≤ 4 * d + times (9 * x) n
grows d x zero h = let e = times_is 4 d in omega (arith, e)
grows d x (suc n) h =
    let i = grows d x n h in
    let e : 3 + (7 + times 7 n) + 1 ≡ (3 + times 7 n + 1) + 7 = omega arith in
    let a : times (3 + (7 + times 7 n) + 1) d ≡ times ((3 + times 7 n + 1) + 7) d = ap (λ c. times c d) e in
    let b = times_both (3 + times 7 n + 1) 7 d in
    let c = times_seven d in
    omega (arith, i, a, b, c, h)

nothing_shared : (s : ScriptValue) → measure s (opening s) ≡ places_cost s (opening s) + drivers_cost s (opening s)
unfolding opening
nothing_shared s = omega arith

pub opening_low : (s : ScriptValue) → IsValid s → measure s (opening s) ≤ 9 * (calls_of s + 1) * (place_count s + 1)
unfolding calls_of
opening_low s valid =
    let d : ℕ = total (λ j. length (lines_of s (Driver j))) driver_count in
    let n = nothing_shared s in
    let p = places_low s valid in
    let q = drivers_low s in
    let most = calls_all s s.lines valid valid.lines_each in
    let g = grows d (calls_of s + 1) (place_count s) (omega (arith, most)) in
    let h = times_is (9 * (calls_of s + 1)) (place_count s + 1) in
    let i : times (9 * (calls_of s + 1)) (place_count s + 1) ≡ 9 * (calls_of s + 1) + times (9 * (calls_of s + 1)) (place_count s) = (let e : place_count s + 1 ≡ suc (place_count s) = omega arith in ap (times (9 * (calls_of s + 1))) e) in
    omega (arith, n, p, q, most, g, h, i)

pub rounds_are_enough : RoundsFinish
rounds_are_enough s turns play =
    let sound = opening_sound s play in
    let w : World = run s (opening s) turns in
    let low = run_low s (opening s) turns play sound in
    let first = opening_low s play.valid in
    let least : 9 ≤ 24 = omega arith in
    let more : 9 * (calls_of s + 1) * (place_count s + 1) ≤ 24 * (calls_of s + 1) * (place_count s + 1) = mul-le-mul_right (place_count s + 1) (mul-le-mul_right (calls_of s + 1) least) in
    rounds_finish s w (24 * (calls_of s + 1) * (place_count s + 1)) play (run_sound s (opening s) turns play sound) (omega (arith, low, first, more))
