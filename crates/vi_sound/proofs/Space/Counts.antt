-- How many entries a history can have, and how many faults.
use Rattle.std.proofs.Common.{◌≡◌, ◌==◌, ℕ, zero, suc, ◌+◌, ◌*◌, ◌^◌, ◌≤◌, ◌<◌, Bool, true, false, cond, ◌&&◌, List, [], ◌∷◌, ◌++◌, length, filter, count_by, IsSome, refl, arith, ◌∙◌, ap, sym, subst, ◌⊎◌, inl, inr, append_assoc, append-nil}
use Rattle.std.proofs.lemmas.Bool.{cases_eq}
use Rattle.std.proofs.lemmas.List.{length-map}
use Rattle.std.proofs.lemmas.List.Sums.{sum_by-cons, sum_by_push}
use Rattle.vi_history.specs.declared.call.Caller.{Caller}
use Rattle.vi_history.specs.declared.call.Caller.TheVariants.{Driver, Back}
use Rattle.vi_history.specs.declared.entry.Entry.{Entry}
use Rattle.vi_lines.specs.Value.{ScriptValue}
use Rattle.vi_lines.specs.Valid.{IsValid}
use Rattle.vi_lines.specs.Calls.{same_caller, lines_of, call_of}
use Rattle.vi_lines.specs.Order.{ends_block, entries_at, Place, place_after, due_place, IsNext, IsDue, AreDue}
use Rattle.vi_lines.proofs.IndexLemmas.{same_caller-eq, same_caller-self}
use Rattle.vi_order.proofs.Lines as Lines
use Rattle.vi_model.specs.Control.{driver_count}
use Rattle.vi_model.specs.Places.{place_count, id_at, back_at}
use Rattle.vi_model.specs.Worlds.{World, stand_of}
use Rattle.vi_model.specs.Asking.{one_if}
use Rattle.vi_model.specs.Held.{is_among_first}
use Rattle.vi_model.specs.Sound.{SoundParts}
use Rattle.vi_sound.proofs.Values.Sums.{sum_to, sum_more, sum_one, sum_same}
use Rattle.vi_sound.proofs.Values.Known.{known_back, known_driver, known_part}
use Rattle.vi_sound.proofs.Values.Histories.{due_own, due_other}

-- how many entries a caller has
abbrev pub count_of : Caller → List Entry → ℕ
count_of c hs = count_by (λ h. same_caller h.mark.caller c) hs

count_more : (c : Caller) (hs : List Entry) (h : Entry) → count_of c (hs ++ h ∷ []) ≡ count_of c hs + one_if (same_caller h.mark.caller c)
count_more c hs h = sum_by_push (λ h. one_if (same_caller h.mark.caller c)) hs h

-- ---- a back end: its next call

-- the next call's line never falls
pub due_rises : (s : ScriptValue) (id : ℕ) (hs : List Entry) (h : Entry) → IsDue s hs h → (due_place s (Back id) hs).line ≤ (due_place s (Back id) (hs ++ h ∷ [])).line
due_rises s id hs h due = go (same_caller h.mark.caller (Back id)) refl
  where
    after : (b : Bool) → h.mark.line ≤ (let p : Place = cond b (record { line = h.mark.line + 1; part = 1 }) (record { line = h.mark.line; part = h.mark.part + 1 }) in p.line)
    after true = omega arith
    after false = omega arith

    go : (b : Bool) → same_caller h.mark.caller (Back id) ≡ b → (due_place s (Back id) hs).line ≤ (due_place s (Back id) (hs ++ h ∷ [])).line
    go true e =
        let own : h.mark.caller ≡ Back id = same_caller-eq h.mark.caller (Back id) e in
        let was : (due_place s (Back id) hs).line ≡ h.mark.line = ap (λ (p : Place). p.line) (subst (λ d. IsNext s hs d h.mark.line h.mark.part) own due.next) in
        let now : (due_place s (Back id) (hs ++ h ∷ [])).line ≡ (place_after s h).line = ap (λ (p : Place). p.line) (due_own s (Back id) hs h e) in
        let more = after (ends_block s h) in
        omega (arith, was, now, more)
    go false e = let same : (due_place s (Back id) (hs ++ h ∷ [])).line ≡ (due_place s (Back id) hs).line = ap (λ (p : Place). p.line) (due_other s (Back id) hs h e) in omega (arith, same)

-- a back end's entries are fewer than its next call's place tells, with at most 17 parts a line
pub record IsAt (s : ScriptValue) (id : ℕ) (hs : List Entry) : Type 0 where
  pub line : 1 ≤ (due_place s (Back id) hs).line
  pub part : 1 ≤ (due_place s (Back id) hs).part
  pub line_most : (due_place s (Back id) hs).line ≤ length (lines_of s (Back id)) + 1
  pub part_most : (due_place s (Back id) hs).part ≤ 18
  pub ended : length (lines_of s (Back id)) < (due_place s (Back id) hs).line → (due_place s (Back id) hs).part ≡ 1
  pub count : count_of (Back id) hs + 18 ≤ 17 * (due_place s (Back id) hs).line + (due_place s (Back id) hs).part

at_first : (s : ScriptValue) (id : ℕ) → IsAt s id []
at_first s id = record { line = omega arith; part = omega arith; line_most = omega arith; part_most = omega arith; ended = λ h. refl; count = omega arith }

at_next : (s : ScriptValue) (id : ℕ) (hs : List Entry) (h : Entry) → IsValid s → IsDue s hs h → IsAt s id hs → IsAt s id (hs ++ h ∷ [])
at_next s id hs h valid due ok = go (same_caller h.mark.caller (Back id)) refl
  where
    go : (b : Bool) → same_caller h.mark.caller (Back id) ≡ b → IsAt s id (hs ++ h ∷ [])
    go false e =
        let same = due_other s (Back id) hs h e in
        let line : (due_place s (Back id) (hs ++ h ∷ [])).line ≡ (due_place s (Back id) hs).line = ap (λ (p : Place). p.line) same in
        let part : (due_place s (Back id) (hs ++ h ∷ [])).part ≡ (due_place s (Back id) hs).part = ap (λ (p : Place). p.part) same in
        let more = count_more (Back id) hs h in
        let none : one_if (same_caller h.mark.caller (Back id)) ≡ 0 = ap one_if e in
        let a = ok.line in let b = ok.part in let c = ok.line_most in let d = ok.part_most in let n = ok.count in
        record { line = omega (arith, line, a); part = omega (arith, part, b); line_most = omega (arith, line, c); part_most = omega (arith, part, d); ended = λ past. part ∙ ok.ended (omega (arith, past, line)); count = omega (arith, line, part, more, none, n) }
    go true e = by (ends_block s h) refl
      where
        own : h.mark.caller ≡ Back id
        own = same_caller-eq h.mark.caller (Back id) e

        was : due_place s (Back id) hs ≡ record { line = h.mark.line; part = h.mark.part }
        was = subst (λ d. IsNext s hs d h.mark.line h.mark.part) own due.next

        known : IsSome (call_of s (Back id) h.mark.line h.mark.part)
        known = subst (λ d. IsSome (call_of s d h.mark.line h.mark.part)) own due.known

        by : (b : Bool) → ends_block s h ≡ b → IsAt s id (hs ++ h ∷ [])
        by b f =
            let now : due_place s (Back id) (hs ++ h ∷ []) ≡ cond b (record { line = h.mark.line + 1; part = 1 }) (record { line = h.mark.line; part = h.mark.part + 1 }) = due_own s (Back id) hs h e ∙ ap (λ v. let p : Place = cond v (record { line = h.mark.line + 1; part = 1 }) (record { line = h.mark.line; part = h.mark.part + 1 }) in p) f in
            let line : (due_place s (Back id) hs).line ≡ h.mark.line = ap (λ (p : Place). p.line) was in
            let part : (due_place s (Back id) hs).part ≡ h.mark.part = ap (λ (p : Place). p.part) was in
            let more = count_more (Back id) hs h in
            let one : one_if (same_caller h.mark.caller (Back id)) ≡ 1 = ap one_if e in
            let lines = Lines.known_line s (Back id) h.mark.line h.mark.part known in
            let parts = known_part s id h.mark.line h.mark.part valid known in
            step b now line part (omega (arith, more, one)) lines parts
          where
            step : (b : Bool) → due_place s (Back id) (hs ++ h ∷ []) ≡ cond b (record { line = h.mark.line + 1; part = 1 }) (record { line = h.mark.line; part = h.mark.part + 1 })
                → (due_place s (Back id) hs).line ≡ h.mark.line → (due_place s (Back id) hs).part ≡ h.mark.part → count_of (Back id) (hs ++ h ∷ []) ≡ count_of (Back id) hs + 1
                → (1 ≤ h.mark.line) × (h.mark.line ≤ length (lines_of s (Back id))) → (1 ≤ h.mark.part) × (h.mark.part ≤ 17) → IsAt s id (hs ++ h ∷ [])
            step true now line part more lines parts =
                let l : (due_place s (Back id) (hs ++ h ∷ [])).line ≡ h.mark.line + 1 = ap (λ (p : Place). p.line) now in
                let p : (due_place s (Back id) (hs ++ h ∷ [])).part ≡ 1 = ap (λ (p : Place). p.part) now in
                let n = ok.count in
                record { line = omega (arith, l); part = omega (arith, p); line_most = omega (arith, l, lines.1); part_most = omega (arith, p); ended = λ past. p; count = omega (arith, l, p, n, more, line, part, parts.1) }
            step false now line part more lines parts =
                let l : (due_place s (Back id) (hs ++ h ∷ [])).line ≡ h.mark.line = ap (λ (p : Place). p.line) now in
                let p : (due_place s (Back id) (hs ++ h ∷ [])).part ≡ h.mark.part + 1 = ap (λ (p : Place). p.part) now in
                let n = ok.count in
                record { line = omega (arith, l, lines.0); part = omega (arith, p); line_most = omega (arith, l, lines.1); part_most = omega (arith, p, parts.1); ended = λ past. absurd (omega (arith, past, l, lines.1)); count = omega (arith, l, p, n, more, line, part) }

at_all : (s : ScriptValue) (id : ℕ) (before hs : List Entry) → IsValid s → AreDue s before hs → IsAt s id before → IsAt s id (before ++ hs)
at_all s id before [] valid due ok = subst (IsAt s id) (sym (append-nil before)) ok
at_all s id before (h ∷ hs) valid due ok = subst (IsAt s id) (append_assoc before (h ∷ []) hs) (at_all s id (before ++ h ∷ []) hs valid due.1 (at_next s id before h valid due.0 ok))

pub at_ordered : (s : ScriptValue) (id : ℕ) (hs : List Entry) → IsValid s → AreDue s [] hs → IsAt s id hs
at_ordered s id hs valid due = at_all s id [] hs valid due (at_first s id)

-- ---- a driver: one entry a line

driver_lines : (s : ScriptValue) (j n : ℕ) (before hs : List Entry) → AreDue s before hs → length (lines_of s (Driver j)) < n → count_of (Driver j) hs ≤ sum_to n (λ line. entries_at (Driver j) line hs)
driver_lines s j n before [] due lt = omega arith
driver_lines s j n before (h ∷ hs) due lt =
    let rest = driver_lines s j n (before ++ h ∷ []) hs due.1 lt in
    let split = sum_by-cons (λ h. one_if (same_caller h.mark.caller (Driver j))) h hs in
    let each = sum_same n (λ line. entries_at (Driver j) line (h ∷ hs)) (λ line. one_if (same_caller h.mark.caller (Driver j) && (h.mark.line == line)) + entries_at (Driver j) line hs) (λ line k. sum_by-cons (λ h. one_if (same_caller h.mark.caller (Driver j) && (h.mark.line == line))) h hs) in
    let more = sum_more n (λ line. one_if (same_caller h.mark.caller (Driver j) && (h.mark.line == line))) (λ line. entries_at (Driver j) line hs) in
    let own = go (same_caller h.mark.caller (Driver j)) refl in
    omega (arith, rest, split, each, more, own)
  where
    go : (b : Bool) → same_caller h.mark.caller (Driver j) ≡ b → one_if (same_caller h.mark.caller (Driver j)) ≤ sum_to n (λ line. one_if (same_caller h.mark.caller (Driver j) && (h.mark.line == line)))
    go false e = let none : one_if (same_caller h.mark.caller (Driver j)) ≡ 0 = ap one_if e in omega (arith, none)
    go true e =
        let is : h.mark.caller ≡ Driver j = same_caller-eq h.mark.caller (Driver j) e in
        let known = Lines.known_line s (Driver j) h.mark.line h.mark.part (subst (λ d. IsSome (call_of s d h.mark.line h.mark.part)) is due.0.known) in
        let one : one_if (same_caller h.mark.caller (Driver j)) ≡ 1 = ap one_if e in
        let same = sum_same n (λ line. one_if (same_caller h.mark.caller (Driver j) && (h.mark.line == line))) (λ line. one_if (h.mark.line == line)) (λ line k. ap (λ b. one_if (b && (h.mark.line == line))) e) in
        let o = sum_one n h.mark.line (omega (arith, known.1, lt)) in
        omega (arith, one, same, o)

-- ---- all entries

sum_by_10001 : (n : ℕ) (f : ℕ → ℕ) → ((i : ℕ) → i < n → f i ≤ 10001) → sum_to n f ≤ 10001 * n
sum_by_10001 zero f h = omega arith
sum_by_10001 (suc n) f h = let r = sum_by_10001 n f (λ i l. h i (omega (arith, l))) in let o = h n (omega arith) in omega (arith, r, o)

sum_by_170035 : (n : ℕ) (f : ℕ → ℕ) → ((i : ℕ) → i < n → f i ≤ 170035) → sum_to n f ≤ 170035 * n
sum_by_170035 zero f h = omega arith
sum_by_170035 (suc n) f h = let r = sum_by_170035 n f (λ i l. h i (omega (arith, l))) in let o = h n (omega arith) in omega (arith, r, o)

sum_ones : (n : ℕ) (f : ℕ → ℕ) → ((i : ℕ) → i < n → f i ≤ 1) → sum_to n f ≤ n
sum_ones zero f h = omega arith
sum_ones (suc n) f h = let r = sum_ones n f (λ i l. h i (omega (arith, l))) in let o = h n (omega arith) in omega (arith, r, o)

sum_some : (n k : ℕ) (f : ℕ → ℕ) → k < n → 1 ≤ f k → 1 ≤ sum_to n f
sum_some zero k f lt h = absurd (omega (arith, lt))
sum_some (suc n) k f lt h = go (cases_eq k n) (λ l. sum_some n k f l h)
  where
    go : (k ≡ n) ⊎ (k ≡ n → ⊥) → (k < n → 1 ≤ sum_to n f) → 1 ≤ sum_to n f + f n
    go (inl e) rest = let s : f k ≡ f n = ap f e in omega (arith, s, h)
    go (inr ne) rest = let r = rest (omega (arith, lt, ne)) in omega (arith, r)

-- every entry is of a driver or of a back end
pub all_counted : (s : ScriptValue) (before hs : List Entry) → IsValid s → AreDue s before hs → length hs ≤ sum_to driver_count (λ j. count_of (Driver j) hs) + sum_to (place_count s) (λ k. count_of (back_at s k) hs)
all_counted s before [] valid due = omega arith
all_counted s before (h ∷ hs) valid due =
    let rest = all_counted s (before ++ h ∷ []) hs valid due.1 in
    let ds = sum_same driver_count (λ j. count_of (Driver j) (h ∷ hs)) (λ j. one_if (same_caller h.mark.caller (Driver j)) + count_of (Driver j) hs) (λ j l. sum_by-cons (λ h. one_if (same_caller h.mark.caller (Driver j))) h hs) in
    let dm = sum_more driver_count (λ j. one_if (same_caller h.mark.caller (Driver j))) (λ j. count_of (Driver j) hs) in
    let bs = sum_same (place_count s) (λ k. count_of (back_at s k) (h ∷ hs)) (λ k. one_if (same_caller h.mark.caller (back_at s k)) + count_of (back_at s k) hs) (λ k l. sum_by-cons (λ h. one_if (same_caller h.mark.caller (back_at s k))) h hs) in
    let bm = sum_more (place_count s) (λ k. one_if (same_caller h.mark.caller (back_at s k))) (λ k. count_of (back_at s k) hs) in
    let one = by h.mark.caller refl in
    omega (arith, rest, ds, dm, bs, bm, one)
  where
    by : (c : Caller) → h.mark.caller ≡ c → 1 ≤ sum_to driver_count (λ j. one_if (same_caller h.mark.caller (Driver j))) + sum_to (place_count s) (λ k. one_if (same_caller h.mark.caller (back_at s k)))
    by (Driver j) e =
        let lt = known_driver s j h.mark.line h.mark.part valid (subst (λ d. IsSome (call_of s d h.mark.line h.mark.part)) e due.0.known) in
        let one : one_if (same_caller h.mark.caller (Driver j)) ≡ 1 = ap (λ c. one_if (same_caller c (Driver j))) e ∙ ap one_if (same_caller-self (Driver j)) in
        let r = sum_some driver_count j (λ j. one_if (same_caller h.mark.caller (Driver j))) lt (omega (arith, one)) in omega (arith, r)
    by (Back id) e =
        let k = known_back s id h.mark.line h.mark.part valid (subst (λ d. IsSome (call_of s d h.mark.line h.mark.part)) e due.0.known) in
        let one : one_if (same_caller h.mark.caller (back_at s k.0)) ≡ 1 = ap (λ c. one_if (same_caller c (back_at s k.0))) (e ∙ ap (λ i. Back i) (sym k.2)) ∙ ap one_if (same_caller-self (back_at s k.0)) in
        let r = sum_some (place_count s) k.0 (λ k. one_if (same_caller h.mark.caller (back_at s k))) k.1 (omega (arith, one)) in omega (arith, r)

filter_less : {X : Type 0} (p : X → Bool) (xs : List X) → length (filter p xs) ≤ length xs
filter_less p [] = omega arith
filter_less p (x ∷ xs) = go (p x) (filter_less p xs)
  where
    go : (b : Bool) → length (filter p xs) ≤ length xs → length (cond b (x ∷ filter p xs) (filter p xs)) ≤ suc (length xs)
    go true h = omega (arith, h)
    go false h = omega (arith, h)

one_most : (b : Bool) → one_if b ≤ 1
one_most true = omega arith
one_most false = omega arith

-- a sound world's history has fewer entries than a ticket can count
pub history_few : (s : ScriptValue) (w : World) → IsValid s → SoundParts s w → length w.history < 2 ^ 64
history_few s w valid ok =
    let all = all_counted s [] w.history valid ok.told.ordered in
    let ds = sum_by_10001 driver_count (λ j. count_of (Driver j) w.history) driver in
    let bs = sum_by_170035 (place_count s) (λ k. count_of (back_at s k) w.history) back in
    let places : place_count s ≡ length s.setup.endpoints = length-map s.setup.endpoints (λ e. e.id) in
    let few = valid.setup_valid.few in
    omega (arith, all, ds, bs, places, few)
  where
    lines : (c : Caller) → length (lines_of s c) ≤ 10000
    lines c = let a = filter_less (λ l. same_caller l.caller c) s.lines in let b = valid.few in omega (arith, a, b)

    driver : (j : ℕ) → j < driver_count → count_of (Driver j) w.history ≤ 10001
    driver j l =
        let o = ok.drivers j l in
        let n = lines (Driver j) in
        let a = driver_lines s j (length (lines_of s (Driver j)) + 1) [] w.history ok.told.ordered (omega arith) in
        let b = sum_ones (length (lines_of s (Driver j)) + 1) (λ line. entries_at (Driver j) line w.history) (λ line k. let e = o.entered line in let f = o.one line in let m = one_most (is_among_first line (stand_of w j).submitted) in omega (arith, e, f, m)) in
        omega (arith, a, b, n)

    back : (k : ℕ) → k < place_count s → count_of (back_at s k) w.history ≤ 170035
    back k l =
        let at = at_ordered s (id_at s k) w.history valid ok.told.ordered in
        let n = lines (back_at s k) in
        let a = at.count in let b = at.line_most in let c = at.part_most in
        omega (arith, a, b, c, n)
