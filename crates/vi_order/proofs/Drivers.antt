-- The entries of a driver are its lines, batch after batch, each once, exactly where each was due in its place and each
-- line has one.
use Rattle.std.proofs.Common.{◌≡◌, ◌==◌, ℕ, ◌+◌, ◌-◌, ◌<◌, ◌≤◌, Bool, true, false, cond, not, ◌&&◌, inl, inr, List, [], ◌∷◌, ◌++◌, length, map, take, All, IsSome, count_by, refl, ap, sym, subst, ◌∙◌, take-take, append_assoc, append-nil, arith}
use Rattle.std.specs.List.{range_with_len}
use Rattle.std.specs.List.Sorted.{IsNonDecreasing}
use Rattle.std.proofs.lemmas.Bool.{cases_Bool, cases_lt, and_parts, eq-eqb, eqb-true, ne_eqb}
use Rattle.std.proofs.lemmas.List.{map-append}
use Rattle.std.proofs.lemmas.List.Elements.{All-nil, All-cons, filter-append}
use Rattle.std.proofs.lemmas.List.Sums.{sum_by-cons, sum_by-append, sum_by_push, sum_by-take-le}
use Rattle.std.proofs.lemmas.List.Sorted.{sum_by-IsPermutation, IsNonDecreasingBy-short}
use Rattle.vi_history.specs.declared.call.Caller.TheVariants.{Driver}
use Rattle.vi_history.specs.declared.entry.Entry.{Entry}
use Rattle.vi_lines.specs.declared.line.Line.{Line}
use Rattle.vi_lines.specs.Value.{ScriptValue}
use Rattle.vi_lines.specs.Calls.{same_caller, lines_of, call_of}
use Rattle.vi_lines.specs.Order.{entries_of, entries_at, batch_of, IsNext, IsDue, AreDue}
use Rattle.vi_lines.specs.Ordered.{entered_lines, AreBatches}
use Rattle.vi_lines.proofs.IndexLemmas.{same_caller-eq, same_caller-self}
use Rattle.vi_order.proofs.Counts.{count, one_at, count-cons, count-range_below, count-range_above, count-range_within, permutation_by_count, rising-cons, above_rest, none_above}
use Rattle.vi_order.proofs.Lines.{known_line}

-- ---- counting entries

-- the entry is of this line of the driver
abbrev is_of : ℕ → ℕ → Entry → Bool
is_of number line h = same_caller h.mark.caller (Driver number) && (h.mark.line == line)

abbrev one_of : ℕ → ℕ → Entry → ℕ
one_of number line h = cond (is_of number line h) 1 0

entries_at-cons : (number line : ℕ) (h : Entry) (hs : List Entry) → entries_at (Driver number) line (h ∷ hs) ≡ one_of number line h + entries_at (Driver number) line hs
entries_at-cons number line h hs = sum_by-cons (one_of number line) h hs

entries_at-append : (number line : ℕ) (xs ys : List Entry) → entries_at (Driver number) line (xs ++ ys) ≡ entries_at (Driver number) line xs + entries_at (Driver number) line ys
entries_at-append number line xs ys = sum_by-append (one_of number line) xs ys

entries_at-push : (number line : ℕ) (xs : List Entry) (h : Entry) → entries_at (Driver number) line (xs ++ h ∷ []) ≡ entries_at (Driver number) line xs + one_of number line h
entries_at-push number line xs h = sum_by_push (one_of number line) xs h

one_of-own : (number line : ℕ) (h : Entry) → same_caller h.mark.caller (Driver number) ≡ true → one_of number line h ≡ one_at line h.mark.line
one_of-own number line h own = rw own refl

one_of-other : (number line : ℕ) (h : Entry) → same_caller h.mark.caller (Driver number) ≡ false → one_of number line h ≡ 0
one_of-other number line h other = rw other refl

entered_lines-own : (number : ℕ) (h : Entry) (hs : List Entry) → same_caller h.mark.caller (Driver number) ≡ true → entered_lines number (h ∷ hs) ≡ h.mark.line ∷ entered_lines number hs
entered_lines-own number h hs own = rw own refl

entered_lines-other : (number : ℕ) (h : Entry) (hs : List Entry) → same_caller h.mark.caller (Driver number) ≡ false → entered_lines number (h ∷ hs) ≡ entered_lines number hs
entered_lines-other number h hs other = rw other refl

entered_lines-append : (number : ℕ) (xs ys : List Entry) → entered_lines number (xs ++ ys) ≡ entered_lines number xs ++ entered_lines number ys
entered_lines-append number xs ys =
    ap (map (λ h. h.mark.line)) (filter-append (λ h. same_caller h.mark.caller (Driver number)) xs ys)
    ∙ map-append (λ (h : Entry). h.mark.line) (entries_of (Driver number) xs) (entries_of (Driver number) ys)

-- how many entries a line has is how often it is entered
entries_at-count : (number line : ℕ) (hs : List Entry) → entries_at (Driver number) line hs ≡ count line (entered_lines number hs)
entries_at-count number line [] = refl
entries_at-count number line (h ∷ hs) =
    elim (cases_Bool (same_caller h.mark.caller (Driver number))) [
      | inl own ↦
          let step : count line (entered_lines number (h ∷ hs)) ≡ one_at line h.mark.line + count line (entered_lines number hs) =
          ap (count line) (entered_lines-own number h hs own) ∙ count-cons line h.mark.line (entered_lines number hs) in
          omega (arith, entries_at-cons number line h hs, one_of-own number line h own, step, entries_at-count number line hs)
      | inr other ↦
          let step : count line (entered_lines number (h ∷ hs)) ≡ count line (entered_lines number hs) = ap (count line) (entered_lines-other number h hs other) in
          omega (arith, entries_at-cons number line h hs, one_of-other number line h other, step, entries_at-count number line hs)
    ]

-- how often a line is to be entered: once if the driver has it
abbrev wanted : ScriptValue → ℕ → ℕ → ℕ
wanted s number line = count line (range_with_len 1 (length (lines_of s (Driver number))))

wanted-line : (s : ScriptValue) (number line : ℕ) → 1 ≤ line → line ≤ length (lines_of s (Driver number)) → wanted s number line ≡ 1
wanted-line s number line from to = count-range_within line 1 (length (lines_of s (Driver number))) from (omega arith)

-- ---- batches

batch_mono : (s : ScriptValue) (number a b : ℕ) → a ≤ b → batch_of s (Driver number) a ≤ batch_of s (Driver number) b
batch_mono s number a b le =
    let lines = lines_of s (Driver number) in
    let ends = λ (xs : List Line). count_by (λ l. not l.add) xs in
    let shorter : take (a - 1) (take (b - 1) lines) ≡ take (a - 1) lines = take-take (a - 1) (b - 1) lines (omega arith) in
    subst (λ xs. ends xs ≤ ends (take (b - 1) lines)) shorter (sum_by-take-le (λ l. cond (not l.add) 1 0) (take (b - 1) lines) (a - 1))

-- ---- from entries that are due

driver_next : (s : ScriptValue) (number : ℕ) (before : List Entry) (h : Entry) → IsDue s before h → same_caller h.mark.caller (Driver number) ≡ true
    → IsNext s before (Driver number) h.mark.line h.mark.part
driver_next s number before h due own = subst (λ c. IsNext s before c h.mark.line h.mark.part) (same_caller-eq h.mark.caller (Driver number) own) due.next

due_line : (s : ScriptValue) (number : ℕ) (before : List Entry) (h : Entry) → IsDue s before h → same_caller h.mark.caller (Driver number) ≡ true
    → (1 ≤ h.mark.line) × (h.mark.line ≤ length (lines_of s (Driver number)))
due_line s number before h due own =
    known_line s (Driver number) h.mark.line h.mark.part (subst (λ c. IsSome (call_of s c h.mark.line h.mark.part)) (same_caller-eq h.mark.caller (Driver number) own) due.known)

-- no line gets more entries than it is to have
no_more : (s : ScriptValue) (number line : ℕ) (before hs : List Entry) → AreDue s before hs → entries_at (Driver number) line before ≤ wanted s number line
    → entries_at (Driver number) line (before ++ hs) ≤ wanted s number line
no_more s number line before [] due few = subst (λ b. entries_at (Driver number) line b ≤ wanted s number line) (sym (append-nil before)) few
no_more s number line before (h ∷ hs) due few =
    subst (λ b. entries_at (Driver number) line b ≤ wanted s number line) (append_assoc before (h ∷ []) hs) (no_more s number line (before ++ h ∷ []) hs due.1 step)
  where
    own : is_of number line h ≡ true → entries_at (Driver number) line (before ++ h ∷ []) ≤ wanted s number line
    own ours =
        let parts = and_parts (same_caller h.mark.caller (Driver number)) (h.mark.line == line) ours in
        let same : h.mark.line ≡ line = eqb-true h.mark.line line parts.1 in
        let within = due_line s number before h due.0 parts.0 in
        let first : entries_at (Driver number) line before ≡ 0 = subst (λ n. entries_at (Driver number) n before ≡ 0) same (driver_next s number before h due.0 parts.0).0 in
        let one : one_of number line h ≡ 1 = rw ours refl in
        omega (arith, entries_at-push number line before h, first, one, wanted-line s number line (omega (arith, same, within)) (omega (arith, same, within)))

    step : entries_at (Driver number) line (before ++ h ∷ []) ≤ wanted s number line
    step = elim (cases_Bool (is_of number line h)) [
      | inl ours ↦ own ours
      | inr other ↦ let none : one_of number line h ≡ 0 = rw other refl in omega (arith, entries_at-push number line before h, none, few)
    ]

-- lines of earlier batches have entries already, so no later entry is of one
batches_behind : (s : ScriptValue) (number batch : ℕ) (before hs : List Entry) → AreDue s before hs
    → ((earlier : ℕ) → 1 ≤ earlier → batch_of s (Driver number) earlier < batch → 0 < entries_at (Driver number) earlier before)
    → All (λ y. batch ≤ y) (map (λ line. batch_of s (Driver number) line) (entered_lines number hs))
batches_behind s number batch before [] due entered = All-nil (λ y. batch ≤ y)
batches_behind s number batch before (h ∷ hs) due entered =
    let batches = λ (xs : List ℕ). map (λ line. batch_of s (Driver number) line) xs in
    let rest = batches_behind s number batch (before ++ h ∷ []) hs due.1 (λ earlier from less. omega (arith, entries_at-push number earlier before h, entered earlier from less)) in
    elim (cases_Bool (same_caller h.mark.caller (Driver number))) [
      | inl own ↦
          let here : batch ≤ batch_of s (Driver number) h.mark.line = elim (cases_lt (batch_of s (Driver number) h.mark.line) batch) [
            | inl less ↦ absurd (omega (arith, entered h.mark.line (due_line s number before h due.0 own).0 less, (driver_next s number before h due.0 own).0))
            | inr least ↦ least
          ] in
          subst (λ xs. All (λ y. batch ≤ y) (batches xs)) (sym (entered_lines-own number h hs own))
          (All-cons (λ y. batch ≤ y) (batch_of s (Driver number) h.mark.line) (batches (entered_lines number hs)) here rest)
      | inr other ↦ subst (λ xs. All (λ y. batch ≤ y) (batches xs)) (sym (entered_lines-other number h hs other)) rest
    ]

batches_rise : (s : ScriptValue) (number : ℕ) (before hs : List Entry) → AreDue s before hs
    → IsNonDecreasing (map (λ line. batch_of s (Driver number) line) (entered_lines number hs))
batches_rise s number before [] due = IsNonDecreasingBy-short (λ x. x) [] (omega arith)
batches_rise s number before (h ∷ hs) due =
    let batches = λ (xs : List ℕ). map (λ line. batch_of s (Driver number) line) xs in
    let rest = batches_rise s number (before ++ h ∷ []) hs due.1 in
    elim (cases_Bool (same_caller h.mark.caller (Driver number))) [
      | inl own ↦
          let entered = (driver_next s number before h due.0 own).1 in
          let behind = batches_behind s number (batch_of s (Driver number) h.mark.line) (before ++ h ∷ []) hs due.1 (λ earlier from less. omega (arith, entries_at-push number earlier before h, entered earlier from less)) in
          subst (λ xs. IsNonDecreasing (batches xs)) (sym (entered_lines-own number h hs own))
          (rising-cons (batch_of s (Driver number) h.mark.line) (batches (entered_lines number hs)) behind rest)
      | inr other ↦ subst (λ xs. IsNonDecreasing (batches xs)) (sym (entered_lines-other number h hs other)) rest
    ]

pub batches-due : (s : ScriptValue) (number : ℕ) (entries : List Entry) → AreDue s [] entries
    → ((line : ℕ) → 1 ≤ line → line ≤ length (lines_of s (Driver number)) → 0 < entries_at (Driver number) line entries) → AreBatches s number entries
batches-due s number entries due all = record {
  once = permutation_by_count (entered_lines number entries) (range_with_len 1 (length (lines_of s (Driver number)))) (λ line. same line);
  batches = batches_rise s number [] entries due;
}
  where
    same : (line : ℕ) → count line (entered_lines number entries) ≡ wanted s number line
    same line =
        let most = no_more s number line [] entries due (omega arith) in
        elim (cases_lt line 1) [
          | inl low ↦ omega (arith, most, entries_at-count number line entries, count-range_below line 1 (length (lines_of s (Driver number))) low)
          | inr from ↦ elim (cases_lt (length (lines_of s (Driver number))) line) [
            | inl high ↦ omega (arith, most, entries_at-count number line entries, count-range_above line 1 (length (lines_of s (Driver number))) (omega arith))
            | inr to ↦ omega (arith, most, entries_at-count number line entries, wanted-line s number line from to, all line from to)
          ]
        ]

-- ---- from batches

entered-as-wanted : (s : ScriptValue) (number : ℕ) (entries : List Entry) → AreBatches s number entries → (line : ℕ) → entries_at (Driver number) line entries ≡ wanted s number line
entered-as-wanted s number entries b line =
    entries_at-count number line entries ∙ sym (sum_by-IsPermutation (one_at line) (entered_lines number entries) (range_with_len 1 (length (lines_of s (Driver number)))) b.once)

pub all_entered : (s : ScriptValue) (number : ℕ) (entries : List Entry) → AreBatches s number entries
    → (line : ℕ) → 1 ≤ line → line ≤ length (lines_of s (Driver number)) → 0 < entries_at (Driver number) line entries
all_entered s number entries b line from to = omega (arith, entered-as-wanted s number entries b line, wanted-line s number line from to)

-- a line of an earlier batch has no entry behind this one
none_behind : (s : ScriptValue) (number : ℕ) (xs : List Entry) (h : Entry) (ys : List Entry) → same_caller h.mark.caller (Driver number) ≡ true → AreBatches s number (xs ++ h ∷ ys)
    → (earlier : ℕ) → batch_of s (Driver number) earlier < batch_of s (Driver number) h.mark.line → entries_at (Driver number) earlier ys ≡ 0
none_behind s number xs h ys own b earlier less =
    let batch = λ (line : ℕ). batch_of s (Driver number) line in
    let split : entered_lines number (xs ++ h ∷ ys) ≡ entered_lines number xs ++ h.mark.line ∷ entered_lines number ys =
    entered_lines-append number xs (h ∷ ys) ∙ ap (λ zs. entered_lines number xs ++ zs) (entered_lines-own number h ys own) in
    let rising : IsNonDecreasing (map batch (entered_lines number xs) ++ batch h.mark.line ∷ map batch (entered_lines number ys)) =
    subst IsNonDecreasing (ap (map batch) split ∙ map-append batch (entered_lines number xs) (h.mark.line ∷ entered_lines number ys)) b.batches in
    let above = above_rest (map batch (entered_lines number xs)) (batch h.mark.line) (map batch (entered_lines number ys)) rising in
    entries_at-count number earlier ys ∙ none_above batch (batch h.mark.line) earlier (entered_lines number ys) above less

pub next-batches : (s : ScriptValue) (number : ℕ) (xs : List Entry) (h : Entry) (ys : List Entry) → h.mark.caller ≡ Driver number → AreBatches s number (xs ++ h ∷ ys)
    → (1 ≤ h.mark.line) × (h.mark.line ≤ length (lines_of s (Driver number))) → IsNext s xs (Driver number) h.mark.line h.mark.part
next-batches s number xs h ys is b within = (first, earlier)
  where
    own : same_caller h.mark.caller (Driver number) ≡ true
    own = subst (λ c. same_caller c (Driver number) ≡ true) (sym is) (same_caller-self (Driver number))

    counted : (line : ℕ) → entries_at (Driver number) line xs + (one_at line h.mark.line + entries_at (Driver number) line ys) ≡ wanted s number line
    counted line =
        omega (arith, entries_at-append number line xs (h ∷ ys), entries_at-cons number line h ys, one_of-own number line h own, entered-as-wanted s number (xs ++ h ∷ ys) b line)

    first : entries_at (Driver number) h.mark.line xs ≡ 0
    first =
        let one : one_at h.mark.line h.mark.line ≡ 1 = rw (eq-eqb h.mark.line h.mark.line refl) refl in
        omega (arith, counted h.mark.line, one, wanted-line s number h.mark.line within.0 within.1)

    earlier : (line : ℕ) → 1 ≤ line → batch_of s (Driver number) line < batch_of s (Driver number) h.mark.line → 0 < entries_at (Driver number) line xs
    earlier line from less =
        let before : line < h.mark.line = elim (cases_lt line h.mark.line) [
          | inl lt ↦ lt
          | inr ge ↦ absurd (omega (arith, less, batch_mono s number h.mark.line line ge))
        ] in
        let other : one_at line h.mark.line ≡ 0 = rw (ne_eqb h.mark.line line (λ e. omega (arith, e, before))) refl in
        omega (arith, counted line, other, none_behind s number xs h ys own b line less, wanted-line s number line from (omega (arith, before, within)))
