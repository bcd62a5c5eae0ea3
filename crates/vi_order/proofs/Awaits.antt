-- What a line awaits stands before it exactly where the awaited lines' blocks were whole at each entry.
use Rattle.std.proofs.Common.{◌≡◌, ◌==◌, ℕ, zero, suc, ◌+◌, ◌<◌, ◌≤◌, Bool, true, false, ◌&&◌, ◌||◌, inl, inr, List, [], ◌∷◌, ◌++◌, length, take, drop, get_or, Some, All, Contains, IsSome, IsTrue, slice_get, count_by, cond, refl, ap, ap₂, sym, subst, ◌∙◌, take-take, take-append-drop, arith}
use Rattle.std.specs.List.{list_any}
use Rattle.std.proofs.lemmas.Bool.{cases_Bool, cases_lt, cases_eq, false≢true, and_parts, and_from, or_cases, or_left, or_right, eq-eqb, eqb-true}
use Rattle.std.proofs.lemmas.List.Elements.{All-contains, Contains-get_or}
use Rattle.std.proofs.lemmas.List.Folds.{list_any-append}
use Rattle.std.proofs.lemmas.List.Sums.{sum_by-cons}
use Rattle.vi_history.specs.Kinds.{is_fault}
use Rattle.vi_history.specs.declared.call.Caller.{Caller}
use Rattle.vi_history.specs.declared.call.Caller.TheVariants.{Driver, Back}
use Rattle.vi_history.specs.declared.entry.Entry.{Entry}
use Rattle.vi_lines.specs.declared.line.Await.{Await}
use Rattle.vi_lines.specs.Value.{ScriptValue}
use Rattle.vi_lines.specs.Valid.{IsValid}
use Rattle.vi_lines.specs.Calls.{same_caller, lines_of, call_of, awaits_of, part_count_of}
use Rattle.vi_lines.specs.Order.{entries_of, ends_block, is_whole, entries_at, place_after, Place, due_place, IsNext, IsDue, AreDue}
use Rattle.vi_lines.specs.Ordered.{IsBlockFrom, AreBlocks, IsOrdered}
use Rattle.vi_lines.proofs.IndexLemmas.{same_caller-eq}
use Rattle.vi_order.proofs.Lines.{IsAwaitable, awaited_lines, driver_part, driver_parts}
use Rattle.vi_order.proofs.Backs.{at, Follows, after_last, line_upto, follows-due}
use Rattle.vi_order.proofs.Drivers.{all_entered}
use Rattle.vi_order.proofs.Dues.{due_at, due_front}

-- ---- lists

pub split_at : {X : Type 0} (xs : List X) (i : ℕ) (x : X) → slice_get xs i ≡ Some x → xs ≡ take i xs ++ x ∷ drop (suc i) xs
split_at [] i x e = absurd cc
split_at (y ∷ ys) zero x e = let same : y ≡ x = cc in ap (λ z. z ∷ ys) same
split_at (y ∷ ys) (suc i) x e = ap (λ zs. y ∷ zs) (split_at ys i x e)

pub slice_get-append : {X : Type 0} (xs ys : List X) (i : ℕ) → slice_get (xs ++ ys) (length xs + i) ≡ slice_get ys i
slice_get-append [] ys i = ap (slice_get ys) (omega arith)
slice_get-append (x ∷ xs) ys i = let e : suc (length xs) + i ≡ suc (length xs + i) = omega arith in ap (slice_get (x ∷ (xs ++ ys))) e ∙ slice_get-append xs ys i

any_found : {X : Type 0} (p : X → Bool) (xs : List X) → list_any p xs ≡ true → (i : ℕ) × (x : X) × (slice_get xs i ≡ Some x) × (p x ≡ true)
any_found p [] some = absurd (false≢true some)
any_found p (x ∷ xs) some =
    elim (cases_Bool (p x)) [
      | inl here ↦ (0, x, refl, here)
      | inr not_here ↦ let rest : list_any p xs ≡ true = rw not_here at some in let r = any_found p xs rest in (suc r.0, r.1, r.2, r.3)
    ]

any_at : {X : Type 0} (p : X → Bool) (xs : List X) (i : ℕ) (x : X) → slice_get xs i ≡ Some x → p x ≡ true → list_any p xs ≡ true
any_at p [] i x e here = absurd cc
any_at p (y ∷ ys) zero x e here = let same : y ≡ x = cc in or_left (p y) (list_any p ys) (ap p same ∙ here)
any_at p (y ∷ ys) (suc i) x e here = or_right (p y) (list_any p ys) (any_at p ys i x e here)

abbrev one_if : Bool → ℕ
one_if b = cond b 1 0

any_counted : {X : Type 0} (p : X → Bool) (xs : List X) → 0 < count_by p xs → list_any p xs ≡ true
any_counted p [] some = absurd (omega arith)
any_counted p (x ∷ xs) some =
    elim (cases_Bool (p x)) [
      | inl here ↦ or_left (p x) (list_any p xs) here
      | inr not_here ↦
          let none : one_if (p x) ≡ 0 = rw not_here refl in
          or_right (p x) (list_any p xs) (any_counted p xs (omega (arith, sum_by-cons (λ x. one_if (p x)) x xs, none)))
    ]

counted_any : {X : Type 0} (p : X → Bool) (xs : List X) → list_any p xs ≡ true → 0 < count_by p xs
counted_any p [] some = absurd (false≢true some)
counted_any p (x ∷ xs) some =
    elim (cases_Bool (p x)) [
      | inl here ↦ let one : one_if (p x) ≡ 1 = rw here refl in omega (arith, sum_by-cons (λ x. one_if (p x)) x xs, one)
      | inr not_here ↦
          let rest : list_any p xs ≡ true = rw not_here at some in
          omega (arith, sum_by-cons (λ x. one_if (p x)) x xs, counted_any p xs rest)
    ]

-- ---- whole blocks

-- the entry ends a block of this line
abbrev ends : ScriptValue → ℕ → Entry → Bool
ends s line h = (h.mark.line == line) && ends_block s h

-- a block is whole where an entry of the caller ends it
whole-entries : (s : ScriptValue) (a : Await) (hs : List Entry) → is_whole s hs a ≡ list_any (ends s a.line) (entries_of a.caller hs)
whole-entries s a [] = refl
whole-entries s a (h ∷ hs) =
    elim (cases_Bool (same_caller h.mark.caller a.caller)) [
      | inl own ↦ rw (own, whole-entries s a hs) refl
      | inr other ↦ rw (other, whole-entries s a hs) refl
    ]

whole-append : (s : ScriptValue) (xs ys : List Entry) (a : Await) → is_whole s xs a ≡ true → is_whole s (xs ++ ys) a ≡ true
whole-append s xs ys a whole =
    list_any-append (λ h. same_caller h.mark.caller a.caller && (h.mark.line == a.line) && ends_block s h) xs ys ∙ or_left (is_whole s xs a) (is_whole s ys a) whole

-- ---- from entries that are due

-- behind a whole block the due place is of a later line
ended : (s : ScriptValue) (line : ℕ) (p : Place) (es : List Entry) (q : Place) → Follows s p es q → list_any (ends s line) es ≡ true → line < q.line
ended s line p [] q f some = absurd (false≢true some)
ended s line p (h ∷ es) q f some =
    elim (or_cases (ends s line h) (list_any (ends s line) es) some) [
      | inl here ↦
          let parts = and_parts (h.mark.line == line) (ends_block s h) here in
          let next : (place_after s h).line ≡ line + 1 = ap (λ (r : Place). r.line) (after_last s h line (eqb-true h.mark.line line parts.0) parts.1) in
          omega (arith, next, line_upto s (place_after s h) es q f.1)
      | inr later ↦ ended s line (place_after s h) es q f.1 later
    ]

entered : (s : ScriptValue) (number line : ℕ) (hs : List Entry) → is_whole s hs (record { caller = Driver number; line = line }) ≡ true → 0 < entries_at (Driver number) line hs
entered s number line hs whole =
    let is = λ (h : Entry). same_caller h.mark.caller (Driver number) && (h.mark.line == line) in
    let at = any_found (λ h. is h && ends_block s h) hs whole in
    counted_any is hs (any_at is hs at.0 at.1 at.2 (and_parts (is at.1) (ends_block s at.1) at.3).0)

-- a line whose block is whole gets no further entry
not_again : (s : ScriptValue) (before : List Entry) (c : Caller) (line part : ℕ) → AreDue s [] before → is_whole s before (record { caller = c; line = line }) ≡ true
    → IsNext s before c line part → ⊥
not_again s before (Driver number) line part due whole next = omega (arith, entered s number line before whole, next.0)
not_again s before (Back endpoint) line part due whole next =
    let some = sym (whole-entries s (record { caller = Back endpoint; line = line }) before) ∙ whole in
    let less = ended s line (at 1 1) (entries_of (Back endpoint) before) (due_place s (Back endpoint) before) (follows-due s endpoint [] before due) some in
    let is : (due_place s (Back endpoint) before).line ≡ line = ap (λ (r : Place). r.line) next in
    omega (arith, less, is)

pub awaits-due : (s : ScriptValue) (entries : List Entry) → AreDue s [] entries → (i j : ℕ) (awaited awaiting : Entry) → slice_get entries i ≡ Some awaited → slice_get entries j ≡ Some awaiting
    → Contains (awaits_of s awaiting.mark.caller awaiting.mark.line) (record { caller = awaited.mark.caller; line = awaited.mark.line }) → i < j
awaits-due s entries due i j awaited awaiting at_i at_j awaits = elim (cases_lt i j) [
  | inl before ↦ before
  | inr behind ↦ absurd (again behind)
]
  where
    here : IsDue s (take j entries) awaiting
    here = due_at s [] (take j entries) awaiting (drop (suc j) entries) (subst (AreDue s []) (split_at entries j awaiting at_j) due)

    there : AreDue s [] (take i entries ++ awaited ∷ drop (suc i) entries)
    there = subst (AreDue s []) (split_at entries i awaited at_i) due

    again : j ≤ i → ⊥
    again behind =
        let name : Await = record { caller = awaited.mark.caller; line = awaited.mark.line } in
        let whole : is_whole s (take j entries) name ≡ true = All-contains (λ a. is_whole s (take j entries) a ≡ true) (awaits_of s awaiting.mark.caller awaiting.mark.line) name here.awaited awaits in
        let more : take j entries ++ drop j (take i entries) ≡ take i entries = ap (λ xs. xs ++ drop j (take i entries)) (sym (take-take j i entries behind)) ∙ take-append-drop j (take i entries) in
        let still : is_whole s (take i entries) name ≡ true = subst (λ xs. is_whole s xs name ≡ true) more (whole-append s (take j entries) (drop j (take i entries)) name whole) in
        not_again s (take i entries) awaited.mark.caller awaited.mark.line awaited.mark.part (due_front s [] (take i entries) (awaited ∷ drop (suc i) entries) there) still
        (due_at s [] (take i entries) awaited (drop (suc i) entries) there).next

-- ---- from blocks and batches

block_ended : (s : ScriptValue) (line part : ℕ) (block : List Entry) → IsBlockFrom s line part block → list_any (ends s line) block ≡ true
block_ended s line part [] b = absurd b
block_ended s line part (h ∷ []) b = or_left (ends s line h) false (and_from (h.mark.line == line) (ends_block s h) (eq-eqb h.mark.line line b.0) b.2)
block_ended s line part (h ∷ i ∷ hs) b = or_right (ends s line h) (list_any (ends s line) (i ∷ hs)) (block_ended s line (part + 1) (i ∷ hs) b.3)

blocks_ended : (s : ScriptValue) (from count line : ℕ) (es : List Entry) → AreBlocks s from count es → from ≤ line → line < from + count → list_any (ends s line) es ≡ true
blocks_ended s from zero line es b low high = absurd (omega arith)
blocks_ended s from (suc count) line es b low high =
    let split : list_any (ends s line) es ≡ (list_any (ends s line) b.0 || list_any (ends s line) b.1) = ap (list_any (ends s line)) b.2 ∙ list_any-append (ends s line) b.0 b.1 in
    elim (cases_eq from line) [
      | inl same ↦
          let here : list_any (ends s line) b.0 ≡ true = block_ended s line 1 b.0 (subst (λ n. IsBlockFrom s n 1 b.0) same b.3) in
          split ∙ or_left (list_any (ends s line) b.0) (list_any (ends s line) b.1) here
      | inr other ↦ split ∙ or_right (list_any (ends s line) b.0) (list_any (ends s line) b.1) (blocks_ended s (from + 1) count line b.1 b.4 (omega (arith, other)) (omega arith))
    ]

-- an entry of a driver is a block by itself
driver_ends : (s : ScriptValue) → IsValid s → (number : ℕ) (h : Entry) → h.mark.caller ≡ Driver number → IsSome (call_of s h.mark.caller h.mark.line h.mark.part) → ends_block s h ≡ true
driver_ends s valid number h is known =
    let part : h.mark.part ≡ 0 = driver_part s number h.mark.line h.mark.part (subst (λ c. IsSome (call_of s c h.mark.line h.mark.part)) is known) in
    let count : part_count_of s h.mark.caller h.mark.line ≡ 0 = ap (λ c. part_count_of s c h.mark.line) is ∙ driver_parts s valid number h.mark.line in
    or_right (is_fault h.mark.kind) (h.mark.part == part_count_of s h.mark.caller h.mark.line) (eq-eqb h.mark.part (part_count_of s h.mark.caller h.mark.line) (part ∙ sym count))

-- in a history in order the blocks of all lines are whole
whole_at_end : (s : ScriptValue) → IsValid s → (entries : List Entry) → IsOrdered s entries → (c : Caller) (line : ℕ) → 1 ≤ line → line ≤ length (lines_of s c)
    → is_whole s entries (record { caller = c; line = line }) ≡ true
whole_at_end s valid entries ordered (Driver number) line from to =
    let is = λ (h : Entry). same_caller h.mark.caller (Driver number) && (h.mark.line == line) in
    let at = any_found is entries (any_counted is entries (all_entered s number entries (ordered.drivers number) line from to)) in
    let own = same_caller-eq at.1.mark.caller (Driver number) (and_parts (same_caller at.1.mark.caller (Driver number)) (at.1.mark.line == line) at.3).0 in
    any_at (λ h. is h && ends_block s h) entries at.0 at.1 at.2 (and_from (is at.1) (ends_block s at.1) at.3 (driver_ends s valid number at.1 own (ordered.known at.0 at.1 at.2)))
whole_at_end s valid entries ordered (Back endpoint) line from to =
    whole-entries s (record { caller = Back endpoint; line = line }) entries
    ∙ blocks_ended s 1 (length (lines_of s (Back endpoint))) line (entries_of (Back endpoint) entries) (ordered.backs endpoint) from (omega arith)

-- so they are before each entry whose line awaits them
pub awaited-ordered : (s : ScriptValue) → IsValid s → (xs : List Entry) (h : Entry) (ys : List Entry) → IsOrdered s (xs ++ h ∷ ys)
    → All (λ a. IsTrue (is_whole s xs a)) (awaits_of s h.mark.caller h.mark.line)
awaited-ordered s valid xs h ys ordered k d within = by (get_or (awaits_of s h.mark.caller h.mark.line) k d) (Contains-get_or (awaits_of s h.mark.caller h.mark.line) k d within) (awaited_lines s valid h.mark.caller h.mark.line k d within)
  where
    none_behind : (a : Await) → Contains (awaits_of s h.mark.caller h.mark.line) a → is_whole s (h ∷ ys) a ≡ true → ⊥
    none_behind a awaited whole =
        let named = λ (g : Entry). same_caller g.mark.caller a.caller && (g.mark.line == a.line) in
        let at = any_found (λ g. named g && ends_block s g) (h ∷ ys) whole in
        let parts = and_parts (same_caller at.1.mark.caller a.caller) (at.1.mark.line == a.line) (and_parts (named at.1) (ends_block s at.1) at.3).0 in
        let name : a ≡ record { caller = at.1.mark.caller; line = at.1.mark.line } =
        ap₂ (λ c n. let b : Await = record { caller = c; line = n } in b) (sym (same_caller-eq at.1.mark.caller a.caller parts.0)) (sym (eqb-true at.1.mark.line a.line parts.1)) in
        let before = ordered.awaits (length xs + at.0) (length xs + 0) at.1 h (slice_get-append xs (h ∷ ys) at.0 ∙ at.2) (slice_get-append xs (h ∷ ys) 0) (subst (Contains (awaits_of s h.mark.caller h.mark.line)) name awaited) in
        omega (arith, before)

    by : (a : Await) → Contains (awaits_of s h.mark.caller h.mark.line) a → IsAwaitable s.lines a → is_whole s xs a ≡ true
    by a awaited line =
        let whole = whole_at_end s valid (xs ++ h ∷ ys) ordered a.caller a.line line.0 line.1 in
        let split = list_any-append (λ g. same_caller g.mark.caller a.caller && (g.mark.line == a.line) && ends_block s g) xs (h ∷ ys) in
        elim (or_cases (is_whole s xs a) (is_whole s (h ∷ ys) a) (sym split ∙ whole)) [
          | inl before ↦ before
          | inr behind ↦ absurd (none_behind a awaited behind)
        ]
