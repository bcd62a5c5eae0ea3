-- A history with one more entry.
use Rattle.std.proofs.Common.{◌≡◌, ◌==◌, ℕ, ◌+◌, ◌<◌, ◌≤◌, Bool, true, false, cond, ◌&&◌, ◌⊎◌, inl, inr, List, [], ◌∷◌, ◌++◌, map, refl, arith, ◌∙◌, ap, sym, subst, append_assoc, append-nil, Some, IsSome}
use Rattle.std.proofs.lemmas.Bool.{cases_eq, and_parts, and_from, or_left, or_right, eq-eqb}
use Rattle.std.proofs.lemmas.List.{map-append}
use Rattle.std.proofs.lemmas.List.Elements.{filter-append}
use Rattle.std.proofs.lemmas.List.Folds.{list_any-append}
use Rattle.std.proofs.lemmas.List.Sums.{sum_by_push, sum_by-cons}
use Rattle.vi_history.specs.Device.{One}
use Rattle.vi_history.specs.Replies.{reply, next}
use Rattle.vi_history.specs.Histories.{answer_of, after, IsLegal}
use Rattle.vi_history.specs.Records.{record_of, records_at, records_from, records}
use Rattle.vi_history.specs.Kinds.{is_fault}
use Rattle.vi_history.specs.declared.call.Call.{Call}
use Rattle.vi_history.specs.declared.call.Caller.{Caller}
use Rattle.vi_history.specs.declared.call.Caller.TheVariants.{Driver, Back}
use Rattle.vi_history.specs.declared.entry.Entry.{Entry}
use Rattle.vi_history.specs.declared.outcome.Shown.{Shown}
use Rattle.vi_lines.specs.declared.line.Await.{Await}
use Rattle.vi_lines.specs.Value.{ScriptValue}
use Rattle.vi_lines.specs.Valid.{IsValid}
use Rattle.vi_lines.specs.Calls.{same_caller, call_of, part_count_of}
use Rattle.vi_lines.specs.Legal.{AreCalls}
use Rattle.vi_lines.specs.Order.{entries_of, ends_block, is_whole, entries_at, Place, place_after, due_from, due_place, IsNext, IsDue, AreDue}
use Rattle.vi_lines.proofs.IndexLemmas.{same_caller-eq}
use Rattle.vi_order.proofs.Lines.{driver_part, driver_parts}
use Rattle.vi_model.specs.Control.{Answered}
use Rattle.vi_model.specs.Asking.{one_if}
use Rattle.vi_model.specs.Tracks.{AreWhole, StandsIn}
use Rattle.vi_model.specs.Held.{AnswersStand}
use Rattle.vi_model.specs.Starts.{driver_entry}
use Rattle.vi_model.specs.Sound.{record_bytes}

-- ---- calls and records

pub after_more : (one : One) (cs : List Call) (c : Call) → after one (cs ++ c ∷ []) ≡ next (after one cs) c
after_more one [] c = refl
after_more one (x ∷ cs) c = after_more (next one x) cs c

pub legal_more : (one : One) (cs : List Call) (hs : List Entry) (c : Call) (h : Entry) → IsLegal one cs hs → answer_of h ≡ reply (after one cs) c → IsLegal one (cs ++ c ∷ []) (hs ++ h ∷ [])
legal_more one [] [] c h l e = (e, tt)
legal_more one [] (g ∷ hs) c h l e = absurd l
legal_more one (x ∷ cs) [] c h l e = absurd l
legal_more one (x ∷ cs) (g ∷ hs) c h l e = (l.0, legal_more (next one x) cs hs c h l.1 e)

pub named_more : (s : ScriptValue) (cs : List Call) (hs : List Entry) (c : Call) (h : Entry) → AreCalls s hs cs → call_of s h.mark.caller h.mark.line h.mark.part ≡ Some c → AreCalls s (hs ++ h ∷ []) (cs ++ c ∷ [])
named_more s cs hs c h named is =
    map-append (λ g. call_of s g.mark.caller g.mark.line g.mark.part) hs (h ∷ [])
    ∙ ap (λ xs. xs ++ call_of s h.mark.caller h.mark.line h.mark.part ∷ []) named
    ∙ ap (λ o. map (λ c. Some c) cs ++ o ∷ []) is
    ∙ sym (map-append (λ c. Some c) cs (c ∷ []))

-- the records that an entry adds
abbrev pub fault_bytes : Entry → Call → List (List ℕ)
fault_bytes h c = cond (is_fault h.mark.kind) (record_of h.mark.code c ∷ []) []

bytes_at : (number : ℕ) (h : Entry) (c : Call) → map (λ (x : Shown). x.bytes) (records_at number h.mark.kind h.mark.code c) ≡ fault_bytes h c
bytes_at number h c = go (is_fault h.mark.kind)
  where
    go : (b : Bool) → map (λ (x : Shown). x.bytes) (cond b (record { entry = number; bytes = record_of h.mark.code c } ∷ []) []) ≡ cond b (record_of h.mark.code c ∷ []) []
    go true = refl
    go false = refl

bytes_from : (number : ℕ) (one : One) (cs : List Call) (hs : List Entry) (c : Call) (h : Entry) → IsLegal one cs hs
    → map (λ (x : Shown). x.bytes) (records_from number (cs ++ c ∷ []) (hs ++ h ∷ [])) ≡ map (λ (x : Shown). x.bytes) (records_from number cs hs) ++ fault_bytes h c
bytes_from number one [] [] c h l = map-append (λ (x : Shown). x.bytes) (records_at number h.mark.kind h.mark.code c) [] ∙ append-nil (map (λ (x : Shown). x.bytes) (records_at number h.mark.kind h.mark.code c)) ∙ bytes_at number h c
bytes_from number one [] (g ∷ hs) c h l = absurd l
bytes_from number one (x ∷ cs) [] c h l = absurd l
bytes_from number one (x ∷ cs) (g ∷ hs) c h l =
    let here = records_at number g.mark.kind g.mark.code x in
    map-append (λ (x : Shown). x.bytes) here (records_from (number + 1) (cs ++ c ∷ []) (hs ++ h ∷ []))
    ∙ ap (λ ys. map (λ (x : Shown). x.bytes) here ++ ys) (bytes_from (number + 1) (next one x) cs hs c h l.1)
    ∙ sym (append_assoc (map (λ (x : Shown). x.bytes) here) (map (λ (x : Shown). x.bytes) (records_from (number + 1) cs hs)) (fault_bytes h c))
    ∙ ap (λ ys. ys ++ fault_bytes h c) (sym (map-append (λ (x : Shown). x.bytes) here (records_from (number + 1) cs hs)))

pub bytes_more : (one : One) (cs : List Call) (hs : List Entry) (c : Call) (h : Entry) → IsLegal one cs hs → record_bytes (cs ++ c ∷ []) (hs ++ h ∷ []) ≡ record_bytes cs hs ++ fault_bytes h c
unfolding records
bytes_more one cs hs c h l = bytes_from 1 one cs hs c h l

-- ---- due places

due_from-append : (s : ScriptValue) (p : Place) (xs ys : List Entry) → due_from s p (xs ++ ys) ≡ due_from s (due_from s p xs) ys
due_from-append s p [] ys = refl
due_from-append s p (x ∷ xs) ys = due_from-append s (place_after s x) xs ys

abbrev pub first_place : Place
first_place = record { line = 1; part = 1 }

own_push : (c : Caller) (before : List Entry) (h : Entry) (b : Bool) → same_caller h.mark.caller c ≡ b → entries_of c (before ++ h ∷ []) ≡ entries_of c before ++ cond b (h ∷ []) []
own_push c before h b e = filter-append (λ h. same_caller h.mark.caller c) before (h ∷ []) ∙ rw e refl

-- the entry's own back end is behind it
pub due_own : (s : ScriptValue) (c : Caller) (before : List Entry) (h : Entry) → same_caller h.mark.caller c ≡ true → due_place s c (before ++ h ∷ []) ≡ place_after s h
due_own s c before h own = ap (due_from s first_place) (own_push c before h true own) ∙ due_from-append s first_place (entries_of c before) (h ∷ [])

-- every other one is where it was
pub due_other : (s : ScriptValue) (c : Caller) (before : List Entry) (h : Entry) → same_caller h.mark.caller c ≡ false → due_place s c (before ++ h ∷ []) ≡ due_place s c before
due_other s c before h other = ap (due_from s first_place) (own_push c before h false other ∙ append-nil (entries_of c before))

due_behind : (s : ScriptValue) (before hs : List Entry) (h : Entry) → AreDue s before hs → IsDue s (before ++ hs) h → AreDue s before (hs ++ h ∷ [])
due_behind s before [] h o d = (subst (λ b. IsDue s b h) (append-nil before) d, tt)
due_behind s before (x ∷ hs) h o d = (o.0, due_behind s (before ++ x ∷ []) hs h o.1 (subst (λ b. IsDue s b h) (sym (append_assoc before (x ∷ []) hs)) d))

pub ordered_more : (s : ScriptValue) (hs : List Entry) (h : Entry) → AreDue s [] hs → IsDue s hs h → AreDue s [] (hs ++ h ∷ [])
ordered_more s hs h o d = due_behind s [] hs h o d

pub entered_more : (c : Caller) (line : ℕ) (hs : List Entry) (h : Entry) → entries_at c line (hs ++ h ∷ []) ≡ entries_at c line hs + one_if (same_caller h.mark.caller c && (h.mark.line == line))
entered_more c line hs h = sum_by_push (λ h. one_if (same_caller h.mark.caller c && (h.mark.line == line))) hs h

-- ---- whole blocks

-- the entry ends the block of a line
abbrev Ends : ScriptValue → Await → Entry → Bool
Ends s a h = same_caller h.mark.caller a.caller && (h.mark.line == a.line) && ends_block s h

pub whole_more_one : (s : ScriptValue) (hs : List Entry) (h : Entry) (a : Await) → is_whole s hs a ≡ true → is_whole s (hs ++ h ∷ []) a ≡ true
whole_more_one s hs h a whole = list_any-append (Ends s a) hs (h ∷ []) ∙ or_left (is_whole s hs a) (is_whole s (h ∷ []) a) whole

-- what was whole is whole
pub whole_more : (s : ScriptValue) (hs : List Entry) (h : Entry) (awaits : List Await) → AreWhole s hs awaits → AreWhole s (hs ++ h ∷ []) awaits
whole_more s hs h awaits whole = λ k d within. whole_more_one s hs h _ (whole k d within)

-- a driver's line with an entry is whole
pub driver_whole : (s : ScriptValue) → IsValid s → (before hs : List Entry) (number line : ℕ) → AreDue s before hs → 0 < entries_at (Driver number) line hs → is_whole s hs (record { caller = Driver number; line = line }) ≡ true
driver_whole s valid before [] number line due some = absurd (omega arith)
driver_whole s valid before (h ∷ hs) number line due some = go (same_caller h.mark.caller (Driver number) && (h.mark.line == line)) refl (driver_whole s valid (before ++ h ∷ []) hs number line due.1)
  where
    go : (b : Bool) → (same_caller h.mark.caller (Driver number) && (h.mark.line == line)) ≡ b → (0 < entries_at (Driver number) line hs → is_whole s hs (record { caller = Driver number; line = line }) ≡ true)
        → is_whole s (h ∷ hs) (record { caller = Driver number; line = line }) ≡ true
    go true e rest =
        let both = and_parts (same_caller h.mark.caller (Driver number)) (h.mark.line == line) e in
        let is : h.mark.caller ≡ Driver number = same_caller-eq h.mark.caller (Driver number) both.0 in
        let part : h.mark.part ≡ 0 = driver_part s number h.mark.line h.mark.part (subst (λ c. IsSome (call_of s c h.mark.line h.mark.part)) is due.0.known) in
        let count : part_count_of s h.mark.caller h.mark.line ≡ 0 = ap (λ c. part_count_of s c h.mark.line) is ∙ driver_parts s valid number h.mark.line in
        let ends : ends_block s h ≡ true = or_right (is_fault h.mark.kind) (h.mark.part == part_count_of s h.mark.caller h.mark.line) (eq-eqb h.mark.part (part_count_of s h.mark.caller h.mark.line) (part ∙ sym count)) in
        or_left (Ends s (record { caller = Driver number; line = line }) h) (is_whole s hs (record { caller = Driver number; line = line }))
        (and_from (same_caller h.mark.caller (Driver number) && (h.mark.line == line)) (ends_block s h) e ends)
    go false e rest =
        let split = sum_by-cons (λ h. one_if (same_caller h.mark.caller (Driver number) && (h.mark.line == line))) h hs in
        let none : one_if (same_caller h.mark.caller (Driver number) && (h.mark.line == line)) ≡ 0 = ap one_if e in
        or_right (Ends s (record { caller = Driver number; line = line }) h) (is_whole s hs (record { caller = Driver number; line = line })) (rest (omega (arith, split, none, some)))

-- every line before a back end's next one is whole
abbrev LinesAreWhole : ScriptValue → ℕ → List Entry → Type 0
LinesAreWhole s id hs = (line : ℕ) → 1 ≤ line → line < (due_place s (Back id) hs).line → is_whole s hs (record { caller = Back id; line = line }) ≡ true

back_step : (s : ScriptValue) (id : ℕ) (before : List Entry) (h : Entry) → IsDue s before h → LinesAreWhole s id before → LinesAreWhole s id (before ++ h ∷ [])
back_step s id before h due whole line low high = go (same_caller h.mark.caller (Back id)) refl
  where
    a : Await
    a = record { caller = Back id; line = line }

    old : line < (due_place s (Back id) before).line → is_whole s (before ++ h ∷ []) a ≡ true
    old lt = whole_more_one s before h a (whole line low lt)

    go : (b : Bool) → same_caller h.mark.caller (Back id) ≡ b → is_whole s (before ++ h ∷ []) a ≡ true
    go false e = let same : (due_place s (Back id) (before ++ h ∷ [])).line ≡ (due_place s (Back id) before).line = ap (λ (p : Place). p.line) (due_other s (Back id) before h e) in old (omega (arith, same, high))
    go true e = by (ends_block s h) refl
      where
        is : h.mark.caller ≡ Back id
        is = same_caller-eq h.mark.caller (Back id) e

        at : (due_place s (Back id) before).line ≡ h.mark.line
        at = ap (λ (p : Place). p.line) (subst (λ c. IsNext s before c h.mark.line h.mark.part) is due.next)

        now : (due_place s (Back id) (before ++ h ∷ [])).line ≡ (place_after s h).line
        now = ap (λ (p : Place). p.line) (due_own s (Back id) before h e)

        by : (b : Bool) → ends_block s h ≡ b → is_whole s (before ++ h ∷ []) a ≡ true
        by false n =
            let next : (place_after s h).line ≡ h.mark.line = ap (λ v. let p : Place = cond v (record { line = h.mark.line + 1; part = 1 }) (record { line = h.mark.line; part = h.mark.part + 1 }) in p.line) n in
            old (omega (arith, at, now, next, high))
        by true n =
            let next : (place_after s h).line ≡ h.mark.line + 1 = ap (λ v. let p : Place = cond v (record { line = h.mark.line + 1; part = 1 }) (record { line = h.mark.line; part = h.mark.part + 1 }) in p.line) n in
            split next (cases_eq h.mark.line line)
          where
            split : (place_after s h).line ≡ h.mark.line + 1 → (h.mark.line ≡ line) ⊎ (h.mark.line ≡ line → ⊥) → is_whole s (before ++ h ∷ []) a ≡ true
            split next (inr other) = old (omega (arith, at, now, next, high, other))
            split next (inl same) =
                list_any-append (Ends s a) before (h ∷ [])
                ∙ or_right (is_whole s before a) (is_whole s (h ∷ []) a)
                (or_left (Ends s a h) false (and_from (same_caller h.mark.caller (Back id) && (h.mark.line == line)) (ends_block s h) (and_from (same_caller h.mark.caller (Back id)) (h.mark.line == line) e (eq-eqb h.mark.line line same)) n))

back_lines : (s : ScriptValue) (id : ℕ) (before hs : List Entry) → AreDue s before hs → LinesAreWhole s id before → LinesAreWhole s id (before ++ hs)
back_lines s id before [] due whole = subst (LinesAreWhole s id) (sym (append-nil before)) whole
back_lines s id before (h ∷ hs) due whole = subst (LinesAreWhole s id) (append_assoc before (h ∷ []) hs) (back_lines s id (before ++ h ∷ []) hs due.1 (back_step s id before h due.0 whole))

pub back_whole : (s : ScriptValue) (id : ℕ) (hs : List Entry) → AreDue s [] hs → (line : ℕ) → 1 ≤ line → line < (due_place s (Back id) hs).line → is_whole s hs (record { caller = Back id; line = line }) ≡ true
back_whole s id hs due = back_lines s id [] hs due (λ line low high. absurd (omega (arith, low, high)))

-- ---- entries that stand in the history

pub stands_more : (e h : Entry) (hs : List Entry) → StandsIn e hs → StandsIn e (hs ++ h ∷ [])
stands_more e h [] i = absurd i
stands_more e h (x ∷ hs) (inl q) = inl q
stands_more e h (x ∷ hs) (inr i) = inr (stands_more e h hs i)

pub stands_last : (h : Entry) (hs : List Entry) → StandsIn h (hs ++ h ∷ [])
stands_last h [] = inl refl
stands_last h (x ∷ hs) = inr (stands_last h hs)

pub answers_more : (hs : List Entry) (h : Entry) (j : ℕ) (answers : List Answered) → AnswersStand hs j answers → AnswersStand (hs ++ h ∷ []) j answers
answers_more hs h j [] a = tt
answers_more hs h j (x ∷ answers) a = (stands_more (driver_entry j x.line x.answer) h hs a.0, answers_more hs h j answers a.1)
