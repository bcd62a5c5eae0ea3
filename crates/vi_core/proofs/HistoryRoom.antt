-- A sound world's history has at most an entry for each call of its script, and no more bytes than their answers can
-- have.
use Rattle.std.proofs.Common.{◌≡◌, ◌==◌, ℕ, zero, suc, ◌+◌, ◌-◌, ◌/◌, ◌%◌, ◌≤◌, Bool, true, false, cond, ◌&&◌, List, [], ◌∷◌, ◌++◌, length, take, drop, filter, map, Option, Some, None, IsSome, refl, arith, ◌∙◌, ap, sym, subst, append_assoc, append-nil}
use Rattle.std.specs.Prelude.{sum_by, nat_le}
use Rattle.std.specs.List.{list_all, slice_get}
use Rattle.std.proofs.lemmas.Bool.{and_parts, and_from, leb-true, eq-eqb, ne_eqb}
use Rattle.std.proofs.lemmas.Bool.Decides.{nat_tests}
use Rattle.std.proofs.lemmas.List.{length-take, length-replicate}
use Rattle.std.proofs.lemmas.List.Sums.{sum_by-cons, sum_by-take-le}
use Rattle.vi_bytes.specs.Parts.{part_start, part_end, nth_part}
use Rattle.vi_bytes.specs.declared.span.TheConstants.{PAGE}
use Rattle.vi_bytes.specs.declared.lease.Need.TheVariants as need
use Rattle.vi_bytes.proofs.PropertyLemmas.{length-property_bytes}
use Rattle.vi_history.specs.Device.{Dev, One, Endpoint, endpoint_of}
use Rattle.vi_history.specs.Requests.{reading}
use Rattle.vi_history.specs.Replies.{Answer, status_answer, probed_answer, no_properties, properties_of, properties, request_answer, reading_answer, page_at, read_at, write_at, reply, next}
use Rattle.vi_history.specs.Translation.{translate}
use Rattle.vi_history.specs.Start.{start}
use Rattle.vi_history.specs.Histories.{IsLegal}
use Rattle.vi_history.specs.declared.found.Found.{Found}
use Rattle.vi_history.specs.declared.found.Found.TheVariants as found
use Rattle.vi_history.specs.declared.reading.Reading.{Reading}
use Rattle.vi_history.specs.declared.reading.Reading.TheVariants.{Silent, Malformed, Asks}
use Rattle.vi_history.specs.declared.status.TheConstants.{INVAL}
use Rattle.vi_history.specs.declared.request.Request.{Request}
use Rattle.vi_history.specs.declared.request.Request.TheVariants.{Attach, Detach, Map, Unmap, Probe}
use Rattle.vi_history.specs.declared.call.Call.{Call}
use Rattle.vi_history.specs.declared.call.Call.TheVariants as call
use Rattle.vi_history.specs.declared.call.Caller.{Caller}
use Rattle.vi_history.specs.declared.call.Caller.TheVariants.{Driver, Back}
use Rattle.vi_history.specs.declared.entry.Entry.{Entry}
use Rattle.vi_lines.specs.declared.job.Job.{Job}
use Rattle.vi_lines.specs.declared.job.Job.TheVariants as job
use Rattle.vi_lines.specs.declared.line.Line.{Line}
use Rattle.vi_lines.specs.Value.{ScriptValue}
use Rattle.vi_lines.specs.Valid.{IsValid, is_line, is_caller_in}
use Rattle.vi_lines.specs.Calls.{same_caller, lines_of, line_of, parts_of, driver_call, back_call, call_in, call_of}
use Rattle.vi_lines.specs.Order.{ends_block, entries_at, Place, place_after, due_place, IsNext, IsDue, AreDue}
use Rattle.vi_lines.specs.Legal.{AreCalls}
use Rattle.vi_lines.proofs.IndexLemmas.{same_caller-eq, same_caller-self}
use Rattle.vi_model.specs.Control.{driver_count}
use Rattle.vi_model.specs.Places.{place_count, id_at, back_at}
use Rattle.vi_model.specs.Asking.{one_if}
use Rattle.vi_model.specs.Bound.{total}
use Rattle.vi_model.specs.Rooms.{is_back}
use Rattle.vi_model.specs.Rounds.{calls_in, calls_of}
use Rattle.vi_model.specs.Worlds.{World}
use Rattle.vi_model.specs.Sound.{SoundParts, IsSound}
use Rattle.vi_sound.proofs.Values.Parcels.{line_caller}
use Rattle.vi_core.proofs.KnownCalls.{call_line, driver_part, back_part}
use Rattle.vi_core.specs.HistoryRoom.{request_answer_bytes, answer_bytes, bytes_of, HistoryHasRoom}
use Rattle.vi_sound.proofs.Values.Sums.{sum_to, sum_le}
use Rattle.vi_sound.proofs.Values.Totals.{total_le, total_one, total_rise}
use Rattle.vi_sound.proofs.Values.Known.{known_back, known_driver, known_line, place_there}
use Rattle.vi_sound.proofs.Values.Ids.{back_other}
use Rattle.vi_sound.proofs.Falling.Falls.{line_get}
use Rattle.vi_sound.proofs.Values.Histories.{due_own, due_other, entered_more}

-- ---- weights: of a call by its caller, line and part, and of a line

-- the calls of a line weigh at most what the line weighs
pub record FitsLines (s : ScriptValue) (f : Caller → ℕ → ℕ → ℕ) (w : Line → ℕ) : Type 0 where
  pub driver : (j line : ℕ) (l : Line) → line_of s (Driver j) line ≡ Some l → f (Driver j) line 0 ≤ w l
  pub back : (id line part : ℕ) (l : Line) → line_of s (Back id) line ≡ Some l → part ≤ parts_of l.job → sum_to part (λ q. f (Back id) line (q + 1)) ≤ w l

abbrev weight_of : (Caller → ℕ → ℕ → ℕ) → Entry → ℕ
weight_of f h = f h.mark.caller h.mark.line h.mark.part

abbrev weight_in : (Line → ℕ) → Option Line → ℕ
weight_in w None = 0
weight_in w (Some l) = w l

-- the smaller of the two
abbrev capped : ℕ → ℕ → ℕ
capped a b = cond (nat_le a b) a b

capped_most : (a b : ℕ) → capped a b ≤ b
capped_most a b = go (nat_le a b) refl
  where
    go : (v : Bool) → nat_le a b ≡ v → cond v a b ≤ b
    go true e = leb-true a b e
    go false e = omega arith

capped_less : (a b : ℕ) → capped a b ≤ a
capped_less a b = grind (arith, nat_tests)

capped_is : (a b : ℕ) → a ≤ b → capped a b ≡ a
capped_is a b le = grind (arith, nat_tests)

-- ---- a back end: what its next call has behind it

-- the lines before the place, and the parts before it as far as the line weighs so much
abbrev behind : (Line → ℕ) → (ℕ → ℕ → ℕ) → List Line → Place → ℕ
behind w g ls p = sum_by w (take (p.line - 1) ls) + capped (sum_to (p.part - 1) (λ q. g p.line (q + 1))) (weight_in w (slice_get ls (p.line - 1)))

take_next : (w : Line → ℕ) (ls : List Line) (n : ℕ) → sum_by w (take n ls) + weight_in w (slice_get ls n) ≤ sum_by w (take (suc n) ls)
take_next w [] zero = omega arith
take_next w [] (suc n) = omega arith
take_next w (l ∷ ls) zero = let a = sum_by-cons w l [] in omega (arith, a)
take_next w (l ∷ ls) (suc n) =
    let i = take_next w ls n in
    let a = sum_by-cons w l (take n ls) in
    let b = sum_by-cons w l (take (suc n) ls) in
    omega (arith, i, a, b)

take_more : (w : Line → ℕ) (ls : List Line) (n : ℕ) → sum_by w (take n ls) + weight_in w (slice_get ls n) ≤ sum_by w (take (n + 1) ls)
take_more w ls n = let i = take_next w ls n in let q : n + 1 ≡ suc n = omega arith in let e : sum_by w (take (n + 1) ls) ≡ sum_by w (take (suc n) ls) = ap (λ k. sum_by w (take k ls)) q in omega (arith, i, e)

-- it is no more than all lines
behind_most : (w : Line → ℕ) (g : ℕ → ℕ → ℕ) (ls : List Line) (p : Place) → behind w g ls p ≤ sum_by w ls
behind_most w g ls p =
    let a = capped_most (sum_to (p.part - 1) (λ q. g p.line (q + 1))) (weight_in w (slice_get ls (p.line - 1))) in
    let b = take_more w ls (p.line - 1) in
    let c = sum_by-take-le w ls (p.line - 1 + 1) in
    omega (arith, a, b, c)

-- a part of a line, with the place behind it
behind_next : (w : Line → ℕ) (g : ℕ → ℕ → ℕ) (ls : List Line) (line part : ℕ) (l : Line) (ends : Bool) → 1 ≤ line → 1 ≤ part → slice_get ls (line - 1) ≡ Some l → sum_to part (λ q. g line (q + 1)) ≤ w l
    → behind w g ls (record { line = line; part = part }) + g line part ≤ behind w g ls (cond ends (record { line = line + 1; part = 1 }) (record { line = line; part = part + 1 }))
behind_next w g ls line part l ends low first is most = go ends
  where
    own : weight_in w (slice_get ls (line - 1)) ≡ w l
    own = ap (weight_in w) is

    -- the parts before this one, and it
    split : sum_to (part - 1) (λ q. g line (q + 1)) + g line part ≡ sum_to part (λ q. g line (q + 1))
    split =
        let e : part ≡ suc (part - 1) = omega (arith, first) in
        let at : part - 1 + 1 ≡ part = omega (arith, first) in
        ap (λ n. sum_to (part - 1) (λ q. g line (q + 1)) + g line n) (sym at) ∙ ap (λ n. sum_to n (λ q. g line (q + 1))) (sym e)

    before : capped (sum_to (part - 1) (λ q. g line (q + 1))) (weight_in w (slice_get ls (line - 1))) ≤ sum_to (part - 1) (λ q. g line (q + 1))
    before = capped_less (sum_to (part - 1) (λ q. g line (q + 1))) (weight_in w (slice_get ls (line - 1)))

    go : (b : Bool) → behind w g ls (record { line = line; part = part }) + g line part ≤ behind w g ls (cond b (record { line = line + 1; part = 1 }) (record { line = line; part = part + 1 }))
    go true =
        let n : line + 1 - 1 ≡ line - 1 + 1 = omega (arith, low) in
        let same : sum_by w (take (line + 1 - 1) ls) ≡ sum_by w (take (line - 1 + 1) ls) = ap (λ k. sum_by w (take k ls)) n in
        let more = take_more w ls (line - 1) in
        omega (arith, same, more, own, split, most, before)
    go false =
        let n : part + 1 - 1 ≡ part = omega arith in
        let same : sum_to (part + 1 - 1) (λ q. g line (q + 1)) ≡ sum_to part (λ q. g line (q + 1)) = ap (λ k. sum_to k (λ q. g line (q + 1))) n in
        let whole = capped_is (sum_to (part + 1 - 1) (λ q. g line (q + 1))) (weight_in w (slice_get ls (line - 1))) (omega (arith, same, own, most)) in
        omega (arith, whole, same, split, before)

-- what is behind the next call of the back end at a place
abbrev behind_at : ScriptValue → (Caller → ℕ → ℕ → ℕ) → (Line → ℕ) → ℕ → List Entry → ℕ
behind_at s f w k hs = behind w (f (back_at s k)) (lines_of s (back_at s k)) (due_place s (back_at s k) hs)

back_own : (s : ScriptValue) (f : Caller → ℕ → ℕ → ℕ) (w : Line → ℕ) (k : ℕ) (before : List Entry) (h : Entry) → FitsLines s f w → IsDue s before h → h.mark.caller ≡ back_at s k
    → behind_at s f w k before + weight_of f h ≤ behind_at s f w k (before ++ h ∷ [])
back_own s f w k before h fits due own =
    let mine : same_caller h.mark.caller (back_at s k) ≡ true = ap (λ d. same_caller d (back_at s k)) own ∙ same_caller-self (back_at s k) in
    let was : due_place s (back_at s k) before ≡ record { line = h.mark.line; part = h.mark.part } = subst (λ d. IsNext s before d h.mark.line h.mark.part) own due.next in
    let now : due_place s (back_at s k) (before ++ h ∷ []) ≡ place_after s h = due_own s (back_at s k) before h mine in
    let known : IsSome (call_of s (back_at s k) h.mark.line h.mark.part) = subst (λ d. IsSome (call_of s d h.mark.line h.mark.part)) own due.known in
    let line = call_line s (back_at s k) h.mark.line h.mark.part known in
    let l = known_line s (back_at s k) h.mark.line h.mark.part known in
    let part = back_part (id_at s k) h.mark.part l.0 l.2 in
    let at : h.mark.line ≡ h.mark.line - 1 + 1 = omega (arith, line.0) in
    let is : slice_get (lines_of s (back_at s k)) (h.mark.line - 1) ≡ Some l.0 = sym (line_get s (back_at s k) (h.mark.line - 1)) ∙ (ap (line_of s (back_at s k)) (sym at) ∙ l.1) in
    let most = fits.back (id_at s k) h.mark.line h.mark.part l.0 l.1 part.1 in
    let next = behind_next w (f (back_at s k)) (lines_of s (back_at s k)) h.mark.line h.mark.part l.0 (ends_block s h) line.0 part.0 is most in
    let a : behind_at s f w k before ≡ behind w (f (back_at s k)) (lines_of s (back_at s k)) (record { line = h.mark.line; part = h.mark.part }) = ap (behind w (f (back_at s k)) (lines_of s (back_at s k))) was in
    let b : behind_at s f w k (before ++ h ∷ []) ≡ behind w (f (back_at s k)) (lines_of s (back_at s k)) (place_after s h) = ap (behind w (f (back_at s k)) (lines_of s (back_at s k))) now in
    let c : weight_of f h ≡ f (back_at s k) h.mark.line h.mark.part = ap (λ d. f d h.mark.line h.mark.part) own in
    omega (arith, a, b, c, next)

-- no entry takes anything from it
back_rise : (s : ScriptValue) (f : Caller → ℕ → ℕ → ℕ) (w : Line → ℕ) (k : ℕ) (before : List Entry) (h : Entry) → FitsLines s f w → IsDue s before h → behind_at s f w k before ≤ behind_at s f w k (before ++ h ∷ [])
back_rise s f w k before h fits due = go (same_caller h.mark.caller (back_at s k)) refl
  where
    go : (b : Bool) → same_caller h.mark.caller (back_at s k) ≡ b → behind_at s f w k before ≤ behind_at s f w k (before ++ h ∷ [])
    go true e = let o = back_own s f w k before h fits due (same_caller-eq h.mark.caller (back_at s k) e) in omega (arith, o)
    go false e = let o : behind_at s f w k (before ++ h ∷ []) ≡ behind_at s f w k before = ap (behind w (f (back_at s k)) (lines_of s (back_at s k))) (due_other s (back_at s k) before h e) in omega (arith, o)

-- ---- a driver: its lines with an entry

abbrev weight_if : ℕ → ℕ → ℕ
weight_if zero weight = 0
weight_if (suc entries) weight = weight

weight_if_rises : (n m weight : ℕ) → n ≤ m → weight_if n weight ≤ weight_if m weight
weight_if_rises zero m weight le = omega arith
weight_if_rises (suc n) zero weight le = absurd (omega (arith, le))
weight_if_rises (suc n) (suc m) weight le = omega arith

-- what the driver's i-th line weighs, counted from 0, if it has an entry
abbrev entered : ScriptValue → (Line → ℕ) → ℕ → List Entry → ℕ → ℕ
entered s w j hs i = weight_if (entries_at (Driver j) (i + 1) hs) (weight_in w (slice_get (lines_of s (Driver j)) i))

abbrev entered_by : ScriptValue → (Line → ℕ) → ℕ → List Entry → ℕ
entered_by s w j hs = total (entered s w j hs) (length (lines_of s (Driver j)))

total_lines : (w : Line → ℕ) (g : ℕ → ℕ) (ls : List Line) (n : ℕ) → ((i : ℕ) → g i ≤ weight_in w (slice_get ls i)) → total g n ≤ sum_by w (take n ls)
total_lines w g ls zero h = omega arith
total_lines w g ls (suc n) h =
    let i = total_lines w g ls n h in
    let o = h n in
    let m = take_next w ls n in
    omega (arith, i, o, m)

entered_most : (s : ScriptValue) (w : Line → ℕ) (j : ℕ) (hs : List Entry) → entered_by s w j hs ≤ sum_by w (lines_of s (Driver j))
entered_most s w j hs =
    let a = total_lines w (entered s w j hs) (lines_of s (Driver j)) (length (lines_of s (Driver j))) (λ i. less (entries_at (Driver j) (i + 1) hs) (weight_in w (slice_get (lines_of s (Driver j)) i))) in
    let b = sum_by-take-le w (lines_of s (Driver j)) (length (lines_of s (Driver j))) in
    omega (arith, a, b)
  where
    less : (n weight : ℕ) → weight_if n weight ≤ weight
    less zero weight = omega arith
    less (suc n) weight = omega arith

line_rise : (s : ScriptValue) (w : Line → ℕ) (j i : ℕ) (before : List Entry) (h : Entry) → entered s w j before i ≤ entered s w j (before ++ h ∷ []) i
line_rise s w j i before h =
    let m = entered_more (Driver j) (i + 1) before h in
    weight_if_rises (entries_at (Driver j) (i + 1) before) (entries_at (Driver j) (i + 1) (before ++ h ∷ [])) (weight_in w (slice_get (lines_of s (Driver j)) i)) (omega (arith, m))

driver_rise : (s : ScriptValue) (w : Line → ℕ) (j : ℕ) (before : List Entry) (h : Entry) → entered_by s w j before ≤ entered_by s w j (before ++ h ∷ [])
driver_rise s w j before h = total_le (entered s w j (before ++ h ∷ [])) (entered s w j before) (length (lines_of s (Driver j))) (λ i lt. line_rise s w j i before h)

driver_own : (s : ScriptValue) (f : Caller → ℕ → ℕ → ℕ) (w : Line → ℕ) (j : ℕ) (before : List Entry) (h : Entry) → FitsLines s f w → IsDue s before h → h.mark.caller ≡ Driver j
    → entered_by s w j before + weight_of f h ≤ entered_by s w j (before ++ h ∷ [])
driver_own s f w j before h fits due own =
    let known : IsSome (call_of s (Driver j) h.mark.line h.mark.part) = subst (λ d. IsSome (call_of s d h.mark.line h.mark.part)) own due.known in
    let line = call_line s (Driver j) h.mark.line h.mark.part known in
    let l = known_line s (Driver j) h.mark.line h.mark.part known in
    let part : h.mark.part ≡ 0 = driver_part s j h.mark.line h.mark.part known in
    let at : h.mark.line - 1 + 1 ≡ h.mark.line = omega (arith, line.0) in
    let is : slice_get (lines_of s (Driver j)) (h.mark.line - 1) ≡ Some l.0 = sym (line_get s (Driver j) (h.mark.line - 1)) ∙ (ap (line_of s (Driver j)) at ∙ l.1) in
    let next : IsNext s before (Driver j) h.mark.line h.mark.part = subst (λ d. IsNext s before d h.mark.line h.mark.part) own due.next in
    let none : entries_at (Driver j) (h.mark.line - 1 + 1) before ≡ 0 = ap (λ n. entries_at (Driver j) n before) at ∙ next.0 in
    let mine : (same_caller h.mark.caller (Driver j) && (h.mark.line == (h.mark.line - 1 + 1))) ≡ true = and_from (same_caller h.mark.caller (Driver j)) (h.mark.line == (h.mark.line - 1 + 1)) (ap (λ d. same_caller d (Driver j)) own ∙ same_caller-self (Driver j)) (eq-eqb h.mark.line (h.mark.line - 1 + 1) (sym at)) in
    let one : entries_at (Driver j) (h.mark.line - 1 + 1) (before ++ h ∷ []) ≡ 1 = entered_more (Driver j) (h.mark.line - 1 + 1) before h ∙ (let o : one_if (same_caller h.mark.caller (Driver j) && (h.mark.line == (h.mark.line - 1 + 1))) ≡ 1 = ap one_if mine in omega (arith, none, o)) in
    let was : entered s w j before (h.mark.line - 1) ≡ 0 = ap (λ n. weight_if n (weight_in w (slice_get (lines_of s (Driver j)) (h.mark.line - 1)))) none in
    let now : entered s w j (before ++ h ∷ []) (h.mark.line - 1) ≡ w l.0 = ap (λ n. weight_if n (weight_in w (slice_get (lines_of s (Driver j)) (h.mark.line - 1)))) one ∙ ap (weight_in w) is in
    let c : weight_of f h ≡ f (Driver j) h.mark.line 0 = ap (λ d. f d h.mark.line h.mark.part) own ∙ ap (f (Driver j) h.mark.line) part in
    let most = fits.driver j h.mark.line l.0 l.1 in
    total_one (entered s w j (before ++ h ∷ [])) (entered s w j before) (weight_of f h) (length (lines_of s (Driver j))) (h.mark.line - 1) (omega (arith, line.0, line.1)) (omega (arith, was, now, c, most)) (λ i lt ne. line_rise s w j i before h)

-- ---- all callers

abbrev accounted : ScriptValue → (Caller → ℕ → ℕ → ℕ) → (Line → ℕ) → List Entry → ℕ
accounted s f w hs = total (λ j. entered_by s w j hs) driver_count + total (λ k. behind_at s f w k hs) (place_count s)

accounted_more : (s : ScriptValue) (f : Caller → ℕ → ℕ → ℕ) (w : Line → ℕ) (before : List Entry) (h : Entry) → IsValid s → FitsLines s f w → IsDue s before h → accounted s f w before + weight_of f h ≤ accounted s f w (before ++ h ∷ [])
accounted_more s f w before h valid fits due = go h.mark.caller refl
  where
    go : (c : Caller) → h.mark.caller ≡ c → accounted s f w before + weight_of f h ≤ accounted s f w (before ++ h ∷ [])
    go (Driver j) e =
        let lt = known_driver s j h.mark.line h.mark.part valid (subst (λ d. IsSome (call_of s d h.mark.line h.mark.part)) e due.known) in
        let a = total_one (λ j. entered_by s w j (before ++ h ∷ [])) (λ j. entered_by s w j before) (weight_of f h) driver_count j lt (driver_own s f w j before h fits due e) (λ i l ne. driver_rise s w i before h) in
        let b = total_le (λ k. behind_at s f w k (before ++ h ∷ [])) (λ k. behind_at s f w k before) (place_count s) (λ k l. back_rise s f w k before h fits due) in
        omega (arith, a, b)
    go (Back id) e =
        let k = known_back s id h.mark.line h.mark.part valid (subst (λ d. IsSome (call_of s d h.mark.line h.mark.part)) e due.known) in
        let own : h.mark.caller ≡ back_at s k.0 = e ∙ ap (λ i. Back i) (sym k.2) in
        let a = total_le (λ j. entered_by s w j (before ++ h ∷ [])) (λ j. entered_by s w j before) driver_count (λ j l. driver_rise s w j before h) in
        let b = total_one (λ k. behind_at s f w k (before ++ h ∷ [])) (λ k. behind_at s f w k before) (weight_of f h) (place_count s) k.0 k.1 (back_own s f w k.0 before h fits due own) (λ i l ne. back_rise s f w i before h fits due) in
        omega (arith, a, b)

accounted_all : (s : ScriptValue) (f : Caller → ℕ → ℕ → ℕ) (w : Line → ℕ) (before hs : List Entry) → IsValid s → FitsLines s f w → AreDue s before hs → accounted s f w before + sum_by (weight_of f) hs ≤ accounted s f w (before ++ hs)
accounted_all s f w before [] valid fits due = let same : accounted s f w (before ++ []) ≡ accounted s f w before = ap (accounted s f w) (append-nil before) in omega (arith, same)
accounted_all s f w before (h ∷ hs) valid fits due =
    let step = accounted_more s f w before h valid fits due.0 in
    let rest = accounted_all s f w (before ++ h ∷ []) hs valid fits due.1 in
    let same : accounted s f w ((before ++ h ∷ []) ++ hs) ≡ accounted s f w (before ++ h ∷ hs) = ap (accounted s f w) (append_assoc before (h ∷ []) hs) in
    let split = sum_by-cons (weight_of f) h hs in
    omega (arith, step, rest, same, split)

-- ---- each line is of one caller

abbrev weighed : (Line → ℕ) → List Line → Caller → ℕ
weighed w ls c = sum_by w (filter (λ l. same_caller l.caller c) ls)

weighed_cons : (w : Line → ℕ) (l : Line) (ls : List Line) (c : Caller) (b : Bool) → same_caller l.caller c ≡ b → weighed w (l ∷ ls) c ≡ cond b (w l) 0 + weighed w ls c
weighed_cons w l ls c true e = ap (λ v. sum_by w (cond v (l ∷ filter (λ l. same_caller l.caller c) ls) (filter (λ l. same_caller l.caller c) ls))) e ∙ sum_by-cons w l (filter (λ l. same_caller l.caller c) ls)
weighed_cons w l ls c false e = ap (λ v. sum_by w (cond v (l ∷ filter (λ l. same_caller l.caller c) ls) (filter (λ l. same_caller l.caller c) ls))) e ∙ omega arith

total_zero : (g : ℕ → ℕ) (n : ℕ) → ((i : ℕ) → g i ≡ 0) → total g n ≡ 0
total_zero g zero h = refl
total_zero g (suc n) h = let r = total_zero g n h in let o = h n in omega (arith, r, o)

lines_split : (s : ScriptValue) (w : Line → ℕ) (ls : List Line) → IsValid s → list_all (λ l. is_line s.setup.endpoints l) ls ≡ true → total (λ j. weighed w ls (Driver j)) driver_count + total (λ k. weighed w ls (back_at s k)) (place_count s) ≤ sum_by w ls
lines_split s w [] valid h =
    let a = total_zero (λ j. weighed w [] (Driver j)) driver_count (λ j. refl) in
    let b = total_zero (λ k. weighed w [] (back_at s k)) (place_count s) (λ k. refl) in
    omega (arith, a, b)
lines_split s w (l ∷ ls) valid h = go l.caller refl (lines_split s w ls valid both.1)
  where
    both : (is_line s.setup.endpoints l ≡ true) × (list_all (λ l. is_line s.setup.endpoints l) ls ≡ true)
    both = and_parts (is_line s.setup.endpoints l) (list_all (λ l. is_line s.setup.endpoints l) ls) h

    there : is_caller_in s.setup.endpoints l.caller ≡ true
    there = (and_parts (is_caller_in s.setup.endpoints l.caller) _ both.0).0

    more : sum_by w (l ∷ ls) ≡ w l + sum_by w ls
    more = sum_by-cons w l ls

    is : (c d : Caller) (b : Bool) → l.caller ≡ c → same_caller c d ≡ b → weighed w (l ∷ ls) d ≡ cond b (w l) 0 + weighed w ls d
    is c d b e f = weighed_cons w l ls d b (ap (λ c. same_caller c d) e ∙ f)

    go : (c : Caller) → l.caller ≡ c → total (λ j. weighed w ls (Driver j)) driver_count + total (λ k. weighed w ls (back_at s k)) (place_count s) ≤ sum_by w ls
        → total (λ j. weighed w (l ∷ ls) (Driver j)) driver_count + total (λ k. weighed w (l ∷ ls) (back_at s k)) (place_count s) ≤ sum_by w (l ∷ ls)
    go (Driver d) e rest =
        let low = leb-true d 7 (subst (λ c. is_caller_in s.setup.endpoints c ≡ true) e there) in
        let a = total_rise (λ j. weighed w ls (Driver j)) (λ j. weighed w (l ∷ ls) (Driver j)) (w l) driver_count d (omega (arith, low))
        (let m = is (Driver d) (Driver d) true e (eq-eqb d d refl) in omega (arith, m))
        (λ j below ne. let m = is (Driver d) (Driver j) false e (ne_eqb d j (λ q. ne (sym q))) in omega (arith, m)) in
        let b = total_le (λ k. weighed w ls (back_at s k)) (λ k. weighed w (l ∷ ls) (back_at s k)) (place_count s) (λ k below. let m = is (Driver d) (back_at s k) false e refl in omega (arith, m)) in
        omega (arith, rest, more, a, b)
    go (Back id) e rest =
        let k = place_there s.setup.endpoints id (subst (λ c. is_caller_in s.setup.endpoints c ≡ true) e there) in
        let own : l.caller ≡ back_at s k.0 = e ∙ ap (λ i. Back i) (sym k.2) in
        let a = total_le (λ j. weighed w ls (Driver j)) (λ j. weighed w (l ∷ ls) (Driver j)) driver_count (λ j below. let m = is (Back id) (Driver j) false e refl in omega (arith, m)) in
        let b = total_rise (λ k. weighed w ls (back_at s k)) (λ k. weighed w (l ∷ ls) (back_at s k)) (w l) (place_count s) k.0 k.1
        (let m = is (back_at s k.0) (back_at s k.0) true own (same_caller-self (back_at s k.0)) in omega (arith, m))
        (λ i below ne. let m = is (back_at s k.0) (back_at s i) false own (back_other s i k.0 valid below k.1 ne) in omega (arith, m)) in
        omega (arith, rest, more, a, b)

-- the entries of an ordered history weigh at most what the script's lines weigh
pub weights_fit : (s : ScriptValue) (f : Caller → ℕ → ℕ → ℕ) (w : Line → ℕ) (hs : List Entry) → IsValid s → FitsLines s f w → AreDue s [] hs → sum_by (weight_of f) hs ≤ sum_by w s.lines
weights_fit s f w hs valid fits due =
    let all = accounted_all s f w [] hs valid fits due in
    let a = total_le (λ j. weighed w s.lines (Driver j)) (λ j. entered_by s w j hs) driver_count (λ j lt. entered_most s w j hs) in
    let b = total_le (λ k. weighed w s.lines (back_at s k)) (λ k. behind_at s f w k hs) (place_count s) (λ k lt. behind_most w (f (back_at s k)) (lines_of s (back_at s k)) (due_place s (back_at s k) hs)) in
    let c = lines_split s w s.lines valid valid.lines_each in
    omega (arith, all, a, b, c)

-- ---- entries

one_each : (n : ℕ) → sum_to n (λ q. 1) ≡ n
one_each zero = refl
one_each (suc n) = let r = one_each n in omega (arith, r)

calls_fit_lines : (s : ScriptValue) → FitsLines s (λ c line part. 1) (λ l. calls_in l)
calls_fit_lines s = record {
  driver = λ j line l e. let one : calls_in l ≡ 1 = ap (λ c. cond (is_back c) (parts_of l.job) 1) (line_caller s (Driver j) line l e) in omega (arith, one);
  back = λ id line part l e few.
      let all : calls_in l ≡ parts_of l.job = ap (λ c. cond (is_back c) (parts_of l.job) 1) (line_caller s (Back id) line l e) in
      let each = one_each part in
      omega (arith, all, each, few);
}

entries_each : (hs : List Entry) → sum_by (λ (h : Entry). 1) hs ≡ length hs
entries_each [] = refl
entries_each (h ∷ hs) = let r = entries_each hs in let c = sum_by-cons (λ (h : Entry). 1) h hs in omega (arith, r, c)

pub entries_few : (s : ScriptValue) (hs : List Entry) → IsValid s → AreDue s [] hs → length hs ≤ calls_of s
unfolding calls_of
entries_few s hs valid due =
    let all = weights_fit s (λ c line part. 1) (λ l. calls_in l) hs valid (calls_fit_lines s) due in
    let each = entries_each hs in
    omega (arith, all, each)

-- ---- bytes

-- how many bytes the answer to a call can have
abbrev call_room : Option Call → ℕ
call_room None = 0
call_room (Some (call.Ask request)) = request_answer_bytes request
call_room (Some (call.Raw read write)) = 512
call_room (Some (call.Bypass on)) = 0
call_room (Some (call.Read endpoint part)) = part.len
call_room (Some (call.Write endpoint part bytes)) = 0

abbrev room_of : ScriptValue → Caller → ℕ → ℕ → ℕ
room_of s c line part = call_room (call_of s c line part)

driver_room : (j : Job) → call_room (driver_call j) ≤ answer_bytes j
driver_room (job.Ask request) = omega arith
driver_room (job.Raw read write) = omega arith
driver_room (job.Bypass on) = omega arith
driver_room (job.Read iova len) = omega arith
driver_room (job.Write iova bytes) = omega arith

-- of a part of a job
abbrev part_room : Job → ℕ → ℕ
part_room (job.Ask request) k = 0
part_room (job.Raw read write) k = 0
part_room (job.Bypass on) k = 0
part_room (job.Read iova len) k = (nth_part iova len k).len
part_room (job.Write iova bytes) k = 0

back_room : (id k : ℕ) (j : Job) (b : Bool) → call_room (cond b (back_call id j k) None) ≤ part_room j k
back_room id k j false = omega arith
back_room id k (job.Ask request) true = omega arith
back_room id k (job.Raw read write) true = omega arith
back_room id k (job.Bypass on) true = omega arith
back_room id k (job.Read iova len) true = omega arith
back_room id k (job.Write iova bytes) true = omega arith

none_each : (n : ℕ) → sum_to n (λ q. 0) ≡ 0
none_each zero = refl
none_each (suc n) = let r = none_each n in omega (arith, r)

read_parts : (iova len n : ℕ) → sum_to n (λ q. (nth_part iova len (q + 1)).len) ≤ part_end iova len n
read_parts iova len zero = omega arith
read_parts iova len (suc n) =
    let r = read_parts iova len n in
    let e : suc n ≡ n + 1 = omega arith in
    let next : part_end iova len n + (part_end iova len (n + 1) - part_start iova (n + 1)) ≤ part_end iova len (n + 1) = omega arith in
    let same : part_end iova len (suc n) ≡ part_end iova len (n + 1) = ap (part_end iova len) e in
    omega (arith, r, next, same)

job_room : (j : Job) (n : ℕ) → sum_to n (λ q. part_room j (q + 1)) ≤ answer_bytes j
job_room (job.Ask request) n = let z = none_each n in omega (arith, z)
job_room (job.Raw read write) n = let z = none_each n in omega (arith, z)
job_room (job.Bypass on) n = let z = none_each n in omega (arith, z)
job_room (job.Read iova len) n = let r = read_parts iova len n in omega (arith, r)
job_room (job.Write iova bytes) n = let z = none_each n in omega (arith, z)

room_fits_lines : (s : ScriptValue) → FitsLines s (room_of s) (λ l. answer_bytes l.job)
unfolding call_of
room_fits_lines s = record {
  driver = λ j line l e.
      let is : room_of s (Driver j) line 0 ≡ call_room (driver_call l.job) = ap (λ o. call_room (call_in (Driver j) 0 o)) e in
      let r = driver_room l.job in
      omega (arith, is, r);
  back = λ id line part l e few.
      let a = sum_le part (λ q. room_of s (Back id) line (q + 1)) (λ q. part_room l.job (q + 1)) (λ q lt.
      let is : room_of s (Back id) line (q + 1) ≡ call_room (cond (nat_le 1 (q + 1) && nat_le (q + 1) (parts_of l.job)) (back_call id l.job (q + 1)) None) = ap (λ o. call_room (call_in (Back id) (q + 1) o)) e in
      let r = back_room id (q + 1) l.job (nat_le 1 (q + 1) && nat_le (q + 1) (parts_of l.job)) in
      omega (arith, is, r)) in
      let b = job_room l.job part in
      omega (arith, a, b);
}

-- the answer to a call fits its room
pub properties_length : (dev : Dev) (endpoint : ℕ) → length (properties dev endpoint) ≡ 512
unfolding properties no_properties
properties_length dev endpoint = go (endpoint_of dev endpoint)
  where
    go : (o : Option Endpoint) → length (properties_of o) ≡ 512
    go None = length-replicate {A = ℕ} 512 0
    go (Some x) = length-property_bytes x.regions

request_room : (dev : Dev) (q : Request) → length (request_answer dev q).bytes ≤ request_answer_bytes q
request_room dev (Attach domain endpoint flags) = omega arith
request_room dev (Detach domain endpoint) = omega arith
request_room dev (Map domain first last target flags) = omega arith
request_room dev (Unmap domain first last) = omega arith
request_room dev (Probe endpoint) = let n = properties_length dev endpoint in omega (arith, n)

request_most : (q : Request) → request_answer_bytes q ≤ 512
request_most (Attach domain endpoint flags) = omega arith
request_most (Detach domain endpoint) = omega arith
request_most (Map domain first last target flags) = omega arith
request_most (Unmap domain first last) = omega arith
request_most (Probe endpoint) = omega arith

reading_room : (dev : Dev) (r : Reading) → length (reading_answer dev r).bytes ≤ 512
unfolding no_properties
reading_room dev Silent = omega arith
reading_room dev (Malformed probe) = go probe
  where
    go : (b : Bool) → length (let a : Answer = cond b (probed_answer INVAL no_properties) (status_answer INVAL) in a.bytes) ≤ 512
    go true = let n = length-replicate {A = ℕ} 512 0 in omega (arith, n)
    go false = omega arith
reading_room dev (Asks q) = let a = request_room dev q in let b = request_most q in omega (arith, a, b)

reply_room : (one : One) (c : Call) → length (reply one c).bytes ≤ call_room (Some c)
unfolding reply
reply_room one (call.Ask request) = request_room one.dev request
reply_room one (call.Raw read write) = reading_room one.dev (reading read write)
reply_room one (call.Bypass on) = omega arith
reply_room one (call.Read endpoint part) = go (translate one.dev endpoint part.iova need.Read)
  where
    go : (f : Found) → length (read_at one.memory part.len f).bytes ≤ part.len
    go (found.At target) = let n = length-take part.len (drop (target % PAGE) (page_at one.memory (target / PAGE))) in omega (arith, n)
    go (found.Fault reason) = omega arith
reply_room one (call.Write endpoint part bytes) = go (translate one.dev endpoint part.iova need.Write)
  where
    go : (f : Found) → length (write_at f).bytes ≤ 0
    go (found.At target) = omega arith
    go (found.Fault reason) = omega arith

answers_room : (s : ScriptValue) (one : One) (cs : List Call) (hs : List Entry) → AreCalls s hs cs → IsLegal one cs hs → sum_by (λ (h : Entry). length h.bytes) hs ≤ sum_by (weight_of (room_of s)) hs
answers_room s one cs [] named legal = omega arith
answers_room s one [] (h ∷ hs) named legal = absurd legal
answers_room s one (c ∷ cs) (h ∷ hs) named legal =
    let heads = both named in
    let rest = answers_room s (next one c) cs hs heads.1 legal.1 in
    let a = sum_by-cons (λ (h : Entry). length h.bytes) h hs in
    let b = sum_by-cons (weight_of (room_of s)) h hs in
    let size : length h.bytes ≡ length (reply one c).bytes = ap (λ (x : Answer). length x.bytes) legal.0 in
    let room = reply_room one c in
    let at : room_of s h.mark.caller h.mark.line h.mark.part ≡ call_room (Some c) = ap call_room heads.0 in
    omega (arith, rest, a, b, size, room, at)
  where
    both : (call_of s h.mark.caller h.mark.line h.mark.part ∷ map (λ g. call_of s g.mark.caller g.mark.line g.mark.part) hs) ≡ (Some c ∷ map (λ c. Some c) cs)
        → (call_of s h.mark.caller h.mark.line h.mark.part ≡ Some c) × (map (λ g. call_of s g.mark.caller g.mark.line g.mark.part) hs ≡ map (λ c. Some c) cs)
    both e = (cc, cc)

bytes_few : (s : ScriptValue) (w : World) → IsValid s → SoundParts s w → sum_by (λ (h : Entry). length h.bytes) w.history ≤ bytes_of s
unfolding bytes_of
bytes_few s w valid ok =
    let a = answers_room s (start s.setup) ok.told.calls w.history ok.told.named ok.told.legal in
    let b = weights_fit s (room_of s) (λ l. answer_bytes l.job) w.history valid (room_fits_lines s) ok.told.ordered in
    omega (arith, a, b)

pub history_room : HistoryHasRoom
unfolding IsSound
history_room s w play ok = (entries_few s w.history play.valid ok.told.ordered, bytes_few s w play.valid ok)
