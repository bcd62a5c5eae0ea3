-- A back end's next call is a part of its line.
use Rattle.std.proofs.Common.{◌≡◌, ◌≢◌, ◌==◌, ℕ, ◌+◌, ◌≤◌, Bool, true, false, cond, ◌&&◌, not, List, [], ◌∷◌, ◌++◌, length, Some, None, IsSome, refl, arith, ◌∙◌, ap, sym, subst, ◌⊎◌, inl, inr, append_assoc, append-nil}
use Rattle.std.specs.Prelude.{nat_le}
use Rattle.std.proofs.lemmas.Bool.{or_parts, and_parts, leb-true, eq-eqb, false≢true}
use Rattle.std.proofs.lemmas.Bool.Decides.{nat_tests}
use Rattle.vi_history.specs.Kinds.{is_fault}
use Rattle.vi_history.specs.declared.call.Caller.TheVariants.{Back}
use Rattle.vi_history.specs.declared.entry.Entry.{Entry}
use Rattle.vi_lines.specs.declared.job.Job.{Job}
use Rattle.vi_lines.specs.declared.job.Job.TheVariants as job
use Rattle.vi_lines.specs.declared.line.Line.{Line}
use Rattle.vi_lines.specs.Value.{ScriptValue}
use Rattle.vi_lines.specs.Valid.{IsValid, is_line, is_caller_in, does, back_does}
use Rattle.vi_lines.specs.Limits.{is_job}
use Rattle.vi_lines.specs.Rules.{job_runs_over}
use Rattle.vi_lines.specs.Calls.{same_caller, line_of, parts_of, call_in, call_of, back_call, parts_in, part_count_of}
use Rattle.vi_lines.specs.Order.{Place, ends_block, due_place, IsDue, AreDue}
use Rattle.vi_lines.proofs.IndexLemmas.{same_caller-eq}
use Rattle.vi_model.specs.Places.{id_at, back_at}
use Rattle.vi_model.specs.Backs.{Access, access_in, access_at}
use Rattle.vi_sound.proofs.Values.Histories.{due_own, due_other}
use Rattle.vi_sound.proofs.Values.Parcels.{line_all, line_caller, all_from_test}
use Rattle.vi_sound.proofs.Values.Known.{known_line, line_is}
use Rattle.vi_sound.proofs.Falling.Falls.{part_within}

-- the place is a line's first part, or one of its parts
abbrev IsInLine : ScriptValue → ℕ → Place → Type 0
IsInLine s id p = (p.part ≡ 1) ⊎ (p.part ≤ part_count_of s (Back id) p.line)

not_equal : (a b : ℕ) → (a == b) ≡ false → a ≢ b
not_equal a b h e = false≢true (sym h ∙ eq-eqb a b e)

due_next : (s : ScriptValue) (id : ℕ) (hs : List Entry) (h : Entry) → IsDue s hs h → IsInLine s id (due_place s (Back id) hs) → IsInLine s id (due_place s (Back id) (hs ++ h ∷ []))
due_next s id hs h due ok = go (same_caller h.mark.caller (Back id)) refl
  where
    go : (b : Bool) → same_caller h.mark.caller (Back id) ≡ b → IsInLine s id (due_place s (Back id) (hs ++ h ∷ []))
    go false e = subst (IsInLine s id) (sym (due_other s (Back id) hs h e)) ok
    go true e = subst (IsInLine s id) (sym (due_own s (Back id) hs h e)) (by (ends_block s h) refl)
      where
        own : h.mark.caller ≡ Back id
        own = same_caller-eq h.mark.caller (Back id) e

        within : h.mark.part ≤ part_count_of s (Back id) h.mark.line
        within =
            let known : IsSome (call_of s (Back id) h.mark.line h.mark.part) = subst (λ d. IsSome (call_of s d h.mark.line h.mark.part)) own due.known in
            let l = known_line s (Back id) h.mark.line h.mark.part known in
            let low = part_within id h.mark.part l.0 l.2 in
            let same : part_count_of s (Back id) h.mark.line ≡ parts_of l.0.job = ap parts_in l.1 in
            omega (arith, low, same)

        by : (b : Bool) → ends_block s h ≡ b → IsInLine s id (let p : Place = cond b (record { line = h.mark.line + 1; part = 1 }) (record { line = h.mark.line; part = h.mark.part + 1 }) in p)
        by true f = inl refl
        by false f =
            let last = (or_parts (is_fault h.mark.kind) (h.mark.part == part_count_of s h.mark.caller h.mark.line) f).1 in
            let here : (h.mark.part == part_count_of s (Back id) h.mark.line) ≡ false = subst (λ c. (h.mark.part == part_count_of s c h.mark.line) ≡ false) own last in
            let ne = not_equal h.mark.part (part_count_of s (Back id) h.mark.line) here in
            inr (omega (arith, within, ne))

due_all : (s : ScriptValue) (id : ℕ) (before hs : List Entry) → AreDue s before hs → IsInLine s id (due_place s (Back id) before) → IsInLine s id (due_place s (Back id) (before ++ hs))
due_all s id before [] due ok = subst (λ es. IsInLine s id (due_place s (Back id) es)) (sym (append-nil before)) ok
due_all s id before (h ∷ hs) due ok = subst (λ es. IsInLine s id (due_place s (Back id) es)) (append_assoc before (h ∷ []) hs) (due_all s id (before ++ h ∷ []) hs due.1 (due_next s id before h due.0 ok))

-- ---- a back end's line is a transfer

back_does_it : (s : ScriptValue) (id line : ℕ) (l : Line) → IsValid s → line_of s (Back id) line ≡ Some l → back_does l.add l.job ≡ true
back_does_it s id line l valid h =
    let is : l.caller ≡ Back id = line_caller s (Back id) line l h in
    let rest = is_job l.job && (not (job_runs_over l.job) && nat_le (length l.awaits) 16) in
    let test : is_line s.setup.endpoints l ≡ true = line_all (λ l. is_line s.setup.endpoints l ≡ true) s (Back id) line l (all_from_test (λ l. is_line s.setup.endpoints l) s.lines valid.lines_each) h in
    let a = and_parts (is_caller_in s.setup.endpoints l.caller) (does l.caller l.add l.job && rest) test in
    let b = and_parts (does l.caller l.add l.job) rest a.1 in
    subst (λ c. does c l.add l.job ≡ true) is b.0

job_parts : (add : Bool) (j : Job) → back_does add j ≡ true → is_job j ≡ true → 1 ≤ parts_of j
job_parts add (job.Ask request) b h = absurd (false≢true b)
job_parts add (job.Raw read write) b h = absurd (false≢true b)
job_parts add (job.Bypass on) b h = absurd (false≢true b)
job_parts add (job.Read iova len) b h = let some = leb-true 1 len (and_parts (nat_le 1 len) (nat_le len 65536) h).0 in omega (arith, some)
job_parts add (job.Write iova bytes) b h = let some = leb-true 1 (length bytes) (and_parts (nat_le 1 (length bytes)) (nat_le (length bytes) 65536) h).0 in omega (arith, some)

-- a transfer has a part
pub some_parts : (s : ScriptValue) (id line : ℕ) (l : Line) → IsValid s → line_of s (Back id) line ≡ Some l → 1 ≤ parts_of l.job
some_parts s id line l valid h = job_parts l.add l.job (back_does_it s id line l valid h) (line_is s (Back id) line l valid h).1

part_access : (id part : ℕ) (j : Job) → 1 ≤ part → part ≤ parts_of j → (a : Access) × (access_in (cond (nat_le 1 part && nat_le part (parts_of j)) (back_call id j part) None) ≡ Some a)
part_access id part j low high = go j high (nat_le 1 part && nat_le part (parts_of j)) inside
  where
    inside : (nat_le 1 part && nat_le part (parts_of j)) ≡ true
    inside = grind (arith, nat_tests, low, high)

    go : (j : Job) → part ≤ parts_of j → (b : Bool) → b ≡ true → (a : Access) × (access_in (cond b (back_call id j part) None) ≡ Some a)
    go (job.Ask request) h b e = absurd (omega (arith, low, h))
    go (job.Raw read write) h b e = absurd (omega (arith, low, h))
    go (job.Bypass on) h b e = absurd (omega (arith, low, h))
    go (job.Read iova len) h true e = (_, refl)
    go (job.Write iova bytes) h true e = (_, refl)
    go (job.Read iova len) h false e = absurd cc
    go (job.Write iova bytes) h false e = absurd cc

-- where a back end has a line left, it is at a part of it
pub current_part : (s : ScriptValue) (k line part : ℕ) (hs : List Entry) (l : Line) → IsValid s → AreDue s [] hs → due_place s (back_at s k) hs ≡ record { line = line; part = part } → 1 ≤ part → line_of s (back_at s k) line ≡ Some l
    → (a : Access) × (access_at s k line part ≡ Some a)
unfolding call_of
current_part s k line part hs l valid due at low e =
    let there : IsInLine s (id_at s k) (record { line = line; part = part }) = subst (IsInLine s (id_at s k)) at (due_all s (id_at s k) [] hs due (inl refl)) in
    let same : part_count_of s (back_at s k) line ≡ parts_of l.job = ap parts_in e in
    let some = some_parts s (id_at s k) line l valid e in
    let high : part ≤ parts_of l.job = within there same some in
    let found = part_access (id_at s k) part l.job low high in
    (found.0, ap (λ o. access_in (call_in (back_at s k) part o)) e ∙ found.1)
  where
    within : IsInLine s (id_at s k) (record { line = line; part = part }) → part_count_of s (back_at s k) line ≡ parts_of l.job → 1 ≤ parts_of l.job → part ≤ parts_of l.job
    within (inl first) same some = omega (arith, first, some)
    within (inr h) same some = omega (arith, h, same)
