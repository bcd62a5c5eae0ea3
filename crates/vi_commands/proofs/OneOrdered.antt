-- What the one-thread device answers to a valid script is in order: line after line, each whole before the next begins.
use Rattle.std.proofs.Common.{◌≡◌, ◌==◌, Option, ℕ, zero, suc, ◌+◌, ◌-◌, ◌<◌, ◌≤◌, Bool, true, false, not, ◌&&◌, ◌||◌, cond, List, [], ◌∷◌, ◌++◌, length, filter, All, Some, None, IsSome, nat_le, refl, sym, ap, ◌∙◌, subst, arith, inl, inr, append_assoc, length-append}
use Rattle.std.specs.Prelude.{IsTrue}
use Rattle.std.specs.List.{list_any, list_all}
use Rattle.std.proofs.lemmas.Bool.{and_parts, and_from, or_left, or_right, cases_Bool, cases_lt, cases_eq, eq-eqb, ne_eqb, leb-true, le-leb, false≢true}
use Rattle.std.proofs.lemmas.List.{append-nil}
use Rattle.std.proofs.lemmas.List.Elements.{All-weaker, filter-append}
use Rattle.std.proofs.lemmas.List.Sums.{AllPass-from_list_all}
use Rattle.vi_bytes.specs.Parts.{IsTransfer, part_count, nth_part}
use Rattle.vi_bytes.proofs.PartLemmas.{one-le-part_count}
use Rattle.vi_history.specs.Device.{One}
use Rattle.vi_history.specs.Kinds.{is_fault}
use Rattle.vi_history.specs.Replies.{reply}
use Rattle.vi_history.specs.declared.call.Call.{Call}
use Rattle.vi_history.specs.declared.call.Call.TheVariants as call
use Rattle.vi_history.specs.declared.call.Caller.{Caller}
use Rattle.vi_history.specs.declared.call.Caller.TheVariants.{Driver, Back}
use Rattle.vi_history.specs.declared.entry.Entry.{Entry}
use Rattle.vi_lines.specs.declared.job.Job.{Job}
use Rattle.vi_lines.specs.declared.job.Job.TheVariants as job
use Rattle.vi_lines.specs.declared.line.Line.{Line}
use Rattle.vi_lines.specs.declared.line.Await.{Await}
use Rattle.vi_lines.specs.Value.{ScriptValue}
use Rattle.vi_lines.specs.Calls.{TransfersWell, same_caller, lines_of, line_of, call_of, call_in, driver_call, back_call, part_bytes, parts_of, parts_in, part_count_of, awaits_in, awaits_of}
use Rattle.vi_lines.specs.Limits.{is_job}
use Rattle.vi_lines.specs.Rules.{job_runs_over, count_lines, awaits_well}
use Rattle.vi_lines.specs.Order.{Place, batch_of, ends_block, is_whole, entries_at, place_after, due_place, IsNext, IsDue, AreDue}
use Rattle.vi_lines.specs.Ordered.{IsOrdered}
use Rattle.vi_lines.specs.Valid.{IsValid, AwaitAbove, is_line, is_caller_in, does, driver_does, back_does}
use Rattle.vi_lines.proofs.IndexLemmas.{same_caller-eq, same_caller-self, line_of-caller}
use Rattle.vi_lines.proofs.TransferLemmas.{HasTransfers-from_valid}
use Rattle.vi_order.specs.Finished.{IsFinished}
use Rattle.vi_order.proofs.Ordered.{ordered_one_by_one}
use Rattle.vi_check.specs.Due.{is_of}
use Rattle.vi_check.proofs.BatchLemmas.{batch_of-le}
use Rattle.vi_check.proofs.TrackedLemmas.{list_any-push, entries_at-push, due_place-same, due_place-other, of_own, of_other, AreDue-push}
use Rattle.vi_commands.specs.OneThread.{Replied, nothing_replied, entry_for, with_call, with_part, stops, with_parts, with_line_of, with_line, with_lines, one_thread}
use Rattle.vi_commands.proofs.OneLemmas.{line_at, call_here, one_more}

-- the first part of a line
abbrev first_part : ℕ → Place
first_part line = record { line = line; part = 1 }

-- The entries are in order so far, and they are those of the lines above, each whole; of the back ends but this caller,
-- each stands before its next line.
record IsBehind (s : ScriptValue) (above : List Line) (caller : Caller) (entries : List Entry) : Type 0 where
  due : AreDue s [] entries
  whole : (c : Caller) (line : ℕ) → 1 ≤ line → line ≤ count_lines above c → is_whole s entries (record { caller = c; line = line }) ≡ true
  entered : (number line : ℕ) → 1 ≤ line → line ≤ count_lines above (Driver number) → 0 < entries_at (Driver number) line entries
  new : (number line : ℕ) → count_lines above (Driver number) < line → entries_at (Driver number) line entries ≡ 0
  others : (endpoint : ℕ) → same_caller caller (Back endpoint) ≡ false → due_place s (Back endpoint) entries ≡ first_part (count_lines above (Back endpoint) + 1)

-- so does every back end
record IsThrough (s : ScriptValue) (above : List Line) (entries : List Entry) : Type 0 where
  behind : (caller : Caller) → IsBehind s above caller entries
  places : (endpoint : ℕ) → due_place s (Back endpoint) entries ≡ first_part (count_lines above (Back endpoint) + 1)

nothing_through : (s : ScriptValue) → IsThrough s [] []
nothing_through s = record {
  behind = λ caller. record {
    due = tt;
    whole = λ c line first last. absurd (omega arith);
    entered = λ number line first last. absurd (omega arith);
    new = λ number line past. refl;
    others = λ endpoint other. refl;
  };
  places = λ endpoint. refl;
}

-- ---- one entry more

whole_push : (s : ScriptValue) (entries : List Entry) (h : Entry) (a : Await) → is_whole s entries a ≡ true → is_whole s (entries ++ h ∷ []) a ≡ true
whole_push s entries h a is =
    let p : Entry → Bool = λ (g : Entry). same_caller g.mark.caller a.caller && (g.mark.line == a.line) && ends_block s g in
    list_any-push p entries h ∙ ap (λ (b : Bool). b || p h) is

-- an entry that ends its line's block makes it whole
whole_here : (s : ScriptValue) (entries : List Entry) (h : Entry) (c : Caller) (line : ℕ) → h.mark.caller ≡ c → h.mark.line ≡ line → ends_block s h ≡ true
    → is_whole s (entries ++ h ∷ []) (record { caller = c; line = line }) ≡ true
whole_here s entries h c line own here ends =
    let p : Entry → Bool = λ (g : Entry). same_caller g.mark.caller c && (g.mark.line == line) && ends_block s g in
    let same : same_caller h.mark.caller c ≡ true = rw own (same_caller-self c) in
    let at : p h ≡ true = and_from _ _ (and_from _ _ same (eq-eqb _ _ here)) ends in
    list_any-push p entries h ∙ or_right (list_any p entries) (p h) at

entered_push : (c : Caller) (line : ℕ) (entries : List Entry) (h : Entry) → 0 < entries_at c line entries → 0 < entries_at c line (entries ++ h ∷ [])
entered_push c line entries h some = omega (arith, entries_at-push c line entries h, some)

entered_here : (c : Caller) (line : ℕ) (entries : List Entry) (h : Entry) → h.mark.caller ≡ c → h.mark.line ≡ line → 0 < entries_at c line (entries ++ h ∷ [])
entered_here c line entries h own here =
    let is : is_of c line h ≡ true = of_own c line h own ∙ eq-eqb _ _ here in
    let one : ◌≡◌ {A = ℕ} (cond (is_of c line h) 1 0) 1 = ap (λ (b : Bool). cond b 1 0) is in
    omega (arith, entries_at-push c line entries h, one)

-- an entry of another line leaves the count of this one
entered_other : (c : Caller) (line : ℕ) (entries : List Entry) (h : Entry) → is_of c line h ≡ false → entries_at c line entries ≡ 0 → entries_at c line (entries ++ h ∷ []) ≡ 0
entered_other c line entries h other none =
    let zero_more : ◌≡◌ {A = ℕ} (cond (is_of c line h) 1 0) 0 = ap (λ (b : Bool). cond b 1 0) other in
    omega (arith, entries_at-push c line entries h, zero_more, none)

-- one line more is one of its caller
count_more : (above : List Line) (l : Line) (c : Caller) → count_lines (above ++ l ∷ []) c ≡ count_lines above c + cond (same_caller l.caller c) 1 0
count_more above l c =
    let p : Line → Bool = λ (k : Line). same_caller k.caller c in
    ap (λ (ls : List Line). length ls) (filter-append p above (l ∷ []))
    ∙ (length-append (filter p above) (filter p (l ∷ [])) ∙ ap (λ (n : ℕ). count_lines above c + n) (one_more p l))

count_same : (above : List Line) (l : Line) (c : Caller) → same_caller l.caller c ≡ true → count_lines (above ++ l ∷ []) c ≡ count_lines above c + 1
count_same above l c same = count_more above l c ∙ ap (λ (b : Bool). count_lines above c + cond b 1 0) same

count_other : (above : List Line) (l : Line) (c : Caller) → same_caller l.caller c ≡ false → count_lines (above ++ l ∷ []) c ≡ count_lines above c
count_other above l c other =
    let same : count_lines (above ++ l ∷ []) c ≡ count_lines above c + 0 = count_more above l c ∙ ap (λ (b : Bool). count_lines above c + cond b 1 0) other in
    omega (arith, same)

-- ---- a line whose last entry comes

-- the entry is of the line below those above, and ends its block
record EndsLine (s : ScriptValue) (above : List Line) (l : Line) (h : Entry) : Type 0 where
  own : h.mark.caller ≡ l.caller
  here : h.mark.line ≡ count_lines above l.caller + 1
  ends : ends_block s h ≡ true

module _ (s : ScriptValue) (above : List Line) (l : Line) (entries : List Entry) (h : Entry) (t : IsBehind s above l.caller entries) (due : IsDue s entries h) (e : EndsLine s above l h) where
  abbrev more : List Line
  more = above ++ l ∷ []

  abbrev now : List Entry
  now = entries ++ h ∷ []

  -- the caller of the entry is this one, which has one line more
  same : (c : Caller) → same_caller l.caller c ≡ true → (h.mark.caller ≡ c) × (h.mark.line ≡ count_lines more c) × (count_lines more c ≡ count_lines above c + 1)
  same c is =
      let eq = same_caller-eq l.caller c is in
      let number : h.mark.line ≡ count_lines above c + 1 = e.here ∙ ap (λ (d : Caller). count_lines above d + 1) eq in
      (e.own ∙ eq, number ∙ sym (count_same above l c is), count_same above l c is)

  other : (c : Caller) → same_caller l.caller c ≡ false → same_caller h.mark.caller c ≡ false
  other c is = ap (λ (d : Caller). same_caller d c) e.own ∙ is

  whole : (c : Caller) (line : ℕ) → 1 ≤ line → line ≤ count_lines more c → is_whole s now (record { caller = c; line = line }) ≡ true
  whole c line first last =
      elim (cases_Bool (same_caller l.caller c)) [
        | inl is ↦
            let k = same c is in
            elim (cases_eq line (count_lines more c)) [
              | inl at ↦ whole_here s entries h c line k.0 (k.1 ∙ sym at) e.ends
              | inr before ↦ whole_push s entries h (record { caller = c; line = line }) (t.whole c line first (omega (arith, k.2, last, before)))
            ]
        | inr is ↦ whole_push s entries h (record { caller = c; line = line }) (t.whole c line first (omega (arith, count_other above l c is, last)))
      ]

  entered : (number line : ℕ) → 1 ≤ line → line ≤ count_lines more (Driver number) → 0 < entries_at (Driver number) line now
  entered number line first last =
      elim (cases_Bool (same_caller l.caller (Driver number))) [
        | inl is ↦
            let k = same (Driver number) is in
            elim (cases_eq line (count_lines more (Driver number))) [
              | inl at ↦ entered_here (Driver number) line entries h k.0 (k.1 ∙ sym at)
              | inr before ↦ entered_push (Driver number) line entries h (t.entered number line first (omega (arith, k.2, last, before)))
            ]
        | inr is ↦ entered_push (Driver number) line entries h (t.entered number line first (omega (arith, count_other above l (Driver number) is, last)))
      ]

  new : (number line : ℕ) → count_lines more (Driver number) < line → entries_at (Driver number) line now ≡ 0
  new number line past =
      elim (cases_Bool (same_caller l.caller (Driver number))) [
        | inl is ↦
            let k = same (Driver number) is in
            let differs : h.mark.line ≡ line → ⊥ = λ at. omega (arith, at, k.1, past) in
            entered_other (Driver number) line entries h (of_own (Driver number) line h k.0 ∙ ne_eqb h.mark.line line differs) (t.new number line (omega (arith, k.2, past)))
        | inr is ↦ entered_other (Driver number) line entries h (of_other (Driver number) line h (other (Driver number) is)) (t.new number line (omega (arith, count_other above l (Driver number) is, past)))
      ]

  places : (endpoint : ℕ) → due_place s (Back endpoint) now ≡ first_part (count_lines more (Back endpoint) + 1)
  places endpoint =
      elim (cases_Bool (same_caller l.caller (Back endpoint))) [
        | inl is ↦
            let k = same (Back endpoint) is in
            let here : same_caller h.mark.caller (Back endpoint) ≡ true = rw k.0 (same_caller-self (Back endpoint)) in
            let after : place_after s h ≡ first_part (h.mark.line + 1) =
            ap (λ (b : Bool). cond b (first_part (h.mark.line + 1)) (record { line = h.mark.line; part = h.mark.part + 1 })) e.ends in
            due_place-same s (Back endpoint) entries h here ∙ (after ∙ ap (λ (n : ℕ). first_part (n + 1)) k.1)
        | inr is ↦
            due_place-other s (Back endpoint) entries h (other (Back endpoint) is)
            ∙ (t.others endpoint is ∙ ap (λ (n : ℕ). first_part (n + 1)) (sym (count_other above l (Back endpoint) is)))
      ]

  ended_through : IsThrough s more now
  ended_through = record {
    behind = λ caller. record {
      due = AreDue-push s [] entries h t.due due;
      whole = whole;
      entered = entered;
      new = new;
      others = λ endpoint is. places endpoint;
    };
    places = places;
  }

-- ---- what is due

-- the line stands below those above, in a valid script
record IsBelow (s : ScriptValue) (above ls : List Line) (l : Line) : Type 0 where
  valid : IsValid s
  split : s.lines ≡ above ++ l ∷ ls
  right : is_line s.setup.endpoints l ≡ true
  awaits : list_all (λ (a : Await). awaits_well above l.caller a) l.awaits ≡ true

-- the lines that it awaits are whole
awaited : (s : ScriptValue) (above ls : List Line) (l : Line) (entries : List Entry) → IsBelow s above ls l → IsBehind s above l.caller entries
    → All (λ (a : Await). IsTrue (is_whole s entries a)) (awaits_of s l.caller (count_lines above l.caller + 1))
awaited s above ls l entries b t =
    let own : awaits_of s l.caller (count_lines above l.caller + 1) ≡ l.awaits = ap awaits_in (line_at s above ls l b.split) in
    subst (λ (xs : List Await). All (λ (a : Await). IsTrue (is_whole s entries a)) xs) (sym own)
    (All-weaker (λ (a : Await). awaits_well above l.caller a ≡ true) (λ (a : Await). IsTrue (is_whole s entries a)) each l.awaits
    (AllPass-from_list_all (λ (a : Await). awaits_well above l.caller a) l.awaits b.awaits))
  where
    each : (a : Await) → awaits_well above l.caller a ≡ true → IsTrue (is_whole s entries a)
    each a well =
        let rest = nat_le 1 a.line && nat_le a.line (count_lines above a.caller) in
        let inside = and_parts (nat_le 1 a.line) (nat_le a.line (count_lines above a.caller)) (and_parts (not (same_caller a.caller l.caller)) rest well).1 in
        t.whole a.caller a.line (leb-true 1 a.line inside.0) (leb-true a.line (count_lines above a.caller) inside.1)

some_call : (o : Option Call) (c : Call) → o ≡ Some c → IsSome o
some_call o c is = subst (λ (p : Option Call). IsSome p) (sym is) refl

-- so an entry of it is due, where it is its caller's next
due_here : (s : ScriptValue) (above ls : List Line) (l : Line) (entries : List Entry) (h : Entry) (c : Call) → IsBelow s above ls l → IsBehind s above l.caller entries
    → h.mark.caller ≡ l.caller → h.mark.line ≡ count_lines above l.caller + 1 → call_in l.caller h.mark.part (Some l) ≡ Some c
    → IsNext s entries l.caller (count_lines above l.caller + 1) h.mark.part → IsDue s entries h
due_here s above ls l entries h c b t own here is next = record {
  known = subst (λ (d : Caller). IsSome (call_of s d h.mark.line h.mark.part)) (sym own)
      (subst (λ (n : ℕ). IsSome (call_of s l.caller n h.mark.part)) (sym here) (some_call _ c (call_here s above ls l h.mark.part b.split ∙ is)));
  next = subst (λ (d : Caller). IsNext s entries d h.mark.line h.mark.part) (sym own) (subst (λ (n : ℕ). IsNext s entries l.caller n h.mark.part) (sym here) next);
  awaited = subst (λ (d : Caller). All (λ (a : Await). IsTrue (is_whole s entries a)) (awaits_of s d h.mark.line)) (sym own)
      (subst (λ (n : ℕ). All (λ (a : Await). IsTrue (is_whole s entries a)) (awaits_of s l.caller n)) (sym here) (awaited s above ls l entries b t));
}

parts_here : (s : ScriptValue) (above ls : List Line) (l : Line) (h : Entry) → s.lines ≡ above ++ l ∷ ls → h.mark.caller ≡ l.caller → h.mark.line ≡ count_lines above l.caller + 1
    → part_count_of s h.mark.caller h.mark.line ≡ parts_of l.job
parts_here s above ls l h split own here =
    ap (λ (d : Caller). part_count_of s d h.mark.line) own ∙ (ap (λ (n : ℕ). part_count_of s l.caller n) here ∙ ap parts_in (line_at s above ls l split))

-- what the line does is its caller's
job_here : (s : ScriptValue) (above ls : List Line) (l : Line) → IsBelow s above ls l → does l.caller l.add l.job ≡ true
job_here s above ls l b =
    let rest = is_job l.job && (not (job_runs_over l.job) && nat_le (length l.awaits) 16) in
    let a = and_parts (is_caller_in s.setup.endpoints l.caller) (does l.caller l.add l.job && rest) b.right in
    (and_parts (does l.caller l.add l.job) rest a.1).0

-- ---- a driver's line

driver_called : (add : Bool) (j : Job) → driver_does add j ≡ true → (c : Call) × (driver_call j ≡ Some c) × (parts_of j ≡ 0)
driver_called add (job.Ask request) is = (call.Ask request, refl, refl)
driver_called add (job.Raw read write) is = (call.Raw read write, refl, refl)
driver_called add (job.Bypass on) is = (call.Bypass on, refl, refl)
driver_called add (job.Read iova len) is = absurd (false≢true is)
driver_called add (job.Write iova bytes) is = absurd (false≢true is)

-- the next line of a driver is its next call
driver_next : (s : ScriptValue) (above : List Line) (entries : List Entry) (caller : Caller) (number : ℕ) → IsBehind s above caller entries
    → IsNext s entries (Driver number) (count_lines above (Driver number) + 1) 0
driver_next s above entries caller number t = (
  t.new number (count_lines above (Driver number) + 1) (omega arith),
  λ earlier first less. t.entered number earlier first (upto earlier less),
)
  where
    upto : (earlier : ℕ) → batch_of s (Driver number) earlier < batch_of s (Driver number) (count_lines above (Driver number) + 1) → earlier ≤ count_lines above (Driver number)
    upto earlier less =
        elim (cases_lt earlier (count_lines above (Driver number) + 1)) [
          | inl within ↦ omega (arith, within)
          | inr past ↦ absurd (omega (arith, less, batch_of-le s (Driver number) (count_lines above (Driver number) + 1) earlier (omega (arith, past))))
        ]

driver_through : (s : ScriptValue) (done : Replied) (above ls : List Line) (l : Line) (number : ℕ) → IsBelow s above ls l → l.caller ≡ Driver number → IsThrough s above done.entries
    → IsThrough s (above ++ l ∷ []) (with_part done l (count_lines above l.caller + 1) 0).entries
driver_through s done above ls l number b own t =
    let doing : driver_does l.add l.job ≡ true = subst (λ (d : Caller). does d l.add l.job ≡ true) own (job_here s above ls l b) in
    let called = driver_called l.add l.job doing in
    let line = count_lines above l.caller + 1 in
    let h : Entry = entry_for l.caller line 0 (reply done.one called.0) in
    let is : call_in l.caller 0 (Some l) ≡ Some called.0 = ap (λ (d : Caller). call_in d 0 (Some l)) own ∙ called.1 in
    let next : IsNext s done.entries l.caller line 0 =
    subst (λ (d : Caller). IsNext s done.entries d (count_lines above d + 1) 0) (sym own) (driver_next s above done.entries l.caller number (t.behind l.caller)) in
    let due = due_here s above ls l done.entries h called.0 b (t.behind l.caller) refl refl is next in
    let last : (h.mark.part == part_count_of s h.mark.caller h.mark.line) ≡ true =
    eq-eqb _ _ (sym (parts_here s above ls l h b.split refl refl ∙ called.2)) in
    let ends : EndsLine s above l h = record { own = refl; here = refl; ends = or_right (is_fault h.mark.kind) _ last } in
    let all = ended_through s above l done.entries h (t.behind l.caller) due ends in
    subst (λ (o : Option Call). IsThrough s (above ++ l ∷ []) (with_call done l.caller line 0 o).entries) (sym is) all

-- ---- a back end's line

back_called : (endpoint : ℕ) (add : Bool) (j : Job) (part : ℕ) → back_does add j ≡ true → (c : Call) × (back_call endpoint j part ≡ Some c)
back_called endpoint add (job.Ask request) part is = absurd (false≢true is)
back_called endpoint add (job.Raw read write) part is = absurd (false≢true is)
back_called endpoint add (job.Bypass on) part is = absurd (false≢true is)
back_called endpoint add (job.Read iova len) part is = (call.Read endpoint (nth_part iova len part), refl)
back_called endpoint add (job.Write iova bytes) part is = (call.Write endpoint (nth_part iova (length bytes) part) (part_bytes iova bytes part), refl)

some_parts : (add : Bool) (j : Job) → back_does add j ≡ true → TransfersWell j → 1 ≤ parts_of j
some_parts add (job.Ask request) is t = absurd (false≢true is)
some_parts add (job.Raw read write) is t = absurd (false≢true is)
some_parts add (job.Bypass on) is t = absurd (false≢true is)
some_parts add (job.Read iova len) is t = one-le-part_count iova len t.some
some_parts add (job.Write iova bytes) is t = one-le-part_count iova (length bytes) t.some

-- The back end stands at this part of its line, behind the lines above.
record IsAt (s : ScriptValue) (above : List Line) (caller : Caller) (part : ℕ) (entries : List Entry) : Type 0 where
  behind : IsBehind s above caller entries
  own : due_place s caller entries ≡ record { line = count_lines above caller + 1; part = part }

behind_push : (s : ScriptValue) (above : List Line) (caller : Caller) (endpoint : ℕ) (entries : List Entry) (h : Entry) → IsBehind s above caller entries → IsDue s entries h
    → h.mark.caller ≡ caller → caller ≡ Back endpoint → IsBehind s above caller (entries ++ h ∷ [])
behind_push s above caller endpoint entries h t due own back = record {
  due = AreDue-push s [] entries h t.due due;
  whole = λ c line first last. whole_push s entries h (record { caller = c; line = line }) (t.whole c line first last);
  entered = λ number line first last. entered_push (Driver number) line entries h (t.entered number line first last);
  new = λ number line past. entered_other (Driver number) line entries h (of_other (Driver number) line h (ap (λ (d : Caller). same_caller d (Driver number)) (own ∙ back))) (t.new number line past);
  others = λ other is. due_place-other s (Back other) entries h (ap (λ (d : Caller). same_caller d (Back other)) own ∙ is) ∙ t.others other is;
}

-- the part's entry comes, and ends the line or is followed by the next part's
part_through : (s : ScriptValue) (done : Replied) (above ls : List Line) (l : Line) (endpoint part more : ℕ) → IsBelow s above ls l → l.caller ≡ Back endpoint
    → 1 ≤ part → part + suc more ≡ parts_of l.job + 1 → IsAt s above l.caller part done.entries
    → (1 ≤ more → IsAt s above l.caller (part + 1) (with_part done l (count_lines above l.caller + 1) part).entries
    → IsThrough s (above ++ l ∷ []) (with_parts (with_part done l (count_lines above l.caller + 1) part) l (count_lines above l.caller + 1) (part + 1) more).entries)
    → IsThrough s (above ++ l ∷ []) (with_parts done l (count_lines above l.caller + 1) part (suc more)).entries
part_through s done above ls l endpoint part more b own first sum t further = go (stops done.one (call_in l.caller part (Some l))) refl
  where
    line : ℕ
    line = count_lines above l.caller + 1

    doing : back_does l.add l.job ≡ true
    doing = subst (λ (d : Caller). does d l.add l.job ≡ true) own (job_here s above ls l b)

    called : (c : Call) × (call_in l.caller part (Some l) ≡ Some c)
    called =
        let c = back_called endpoint l.add l.job part doing in
        let within : (nat_le 1 part && nat_le part (parts_of l.job)) ≡ true = and_from _ _ (le-leb 1 part first) (le-leb part (parts_of l.job) (omega (arith, sum))) in
        (c.0, ap (λ (d : Caller). call_in d part (Some l)) own ∙ (ap (λ (i : Bool). cond i (back_call endpoint l.job part) None) within ∙ c.1))

    h : Entry
    h = entry_for l.caller line part (reply done.one called.0)

    pushed : done.entries ++ h ∷ [] ≡ (with_part done l line part).entries
    pushed = sym (ap (λ (o : Option Call). (with_call done l.caller line part o).entries) called.1)

    due : IsDue s done.entries h
    due = due_here s above ls l done.entries h called.0 b t.behind refl refl called.1
        (subst (λ (d : Caller). IsNext s done.entries d line part) (sym own) (subst (λ (d : Caller). due_place s d done.entries ≡ record { line = line; part = part }) own t.own))

    parts : part_count_of s h.mark.caller h.mark.line ≡ parts_of l.job
    parts = parts_here s above ls l h b.split refl refl

    ended : ends_block s h ≡ true → IsThrough s (above ++ l ∷ []) (with_part done l line part).entries
    ended ends = subst (λ (hs : List Entry). IsThrough s (above ++ l ∷ []) hs) pushed
        (ended_through s above l done.entries h t.behind due (record { own = refl; here = refl; ends = ends }))

    goes_on : ends_block s h ≡ false → IsAt s above l.caller (part + 1) (with_part done l line part).entries
    goes_on open_still = subst (λ (hs : List Entry). IsAt s above l.caller (part + 1) hs) pushed (record {
      behind = behind_push s above l.caller endpoint done.entries h t.behind due refl own;
      own = due_place-same s l.caller done.entries h (same_caller-self l.caller)
          ∙ ap (λ (i : Bool). cond i (first_part (line + 1)) (record { line = line; part = part + 1 })) open_still;
    })

    unfaulted : is_fault h.mark.kind ≡ false → IsThrough s (above ++ l ∷ []) (with_parts (with_part done l line part) l line (part + 1) more).entries
    unfaulted fine =
        elim (cases_eq more 0) [
          | inl none ↦
              let last : (h.mark.part == part_count_of s h.mark.caller h.mark.line) ≡ true = eq-eqb _ _ (at_end none ∙ sym parts) in
              subst (λ (n : ℕ). IsThrough s (above ++ l ∷ []) (with_parts (with_part done l line part) l line (part + 1) n).entries) (sym none) (ended (or_right (is_fault h.mark.kind) _ last))
          | inr some ↦
              let inner : (h.mark.part == part_count_of s h.mark.caller h.mark.line) ≡ false = ne_eqb _ _ (λ e. some (at_last (e ∙ parts))) in
              further (positive some) (goes_on (ap (λ (i : Bool). i || (h.mark.part == part_count_of s h.mark.caller h.mark.line)) fine ∙ inner))
        ]
      where
        at_end : more ≡ 0 → part ≡ parts_of l.job
        at_end none = omega (arith, none, sum)

        at_last : part ≡ parts_of l.job → more ≡ 0
        at_last e = omega (arith, e, sum)

        positive : (more ≡ 0 → ⊥) → 1 ≤ more
        positive some = omega (arith, some)

    go : (i : Bool) → stops done.one (call_in l.caller part (Some l)) ≡ i
        → IsThrough s (above ++ l ∷ []) (cond i (with_part done l line part) (with_parts (with_part done l line part) l line (part + 1) more)).entries
    go true e = ended (or_left (is_fault h.mark.kind) _ (sym (ap (stops done.one) called.1) ∙ e))
    go false e = unfaulted (sym (ap (stops done.one) called.1) ∙ e)

parts_through : (s : ScriptValue) (done : Replied) (above ls : List Line) (l : Line) (endpoint part more : ℕ) → IsBelow s above ls l → l.caller ≡ Back endpoint
    → 1 ≤ part → part + more ≡ parts_of l.job + 1 → 1 ≤ more → IsAt s above l.caller part done.entries
    → IsThrough s (above ++ l ∷ []) (with_parts done l (count_lines above l.caller + 1) part more).entries
parts_through s done above ls l endpoint part zero b own first sum some t = absurd (omega (arith, some))
parts_through s done above ls l endpoint part (suc more) b own first sum some t =
    part_through s done above ls l endpoint part more b own first sum t
    (λ left here. parts_through s (with_part done l (count_lines above l.caller + 1) part) above ls l endpoint (part + 1) more b own (omega arith) (omega (arith, sum)) left here)

back_through : (s : ScriptValue) (done : Replied) (above ls : List Line) (l : Line) (endpoint : ℕ) → IsBelow s above ls l → l.caller ≡ Back endpoint → IsThrough s above done.entries
    → IsThrough s (above ++ l ∷ []) (with_parts done l (count_lines above l.caller + 1) 1 (parts_of l.job)).entries
back_through s done above ls l endpoint b own t =
    let doing : back_does l.add l.job ≡ true = subst (λ (d : Caller). does d l.add l.job ≡ true) own (job_here s above ls l b) in
    let well = (line_of-caller s l.caller (count_lines above l.caller + 1) l (HasTransfers-from_valid s b.valid) (line_at s above ls l b.split)).1 in
    let place : due_place s l.caller done.entries ≡ first_part (count_lines above l.caller + 1) =
    subst (λ (d : Caller). due_place s d done.entries ≡ first_part (count_lines above d + 1)) (sym own) (t.places endpoint) in
    parts_through s done above ls l endpoint 1 (parts_of l.job) b own (omega arith) (omega arith) (some_parts l.add l.job doing well) (record { behind = t.behind l.caller; own = place })

-- ---- all lines

line_through : (s : ScriptValue) (done : Replied) (above ls : List Line) (l : Line) (caller : Caller) → IsBelow s above ls l → l.caller ≡ caller → IsThrough s above done.entries
    → IsThrough s (above ++ l ∷ []) (with_line_of caller done l (count_lines above l.caller + 1)).entries
line_through s done above ls l (Driver number) b own t = driver_through s done above ls l number b own t
line_through s done above ls l (Back endpoint) b own t = back_through s done above ls l endpoint b own t

lines_through : (s : ScriptValue) → IsValid s → (done : Replied) (above ls : List Line) → s.lines ≡ above ++ ls → list_all (λ (k : Line). is_line s.setup.endpoints k) ls ≡ true
    → AwaitAbove above ls → IsThrough s above done.entries → IsThrough s s.lines (with_lines done above ls).entries
lines_through s valid done above [] split right awaits t = subst (λ (ls : List Line). IsThrough s ls done.entries) (sym (split ∙ append-nil above)) t
lines_through s valid done above (l ∷ ls) split right awaits t =
    let each = and_parts (is_line s.setup.endpoints l) (list_all (λ (k : Line). is_line s.setup.endpoints k) ls) right in
    lines_through s valid (with_line done l (count_lines above l.caller + 1)) (above ++ l ∷ []) ls (split ∙ sym (append_assoc above (l ∷ []) ls)) each.1 awaits.1
    (line_through s done above ls l l.caller (record { valid = valid; split = split; right = each.0; awaits = awaits.0 }) refl t)

-- the history of `one` is in order
pub one_thread-ordered : (s : ScriptValue) → IsValid s → IsOrdered s (one_thread s).entries
unfolding one_thread
one_thread-ordered s valid =
    let t = lines_through s valid (nothing_replied s.setup) [] s.lines refl valid.lines_each valid.awaits_each (nothing_through s) in
    let finished : IsFinished s (with_lines (nothing_replied s.setup) [] s.lines).entries =
    record { drivers = λ number line first last. (t.behind (Driver number)).entered number line first last; backs = t.places } in
    (ordered_one_by_one s (with_lines (nothing_replied s.setup) [] s.lines).entries valid).1 ((t.behind (Driver 0)).due, finished)
