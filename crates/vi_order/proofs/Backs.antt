-- The entries of a back end are its lines' blocks exactly where each stands at the due place and the last place is
-- behind its last line.
use Rattle.std.proofs.Common.{◌≡◌, ℕ, zero, suc, ◌+◌, ◌<◌, ◌≤◌, Bool, true, false, if◌then◌else◌, ◌⊎◌, inl, inr, List, [], ◌∷◌, ◌++◌, refl, ap, ap₂, sym, subst, ◌∙◌, append_assoc, append-nil, arith}
use Rattle.std.proofs.lemmas.Bool.{cases_Bool}
use Rattle.std.proofs.lemmas.List.Elements.{filter-append}
use Rattle.vi_history.specs.declared.call.Caller.TheVariants.{Back}
use Rattle.vi_history.specs.declared.entry.Entry.{Entry}
use Rattle.vi_lines.specs.Value.{ScriptValue}
use Rattle.vi_lines.specs.Calls.{same_caller}
use Rattle.vi_lines.specs.Order.{entries_of, ends_block, Place, place_after, due_from, due_place, IsNext, AreDue}
use Rattle.vi_lines.specs.Ordered.{IsBlockFrom, AreBlocks}
use Rattle.vi_lines.proofs.IndexLemmas.{same_caller-eq, same_caller-self}

abbrev pub at : ℕ → ℕ → Place
at line part = record { line = line; part = part }

abbrev pub place : Entry → Place
place h = at h.mark.line h.mark.part

-- these entries stand each at the due place, from one place to another
abbrev pub Follows : ScriptValue → Place → List Entry → Place → Type 0
Follows s p [] q = p ≡ q
Follows s p (h ∷ hs) q = (p ≡ place h) × Follows s (place_after s h) hs q

-- ---- places rise

-- the second place is of a later line, or a later part of the line
abbrev IsBelow : Place → Place → Type 0
IsBelow p q = (p.line < q.line) ⊎ ((p.line ≡ q.line) × (p.part < q.part))

below_trans : (p q r : Place) → IsBelow p q → IsBelow q r → IsBelow p r
below_trans p q r h k = grind arith

not_below_itself : (p : Place) → IsBelow p p → ⊥
not_below_itself p h = grind arith

below_after : (s : ScriptValue) (h : Entry) → IsBelow (place h) (place_after s h)
below_after s h = by (ends_block s h)
  where
    by : (b : Bool) → IsBelow (place h) (if b then at (h.mark.line + 1) 1 else at h.mark.line (h.mark.part + 1))
    by true = inl (omega arith)
    by false = inr (refl, omega arith)

rises : (s : ScriptValue) (p : Place) (h : Entry) (hs : List Entry) (q : Place) → Follows s p (h ∷ hs) q → IsBelow p q
rises s p h [] q f = subst (λ r. IsBelow p r) f.1 (subst (λ r. IsBelow r (place_after s h)) (sym f.0) (below_after s h))
rises s p h (i ∷ hs) q f =
    below_trans p (place_after s h) q (subst (λ r. IsBelow r (place_after s h)) (sym f.0) (below_after s h)) (rises s (place_after s h) i hs q f.1)

stays : (s : ScriptValue) (p : Place) (es : List Entry) → Follows s p es p → es ≡ []
stays s p [] f = refl
stays s p (h ∷ es) f = absurd (not_below_itself p (rises s p h es p f))

follows_at : (s : ScriptValue) (p : Place) (xs ys : List Entry) (q : Place) → Follows s p (xs ++ ys) q → Follows s (due_from s p xs) ys q
follows_at s p [] ys q f = f
follows_at s p (x ∷ xs) ys q f = follows_at s (place_after s x) xs ys q f.1

line_after : (s : ScriptValue) (h : Entry) → h.mark.line ≤ (place_after s h).line
line_after s h = by (ends_block s h)
  where
    by : (b : Bool) → h.mark.line ≤ (let q : Place = if b then at (h.mark.line + 1) 1 else at h.mark.line (h.mark.part + 1) in q.line)
    by true = omega arith
    by false = omega arith

pub line_upto : (s : ScriptValue) (p : Place) (es : List Entry) (q : Place) → Follows s p es q → p.line ≤ q.line
line_upto s p [] q f = let e : p.line ≡ q.line = ap (λ (r : Place). r.line) f in omega (arith, e)
line_upto s p (h ∷ es) q f =
    let e : p.line ≡ h.mark.line = ap (λ (r : Place). r.line) f.0 in
    omega (arith, e, line_after s h, line_upto s (place_after s h) es q f.1)

-- ---- blocks

pub after_last : (s : ScriptValue) (h : Entry) (line : ℕ) → h.mark.line ≡ line → ends_block s h ≡ true → place_after s h ≡ at (line + 1) 1
after_last s h line l e = rw e (ap (λ n. at (n + 1) 1) l)

after_other : (s : ScriptValue) (h : Entry) (line part : ℕ) → h.mark.line ≡ line → h.mark.part ≡ part → ends_block s h ≡ false → place_after s h ≡ at line (part + 1)
after_other s h line part l p e = rw e (ap₂ (λ n m. at n (m + 1)) l p)

follows-block : (s : ScriptValue) (line part : ℕ) (block rest : List Entry) (q : Place) → IsBlockFrom s line part block → Follows s (at (line + 1) 1) rest q
    → Follows s (at line part) (block ++ rest) q
follows-block s line part [] rest q b f = absurd b
follows-block s line part (h ∷ []) rest q b f = (ap₂ at (sym b.0) (sym b.1), subst (λ p. Follows s p rest q) (sym (after_last s h line b.0 b.2)) f)
follows-block s line part (h ∷ i ∷ hs) rest q b f =
    (ap₂ at (sym b.0) (sym b.1), subst (λ p. Follows s p ((i ∷ hs) ++ rest) q) (sym (after_other s h line part b.0 b.1 b.2)) (follows-block s line (part + 1) (i ∷ hs) rest q b.3 f))

follows-blocks : (s : ScriptValue) (line count : ℕ) (es : List Entry) → AreBlocks s line count es → Follows s (at line 1) es (at (line + count) 1)
follows-blocks s line zero es b = subst (λ es. Follows s (at line 1) es (at (line + 0) 1)) (sym b) (ap (λ n. at n 1) (omega arith))
follows-blocks s line (suc count) es b =
    let rest : Follows s (at (line + 1) 1) b.1 (at (line + suc count) 1) = subst (λ n. Follows s (at (line + 1) 1) b.1 (at n 1)) (omega arith) (follows-blocks s (line + 1) count b.1 b.4) in
    subst (λ es. Follows s (at line 1) es (at (line + suc count) 1)) (sym b.2) (follows-block s line 1 b.0 b.1 (at (line + suc count) 1) b.3 rest)

-- the rest of a line's block from a part on, and the blocks of so many lines after it
abbrev Rest : ScriptValue → ℕ → ℕ → ℕ → List Entry → Type 0
Rest s line part count es = (block : List Entry) × (rest : List Entry) × (es ≡ block ++ rest) × IsBlockFrom s line part block × AreBlocks s (line + 1) count rest

-- one entry before the rest of its line's block
rest_more : (s : ScriptValue) (line part count : ℕ) (h : Entry) (es : List Entry) → h.mark.line ≡ line → h.mark.part ≡ part → ends_block s h ≡ false
    → Rest s line (part + 1) count es → Rest s line part count (h ∷ es)
rest_more s line part count h es l p e r = by r.0 r.2 r.3
  where
    by : (block : List Entry) → es ≡ block ++ r.1 → IsBlockFrom s line (part + 1) block → Rest s line part count (h ∷ es)
    by [] cut b = absurd b
    by (i ∷ is) cut b = (h ∷ i ∷ is, r.1, ap (λ xs. h ∷ xs) cut, (l, p, e, b), r.4)

blocks_by : (s : ScriptValue) (line count : ℕ) (es : List Entry)
    → ((m : ℕ) → Follows s (at line 1) es (at (line + 1 + m) 1) → Rest s line 1 m es)
    → Follows s (at line 1) es (at (line + count) 1) → AreBlocks s line count es
blocks_by s line zero es rest f = let e : line + 0 ≡ line = omega arith in stays s (at line 1) es (subst (λ n. Follows s (at line 1) es (at n 1)) e f)
blocks_by s line (suc m) es rest f = rest m (subst (λ n. Follows s (at line 1) es (at n 1)) (omega arith) f)

rests : (s : ScriptValue) (es : List Entry) (line part count : ℕ) → Follows s (at line part) es (at (line + 1 + count) 1) → Rest s line part count es
rests s [] line part count f = let e : line ≡ line + 1 + count = ap (λ (r : Place). r.line) f in absurd (omega (arith, e))
rests s (h ∷ es) line part count f =
    let l : h.mark.line ≡ line = sym (ap (λ (r : Place). r.line) f.0) in
    let p : h.mark.part ≡ part = sym (ap (λ (r : Place). r.part) f.0) in
    elim (cases_Bool (ends_block s h)) [
      | inl e ↦
          let later : Follows s (at (line + 1) 1) es (at (line + 1 + count) 1) = subst (λ r. Follows s r es (at (line + 1 + count) 1)) (after_last s h line l e) f.1 in
          (h ∷ [], es, refl, (l, p, e), blocks_by s (line + 1) count es (λ m g. rests s es (line + 1) 1 m g) later)
      | inr e ↦
          let later : Follows s (at line (part + 1)) es (at (line + 1 + count) 1) = subst (λ r. Follows s r es (at (line + 1 + count) 1)) (after_other s h line part l p e) f.1 in
          rest_more s line part count h es l p e (rests s es line (part + 1) count later)
    ]

blocks-follows : (s : ScriptValue) (line count : ℕ) (es : List Entry) → Follows s (at line 1) es (at (line + count) 1) → AreBlocks s line count es
blocks-follows s line count es f = blocks_by s line count es (λ m g. rests s es line 1 m g) f

-- ---- the due place

due_from-append : (s : ScriptValue) (p : Place) (xs ys : List Entry) → due_from s p (xs ++ ys) ≡ due_from s (due_from s p xs) ys
due_from-append s p [] ys = refl
due_from-append s p (x ∷ xs) ys = due_from-append s (place_after s x) xs ys

due_from-follows : (s : ScriptValue) (p : Place) (es : List Entry) (q : Place) → Follows s p es q → due_from s p es ≡ q
due_from-follows s p [] q f = f
due_from-follows s p (h ∷ es) q f = due_from-follows s (place_after s h) es q f.1

entries_of-push : (endpoint : ℕ) (before : List Entry) (h : Entry) (b : Bool) → same_caller h.mark.caller (Back endpoint) ≡ b
    → entries_of (Back endpoint) (before ++ h ∷ []) ≡ entries_of (Back endpoint) before ++ (if b then h ∷ [] else [])
entries_of-push endpoint before h b e = filter-append (λ h. same_caller h.mark.caller (Back endpoint)) before (h ∷ []) ∙ rw e refl

due_place-own : (s : ScriptValue) (endpoint : ℕ) (before : List Entry) (h : Entry) → same_caller h.mark.caller (Back endpoint) ≡ true
    → due_place s (Back endpoint) (before ++ h ∷ []) ≡ place_after s h
due_place-own s endpoint before h own = ap (due_from s (at 1 1)) (entries_of-push endpoint before h true own) ∙ due_from-append s (at 1 1) (entries_of (Back endpoint) before) (h ∷ [])

due_place-other : (s : ScriptValue) (endpoint : ℕ) (before : List Entry) (h : Entry) → same_caller h.mark.caller (Back endpoint) ≡ false
    → due_place s (Back endpoint) (before ++ h ∷ []) ≡ due_place s (Back endpoint) before
due_place-other s endpoint before h other =
    ap (due_from s (at 1 1)) (entries_of-push endpoint before h false other ∙ append-nil (entries_of (Back endpoint) before))

pub follows-due : (s : ScriptValue) (endpoint : ℕ) (before hs : List Entry) → AreDue s before hs
    → Follows s (due_place s (Back endpoint) before) (entries_of (Back endpoint) hs) (due_place s (Back endpoint) (before ++ hs))
follows-due s endpoint before [] due = ap (due_place s (Back endpoint)) (sym (append-nil before))
follows-due s endpoint before (h ∷ hs) due =
    let to = due_place s (Back endpoint) (before ++ h ∷ hs) in
    let rest : Follows s (due_place s (Back endpoint) (before ++ h ∷ [])) (entries_of (Back endpoint) hs) to =
    subst (λ b. Follows s (due_place s (Back endpoint) (before ++ h ∷ [])) (entries_of (Back endpoint) hs) (due_place s (Back endpoint) b)) (append_assoc before (h ∷ []) hs) (follows-due s endpoint (before ++ h ∷ []) hs due.1) in
    elim (cases_Bool (same_caller h.mark.caller (Back endpoint))) [
      | inl own ↦
          let here : due_place s (Back endpoint) before ≡ place h = subst (λ c. IsNext s before c h.mark.line h.mark.part) (same_caller-eq h.mark.caller (Back endpoint) own) due.0.next in
          rw own (here, subst (λ p. Follows s p (entries_of (Back endpoint) hs) to) (due_place-own s endpoint before h own) rest)
      | inr other ↦ rw other (subst (λ p. Follows s p (entries_of (Back endpoint) hs) to) (due_place-other s endpoint before h other) rest)
    ]

-- where the entries are blocks, each is at the due place
pub next-blocks : (s : ScriptValue) (endpoint count : ℕ) (xs : List Entry) (h : Entry) (ys : List Entry) → h.mark.caller ≡ Back endpoint
    → AreBlocks s 1 count (entries_of (Back endpoint) (xs ++ h ∷ ys)) → due_place s (Back endpoint) xs ≡ place h
next-blocks s endpoint count xs h ys is blocks =
    let own : same_caller h.mark.caller (Back endpoint) ≡ true = subst (λ c. same_caller c (Back endpoint) ≡ true) (sym is) (same_caller-self (Back endpoint)) in
    let mine : entries_of (Back endpoint) (h ∷ ys) ≡ h ∷ entries_of (Back endpoint) ys = rw own refl in
    let split = filter-append (λ h. same_caller h.mark.caller (Back endpoint)) xs (h ∷ ys) ∙ ap (λ es. entries_of (Back endpoint) xs ++ es) mine in
    let follows = subst (λ es. Follows s (at 1 1) es (at (1 + count) 1)) split (follows-blocks s 1 count (entries_of (Back endpoint) (xs ++ h ∷ ys)) blocks) in
    (follows_at s (at 1 1) (entries_of (Back endpoint) xs) (h ∷ entries_of (Back endpoint) ys) (at (1 + count) 1) follows).0

-- and the last place is behind the last line
pub last_place : (s : ScriptValue) (endpoint count : ℕ) (entries : List Entry) → AreBlocks s 1 count (entries_of (Back endpoint) entries)
    → due_place s (Back endpoint) entries ≡ at (count + 1) 1
last_place s endpoint count entries blocks =
    due_from-follows s (at 1 1) (entries_of (Back endpoint) entries) (at (1 + count) 1) (follows-blocks s 1 count (entries_of (Back endpoint) entries) blocks)
    ∙ ap (λ n. at n 1) (omega arith)

-- entries that were due make blocks where the last place is behind the last line
pub blocks-due : (s : ScriptValue) (endpoint count : ℕ) (entries : List Entry) → AreDue s [] entries → due_place s (Back endpoint) entries ≡ at (count + 1) 1
    → AreBlocks s 1 count (entries_of (Back endpoint) entries)
blocks-due s endpoint count entries due last =
    let behind : due_place s (Back endpoint) entries ≡ at (1 + count) 1 = last ∙ ap (λ n. at n 1) (omega arith) in
    blocks-follows s 1 count (entries_of (Back endpoint) entries) (subst (λ q. Follows s (at 1 1) (entries_of (Back endpoint) entries) q) behind (follows-due s endpoint [] entries due))
