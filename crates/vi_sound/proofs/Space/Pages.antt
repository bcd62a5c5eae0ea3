-- A back end has no more grants than pages, and room for the next.
use Rattle.std.proofs.Common.{◌≡◌, ◌==◌, ℕ, zero, suc, ◌+◌, ◌-◌, ◌≤◌, Bool, true, false, cond, not, List, [], ◌∷◌, ◌++◌, length, map, filter, Option, Some, None, slice_get, refl, arith, ap, sym, subst, length-append, ◌⊎◌, inl, inr}
use Rattle.std.specs.Prelude.{is_some, nat_le, ◌&&◌, sum_by}
use Rattle.std.specs.List.{AllByRecursion, range_with_len}
use Rattle.std.proofs.lemmas.Bool.Decides.{nat_tests}
use Rattle.std.proofs.lemmas.Bool.{cases_eq, eqb-true, eq-eqb, or_left, or_right, and_parts, leb-true}
use Rattle.std.proofs.lemmas.List.Sums.{sum_by-cons}
use Rattle.vi_bytes.specs.declared.span.Span.{Span}
use Rattle.vi_bytes.specs.declared.lease.Lease.{Lease}
use Rattle.vi_bytes.specs.Parts.{part_count, nth_part}
use Rattle.vi_history.specs.declared.call.Caller.{Caller}
use Rattle.vi_lines.specs.declared.job.Job.{Job}
use Rattle.vi_lines.specs.declared.job.Job.TheVariants as job
use Rattle.vi_lines.specs.declared.line.Line.{Line}
use Rattle.vi_lines.specs.Value.{ScriptValue}
use Rattle.vi_lines.specs.Calls.{same_caller, lines_of, line_of, parts_of, back_call, call_in, call_of}
use Rattle.vi_model.specs.Places.{id_at, back_at}
use Rattle.vi_model.specs.Serves.{page_of}
use Rattle.vi_model.specs.Backs.{Access, access_in, access_at}
use Rattle.vi_model.specs.Tasks.{reach_of}
use Rattle.vi_model.specs.Grants.{touches, lease_under, spared, others, granted}
use Rattle.vi_grants.specs.declared.row.Grant.{Grant}
use Rattle.vi_model.specs.Removals.{Removal, waits_for, acked_grants}
use Rattle.vi_model.specs.Links.{AreDistinct}
use Rattle.vi_model.specs.Rooms.{is_in, distinct, HasGrantRoom, pages_from, job_pages, line_pages, pages_of, all_parts}
use Rattle.vi_sound.proofs.Values.Leases.{others_distinct}

-- each grant is under one of the pages
abbrev pub EachIn : List ℕ → List Grant → Type 0
EachIn ps g = AllByRecursion (λ g. is_in g.asked ps ≡ true) g

spared_in : (ps : List ℕ) (s : Option Span) (g : List Grant) → EachIn ps g → EachIn ps (spared s g)
spared_in ps s [] w = tt
spared_in ps s (x ∷ g) w = go (touches s x.lease) (spared_in ps s g w.1)
  where
    go : (b : Bool) → EachIn ps (spared s g) → EachIn ps (cond (not b) (x ∷ spared s g) (spared s g))
    go true r = r
    go false r = (w.0, r)

others_in : (ps : List ℕ) (q : ℕ) (g : List Grant) → EachIn ps g → EachIn ps (others q g)
others_in ps q [] w = tt
others_in ps q (x ∷ g) w = go (x.asked == q) (others_in ps q g w.1)
  where
    go : (b : Bool) → EachIn ps (others q g) → EachIn ps (cond (not b) (x ∷ others q g) (others q g))
    go true r = r
    go false r = (w.0, r)

push_in : (ps : List ℕ) (p : ℕ) (l : Lease) (g : List Grant) → is_in p ps ≡ true → EachIn ps g → EachIn ps (g ++ (record { asked = p; lease = l }) ∷ [])
push_in ps p l [] m ok = (m, tt)
push_in ps p l (x ∷ g) m ok = (ok.0, push_in ps p l g m ok.1)

granted_in : (ps : List ℕ) (p : ℕ) (l : Lease) (g : List Grant) → is_in p ps ≡ true → EachIn ps g → EachIn ps (granted p l g)
granted_in ps p l g m ok = push_in ps p l (others p g) m (others_in ps p g ok)

acked_in : (ps : List ℕ) (k : ℕ) (rs : List Removal) (g : List Grant) → EachIn ps g → EachIn ps (acked_grants k rs g)
acked_in ps k [] g ok = ok
acked_in ps k (r ∷ rs) g ok = go (waits_for k r) (acked_in ps k rs g ok)
  where
    go : (b : Bool) → EachIn ps (acked_grants k rs g) → EachIn ps (cond b (spared (reach_of r.task) g) (acked_grants k rs g))
    go true i = spared_in ps (reach_of r.task) g ok
    go false i = i

-- pigeonhole
others_whole : (q : ℕ) (ls : List Grant) → lease_under q ls ≡ None → length (others q ls) ≡ length ls
others_whole q [] h = refl
others_whole q (y ∷ ls) h = step (y.asked == q) h (others_whole q ls)
  where
    step : (b : Bool) → cond b (Some y.lease) (lease_under q ls) ≡ None → (lease_under q ls ≡ None → length (others q ls) ≡ length ls) → length (cond (not b) (y ∷ others q ls) (others q ls)) ≡ suc (length ls)
    step true h ih = absurd cc
    step false h ih = let r = ih h in omega (arith, r)

others_less : (q : ℕ) (g : List Grant) → AreDistinct g → length g ≤ length (others q g) + 1
others_less q [] d = omega arith
others_less q (x ∷ g) d = go (x.asked == q) refl (others_less q g d.1)
  where
    go : (b : Bool) → x.asked == q ≡ b → length g ≤ length (others q g) + 1 → suc (length g) ≤ length (cond (not b) (x ∷ others q g) (others q g)) + 1
    go true e r = let same : x.asked ≡ q = eqb-true x.asked q e in let w = others_whole q g (subst (λ p. lease_under p g ≡ None) same d.0) in omega (arith, w)
    go false e r = omega (arith, r)

in_fewer : (p : ℕ) (ps : List ℕ) (g : List Grant) → is_in p ps ≡ true → EachIn (p ∷ ps) g → EachIn ps g
in_fewer p ps [] m w = tt
in_fewer p ps (l ∷ g) m w = (go (cases_eq p l.asked), in_fewer p ps g m w.1)
  where
    go : (p ≡ l.asked) ⊎ (p ≡ l.asked → ⊥) → is_in l.asked ps ≡ true
    go (inl e) = subst (λ q. is_in q ps ≡ true) e m
    go (inr ne) = grind (arith, nat_tests, w.0)

in_others : (p : ℕ) (ps : List ℕ) (g : List Grant) → EachIn (p ∷ ps) g → EachIn ps (others p g)
in_others p ps [] w = tt
in_others p ps (l ∷ g) w = go (l.asked == p) refl (in_others p ps g w.1)
  where
    go : (b : Bool) → l.asked == p ≡ b → EachIn ps (others p g) → EachIn ps (cond (not b) (l ∷ others p g) (others p g))
    go true e r = r
    go false e r = (grind (arith, nat_tests, w.0), r)

pub few_grants : (ps : List ℕ) (g : List Grant) → AreDistinct g → EachIn ps g → length g ≤ length (distinct ps)
few_grants [] [] d w = omega arith
few_grants [] (l ∷ g) d w = absurd cc
few_grants (p ∷ ps) g d w = go (is_in p ps) refl (λ v. few_grants ps g d v) (few_grants ps (others p g) (others_distinct p g d) (in_others p ps g w))
  where
    go : (b : Bool) → is_in p ps ≡ b → (EachIn ps g → length g ≤ length (distinct ps)) → length (others p g) ≤ length (distinct ps) → length g ≤ length (cond b (distinct ps) (p ∷ distinct ps))
    go true e whole less = whole (in_fewer p ps g e w)
    go false e whole less = let o = others_less p g d in omega (arith, less, o)

-- a page of a part that isn't granted finds room
pub grant_fits : (ps : List ℕ) (p : ℕ) (l : Lease) (g : List Grant) → AreDistinct g → EachIn ps g → lease_under p g ≡ None → is_in p ps ≡ true → length g + 1 ≤ length (distinct ps)
grant_fits ps p l g d w h m = let f = few_grants ps (record { asked = p; lease = l } ∷ g) (h, d) (m, w) in omega (arith, f)

-- with what a grant takes from the spare
pub granted_room : (ps : List ℕ) (p : ℕ) (l : Lease) (g : List Grant) (spare : ℕ) → AreDistinct g → is_in p ps ≡ true → HasGrantRoom ps g spare → HasGrantRoom ps (granted p l g) (cond (is_some (lease_under p g)) spare (spare - 1))
granted_room ps p l g spare d m ok = record { within = granted_in ps p l g m ok.within; enough = go (lease_under p g) refl }
  where
    size : length (granted p l g) ≡ length (others p g) + 1
    size = length-append (others p g) ((record { asked = p; lease = l }) ∷ [])

    go : (o : Option Lease) → lease_under p g ≡ o → length (distinct ps) ≤ length (granted p l g) + cond (is_some o) spare (spare - 1)
    go None e =
        let fits = grant_fits ps p l g d ok.within e m in
        let same = others_whole p g e in
        let n = ok.enough in omega (arith, fits, same, n, size)
    go (Some x) e = let less = others_less p g d in let n = ok.enough in omega (arith, less, n, size)

pub acked_room : (ps : List ℕ) (k : ℕ) (rs : List Removal) (g : List Grant) (spare : ℕ) → HasGrantRoom ps g spare → HasGrantRoom ps (acked_grants k rs g) (spare + (length g - length (acked_grants k rs g)))
acked_room ps k rs g spare ok = record { within = acked_in ps k rs g ok.within; enough = let n = ok.enough in omega (arith, n) }

distinct_less : (ps : List ℕ) → length (distinct ps) ≤ length ps
distinct_less [] = omega arith
distinct_less (p ∷ ps) = go (is_in p ps) (distinct_less ps)
  where
    go : (b : Bool) → length (distinct ps) ≤ length ps → length (cond b (distinct ps) (p ∷ distinct ps)) ≤ suc (length ps)
    go true h = omega (arith, h)
    go false h = omega (arith, h)

-- ---- the pages of a back end's parts

in_left : (p : ℕ) (xs ys : List ℕ) → is_in p xs ≡ true → is_in p (xs ++ ys) ≡ true
in_left p [] ys h = absurd cc
in_left p (x ∷ xs) ys h = grind (arith, nat_tests, in_left p xs ys)

in_right : (p : ℕ) (xs ys : List ℕ) → is_in p ys ≡ true → is_in p (xs ++ ys) ≡ true
in_right p [] ys h = h
in_right p (x ∷ xs) ys h = or_right (x == p) (is_in p (xs ++ ys)) (in_right p xs ys h)

in_range : (f : ℕ → ℕ) (a n k : ℕ) → a ≤ k → k + 1 ≤ a + n → is_in (f k) (map f (range_with_len a n)) ≡ true
in_range f a zero k low high = absurd (omega (arith, low, high))
in_range f a (suc n) k low high = go (cases_eq a k) (λ l h. in_range f (a + 1) n k l h)
  where
    go : (a ≡ k) ⊎ (a ≡ k → ⊥) → (a + 1 ≤ k → k + 1 ≤ a + 1 + n → is_in (f k) (map f (range_with_len (a + 1) n)) ≡ true) → is_in (f k) (f a ∷ map f (range_with_len (a + 1) n)) ≡ true
    go (inl same) rest = or_left (f a == f k) (is_in (f k) (map f (range_with_len (a + 1) n))) (eq-eqb (f a) (f k) (ap f same))
    go (inr ne) rest = or_right (f a == f k) (is_in (f k) (map f (range_with_len (a + 1) n))) (rest (omega (arith, low, ne)) (omega (arith, high)))

range_length : {A : Type 0} (f : ℕ → A) (a n : ℕ) → length (map f (range_with_len a n)) ≡ n
range_length f a zero = refl
range_length f a (suc n) = ap suc (range_length f (a + 1) n)

same_access : (x y : Access) → Some x ≡ Some y → x ≡ y
same_access x y h = cc

job_page : (id part : ℕ) (j : Job) (a : Access) → 1 ≤ part → part ≤ parts_of j → access_in (back_call id j part) ≡ Some a → is_in (page_of a.part.iova) (job_pages j) ≡ true
job_page id part (job.Ask request) a low high h = absurd cc
job_page id part (job.Raw read write) a low high h = absurd cc
job_page id part (job.Bypass on) a low high h = absurd cc
job_page id part (job.Read iova len) a low high h =
    let same = same_access _ a h in
    subst (λ (b : Access). is_in (page_of b.part.iova) (pages_from iova len) ≡ true) same (in_range (λ k. page_of (nth_part iova len k).iova) 1 (part_count iova len) part low (omega (arith, high)))
job_page id part (job.Write iova bytes) a low high h =
    let same = same_access _ a h in
    subst (λ (b : Access). is_in (page_of b.part.iova) (pages_from iova (length bytes)) ≡ true) same (in_range (λ k. page_of (nth_part iova (length bytes) k).iova) 1 (part_count iova (length bytes)) part low (omega (arith, high)))

lines_page : (p before : ℕ) (l : Line) (ls : List Line) → slice_get ls before ≡ Some l → is_in p (job_pages l.job) ≡ true → is_in p (line_pages ls) ≡ true
lines_page p before l [] h i = absurd cc
lines_page p zero l (x ∷ ls) h i = let same : x ≡ l = cc in in_left p (job_pages x.job) (line_pages ls) (subst (λ (y : Line). is_in p (job_pages y.job) ≡ true) (sym same) i)
lines_page p (suc before) l (x ∷ ls) h i = in_right p (job_pages x.job) (line_pages ls) (lines_page p before l ls h i)

line_page : (s : ScriptValue) (k line p : ℕ) (l : Line) → line_of s (back_at s k) line ≡ Some l → is_in p (job_pages l.job) ≡ true → is_in p (pages_of s k) ≡ true
line_page s k zero p l h i = absurd cc
line_page s k (suc before) p l h i = lines_page p before l (lines_of s (back_at s k)) h i

-- the page of each part is one of them
pub access_page : (s : ScriptValue) (k line part : ℕ) (a : Access) → access_at s k line part ≡ Some a → is_in (page_of a.part.iova) (pages_of s k) ≡ true
unfolding call_of
access_page s k line part a h = go (line_of s (back_at s k) line) refl h
  where
    go : (o : Option Line) → line_of s (back_at s k) line ≡ o → access_in (call_in (back_at s k) part o) ≡ Some a → is_in (page_of a.part.iova) (pages_of s k) ≡ true
    go None e h = absurd cc
    go (Some l) e h = by (nat_le 1 part && nat_le part (parts_of l.job)) refl h
      where
        by : (b : Bool) → (nat_le 1 part && nat_le part (parts_of l.job)) ≡ b → access_in (cond b (back_call (id_at s k) l.job part) None) ≡ Some a → is_in (page_of a.part.iova) (pages_of s k) ≡ true
        by true t h =
            let both = and_parts (nat_le 1 part) (nat_le part (parts_of l.job)) t in
            line_page s k line (page_of a.part.iova) l e (job_page (id_at s k) part l.job a (leb-true 1 part both.0) (leb-true part (parts_of l.job) both.1) h)
        by false t h = absurd cc

job_length : (j : Job) → length (job_pages j) ≡ parts_of j
job_length (job.Ask request) = refl
job_length (job.Raw read write) = refl
job_length (job.Bypass on) = refl
job_length (job.Read iova len) = range_length (λ k. page_of (nth_part iova len k).iova) 1 (part_count iova len)
job_length (job.Write iova bytes) = range_length (λ k. page_of (nth_part iova (length bytes) k).iova) 1 (part_count iova (length bytes))

filter_parts : (c : Caller) (ls : List Line) → length (line_pages (filter (λ l. same_caller l.caller c) ls)) ≤ sum_by (λ l. parts_of l.job) ls
filter_parts c [] = omega arith
filter_parts c (l ∷ ls) = go (same_caller l.caller c) (filter_parts c ls)
  where
    split : sum_by (λ l. parts_of l.job) (l ∷ ls) ≡ parts_of l.job + sum_by (λ l. parts_of l.job) ls
    split = sum_by-cons (λ l. parts_of l.job) l ls

    go : (b : Bool) → length (line_pages (filter (λ l. same_caller l.caller c) ls)) ≤ sum_by (λ l. parts_of l.job) ls
        → length (line_pages (cond b (l ∷ filter (λ l. same_caller l.caller c) ls) (filter (λ l. same_caller l.caller c) ls))) ≤ sum_by (λ l. parts_of l.job) (l ∷ ls)
    go true r =
        let size = length-append (job_pages l.job) (line_pages (filter (λ l. same_caller l.caller c) ls)) in
        let own = job_length l.job in omega (arith, size, own, r, split)
    go false r = omega (arith, r, split)

-- the room that is taken at opening
pub opening_room : (s : ScriptValue) (k : ℕ) → HasGrantRoom (pages_of s k) [] (all_parts s)
unfolding all_parts
opening_room s k = record { within = tt; enough = let a = distinct_less (pages_of s k) in let b = filter_parts (back_at s k) s.lines in omega (arith, a, b) }
