-- Each descriptor stays free or one chain's, once, through the moves of a chain.
use Rattle.std.proofs.Common.{◌≡◌, ℕ, zero, suc, ◌+◌, ◌-◌, ◌<◌, ◌≤◌, Bool, true, false, List, [], ◌∷◌, ◌++◌, length, take, get_or, min, Option, Some, None, find, refl, ap, sym, ◌∙◌, arith}
use Rattle.std.specs.Prelude.{if◌then◌else◌, nat_lt}
use Rattle.std.proofs.lemmas.Bool.Decides.{nat_tests}
use Rattle.std.proofs.lemmas.List.{take_more, take_all, length-append, length-take-le}
use Rattle.vi_vring.specs.declared.note.Note.{Note}
use Rattle.vi_vring.specs.Notes.{NoteLists, has_head, is_double, needs, descriptors, noted_add, popped_if, popped_first, noted_pop, returned, noted_push, read_back, noted_read, freed, noted_collect, no_notes, up_to, tally, tally_all, one, uses, times, Whole}
use Rattle.vi_vring.proofs.NoteLemmas.{tally-append, tally-without, length-up_to}

-- the sums are what counts
whole_same : (v w : NoteLists) → Whole v → w.size ≡ v.size → ((d : ℕ) → times d w ≡ times d v) → length w.free + tally_all needs w ≡ length v.free + tally_all needs v → Whole w
whole_same v w p s t a = record {
  once = λ d. let h = t d in omega (arith, h, p.once d);
  below = λ d q. let h = t d in let r : d < v.size = p.below d (omega (arith, h, q)) in omega (arith, s, r);
  all = omega (arith, a, s, p.all);
}

-- the last of a list, and the last two
tally_last : (f : ℕ → ℕ) (xs : List ℕ) (k : ℕ) → k + 1 ≡ length xs → tally f (take k xs) + f (get_or xs k 0) ≡ tally f xs
tally_last f xs k e =
    let more = take_more xs k 0 (omega (arith, e)) in
    let whole : take (k + 1) xs ≡ xs = take_all (k + 1) xs (omega (arith, e)) in
    let sums = tally-append f (take k xs) (get_or xs k 0 ∷ []) in
    let same = ap (tally f) (sym whole ∙ more) in
    omega (arith, sums, same)

tally_last_two : (f : ℕ → ℕ) (xs : List ℕ) (k : ℕ) → k + 2 ≡ length xs → tally f (take k xs) + f (get_or xs k 0) + f (get_or xs (k + 1) 0) ≡ tally f xs
tally_last_two f xs k e =
    let more = take_more xs k 0 (omega (arith, e)) in
    let sums = tally-append f (take k xs) (get_or xs k 0 ∷ []) in
    let same = ap (tally f) more in
    let last = tally_last f xs (k + 1) (omega (arith, e)) in
    omega (arith, sums, same, last)

-- the descriptors that a chain takes
pub taken : (f : ℕ → ℕ) (xs : List ℕ) (b : Bool) (head tail : ℕ) → (if b then 2 else 1) ≤ length xs → head ≡ get_or xs (length xs - 1) 0 → tail ≡ get_or xs (length xs - (if b then 2 else 1)) 0
    → tally f (take (length xs - (if b then 2 else 1)) xs) + (f head + (if b then f tail else 0)) ≡ tally f xs
taken f xs true head tail le h t =
    let i : length xs - 2 + 1 ≡ length xs - 1 = omega (arith, le) in
    let two = tally_last_two f xs (length xs - 2) (omega (arith, le)) in
    let g : get_or xs (length xs - 2 + 1) 0 ≡ head = ap (λ k. get_or xs k 0) i ∙ sym h in
    let fh = ap f g in
    let ft = ap f (sym t) in
    omega (arith, two, fh, ft)
taken f xs false head tail le h t =
    let last = tally_last f xs (length xs - 1) (omega (arith, le)) in
    let fh = ap f h in
    omega (arith, last, fh)

pub whole_add : (v : NoteLists) (note : Note) → Whole v → needs note ≤ length v.free → note.head ≡ get_or v.free (length v.free - 1) 0
    → note.tail ≡ get_or v.free (length v.free - needs note) 0 → Whole (noted_add note v)
whole_add v note w le h t = whole_same v (noted_add note v) w refl
    (λ d. omega (arith, tally-append (uses d) v.available (note ∷ []), taken (one d) v.free (is_double note.read note.write) note.head note.tail le h t))
    (let short = length-take-le (length v.free - needs note) v.free (omega arith) in omega (arith, le, short, tally-append needs v.available (note ∷ [])))

pub whole_pop : (head : ℕ) (v : NoteLists) → Whole v → Whole (noted_pop head v)
whole_pop head v w = go v.available refl
  where
    moved : (x : Note) (xs : List Note) → v.available ≡ x ∷ xs → (b : Bool) → Whole (popped_if b x xs v)
    moved x xs e true =
        let sums = λ (f : Note → ℕ). ap (tally f) e in
        whole_same v (record v { available = xs; popped = v.popped ++ x ∷ [] }) w refl
        (λ d. omega (arith, sums (uses d), tally-append (uses d) v.popped (x ∷ [])))
        (omega (arith, sums needs, tally-append needs v.popped (x ∷ [])))
    moved x xs e false = w

    go : (av : List Note) → v.available ≡ av → Whole (popped_first head av v)
    go [] e = w
    go (x ∷ xs) e = moved x xs e (has_head head x)

pub whole_push : (head len : ℕ) (v : NoteLists) → Whole v → Whole (noted_push head len v)
whole_push head len v w = go (find (has_head head) v.popped) refl
  where
    go : (o : Option Note) → find (has_head head) v.popped ≡ o → Whole (returned head len o v)
    go None e = w
    go (Some x) e =
        let y : Note = record x { len = min len x.write } in
        whole_same v (returned head len (Some x) v) w refl
        (λ d. omega (arith, tally-without (uses d) head v.popped x e, tally-append (uses d) v.unread (y ∷ [])))
        (omega (arith, tally-without needs head v.popped x e, tally-append needs v.unread (y ∷ [])))

pub whole_read : (head len : ℕ) (v : NoteLists) → Whole v → Whole (noted_read head len v)
whole_read head len v w = go (find (has_head head) v.unread) refl
  where
    go : (o : Option Note) → find (has_head head) v.unread ≡ o → Whole (read_back head len o v)
    go None e = w
    go (Some x) e =
        let y : Note = record x { len = min len x.write } in
        whole_same v (read_back head len (Some x) v) w refl
        (λ d. omega (arith, tally-without (uses d) head v.unread x e, tally-append (uses d) v.uncollected (y ∷ [])))
        (omega (arith, tally-without needs head v.unread x e, tally-append needs v.uncollected (y ∷ [])))

given_back : (f : ℕ → ℕ) (b : Bool) (head tail : ℕ) → tally f (if b then head ∷ tail ∷ [] else head ∷ []) ≡ f head + (if b then f tail else 0)
given_back f true head tail = omega arith
given_back f false head tail = omega arith

given_count : (b : Bool) (head tail : ℕ) → length (if b then head ∷ tail ∷ [] else head ∷ []) ≡ (if b then 2 else 1)
given_count true head tail = refl
given_count false head tail = refl

pub whole_collect : (head : ℕ) (v : NoteLists) → Whole v → Whole (noted_collect head v)
whole_collect head v w = go (find (has_head head) v.uncollected) refl
  where
    go : (o : Option Note) → find (has_head head) v.uncollected ≡ o → Whole (freed head o v)
    go None e = w
    go (Some x) e =
        let b = is_double x.read x.write in
        whole_same v (freed head (Some x) v) w refl
        (λ d. omega (arith, tally-without (uses d) head v.uncollected x e, tally-append (one d) v.free (descriptors x), given_back (one d) b x.head x.tail))
        (omega (arith, tally-without needs head v.uncollected x e, length-append v.free (descriptors x), given_count b x.head x.tail))

-- all descriptors below n, once
times-up_to : (d n : ℕ) → tally (one d) (up_to n) ≡ (if nat_lt d n then 1 else 0)
times-up_to d zero = grind (arith, nat_tests)
times-up_to d (suc n) = tally-append (one d) (up_to n) (n ∷ []) ∙ ap (λ k. k + (one d n + 0)) (times-up_to d n) ∙ step d n
  where
    step : (d n : ℕ) → (if nat_lt d n then 1 else 0) + (one d n + 0) ≡ (if nat_lt d (suc n) then 1 else 0)
    step d n = grind (arith, nat_tests)

at_most_one : (d n : ℕ) → (if nat_lt d n then 1 else 0) ≤ 1
at_most_one d n = grind (arith, nat_tests)

below_from : (d n : ℕ) → 0 < (if nat_lt d n then 1 else 0) → d < n
below_from d n p = grind (arith, nat_tests)

pub whole_none : (n : ℕ) → Whole (no_notes n)
whole_none n = record {
  once = λ d. let t = times-up_to d n in omega (arith, t, at_most_one d n);
  below = λ d p. below_from d n (let t = times-up_to d n in omega (arith, t, p));
  all = omega (arith, length-up_to n);
}
