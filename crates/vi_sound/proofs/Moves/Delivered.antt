-- The delivered records, by the entries that they are of.
use Rattle.std.proofs.Common.{◌≡◌, ℕ, zero, suc, ◌+◌, ◌-◌, ◌<◌, ◌≤◌, List, [], ◌∷◌, ◌++◌, get_or, length, map, take, Some, slice_get, All, Contains, refl, arith, ◌∙◌, ap, sym, subst, ◌⊎◌, inl, inr, append_assoc, length-append}
use Rattle.std.proofs.lemmas.Bool.{cases_lt}
use Rattle.std.proofs.lemmas.List.{length-map}
use Rattle.std.proofs.lemmas.Option.{slice_get_within, get_or_from_slice_get}
use Rattle.vi_history.specs.Records.{records, AreTakenFrom, IsShownWell}
use Rattle.vi_history.specs.declared.outcome.Shown.{Shown}
use Rattle.vi_lines.specs.Value.{ScriptValue}
use Rattle.vi_model.specs.Control.{Events}
use Rattle.vi_model.specs.Worlds.{World}
use Rattle.vi_model.specs.Shown.{AreNumbered, AreShown}
use Rattle.vi_model.specs.Sound.{SoundParts, IsSound}
use Rattle.vi_model.specs.Delivered.{record_at, delivered, RecordsAreShownWell}

-- where so many records stand in front of those that the numbers begin with
placed : (front all : List Shown) (rest : List Shown) (x : Shown) (i : ℕ) → all ≡ front ++ rest → x.entry ≡ length front + 1 + i → record_at all x ≡ get_or rest i x
placed front all rest x i is at = ap (λ ys. get_or ys (x.entry - 1) x) is ∙ (ap (λ n. get_or (front ++ rest) n x) number ∙ behind front)
  where
    number : x.entry - 1 ≡ length front + i
    number = omega (arith, at)

    behind : (ys : List Shown) → get_or (ys ++ rest) (length ys + i) x ≡ get_or rest i x
    behind [] = ap (λ n. get_or rest n x) (omega arith)
    behind (y ∷ ys) = let e : suc (length ys) + i ≡ suc (length ys + i) = omega arith in ap (λ n. get_or (y ∷ (ys ++ rest)) n x) e ∙ behind ys

taken : (front all rest : List Shown) (xs : List Shown) → all ≡ front ++ rest → AreNumbered (length front + 1) (map (λ (x : Shown). x.bytes) rest) xs → AreTakenFrom (map (record_at all) xs) rest
taken front all [] [] is n = tt
taken front all [] (x ∷ xs) is n = absurd n
taken front all (r ∷ rest) [] is n = tt
taken front all (r ∷ rest) (x ∷ xs) is (inl n) =
    let at : x.entry ≡ length front + 1 = ap (λ (y : Shown). y.entry) n.0 in
    inl (placed front all (r ∷ rest) x 0 is (omega (arith, at)), taken (front ++ r ∷ []) all rest xs (is ∙ sym (append_assoc front (r ∷ []) rest)) (subst (λ m. AreNumbered m (map (λ (x : Shown). x.bytes) rest) xs) (more front r) n.1))
  where
    more : (front : List Shown) (r : Shown) → suc (length front + 1) ≡ length (front ++ r ∷ []) + 1
    more front r = let l = length-append front (r ∷ []) in omega (arith, l)
taken front all (r ∷ rest) (x ∷ xs) is (inr n) =
    inr (taken (front ++ r ∷ []) all rest (x ∷ xs) (is ∙ sym (append_assoc front (r ∷ []) rest)) (subst (λ m. AreNumbered m (map (λ (x : Shown). x.bytes) rest) (x ∷ xs)) (more front r) n))
  where
    more : (front : List Shown) (r : Shown) → suc (length front + 1) ≡ length (front ++ r ∷ []) + 1
    more front r = let l = length-append front (r ∷ []) in omega (arith, l)

map_get : (f : Shown → Shown) (xs : List Shown) (i : ℕ) (x : Shown) → slice_get xs i ≡ Some x → slice_get (map f xs) i ≡ Some (f x)
map_get f [] i x h = absurd cc
map_get f (y ∷ xs) zero x h = let same : y ≡ x = cc in ap (λ z. Some (f z)) same
map_get f (y ∷ xs) (suc i) x h = map_get f xs i x h

contains_at : (xs : List Shown) (i : ℕ) (x : Shown) → slice_get xs i ≡ Some x → Contains xs x
contains_at xs i x h = (i, slice_get_within xs i x h, get_or_from_slice_get xs i x x h)

-- the first records are all there
firsts : (buffers : ℕ) (all : List Shown) (e : Events) → AreShown buffers (map (λ (x : Shown). x.bytes) all) e → All (λ r. Contains (map (record_at all) e.shown) r) (take buffers all)
firsts buffers all e ok = λ i d within.
    let few : i < buffers = within_take buffers all i within in
    let there : i < length all = within_all buffers all i within in
    let shown : i < length e.shown = enough few there (cases_lt 0 e.dropped) in
    let f = ok.first i few shown in
    let it : slice_get (map (record_at all) e.shown) i ≡ Some (record_at all f.0) = map_get (record_at all) e.shown i f.0 f.1 in
    let same : record_at all f.0 ≡ get_or (take buffers all) i d =
    ap (λ n. get_or all n f.0) (number f.0 i f.2) ∙ (any_default all i f.0 d there ∙ taken_get buffers all i d few) in
    subst (Contains (map (record_at all) e.shown)) same (contains_at (map (record_at all) e.shown) i (record_at all f.0) it)
  where
    enough : {i : ℕ} → i < buffers → i < length all → (0 < e.dropped) ⊎ (e.dropped ≤ 0) → i < length e.shown
    enough few there (inl some) = let n = ok.enough some in omega (arith, few, n)
    enough few there (inr none) = let count = ok.count in let total = length-map all (λ (x : Shown). x.bytes) in omega (arith, none, count, total, there)

    number : (x : Shown) (i : ℕ) → x.entry ≡ i + 1 → x.entry - 1 ≡ i
    number x i h = omega (arith, h)

    any_default : (xs : List Shown) (i : ℕ) (a b : Shown) → i < length xs → get_or xs i a ≡ get_or xs i b
    any_default [] i a b lt = absurd (omega (arith, lt))
    any_default (x ∷ xs) zero a b lt = refl
    any_default (x ∷ xs) (suc i) a b lt = any_default xs i a b (omega (arith, lt))

    taken_get : (n : ℕ) (xs : List Shown) (i : ℕ) (d : Shown) → i < n → get_or xs i d ≡ get_or (take n xs) i d
    taken_get zero xs i d lt = absurd (omega (arith, lt))
    taken_get (suc n) [] i d lt = refl
    taken_get (suc n) (x ∷ xs) zero d lt = refl
    taken_get (suc n) (x ∷ xs) (suc i) d lt = taken_get n xs i d (omega (arith, lt))

    within_take : (n : ℕ) (xs : List Shown) (i : ℕ) → i < length (take n xs) → i < n
    within_take zero xs i lt = absurd (omega (arith, lt))
    within_take (suc n) [] i lt = absurd (omega (arith, lt))
    within_take (suc n) (x ∷ xs) zero lt = omega arith
    within_take (suc n) (x ∷ xs) (suc i) lt = let r = within_take n xs i (omega (arith, lt)) in omega (arith, r)

    within_all : (n : ℕ) (xs : List Shown) (i : ℕ) → i < length (take n xs) → i < length xs
    within_all zero xs i lt = absurd (omega (arith, lt))
    within_all (suc n) [] i lt = absurd (omega (arith, lt))
    within_all (suc n) (x ∷ xs) zero lt = omega arith
    within_all (suc n) (x ∷ xs) (suc i) lt = let r = within_all n xs i (omega (arith, lt)) in omega (arith, r)

shown_parts : (s : ScriptValue) (w : World) → (ok : SoundParts s w) → IsShownWell s.setup.queue ok.told.calls w.history (delivered w ok.told.calls) w.control.events.dropped
shown_parts s w ok = record {
  taken = taken [] (records ok.told.calls w.history) (records ok.told.calls w.history) w.control.events.shown refl ok.told.shown.taken;
  first = firsts s.setup.queue (records ok.told.calls w.history) w.control.events ok.told.shown;
  counted =
      let a = length-map w.control.events.shown (record_at (records ok.told.calls w.history)) in
      let b = length-map (records ok.told.calls w.history) (λ (x : Shown). x.bytes) in
      let c = ok.told.shown.count in
      omega (arith, a, b, c);
}

pub records_are_shown_well : RecordsAreShownWell
unfolding IsSound
records_are_shown_well s w ok = (ok.told.calls, ok.told.named, shown_parts s w ok)
