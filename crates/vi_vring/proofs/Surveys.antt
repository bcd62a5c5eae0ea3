-- The survey of a chain: what its pieces come to, step by step.
use Rattle.std.proofs.Common.{◌≡◌, ℕ, zero, suc, ◌+◌, ◌-◌, ◌<◌, ◌≤◌, Bool, true, false, ◌||◌, nat_le, nat_lt, List, [], ◌∷◌, ◌++◌, length, Option, Some, None, Result, Ok, Err, refl, ap, sym, ◌∙◌, arith}
use Rattle.std.specs.Prelude.{if◌then◌else◌}
use Rattle.std.specs.List.{list_any}
use Rattle.std.proofs.lemmas.Bool.{or_parts, ltb-false}
use Rattle.std.proofs.lemmas.Bool.Decides.{nat_tests}
use Rattle.std.proofs.lemmas.List.Sums.{sum_by_push}
use Rattle.std.proofs.lemmas.List.Folds.{list_any-append}
use Rattle.vi_vring.specs.declared.chain.Break.{Break}
use Rattle.vi_vring.specs.declared.chain.Break.TheVariants.{Outside, Loop}
use Rattle.vi_vring.specs.declared.walking.Piece.{Piece}
use Rattle.vi_vring.specs.declared.walking.Descriptor.{Descriptor}
use Rattle.vi_vring.specs.declared.walking.Totals.{Totals}
use Rattle.vi_vring.specs.Shown.{described, followed, onward, walked, shown, surveyed, totals_of, counted, part_total, passes_memory, read_total, write_total, IsSmall}

abbrev pub totals : ℕ → ℕ → Bool → Totals
totals r w a = record { read = r; write = w; has_writable = a }

-- a piece more
or_true : (b : Bool) → (b || true) ≡ true
or_true true = refl
or_true false = refl

or_false : (b : Bool) → (b || false) ≡ b
or_false true = refl
or_false false = refl

totals_by : (b : Bool) (r w l : ℕ) (a : Bool)
    → totals (r + (if b then 0 else l)) (w + (if b then l else 0)) (a || b) ≡ (if b then totals r (w + l) true else totals (r + l) w a)
totals_by true r w l a = let same : r + 0 ≡ r = omega arith in ap (λ k. totals k (w + l) (a || true)) same ∙ ap (totals r (w + l)) (or_true a)
totals_by false r w l a = let same : w + 0 ≡ w = omega arith in ap (λ k. totals (r + l) k (a || false)) same ∙ ap (totals (r + l) w) (or_false a)

totals_push : (before : List Piece) (p : Piece) → totals_of (before ++ p ∷ []) ≡ counted p (totals_of before)
totals_push before p =
    let reads = sum_by_push (λ (q : Piece). if q.writes then 0 else q.len) before p in
    let writes = sum_by_push (λ (q : Piece). if q.writes then q.len else 0) before p in
    let any = list_any-append (λ (q : Piece). q.writes) before (p ∷ []) in
    let own : (p.writes || false) ≡ p.writes = or_false p.writes in
    ap (λ k. totals k (write_total (before ++ p ∷ [])) (list_any (λ (q : Piece). q.writes) (before ++ p ∷ []))) reads
    ∙ ap (λ k. totals (read_total before + (if p.writes then 0 else p.len)) k (list_any (λ (q : Piece). q.writes) (before ++ p ∷ []))) writes
    ∙ ap (totals (read_total before + (if p.writes then 0 else p.len)) (write_total before + (if p.writes then p.len else 0)))
    (any ∙ ap (λ b. list_any (λ (q : Piece). q.writes) before || b) own)
    ∙ totals_by p.writes (read_total before) (write_total before) p.len (list_any (λ (q : Piece). q.writes) before)

-- a piece that doesn't pass the memory is small, and so are the totals with it
small_by : (b : Bool) (r w l : ℕ) (a : Bool) → r ≤ 1024 → w ≤ 1024 → (if b then w else r) + l ≤ 1024 → IsSmall (if b then totals r (w + l) true else totals (r + l) w a)
small_by true r w l a p q h = record { readable = p; writable = h }
small_by false r w l a p q h = record { readable = h; writable = q }

module _ (area : List ℕ) (p : Piece) (t : Totals) (e : passes_memory area p t ≡ false) where
  within : part_total p t + p.len ≤ 1024
  within = ltb-false 1024 (part_total p t + p.len) (or_parts (nat_lt (length area) (p.address + p.len)) (nat_lt 1024 (part_total p t + p.len)) e).1

  pub small_piece : p.len ≤ 1024
  small_piece = let h = within in omega (arith, h)

  pub small_counted : IsSmall t → IsSmall (counted p t)
  small_counted s = small_by p.writes t.read t.write p.len t.has_writable s.readable s.writable within

-- the totals from a descriptor on, behind those so far, with `left` descriptors at most
abbrev pub totalled : Option ℕ → Totals → (ℕ → Totals → Result Totals Break) → Result Totals Break
totalled None t rest = Ok t
totalled (Some next) t rest = rest next t

abbrev pub going : Result Descriptor Break → Totals → (ℕ → Totals → Result Totals Break) → Result Totals Break
going (Err b) t rest = Err b
going (Ok d) t rest = totalled d.next (counted d.piece t) rest

abbrev pub surveyed_from : ℕ → List ℕ → ℕ → ℕ → Totals → Result Totals Break
surveyed_from n area zero d t = if nat_le n d then Err Outside else Err Loop
surveyed_from n area (suc left) d t = if nat_le n d then Err Outside else going (described area d t) t (surveyed_from n area left)

-- they are those of the pieces that the walk finds
module _ (n : ℕ) (area : List ℕ) where
  stopped : (b : Bool) → surveyed (if b then Err Outside else Err Loop) ≡ (if b then Err Outside else Err Loop)
  stopped true = refl
  stopped false = refl

  inside : (b : Bool) (r : Result (List Piece) Break) (t : Result Totals Break) → surveyed r ≡ t → surveyed (if b then Err Outside else r) ≡ (if b then Err Outside else t)
  inside true r t e = refl
  inside false r t e = e

  followed_same : (o : Option ℕ) (pieces : List Piece) (walk : ℕ → List Piece → Result (List Piece) Break) (survey : ℕ → Totals → Result Totals Break)
      → ((d : ℕ) (before : List Piece) → surveyed (walk d before) ≡ survey d (totals_of before))
      → surveyed (followed o pieces walk) ≡ totalled o (totals_of pieces) survey
  followed_same None pieces walk survey same = refl
  followed_same (Some next) pieces walk survey same = same next pieces

  onward_same : (r : Result Descriptor Break) (before : List Piece) (walk : ℕ → List Piece → Result (List Piece) Break) (survey : ℕ → Totals → Result Totals Break)
      → ((d : ℕ) (before : List Piece) → surveyed (walk d before) ≡ survey d (totals_of before))
      → surveyed (onward r before walk) ≡ going r (totals_of before) survey
  onward_same (Err b) before walk survey same = refl
  onward_same (Ok d) before walk survey same =
      followed_same d.next (before ++ d.piece ∷ []) walk survey same ∙ ap (λ t. totalled d.next t survey) (totals_push before d.piece)

  surveyed_walked : (left d : ℕ) (before : List Piece) → surveyed (walked n area left d before) ≡ surveyed_from n area left d (totals_of before)
  surveyed_walked zero d before = stopped (nat_le n d)
  surveyed_walked (suc left) d before =
      inside (nat_le n d) (onward (described area d (totals_of before)) before (walked n area left)) (going (described area d (totals_of before)) (totals_of before) (surveyed_from n area left))
      (onward_same (described area d (totals_of before)) before (walked n area left) (surveyed_from n area left) (λ next pieces. surveyed_walked left next pieces))

  pub surveyed_start : (head : ℕ) → surveyed_from n area (n - 0) head (totals 0 0 false) ≡ surveyed (shown n area head)
  unfolding shown
  surveyed_start head = let all : n - 0 ≡ n = omega arith in ap (λ k. surveyed_from n area k head (totals 0 0 false)) all ∙ sym (surveyed_walked n head [])

-- one descriptor on
surveyed_suc : (n : ℕ) (area : List ℕ) (rest d : ℕ) (t : Totals) → d < n → surveyed_from n area (suc rest) d t ≡ going (described area d t) t (surveyed_from n area rest)
surveyed_suc n area rest d t lt = go (nat_le n d) (grind (arith, nat_tests))
  where
    go : (b : Bool) → b ≡ false → (if b then Err Outside else going (described area d t) t (surveyed_from n area rest)) ≡ going (described area d t) t (surveyed_from n area rest)
    go true f = absurd cc
    go false f = refl

module _ (n : ℕ) (area : List ℕ) (passed d : ℕ) (t : Totals) (p : passed < n) (lt : d < n) where
  surveyed_on : surveyed_from n area (n - passed) d t ≡ going (described area d t) t (surveyed_from n area (n - (passed + 1)))
  surveyed_on = let e : n - passed ≡ suc (n - (passed + 1)) = omega arith in rw e (surveyed_suc n area (n - (passed + 1)) d t lt)

  pub surveyed_err : (b : Break) → Err b ≡ described area d t → surveyed_from n area (n - passed) d t ≡ Err b
  surveyed_err b e = surveyed_on ∙ ap (λ r. going r t (surveyed_from n area (n - (passed + 1)))) (sym e)

  surveyed_ok : (f : Descriptor) → Ok f ≡ described area d t → surveyed_from n area (n - passed) d t ≡ totalled f.next (counted f.piece t) (surveyed_from n area (n - (passed + 1)))
  surveyed_ok f e = surveyed_on ∙ ap (λ r. going r t (surveyed_from n area (n - (passed + 1)))) (sym e)

  pub surveyed_end : (f : Descriptor) → Ok f ≡ described area d t → f.next ≡ None → surveyed_from n area (n - passed) d t ≡ Ok (counted f.piece t)
  surveyed_end f e o = surveyed_ok f e ∙ ap (λ o. totalled o (counted f.piece t) (surveyed_from n area (n - (passed + 1)))) o

  pub surveyed_next : (f : Descriptor) (m : ℕ) → Ok f ≡ described area d t → f.next ≡ Some m
      → surveyed_from n area (n - passed) d t ≡ surveyed_from n area (n - (passed + 1)) m (counted f.piece t)
  surveyed_next f m e o = surveyed_ok f e ∙ ap (λ o. totalled o (counted f.piece t) (surveyed_from n area (n - (passed + 1)))) o
