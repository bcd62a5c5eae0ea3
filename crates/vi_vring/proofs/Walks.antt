-- The walk along a chain, step by step.
use Rattle.std.proofs.Common.{◌≡◌, ℕ, suc, ◌+◌, ◌-◌, ◌<◌, ◌≤◌, Bool, true, false, nat_le, nat_lt, List, [], ◌∷◌, ◌++◌, length, Some, None, Result, Ok, Err, IsOk, is_ok, refl, ap, sym, ◌∙◌, arith}
use Rattle.std.specs.Prelude.{if◌then◌else◌}
use Rattle.std.proofs.lemmas.Bool.{or_parts, ltb-false}
use Rattle.std.proofs.lemmas.Bool.Decides.{nat_tests}
use Rattle.std.proofs.lemmas.List.Sums.{sum_by_push}
use Rattle.std.proofs.lemmas.List.Elements.{All-nil, All-push}
use Rattle.vi_vring.specs.declared.chain.Break.{Break}
use Rattle.vi_vring.specs.declared.chain.Break.TheVariants.{Outside, Indirect, Mixed, Memory}
use Rattle.vi_vring.specs.declared.walking.Piece.{Piece}
use Rattle.vi_vring.specs.declared.walking.Descriptor.{Descriptor}
use Rattle.vi_vring.specs.Shown.{has_flag, piece_at, next_at, is_mixed, described, followed, onward, walked, shown, totals_of, Fits, passes_memory, read_total, write_total, part_total}

pub shown_start : (n : ℕ) (area : List ℕ) (head : ℕ) (pieces : List Piece) → pieces ≡ [] → walked n area (n - 0) head pieces ≡ shown n area head
unfolding shown
shown_start n area head pieces e = let z : n - 0 ≡ n = omega arith in rw (e, z) refl

-- one descriptor on
walked_suc : (n : ℕ) (area : List ℕ) (rest d : ℕ) (before : List Piece) → d < n
    → walked n area (suc rest) d before ≡ onward (described area d (totals_of before)) before (walked n area rest)
walked_suc n area rest d before lt = go (nat_le n d) (grind (arith, nat_tests))
  where
    go : (b : Bool) → b ≡ false → (if b then Err Outside else onward (described area d (totals_of before)) before (walked n area rest)) ≡ onward (described area d (totals_of before)) before (walked n area rest)
    go true f = absurd cc
    go false f = refl

pub walked_on : (n : ℕ) (area : List ℕ) (passed d : ℕ) (before : List Piece) → passed < n → d < n
    → walked n area (n - passed) d before ≡ onward (described area d (totals_of before)) before (walked n area (n - (passed + 1)))
walked_on n area passed d before p lt = let e : n - passed ≡ suc (n - (passed + 1)) = omega arith in rw e (walked_suc n area (n - (passed + 1)) d before lt)

-- what a descriptor leads to, as it was read behind the pieces so far
module _ (n : ℕ) (area : List ℕ) (passed d : ℕ) (before : List Piece) (p : passed < n) (lt : d < n) where
  walked_ok : (f : Descriptor) → Ok f ≡ described area d (totals_of before)
      → walked n area (n - passed) d before ≡ followed f.next (before ++ f.piece ∷ []) (walked n area (n - (passed + 1)))
  walked_ok f e = walked_on n area passed d before p lt ∙ ap (λ r. onward r before (walked n area (n - (passed + 1)))) (sym e)

  pub walked_end : (f : Descriptor) → Ok f ≡ described area d (totals_of before) → f.next ≡ None → walked n area (n - passed) d before ≡ Ok (before ++ f.piece ∷ [])
  walked_end f e o = walked_ok f e ∙ ap (λ o. followed o (before ++ f.piece ∷ []) (walked n area (n - (passed + 1)))) o

  pub walked_next : (f : Descriptor) (m : ℕ) → Ok f ≡ described area d (totals_of before) → f.next ≡ Some m
      → walked n area (n - passed) d before ≡ walked n area (n - (passed + 1)) m (before ++ f.piece ∷ [])
  walked_next f m e o = walked_ok f e ∙ ap (λ o. followed o (before ++ f.piece ∷ []) (walked n area (n - (passed + 1)))) o

-- a descriptor that breaks nothing
pub cascade : (indirect mixed memory : Bool) (d : Descriptor) → indirect ≡ false → mixed ≡ false → memory ≡ false
    → (if indirect then Err Indirect else if mixed then Err Mixed else if memory then Err Memory else Ok d) ≡ Ok d
cascade true m y d = λ p q r. absurd cc
cascade false true y d = λ p q r. absurd cc
cascade false false true d = λ p q r. absurd cc
cascade false false false d = λ p q r. refl

-- a chain without a break has none at its next descriptor
breaks_nothing : (indirect mixed memory : Bool) (d : Descriptor) (before : List Piece) (rest : ℕ → List Piece → Result (List Piece) Break)
    → IsOk (onward (if indirect then Err Indirect else if mixed then Err Mixed else if memory then Err Memory else Ok d) before rest)
    → (indirect ≡ false) × (mixed ≡ false) × (memory ≡ false)
breaks_nothing true m y d before rest ok = absurd cc
breaks_nothing false true y d before rest ok = absurd cc
breaks_nothing false false true d before rest ok = absurd cc
breaks_nothing false false false d before rest ok = (refl, refl, refl)

abbrev pub descriptor_of : ℕ → List ℕ → Descriptor
descriptor_of d area = record { piece = piece_at d area; next = next_at d area }

pub record GoesOn (n : ℕ) (area : List ℕ) (d : ℕ) (before : List Piece) : Type 0 where
  pub table : d < n
  pub memory : passes_memory area (piece_at d area) (totals_of before) ≡ false
  pub described : Ok (descriptor_of d area) ≡ described area d (totals_of before)

whole_suc : (n : ℕ) (area : List ℕ) (left d : ℕ) (before : List Piece) → IsOk (walked n area (suc left) d before) → GoesOn n area d before
whole_suc n area left d before = go (nat_le n d) refl
  where
    go : (b : Bool) → nat_le n d ≡ b → IsOk (if b then Err Outside else onward (described area d (totals_of before)) before (walked n area left)) → GoesOn n area d before
    go true e ok = absurd cc
    go false e ok =
        let piece = piece_at d area in
        let none = breaks_nothing (has_flag 4 d area) (is_mixed piece (totals_of before)) (passes_memory area piece (totals_of before)) (descriptor_of d area) before (walked n area left) ok in
        record {
          table = grind (arith, nat_tests);
          memory = none.2;
          described = sym (cascade (has_flag 4 d area) (is_mixed piece (totals_of before)) (passes_memory area piece (totals_of before)) (descriptor_of d area) none.0 none.1 none.2);
        }

pub whole_on : (n : ℕ) (area : List ℕ) (passed d : ℕ) (before : List Piece) → passed < n → IsOk (walked n area (n - passed) d before) → GoesOn n area d before
whole_on n area passed d before p ok =
    let e : n - passed ≡ suc (n - (passed + 1)) = omega arith in
    whole_suc n area (n - (passed + 1)) d before (ap (λ k. is_ok (walked n area k d before)) (sym e) ∙ ok)

pub Fits_none : (area : List ℕ) (pieces : List Piece) → pieces ≡ [] → Fits area pieces
Fits_none area pieces e = rw e (record { within = All-nil (λ (q : Piece). q.address + q.len ≤ length area); readable = omega arith; writable = omega arith })

-- a piece that doesn't pass the memory fits behind those before it
fits_by : (b : Bool) (r w l : ℕ) → r ≤ 1024 → w ≤ 1024 → (if b then w else r) + l ≤ 1024 → (r + (if b then 0 else l) ≤ 1024) × (w + (if b then l else 0) ≤ 1024)
fits_by true r w l p q h = (omega arith, omega arith)
fits_by false r w l p q h = (omega arith, omega arith)

pub Fits_push : (area : List ℕ) (p : Piece) (before : List Piece) → Fits area before → passes_memory area p (totals_of before) ≡ false → Fits area (before ++ p ∷ [])
Fits_push area p before f e =
    let parts = or_parts (nat_lt (length area) (p.address + p.len)) (nat_lt 1024 (part_total p (totals_of before) + p.len)) e in
    let totals = fits_by p.writes (read_total before) (write_total before) p.len f.readable f.writable (ltb-false 1024 (part_total p (totals_of before) + p.len) parts.1) in
    let reads = sum_by_push (λ (q : Piece). if q.writes then 0 else q.len) before p in
    let writes = sum_by_push (λ (q : Piece). if q.writes then q.len else 0) before p in
    record {
      within = All-push (λ (q : Piece). q.address + q.len ≤ length area) before p f.within (ltb-false (length area) (p.address + p.len) parts.0);
      readable = omega (arith, reads, totals.0);
      writable = omega (arith, writes, totals.1);
    }
