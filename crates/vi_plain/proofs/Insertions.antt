-- A mapping more, by rising address: it goes behind those that begin at or below its first address.
use Rattle.std.proofs.Common.{◌≡◌, ℕ, ◌+◌, Bool, true, false, not, cond, List, [], ◌∷◌, take, drop, nat_le, nat_lt, refl, ap, arith, All}
use Rattle.std.proofs.Math.Numerals.{one-add}
use Rattle.std.proofs.lemmas.Bool.Decides.{nat_tests}
use Rattle.std.proofs.lemmas.List.Elements.{All-append, All-cons, All-take, All-drop}
use Rattle.std.specs.List.{prefix_len, insert}
use Rattle.vi_bytes.specs.Mappings.{with_mapping}
use Rattle.vi_bytes.specs.declared.lease.Mapping.{Mapping}

-- the mapping begins at this address or below it
abbrev pub begins_by : ℕ → Mapping → Bool
begins_by first x = nat_le x.span.first first

nat_lt-not : (m n : ℕ) → nat_lt m n ≡ not (nat_le n m)
nat_lt-not m n = grind (arith, nat_tests)

put : (m x : Mapping) (xs : List Mapping) (k : ℕ) (b : Bool) → with_mapping m xs ≡ insert xs k m
    → cond (not b) (m ∷ x ∷ xs) (x ∷ with_mapping m xs) ≡ insert (x ∷ xs) (cond b (1 + k) 0) m
put m x xs k true e = rw one-add (ap (λ ys. x ∷ ys) e)
put m x xs k false e = refl

pub with_mapping-insert : (m : Mapping) (xs : List Mapping) → with_mapping m xs ≡ insert xs (prefix_len (begins_by m.span.first) xs) m
with_mapping-insert m [] = refl
with_mapping-insert m (x ∷ xs) =
    rw (nat_lt-not m.span.first x.span.first) (put m x xs (prefix_len (begins_by m.span.first) xs) (nat_le x.span.first m.span.first) (with_mapping-insert m xs))

pub All-with_mapping : (P : Mapping → Type 0) (m : Mapping) (xs : List Mapping) → P m → All P xs → All P (with_mapping m xs)
All-with_mapping P m xs new old =
    let k = prefix_len (begins_by m.span.first) xs in
    rw (with_mapping-insert m xs) (All-append P (take k xs) (m ∷ drop k xs) (All-take P k xs old) (All-cons P m (drop k xs) new (All-drop P k xs old)))
