-- What a grant and a removal keep of a row.
use Rattle.std.proofs.Common.{◌≡◌, ◌==◌, ℕ, ◌+◌, ◌-◌, ◌≤◌, ◌<◌, Bool, true, false, cond, not, List, [], ◌∷◌, ◌++◌, All, Option, Some, None, is_some, IsNone, length, replicate, refl, arith}
use Rattle.std.specs.List.{filter}
use Rattle.std.proofs.lemmas.List.Elements.{All-nil, All-filter, All-push, All-replicate}
use Rattle.std.proofs.lemmas.List.Folds.{find-append}
use Rattle.std.proofs.lemmas.Bool.Decides.{nat_tests}
use Rattle.vi_bytes.specs.Leases.{IsLease, HasPage}
use Rattle.vi_bytes.specs.declared.lease.Lease.{Lease}
use Rattle.vi_grants.specs.declared.row.Grant.{Grant}
use Rattle.vi_grants.specs.Rows.{GrantRow, IsGrant, IsRow, AreDistinct, HasRoom, grant_of, others, granted, empty_row}
use Rattle.vi_grants.proofs.Finds.{find_none-filter, find-filter_not, length-filter-le, length-filter_not-lt}

eq-comm : (a b : ℕ) → (a == b) ≡ false → (b == a) ≡ false
eq-comm a b e = grind (arith, nat_tests)

pub AreDistinct-filter : (q : Grant → Bool) (gs : List Grant) → AreDistinct gs → AreDistinct (filter q gs)
AreDistinct-filter q [] h = h
AreDistinct-filter q (g ∷ gs) h =
    let rest = AreDistinct-filter q gs h.1 in
    elim (q g) as (λ b. AreDistinct (cond b (g ∷ filter q gs) (filter q gs))) [ true ↦ (find_none-filter (λ x. x.asked == g.asked) q gs h.0, rest) | false ↦ rest ]

grant_of-push : (asked : ℕ) (gs : List Grant) (g : Grant) → grant_of asked gs ≡ None → (g.asked == asked) ≡ false → grant_of asked (gs ++ g ∷ []) ≡ None
grant_of-push asked gs g none other = rw (find-append (λ x. x.asked == asked) gs (g ∷ []), none, other) refl

pub AreDistinct-push : (gs : List Grant) (g : Grant) → AreDistinct gs → grant_of g.asked gs ≡ None → AreDistinct (gs ++ g ∷ [])
AreDistinct-push [] g h none = (refl, tt)
AreDistinct-push (x ∷ xs) g h none = go (x.asked == g.asked) refl none (AreDistinct-push xs g h.1) where
  go : (b : Bool) → (x.asked == g.asked) ≡ b → cond b (Some x) (grant_of g.asked xs) ≡ None → (grant_of g.asked xs ≡ None → AreDistinct (xs ++ g ∷ [])) → AreDistinct (x ∷ (xs ++ g ∷ []))
  go true e n rest = cc
  go false e n rest = (grant_of-push x.asked xs g h.0 (eq-comm x.asked g.asked e), rest n)

pub IsRow-empty : (spare : ℕ) → IsRow (empty_row spare)
IsRow-empty spare = record { grants_each = All-nil IsGrant; distinct = tt }

pub IsRow-replicate : (n spare : ℕ) → All IsRow (replicate n (empty_row spare))
IsRow-replicate n spare = All-replicate IsRow n (empty_row spare) (IsRow-empty spare)

-- the spare places don't matter
pub IsRow-filter : (q : Grant → Bool) (row : GrantRow) (spare : ℕ) → IsRow row → IsRow (record { grants = filter q row.grants; spare = spare })
IsRow-filter q row spare h = record { grants_each = All-filter q IsGrant row.grants h.grants_each; distinct = AreDistinct-filter q row.grants h.distinct }

pub IsRow-granted : (asked : ℕ) (l : Lease) (row : GrantRow) (spare : ℕ) → IsRow row → IsLease l → HasPage l asked → IsRow (record (granted asked l row) { spare = spare })
IsRow-granted asked l row spare h lease has =
    let g : Grant = record { asked = asked; lease = l } in
    record {
      grants_each = All-push IsGrant (others asked row.grants) g (All-filter (λ x. not (x.asked == asked)) IsGrant row.grants h.grants_each) (record { lease = lease; has_asked = has });
      distinct = AreDistinct-push (others asked row.grants) g (AreDistinct-filter (λ x. not (x.asked == asked)) row.grants h.distinct) (find-filter_not (λ x. x.asked == asked) row.grants);
    }

-- grants and room are together no more than before
pub room-granted : (asked : ℕ) (row : GrantRow) (most : ℕ) → length row.grants + row.spare ≤ most → HasRoom asked row → length (others asked row.grants) + 1 + cond (is_some (grant_of asked row.grants)) row.spare (row.spare - 1) ≤ most
room-granted asked row most fits room = go (grant_of asked row.grants) (length-filter_not-lt (λ x. x.asked == asked) row.grants) room (length-filter-le (λ x. not (x.asked == asked)) row.grants) where
  go : (o : Option Grant) → (is_some o ≡ true → length (others asked row.grants) < length row.grants) → (IsNone o → 1 ≤ row.spare) → length (others asked row.grants) ≤ length row.grants → length (others asked row.grants) + 1 + cond (is_some o) row.spare (row.spare - 1) ≤ most
  go None shorter some le = let s : 1 ≤ row.spare = some refl in omega arith
  go (Some g) shorter some le = let s : length (others asked row.grants) < length row.grants = shorter refl in omega arith
