-- What marks tell of grants.
use Rattle.std.proofs.Common.{◌≡◌, ◌==◌, ℕ, ◌<◌, Bool, true, false, cond, not, List, [], ◌∷◌, ◌++◌, None, Some, length, get_or, set, length-set, refl, sym, ap, ◌∙◌, arith}
use Rattle.std.specs.List.{filter}
use Rattle.std.proofs.Math.Nat.{mod-lt}
use Rattle.std.proofs.lemmas.Bool.{eqb-true}
use Rattle.std.proofs.lemmas.List.{get_or-set_same, get_or-set_other}
use Rattle.std.proofs.lemmas.List.Elements.{All-head, All-tail, All-push, All-filter}
use Rattle.std.proofs.lemmas.Bool.Decides.{nat_tests}
use Rattle.vi_grants.specs.declared.row.Grant.{Grant}
use Rattle.vi_grants.specs.Rows.{grant_of, others}
use Rattle.vi_grants.specs.Marks.{slot_of, is_marked, marked, AreMarked}

module _ (marks : List Bool) (some : 0 < length marks) where
  slot_within : (page : ℕ) → slot_of page (length marks) < length marks
  slot_within page = mod-lt page some

  -- what is read after a mark, at the old count of places
  read_after : (a b : ℕ) → is_marked a (marked b marks) ≡ get_or (set marks (slot_of b (length marks)) true) (slot_of a (length marks)) false
  read_after a b = ap (λ n. get_or (set marks (slot_of b (length marks)) true) (slot_of a n) false) (length-set marks (slot_of b (length marks)) true)

  is_marked-own : (page : ℕ) → is_marked page (marked page marks) ≡ true
  is_marked-own page = read_after page page ∙ get_or-set_same marks (slot_of page (length marks)) true false (slot_within page)

  is_marked-more : (a b : ℕ) → is_marked a marks ≡ true → is_marked a (marked b marks) ≡ true
  is_marked-more a b h = read_after a b ∙ go (slot_of a (length marks) == slot_of b (length marks)) refl where
    go : (same : Bool) → (slot_of a (length marks) == slot_of b (length marks)) ≡ same → get_or (set marks (slot_of b (length marks)) true) (slot_of a (length marks)) false ≡ true
    go true e =
        let one : slot_of a (length marks) ≡ slot_of b (length marks) = eqb-true (slot_of a (length marks)) (slot_of b (length marks)) e in
        ap (λ i. get_or (set marks (slot_of b (length marks)) true) i false) one ∙ get_or-set_same marks (slot_of b (length marks)) true false (slot_within b)
    go false e = get_or-set_other marks (slot_of b (length marks)) (slot_of a (length marks)) true false (λ one. grind (arith, nat_tests)) ∙ h

  pub AreMarked-push : (grants : List Grant) (g : Grant) → AreMarked marks grants → AreMarked (marked g.asked marks) (grants ++ g ∷ [])
  AreMarked-push grants g h =
      All-push (λ (x : Grant). is_marked x.asked (marked g.asked marks) ≡ true) grants g
      (λ k d below. is_marked-more _ g.asked (h k d below)) (is_marked-own g.asked)

pub AreMarked-filter : (marks : List Bool) (q : Grant → Bool) (grants : List Grant) → AreMarked marks grants → AreMarked marks (filter q grants)
AreMarked-filter marks q grants h = All-filter q (λ (g : Grant). is_marked g.asked marks ≡ true) grants h

-- a page whose place has no mark was asked for in none of them
pub unmarked_none : (marks : List Bool) (page : ℕ) (grants : List Grant) → AreMarked marks grants → is_marked page marks ≡ false → grant_of page grants ≡ None
unmarked_none marks page [] h none = refl
unmarked_none marks page (g ∷ gs) h none = go (g.asked == page) refl (unmarked_none marks page gs (All-tail (λ (x : Grant). is_marked x.asked marks ≡ true) g gs h) none) where
  go : (b : Bool) → (g.asked == page) ≡ b → grant_of page gs ≡ None → cond b (Some g) (grant_of page gs) ≡ None
  go true e rest =
      let one : g.asked ≡ page = eqb-true g.asked page e in
      let own : is_marked page marks ≡ true = sym (ap (λ a. is_marked a marks) one) ∙ All-head (λ (x : Grant). is_marked x.asked marks ≡ true) g gs h in
      absurd cc
  go false e rest = rest

-- and then all are for other pages
pub others-none : (page : ℕ) (grants : List Grant) → grant_of page grants ≡ None → others page grants ≡ grants
others-none page [] h = refl
others-none page (g ∷ gs) h = go (g.asked == page) h (others-none page gs) where
  go : (b : Bool) → cond b (Some g) (grant_of page gs) ≡ None → (grant_of page gs ≡ None → others page gs ≡ gs) → cond (not b) (g ∷ others page gs) (others page gs) ≡ g ∷ gs
  go true none rest = cc
  go false none rest = ap (λ (xs : List Grant). g ∷ xs) (rest none)
