-- Facts on lists of views, and on what seats know.
use Rattle.std.proofs.Common.{◌≡◌, ℕ, zero, suc, ◌+◌, ◌<◌, ◌≤◌, ◌≢◌, List, [], ◌∷◌, ◌++◌, length, set, sym, refl, ap, subst, ◌∙◌, arith, Bool, true, false, cond, eq-eqb, le-ltb}
use mathlib.Core.Option.{some, some-ne-none}
use mathlib.Core.Logic.{dite}
use native.Mathlib.Decide.{dec_le}
use lib.ListN.{get_elem?}
use Rattle.std.proofs.lemmas.Bool.Decides.{nat_tests}
use Rattle.vi_log.specs.Logs.{Stands, once_below}
use Rattle.vi_lines.specs.Value.{ScriptValue}
use Rattle.vi_model.specs.Worlds.{World}
use Rattle.vi_turns.specs.Holding.{Held, TheControl, ThePage, Taken}
use Rattle.vi_turns.specs.Views.{total, same, number_count}
use Rattle.vi_turns.specs.Order.{Each, slot_of, Has, IsTaken, Knows}
use Rattle.vi_turns.specs.declared.view.View.{View}
use Rattle.vi_turns.proofs.Actors.{Goes}
use Rattle.vi_turns.proofs.Getting.{get_within}

module _ {A : Type 0} where
  pub each_map : (P Q : A → Type 0) → ((x : A) → P x → Q x) → (xs : List A) → Each P xs → Each Q xs
  each_map P Q f [] e = tt
  each_map P Q f (x ∷ xs) e = (f x e.0, each_map P Q f xs e.1)

  pub each_both : (P Q R : A → Type 0) → ((x : A) → P x → Q x → R x) → (xs : List A) → Each P xs → Each Q xs → Each R xs
  each_both P Q R f [] d e = tt
  each_both P Q R f (x ∷ xs) d e = (f x d.0 e.0, each_both P Q R f xs d.1 e.1)

  pub each_append : (P : A → Type 0) (xs ys : List A) → Each P xs → Each P ys → Each P (xs ++ ys)
  each_append P [] ys d e = e
  each_append P (x ∷ xs) ys d e = (d.0, each_append P xs ys d.1 e)

  -- a sum that is 0 has each term 0
  pub each_zero : (g : A → ℕ) (xs : List A) → total g xs ≡ 0 → Each (λ x. g x ≡ 0) xs
  each_zero g [] e = tt
  each_zero g (x ∷ xs) e = (omega arith, each_zero g xs (omega arith))

  pub set_there : (l : List A) (i : ℕ) (a b : A) → get_elem? l i ≡ some a → get_elem? (set l i b) i ≡ some b
  set_there [] i a b e = absurd (some-ne-none a (sym e))
  set_there (x ∷ xs) zero a b e = refl
  set_there (x ∷ xs) (suc i) a b e = set_there xs i a b e

  pub total_append : (g : A → ℕ) (xs ys : List A) → total g (xs ++ ys) ≡ total g xs + total g ys
  total_append g [] ys = omega arith
  total_append g (x ∷ xs) ys = let r = total_append g xs ys in omega arith

  -- a sum with one term changed
  pub total_set : (g : A → ℕ) (l : List A) (i : ℕ) (a b : A) → get_elem? l i ≡ some a → total g (set l i b) + g a ≡ total g l + g b
  total_set g [] i a b e = absurd (some-ne-none a (sym e))
  total_set g (x ∷ xs) zero a b e = let is = ap g (mathlib.Core.Option.some-injective x a e) in omega arith
  total_set g (x ∷ xs) (suc i) a b e = let r = total_set g xs i a b e in omega arith

  pub term_le : (g : A → ℕ) (l : List A) (i : ℕ) (a : A) → get_elem? l i ≡ some a → g a ≤ total g l
  term_le g [] i a e = absurd (some-ne-none a (sym e))
  term_le g (x ∷ xs) zero a e = let is = ap g (mathlib.Core.Option.some-injective x a e) in omega arith
  term_le g (x ∷ xs) (suc i) a e = let r = term_le g xs i a e in omega arith

  pub terms_le : (g : A → ℕ) (l : List A) (i j : ℕ) (a b : A) → j ≢ i → get_elem? l i ≡ some a → get_elem? l j ≡ some b → g a + g b ≤ total g l
  terms_le g [] i j a b ne e f = absurd (some-ne-none a (sym e))
  terms_le g (x ∷ xs) zero zero a b ne e f = absurd (ne refl)
  terms_le g (x ∷ xs) zero (suc j) a b ne e f = let is = ap g (mathlib.Core.Option.some-injective x a e) in let r = term_le g xs j b f in omega arith
  terms_le g (x ∷ xs) (suc i) zero a b ne e f = let is = ap g (mathlib.Core.Option.some-injective x b f) in let r = term_le g xs i a e in omega arith
  terms_le g (x ∷ xs) (suc i) (suc j) a b ne e f = let r = terms_le g xs i j a b (λ d. ne (ap suc d)) e f in omega arith

pub same_not : (x y : ℕ) → same x y ≡ 0 → y ≢ x
same_not x y e is = let one : same x y ≡ 1 = ap (λ b. cond b 1 0) (eq-eqb y x is) in absurd (omega arith)

pub same_is : (x : ℕ) → same x x ≡ 1
same_is x = ap (λ b. cond b 1 0) (eq-eqb x x refl)

pub once_most : (x n : ℕ) → once_below x n ≤ 1
once_most x n = go (Rattle.std.proofs.Common.ltb x n)
  where
    go : (b : Bool) → cond b 1 0 ≤ 1
    go true = omega arith
    go false = omega arith

pub once_inside : (x n : ℕ) → 1 ≤ once_below x n → x < n
once_inside x n h = dite (dec_le n x) (λ le. let z : once_below x n ≡ 0 = ap (λ b. cond b 1 0) (le-ltb x n le) in absurd (omega arith)) (λ not. omega arith)

-- a live pass counts its number, beside those that it took in
pub live_count : (x : ℕ) (v : View) → v.live ≡ true → v.number ≡ x → 1 + total (λ (t : Taken). same x t.number) v.taken ≡ number_count x v
live_count x v live is = let one : cond v.live (same x v.number) 0 ≡ 1 = ap (λ b. cond b (same x v.number) 0) live ∙ (ap (λ n. same x n) is ∙ same_is x) in omega arith

-- what is known of the passes that a view took in stays so, where none of them is the one whose actor differs
pub taken_goes : (s : ScriptValue) (w y : World) (number : ℕ) → Goes s w y number → (t : Taken) → t.number ≢ number → IsTaken s w t → IsTaken s y t
taken_goes s w y number g t ne k = record {
  log = each_map (Stands w.history) (Stands y.history) g.history t.log k.log;
  actor = g.others t.number (record { leases = []; progress = t.progress }) ne k.actor;
}

pub all_taken_goes : (s : ScriptValue) (w y : World) (number : ℕ) (ts : List Taken) → Goes s w y number → total (λ (t : Taken). same number t.number) ts ≡ 0 → Each (IsTaken s w) ts → Each (IsTaken s y) ts
all_taken_goes s w y number ts g zeros all =
    each_both (λ (t : Taken). same number t.number ≡ 0) (IsTaken s w) (IsTaken s y) (λ t z k. taken_goes s w y number g t (same_not number t.number z) k) ts (each_zero (λ (t : Taken). same number t.number) ts zeros) all

-- what a pass knows stays so, where it isn't the one whose actor differs
pub knows_goes : (s : ScriptValue) (w y : World) (number : ℕ) (u : View) → Goes s w y number → number_count number u ≡ 0 → Knows s w u → Knows s y u
knows_goes s w y number u g zeros k = record {
  script = k.script;
  log = each_map (Stands w.history) (Stands y.history) g.history u.log k.log;
  taken = all_taken_goes s w y number u.taken g (omega arith) k.taken;
  actor = λ live. g.others u.number u.actor (same_not number u.number (let z : cond u.live (same number u.number) 0 ≡ 0 = omega arith in subst (λ b. cond b (same number u.number) 0 ≡ 0) live z)) (k.actor live);
  seen = let a = k.seen in let b = g.longer in omega arith;
  above = k.above;
  spent = k.spent;
}

-- one number more stands below
pub once_step : (x n : ℕ) → once_below x (n + 1) ≡ once_below x n + same x n
once_step x n = grind (arith, nat_tests)

-- the slot of a value of the world is one of the table's
pub slot_inside : (w : World) (x : Held) → Has w x → slot_of x < length w.pages + 1
slot_inside w (TheControl c) h = omega arith
slot_inside w (ThePage page bytes) h = let l = get_within w.pages page bytes h in omega arith
