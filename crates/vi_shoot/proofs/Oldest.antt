-- The oldest removal that waits for a back end.
use Rattle.std.proofs.Common.{Option, IsTrue, IsNone, IfSome, is_some, ◌↔◌, ◌≡◌, ℕ, zero, suc, ◌<◌, Bool, true, false, cond, ◌||◌, ◌&&◌, eqb, List, [], ◌∷◌, Some, None, length, get_or, set, refl, ap, ◌∙◌, sym, arith, eq-eqb}
use Rattle.std.specs.List.{position, find, list_any}
use Rattle.std.specs.Option.{option_map}
use Rattle.std.proofs.lemmas.Bool.{or_right}
use Rattle.std.proofs.lemmas.List.Quantifiers.{position-Some}
use Rattle.vi_shoot.specs.declared.ops.Op.{Op}
use Rattle.vi_shoot.specs.Reaches.{reach_of, IsProperReach}
use Rattle.vi_shoot.specs.Removals.{AreOpen, waits_for, is_ready, is_closable, has_number, number_of, acknowledged, acked, AreNumbered}

pub acked_here : (place i : ℕ) (ops : List Op) (d : Op) → i < length ops → waits_for place (get_or ops i d) ≡ true → ((j : ℕ) → j < i → waits_for place (get_or ops j d) ≡ false)
    → acked place ops ≡ set ops i (acknowledged place (get_or ops i d))
acked_here place i [] d lt here before = absurd (omega (arith, lt))
acked_here place zero (op ∷ ops) d lt here before = rw here refl
acked_here place (suc i) (op ∷ ops) d lt here before =
    let not_op : waits_for place op ≡ false = before 0 (omega arith) in
    rw not_op (ap (λ rest. op ∷ rest) (acked_here place i ops d (omega (arith, lt)) here (λ j below. before (suc j) (omega (arith, below)))))

pub acked_position : (place i : ℕ) (ops : List Op) (d : Op) → position (λ op. waits_for place op) ops ≡ Some i → acked place ops ≡ set ops i (acknowledged place (get_or ops i d))
acked_position place i ops d at = let first = position-Some (λ (op : Op). waits_for place op) ops i d at in acked_here place i ops d first.0 first.1 first.2

-- an acknowledgement leaves the numbers and the reaches
has_number-acked : (n place : ℕ) (ops : List Op) → has_number n (acked place ops) ≡ has_number n ops
has_number-acked n place [] = refl
has_number-acked n place (op ∷ ops) = go (waits_for place op) (has_number-acked n place ops)
  where
    go : (b : Bool) → has_number n (acked place ops) ≡ has_number n ops → has_number n (cond b (acknowledged place op ∷ ops) (op ∷ acked place ops)) ≡ (eqb op.number n || has_number n ops)
    go true rest = refl
    go false rest = ap (λ b. eqb op.number n || b) rest

pub AreNumbered-acked : (place : ℕ) (ops : List Op) → AreNumbered ops → AreNumbered (acked place ops)
AreNumbered-acked place [] each = each
AreNumbered-acked place (op ∷ ops) each = go (waits_for place op) (AreNumbered-acked place ops each.3)
  where
    go : (b : Bool) → AreNumbered (acked place ops) → AreNumbered (cond b (acknowledged place op ∷ ops) (op ∷ acked place ops))
    go true rest = each
    go false rest = (each.0, has_number-acked op.number place ops ∙ each.1, each.2, rest)

pub length-acked : (place : ℕ) (ops : List Op) → length (acked place ops) ≡ length ops
length-acked place [] = refl
length-acked place (op ∷ ops) = go (waits_for place op) (length-acked place ops)
  where
    go : (b : Bool) → length (acked place ops) ≡ length ops → length (cond b (acknowledged place op ∷ ops) (op ∷ acked place ops)) ≡ suc (length ops)
    go true rest = refl
    go false rest = ap suc rest

-- a removal's reach has a page
pub IsProperReach-at : (ops : List Op) (i : ℕ) (d : Op) → AreNumbered ops → i < length ops → IsProperReach (reach_of (get_or ops i d).what)
IsProperReach-at [] i d each lt = absurd (omega (arith, lt))
IsProperReach-at (op ∷ ops) zero d each lt = each.2
IsProperReach-at (op ∷ ops) (suc i) d each lt = IsProperReach-at ops i d each.3 (omega (arith, lt))

-- the first removal that waits for nobody has a number that can be closed
pub closable-first : (ops : List Op) (n : ℕ) → option_map number_of (find is_ready ops) ≡ Some n → is_closable n ops ≡ true
closable-first [] n first = absurd (cc)
closable-first (op ∷ ops) n first = go (is_ready op) refl (closable-first ops n) first
  where
    go : (b : Bool) → is_ready op ≡ b → (option_map number_of (find is_ready ops) ≡ Some n → is_closable n ops ≡ true) → option_map number_of (cond b (Some op) (find is_ready ops)) ≡ Some n → (eqb op.number n && is_ready op || is_closable n ops) ≡ true
    go true e rest first =
        let same : op.number ≡ n = cc in
        let test : eqb op.number n ≡ true = eq-eqb op.number n same in
        rw (test, e) refl
    go false e rest first = or_right (eqb op.number n && is_ready op) (is_closable n ops) (rest first)

-- and has the number of a removal
pub has_number-closable : (ops : List Op) (n : ℕ) → is_closable n ops ≡ true → has_number n ops ≡ true
has_number-closable [] n closable = absurd (cc)
has_number-closable (op ∷ ops) n closable = go (eqb op.number n) (is_ready op) (has_number-closable ops n) closable
  where
    go : (a b : Bool) → (is_closable n ops ≡ true → has_number n ops ≡ true) → (a && b || is_closable n ops) ≡ true → (a || has_number n ops) ≡ true
    go true b rest closable = refl
    go false b rest closable = rest closable

pub AreOpen-acked : (place : ℕ) (ops : List Op) → AreOpen ops → AreOpen (acked place ops)
AreOpen-acked place ops are_open = record { few = omega (arith, are_open.few, length-acked place ops); each = AreNumbered-acked place ops are_open.each }

-- the first number is there where a removal waits for nobody
pub is_some-first : (ops : List Op) → is_some (option_map number_of (find is_ready ops)) ≡ list_any is_ready ops
is_some-first [] = refl
is_some-first (op ∷ ops) = go (is_ready op) (is_some-first ops)
  where
    go : (b : Bool) → is_some (option_map number_of (find is_ready ops)) ≡ list_any is_ready ops → is_some (option_map number_of (cond b (Some op) (find is_ready ops))) ≡ (b || list_any is_ready ops)
    go true rest = refl
    go false rest = rest

pub none-first : (ops : List Op) → IsNone (option_map number_of (find is_ready ops)) ↔ (list_any is_ready ops ≡ false)
none-first ops = by_variant (option_map number_of (find is_ready ops)) (is_some-first ops)
  where
    by_variant : (o : Option ℕ) → is_some o ≡ list_any is_ready ops → IsNone o ↔ (list_any is_ready ops ≡ false)
    by_variant None e = (λ none. sym e, λ free. refl)
    by_variant (Some n) e = (λ none. absurd (cc), λ free. absurd (cc))

pub closable-if_first : (ops : List Op) (o : Option ℕ) → o ≡ option_map number_of (find is_ready ops) → IfSome o (λ n. IsTrue (is_closable n ops))
closable-if_first ops None first = tt
closable-if_first ops (Some n) first = closable-first ops n (sym first)
