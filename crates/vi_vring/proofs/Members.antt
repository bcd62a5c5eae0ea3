-- What each note of a list meets, and how its descriptors are counted.
use Rattle.std.proofs.Common.{◌≡◌, ℕ, ◌+◌, ◌<◌, ◌≤◌, Bool, true, false, List, [], ◌∷◌, ◌++◌, Option, Some, None, find, min, refl, ap, subst, arith}
use Rattle.std.specs.Prelude.{if◌then◌else◌}
use Rattle.std.proofs.lemmas.Bool.Decides.{nat_tests}
use Rattle.vi_vring.specs.declared.note.Note.{Note}
use Rattle.vi_vring.specs.Notes.{NoteLists, has_head, without, is_double, tally_all, one, uses, Whole, noted_add, noted_pop, noted_push, noted_read, noted_collect, popped_if, popped_first, returned, read_back, freed}
use Rattle.vi_vring.specs.Tied.{Each, IsNote, Proper}

pub Each-append : (P : Note → Type 0) (xs ys : List Note) → Each P xs → Each P ys → Each P (xs ++ ys)
Each-append P [] ys p q = q
Each-append P (x ∷ xs) ys p q = (p.0, Each-append P xs ys p.1 q)

pub Each-push : (P : Note → Type 0) (xs : List Note) (y : Note) → Each P xs → P y → Each P (xs ++ y ∷ [])
Each-push P xs y p q = Each-append P xs (y ∷ []) p (q, tt)

pub Each-without : (P : Note → Type 0) (head : ℕ) (xs : List Note) → Each P xs → Each P (without head xs)
Each-without P head [] p = tt
Each-without P head (x ∷ xs) p = go (has_head head x) (Each-without P head xs p.1)
  where
    go : (b : Bool) → Each P (without head xs) → Each P (if b then xs else x ∷ without head xs)
    go true q = p.1
    go false q = (p.0, q)

pub Each-find : (P : Note → Type 0) (head : ℕ) (xs : List Note) (x : Note) → find (has_head head) xs ≡ Some x → Each P xs → P x
Each-find P head [] x e p = absurd cc
Each-find P head (y ∷ ys) x e p = go (has_head head y) e (λ f. Each-find P head ys x f p.1)
  where
    go : (b : Bool) → (if b then Some y else find (has_head head) ys) ≡ Some x → (find (has_head head) ys ≡ Some x → P x) → P x
    go true f k = let s : y ≡ x = cc in subst P s p.0
    go false f k = k f

-- the lengths stay through the moves
module _ (r w : ℕ) (v : NoteLists) (p : Proper r w v) where
  pub proper_add : (note : Note) → IsNote r w note → Proper r w (noted_add note v)
  proper_add note q = record { available = Each-push (IsNote r w) v.available note p.available q; popped = p.popped; unread = p.unread; uncollected = p.uncollected }

  pub proper_pop : (head : ℕ) → Proper r w (noted_pop head v)
  proper_pop head = go v.available refl
    where
      moved : (x : Note) (xs : List Note) → v.available ≡ x ∷ xs → (b : Bool) → Proper r w (popped_if b x xs v)
      moved x xs e true =
          let q : Each (IsNote r w) (x ∷ xs) = subst (λ ys. Each (IsNote r w) ys) e p.available in
          record { available = q.1; popped = Each-push (IsNote r w) v.popped x p.popped q.0; unread = p.unread; uncollected = p.uncollected }
      moved x xs e false = p

      go : (av : List Note) → v.available ≡ av → Proper r w (popped_first head av v)
      go [] e = p
      go (x ∷ xs) e = moved x xs e (has_head head x)

  pub proper_push : (head len : ℕ) → Proper r w (noted_push head len v)
  proper_push head len = go (find (has_head head) v.popped) refl
    where
      go : (o : Option Note) → find (has_head head) v.popped ≡ o → Proper r w (returned head len o v)
      go None e = p
      go (Some x) e =
          let q = Each-find (IsNote r w) head v.popped x e p.popped in
          record {
            available = p.available;
            popped = Each-without (IsNote r w) head v.popped p.popped;
            unread = Each-push (IsNote r w) v.unread (record x { len = min len x.write }) p.unread (record { readable = q.readable; writable = q.writable; some = q.some; returned = omega arith; single = q.single });
            uncollected = p.uncollected;
          }

  pub proper_read : (head len : ℕ) → Proper r w (noted_read head len v)
  proper_read head len = go (find (has_head head) v.unread) refl
    where
      go : (o : Option Note) → find (has_head head) v.unread ≡ o → Proper r w (read_back head len o v)
      go None e = p
      go (Some x) e =
          let q = Each-find (IsNote r w) head v.unread x e p.unread in
          record {
            available = p.available;
            popped = p.popped;
            unread = Each-without (IsNote r w) head v.unread p.unread;
            uncollected = Each-push (IsNote r w) v.uncollected (record x { len = min len x.write }) p.uncollected (record { readable = q.readable; writable = q.writable; some = q.some; returned = omega arith; single = q.single });
          }

  pub proper_collect : (head : ℕ) → Proper r w (noted_collect head v)
  proper_collect head = go (find (has_head head) v.uncollected) refl
    where
      go : (o : Option Note) → find (has_head head) v.uncollected ≡ o → Proper r w (freed head o v)
      go None e = p
      go (Some x) e = record { available = p.available; popped = p.popped; unread = p.unread; uncollected = Each-without (IsNote r w) head v.uncollected p.uncollected }

pub one_same : (d : ℕ) → one d d ≡ 1
one_same d = grind (arith, nat_tests)

-- a chain counts its own descriptors
pub uses_head : (x : Note) → 1 ≤ uses x.head x
uses_head x = omega (arith, one_same x.head)

pub uses_tail : (r w : ℕ) (x : Note) → IsNote r w x → 1 ≤ uses x.tail x
uses_tail r w x p = go (is_double x.read x.write) refl
  where
    go : (b : Bool) → is_double x.read x.write ≡ b → 1 ≤ one x.tail x.head + (if b then one x.tail x.tail else 0)
    go true e = omega (arith, one_same x.tail)
    go false e = let s = ap (λ d. one d x.head) (p.single e) in omega (arith, s, one_same x.head)

-- the descriptors of a counted chain lie in the table
pub below_size : (r w : ℕ) (v : NoteLists) (x : Note) → Whole v → IsNote r w x → ((d : ℕ) → uses d x ≤ tally_all (uses d) v) → (x.head < v.size) × (x.tail < v.size)
below_size r w v x q p le = (
  q.below x.head (omega (arith, uses_head x, le x.head)),
  q.below x.tail (omega (arith, uses_tail r w x p, le x.tail)),
)
