-- What stays of the notes' chains where the area changes apart from them.
use Rattle.std.proofs.Common.{◌≡◌, ◌≢◌, ℕ, suc, ◌+◌, ◌*◌, ◌/◌, ◌%◌, ◌<◌, ◌≤◌, ◌⊎◌, inl, inr, Bool, true, false, List, [], ◌∷◌, ◌++◌, length, map, Some, find, refl, ap, sym, subst, ◌∙◌, arith}
use Rattle.std.specs.Prelude.{if◌then◌else◌, ◌==◌, ◌||◌}
use Rattle.std.specs.List.{list_any}
use Rattle.std.specs.Option.{option_map}
use Rattle.std.proofs.Math.Nat.{div-add-mod, mul-le-mul_left}
use Rattle.std.proofs.lemmas.Bool.{cases_order}
use Rattle.vi_bytes.specs.Fields.{field}
use Rattle.vi_vring.specs.declared.note.Note.{Note}
use Rattle.vi_vring.specs.Layout.{descriptor_at, used_element_at, buffer_at}
use Rattle.vi_vring.specs.Writes.{bytes_at}
use Rattle.vi_vring.specs.Device.{head_at}
use Rattle.vi_vring.specs.Notes.{has_head, without, tally, uses}
use Rattle.vi_vring.specs.Values.{Queued, Used}
use Rattle.vi_vring.specs.Moves.{without_popped, without_used}
use Rattle.vi_vring.specs.Tied.{Each, IsNote, IsLaid, Entries, Elements, queued_of, used_of}
use Rattle.vi_vring.proofs.Members.{uses_head, uses_tail}

-- a chain that doesn't use a descriptor
pub not_head : (d : ℕ) (y : Note) → uses d y ≡ 0 → y.head ≢ d
not_head d y z = λ e. let h = ap (λ i. uses i y) e in absurd (omega (arith, h, z, uses_head y))

pub not_tail : (r w d : ℕ) (y : Note) → IsNote r w y → uses d y ≡ 0 → y.tail ≢ d
not_tail r w d y p z = λ e. let h = ap (λ i. uses i y) e in absurd (omega (arith, h, z, uses_tail r w y p))

-- the buffers of other descriptors stay
module _ (n r w room d : ℕ) (a b : List ℕ) (reads : r ≤ room) (writes : w ≤ room) (stay : (e k : ℕ) → e ≢ d → k ≤ room → bytes_at (buffer_at n room e) k b ≡ bytes_at (buffer_at n room e) k a) where
  pub queued_keep : (xs : List Note) → Each (IsNote r w) xs → tally (uses d) xs ≡ 0 → map (queued_of n room b) xs ≡ map (queued_of n room a) xs
  queued_keep [] p z = refl
  queued_keep (y ∷ ys) p z =
      let q : bytes_at (buffer_at n room y.head) y.read b ≡ bytes_at (buffer_at n room y.head) y.read a = stay y.head y.read (not_head d y (omega (arith, z))) (omega (arith, p.0.readable, reads)) in
      let rest = queued_keep ys p.1 (omega (arith, z)) in
      rw (q, rest) refl

  pub used_keep : (xs : List Note) → Each (IsNote r w) xs → tally (uses d) xs ≡ 0 → map (used_of n room b) xs ≡ map (used_of n room a) xs
  used_keep [] p z = refl
  used_keep (y ∷ ys) p z =
      let q : bytes_at (buffer_at n room y.tail) y.len b ≡ bytes_at (buffer_at n room y.tail) y.len a =
      stay y.tail y.len (not_tail r w d y p.0 (omega (arith, z))) (omega (arith, p.0.returned, p.0.writable, writes)) in
      let rest = used_keep ys p.1 (omega (arith, z)) in
      rw (q, rest) refl

-- the descriptors that meet a fact stay
pub laid_keep : (n room : ℕ) (a b : List ℕ) (Q : ℕ → Type 0) → ((e : ℕ) → Q e → bytes_at (descriptor_at e) 16 b ≡ bytes_at (descriptor_at e) 16 a)
    → (xs : List Note) → Each (λ y. Q y.head × Q y.tail) xs → Each (IsLaid n room a) xs → Each (IsLaid n room b) xs
laid_keep n room a b Q stay [] q l = tt
laid_keep n room a b Q stay (y ∷ ys) q l = (
  record { readable = λ e. stay y.head q.0.0 ∙ l.0.readable e; writable = λ e. stay y.tail q.0.1 ∙ l.0.writable e },
  laid_keep n room a b Q stay ys q.1 l.1,
)

-- the entries of the rings stay
pub Entries_keep : (n : ℕ) (a b : List ℕ) (i : ℕ) (xs : List Note) → ((k : ℕ) → k < length xs → head_at n b (i + k) ≡ head_at n a (i + k)) → Entries n a i xs → Entries n b i xs
Entries_keep n a b i [] stay p = tt
Entries_keep n a b i (x ∷ xs) stay p = (
  let z : i + 0 ≡ i = omega arith in subst (λ j. head_at n b j ≡ head_at n a j) z (stay 0 (omega arith)) ∙ p.0,
  Entries_keep n a b (suc i) xs (λ k lt. let z : i + suc k ≡ suc i + k = omega arith in subst (λ j. head_at n b j ≡ head_at n a j) z (stay (suc k) (omega (arith, lt)))) p.1,
)

pub Entries_push : (n : ℕ) (a : List ℕ) (i : ℕ) (xs : List Note) (y : Note) → Entries n a i xs → head_at n a (i + length xs) ≡ y.head → Entries n a i (xs ++ y ∷ [])
Entries_push n a i [] y p e = (let z : i + 0 ≡ i = omega arith in subst (λ j. head_at n a j ≡ y.head) z e, tt)
Entries_push n a i (x ∷ xs) y p e =
    (p.0, Entries_push n a (suc i) xs y p.1 (let z : i + suc (length xs) ≡ suc i + length xs = omega arith in subst (λ j. head_at n a j ≡ y.head) z e))

-- an element of the used ring: the id, and the length
pub record Same8 (n : ℕ) (a b : List ℕ) (i : ℕ) : Type 0 where
  pub id : field (used_element_at n i) 4 b ≡ field (used_element_at n i) 4 a
  pub len : field (used_element_at n i + 4) 4 b ≡ field (used_element_at n i + 4) 4 a

pub record IsElement (n : ℕ) (a : List ℕ) (i : ℕ) (y : Note) : Type 0 where
  pub id : field (used_element_at n i) 4 a ≡ y.head
  pub len : field (used_element_at n i + 4) 4 a ≡ y.len

pub Elements_keep : (n : ℕ) (a b : List ℕ) (i : ℕ) (xs : List Note) → ((k : ℕ) → k < length xs → Same8 n a b (i + k)) → Elements n a i xs → Elements n b i xs
Elements_keep n a b i [] stay p = tt
Elements_keep n a b i (x ∷ xs) stay p =
    let z : i + 0 ≡ i = omega arith in
    let here : Same8 n a b i = subst (λ j. Same8 n a b j) z (stay 0 (omega arith)) in (
      here.id ∙ p.0,
      here.len ∙ p.1,
      Elements_keep n a b (suc i) xs (λ k lt. let s : i + suc k ≡ suc i + k = omega arith in subst (λ j. Same8 n a b j) s (stay (suc k) (omega (arith, lt)))) p.2,
    )

pub Elements_push : (n : ℕ) (a : List ℕ) (i : ℕ) (xs : List Note) (y : Note) → Elements n a i xs → IsElement n a (i + length xs) y → Elements n a i (xs ++ y ∷ [])
Elements_push n a i [] y p e = let z : i + 0 ≡ i = omega arith in let here : IsElement n a i y = subst (λ j. IsElement n a j y) z e in (here.id, here.len, tt)
Elements_push n a i (x ∷ xs) y p e =
    (p.0, p.1, Elements_push n a (suc i) xs y p.2 (let z : i + suc (length xs) ≡ suc i + length xs = omega arith in subst (λ j. IsElement n a j y) z e))

-- two places fewer than n apart are two
pub places_apart : (n i k m : ℕ) → k < m → m < n → (i + k) % n ≢ (i + m) % n
places_apart n i k m lt most = λ e. go (cases_order ((i + k) / n) ((i + m) / n)) e
  where
    low : i + k ≡ n * ((i + k) / n) + (i + k) % n
    low = sym (div-add-mod (i + k) n)

    high : i + m ≡ n * ((i + m) / n) + (i + m) % n
    high = sym (div-add-mod (i + m) n)

    step : (p q : ℕ) → p < q → n * p + n ≤ n * q
    step p q h = let s : p + 1 ≤ q = omega (arith, h) in let t : n * (p + 1) ≤ n * q = mul-le-mul_left n s in omega (arith, t)

    go : ((i + k) / n ≡ (i + m) / n) ⊎ (((i + k) / n < (i + m) / n) ⊎ ((i + m) / n < (i + k) / n)) → (i + k) % n ≡ (i + m) % n → ⊥
    go (inl s) e = let t = ap (λ q. n * q) s in absurd (omega (arith, low, high, t, e, lt))
    go (inr (inl s)) e = let t = step _ _ s in absurd (omega (arith, low, high, t, e, most))
    go (inr (inr s)) e = let t = step _ _ s in absurd (omega (arith, low, high, t, e, lt))

-- the lists of contracts are searched as the notes are
module _ (n room : ℕ) (area : List ℕ) (head : ℕ) where
  pub find_queued : (xs : List Note) → find (λ (q : Queued). q.head == head) (map (queued_of n room area) xs) ≡ option_map (queued_of n room area) (find (has_head head) xs)
  find_queued [] = refl
  find_queued (x ∷ xs) = go (has_head head x) (find_queued xs)
    where
      go : (b : Bool) → find (λ (q : Queued). q.head == head) (map (queued_of n room area) xs) ≡ option_map (queued_of n room area) (find (has_head head) xs)
          → (if b then Some (queued_of n room area x) else find (λ (q : Queued). q.head == head) (map (queued_of n room area) xs)) ≡ option_map (queued_of n room area) (if b then Some x else find (has_head head) xs)
      go true e = refl
      go false e = e

  pub find_used : (xs : List Note) → find (λ (u : Used). u.head == head) (map (used_of n room area) xs) ≡ option_map (used_of n room area) (find (has_head head) xs)
  find_used [] = refl
  find_used (x ∷ xs) = go (has_head head x) (find_used xs)
    where
      go : (b : Bool) → find (λ (u : Used). u.head == head) (map (used_of n room area) xs) ≡ option_map (used_of n room area) (find (has_head head) xs)
          → (if b then Some (used_of n room area x) else find (λ (u : Used). u.head == head) (map (used_of n room area) xs)) ≡ option_map (used_of n room area) (if b then Some x else find (has_head head) xs)
      go true e = refl
      go false e = e

  pub without_queued : (xs : List Note) → map (queued_of n room area) (without head xs) ≡ without_popped head (map (queued_of n room area) xs)
  without_queued [] = refl
  without_queued (x ∷ xs) = go (has_head head x) (without_queued xs)
    where
      go : (b : Bool) → map (queued_of n room area) (without head xs) ≡ without_popped head (map (queued_of n room area) xs)
          → map (queued_of n room area) (if b then xs else x ∷ without head xs) ≡ (if b then map (queued_of n room area) xs else queued_of n room area x ∷ without_popped head (map (queued_of n room area) xs))
      go true e = refl
      go false e = ap (λ qs. queued_of n room area x ∷ qs) e

  pub without_used_is : (xs : List Note) → map (used_of n room area) (without head xs) ≡ without_used head (map (used_of n room area) xs)
  without_used_is [] = refl
  without_used_is (x ∷ xs) = go (has_head head x) (without_used_is xs)
    where
      go : (b : Bool) → map (used_of n room area) (without head xs) ≡ without_used head (map (used_of n room area) xs)
          → map (used_of n room area) (if b then xs else x ∷ without head xs) ≡ (if b then map (used_of n room area) xs else used_of n room area x ∷ without_used head (map (used_of n room area) xs))
      go true e = refl
      go false e = ap (λ us. used_of n room area x ∷ us) e

  pub any_found : (xs : List Note) → list_any (λ (q : Queued). q.head == head) (map (queued_of n room area) xs) ≡ true → (x : Note) × (find (has_head head) xs ≡ Some x)
  any_found [] = λ e. absurd cc
  any_found (x ∷ xs) = go (has_head head x) (any_found xs)
    where
      go : (b : Bool) → (list_any (λ (q : Queued). q.head == head) (map (queued_of n room area) xs) ≡ true → (y : Note) × (find (has_head head) xs ≡ Some y))
          → b || list_any (λ (q : Queued). q.head == head) (map (queued_of n room area) xs) ≡ true → (y : Note) × ((if b then Some x else find (has_head head) xs) ≡ Some y)
      go true k e = (x, refl)
      go false k e = k e
