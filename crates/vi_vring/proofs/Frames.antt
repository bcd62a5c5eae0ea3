-- Bytes apart from those that are written stay, and those that are written read back.
use Rattle.std.proofs.Common.{◌≡◌, ◌≢◌, ℕ, ◌+◌, ◌-◌, ◌*◌, ◌<◌, ◌≤◌, ◌⊎◌, inl, inr, List, ◌++◌, length, take, drop, refl, ap, sym, ◌∙◌, arith}
use Rattle.std.proofs.Math.Nat.{mul-le-mul_left}
use Rattle.std.proofs.lemmas.Bool.{cases_order}
use Rattle.std.proofs.lemmas.List.{drop-take, length-append, length-take-le, length-drop}
use Rattle.std.proofs.lemmas.Slice.{take-put_mid_below, drop-put_mid, between-put_mid}
use Rattle.byteorder.specs.Numbers.{little_from-take}
use Rattle.vi_bytes.specs.Fields.{field}
use Rattle.vi_vring.specs.Writes.{written, bytes_at}

-- k bytes at one place and m at another have none in common
abbrev pub Apart : ℕ → ℕ → ℕ → ℕ → Type 0
Apart at k w m = (at + k ≤ w) ⊎ (w + m ≤ at)

pub length-written : (w : ℕ) (bs area : List ℕ) → w + length bs ≤ length area → length (written w bs area) ≡ length area
length-written w bs area le =
    let front = length-take-le w area (omega (arith, le)) in
    omega (arith, le, front, length-append (take w area) (bs ++ drop (length bs) (drop w area)), length-append bs (drop (length bs) (drop w area)), length-drop (length bs) (drop w area), length-drop w area)

pub bytes_apart : (at k w : ℕ) (bs area : List ℕ) → w + length bs ≤ length area → Apart at k w (length bs) → bytes_at at k (written w bs area) ≡ bytes_at at k area
bytes_apart at k w bs area le (inl below) =
    sym (drop-take at k (written w bs area)) ∙ ap (drop at) (take-put_mid_below w (length bs) area bs (at + k) below (omega (arith, le))) ∙ drop-take at k area
bytes_apart at k w bs area le (inr above) = ap (take k) (drop-put_mid w (length bs) area bs at above (omega (arith, le)) refl)

pub bytes_written : (w : ℕ) (bs area : List ℕ) → w + length bs ≤ length area → bytes_at w (length bs) (written w bs area) ≡ bs
bytes_written w bs area le =
    let n : w + length bs - w ≡ length bs = omega arith in
    ap (λ k. take k (drop w (written w bs area))) (sym n) ∙ between-put_mid w (length bs) area bs (w + length bs) (omega (arith, le)) (sym n)

-- a field is its bytes
pub field_same : (at k : ℕ) (a b : List ℕ) → bytes_at at k a ≡ bytes_at at k b → field at k a ≡ field at k b
field_same at k a b e = sym (little_from-take 0 k k (drop at a) (omega arith)) ∙ ap (field 0 k) e ∙ little_from-take 0 k k (drop at b) (omega arith)

-- places of one width at different multiples of it are apart
pub apart_by : (width base d e k m : ℕ) → d ≢ e → k ≤ width → m ≤ width → Apart (base + width * d) k (base + width * e) m
apart_by width base d e k m ne p q = go (cases_order d e)
  where
    up : (i j : ℕ) → i < j → width * i + width ≤ width * j
    up i j lt = let s : i + 1 ≤ j = omega (arith, lt) in let h : width * (i + 1) ≤ width * j = mul-le-mul_left width s in omega (arith, h)

    go : (d ≡ e) ⊎ ((d < e) ⊎ (e < d)) → Apart (base + width * d) k (base + width * e) m
    go (inl same) = absurd (ne same)
    go (inr (inl lt)) = inl (let h = up d e lt in omega (arith, h, p))
    go (inr (inr gt)) = inr (let h = up e d gt in omega (arith, h, q))

pub descriptors_apart : (d e : ℕ) → d ≢ e → Apart (16 * d) 16 (16 * e) 16
descriptors_apart d e ne = go (cases_order d e)
  where
    go : (d ≡ e) ⊎ ((d < e) ⊎ (e < d)) → Apart (16 * d) 16 (16 * e) 16
    go (inl same) = absurd (ne same)
    go (inr (inl lt)) = inl (omega (arith, lt))
    go (inr (inr gt)) = inr (omega (arith, gt))
