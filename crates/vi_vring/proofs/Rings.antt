-- Indices modulo 2^16 and places modulo the size of the ring.
use Rattle.std.proofs.Common.{◌≡◌, ℕ, suc, ◌+◌, ◌*◌, ◌/◌, ◌%◌, ◌^◌, List, [], ◌∷◌, ap, sym, ◌∙◌, arith}
use Rattle.std.proofs.Math.Nat.{div-add-mod, mul-add-mod_self_left, mul_assoc}
use Rattle.vi_bytes.specs.Fields.{field}
use Rattle.vi_vring.specs.declared.note.Note.{Note}
use Rattle.vi_vring.specs.Device.{head_at}
use Rattle.vi_vring.specs.Tied.{Entries, Elements}

-- the next place depends on the place alone
pub suc_place : (n i j : ℕ) → i % n ≡ j % n → suc i % n ≡ suc j % n
suc_place n i j e =
    let a : suc i ≡ n * (i / n) + suc (i % n) = let d = div-add-mod i n in omega (arith, d) in
    let b : suc j ≡ n * (j / n) + suc (j % n) = let d = div-add-mod j n in omega (arith, d) in
    ap (λ x. x % n) a ∙ mul-add-mod_self_left n (i / n) (suc (i % n)) ∙ ap (λ x. suc x % n) e ∙ sym (ap (λ x. x % n) b ∙ mul-add-mod_self_left n (j / n) (suc (j % n)))

-- an index that wraps keeps its place
pub wrapped_place : (n i : ℕ) → 2 ^ 16 % n ≡ 0 → i % 2 ^ 16 % n ≡ i % n
wrapped_place n i z =
    let whole : 2 ^ 16 ≡ n * (2 ^ 16 / n) = let d = div-add-mod (2 ^ 16) n in omega (arith, d, z) in
    let split : i ≡ n * (2 ^ 16 / n * (i / 2 ^ 16)) + i % 2 ^ 16 =
    sym (div-add-mod i (2 ^ 16)) ∙ ap (λ x. x * (i / 2 ^ 16) + i % 2 ^ 16) whole ∙ ap (λ x. x + i % 2 ^ 16) (mul_assoc n (2 ^ 16 / n) (i / 2 ^ 16)) in
    sym (ap (λ x. x % n) split ∙ mul-add-mod_self_left n (2 ^ 16 / n * (i / 2 ^ 16)) (i % 2 ^ 16))

pub entry_place : (n i j : ℕ) (area : List ℕ) → i % n ≡ j % n → head_at n area i ≡ head_at n area j
entry_place n i j area e = ap (λ k. field (16 * n + 4 + 2 * k) 2 area) e

pub Entries_place : (n : ℕ) (area : List ℕ) (i j : ℕ) (xs : List Note) → i % n ≡ j % n → Entries n area i xs → Entries n area j xs
Entries_place n area i j [] e p = tt
Entries_place n area i j (x ∷ xs) e p = (sym (entry_place n i j area e) ∙ p.0, Entries_place n area (suc i) (suc j) xs (suc_place n i j e) p.1)

pub Elements_place : (n : ℕ) (area : List ℕ) (i j : ℕ) (xs : List Note) → i % n ≡ j % n → Elements n area i xs → Elements n area j xs
Elements_place n area i j [] e p = tt
Elements_place n area i j (x ∷ xs) e p = (
  sym (ap (λ k. field (18 * n + 12 + 8 * k) 4 area) e) ∙ p.0,
  sym (ap (λ k. field (18 * n + 12 + 8 * k + 4) 4 area) e) ∙ p.1,
  Elements_place n area (suc i) (suc j) xs (suc_place n i j e) p.2,
)
