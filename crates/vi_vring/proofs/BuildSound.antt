-- A new ring is sound.
use Rattle.std.proofs.Common.{◌≡◌, ℕ, zero, suc, ◌%◌, ◌^◌, ◌≤◌, inl, inr, false, List, get_or, replicate, max, refl, ap, ◌∙◌, arith}
use Rattle.std.proofs.lemmas.List.{length-replicate, drop-replicate}
use Rattle.byteorder.specs.Endian.{little_from}
use Rattle.vi_bytes.specs.Fields.{field}
use Rattle.vi_vring.specs.Layout.{available_index_at, used_index_at, area_length}
use Rattle.vi_vring.specs.Moves.{IsRingSize}
use Rattle.vi_vring.specs.Notes.{no_notes}
use Rattle.vi_vring.specs.Tied.{IsSound}
use Rattle.vi_vring.proofs.Wholes.{whole_none}

abbrev zeros : ℕ → List ℕ
zeros m = replicate m 0

zero_byte : (m i : ℕ) → get_or (zeros m) i 0 ≡ 0
zero_byte zero i = refl
zero_byte (suc m) zero = refl
zero_byte (suc m) (suc i) = zero_byte m i

zero_number : (i k m : ℕ) → little_from i k (zeros m) ≡ 0
zero_number i zero m = refl
zero_number i (suc k) m = omega (arith, zero_byte m i, zero_number (suc i) k m)

zero_field : (at k m : ℕ) → field at k (zeros m) ≡ 0
zero_field at k m = ap (little_from 0 k) (drop-replicate at m 0) ∙ zero_number 0 k _

record IsSize (n : ℕ) : Type 0 where
  some : 16 ≤ n
  most : n ≤ 256
  divides : 2 ^ 16 % n ≡ 0

size_is : (n : ℕ) → IsRingSize n → IsSize n
size_is n h = record { some = some n h; most = most n h; divides = divides n h }
  where
    some : (n : ℕ) → IsRingSize n → 16 ≤ n
    some n h = grind arith

    most : (n : ℕ) → IsRingSize n → n ≤ 256
    most n h = grind arith

    at : (n k : ℕ) → 2 ^ 16 % k ≡ 0 → n ≡ k → 2 ^ 16 % n ≡ 0
    at n k z e = ap (λ x. 2 ^ 16 % x) e ∙ z

    divides : (n : ℕ) → IsRingSize n → 2 ^ 16 % n ≡ 0
    divides n (inl e) = at n 16 refl e
    divides n (inr (inl e)) = at n 32 refl e
    divides n (inr (inr (inl e))) = at n 64 refl e
    divides n (inr (inr (inr (inl e)))) = at n 128 refl e
    divides n (inr (inr (inr (inr e)))) = at n 256 refl e

pub build_sound : (n reading writing : ℕ) → IsRingSize n → reading ≤ 1024 → writing ≤ 1024
    → IsSound n reading writing (max reading writing) (replicate (area_length n (max reading writing)) 0) 0 0 false (no_notes n)
build_sound n reading writing h r w =
    let s = size_is n h in
    record {
      some = s.some;
      most = s.most;
      divides = s.divides;
      table = refl;
      bytes = length-replicate (area_length n (max reading writing)) 0;
      small = omega (arith, r, w);
      readable = omega arith;
      writable = omega arith;
      whole = whole_none n;
      proper = record { available = tt; popped = tt; unread = tt; uncollected = tt };
      tied = λ e. record {
        available_index = zero_field (available_index_at n) 2 (area_length n (max reading writing));
        entries = tt;
        used_index = zero_field (used_index_at n) 2 (area_length n (max reading writing));
        elements = tt;
        available = tt;
        popped = tt;
      };
    }
