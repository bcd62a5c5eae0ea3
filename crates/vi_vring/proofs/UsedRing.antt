-- The used ring after a chain is returned.
use Rattle.std.proofs.Common.{◌≡◌, ℕ, ◌+◌, ◌*◌, ◌%◌, ◌^◌, ◌<◌, ◌≤◌, inr, List, [], length, take, drop, refl, ap, sym, ◌∙◌, arith}
use Rattle.std.proofs.Math.Nat.{mod-lt}
use Rattle.std.proofs.lemmas.List.{take-take}
use Rattle.byteorder.specs.Endian.{little_bytes}
use Rattle.byteorder.specs.Numbers.{little_number-reads_back}
use Rattle.vi_bytes.specs.Fields.{field}
use Rattle.vi_vring.specs.Layout.{used_index_at, used_element_at}
use Rattle.vi_vring.specs.Writes.{written, bytes_at}
use Rattle.vi_vring.specs.Device.{used_element, used_index, used_after}
use Rattle.vi_vring.proofs.Frames.{Apart, bytes_apart, bytes_written, length-written}
use Rattle.vi_vring.proofs.Laid.{field_moved, field_in}
use Rattle.vi_vring.proofs.Keeps.{Same8}

-- an element ends before the buffers
pub element_end : (n i : ℕ) → 0 < n → used_element_at n i + 8 ≤ 26 * n + 12
element_end n i some = let m = mod-lt i some in omega (arith, m)

-- two areas with the same 8 bytes show the same element
pub same8 : (n i : ℕ) (a b : List ℕ) → bytes_at (used_element_at n i) 8 b ≡ bytes_at (used_element_at n i) 8 a → Same8 n a b i
same8 n i a b e =
    let at = used_element_at n i in
    record {
      id = field_moved at at 4 b a (sym (take-take 4 8 (drop at b) (omega arith)) ∙ ap (take 4) e ∙ take-take 4 8 (drop at a) (omega arith));
      len = field_in at 4 4 8 b (bytes_at at 8 a) (omega arith) e ∙ sym (field_in at 4 4 8 a (bytes_at at 8 a) (omega arith) refl);
    }

module _ (n id len : ℕ) (area : List ℕ) (some : 0 < n) (room : 26 * n + 14 ≤ length area) where
  i : ℕ
  i = used_index n area

  with_element : List ℕ
  with_element = written (used_element_at n i) (used_element id len) area

  inside : used_element_at n i + 8 ≤ length area
  unfolding i
  inside = let e = element_end n i some in omega (arith, e, room)

  length_with : length with_element ≡ length area
  unfolding with_element
  length_with = length-written (used_element_at n i) (used_element id len) area inside

  index_inside : used_index_at n + 2 ≤ length with_element
  index_inside = omega (arith, length_with, room)

  pub length-used_after : length (used_after n id len area) ≡ length area
  unfolding used_after with_element i
  length-used_after = length-written (used_index_at n) (little_bytes 2 ((i + 1) % 2 ^ 16)) with_element index_inside ∙ length_with

  pub used_keep_bytes : (at k : ℕ) → Apart at k (used_element_at n (used_index n area)) 8 → Apart at k (used_index_at n) 2 → bytes_at at k (used_after n id len area) ≡ bytes_at at k area
  unfolding used_after with_element i
  used_keep_bytes at k p q =
      bytes_apart at k (used_index_at n) (little_bytes 2 ((i + 1) % 2 ^ 16)) with_element index_inside q
      ∙ bytes_apart at k (used_element_at n i) (used_element id len) area inside p

  pub used_index_rises : used_index n (used_after n id len area) ≡ (used_index n area + 1) % 2 ^ 16
  unfolding used_after with_element i
  used_index_rises =
      let x = (i + 1) % 2 ^ 16 in
      let small : x < 2 ^ 16 = mod-lt (i + 1) (let p : 0 < 2 ^ 16 = omega arith in p) in
      field_moved (used_index_at n) 0 2 (used_after n id len area) (little_bytes 2 x) (bytes_written (used_index_at n) (little_bytes 2 x) with_element index_inside)
      ∙ little_number-reads_back 2 x [] small

  element_bytes : bytes_at (used_element_at n (used_index n area)) 8 (used_after n id len area) ≡ used_element id len
  unfolding used_after with_element i
  element_bytes =
      bytes_apart (used_element_at n i) 8 (used_index_at n) (little_bytes 2 ((i + 1) % 2 ^ 16)) with_element index_inside (inr (omega arith))
      ∙ bytes_written (used_element_at n i) (used_element id len) area inside

  pub element_id : id < 2 ^ 32 → field (used_element_at n (used_index n area)) 4 (used_after n id len area) ≡ id
  element_id small =
      let at = used_element_at n (used_index n area) in
      field_moved at 0 4 (used_after n id len area) (used_element id len) (sym (take-take 4 8 (drop at (used_after n id len area)) (omega arith)) ∙ ap (take 4) element_bytes)
      ∙ little_number-reads_back 4 id (little_bytes 4 len) small

  pub element_len : len < 2 ^ 32 → field (used_element_at n (used_index n area) + 4) 4 (used_after n id len area) ≡ len
  element_len small =
      let at = used_element_at n (used_index n area) in
      field_in at 4 4 8 (used_after n id len area) (used_element id len) (omega arith) element_bytes ∙ little_number-reads_back 4 len [] small
