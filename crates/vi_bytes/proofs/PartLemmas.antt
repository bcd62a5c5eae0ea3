-- The pages of a transfer, counted from its first byte's page.
use Rattle.std.proofs.Common.{◌≡◌, ℕ, ◌+◌, ◌-◌, ◌*◌, ◌/◌, ◌^◌, ◌≤◌, ◌<◌, max, arith}
use Rattle.vi_bytes.specs.Parts.{IsTransfer, IsIn, Touches, IsCut, IsInPage, PartsJoin, part_count, part_start, part_end, nth_part}

-- an address of the transfer in the k-th page after its first byte's: that page's lowest
pub Touches-below_count : (iova len k : ℕ) → 1 ≤ len → k < part_count iova len → Touches iova len (iova / 4096 + k)
Touches-below_count iova len k some below =
    let address = max iova (4096 * (iova / 4096 + k)) in
    let inside : IsIn iova len address = (omega arith, omega arith) in
    let page : address / 4096 ≡ iova / 4096 + k = omega arith in
    (address, inside, page)

-- no later page than the last byte's is touched
pub below_count-Touches : (iova len k : ℕ) → Touches iova len (iova / 4096 + k) → k < part_count iova len
below_count-Touches iova len k touches =
    let address = touches.0 in
    let from : iova ≤ address = touches.1.0 in
    let to : address < iova + len = touches.1.1 in
    let page : address / 4096 ≡ iova / 4096 + k = touches.2 in
    omega arith

-- a transfer has 1 to 17 parts
pub one-le-part_count : (iova len : ℕ) → 1 ≤ len → 1 ≤ part_count iova len
one-le-part_count iova len some = omega arith

pub part_count-le : (iova len : ℕ) → len ≤ 65536 → part_count iova len ≤ 17
part_count-le iova len most = omega arith

-- a part has 1 to 4096 bytes
pub one-le-nth_part : (iova len k : ℕ) → 1 ≤ len → 1 ≤ k → k ≤ part_count iova len → 1 ≤ (nth_part iova len k).len
one-le-nth_part iova len k some first last = omega arith

pub nth_part-le : (iova len k : ℕ) → 1 ≤ k → (nth_part iova len k).len ≤ 4096
nth_part-le iova len k first = omega arith

-- the bytes of a part are bytes of the transfer
pub le-nth_part : (iova len k : ℕ) → iova ≤ (nth_part iova len k).iova
le-nth_part iova len k = omega arith

pub nth_part-end : (iova len k : ℕ) → 1 ≤ k → k ≤ part_count iova len → (nth_part iova len k).iova + (nth_part iova len k).len ≤ iova + len
nth_part-end iova len k first last = omega arith

-- the part of a number lies in the page of that number, counted from the first byte's
pub IsInPage-nth_part : (iova len k : ℕ) → 1 ≤ len → 1 ≤ k → k ≤ part_count iova len → IsInPage (iova / 4096 + (k - 1)) (nth_part iova len k)
IsInPage-nth_part iova len k some first last = record { some = omega arith; first = omega arith; last = omega arith }

-- the parts are the transfer
pub PartsJoin-nth_part : (iova len : ℕ) → 1 ≤ len → PartsJoin iova len
PartsJoin-nth_part iova len some = record {
  begins = omega arith;
  next = λ k first last. omega arith;
  ends = omega arith;
  pages = λ k first last. IsInPage-nth_part iova len k some first last;
}

-- a transfer's pages are below 2^52
pub page-lt : (iova len address : ℕ) → iova + len ≤ 2 ^ 64 → IsIn iova len address → address / 4096 < 2 ^ 52
page-lt iova len address ends inside =
    let to : address < iova + len = inside.1 in
    omega arith

-- a part is a transfer of its own, with itself as its one part
pub IsTransfer-nth_part : (iova len k : ℕ) → IsTransfer iova len → 1 ≤ k → k ≤ part_count iova len → IsTransfer (nth_part iova len k).iova (nth_part iova len k).len
IsTransfer-nth_part iova len k transfer first last = record { some = omega arith; most = omega arith; ends = omega arith }

pub part_count-nth_part : (iova len k : ℕ) → 1 ≤ len → 1 ≤ k → k ≤ part_count iova len → part_count (nth_part iova len k).iova (nth_part iova len k).len ≡ 1
part_count-nth_part iova len k some first last = omega arith

-- its addresses are the transfer's in that page
pub IsCut-nth_part : (iova len k : ℕ) → 1 ≤ len → 1 ≤ k → k ≤ part_count iova len → IsCut iova len (iova / 4096 + (k - 1)) (nth_part iova len k)
IsCut-nth_part iova len k some first last = record {
  some = omega arith;
  within = λ address inside.
      let from : iova + part_start iova k ≤ address = inside.0 in
      let to : address < iova + part_start iova k + (part_end iova len k - part_start iova k) = inside.1 in
      ((omega arith, omega arith), omega arith);
  all = λ address inside page.
      let from : iova ≤ address = inside.0 in
      let to : address < iova + len = inside.1 in
      (omega arith, omega arith);
}
