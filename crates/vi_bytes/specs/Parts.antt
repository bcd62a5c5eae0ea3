-- A transfer's parts: its addresses, page by page.
use Rattle.std.specs.Prelude.{◌≡◌, ℕ, ◌+◌, ◌-◌, ◌*◌, ◌/◌, ◌%◌, ◌^◌, ◌≤◌, ◌<◌, min}
use Rattle.vi_bytes.specs.declared.part.Part.{Part}

-- a transfer has 1 to 65536 bytes, and its last address is at most 2^64 - 1
pub record IsTransfer (iova len : ℕ) : Type 0 where
  pub some : 1 ≤ len
  pub most : len ≤ 65536
  pub ends : iova + len ≤ 2 ^ 64

-- the address is one of len bytes from iova on
abbrev pub IsIn : ℕ → ℕ → ℕ → Type 0
IsIn iova len address = (iova ≤ address) × (address < iova + len)

-- an address of the transfer lies in the page
abbrev pub Touches : ℕ → ℕ → ℕ → Type 0
Touches iova len page = (address : ℕ) × IsIn iova len address × (address / 4096 ≡ page)

-- the part's addresses are the transfer's addresses in the page, and there is one
pub record IsCut (iova len page : ℕ) (part : Part) : Type 0 where
  pub some : 1 ≤ part.len
  pub within : (address : ℕ) → IsIn part.iova part.len address → IsIn iova len address × (address / 4096 ≡ page)
  pub all : (address : ℕ) → IsIn iova len address → address / 4096 ≡ page → IsIn part.iova part.len address

-- how many pages the transfer touches: those from its first byte's to its last byte's
abbrev pub part_count : ℕ → ℕ → ℕ
part_count iova len = (iova % 4096 + len + 4095) / 4096

-- where the k-th part begins and ends, counted from the transfer's first byte
abbrev pub part_start : ℕ → ℕ → ℕ
part_start iova k = 4096 * (k - 1) - iova % 4096

abbrev pub part_end : ℕ → ℕ → ℕ → ℕ
part_end iova len k = min (4096 * k - iova % 4096) len

-- the k-th part, from 1
abbrev pub nth_part : ℕ → ℕ → ℕ → Part
nth_part iova len k = record { iova = iova + part_start iova k; len = part_end iova len k - part_start iova k }

-- the part has a byte, and all its bytes lie in this page
pub record IsInPage (page : ℕ) (part : Part) : Type 0 where
  pub some : 1 ≤ part.len
  pub first : part.iova / 4096 ≡ page
  pub last : (part.iova + (part.len - 1)) / 4096 ≡ page

-- the parts follow one another without a gap, from the transfer's first byte to its last, one a page
pub record PartsJoin (iova len : ℕ) : Type 0 where
  pub begins : (nth_part iova len 1).iova ≡ iova
  pub next : (k : ℕ) → 1 ≤ k → k < part_count iova len → (nth_part iova len (k + 1)).iova ≡ (nth_part iova len k).iova + (nth_part iova len k).len
  pub ends : (nth_part iova len (part_count iova len)).iova + (nth_part iova len (part_count iova len)).len ≡ iova + len
  pub pages : (k : ℕ) → 1 ≤ k → k ≤ part_count iova len → IsInPage (iova / 4096 + (k - 1)) (nth_part iova len k)
