-- Multiples of a granule.
use Rattle.std.proofs.Common.{◌≡◌, ℕ, ◌+◌, ◌-◌, ◌*◌, ◌^◌, ◌/◌, ◌%◌, ◌≤◌, ◌<◌, inl, inr, refl, arith}
use Rattle.std.proofs.Math.Nat.{div-add-mod, mul-add, mul-le-mul_left, mod-lt}
use Rattle.std.proofs.lemmas.Bool.{cases_lt}
use Rattle.vi_bytes.specs.Spans.{IsMultiple}
use Rattle.std.specs.Prelude.{Option, Some, None, IfSome, IfNone, SomeIff}
use Rattle.vi_iova.specs.Walks.{IsNext}

-- the whole granules up to an address, and one more
pub IsNext-whole : (granule address n : ℕ) → 0 < granule → n ≡ address - address % granule + granule → IsNext granule address n
IsNext-whole granule address n some is =
    let q = address / granule in
    let parts : granule * q + address % granule ≡ address = div-add-mod address granule in
    let rest : address % granule < granule = mod-lt address some in
    let one_more : granule * (q + 1) ≡ granule * q + granule = omega (arith, mul-add granule q 1) in
    let whole : n ≡ granule * (q + 1) = omega arith in
    record {
      whole = (q + 1, whole);
      above = omega arith;
      lowest = λ m multiple above. elim (cases_lt multiple.0 (q + 1)) [
        | inl below ↦ (
            let low : multiple.0 ≤ q = omega arith in
            let small : granule * multiple.0 ≤ granule * q = mul-le-mul_left granule low in
            let is : m ≡ granule * multiple.0 = multiple.1 in
            absurd (omega arith))
        | inr from ↦ (
            let large : granule * (q + 1) ≤ granule * multiple.0 = mul-le-mul_left granule from in
            let is : m ≡ granule * multiple.0 = multiple.1 in
            omega arith)
      ];
    }

-- and so where the sum is checked
pub next_checked : (granule address : ℕ) (r : Option ℕ) → 0 < granule → SomeIff r (address - address % granule + granule < 2 ^ 64) (address - address % granule + granule) → IfSome r (IsNext granule address)
next_checked granule address None some sum = tt
next_checked granule address (Some n) some sum = IsNext-whole granule address n some sum.1

pub none_checked : (granule address : ℕ) (r : Option ℕ) → 0 < granule → SomeIff r (address - address % granule + granule < 2 ^ 64) (address - address % granule + granule) → IfNone r ((n : ℕ) → IsMultiple granule n → address < n → 2 ^ 64 ≤ n)
none_checked granule address (Some n) some sum = tt
none_checked granule address None some sum = λ n whole above.
    let least : address - address % granule + granule ≤ n = (IsNext-whole granule address (address - address % granule + granule) some refl).lowest n whole above in
    elim (cases_lt n (2 ^ 64)) [ inl below ↦ absurd (sum (omega arith)) | inr from ↦ from ]
